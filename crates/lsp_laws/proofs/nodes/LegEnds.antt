-- What a leg's neighbours tell of its place.
use Rattle.std.proofs.{Common.{◌≡◌, ℕ, true, false, not, nat_eq, List, refl, sym, ap, subst, ◌∙◌, arith}, lemmas.Bool.not-true}
use Rattle.std.specs.Prelude.{Option, Some, None, is_some}
use Rattle.ason_base.specs.{declared.ids.Fibre.Fibre, declared.ids.LinkId.LinkId, declared.ids.Lsp.Lsp, declared.ids.NodeId.NodeId, declared.tables.Leg.Leg}
use Rattle.mesh_rules.specs.{declared.neighbours.Neighbour.Neighbour, Legs.{find_leg, is_over, leg_of, neighbour_over, previous}}
use Rattle.mesh_nodes.proofs.LegList.{found-lsp}
use Rattle.lsp_laws.proofs.{nodes.Facts.LegFacts, nodes.ConnectedLegs.{alone, beside}}

-- a leg with a previous node is away from its ingress
pub has_previous-away : (n next : ℕ) (g : Leg) (h : Neighbour) → LegFacts n next g → previous g ≡ Some h →
    nat_eq g.lsp.ingress.0 n ≡ false
has_previous-away n next g h facts is =
    let node : is_some g.prev ≡ true = ap is_some (beside g.prev g.in_fibre h is).node in
    not-true (nat_eq g.lsp.ingress.0 n) (sym facts.prev ∙ node)

-- a leg without one is at its ingress
pub no_previous-here : (n next : ℕ) (g : Leg) → LegFacts n next g → previous g ≡ None → g.lsp.ingress.0 ≡ n
no_previous-here n next g facts none =
    let no : is_some g.prev ≡ false = ap is_some (alone g.prev g.in_fibre facts.in_fibre none) in
    let test : not (nat_eq g.lsp.ingress.0 n) ≡ false = sym facts.prev ∙ no in
    grind arith

pub over-some : (o : Option NodeId) (f : Option Fibre) (n : NodeId) (k : LinkId) →
    is_over (neighbour_over o f) n k ≡ true → is_some o ≡ true
over-some None f n k e = absurd (cc e)
over-some (Some m) f n k e = refl

-- a leg to which a message comes from its previous node is away from its ingress
pub previous-away : (n next : ℕ) (g : Leg) (u : NodeId) (k : LinkId) → LegFacts n next g →
    is_over (previous g) u k ≡ true → nat_eq g.lsp.ingress.0 n ≡ false
previous-away n next g u k facts over =
    not-true (nat_eq g.lsp.ingress.0 n) (sym facts.prev ∙ over-some g.prev g.in_fibre u k over)

-- the leg of an LSP is found by its own
pub leg_of-own : (o : Option Lsp) (legs : List Leg) (w : Leg) → leg_of o legs ≡ Some w →
    (o ≡ Some w.lsp) × (find_leg w.lsp legs ≡ Some w)
leg_of-own None legs w e = absurd (cc e)
leg_of-own (Some l) legs w e =
    let is = sym (found-lsp l legs w e) in (ap Some is, subst (λ k. find_leg k legs ≡ Some w) is e)
