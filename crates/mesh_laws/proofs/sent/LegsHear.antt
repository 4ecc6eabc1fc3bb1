-- Each leg that a rule makes sends no more than the leg did before, or than the message that was taken gives it.
use Rattle.std.proofs.{Common.{◌≡◌, ℕ, true, nat_eq, List, refl, sym, ap, ◌∙◌, arith, inl, inr}, lemmas.Bool.{or_cases, or_right}}
use Rattle.std.specs.Prelude.{◌⊎◌, Option, Some, None}
use Rattle.ason_base.specs.{declared.ids.Fibre.Fibre, declared.ids.Lsp.Lsp, declared.ids.NodeId.NodeId, declared.ids.LinkId.LinkId, declared.network.LinkSpec.LinkSpec, declared.network.TeRow.TeRow, declared.risks.Risk.Risk, declared.steps.Step.Step, declared.messages.Msg.Msg, declared.messages.Msg.TheVariants.{Path, Resv}, declared.messages.PathRole.PathRole, declared.tables.Leg.Leg}
use Rattle.ason_base.proofs.Numbers.{self-number}
use Rattle.mesh_rules.specs.{LocalNodes.{LocalNode, fibre_in}, FirstLegs.{NewLsp, first_leg}, Legs.{connected, is_at, reverse, reverse_of, sends_label}, Paths.{PathRequest, egress_leg, transit_leg}}
use Rattle.mesh_nodes.proofs.LabelPlaces.{at-is, none-at}
use Rattle.mesh_laws.specs.HeardLaw.{brings}

never-at : (o : Option Fibre) (f : Fibre) (x : ℕ) → is_at o None f x ≡ true → ⊥
never-at o f x e = let none = none-at o f x in cc (none, e)

-- a leg without a label out and a back label out sends nothing
bare-sends : (o i : Option Fibre) (f : Fibre) (x : ℕ) →
    (is_at o None f x ≡ true) ⊎ (is_at (reverse_of i) None f x ≡ true) → ⊥
bare-sends o i f x (inl e) = never-at o f x e
bare-sends o i f x (inr e) = never-at (reverse_of i) f x e

-- A leg that begins here sends nothing.
pub first-sends : (p : LocalNode) (rows : List TeRow) (n : NewLsp) (f : Fibre) (x : ℕ) →
    sends_label f x (first_leg p rows n) ≡ true → ⊥
first-sends p rows n f x h =
    bare-sends (first_leg p rows n).out_fibre None f x (or_cases (is_at (first_leg p rows n).out_fibre None f x) _ h)

link-is : (a b : Fibre) → Some a ≡ Some b → a.link.0 ≡ b.link.0
link-is a b e = let is : a ≡ b = cc e in ap (λ f. f.link.0) is

-- What a Path brings is its label for the way back, on the fibre that goes back over its link.
back-brings : (f : Fibre) (x : ℕ) (enter : Fibre) (up : Option ℕ) (k : LinkId) (l : Lsp) (e : NodeId)
    (route : List Step) (set : List ℕ) (r : PathRole) → enter.link.0 ≡ k.0 →
    is_at (reverse_of (Some enter)) up f x ≡ true → brings f x (Path l e k route set up r) ≡ true
back-brings f x enter up k l e route set r over h =
    let at_f = at-is (reverse_of (Some enter)) up f x h in
    let link : enter.link.0 ≡ f.link.0 = link-is (reverse enter) f at_f.0 in
    let test : nat_eq k.0 f.link.0 ≡ true = grind arith in rw (test, at_f.1) (self-number x)

-- A leg that a Path makes, at the egress or on the way, sends back the label that the Path brings.
module _ (p : LocalNode) (m : PathRequest) (link : LinkSpec) (risks : List Risk) (offered : List ℕ) (f : Fibre) (x : ℕ)
    (over : link.id.0 ≡ m.arrival.link.0) where
  abbrev path : Msg
  path = Path m.arrival.lsp m.arrival.egress m.arrival.link m.route m.set m.upstream m.role

  made-sends : (o : Option Fibre) →
      (is_at o None f x ≡ true) ⊎ (is_at (reverse_of (Some (fibre_in link p.id))) m.upstream f x ≡ true) →
      brings f x path ≡ true
  made-sends o (inl on) = absurd (never-at o f x on)
  made-sends o (inr back) =
      back-brings f x (fibre_in link p.id) m.upstream m.arrival.link m.arrival.lsp m.arrival.egress m.route m.set m.role
      over back

  pub egress-sends : (y : ℕ) → sends_label f x (egress_leg p m link risks offered y) ≡ true → brings f x path ≡ true
  egress-sends y h =
      let leg : Leg = egress_leg p m link risks offered y in
      made-sends leg.out_fibre (or_cases (is_at leg.out_fibre None f x) _ h)

  pub transit-sends : (out : LinkSpec) (route : List Step) (back : Option ℕ) →
      sends_label f x (transit_leg p m link risks out route offered back) ≡ true → brings f x path ≡ true
  transit-sends out route back h =
      let leg : Leg = transit_leg p m link risks out route offered back in
      made-sends leg.out_fibre (or_cases (is_at leg.out_fibre None f x) _ h)

-- A leg whose Resv came sends its label, and what it sent before.
pub connected-sends : (g : Leg) (label : Option ℕ) (y : ℕ) (f : Fibre) (x : ℕ) (l : Lsp) (e : NodeId) (k : LinkId)
    (out : Fibre) → g.out_fibre ≡ Some out → out.link.0 ≡ k.0 → sends_label f x (connected g label y) ≡ true →
    (brings f x (Resv l e k y) ≡ true) ⊎ (sends_label f x g ≡ true)
connected-sends g label y f x l e k out leaves over h =
    go (or_cases (is_at g.out_fibre (Some y) f x) _ h)
  where
    go : (is_at g.out_fibre (Some y) f x ≡ true) ⊎ (is_at (reverse_of g.in_fibre) g.back_out f x ≡ true) →
        (brings f x (Resv l e k y) ≡ true) ⊎ (sends_label f x g ≡ true)
    go (inl on) =
        let at_f = at-is g.out_fibre (Some y) f x on in
        let link : out.link.0 ≡ f.link.0 = link-is out f (sym leaves ∙ at_f.0) in
        let number : y ≡ x = (let is = at_f.1 in cc is) in
        let test : nat_eq k.0 f.link.0 ≡ true = grind arith in
        let same_label : nat_eq y x ≡ true = grind arith in inl (rw (test, same_label) refl)
    go (inr on) = inr (or_right (is_at g.out_fibre g.out_label f x) _ on)
