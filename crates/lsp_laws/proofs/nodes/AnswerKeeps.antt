-- A Resv, a PathErr and a PathTear keep the facts of a node.
use Rattle.std.proofs.Common.{◌≡◌, ℕ, true, false, not, nat_eq, refl, sym, subst}
use Rattle.std.specs.Prelude.{◌&&◌, Option, Some, None, is_some}
use Rattle.ason_base.specs.{Labels.has, declared.ids.Lsp.Lsp, declared.ids.NodeId.NodeId, declared.calls.Phase.TheVariants.Asked, declared.tables.Leg.Leg, declared.tables.Out.Out}
use Rattle.ason_base.proofs.Bools.{and-left, and-right}
use Rattle.mesh_rules.specs.{declared.arrivals.Arrival.Arrival, declared.neighbours.Neighbour.Neighbour, LocalNodes.LocalNode, Legs.{find_leg, is_asked, is_closing, closed, connected, previous, following, is_node, is_over, label_through}, State.NodeState, Resvs.{is_expected, labels_left, passed_back, answered, resv_with}, PathErrs.{PathFailure, err_passed, removed, path_err_with}, Tears.{torn, tear_with}}
use Rattle.mesh_nodes.proofs.{Cases.if_cases, ChosenLabels.through-has, LegList.found-lsp, Phases.asked-is, FitLists.beside-node}
use Rattle.lsp_laws.proofs.{nodes.Facts.NodeFacts, nodes.ConnectedLegs.{beside, alone_fibre, connected-stands, ingress-stands, ingress-takes}, nodes.ActivationKeeps.{keeps-contended, keeps-resv_again}, nodes.CallStepKeeps.{keeps-connected_here, keeps-refused_here}, nodes.ClosedLegs.closed-stands, nodes.LegEnds.{has_previous-away, no_previous-here, over-some, previous-away}, nodes.Parts.{call_part, leg_part, unnamed-away, unnamed-torn, keeps-leg, keeps-gone}, nodes.PathKeeps.KeepsFacts}

-- Resv

keeps-passed_back : (p : LocalNode) (s : NodeState) (a : Arrival) (g : Leg) (h : Neighbour) (x : ℕ) (o : Option ℕ) →
    NodeFacts p.id.0 s → find_leg g.lsp s.legs ≡ Some g → g.phase ≡ Asked → previous g ≡ Some h →
    is_some g.next ≡ true → has g.sent x ≡ true → label_through p (labels_left p s g h) x ≡ o →
    KeepsFacts p s (passed_back p a g h x o)
keeps-passed_back p s a g h x None facts here asked is goes_on sent looked =
    keeps-leg p.id.0 s (closed g) (has_previous-away p.id.0 s.lsp g h (facts.leg g.lsp g here) is)
    (closed-stands p.id.0 s.lsp s.legs g (leg_part p.id.0 s facts) here goes_on) facts
keeps-passed_back p s a g h x (Some y) facts here asked is goes_on sent looked =
    keeps-leg p.id.0 s (connected g (Some y) x) (has_previous-away p.id.0 s.lsp g h (facts.leg g.lsp g here) is)
    (connected-stands p s.lsp s.legs (leg_part p.id.0 s facts) g here asked goes_on h x y
    (beside g.prev g.in_fibre h is).fibre sent (through-has p (labels_left p s g h) x y looked)) facts

keeps-answered : (p : LocalNode) (s : NodeState) (a : Arrival) (x : ℕ) (g : Leg) (o : Option Neighbour) →
    NodeFacts p.id.0 s → find_leg g.lsp s.legs ≡ Some g → g.phase ≡ Asked → is_some g.next ≡ true →
    has g.sent x ≡ true → previous g ≡ o →
    KeepsFacts p s (answered p s a x g o)
keeps-answered p s a x g None facts here asked goes_on sent is =
    let mine = facts.leg g.lsp g here in
    keeps-connected_here p s g facts here asked (no_previous-here p.id.0 s.lsp g mine is) x
    (ingress-stands p s.lsp s.legs (leg_part p.id.0 s facts) g here asked goes_on x
    (alone_fibre g.prev g.in_fibre mine.in_fibre is) sent)
    (ingress-takes p s.lsp s.legs (leg_part p.id.0 s facts) g here asked goes_on x)
keeps-answered p s a x g (Some h) facts here asked goes_on sent is =
    keeps-passed_back p s a g h x (label_through p (labels_left p s g h) x)
    facts here asked is goes_on sent refl

pub keeps-on_resv : (p : LocalNode) (s : NodeState) (a : Arrival) (x : ℕ) (o : Option Leg) → NodeFacts p.id.0 s →
    find_leg a.lsp s.legs ≡ o → KeepsFacts p s (resv_with p s a x o)
keeps-on_resv p s a x None facts is = facts
keeps-on_resv p s a x (Some g) facts is =
    if_cases (KeepsFacts p s) (is_expected a x g) _ _
    (λ e.
    let here : find_leg g.lsp s.legs ≡ Some g =
    subst (λ l. find_leg l s.legs ≡ Some g) (sym (found-lsp a.lsp s.legs g is)) is in
    let test : (is_over (following g) a.from a.link && has g.sent x) ≡ true = and-right (is_asked g.phase) _ e in
    keeps-answered p s a x g (previous g) facts here (asked-is g.phase (and-left (is_asked g.phase) _ e))
    (over-some g.next g.out_fibre a.from a.link (and-left _ _ test))
    (and-right (is_over (following g) a.from a.link) _ test) refl)
    (λ e. keeps-resv_again p s a x g facts
    (subst (λ l. find_leg l s.legs ≡ Some g) (sym (found-lsp a.lsp s.legs g is)) is))

-- PathErr

keeps-err_passed : (p : LocalNode) (s : NodeState) (g : Leg) (e : PathFailure) (o : Option Neighbour) →
    NodeFacts p.id.0 s →
    find_leg g.lsp s.legs ≡ Some g → g.phase ≡ Asked → previous g ≡ o → KeepsFacts p s (err_passed s g e o)
keeps-err_passed p s g e None facts here asked is =
    keeps-refused_here p s g facts here asked (no_previous-here p.id.0 s.lsp g (facts.leg g.lsp g here) is) e.code
keeps-err_passed p s g e (Some h) facts here asked is =
    keeps-gone p.id.0 s g.lsp
    (unnamed-away p.id.0 s.lsp s.legs s.calls g.lsp (has_previous-away p.id.0 s.lsp g h (facts.leg g.lsp g here) is)
    (call_part p.id.0 s facts))
    facts

keeps-removed : (p : LocalNode) (s : NodeState) (g : Leg) (e : PathFailure) → NodeFacts p.id.0 s →
    find_leg g.lsp s.legs ≡ Some g →
    KeepsFacts p s (removed s g e)
keeps-removed p s g e facts here =
    if_cases (KeepsFacts p s) (is_asked g.phase) _ _
    (λ h. keeps-err_passed p s g e (previous g) facts here (asked-is g.phase h) refl) (λ h.
    if_cases (KeepsFacts p s) (is_closing g.phase) _ _
    (λ f.
    keeps-gone p.id.0 s g.lsp (unnamed-torn p.id.0 s.lsp s.legs s.calls g.lsp g here f (call_part p.id.0 s facts))
    facts)
    (λ f. facts))

pub keeps-on_path_err : (p : LocalNode) (s : NodeState) (u : NodeId) (l : Lsp) (e : PathFailure) (o : Option Leg) →
    NodeFacts p.id.0 s →
    find_leg l s.legs ≡ o → KeepsFacts p s (path_err_with s u e o)
keeps-on_path_err p s u l e None facts is = facts
keeps-on_path_err p s u l e (Some g) facts is =
    let here : find_leg g.lsp s.legs ≡ Some g =
    subst (λ k. find_leg k s.legs ≡ Some g) (sym (found-lsp l s.legs g is)) is in
    if_cases (KeepsFacts p s) (is_node (following g) u) _ _
    (λ h. if_cases (KeepsFacts p s) e.removed _ _ (λ r. keeps-removed p s g e facts here)
    (λ r. keeps-contended p s g e.msg facts here))
    (λ h. facts)

-- PathTear

keeps-torn : (p : LocalNode) (s : NodeState) (g : Leg) (answer : Out) (o : Option Neighbour) → NodeFacts p.id.0 s →
    find_leg g.lsp s.legs ≡ Some g → nat_eq g.lsp.ingress.0 p.id.0 ≡ false → following g ≡ o →
    KeepsFacts p s (torn g answer o)
keeps-torn p s g answer None facts here away is =
    keeps-gone p.id.0 s g.lsp (unnamed-away p.id.0 s.lsp s.legs s.calls g.lsp away (call_part p.id.0 s facts)) facts
keeps-torn p s g answer (Some h) facts here away is =
    keeps-leg p.id.0 s (closed g) away
    (closed-stands p.id.0 s.lsp s.legs g (leg_part p.id.0 s facts) here (beside-node g.next g.out_fibre h is)) facts

pub keeps-on_tear : (p : LocalNode) (s : NodeState) (a : Arrival) (o : Option Leg) → NodeFacts p.id.0 s →
    find_leg a.lsp s.legs ≡ o → KeepsFacts p s (tear_with p a o)
keeps-on_tear p s a None facts is = facts
keeps-on_tear p s a (Some g) facts is =
    let here : find_leg g.lsp s.legs ≡ Some g =
    subst (λ l. find_leg l s.legs ≡ Some g) (sym (found-lsp a.lsp s.legs g is)) is in
    if_cases (KeepsFacts p s) (not (is_closing g.phase) && is_over (previous g) a.from a.link) _ _
    (λ e. keeps-torn p s g _ (following g) facts here
    (previous-away p.id.0 s.lsp g a.from a.link (facts.leg g.lsp g here)
    (and-right (not (is_closing g.phase)) _ e)) refl)
    (λ e. facts)
