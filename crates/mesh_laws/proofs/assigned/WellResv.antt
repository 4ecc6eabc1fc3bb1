-- What a node makes of a Resv of a new working LSP, each offered label of which is free: it finds one, and the LSP is connected.
use Rattle.std.proofs.Common.{◌≡◌, ℕ, Bool, true, false, List, [], refl, sym, ap, subst, inl, inr}
use Rattle.std.specs.Prelude.{◌⊎◌, Option, Some, None}
use Rattle.ason_base.specs.{Labels.{has, meet}, Network.Network, declared.calls.Phase.Phase, declared.calls.Phase.TheVariants.{Asked, Live}, declared.calls.Role.Role, declared.ids.Fibre.Fibre, declared.ids.Lsp.Lsp, declared.ids.NodeId.NodeId, declared.steps.Step.Step, declared.tables.Leg.Leg}
use Rattle.ason_base.specs.declared.calls.Role.TheVariants as role
use Rattle.ason_base.proofs.Bools.{and-left, and-right}
use Rattle.mesh_rules.specs.{declared.arrivals.Arrival.Arrival, declared.neighbours.Neighbour.Neighbour, ActivationAnswers.is_confirmed, Legs.{connected, following, is_armed, is_asked, is_over, label_through, previous, reserved, usable}, LocalNodes.{local_node, own_link}, Machine.Mesh, Paths.is_none, Resvs.{is_expected, labels_left, passed_back}}
use Rattle.mesh_rules.proofs.AnswerParts.{beside}
use Rattle.mesh_nodes.proofs.{Cases.if_cases, LegList.found-lsp, Phases.asked-is}
use Rattle.lsp_laws.specs.HopLaw.{leg_at}
use Rattle.lsp_laws.proofs.{hops.InParts.{leg_answers, leg_of_resv}, nodes.Facts.{FitsPhase, MeshFacts}}
use Rattle.mesh_laws.specs.{CauseLaw.KeepsOff, RestedLaw.{Arrives, Onward, Returning}}
use Rattle.mesh_laws.proofs.{assigned.Kept.kept-then, assigned.Only.OnlyOf, assigned.Well.{NoLeg, Offers, OneLeg, WellAnswer, WellLeg}, causes.KeptOff.offered-kept_off}

never-armed : (q : Phase) → (q ≡ Asked) ⊎ (q ≡ Live) → is_armed q ≡ false
never-armed q (inl is) = rw is refl
never-armed q (inr is) = rw is refl

reserved-live : (r : Role) → r ≡ role.Work → reserved r ≡ Live
reserved-live r is = rw is refl

asked-fits : (q : Phase) (g : Leg) → q ≡ Asked → FitsPhase q g → g.in_label ≡ None
asked-fits Asked g e fits = fits.0
asked-fits _ g e fits = absurd (cc e)

module _ (t : Network) (s : Mesh) (l : Lsp) (route : List Step) (x : ℕ → ℕ) (now : Mesh) (facts : MeshFacts t now)
    (only : OnlyOf s l now) (d : NodeId) (g : Leg) (here : leg_at now l d ≡ Some g) (well : WellLeg t s d g) where
  own : g.lsp ≡ l
  own = found-lsp l (now.nodes d.0).legs g here

  well-still : WellAnswer t s l route x d
      (record { legs = []; calls = []; numbers = None; down = None; rows = []; sent = [] })
  well-still = record { leg = NoLeg; sent = tt }

  -- the leg is connected
  well-live : (y : Option ℕ) (z : ℕ) → WellLeg t s d (connected g y z)
  well-live y z = record {
    work = well.work;
    phase = inr (reserved-live g.role well.work);
    one_way = well.one_way;
    offers = λ asked. absurd (let live = reserved-live g.role well.work in cc (asked, live));
  }

  -- no light comes to the leg itself
  dark : g.phase ≡ Asked → (f : Fibre) (y : ℕ) (h : Leg) → leg_at now l d ≡ Some h → Arrives f y h → ⊥
  dark asked f y h there arrives =
      let same : g ≡ h = cc (here, there) in
      go h same arrives
    where
      go : (h : Leg) → g ≡ h → Arrives f y h → ⊥
      go h same (Onward fibre label) =
          let none = asked-fits g.phase g asked ((facts.node d.0).leg l g here).phase in
          let some : g.in_label ≡ Some y = subst (λ (j : Leg). j.in_label ≡ Some y) (sym same) label in
          cc (none, some)
      go h same (Returning fibre opposite label) =
          let none = well.one_way in
          let some : g.back_in ≡ Some y = subst (λ (j : Leg). j.back_in ≡ Some y) (sym same) label in
          cc (none, some)

  -- a label is found for the previous node
  never-lacks : (y : ℕ) (h : Neighbour) → g.phase ≡ Asked → has g.sent y ≡ true → previous g ≡ Some h →
      label_through (local_node t d) (labels_left (local_node t d) (now.nodes d.0) g h) y ≡ None → ⊥
  never-lacks y h asked sent before lacks =
      let offers = well.offers asked h.fibre (beside g.prev g.in_fibre h before) in
      let link : own_link (local_node t d) h.fibre.link ≡ Some offers.link =
      subst (λ (f : Fibre). own_link (local_node t d) f.link ≡ Some offers.link) (sym offers.fibre) offers.own in
      let none : is_none (label_through (local_node t d)
      (meet g.offered (usable (local_node t d) (now.nodes d.0).legs g.role g.risks h.fibre)) y)
      ≡ true = ap is_none lacks in
      let kept = (λ (w : ℕ) (was : has g.offered w ≡ true) (may : ((local_node t d).convert ≡ true) ⊎ (w ≡ y)).
      offered-kept_off (local_node t d) (now.nodes d.0).legs g.role g.risks h.fibre offers.link g.offered y link none w was
      may (offers.free w was).low (offers.free w was).high) in
      let never = (λ (w : ℕ) (was : has g.offered w ≡ true) (may : ((local_node t d).convert ≡ true) ⊎ (w ≡ y)).
      (offers.free w was).free (subst (λ (f : Fibre). KeepsOff (s.nodes d.0).legs role.Work [] f w) offers.fibre
      (kept-then t s l now facts only d h.fibre w g.role g.risks (kept w was may) (dark asked h.fibre w)))) in
      go (local_node t d).convert refl offers never
    where
      go : (b : Bool) → (local_node t d).convert ≡ b → (offers : Offers t s d g h.fibre) →
          ((w : ℕ) → has g.offered w ≡ true → ((local_node t d).convert ≡ true) ⊎ (w ≡ y) → ⊥) → ⊥
      go true e offers never = never offers.some.0 offers.some.1 (inl e)
      go false e offers never =
          never y (subst (λ ys. has ys y ≡ true) (offers.same e) sent) (inr refl)

  well-passed : (a : Arrival) (h : Neighbour) (y : ℕ) → g.phase ≡ Asked → has g.sent y ≡ true → previous g ≡ Some h →
      (o : Option ℕ) → label_through (local_node t d) (labels_left (local_node t d) (now.nodes d.0) g h) y ≡ o →
      WellAnswer t s l route x d (passed_back (local_node t d) a g h y o)
  well-passed a h y asked sent before None is = absurd (never-lacks y h asked sent before is)
  well-passed a h y asked sent before (Some z) is =
      record { leg = OneLeg (connected g (Some z) y) own (well-live (Some z) y); sent = (tt, tt) }

  well-answers : (a : Arrival) (y : ℕ) → g.phase ≡ Asked → has g.sent y ≡ true → (o : Option Neighbour) →
      previous g ≡ o → WellAnswer t s l route x d (leg_answers (local_node t d) (now.nodes d.0) a y g o)
  well-answers a y asked sent None before =
      record { leg = OneLeg (connected g None y) own (well-live None y); sent = tt }
  well-answers a y asked sent (Some h) before = well-passed a h y asked sent before _ refl

  pub well-resv : (a : Arrival) (y : ℕ) →
      WellAnswer t s l route x d (leg_of_resv (local_node t d) (now.nodes d.0) a y (Some g))
  well-resv a y =
      if_cases (WellAnswer t s l route x d) (is_expected a y g) _ _
      (λ e. well-answers a y (asked-is g.phase (and-left _ _ e))
      (and-right (is_over (following g) a.from a.link) _ (and-right (is_asked g.phase) _ e)) (previous g) refl)
      (λ e. if_cases (WellAnswer t s l route x d) (is_confirmed a y g) _ _
      (λ c. absurd (let armed = and-left (is_armed g.phase) _ c in
      let never = never-armed g.phase well.phase in cc (armed, never)))
      (λ c. well-still))
