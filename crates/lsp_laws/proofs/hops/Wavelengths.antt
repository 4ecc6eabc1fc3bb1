-- The wavelength of an LSP that is joined changes along its route at converting nodes alone, and so does the one on
-- which it comes back.
use Rattle.std.proofs.{Common.{◌≡◌, ◌<◌, ℕ, suc, true, false, List, length, refl, sym, ap, ◌∙◌, subst, arith, Bool}, lemmas.Option.slice_get_within, lemmas.List.Elements.All-from_recursion}
use Rattle.std.specs.Prelude.{slice_get, Option, Some, None, IfSome, is_some}
use Rattle.ason_base.specs.{declared.calls.CallState.CallState, declared.calls.CallState.TheVariants.{Asking, Bare, Pairing, Guarded, Turning, Turned, Stuck, Blocked}, declared.calls.Phase.Phase, declared.ids.Lsp.Lsp, declared.ids.NodeId.NodeId, declared.steps.Step.Step, declared.tables.CallRec.CallRec, declared.tables.Leg.Leg, Labels.{has, up_to}, Network.{Network, find_link, find_node, other_end}}
use Rattle.mesh_rules.specs.{declared.events.MeshEvent.MeshEvent, Events.{IsRun, after, route_of}, LocalNodes.{converts, fibre_in, fibre_out, labels_of, local_node, own_link}, Machine.{Mesh, start}}
use Rattle.mesh_nodes.proofs.CallList.{all-calls_found}
use Rattle.lsp_laws.specs.{HopLaw.leg_at, JoinedLaw.{CallIsJoined, HasItsLabel, HopIsJoined, IsHeldOrLive, IsJoined, IsLive, LspIsJoined, goes_both_ways}, LabelLaw.KeepsLabels, StandLaw.{has_backup, is_standing_call}, WavelengthLaw.{CallKeepsWavelengths, ComesBackOnOneOfLink, EveryCallKeepsItsWavelengths, KeepsWavelength, KeepsWavelengthFor, LspKeepsWavelength, wavelength_back, wavelength_from}}
use Rattle.lsp_laws.proofs.{nodes.Facts.MeshFacts, nodes.NodeRuns.facts-hold, hops.Joined.call_joined_there, hops.Law.{far_is, link_there, node_is}, hops.HopLaws.follows, hops.NodeLabels.keeps, hops.Planned.{Follows, Planned, Routes}, hops.Plans.{Plan, distinct, found_id, link_at, node_at, own_far, own_near, plan}, hops.Purposes.Purpose}

-- two labels, of which the one is there where the other is
same-label : (a b : Option ℕ) → is_some a ≡ is_some b → ((x y : ℕ) → a ≡ Some x → b ≡ Some y → x ≡ y) → a ≡ b
same-label None None both one = refl
same-label None (Some y) both one = absurd (cc both)
same-label (Some x) None both one = absurd (cc both)
same-label (Some x) (Some y) both one = ap Some (one x y refl refl)

module _ (t : Network) (events : List MeshEvent) (run : IsRun t start events) where
  abbrev s : Mesh
  s = after t start events

  abbrev o : Routes
  o = route_of t start events

  -- what a leg of any LSP keeps, at any node
  kept : (l : Lsp) (n : NodeId) (g : Leg) → leg_at s l n ≡ Some g → KeepsLabels (local_node t n) g
  kept l n g here = keeps t events l n g (o l) (follows t events run l) here

  left-on : (P : Phase → Type 0) (b : Bool) (l : Lsp) (hop : Step) (h : HopIsJoined t s P b l hop) →
      wavelength_from s l hop.node ≡ Some h.label
  left-on P b l hop h = let there = h.from_there in rw there h.leaves

  back-on : (P : Phase → Type 0) (b : Bool) (l : Lsp) (hop : Step) (h : HopIsJoined t s P b l hop) →
      wavelength_back s l hop.node ≡ h.from.back_in
  back-on P b l hop h = let there = h.from_there in rw there refl

  -- the label on which the LSP comes back, if it does
  comes-back : (b : Bool) (l : Lsp) (hop : Step) (label : Option ℕ) → wavelength_back s l hop.node ≡ label →
      is_some label ≡ b → ((x : ℕ) → label ≡ Some x → has (up_to (labels_of (find_link t hop.link))) x ≡ true) →
      ComesBackOnOneOfLink t s b l hop
  comes-back false l hop None is way of_link = is
  comes-back false l hop (Some x) is way of_link = absurd (cc way)
  comes-back true l hop None is way of_link = absurd (cc way)
  comes-back true l hop (Some x) is way of_link = (x, is, of_link x refl)

  -- an LSP that is joined over each step of its route
  module _ (P : Phase → Type 0) (b : Bool) (l : Lsp) (q : Purpose) (steps : List Step) (e : NodeId)
      (planned : Planned t s o l q (plan steps e))
      (joined : (i : ℕ) (hop : Step) → slice_get steps i ≡ Some hop → HopIsJoined t s P b l hop) where
    abbrev p : Plan
    p = plan steps e

    far-node : (i : ℕ) (hop : Step) (there : slice_get steps i ≡ Some hop) → i < length steps →
        other_end (joined i hop there).link hop.node ≡ node_at p (suc i)
    far-node i hop there below =
        let h = joined i hop there in
        let over = link_there t s o l q steps e planned i hop there below in
        let same : (planned.route.links i below).link ≡ h.link = (let found = h.found in cc (over, found)) in
        sym (far_is t s o l q steps e planned i hop there below ∙ ap (λ k. other_end k hop.node) same)

    -- the far node has the step's link
    own-there : (i : ℕ) (hop : Step) (there : slice_get steps i ≡ Some hop) → i < length steps →
        own_link (local_node t (other_end (joined i hop there).link hop.node)) (joined i hop there).link.id
        ≡ find_link t hop.link
    own-there i hop there below =
        let h = joined i hop there in
        let over = planned.route.links i below in
        let apart = distinct t l.ingress p planned.route i (suc i) (omega arith) (omega arith) (omega arith) in
        let at_place : own_link (local_node t (node_at p (suc i))) (link_at p i) ≡ Some over.link =
        own_far t (link_at p i) (node_at p i) (node_at p (suc i)) apart over in
        let id : h.link.id ≡ link_at p i = found_id hop.link t.links h.link h.found ∙ rw there refl in
        ap (λ n. own_link (local_node t n) h.link.id) (far-node i hop there below)
        ∙ ap (own_link (local_node t (node_at p (suc i)))) id ∙ at_place
        ∙ sym (link_there t s o l q steps e planned i hop there below)

    -- and so has the near one
    own-here : (i : ℕ) (hop : Step) (there : slice_get steps i ≡ Some hop) → i < length steps →
        own_link (local_node t hop.node) (joined i hop there).link.id ≡ find_link t hop.link
    own-here i hop there below =
        let h = joined i hop there in
        let at_place = own_near t (link_at p i) (node_at p i) (node_at p (suc i)) (planned.route.links i below) in
        let id : h.link.id ≡ link_at p i = found_id hop.link t.links h.link h.found ∙ rw there refl in
        ap (λ n. own_link (local_node t n) h.link.id) (sym (node_is t s o l q steps e planned i hop there))
        ∙ ap (own_link (local_node t (node_at p i))) id ∙ at_place
        ∙ sym (link_there t s o l q steps e planned i hop there below)

    of-link : (i : ℕ) (hop : Step) (there : slice_get steps i ≡ Some hop) →
        has (up_to (labels_of (find_link t hop.link))) (joined i hop there).label ≡ true
    of-link i hop there =
        let h = joined i hop there in
        let far : NodeId = other_end h.link hop.node in
        subst (λ k. has (up_to (labels_of k)) h.label ≡ true)
        (own-there i hop there (slice_get_within steps i hop there))
        ((kept l far h.to h.to_there).of_link (fibre_in h.link far) h.label h.in_fibre h.enters)

    back-of-link : (i : ℕ) (hop : Step) (there : slice_get steps i ≡ Some hop) (x : ℕ) →
        (joined i hop there).from.back_in ≡ Some x → has (up_to (labels_of (find_link t hop.link))) x ≡ true
    back-of-link i hop there x is =
        let h = joined i hop there in
        subst (λ k. has (up_to (labels_of k)) x ≡ true) (own-here i hop there (slice_get_within steps i hop there))
        ((kept l hop.node h.from h.from_there).back_of_link (fibre_out h.link hop.node) x h.out_fibre is)

    -- a node between two links has one leg
    one-leg : (i : ℕ) (hop next : Step) (there : slice_get steps i ≡ Some hop)
        (then : slice_get steps (suc i) ≡ Some next) → (joined i hop there).to ≡ (joined (suc i) next then).from
    one-leg i hop next there then =
        let h = joined i hop there in
        let k = joined (suc i) next then in
        let between : other_end h.link hop.node ≡ next.node =
        far-node i hop there (slice_get_within steps i hop there)
        ∙ node_is t s o l q steps e planned (suc i) next then in
        let to_there : leg_at s l next.node ≡ Some h.to = subst (λ n. leg_at s l n ≡ Some h.to) between h.to_there in
        let from_there : leg_at s l next.node ≡ Some k.from = k.from_there in
        cc (to_there, from_there)

    -- at a node that doesn't convert the label of the link before is that of the link behind
    one-label : (i : ℕ) (hop next : Step) (there : slice_get steps i ≡ Some hop)
        (then : slice_get steps (suc i) ≡ Some next) → converts (find_node t next.node) ≡ false →
        (joined i hop there).label ≡ (joined (suc i) next then).label
    one-label i hop next there then fixed =
        let h = joined i hop there in
        let k = joined (suc i) next then in
        let same : h.to ≡ k.from = one-leg i hop next there then in
        let enters : k.from.in_label ≡ Some h.label = subst (λ (g : Leg). g.in_label ≡ Some h.label) same h.enters in
        (kept l next.node k.from k.from_there).one fixed h.label k.label enters k.leaves

    -- and so it is on the way back
    one-back : (i : ℕ) (hop next : Step) (there : slice_get steps i ≡ Some hop)
        (then : slice_get steps (suc i) ≡ Some next) → converts (find_node t next.node) ≡ false →
        (joined (suc i) next then).from.back_in ≡ (joined i hop there).from.back_in
    one-back i hop next there then fixed =
        let h = joined i hop there in
        let k = joined (suc i) next then in
        let came : k.from.back_out ≡ h.from.back_in =
        subst (λ (g : Leg). g.back_out ≡ h.from.back_in) (one-leg i hop next there then) h.back in
        let both : is_some k.from.back_in ≡ is_some k.from.back_out =
        k.both_ways ∙ sym h.both_ways ∙ ap is_some (sym came) in
        same-label k.from.back_in k.from.back_out both ((kept l next.node k.from k.from_there).one_back fixed) ∙ came

    keeps-route : KeepsWavelength t s b l steps
    keeps-route = record {
      of_link = λ i hop there.
          ((joined i hop there).label, left-on P b l hop (joined i hop there), of-link i hop there);
      one = λ i hop next there then fixed.
          left-on P b l next (joined (suc i) next then) ∙ ap Some (sym (one-label i hop next there then fixed))
          ∙ sym (left-on P b l hop (joined i hop there));
      back_of_link = λ i hop there. comes-back b l hop (joined i hop there).from.back_in
          (back-on P b l hop (joined i hop there)) (joined i hop there).both_ways (back-of-link i hop there);
      one_back = λ i hop next there then fixed.
          back-on P b l next (joined (suc i) next then) ∙ one-back i hop next there then fixed
          ∙ sym (back-on P b l hop (joined i hop there));
    }

  joined-keeps : (P : Phase → Type 0) (b : Bool) (d : NodeId) (l : Lsp) → LspIsJoined t events P b d l →
      LspKeepsWavelength t events b l
  joined-keeps P b d l joined route sent =
      let at_route : o l ≡ Some joined.route = joined.sent in
      let same : joined.route ≡ route = cc (at_route, sent) in
      let along : Follows t s o l (Some joined.route) = subst (Follows t s o l) joined.sent (follows t events run l) in
      subst (KeepsWavelength t s b l) same
      (keeps-route P b l along.1 joined.route along.0 along.2 joined.hops)

  named-keeps : (P : Phase → Type 0) (b : Bool) (d : NodeId) (w : Option Lsp) → IsJoined t events P b d w →
      IfSome w (LspKeepsWavelength t events b)
  named-keeps P b d None joined = absurd joined
  named-keeps P b d (Some l) joined = joined-keeps P b d l joined

  module _ (c : CallRec) where
    abbrev way : Bool
    way = goes_both_ways s c.work

    work-keeps : (f : CallState) → CallIsJoined t events c f → is_standing_call f ≡ true →
        IfSome c.work (KeepsWavelengthFor t events c)
    work-keeps Bare joined stands = named-keeps IsLive way c.egress c.work joined
    work-keeps Pairing joined stands = named-keeps IsLive way c.egress c.work joined
    work-keeps Asking joined stands = absurd (cc stands)
    work-keeps Blocked joined stands = absurd (cc stands)
    work-keeps _ joined stands = named-keeps IsLive way c.egress c.work joined.0

    back-keeps : (f : CallState) → CallIsJoined t events c f → has_backup f ≡ true →
        IfSome c.back (KeepsWavelengthFor t events c)
    back-keeps Guarded joined has = named-keeps IsHeldOrLive way c.egress c.back joined.1
    back-keeps Turning joined has = named-keeps HasItsLabel way c.egress c.back joined.1
    back-keeps Turned joined has = named-keeps IsLive way c.egress c.back joined.1
    back-keeps Stuck joined has = named-keeps IsHeldOrLive way c.egress c.back joined.1
    back-keeps _ joined has = absurd (cc has)

pub every_call_keeps : EveryCallKeepsItsWavelengths
every_call_keeps t events run n =
    let s : Mesh = after t start events in
    let facts : MeshFacts t s = facts-hold t events run in
    All-from_recursion (CallKeepsWavelengths t events) (s.nodes n).calls
    (all-calls_found (CallKeepsWavelengths t events) (s.nodes n).calls (facts.node n).calls_rise (λ k c found.
    let joined = call_joined_there t events run n k c found in
    record {
      work = work-keeps t events run c c.state joined;
      back = back-keeps t events run c c.state joined;
    }))
