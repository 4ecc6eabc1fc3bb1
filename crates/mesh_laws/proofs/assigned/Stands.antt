-- Where a call stands its route had free wavelengths before it was set up, alone: those that it has.
use Rattle.std.proofs.{Common.{◌≡◌, ℕ, true, false, List, [], refl, sym, ap, ◌∙◌, subst, arith, inl, inr}, lemmas.List.Elements.recursion_from_All, lemmas.Bool.false_from_ne_true}
use Rattle.std.specs.Prelude.{Option, Some, None, IfSome, slice_get}
use Rattle.ason_base.specs.{Labels.{has, up_to}, Network.{Network, find_link, other_end}, declared.calls.CallState.TheVariants.Bare, declared.calls.Role.TheVariants.Work, declared.ids.CallNo.CallNo, declared.ids.Lsp.Lsp, declared.ids.NodeId.NodeId, declared.network.LinkSpec.LinkSpec, declared.steps.Step.Step, declared.tables.CallRec.CallRec, declared.tables.Leg.Leg, Lsps.same_lsp}
use Rattle.mesh_rules.specs.{declared.events.MeshEvent.MeshEvent, Calls.find_call, Events.{IsRun, after, route_of}, Legs.takes, LocalNodes.{fibre_in, labels_of}, Machine.{Mesh, start}, Quiet.IsQuiet}
use Rattle.mesh_nodes.proofs.CallList.{found-call-all}
use Rattle.lsp_laws.specs.{CallLaw.FitsLegs, HopLaw.leg_at, JoinedLaw.{CallIsJoined, HopIsJoined, IsJoined, IsLive, LspIsJoined, goes_both_ways}, WavelengthLaw.{CallKeepsWavelengths, KeepsWavelength, KeepsWavelengthFor, leg_out_label, wavelength_from}}
use Rattle.lsp_laws.proofs.{hops.HopLaws.found_of, hops.Joined.every_call_joined, hops.Wavelengths.every_call_keeps, nodes.Facts.MeshFacts, nodes.NodeRuns.facts-hold, hops.NamedPhases.named_is}
use Rattle.mesh_laws.specs.{CauseLaw.KeepsOff, RestedLaw.Onward, SetupAloneLaw.{AreWavelengths, MayHave}}
use Rattle.ason_base.proofs.LspOrder.{same_lsp-eq}
use Rattle.mesh_laws.proofs.{assigned.Only.OnlyOf, rested.Rested.{Routed, routed}, safe.Light.{arrives-takes, from-has}}

-- the wavelength at a place of a route

abbrev number : Option ℕ → ℕ
number None = 0
number (Some x) = x

abbrev wave : Mesh → Lsp → Option Step → ℕ
wave s l None = 0
wave s l (Some hop) = number (wavelength_from s l hop.node)

module _ (t : Network) (s : Mesh) (facts_then : MeshFacts t s) (events : List MeshEvent) (run : IsRun t start events)
    (quiet : IsQuiet (after t start events)) (l : Lsp) (n : NodeId) (ingress : l.ingress ≡ n)
    (fresh : (d : NodeId) (g : Leg) → leg_at s l d ≡ Some g → ⊥) (only : OnlyOf s l (after t start events))
    (route : List Step) (sent : route_of t start events l ≡ Some route) (k : CallNo) (c : CallRec)
    (found : find_call k ((after t start events).nodes n.0).calls ≡ Some c) (bare : c.state ≡ Bare) (work : c.work ≡ Some l) where
  abbrev now : Mesh
  now = after t start events

  facts : MeshFacts t (after t start events)
  facts = facts-hold t events run

  joined : LspIsJoined t events IsLive (goes_both_ways (after t start events) c.work) c.egress l
  joined =
      let all : CallIsJoined t events c c.state = found-call-all (λ d. CallIsJoined t events d d.state) k (now.nodes n.0).calls c found
      (recursion_from_All (λ d. CallIsJoined t events d d.state) (now.nodes n.0).calls (every_call_joined t events run n.0)) in
      let of_bare : CallIsJoined t events c Bare = subst (CallIsJoined t events c) bare all in
      subst (λ o. IsJoined t events IsLive (goes_both_ways (after t start events) c.work) c.egress o) work of_bare

  keeps : KeepsWavelength t (after t start events) (goes_both_ways (after t start events) c.work) l route
  keeps =
      let all : CallKeepsWavelengths t events c = found-call-all (CallKeepsWavelengths t events) k (now.nodes n.0).calls c found
      (recursion_from_All (CallKeepsWavelengths t events) (now.nodes n.0).calls (every_call_keeps t events run n.0)) in
      let its : IfSome c.work (KeepsWavelengthFor t events c) = all.work (rw bare refl) in
      let of : KeepsWavelengthFor t events c l = subst (λ o. IfSome o (KeepsWavelengthFor t events c)) work its in
      of route sent

  hop-joined : (i : ℕ) (hop : Step) → slice_get route i ≡ Some hop →
      HopIsJoined t (after t start events) IsLive (goes_both_ways (after t start events) c.work) l hop
  hop-joined i hop there =
      let same : joined.route ≡ route = (let a = joined.sent in cc (a, sent)) in
      joined.hops i hop (subst (λ r. slice_get r i ≡ Some hop) (sym same) there)

  of-work : (d : NodeId) (g : Leg) → leg_at (after t start events) l d ≡ Some g → g.role ≡ Work
  of-work d g here =
      let fit : FitsLegs n.0 (now.nodes n.0).lsp (now.nodes n.0).legs c = (facts.node n.0).call k c found in
      let named = named_is n.0 (now.nodes n.0).lsp (now.nodes n.0).legs Work c.egress c.work l fit.work work in
      let its : Routed t events run quiet l = routed t events run quiet l d g here in
      its.fits.roles d g here ∙ sym (its.fits.roles n named.leg.0 named.leg.1) ∙ named.leg.2

  -- nobody kept it off
  free : (i : ℕ) (hop : Step) (link : LinkSpec) → slice_get route i ≡ Some hop → find_link t hop.link ≡ Some link →
      (y : ℕ) → wavelength_from (after t start events) l hop.node ≡ Some y →
      KeepsOff (s.nodes (other_end link hop.node).0).legs Work [] (fibre_in link (other_end link hop.node)) y → ⊥
  free i hop link there at y is kept =
      let j = hop-joined i hop there in
      let same : j.link ≡ link = (let a = j.found in cc (a, at)) in
      let leaves : wavelength_from now l hop.node ≡ Some j.label = ap leg_out_label j.from_there ∙ j.leaves in
      let label : j.label ≡ y = cc (leaves, is) in
      let d : NodeId = other_end link hop.node in
      let to_there : leg_at now l d ≡ Some j.to =
      subst (λ (q : LinkSpec). leg_at now l (other_end q hop.node) ≡ Some j.to) same j.to_there in
      let fibre : j.to.in_fibre ≡ Some (fibre_in link d) =
      subst (λ (q : LinkSpec). j.to.in_fibre ≡ Some (fibre_in q (other_end q hop.node))) same j.in_fibre in
      let mine : takes (fibre_in link d) y j.to ≡ true =
      arrives-takes (fibre_in link d) y j.to (Onward fibre (subst (λ q. j.to.in_label ≡ Some q) label j.enters)) in
      let here : leg_at s kept.leg.lsp d ≡ Some kept.leg =
      found_of (s.nodes d.0).legs (facts_then.node d.0).legs_rise kept.leg kept.there in
      let apart : same_lsp l kept.leg.lsp ≡ false =
      false_from_ne_true (same_lsp l kept.leg.lsp) (λ e. fresh d kept.leg
      (subst (λ q. leg_at s q d ≡ Some kept.leg) (sym (same_lsp-eq l kept.leg.lsp e)) here)) in
      let then : leg_at now kept.leg.lsp d ≡ Some kept.leg = only.others kept.leg.lsp d apart ∙ here in
      let others : takes (fibre_in link d) y kept.leg ≡ true =
      arrives-takes (fibre_in link d) y kept.leg kept.arrives in
      elim ((facts.node d.0).labels (fibre_in link d) y l kept.leg.lsp j.to kept.leg to_there then mine others) [
        | inl one ↦ fresh d kept.leg (subst (λ q. leg_at s q d ≡ Some kept.leg) (sym one) here)
        | inr share ↦ (let back = share.backups.0 in let works = of-work d j.to to_there in cc (back, works))
      ]

  -- The wavelengths of a call that stands were free.
  pub had-wavelengths : (x : ℕ → ℕ) × AreWavelengths t s route x
  had-wavelengths = (
    λ i. wave now l (slice_get route i),
    record {
      each = λ i hop link there at.
          (let of = keeps.of_link i hop there in
          let y : ℕ = of.0 in
          let is : wave now l (slice_get route i) ≡ y = ap (wave now l) there ∙ ap number of.1 in
          let among : has (up_to link.labels) y ≡ true = subst (λ o. has (up_to (labels_of o)) y ≡ true) at of.2 in
          let bounds = from-has 1 link.labels y among in
          let low = bounds.0 in
          let high = bounds.1 in
          subst (MayHave s link (other_end link hop.node)) (sym is)
          (record { low = low; high = omega (arith, high); free = free i hop link there at y of.1 }));
      one = λ i hop next there then fixed.
          ap (wave now l) then ∙ ap number (keeps.one i hop next there then fixed) ∙ sym (ap (wave now l) there);
    },
  )
