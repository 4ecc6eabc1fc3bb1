-- A protected call whose working LSP stands gets a backup asked for, or none for a cause.
use Rattle.std.proofs.Common.{◌≡◌, ℕ, true, false, not, cond, nat_eq, List, refl, sym, ap, ◌∙◌, subst, inl, inr}
use Rattle.std.specs.Prelude.{◌⊎◌, Option, Some, None, is_some}
use Rattle.ason_base.specs.{Network.{IsTopology, Network}, declared.calls.CallState.CallState, declared.calls.CallState.TheVariants.{Asking, Bare, Pairing}, declared.calls.Phase.Phase, declared.calls.Phase.TheVariants.Asked, declared.ids.CallNo.CallNo, declared.ids.Lsp.Lsp, declared.ids.NodeId.NodeId, declared.tables.CallRec.CallRec, declared.tables.Leg.Leg}
use Rattle.ason_base.specs.declared.calls.Role.TheVariants as role
use Rattle.ason_base.proofs.Numbers.{self-number}
use Rattle.mesh_rules.specs.{declared.events.MeshEvent.MeshEvent, declared.events.MeshEvent.TheVariants.Take, ActivationAnswers.resv_again, CallSteps.{backup_reserved, call_answered, work_connected}, Turns.call_put, Calls.{bare, call_with, find_call, is_asking, names}, Changes.{Answer, changed, nothing}, Events.{IsRun, after, route_of, step}, Legs.{connected, find_leg, is_work, leg_of, neighbour_over}, LocalNodes.local_node, Machine.{Mesh, start}, Messages.arrival, Pairs.pair, Resvs.{answered, connected_here, is_expected, resv_with}, State.NodeState, declared.arrivals.Arrival.Arrival}
use Rattle.mesh_nodes.proofs.{CallList.{called-found, called-names, found-number, not_called}, Cases.if_cases, LegList.found-lsp}
use Rattle.lsp_laws.specs.CallLaw.{phase_of}
use Rattle.lsp_laws.proofs.{nodes.CallParts.names-work, nodes.Facts.NodeFacts, nodes.NodeRuns.facts-hold, nodes.States.{AskingRow, Row, row}, hops.NamedPhases.named_is}
use Rattle.mesh_laws.specs.CauseLaw.{BackupCause, EveryLoneCallHasCause}
use Rattle.mesh_laws.proofs.{acts.Pairs.{MayPairHere, may-pair, pair-puts}, acts.Puts.put-found}

-- the working leg of a call that asks is Asked
pub asking-row : (f : CallState) (w b : Option Phase) → Row f w b → f ≡ Asking → w ≡ Some Asked
asking-row _ _ _ AskingRow e = refl
asking-row _ _ _ _ e = absurd (cc e)

-- a first leg has no node before it
pub no-before : (o : Option NodeId) (g : Leg) → is_some o ≡ false → neighbour_over o g.in_fibre ≡ None
no-before None g e = refl
no-before (Some n) g e = absurd (cc e)

-- the call of an LSP that it names
pub the-call : (n : ℕ) (s : NodeState) (l : Lsp) (m : CallNo) (c : CallRec) → NodeFacts n s →
    find_call m s.calls ≡ Some c → names l c ≡ true → call_with l s.calls ≡ Some c
the-call n s l m c facts found named = go (call_with l s.calls) refl
  where
    go : (o : Option CallRec) → call_with l s.calls ≡ o → o ≡ Some c
    go None is = absurd (not_called l s.calls m c is found named)
    go (Some d) is =
        let there = called-found l s.calls d facts.calls_rise is in
        let one : d.call ≡ m = facts.one_call l d.call m d c there found (called-names l s.calls d is) named in
        sym there ∙ ap (λ k. find_call k s.calls) one ∙ found

module _ (t : Network) (events : List MeshEvent) (valid : IsTopology t) (run : IsRun t start events) (n : NodeId)
    (m : CallNo) (c : CallRec) (found : find_call m ((after t start events).nodes n.0).calls ≡ Some c)
    (asking : c.state ≡ Asking) (protected : c.protected ≡ true) (l : Lsp) (work : c.work ≡ Some l) (g : Leg)
    (here : find_leg l ((after t start events).nodes n.0).legs ≡ Some g) (phase : g.phase ≡ Asked)
    (of_work : g.role ≡ role.Work) (first : is_some g.prev ≡ false) (a : Arrival) (x : ℕ) where
  abbrev z : NodeState
  z = (after t start events).nodes n.0

  abbrev IsPaired : CallRec → Type 0
  IsPaired d = (d.state ≡ Pairing) ⊎ ((d.state ≡ Bare)
      × BackupCause t (route_of t start events) ((after t start events).nodes n.0) n c d.cause)

  abbrev Becomes : Answer → Type 0
  Becomes b = (d : CallRec) × (find_call m (changed ((after t start events).nodes n.0) b).calls ≡ Some d)
      × ((d ≡ c) ⊎ IsPaired d)

  with-label : MayPairHere t (route_of t start events) n ((after t start events).nodes n.0) c l (connected g None x)
  with-label =
      let may = may-pair t events valid run n m c l g found work here in
      record {
        work = may.work;
        own = g;
        here = here;
        same_back = refl;
        sent = may.sent;
        ends = may.ends;
        searchable = may.searchable;
        given = may.given;
        found = may.found;
      }

  answers : call_answered (local_node t n) ((after t start events).nodes n.0) (connected g None x)
      (call_with g.lsp ((after t start events).nodes n.0).calls)
      ≡ pair (local_node t n) ((after t start events).nodes n.0) c (connected g None x)
  answers =
      let own : g.lsp ≡ l = found-lsp l z.legs g here in
      let called : call_with g.lsp z.calls ≡ Some c =
      subst (λ k. call_with k z.calls ≡ Some c) (sym own)
      (the-call n.0 z l m c ((facts-hold t events run).node n.0) found (names-work c l work)) in
      let working : is_work g.role ≡ true = ap is_work of_work in
      let asks : is_asking c.state ≡ true = ap is_asking asking in
      ap (call_answered (local_node t n) z (connected g None x)) called
      ∙ ap (λ b. cond b (work_connected (local_node t n) z (connected g None x) c)
      (backup_reserved z (connected g None x) c)) working
      ∙ ap (λ b. cond b (cond c.protected (pair (local_node t n) z c (connected g None x)) (call_put (bare c))) nothing) asks
      ∙ ap (λ b. cond b (pair (local_node t n) z c (connected g None x)) (call_put (bare c))) protected

  expected : Becomes (connected_here (local_node t n) ((after t start events).nodes n.0) x g)
  expected =
      let put = pair-puts t (route_of t start events) n z c l (connected g None x) with-label in
      let one = put-found z m IsPaired (connected_here (local_node t n) z x g) (record {
        one = put.one;
        puts = ap (λ (b : Answer). b.calls) answers ∙ put.puts;
        number = put.number ∙ found-number m z.calls c found;
        holds = put.holds;
      }) in
      (one.0, one.1, inr one.2)

  ignored : resv_again ((after t start events).nodes n.0) a x g ≡ nothing
  ignored = rw phase refl

  pub becomes : Becomes (resv_with (local_node t n) ((after t start events).nodes n.0) a x (Some g))
  becomes =
      if_cases Becomes (is_expected a x g) _ _
      (λ h. subst (λ o. Becomes (answered (local_node t n) z a x g o)) (sym (no-before g.prev g first)) expected)
      (λ h. subst Becomes (sym ignored) (c, found, inl refl))

-- over every topology and every run
pub every_lone_call : EveryLoneCallHasCause
every_lone_call t events valid run u n e l k x ms m c first found asking work protected =
    let s : Mesh = after t start events in
    let facts = (facts-hold t events run).node n.0 in
    let fit = facts.call m c found in
    let named = named_is n.0 (s.nodes n.0).lsp (s.nodes n.0).legs role.Work c.egress c.work l fit.work work in
    let g : Leg = named.leg.0 in
    let here : find_leg l (s.nodes n.0).legs ≡ Some named.leg.0 = named.leg.1 in
    let own = facts.leg l named.leg.0 here in
    let is : named.leg.0.lsp ≡ l = found-lsp l (s.nodes n.0).legs named.leg.0 here in
    let test : nat_eq named.leg.0.lsp.ingress.0 n.0 ≡ true =
    ap (λ (j : ℕ). nat_eq j n.0) (ap (λ (j : Lsp). j.ingress.0) is ∙ named.ingress) ∙ self-number n.0 in
    let asked = asking-row c.state _ _ (row c.state _ _ fit.state) asking in
    let phase : named.leg.0.phase ≡ Asked =
    (let at : phase_of (leg_of c.work (s.nodes n.0).legs) ≡ Some named.leg.0.phase =
    ap (λ o. phase_of (leg_of o (s.nodes n.0).legs)) work ∙ ap phase_of here in cc (at, asked)) in
    let goes : (step t s (Take n u)).nodes n.0
    ≡ changed (s.nodes n.0) (resv_with (local_node t n) (s.nodes n.0) (arrival l e u k) x (Some named.leg.0)) =
    rw (first, self-number n.0, here) refl in
    subst (λ (y : NodeState). (d : CallRec) × (find_call m y.calls ≡ Some d) × ((d ≡ c) ⊎
    ((d.state ≡ Pairing) ⊎ ((d.state ≡ Bare)
    × BackupCause t (route_of t start events) (s.nodes n.0) n c d.cause)))) (sym goes)
    (becomes t events valid run n m c found asking protected l work named.leg.0 here phase named.leg.2
    (own.prev ∙ ap not test) (arrival l e u k) x)
