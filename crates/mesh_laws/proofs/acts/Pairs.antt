-- A call gets a backup, or stands without one for a cause.
use Rattle.std.proofs.Common.{◌≡◌, ◌≢◌, ℕ, Bool, true, false, not, nat_eq, nat_lt, List, refl, sym, ap, ◌∙◌, subst, arith, inl, inr}
use Rattle.std.specs.Prelude.{◌⊎◌, ◌||◌, Option, Some, None, drop, is_some}
use Rattle.ason_base.specs.{Codes.label_code, Network.{IsTopology, Network}, Risks.{route_risks, unknown_link}, declared.calls.CallState.TheVariants.{Bare, Pairing}, declared.calls.Cause.Cause, declared.calls.Cause.TheVariants.{Code, Full, NoBackup, Spent}, declared.ids.CallNo.CallNo, declared.ids.Lsp.Lsp, declared.ids.NodeId.NodeId, declared.network.LinkSpec.LinkSpec, declared.steps.Step.Step, declared.tables.CallRec.CallRec, declared.tables.Leg.Leg, Walks.{IsBackup, IsLeast}, declared.network.TeRow.TeRow}
use Rattle.ason_base.specs.declared.calls.Role.TheVariants as role
use Rattle.ason_base.specs.declared.messages.PathRole.TheVariants as path
use Rattle.mesh_rules.specs.{declared.events.MeshEvent.MeshEvent, declared.limits.TheConstants.LAST_NUMBER, Calls.{find_call, pairing, unbacked}, Changes.Answer, Events.{IsRun, after, route_of}, FirstLegs.{first_link, is_full, lacks_first_back}, KnownRows.known_rows, LeastRoutes.{Trip, least_backup}, Legs.{reverse, find_leg, leg_of}, LocalNodes.{LocalNode, fibre_out, is_link_there, local_node, own_link}, Machine.{Mesh, start}, Pairs.{admitted_backup, backup_route, beside_lsp, given_or_found, guarding, is_two_way, over_backup, pair, pair_over, route_from}, Protects.protects, Setups.is_followable, State.NodeState, Turns.call_put}
use Rattle.mesh_nodes.proofs.{Cases.if_cases, LegList.found-lsp, routes.Nodes.found-backups-lead, routes.Backups.{least_backup-least, no_backup-none}}
use Rattle.lsp_laws.proofs.{hops.Plans.found_id, nodes.Facts.LegFacts, nodes.NodeRuns.facts-hold, nodes.Searches.every_search, hops.Stepped.starts_over, hops.HopLaws.carried, hops.Paired.whole-route, hops.NamedPhases.named_is}
use Rattle.mesh_laws.specs.CauseLaw.{GoesOver, BackHasNoNumber, BackHasNoReturn, BackHasNoRoom, BackupCause, HasNoBackup, RiskIsUnknown}
use Rattle.mesh_laws.proofs.{causes.Refused.primary-unknown, causes.KeptOff.{all-kept_off, own-link-at}, acts.Given.given-followed, acts.Puts.Puts, acts.Tests.{above, most}}
use Rattle.ason_base.proofs.{Bools.{and-left, not-self}, JoinedEnds.same-node}
use Rattle.mesh_rules.proofs.Topologies.{topology_searchable}
use Rattle.mesh_nodes.specs.Routes.{AreSearchable}

-- what a pair asks of the call and its working leg w, where it begins
pub record MayPairHere (t : Network) (o : Lsp → Option (List Step)) (n : NodeId) (s : NodeState) (c : CallRec) (l : Lsp) (w : Leg) :
    Type 0 where
  pub work : c.work ≡ Some l
  -- the leg that stands, as far as it goes for w
  pub own : Leg
  pub here : find_leg l s.legs ≡ Some own
  pub same_back : own.back_in ≡ w.back_in
  pub sent : o l ≡ Some (route_from (local_node t n) w)
  pub ends : w.egress ≡ c.egress
  pub searchable : AreSearchable (known_rows (local_node t n) s)
  pub given : (route : List Step) → c.backup ≡ Some route → is_followable (local_node t n) (Some route) ≡ true
  pub found : (r : Trip) → least_backup (known_rows (local_node t n) s) (route_from (local_node t n) w) n w.egress ≡ Some r →
      is_followable (local_node t n) (Some r.steps) ≡ true

no-given : (given : Option (List Step)) (found : Option Trip) → given_or_found given found ≡ None →
    (given ≡ None) × (found ≡ None)
no-given None None e = (refl, refl)
no-given None (Some r) e = absurd (cc e)
no-given (Some route) found e = absurd (cc e)

some-given : (given : Option (List Step)) (found : Option Trip) (route : List Step) →
    given_or_found given found ≡ Some route →
    (given ≡ Some route) ⊎ ((r : Trip) × ((given ≡ None) × (found ≡ Some r) × (r.steps ≡ route)))
some-given (Some given) found route e = inl e
some-given None (Some r) route e = inr (r, (refl, refl, (cc e)))
some-given None None route e = absurd (cc e)

some-there : {X : Type 0} (o : Option X) → is_some o ≡ true → (x : X) × (o ≡ Some x)
some-there None e = absurd (cc e)
some-there (Some x) e = (x, refl)

module _ (t : Network) (o : Lsp → Option (List Step)) (n : NodeId) (s : NodeState) (c : CallRec) (l : Lsp) (w : Leg)
    (may : MayPairHere t o n s c l w) where
  abbrev spot : LocalNode
  spot = local_node t n

  abbrev IsPaired : CallRec → Type 0
  IsPaired d = (d.state ≡ Pairing) ⊎ ((d.state ≡ Bare) × BackupCause t o s n c d.cause)

  abbrev Makes : Answer → Type 0
  Makes a = Puts c.call IsPaired a

  bare-puts : (cause : Cause) → BackupCause t o s n c cause → Makes (call_put (unbacked c cause))
  bare-puts cause known = record { one = unbacked c cause; puts = refl; number = refl; holds = inr (refl, known) }

  -- the route that the backup goes over
  abbrev Over : List Step → Type 0
  Over route =
      GoesOver c.backup (IsBackup (known_rows (local_node t n) s) (route_from (local_node t n) w) n c.egress) route

  back-no-return : (route : List Step) (out : LinkSpec) → Over route → first_link (local_node t n) route ≡ Some out → (both : Bool) →
      is_two_way w ≡ both → lacks_first_back (local_node t n) s both (guarding (local_node t n) w) out ≡ true →
      BackupCause t o s n c (Code label_code)
  back-no-return route out way first false is lacks = absurd (cc lacks)
  back-no-return route out way first true is lacks =
      let starts = starts_over spot route out first in
      let own : own_link (local_node t n) out.id ≡ Some out =
      subst (λ i. own_link (local_node t n) i ≡ Some out)
      (sym (found_id starts.hop.link (local_node t n).own out starts.over)) starts.over in
      let z = some-there w.back_in is in
      BackHasNoReturn l may.own z.0 (route_from spot w) starts.hop starts.further out (reverse (fibre_out out n)) refl may.work may.here
      (may.same_back ∙ z.1)
      may.sent (subst Over starts.is way) (own-link-at t n starts.hop.link out starts.over)
      (record { link = refl; forward = λ e. not-self (fibre_out out n).forward e })
      (all-kept_off spot s.legs role.Back (route_risks (known_rows spot s) (route_from spot w))
      (reverse (fibre_out out n)) out own lacks)

  admitted-puts : (route : List Step) (out : LinkSpec) → Over route → first_link (local_node t n) route ≡ Some out →
      Makes (admitted_backup (local_node t n) s c w out (drop 1 route))
  admitted-puts route out way first =
      if_cases Makes (nat_lt LAST_NUMBER s.lsp) _ _
      (λ e. bare-puts Spent (BackHasNoNumber refl (above s.lsp e)))
      (λ e. if_cases Makes (is_full s) _ _ (λ f. bare-puts Full (BackHasNoRoom refl (most _ f)))
      (λ f. if_cases Makes (lacks_first_back spot s (is_two_way w) (guarding spot w) out) _ _
      (λ h. bare-puts (Code label_code) (back-no-return route out way first (is_two_way w) refl h))
      (λ h. record { one = pairing c (beside_lsp w.lsp s.lsp); puts = refl; number = refl; holds = inl refl })))

  over_backup-puts : (route : List Step) (out : Option LinkSpec) → Over route → first_link (local_node t n) route ≡ out →
      is_link_there out ≡ true → Makes (over_backup (local_node t n) s c w route out)
  over_backup-puts route None way first there = absurd (cc there)
  over_backup-puts route (Some out) way first there = admitted-puts route out way first

  pair_over-puts : (route : Option (List Step)) → backup_route (local_node t n) s c w ≡ route →
      Makes (pair_over (local_node t n) s c w route)
  pair_over-puts None is =
      let none = no-given c.backup _ is in
      bare-puts NoBackup (HasNoBackup l (route_from spot w) refl none.0 may.work may.sent
      (subst (λ e. (route : List Step) (cost : ℕ) → ¬ IsBackup (known_rows spot s) (route_from spot w) n e route cost)
      may.ends ((no_backup-none (known_rows spot s) (route_from spot w) n w.egress may.searchable).0 none.1)))
  pair_over-puts (Some route) is =
      let rows : List TeRow = known_rows spot s in
      elim (some-given c.backup _ route is) [
        | inl given ↦ over_backup-puts route (first_link spot route) (inl given) refl (may.given route given)
        | inr found ↦ (let least : IsLeast (IsBackup rows (route_from spot w) n w.egress) found.0.steps found.0.cost =
            (least_backup-least rows (route_from spot w) n w.egress found.0 may.searchable).0 found.1.1 in
            over_backup-puts route (first_link spot route)
            (inr (
              found.1.0,
              (
                found.0.cost,
                subst (λ r. IsLeast (IsBackup rows (route_from spot w) n c.egress) r found.0.cost) found.1.2
                    (subst (λ e. IsLeast (IsBackup rows (route_from spot w) n e) found.0.steps found.0.cost) may.ends least),
              ),
            ))
            refl (subst (λ r. is_followable spot (Some r) ≡ true) found.1.2 (may.found found.0 found.1.1)))
      ]

  -- a pair puts a call that pairs, or a bare one with its cause
  pub pair-puts : Makes (pair (local_node t n) s c w)
  pair-puts =
      if_cases Makes (is_some (unknown_link (known_rows spot s) (route_from spot w))) _ _
      (λ e. bare-puts NoBackup (let hop = primary-unknown (known_rows spot s) (path.Back false 0 (route_from spot w)) e in
      RiskIsUnknown l (route_from spot w) hop.0 refl may.work may.sent hop.1 hop.2))
      (λ e. pair_over-puts (backup_route spot s c w) refl)

-- so does the order to protect it
pub there-protects : (t : Network) (o : Lsp → Option (List Step)) (n : NodeId) (s : NodeState) (c : CallRec) (l : Lsp)
    (g : Leg) → find_leg l s.legs ≡ Some g → MayPairHere t o n s c l g → Puts c.call
    (λ d. (d.state ≡ Pairing) ⊎ ((d.state ≡ Bare) × BackupCause t o s n c d.cause))
    (protects (local_node t n) s c (leg_of c.work s.legs))
there-protects t o n s c l g here may =
    subst (λ z. Puts c.call (λ d. (d.state ≡ Pairing) ⊎ ((d.state ≡ Bare) × BackupCause t o s n c d.cause))
    (protects (local_node t n) s c z)) (sym (ap (λ z. leg_of z s.legs) may.work ∙ here))
    (pair-puts t o n s c l g may)

-- the ingress of a leg isn't its egress
leg-away : (n next : ℕ) (g : Leg) → LegFacts n next g → g.lsp.ingress.0 ≡ n → n ≢ g.egress.0
leg-away n next g facts own ends = go (is_some g.prev) (is_some g.next) refl refl facts.one_end
  where
    go : (a b : Bool) → is_some g.prev ≡ a → is_some g.next ≡ b → (a || b) ≡ true → ⊥
    go false false p q e = cc e
    go true b p q e = (let test : nat_eq g.lsp.ingress.0 n ≡ true = grind arith in
        let none : is_some g.prev ≡ false = facts.prev ∙ ap not test in cc (none, p))
    go false true p q e = (let test : nat_eq g.egress.0 n ≡ true = grind arith in
        let none : is_some g.next ≡ false = facts.next_node ∙ ap not test in cc (none, q))

-- a pair may begin where the working leg of a call stands
pub may-pair : (t : Network) (events : List MeshEvent) → IsTopology t → IsRun t start events → (n : NodeId) (k : CallNo)
    (c : CallRec) (l : Lsp) (g : Leg) → find_call k ((after t start events).nodes n.0).calls ≡ Some c →
    c.work ≡ Some l → find_leg l ((after t start events).nodes n.0).legs ≡ Some g →
    MayPairHere t (route_of t start events) n ((after t start events).nodes n.0) c l g
may-pair t events valid run n k c l g found work here =
    let s : Mesh = after t start events in
    let x : NodeState = s.nodes n.0 in
    let o : Lsp → Option (List Step) = route_of t start events in
    let facts = facts-hold t events run in
    let carries = carried t events run in
    let fit = (facts.node n.0).call k c found in
    let named = named_is n.0 x.lsp x.legs role.Work c.egress c.work l fit.work work in
    let one : named.leg.0 ≡ g = (let there = named.leg.1 in cc (there, here)) in
    let ends : g.egress ≡ c.egress = ap (λ (h : Leg). h.egress) (sym one) ∙ named.leg.3 in
    let own : l.ingress ≡ n = same-node l.ingress n named.ingress in
    let is : g.lsp ≡ l = found-lsp l x.legs g here in
    let away : n.0 ≢ g.egress.0 =
    leg-away n.0 x.lsp g ((facts.node n.0).leg l g here) (ap (λ (m : Lsp). m.ingress.0) is ∙ named.ingress) in
    record {
      work = work;
      own = g;
      here = here;
      same_back = refl;
      sent = whole-route t s o l n g (o l) (carries.follows l) own here;
      ends = ends;
      searchable = (every_search t events n valid run).searchable;
      given = λ route is_given.
          (let beside = (carries.given n k c found).beside l route work is_given in
          given-followed t valid n c.egress route (subst (λ (m : NodeId). n.0 ≢ m.0) ends away)
          (and-left _ _ beside.2));
      found = λ r is_found. given-followed t valid n g.egress r.steps away
          (found-backups-lead t n g.egress x (route_from (local_node t n) g) r (topology_searchable t valid)
          (facts.learnt n.0) is_found);
    }
