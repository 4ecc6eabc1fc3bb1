-- An item of a desk is handled: how much the work grows.
use Rattle.std.proofs.Common.{◌≡◌, ◌≤◌, ◌<◌, ℕ, suc, ◌+◌, ◌-◌, ◌*◌, Bool, true, false, cond, nat_eq, not, List, [], ◌∷◌, ◌++◌, drop, length, refl, sym, ap, ◌∙◌, subst, arith}
use Rattle.std.specs.Prelude.{◌&&◌, Option, Some, None}
use Rattle.mesh_rules.specs.{declared.limits.TheConstants.{MOST_LEGS, MOST_LINKS_OF_ROUTE}, declared.neighbours.Neighbour.Neighbour, Alarms.{enters, knows_down, on_alarm, on_clear}, Calls.{find_call, is_bare, is_stuck, is_turned}, Changes.{Answer, changes_calls, followed_by, nothing}, Commands.{is_searchable, is_valid}, Events.{first_route, or_route}, FirstLegs.{first_link, is_full, lacks_first_back}, KnownRows.known_rows, LeastRoutes.{Trip, least_trip}, Legs.{closed, following, leg_of}, LocalNodes.{LocalNode, local_node, own_link}, Machine.{Mesh, commit}, Orders.on_item, Protects.{protect_with, protects}, Releases.{release_with, releases, tear_to, tears}, Retries.retry_with, Reverts.revert_with, Setups.{SetupRequest, admitted_setup, call_record, is_order_here, is_spent, new_call, next_lsp, over_first, over_found, refused_setup, setup_with, working_lsp}, State.NodeState, Turns.has_any}
use Rattle.ason_base.specs.{Network.{Network, is_node_id}, declared.ids.Lsp.Lsp, declared.ids.CallNo.CallNo, declared.ids.NodeId.NodeId, declared.messages.PathRole.TheVariants.Work, declared.steps.Step.Step, declared.network.LinkSpec.LinkSpec, declared.calls.CallState.TheVariants.Asking, declared.calls.Cause.Cause, declared.calls.Cause.TheVariants.{Code, Full, NoRoute, Spent, Unset}, declared.commands.Command.Command, declared.commands.Command.TheVariants.{Setup, Release, Protect, Retry, Revert, Fail, Repair}, declared.commands.DeskItem.DeskItem, declared.commands.DeskItem.TheVariants.{Order, Alarm, Clear}, declared.tables.CallRec.CallRec, declared.tables.Leg.Leg, declared.tables.Out.Out, Codes.{fibre_down_code, fibre_up_code, label_code}, Lsps.has_fibre, declared.codes.ErrCode.ErrCode, declared.ids.Fibre.Fibre, declared.messages.PathRole.PathRole}
use Rattle.mesh_rules.specs.declared.changes.CallChange.TheVariants as call
use Rattle.lsp_laws.specs.HopLaw.{leg_at, messages_of}
use Rattle.mesh_nodes.proofs.{Cases.if_cases, LegList.same_lsp-refl}
use Rattle.lsp_laws.proofs.{hops.NoticesTold.{all_notices, notifies-begin_none}, hops.Planned.{EachFollows, or_none}, hops.Released.own_tears, hops.Run.{ItemFits, StepFacts}, hops.Ticked.turned_is, hops.Views.leg-here}
use Rattle.mesh_laws.specs.Weights.{FirstRoutes, hops_in, item_weight, path_weight, place_in, weight, notify_weight, way, tear_most, pair_most, turn_most, begin_most}
use Rattle.mesh_laws.proofs.{rest.BeginRests.new-blank, rest.Committed.sent_weight, rest.CallRests.{back-expand, none-expand, pair-expand, turn-expand}, rest.Expanded.{Expands, IsRouteKnown, begins-expand, expands-known, expands-more, expands-quiet, first-short}, rest.Grown.{GrowsBy, grows, grows-quiet, grows-then}, rest.Light.stay-own, rest.LegWeights.{closed-deaf, deaf-light, path-most, path-still}, rest.Near.{LightFor, light-both, near-light}, rest.NoticeRests.{alarm-grow, clear-grow}, rest.TurnRests.AreShort}
use Rattle.ason_base.proofs.Bools.{and-left, and-right}

-- Tears

any-closes : (x : Option Leg) (g : Leg) (r : PathRole) (k : ℕ) → path_weight r (Some (closed g)) k ≤ path_weight r x k
any-closes None g r k = path-most r (Some (closed g)) k
any-closes (Some h) g r k = path-still r h (closed g) k

on-most : (o : FirstRoutes) → AreShort o → (l : Lsp) (n : ℕ) →
    suc (way * (hops_in (o l) - place_in (o l) n)) + 0 ≤ tear_most
on-most o short l n = go (o l) refl
  where
    go : (c : Option (List Step)) → o l ≡ c → suc (way * (hops_in c - place_in c n)) + 0 ≤ tear_most
    go None is = omega arith
    go (Some route) is = let small = short l route is in omega arith

module _ (t : Network) (o : FirstRoutes) (short : AreShort o) (n : NodeId) where
  tears-grow : (s : Mesh) (h : Option Leg) → GrowsBy o s n tear_most (tears h)
  tears-grow s None = grows-quiet o s n nothing tear_most (record { legs = refl; sent = refl; numbers = refl })
  tears-grow s (Some g) =
      let a : Answer = tears (Some g) in
      grows o o s n.0 a
      (stay-own o s n g.lsp a (own_tears t s o g.lsp g refl)
      (λ x. near-light o s (commit s n.0 a) g.lsp x n.0 (s.mail x n.0)
      (subst (λ (b : Option Leg). LightFor (leg_at s g.lsp n) b (messages_of g.lsp (s.mail x n.0)))
      (sym (leg-here s n g.lsp a ∙ rw (same_lsp-refl g.lsp) refl))
      (light-both _ _ _ (any-closes (leg_at s g.lsp n) g)
      (deaf-light (leg_at s g.lsp n) (closed g) (closed-deaf g.phase g.role)))))) tear_most
      (by_next (following g))
    where
      by_next : (h : Option Neighbour) →
          sent_weight (weight o (commit s n.0 (tears (Some g))) n.0) (tear_to g h) ≤ tear_most
      by_next None = omega arith
      by_next (Some h) = on-most o short g.lsp n.0

no-first : (l : Lsp) (h : Option Leg) (outs : List Out) → first_route l ((tears h).sent ++ outs) ≡ first_route l outs
no-first l None outs = refl
no-first l (Some g) outs = go (following g)
  where
    go : (h : Option Neighbour) → first_route l (tear_to g h ++ outs) ≡ first_route l outs
    go None = refl
    go (Some h) = refl

module _ (t : Network) (s : Mesh) (n : NodeId) (o : FirstRoutes) (f : EachFollows t s o) (short : AreShort o)
    (facts : StepFacts t s) (few : length (s.nodes n.0).legs ≤ MOST_LEGS) where
  abbrev place : LocalNode
  place = local_node t n

  abbrev state : NodeState
  state = s.nodes n.0

  none : (more : ℕ) → Expands s n o more nothing
  none more = none-expand t s n o f short more

  -- A release

  release-expand : (from : NodeId) (c : Option CallRec) →
      Expands s n o (2 * tear_most) (release_with place state from c)
  release-expand from None = none (2 * tear_most)
  release-expand from (Some c) =
      if_cases (Expands s n o (2 * tear_most)) (nat_eq from.0 n.0) _ _
      (λ h. expands-known s n o (2 * tear_most) (releases state c) known grow)
      (λ h. none (2 * tear_most))
    where
      known : IsRouteKnown o (releases state c)
      known l =
          ap (or_route (o l)) (no-first l (leg_of c.work state.legs)
          (followed_by (tears (leg_of c.back state.legs)) (changes_calls (call.Goes c.call ∷ []))).sent ∙
          no-first l (leg_of c.back state.legs) []) ∙
          or_none (o l)

      grow : GrowsBy o s n (2 * tear_most) (releases state c)
      grow =
          grows-then o s n (tears (leg_of c.work state.legs))
          (followed_by (tears (leg_of c.back state.legs)) (changes_calls (call.Goes c.call ∷ []))) tear_most tear_most
          (tears-grow t o short n s (leg_of c.work state.legs))
          (grows-then o (commit s n.0 (tears (leg_of c.work state.legs))) n (tears (leg_of c.back state.legs))
          (changes_calls (call.Goes c.call ∷ [])) tear_most 0
          (tears-grow t o short n (commit s n.0 (tears (leg_of c.work state.legs))) (leg_of c.back state.legs))
          (grows-quiet o
          (commit (commit s n.0 (tears (leg_of c.work state.legs))) n.0 (tears (leg_of c.back state.legs))) n
          (changes_calls (call.Goes c.call ∷ [])) 0 (record { legs = refl; sent = refl; numbers = refl })))

  -- Orders of calls

  protects-expand : (k : CallNo) (c : CallRec) → find_call k state.calls ≡ Some c → is_searchable t ≡ true →
      (w : Option Leg) → leg_of c.work state.legs ≡ w → Expands s n o pair_most (protects place state c w)
  protects-expand k c found searchable None e = none pair_most
  protects-expand k c found searchable (Some w) e =
      pair-expand t s n o f short state refl c w (facts.protect n k c w found e searchable).begins

  protect-expand : (k : CallNo) (from : NodeId) → is_searchable t ≡ true → (c : Option CallRec) →
      find_call k state.calls ≡ c → Expands s n o pair_most (protect_with place state from c)
  protect-expand k from searchable None e = none pair_most
  protect-expand k from searchable (Some c) e =
      if_cases (Expands s n o pair_most) (nat_eq from.0 n.0 && is_bare c.state) _ _
      (λ h. protects-expand k c e searchable (leg_of c.work state.legs) refl) (λ h. none pair_most)

  retry-expand : (k : CallNo) (from : NodeId) (c : Option CallRec) → find_call k state.calls ≡ c →
      Expands s n o turn_most (retry_with place state from c)
  retry-expand k from None e = none turn_most
  retry-expand k from (Some c) e =
      if_cases (Expands s n o turn_most) (nat_eq from.0 n.0) _ _
      (λ h. if_cases (Expands s n o turn_most)
      (is_stuck c.state && (has_any c.work_reports && not (has_any c.back_reports))) _ _
      (λ st. turn-expand t s n o f short state.legs c (leg_of c.back state.legs)
      (λ b here. (facts.backs n k c e b here).begins))
      (λ st. none turn_most)) (λ h. none turn_most)

  revert-expand : (k : CallNo) (from : NodeId) (c : Option CallRec) → find_call k state.calls ≡ c →
      Expands s n o MOST_LINKS_OF_ROUTE (revert_with place state from c)
  revert-expand k from None e = none MOST_LINKS_OF_ROUTE
  revert-expand k from (Some c) e =
      if_cases (Expands s n o MOST_LINKS_OF_ROUTE) (nat_eq from.0 n.0) _ _
      (λ h. if_cases (Expands s n o MOST_LINKS_OF_ROUTE) (is_turned c.state && not (has_any c.work_reports)) _ _
      (λ w. back-expand t s n o f short c (leg_of c.back state.legs) c.state
      (turned_is c.state (and-left (is_turned c.state) _ w)) (facts.backs n k c e)) (λ w. none MOST_LINKS_OF_ROUTE))
      (λ h. none MOST_LINKS_OF_ROUTE)

  -- A setup

  module _ (w : SetupRequest) where
    refused : (cause : Cause) → Expands s n o begin_most (refused_setup w cause)
    refused cause = expands-quiet s n o begin_most (refused_setup w cause)
        (record { legs = refl; sent = refl; numbers = refl })

    admitted : (out : LinkSpec) (route : List Step) → length route < MOST_LINKS_OF_ROUTE →
        Expands s n o begin_most (admitted_setup place state w out route)
    admitted out route small =
        if_cases (Expands s n o begin_most) (is_spent state) _ _ (λ h. refused Spent)
        (λ h. if_cases (Expands s n o begin_most) (is_full state) _ _ (λ h. refused Full)
        (λ h. if_cases (Expands s n o begin_most) (lacks_first_back place state w.both (Work w.protected) out) _ _
        (λ h. refused (Code label_code))
        (λ h. (let blank = new-blank t s o n (next_lsp place state) f refl (omega arith) in
        expands-more s n o (suc (length route) + way * (way + 3)) begin_most _ (omega arith)
        (begins-expand t s o n state (working_lsp place state w out route)
        (call_record w Asking (Some (next_lsp place state)) Unset)
        (record { tunnel = state.tunnel + 1; lsp = state.lsp + 1 }) blank.1 blank.0 small)))))

    over : (route : List Step) (out : Option LinkSpec) → first_link place route ≡ out →
        Expands s n o begin_most (over_first place state w route out)
    over route None is = none begin_most
    over route (Some out) is = admitted out (drop 1 route) (first-short place route out is)

    found : (r : Option Trip) → Expands s n o begin_most (over_found place state w r)
    found None = refused NoRoute
    found (Some r) = over r.steps (first_link place r.steps) refl

    via : (route : Option (List Step)) → Expands s n o begin_most (new_call place state w route)
    via None = found (least_trip (known_rows place state) n w.egress)
    via (Some route) = over route (first_link place route) refl

    setup-expand : (c : Option CallRec) → Expands s n o begin_most (setup_with place state w c)
    setup-expand (Some c) = none begin_most
    setup-expand None = if_cases (Expands s n o begin_most) (is_order_here place w) _ _ (λ h. via w.via)
        (λ h. none begin_most)

  -- Every item

  told-known : (a : Answer) (fibre : Fibre) (b : Bool) (fibres : List Fibre) (code : ErrCode) →
      IsRouteKnown o (cond b (knows_down place state fibre code fibres) nothing)
  told-known a fibre true fibres code l =
      ap (or_route (o l)) (notifies-begin_none l _ (all_notices place fibre code state.legs)) ∙ or_none (o l)
  told-known a fibre false fibres code l = or_none (o l)

  -- less than the item weighs
  pub record ItemExpands (i : DeskItem) : Type 0 where
    pub more : ℕ
    pub expands : Expands s n o more (on_item place state i)
    pub less : more < item_weight i

  order-expands : (c : Command) → is_valid t c ≡ true → ItemExpands (Order c)
  order-expands (Setup k from to protected both v backup) valid = record {
    more = begin_most;
    expands = setup-expand
        (record { call = k; from = from; egress = to; protected = protected; both = both; via = v; backup = backup })
        (find_call k state.calls);
    less = omega arith;
  }
  order-expands (Release k from) valid =
      record { more = (2 * tear_most); expands = release-expand from (find_call k state.calls); less = omega arith }
  order-expands (Protect k from) valid = record {
    more = pair_most;
    expands = protect-expand k from (and-right (is_node_id t.nodes from) _ valid) (find_call k state.calls) refl;
    less = omega arith;
  }
  order-expands (Retry k from) valid =
      record { more = turn_most; expands = retry-expand k from (find_call k state.calls) refl; less = omega arith }
  order-expands (Revert k from) valid =
      record {
        more = MOST_LINKS_OF_ROUTE;
        expands = revert-expand k from
            (find_call k state.calls) refl;
        less = omega arith;
      }
  order-expands (Fail g) valid = record { more = 0; expands = none 0; less = omega arith }
  order-expands (Repair g) valid = record { more = 0; expands = none 0; less = omega arith }

  -- An item of a desk sets off no more than it weighs.
  pub item-expands : (i : DeskItem) → ItemFits t i → ItemExpands i
  item-expands (Order c) fits = order-expands c fits
  item-expands (Alarm g) fits = record {
    more = MOST_LEGS * notify_weight;
    expands = expands-known s n o (MOST_LEGS * notify_weight) (on_alarm place state g)
        (told-known nothing g (enters place g (own_link place g.link) && not (has_fibre state.down g)) _
        fibre_down_code)
        (alarm-grow t s n o short few g);
    less = omega arith;
  }
  item-expands (Clear g) fits = record {
    more = MOST_LEGS * notify_weight;
    expands = expands-known s n o (MOST_LEGS * notify_weight) (on_clear place state g)
        (told-known nothing g (enters place g (own_link place g.link) && has_fibre state.down g) _ fibre_up_code)
        (clear-grow t s n o short few g);
    less = omega arith;
  }
