-- What orders, alarms, clears and ticks do with labels that are sent: none lets go of an LSP, and no leg sends more.
use Rattle.std.proofs.Common.{◌≡◌, ◌+◌, ℕ, not, drop, nat_eq, nat_le, List, [], ◌∷◌, refl, arith}
use Rattle.std.specs.Prelude.{◌&&◌, Option, Some, None, IfSome}
use Rattle.ason_base.specs.{Codes.label_code, Lsps.has_fibre, declared.calls.Cause.Cause, declared.calls.Cause.TheVariants.{Code, Full, NoRoute, Spent}, declared.codes.ErrCode.ErrCode, declared.commands.Command.TheVariants.{Setup, Release, Protect, Retry, Revert, Fail, Repair}, declared.commands.DeskItem.DeskItem, declared.commands.DeskItem.TheVariants.{Order, Alarm, Clear}, declared.ids.CallNo.CallNo, declared.ids.Fibre.Fibre, declared.ids.Lsp.Lsp, declared.ids.NodeId.NodeId, declared.calls.Role.TheVariants.Work, declared.network.LinkSpec.LinkSpec, declared.steps.Step.Step, declared.tables.CallRec.CallRec, declared.tables.Leg.Leg}
use Rattle.ason_base.specs.declared.messages.PathRole.TheVariants as path
use Rattle.ason_base.proofs.JoinedEnds.{same-node}
use Rattle.mesh_rules.specs.declared.changes.CallChange.TheVariants as call
use Rattle.mesh_rules.specs.{declared.neighbours.Neighbour.Neighbour, Alarms.{enters, notice_of, notices, notify_to}, Calls.{find_call, is_bare, is_stuck, is_turned}, Changes.{Answer, changes_calls, followed_by, nothing}, FirstLegs.{first_link, is_full, lacks_first_back}, KnownRows.known_rows, LeastRoutes.{Trip, least_trip}, Legs.{following, leg_of, previous}, LocalNodes.{LocalNode, own_link}, Orders.on_item, Protects.{protect_with, protects}, Releases.{release_with, tear_to, tears}, Retries.retry_with, Reverts.revert_with, Setups.{SetupRequest, is_order_here, is_spent, new_call, over_first, over_found, refused_setup, setup_with, working_lsp}, State.NodeState, Turns.has_any, Waits.{all_ticked, on_tick, call_ticked}}
use Rattle.mesh_nodes.proofs.Cases.{if_cases}
use Rattle.lsp_laws.proofs.{hops.NamedPhases.named_is, nodes.Facts.NodeFacts, nodes.LegEnds.leg_of-own}
use Rattle.mesh_laws.proofs.{sent.CallsHear.{backup-may, first-may, go_back-calm, pair-calm, put-calm, turn-calm}, sent.May.{CalmAnswer, Given, May, NoneRemoves, append-removes, both, closed-may, idle, leg_of-may}}

module _ (p : LocalNode) (s : NodeState) (Q : Given) (facts : NodeFacts p.id.0 s) where
  abbrev IsCalm : Answer → Type 0
  IsCalm a = CalmAnswer p s Q a

  still : IsCalm nothing
  still = idle p s Q

  leg_may : (o : Option Lsp) → IfSome (leg_of o s.legs) (May p s Q)
  leg_may o = leg_of-may p s Q o

  -- Orders

  setup-calm : (w : SetupRequest) (o : Option CallRec) → IsCalm (setup_with p s w o)
  setup-calm w (Some c) = still
  setup-calm w None = if_cases IsCalm (is_order_here p w) _ _ (λ e. new w.via) (λ e. still)
    where
      refused : (cause : Cause) → IsCalm (refused_setup w cause)
      refused cause = record { legs = tt; sent = tt }

      over : (route : List Step) (o : Option LinkSpec) → IsCalm (over_first p s w route o)
      over route None = still
      over route (Some out) =
          if_cases IsCalm (is_spent s) _ _ (λ e. refused Spent)
          (λ e. if_cases IsCalm (is_full s) _ _ (λ e. refused Full)
          (λ e. if_cases IsCalm (lacks_first_back p s w.both (path.Work w.protected) out) _ _
          (λ e. refused (Code label_code))
          (λ e. record {
            legs = (first-may p s Q (working_lsp p s w out (drop 1 route)) refl (omega arith), tt);
            sent = (refl, tt);
          })))

      found : (o : Option Trip) → IsCalm (over_found p s w o)
      found None = refused NoRoute
      found (Some r) = over r.steps (first_link p r.steps)

      new : (via : Option (List Step)) → IsCalm (new_call p s w via)
      new None = found (least_trip (known_rows p s) p.id w.egress)
      new (Some route) = over route (first_link p route)

  protect-calm : (k : CallNo) (from : NodeId) (o : Option CallRec) → find_call k s.calls ≡ o →
      IsCalm (protect_with p s from o)
  protect-calm k from None found = still
  protect-calm k from (Some c) found =
      if_cases IsCalm (nat_eq from.0 p.id.0 && is_bare c.state) _ _ (λ e. go (leg_of c.work s.legs) refl) (λ e. still)
    where
      go : (o : Option Leg) → leg_of c.work s.legs ≡ o → IsCalm (protects p s c o)
      go None is = still
      go (Some w) is =
          let own = leg_of-own c.work s.legs w is in
          let named = named_is p.id.0 s.lsp s.legs Work c.egress c.work w.lsp (facts.call k c found).work own.0 in
          pair-calm p s Q c w (same-node w.lsp.ingress p.id named.ingress)

  retry-calm : (k : CallNo) (from : NodeId) (o : Option CallRec) → find_call k s.calls ≡ o →
      IsCalm (retry_with p s from o)
  retry-calm k from None found = still
  retry-calm k from (Some c) found =
      if_cases IsCalm (nat_eq from.0 p.id.0) _ _
      (λ e. if_cases IsCalm (is_stuck c.state && (has_any c.work_reports && not (has_any c.back_reports))) _ _
      (λ e. turn-calm p s Q c (leg_of c.back s.legs) (backup-may p s Q facts k c found)) (λ e. still))
      (λ e. still)

  revert-calm : (from : NodeId) (o : Option CallRec) → IsCalm (revert_with p s from o)
  revert-calm from None = still
  revert-calm from (Some c) =
      if_cases IsCalm (nat_eq from.0 p.id.0) _ _
      (λ e. if_cases IsCalm (is_turned c.state && not (has_any c.work_reports)) _ _
      (λ e. go_back-calm p s Q c (leg_of c.back s.legs) (leg_may c.back)) (λ e. still))
      (λ e. still)

  release-calm : (from : NodeId) (o : Option CallRec) → IsCalm (release_with p s from o)
  release-calm from None = still
  release-calm from (Some c) =
      if_cases IsCalm (nat_eq from.0 p.id.0) _ _
      (λ e. both p s Q (tears (leg_of c.work s.legs)) (followed_by (tears (leg_of c.back s.legs)) goes) (torn_of c.work)
      (both p s Q (tears (leg_of c.back s.legs)) goes (torn_of c.back) (record { legs = tt; sent = tt })))
      (λ e. still)
    where
      goes : Answer
      goes = changes_calls (call.Goes c.call ∷ [])

      tear-none : (g : Leg) (o : Option Neighbour) → NoneRemoves (tear_to g o)
      tear-none g None = tt
      tear-none g (Some h) = (refl, tt)

      one : (o : Option Leg) → IfSome o (May p s Q) → IsCalm (tears o)
      one None may = still
      one (Some g) may = record { legs = (closed-may p s Q g may, tt); sent = tear-none g (following g) }

      torn_of : (o : Option Lsp) → IsCalm (tears (leg_of o s.legs))
      torn_of o = one (leg_of o s.legs) (leg_may o)

  -- Alarms and clears

  notices-none : (f : Fibre) (code : ErrCode) (legs : List Leg) → NoneRemoves (notices p f code legs)
  notices-none f code [] = tt
  notices-none f code (g ∷ legs) =
      append-removes (notice_of p f code g) (notices p f code legs)
      (if_cases NoneRemoves _ (notify_to p f code g (previous g)) [] (λ e. told (previous g)) (λ e. tt))
      (notices-none f code legs)
    where
      told : (o : Option Neighbour) → NoneRemoves (notify_to p f code g o)
      told None = tt
      told (Some h) = (refl, tt)

  -- each item of a desk
  pub item-calm : (i : DeskItem) → CalmAnswer p s Q (on_item p s i)
  item-calm (Order (Setup n from to protected two via backup)) = setup-calm _ (find_call n s.calls)
  item-calm (Order (Release n from)) = release-calm from (find_call n s.calls)
  item-calm (Order (Protect n from)) = protect-calm n from (find_call n s.calls) refl
  item-calm (Order (Retry n from)) = retry-calm n from (find_call n s.calls) refl
  item-calm (Order (Revert n from)) = revert-calm from (find_call n s.calls)
  item-calm (Order (Fail g)) = still
  item-calm (Order (Repair g)) = still
  item-calm (Alarm f) =
      if_cases IsCalm (enters p f (own_link p f.link) && not (has_fibre s.down f)) _ _
      (λ e. record { legs = tt; sent = notices-none f _ s.legs }) (λ e. still)
  item-calm (Clear f) =
      if_cases IsCalm (enters p f (own_link p f.link) && has_fibre s.down f) _ _
      (λ e. record { legs = tt; sent = notices-none f _ s.legs }) (λ e. still)

  -- Ticks

  tick-calm : (wait : ℕ) (calls : List CallRec) → IsCalm (all_ticked wait s.legs calls)
  tick-calm wait [] = still
  tick-calm wait (c ∷ calls) =
      both p s Q (call_ticked wait s.legs c) (all_ticked wait s.legs calls) one (tick-calm wait calls)
    where
      one : IsCalm (call_ticked wait s.legs c)
      one =
          if_cases IsCalm (not (nat_eq wait 0) && (is_turned c.state && not (has_any c.work_reports))) _ _
          (λ e. if_cases IsCalm (nat_le wait (c.ticks + 1)) _ _
          (λ e. go_back-calm p s Q c (leg_of c.back s.legs) (leg_may c.back)) (λ e. put-calm p s Q _))
          (λ e. still)

  -- a tick of the node
  pub ticks-calm : CalmAnswer p s Q (on_tick p s)
  ticks-calm = tick-calm p.wait s.calls
