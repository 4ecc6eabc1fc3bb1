-- What a call's steps do with labels that are sent: none lets go of an LSP, and no leg sends more.
use Rattle.std.proofs.Common.{◌≡◌, ◌≤◌, Bool, true, false, drop, nat_lt, List, refl, arith}
use Rattle.std.specs.Prelude.{Option, Some, None, IfSome, is_some}
use Rattle.ason_base.specs.{Codes.{busy_code, label_code}, Risks.unknown_link, declared.calls.CallState.CallState, declared.calls.CallState.TheVariants.{Asking, Bare, Blocked, Guarded, Pairing, Stuck, Turned, Turning}, declared.calls.Cause.Cause, declared.calls.Cause.TheVariants.{BackDown, Code, Full, NoBackup, Spent}, declared.calls.Phase.TheVariants.Armed, declared.calls.Role.TheVariants.Back, declared.codes.ErrCode.ErrCode, declared.ids.CallNo.CallNo, declared.network.LinkSpec.LinkSpec, declared.steps.Step.Step, declared.tables.CallRec.CallRec, declared.tables.Leg.Leg}
use Rattle.ason_base.proofs.JoinedEnds.{same-node}
use Rattle.mesh_rules.specs.{declared.limits.TheConstants.LAST_NUMBER, declared.neighbours.Neighbour.Neighbour, CallSteps.{call_answered, call_contended, call_refused, call_turned}, Calls.{bare, blocked, find_call, guarded, is_asking, is_pairing, is_turning, stuck, turned}, Changes.{Answer, nothing}, FirstLegs.{NewLsp, first_leg, first_link, is_full, lacks_first_back}, KnownRows.known_rows, Legs.{following, is_contended, is_held, is_in_use, is_work, leg_of}, LocalNodes.LocalNode, Pairs.{backup_lsp, backup_route, guarding, is_two_way, leaves_bare, over_backup, pair, pair_over, route_from}, State.NodeState, Turns.{activating_path, call_put, decide, decided, go_back, has_any, taking_path, turn}}
use Rattle.mesh_nodes.proofs.Cases.{if_cases}
use Rattle.lsp_laws.proofs.{hops.NamedPhases.named_is, nodes.Facts.NodeFacts, nodes.LegEnds.leg_of-own}
use Rattle.mesh_laws.proofs.{sent.LegsHear.first-sends, sent.May.{CalmAnswer, Given, May, MayHere, NoneRemoves, SaidFirst, found-may, held-may, here-may, idle}}

module _ (p : LocalNode) (s : NodeState) (Q : Given) where
  abbrev IsCalm : Answer → Type 0
  IsCalm a = CalmAnswer p s Q a

  still : IsCalm nothing
  still = idle p s Q

  -- the first leg of an LSP that begins here
  pub first-may : (n : NewLsp) → n.lsp.ingress ≡ p.id → s.lsp ≤ n.lsp.lsp → May p s Q (first_leg p (known_rows p s) n)
  first-may n here new = record {
    sent = λ f x h. absurd (first-sends p (known_rows p s) n f x h);
    says = SaidFirst here new;
    arms = λ back used away. absurd (cc used);
    way = λ h there given. absurd (omega arith);
  }

  -- What a call makes of its state, its backup and its working LSP, a lemma for each of the definitions
  pub put-calm : (c : CallRec) → CalmAnswer p s Q (call_put c)
  put-calm c = record { legs = tt; sent = tt }

  activating-none : (b : Leg) (o : Option Neighbour) → NoneRemoves (activating_path b o)
  activating-none b None = tt
  activating-none b (Some h) = (refl, tt)

  taking-none : (b : Leg) (o : Option Neighbour) → NoneRemoves (taking_path b o)
  taking-none b None = tt
  taking-none b (Some h) = (refl, tt)

  pub turn-calm : (c : CallRec) (o : Option Leg) → IfSome o (MayHere p s Q) → CalmAnswer p s Q (turn s.legs c o)
  turn-calm c None may = put-calm c
  turn-calm c (Some b) may =
      if_cases IsCalm (is_held b.phase) _ _
      (λ e. if_cases IsCalm (is_contended s.legs b) _ _ (λ busy. put-calm (stuck c (Code busy_code)))
      (λ free. record { legs = ((here-may p s Q Armed b may).0, tt); sent = activating-none b (following b) }))
      (λ e. put-calm c)

  pub go_back-calm : (c : CallRec) (o : Option Leg) → IfSome o (May p s Q) → CalmAnswer p s Q (go_back c o)
  go_back-calm c None may = put-calm c
  go_back-calm c (Some b) may =
      if_cases IsCalm (is_in_use b.phase) _ _
      (λ e. record { legs = (held-may p s Q b may, tt); sent = taking-none b (following b) })
      (λ e. put-calm c)

  may-of : (o : Option Leg) → IfSome o (MayHere p s Q) → IfSome o (May p s Q)
  may-of None may = tt
  may-of (Some b) may = may.0

  decided-calm : (c : CallRec) (o : Option Leg) (state : CallState) (works backs : Bool) → IfSome o (MayHere p s Q) →
      IsCalm (decided s.legs c o state works backs)
  decided-calm c o Asking works backs may = put-calm c
  decided-calm c o Blocked works backs may = put-calm c
  decided-calm c o Bare works backs may = put-calm c
  decided-calm c o Pairing works backs may = put-calm c
  decided-calm c o Guarded true false may = turn-calm c o may
  decided-calm c o Guarded true true may = put-calm (stuck c BackDown)
  decided-calm c o Guarded false backs may = put-calm c
  decided-calm c o Turning works backs may = put-calm c
  decided-calm c o Turned true backs may = put-calm c
  decided-calm c o Turned false true may = go_back-calm c o (may-of o may)
  decided-calm c o Turned false false may = put-calm c
  decided-calm c o Stuck true backs may = put-calm c
  decided-calm c o Stuck false backs may = put-calm (guarded c)

  pub decide-calm : (c : CallRec) (o : Option Leg) → IfSome o (MayHere p s Q) → CalmAnswer p s Q (decide s.legs c o)
  decide-calm c o may = decided-calm c o c.state (has_any c.work_reports) (has_any c.back_reports) may

  bare-calm : (c : CallRec) (cause : Cause) → IsCalm (leaves_bare c cause)
  bare-calm c cause = record { legs = tt; sent = tt }

  -- a backup is asked for beside a working LSP that begins here
  pub pair-calm : (c : CallRec) (w : Leg) → w.lsp.ingress ≡ p.id → CalmAnswer p s Q (pair p s c w)
  pair-calm c w here =
      if_cases IsCalm (is_some (unknown_link (known_rows p s) (route_from p w))) _ _ (λ e. bare-calm c NoBackup)
      (λ e. along (backup_route p s c w))
    where
      over : (route : List Step) (o : Option LinkSpec) → IsCalm (over_backup p s c w route o)
      over route None = bare-calm c NoBackup
      over route (Some out) =
          if_cases IsCalm (nat_lt LAST_NUMBER s.lsp) _ _ (λ e. bare-calm c Spent)
          (λ e. if_cases IsCalm (is_full s) _ _ (λ e. bare-calm c Full)
          (λ e. if_cases IsCalm (lacks_first_back p s (is_two_way w) (guarding p w) out) _ _
          (λ e. bare-calm c (Code label_code))
          (λ e. record {
            legs = (first-may (backup_lsp p s w out (drop 1 route)) here (omega arith), tt);
            sent = (refl, tt);
          })))

      along : (o : Option (List Step)) → IsCalm (pair_over p s c w o)
      along None = bare-calm c NoBackup
      along (Some route) = over route (first_link p route)

  pub answered-calm : (g : Leg) (o : Option CallRec) → MayHere p s Q g → CalmAnswer p s Q (call_answered p s g o)
  answered-calm g None may = still
  answered-calm g (Some c) may =
      if_cases IsCalm (is_work g.role) _ _
      (λ e. if_cases IsCalm (is_asking c.state) _ _
      (λ e. if_cases IsCalm c.protected _ _ (λ e. pair-calm c g may.1) (λ e. put-calm (bare c))) (λ e. still))
      (λ e. if_cases IsCalm (is_pairing c.state) _ _ (λ e. decide-calm (guarded c) (Some g) may) (λ e. still))

  pub turned-calm : (b : Leg) (o : Option CallRec) → MayHere p s Q b → CalmAnswer p s Q (call_turned s b o)
  turned-calm b None may = still
  turned-calm b (Some c) may =
      if_cases IsCalm (is_turning c.state) _ _ (λ e. decide-calm (turned c) (Some b) may) (λ e. still)

  pub contended-calm : (b : Leg) (o : Option CallRec) → MayHere p s Q b → CalmAnswer p s Q (call_contended s b o)
  contended-calm b None may = still
  contended-calm b (Some c) may =
      if_cases IsCalm (is_turning c.state) _ _ (λ e. decide-calm (stuck c (Code busy_code)) (Some b) may)
      (λ e. still)

  pub refused-calm : (code : ErrCode) (g : Leg) (o : Option CallRec) → CalmAnswer p s Q (call_refused code g o)
  refused-calm code g None = still
  refused-calm code g (Some c) =
      if_cases IsCalm (is_work g.role) _ _
      (λ e. if_cases IsCalm (is_asking c.state) _ _ (λ e. put-calm (blocked c (Code code))) (λ e. still))
      (λ e. if_cases IsCalm (is_pairing c.state) _ _ (λ e. bare-calm c (Code code)) (λ e. still))

-- the leg of a call's backup begins here
pub backup-may : (p : LocalNode) (s : NodeState) (Q : Given) → NodeFacts p.id.0 s → (k : CallNo) (c : CallRec) →
    find_call k s.calls ≡ Some c → IfSome (leg_of c.back s.legs) (MayHere p s Q)
backup-may p s Q facts k c found = go (leg_of c.back s.legs) refl
  where
    go : (o : Option Leg) → leg_of c.back s.legs ≡ o → IfSome o (MayHere p s Q)
    go None is = tt
    go (Some b) is =
        let own = leg_of-own c.back s.legs b is in
        let named = named_is p.id.0 s.lsp s.legs Back c.egress c.back b.lsp (facts.call k c found).back own.0 in
        (found-may p s Q b.lsp b own.1, same-node b.lsp.ingress p.id named.ingress)
