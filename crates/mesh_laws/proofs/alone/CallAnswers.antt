-- What a message about its LSPs makes of a call concerns one of the groups.
use Rattle.std.proofs.Common.{◌≡◌, true, false, nat_lt, List, drop, refl, sym, subst}
use Rattle.std.specs.Prelude.{Option, Some, None, is_some}
use Rattle.ason_base.specs.{Network.Network, Risks.unknown_link, declared.codes.ErrCode.ErrCode, declared.ids.Lsp.Lsp, declared.network.LinkSpec.LinkSpec, declared.calls.CallState.TheVariants.{Bare, Guarded, Turned}, declared.calls.Cause.Cause, declared.calls.Cause.TheVariants.{Code, Full, NoBackup, Spent}, declared.commands.Group.Group, declared.steps.Step.Step, declared.tables.CallRec.CallRec, declared.tables.Leg.Leg, Codes.label_code}
use Rattle.mesh_rules.specs.{declared.limits.TheConstants.LAST_NUMBER, Calls.{bare, blocked, call_with, guarded, is_asking, is_pairing, is_turning, turned, unbacked}, CallSteps.{backup_refused, backup_reserved, call_answered, call_refused, call_turned, work_connected, work_refused}, Changes.nothing, FirstLegs.{first_leg, first_link, is_full, lacks_first_back}, KnownRows.known_rows, Legs.{find_leg, is_work}, LocalNodes.LocalNode, Pairs.{backup_lsp, backup_route, begins_backup, beside_lsp, guarding, is_two_way, leaves_bare, over_backup, pair, pair_over, route_from}, State.NodeState, Turns.{activating, call_put, decide, has_any}}
use Rattle.mesh_nodes.proofs.Cases.{if_cases}
use Rattle.lsp_laws.proofs.nodes.Facts.{SharesAll}
use Rattle.mesh_laws.proofs.{alone.Calls.{LegMayTurn, MayTurnBackup, blocked-holds, called-holds, called-knows, decide-fine, in_state, its-backup, may-turn, pairing-holds, turned-fine, unbacked-holds}, alone.Facts.{CallKnows, NodeKnows, LspRoutes}, alone.Fine.{CallHolds, Fine, NodeHolds, fine-call, fine-nothing}, alone.Groups.{RoleConcerns, has_one}, alone.Legs.{IsLegAlone, idle-concerns, not_contended}}

module _ (t : Network) (gs : List Group) (o : LspRoutes) (p : LocalNode) (s : NodeState)
    (knows : NodeKnows t o p s) (holds : NodeHolds t gs o s) where
  known : (l : Lsp) (c : CallRec) → call_with l s.calls ≡ Some c → CallKnows t o s.legs c
  known = called-knows t gs o p s knows holds

  held : (l : Lsp) (c : CallRec) → call_with l s.calls ≡ Some c → CallHolds t gs o c
  held = called-holds t gs o p s knows holds

  -- Pairs

  bare-fine : (c : CallRec) (cause : Cause) → CallHolds t gs o c → Fine t gs o (leaves_bare c cause)
  bare-fine c cause of = fine-call t gs o (unbacked c cause) (unbacked-holds t gs o c cause of)

  begins-fine : (c : CallRec) (w : Leg) (out : LinkSpec) (route : List Step) → CallHolds t gs o c →
      Fine t gs o (begins_backup p s c w out route)
  begins-fine c w out route of = record {
    legs = (idle-concerns gs (first_leg p (known_rows p s) (backup_lsp p s w out route)) refl, tt);
    calls = (pairing-holds t gs o c (beside_lsp w.lsp s.lsp) of, tt);
    down = tt;
    sent = (tt, tt);
  }

  over-fine : (c : CallRec) (w : Leg) (route : List Step) (out : Option LinkSpec) → CallHolds t gs o c →
      Fine t gs o (over_backup p s c w route out)
  over-fine c w route None of = bare-fine c NoBackup of
  over-fine c w route (Some out) of =
      if_cases (Fine t gs o) (nat_lt LAST_NUMBER s.lsp) (leaves_bare c Spent) _ (λ e. bare-fine c Spent of)
      (λ e. if_cases (Fine t gs o) (is_full s) (leaves_bare c Full) _ (λ e. bare-fine c Full of)
      (λ e. if_cases (Fine t gs o) (lacks_first_back p s (is_two_way w) (guarding p w) out)
      (leaves_bare c (Code label_code)) (begins_backup p s c w out (drop 1 route))
      (λ e. bare-fine c (Code label_code) of)
      (λ e. begins-fine c w out (drop 1 route) of)))

  pair_over-fine : (c : CallRec) (w : Leg) (route : Option (List Step)) → CallHolds t gs o c →
      Fine t gs o (pair_over p s c w route)
  pair_over-fine c w None of = bare-fine c NoBackup of
  pair_over-fine c w (Some route) of = over-fine c w route (first_link p route) of

  -- a call that asks for its backup
  pub pair-fine : (c : CallRec) (w : Leg) → CallHolds t gs o c → Fine t gs o (pair p s c w)
  pair-fine c w of =
      if_cases (Fine t gs o) (is_some (unknown_link (known_rows p s) (route_from p w))) (leaves_bare c NoBackup)
      (pair_over p s c w (backup_route p s c w)) (λ e. bare-fine c NoBackup of)
      (λ e. pair_over-fine c w (backup_route p s c w) of)

  -- After a Resv. b is the leg, and h what it has become.

  work_connected-fine : (w : Leg) (c : CallRec) → CallHolds t gs o c → Fine t gs o (work_connected p s w c)
  work_connected-fine w c of =
      if_cases (Fine t gs o) (is_asking c.state) _ nothing
      (λ e. if_cases (Fine t gs o) c.protected (pair p s c w) (call_put (bare c)) (λ e. pair-fine c w of)
      (λ e. fine-call t gs o (bare c) (in_state t gs o c Bare _ _ (λ e. absurd (cc e)) refl of)))
      (λ e. fine-nothing t gs o)

  -- h shares its labels, and no other backup that uses one of them records one of the groups
  backup_reserved-fine : (b h : Leg) (c : CallRec) → find_leg b.lsp s.legs ≡ Some b → is_work b.role ≡ false →
      h.risks ≡ b.risks → h.path_role ≡ b.path_role → SharesAll s.legs h → IsLegAlone gs s.legs h →
      call_with b.lsp s.calls ≡ Some c → Fine t gs o (backup_reserved s h c)
  backup_reserved-fine b h c here back risks path shares alone called =
      if_cases (Fine t gs o) (is_pairing c.state) (decide s.legs (guarded c) (Some h)) nothing
      (λ e. decide-fine t gs o p s knows holds (guarded c) c (Some h) (known b.lsp c called) refl refl
      (in_state t gs o c Guarded _ _ (λ e. absurd (cc e)) refl (held b.lsp c called))
      (λ exposed.
      turns (may-turn t gs o p s knows holds c b.lsp b (known b.lsp c called) exposed
      (its-backup t gs o p s knows holds b c here back called) here)))
      (λ e. fine-nothing t gs o)
    where
      turns : MayTurnBackup t gs b → LegMayTurn t gs s.legs (Some h)
      turns may =
          let records : has_one h.risks gs ≡ true = subst (λ x. has_one x gs ≡ true) (sym risks) may.records in (
            record { records = records; role = subst (λ x. RoleConcerns t gs (activating x)) (sym path) may.role },
            not_contended gs s.legs knows.rise holds.legs h shares alone (λ back. records),
          )

  -- the call of a leg that got its label
  pub call_answered-fine : (b h : Leg) (c : Option CallRec) → find_leg b.lsp s.legs ≡ Some b → h.role ≡ b.role →
      h.risks ≡ b.risks → h.path_role ≡ b.path_role → SharesAll s.legs h → IsLegAlone gs s.legs h →
      call_with b.lsp s.calls ≡ c → Fine t gs o (call_answered p s h c)
  call_answered-fine b h None here same risks path shares alone called = fine-nothing t gs o
  call_answered-fine b h (Some c) here same risks path shares alone called =
      if_cases (Fine t gs o) (is_work h.role) (work_connected p s h c) (backup_reserved s h c)
      (λ e. work_connected-fine h c (held b.lsp c called))
      (λ e. backup_reserved-fine b h c here (rw same at e) risks path shares alone called)

  -- the backup carries the call, which may go back at once
  pub call_turned-fine : (b : Leg) (l : Lsp) (c : Option CallRec) → call_with l s.calls ≡ c →
      Fine t gs o (call_turned s b c)
  call_turned-fine b l None called = fine-nothing t gs o
  call_turned-fine b l (Some c) called =
      if_cases (Fine t gs o) (is_turning c.state) (decide s.legs (turned c) (Some b)) nothing
      (λ e. turned-fine t gs o s.legs (turned c) (Some b) (has_any c.work_reports) (has_any c.back_reports)
      (in_state t gs o c Turned _ _ (λ e. absurd (cc e)) refl (held l c called)))
      (λ e. fine-nothing t gs o)

  -- After a PathErr

  work_refused-fine : (code : ErrCode) (c : CallRec) → CallHolds t gs o c → Fine t gs o (work_refused code c)
  work_refused-fine code c of =
      if_cases (Fine t gs o) (is_asking c.state) (call_put (blocked c (Code code))) nothing
      (λ e. fine-call t gs o (blocked c (Code code)) (blocked-holds t gs o c (Code code) of))
      (λ e. fine-nothing t gs o)

  backup_refused-fine : (code : ErrCode) (c : CallRec) → CallHolds t gs o c → Fine t gs o (backup_refused code c)
  backup_refused-fine code c of =
      if_cases (Fine t gs o) (is_pairing c.state) (leaves_bare c (Code code)) nothing
      (λ e. bare-fine c (Code code) of) (λ e. fine-nothing t gs o)

  -- the call of a leg that was refused
  pub call_refused-fine : (code : ErrCode) (b : Leg) (l : Lsp) (c : Option CallRec) → call_with l s.calls ≡ c →
      Fine t gs o (call_refused code b c)
  call_refused-fine code b l None called = fine-nothing t gs o
  call_refused-fine code b l (Some c) called =
      if_cases (Fine t gs o) (is_work b.role) (work_refused code c) (backup_refused code c)
      (λ e. work_refused-fine code c (held l c called))
      (λ e. backup_refused-fine code c (held l c called))
