-- What a rule makes of a call that stands at its ingress, case by case, and what came for it.
use Rattle.std.proofs.Common.{◌≡◌, ◌⊎◌, ◌+◌, Bool, true, false, not, nat_le, List}
use Rattle.std.specs.Prelude.{◌&&◌, Some, None, drop}
use Rattle.ason_base.specs.{declared.calls.CallState.TheVariants.{Guarded, Stuck, Turned}, declared.calls.Cause.TheVariants.{BackDown, Code, Full, NoBackup, Spent}, declared.calls.Cause.Cause, declared.codes.ErrCode.ErrCode, declared.ids.CallNo.CallNo, declared.ids.Fibre.Fibre, declared.ids.LinkId.LinkId, declared.ids.Lsp.Lsp, declared.ids.NodeId.NodeId, declared.messages.Msg.Msg, declared.messages.Msg.TheVariants.{Notify, PathErr, Resv}, declared.network.LinkSpec.LinkSpec, declared.steps.Step.Step, declared.tables.CallRec.CallRec, declared.tables.Leg.Leg, declared.tables.Out.Out, Codes.{busy_code, label_code}}
use Rattle.mesh_rules.specs.{Calls.{bare, blocked, guarded, is_asking, is_bare, is_pairing, is_turned, is_turning, names, pairing, stuck, turned, turning, unbacked}, FirstLegs.first_link, Legs.{find_leg, is_contended, previous}, LocalNodes.LocalNode, Pairs.{backup_route, begins_backup, beside_lsp, route_from}, Reports.{fibre_into, with_report}, State.NodeState, Turns.has_any}

-- what came to the node: a Resv, a PathErr that removes an LSP, one that removes nothing, a Notify, an order about the
-- call of this number, or a tick
pub data Way : Type 0 where
  Answered : Way
  Removed : ErrCode → Way
  Contended : Way
  Reported : Way
  Retried : CallNo → Way
  Reverted : CallNo → Way
  Ticked : Way

-- the message is so
abbrev pub IsWayOf : Msg → Way → Type 0
IsWayOf (Resv l e k x) Answered = Unit {0}
IsWayOf (PathErr l e at gone code) (Removed told) = (gone ≡ true) × (code ≡ told)
IsWayOf (PathErr l e at gone code) Contended = gone ≡ false
IsWayOf (Notify l e at k code) Reported = Unit {0}
IsWayOf m way = ⊥

-- a Notify that came to the ingress of the LSP may report this fibre
pub record IsReportable (p : LocalNode) (s : NodeState) (l : Lsp) (f : Fibre) : Type 0 where
  pub leg : Leg
  pub of : leg.lsp ≡ l
  pub found : find_leg leg.lsp s.legs ≡ Some leg
  pub first : previous leg ≡ None
  pub at_node : NodeId
  pub link : LinkId
  pub into : fibre_into (route_from p leg) leg.egress at_node link ≡ Some f

-- what becomes of a call before it is decided whether it turns
pub data Early (p : LocalNode) (s : NodeState) (W : Way → Type 0) (c : CallRec) : CallRec → Type 0 where
  -- the backup is reserved, or activated, or its activation is refused
  Guards : is_pairing c.state ≡ true → W Answered → Early p s W c (guarded c)
  Carries : is_turning c.state ≡ true → W Answered → Early p s W c (turned c)
  Misses : is_turning c.state ≡ true → W Contended → Early p s W c (stuck c (Code busy_code))
  -- a fibre is reported to be down, or up
  Reports : (l : Lsp) (down : Bool) (f : Fibre) → names l c ≡ true → IsReportable p s l f → W Reported →
      Early p s W c (with_report c l down f)

-- why a call may turn; D: it decides by its reports
pub data MayTurnBy (W : Way → Type 0) (D : Type 0) (d : CallRec) : Type 0 where
  ByReport : D → d.state ≡ Guarded → has_any d.work_reports ≡ true → MayTurnBy W D d
  ByRetry : d.state ≡ Stuck → W (Retried d.call) → MayTurnBy W D d

-- why a call may go back
pub data MayGoBy (W : Way → Type 0) (D : Type 0) (d : CallRec) : Type 0 where
  Whole : D → d.state ≡ Stuck → has_any d.work_reports ≡ false → MayGoBy W D d
  Hit : D → d.state ≡ Turned → has_any d.work_reports ≡ false → has_any d.back_reports ≡ true → MayGoBy W D d
  ByRevert : d.state ≡ Turned → has_any d.work_reports ≡ false → W (Reverted d.call) → MayGoBy W D d
  ByWait : d.state ≡ Turned → has_any d.work_reports ≡ false → W Ticked → MayGoBy W D d

-- what becomes of it then
pub data Late (s : NodeState) (W : Way → Type 0) (D : Type 0) (d : CallRec) : CallRec → Type 0 where
  Stays : Late s W D d d
  Turns : MayTurnBy W D d → Late s W D d (turning d)
  Fails : MayTurnBy W D d → (b : Leg) → is_contended s.legs b ≡ true → Late s W D d (stuck d (Code busy_code))
  GoesDown : D → d.state ≡ Guarded → has_any d.work_reports ≡ true → has_any d.back_reports ≡ true →
      Late s W D d (stuck d BackDown)
  GoesBack : MayGoBy W D d → Late s W D d (guarded d)

-- a cause for which no backup is asked for, other than a code
abbrev pub is_lack : Cause → Bool
is_lack NoBackup = true
is_lack Spent = true
is_lack Full = true
is_lack cause = false

-- no backup is asked for yet
abbrev pub IsCallAlone : CallRec → Type 0
IsCallAlone c = (is_asking c.state ≡ true) ⊎ (is_bare c.state ≡ true)

-- what a rule puts in the place of the call; T: what is sent, where a backup is asked for
pub data CallBecomes (p : LocalNode) (s : NodeState) (W : Way → Type 0) (T : List Out → Type 0) (c : CallRec) :
    CallRec → Type 0 where
  Decides : {e : CallRec} (d : CallRec) → Early p s W c d → Late s W (Unit {0}) d e → CallBecomes p s W T c e
  AtOnce : {e : CallRec} → Late s W ⊥ c e → CallBecomes p s W T c e
  Bares : is_asking c.state ≡ true → c.protected ≡ false → W Answered → CallBecomes p s W T c (bare c)
  Pairs : (w : Leg) (route : List Step) (out : LinkSpec) → IsCallAlone c → names w.lsp c ≡ true →
      backup_route p s c w ≡ Some route → first_link p route ≡ Some out →
      T (begins_backup p s c w out (drop 1 route)).sent → CallBecomes p s W T c (pairing c (beside_lsp w.lsp s.lsp))
  Lacks : (cause : Cause) → IsCallAlone c → is_lack cause ≡ true → CallBecomes p s W T c (unbacked c cause)
  LacksLabel : IsCallAlone c → CallBecomes p s W T c (unbacked c (Code label_code))
  LosesBackup : (code : ErrCode) → is_pairing c.state ≡ true → W (Removed code) →
      CallBecomes p s W T c (unbacked c (Code code))
  Blocks : (code : ErrCode) → is_asking c.state ≡ true → W (Removed code) →
      CallBecomes p s W T c (blocked c (Code code))
  Counts : (is_turned c.state && not (has_any c.work_reports)) ≡ true → nat_le p.wait (c.ticks + 1) ≡ false →
      W Ticked → CallBecomes p s W T c (record c { ticks = c.ticks + 1 })
