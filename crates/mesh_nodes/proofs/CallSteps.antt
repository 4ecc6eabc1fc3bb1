-- What becomes of a call after a Resv or a PathErr at its ingress fits.
use Rattle.std.proofs.Common.{◌≡◌, Bool, true, false, cond, List, length}
use Rattle.std.specs.Prelude.{Option, Some, None}
use Rattle.ason_base.specs.{declared.calls.Cause.Cause, declared.calls.Cause.TheVariants.Code, Codes.busy_code, declared.codes.ErrCode.ErrCode, declared.tables.CallRec.CallRec, declared.tables.Leg.Leg}
use Rattle.ason_base.proofs.Finding.{found-of_all}
use Rattle.mesh_rules.specs.{CallSteps.{call_answered, call_contended, call_refused, call_turned}, Calls.{bare, blocked, call_with, guarded, is_asking, is_pairing, is_turning, names, stuck, turned, unbacked}, Changes.nothing, Legs.is_work, LocalNodes.LocalNode, Pairs.leaves_bare, State.NodeState, Turns.decide}
use Rattle.mesh_nodes.specs.{FitNodes.{CallFits, LegFits, NodeFits}, LocalNodes.LocalNodeFits, Sent.AnswerFits}
use Rattle.mesh_nodes.proofs.{Cases.if_cases, Pairs.pair-fits, Paths.nothing-fits, Turns.{BeginsHere, decide-fits, put-fits}}

-- s is what the rule reads, g the leg as its message leaves it, which begins here; these legs stand when the rule is
-- carried out
module _ (p : LocalNode) (s : NodeState) (legs : List Leg) (g : Leg) (W : Type 0) (place : LocalNodeFits p)
    (fits : NodeFits p (record s { legs = legs })) where
  none-fits : AnswerFits p (record s { legs = legs }) W nothing
  none-fits = nothing-fits p (record s { legs = legs }) W fits

  call-fits : (c : CallRec) → call_with g.lsp s.calls ≡ Some c → CallFits p c
  call-fits c called = found-of_all (CallFits p) (names g.lsp) s.calls c called fits.calls.each

  -- where the test holds it is decided what becomes of the call, with this leg of its backup
  decided-fits : (test : Bool) (c : CallRec) → CallFits p c → BeginsHere p legs g →
      AnswerFits p (record s { legs = legs }) W (cond test (decide s.legs c (Some g)) nothing)
  decided-fits true c here stands = decide-fits p s legs W fits c (Some g) here stands
  decided-fits false c here stands = none-fits

  pub answered-call-fits : (o : Option CallRec) → call_with g.lsp s.calls ≡ o → length legs ≡ length s.legs →
      LegFits p s.lsp g → BeginsHere p legs g → AnswerFits p (record s { legs = legs }) W (call_answered p s g o)
  answered-call-fits None called many leg stands = none-fits
  answered-call-fits (Some c) called many leg stands =
      let here = call-fits c called in
      if_cases (AnswerFits p (record s { legs = legs }) W) (is_work g.role) _ _
      (λ e. if_cases (AnswerFits p (record s { legs = legs }) W) (is_asking c.state) _ _
      (λ e. if_cases (AnswerFits p (record s { legs = legs }) W) c.protected _ _
      (λ e. pair-fits p s legs c g W place fits many leg stands.begins here)
      (λ e. put-fits p s legs W fits (bare c) (record { backup = here.backup; work = here.work; back = here.back })))
      (λ e. none-fits))
      (λ e. decided-fits (is_pairing c.state) (guarded c)
      (record { backup = here.backup; work = here.work; back = here.back }) stands)

  pub refused-call-fits : (code : ErrCode) (o : Option CallRec) → call_with g.lsp s.calls ≡ o →
      AnswerFits p (record s { legs = legs }) W (call_refused code g o)
  refused-call-fits code None called = none-fits
  refused-call-fits code (Some c) called =
      let here = call-fits c called in
      if_cases (AnswerFits p (record s { legs = legs }) W) (is_work g.role) _ _
      (λ e. if_cases (AnswerFits p (record s { legs = legs }) W) (is_asking c.state) _ _
      (λ e. put-fits p s legs W fits (blocked c (Code code))
      (record { backup = here.backup; work = tt; back = here.back })) (λ e. none-fits))
      (λ e. if_cases (AnswerFits p (record s { legs = legs }) W) (is_pairing c.state) _ _
      (λ e. bare-call (Code code) c here) (λ e. none-fits))
    where
      bare-call : (cause : Cause) (c : CallRec) → CallFits p c →
          AnswerFits p (record s { legs = legs }) W (leaves_bare c cause)
      bare-call cause c here =
          put-fits p s legs W fits (unbacked c cause) (record { backup = here.backup; work = here.work; back = tt })

  pub turned-call-fits : (o : Option CallRec) → call_with g.lsp s.calls ≡ o → BeginsHere p legs g →
      AnswerFits p (record s { legs = legs }) W (call_turned s g o)
  turned-call-fits None called stands = none-fits
  turned-call-fits (Some c) called stands =
      let here = call-fits c called in
      decided-fits (is_turning c.state) (turned c)
      (record { backup = here.backup; work = here.work; back = here.back }) stands

  pub contended-call-fits : (o : Option CallRec) → call_with g.lsp s.calls ≡ o → BeginsHere p legs g →
      AnswerFits p (record s { legs = legs }) W (call_contended s g o)
  contended-call-fits None called stands = none-fits
  contended-call-fits (Some c) called stands =
      let here = call-fits c called in
      decided-fits (is_turning c.state) (stuck c (Code busy_code))
      (record { backup = here.backup; work = here.work; back = here.back }) stands
