-- What a Notify and an order to try again do fits.
use Rattle.std.proofs.Common.{ap, arith, Bool, cond, nat_eq, not, refl, ◌∙◌, ◌≡◌}
use Rattle.std.specs.Prelude.{◌&&◌, Option, Some, None, IfSome}
use Rattle.ason_base.specs.{Lsps.is_lsp, Writable.IsWritableMsg, declared.ids.CallNo.CallNo, declared.ids.Fibre.Fibre, declared.ids.Lsp.Lsp, declared.ids.NodeId.NodeId, declared.tables.CallRec.CallRec, declared.tables.Leg.Leg}
use Rattle.ason_base.proofs.Finding.{found-of_all}
use Rattle.mesh_rules.specs.{declared.neighbours.Neighbour.Neighbour, Calls.{call_with, find_call, names}, Changes.{Answer, nothing}, Legs.{find_leg, following, is_closing, is_node, leg_of, previous}, LocalNodes.LocalNode, Notifies.{Notice, notice_passed, notice_told, notify_with}, Pairs.route_from, Reports.{call_reported, fibre_into, fibres_after, reported, reported_on, with_back_reports, with_report, with_work_reports}, Retries.retry_with, State.NodeState, Reverts.revert_with}
use Rattle.mesh_nodes.specs.{FitNodes.{CallFits, NodeFits}, Sent.AnswerFits}
use Rattle.mesh_nodes.proofs.{Cases.if_cases, LegList.found-lsp, Paths.nothing-fits, Stands.{LegStands, leg-stands, previous-is_near}, Turns.{BeginsHere, decide-fits, go_back-fits, turn-fits}}

-- the leg of a call's backup begins here
pub backup-begins : (p : LocalNode) (s : NodeState) (o : Option Lsp) (q : Option Leg) → NodeFits p s →
    IfSome o (λ l. l.ingress.0 ≡ p.id.0) → leg_of o s.legs ≡ q → IfSome q (BeginsHere p s.legs)
backup-begins p s o None fits begins found = tt
backup-begins p s None (Some b) fits begins found = absurd (cc found)
backup-begins p s (Some l) (Some b) fits begins found = record {
  found = (leg-stands p s l b fits found).found;
  begins = (let is : b.lsp ≡ l = found-lsp l s.legs b found in ap (λ (k : Lsp). k.ingress.0) is ∙ begins);
}

-- A Notify

with_report-fits : (p : LocalNode) (c : CallRec) (l : Lsp) (down : Bool) (f : Fibre) → CallFits p c →
    CallFits p (with_report c l down f)
with_report-fits p c l down f here =
    if_cases (CallFits p) (is_lsp c.work l) (with_work_reports c (fibres_after down f c.work_reports))
    (with_back_reports c (fibres_after down f c.back_reports))
    (λ e. record { backup = here.backup; work = here.work; back = here.back })
    (λ e. record { backup = here.backup; work = here.work; back = here.back })

pub with_report-back : (c : CallRec) (l : Lsp) (down : Bool) (f : Fibre) → (with_report c l down f).back ≡ c.back
with_report-back c l down f =
    if_cases (λ (d : CallRec). d.back ≡ c.back) (is_lsp c.work l)
    (with_work_reports c (fibres_after down f c.work_reports))
    (with_back_reports c (fibres_after down f c.back_reports)) (λ e. refl) (λ e. refl)

module _ (p : LocalNode) (s : NodeState) (W : Type 0) (fits : NodeFits p s) where
  call_reported-fits : (l : Lsp) (down : Bool) (f : Fibre) (o : Option CallRec) → call_with l s.calls ≡ o →
      AnswerFits p s W (call_reported s l down f o)
  call_reported-fits l down f None called = nothing-fits p s W fits
  call_reported-fits l down f (Some c) called =
      let here : CallFits p c = found-of_all (CallFits p) (names l) s.calls c called fits.calls.each in
      decide-fits p s s.legs W fits (with_report c l down f) (leg_of c.back s.legs)
      (with_report-fits p c l down f here)
      (backup-begins p s c.back (leg_of c.back s.legs) fits here.back refl)

  reported_on-fits : (g : Leg) (down : Bool) (o : Option Fibre) → AnswerFits p s W (reported_on s g down o)
  reported_on-fits g down None = nothing-fits p s W fits
  reported_on-fits g down (Some f) = call_reported-fits g.lsp down f (call_with g.lsp s.calls) refl

  passed-fits : (m : Notice) (g : Leg) (down : Bool) (o : Option Neighbour) → LegStands p s g → previous g ≡ o →
      (W → IsWritableMsg m.msg) → AnswerFits p s W (notice_passed p s m g down o)
  passed-fits m g down None stands is writable =
      reported_on-fits g down (fibre_into (route_from p g) g.egress m.at m.link)
  passed-fits m g down (Some h) stands is writable = record {
    kept = fits;
    near = (previous-is_near p s.lsp g h stands.fits is, tt);
    written = λ w. (writable w, tt);
    few = omega arith;
  }

  told-fits : (m : Notice) (g : Leg) (o : Option Bool) → LegStands p s g → (W → IsWritableMsg m.msg) →
      AnswerFits p s W (notice_told p s m g o)
  told-fits m g None stands writable = nothing-fits p s W fits
  told-fits m g (Some down) stands writable = passed-fits m g down (previous g) stands refl writable

  pub notify-fits : (u : NodeId) (m : Notice) (o : Option Leg) → find_leg m.lsp s.legs ≡ o →
      (W → IsWritableMsg m.msg) → AnswerFits p s W (notify_with p s u m o)
  notify-fits u m None found writable = nothing-fits p s W fits
  notify-fits u m (Some g) found writable =
      if_cases (AnswerFits p s W) (not (is_closing g.phase) && is_node (following g) u) _ _
      (λ e. told-fits m g (reported m.code) (leg-stands p s m.lsp g fits found) writable)
      (λ e. nothing-fits p s W fits)

  -- Orders of a call that turned, or is to turn

  -- an order changes a call that begins here, where its test holds; else nothing
  ordered-fits : (n : CallNo) (from : NodeId) (c : CallRec) (test : Bool) (a : Answer) → find_call n s.calls ≡ Some c →
      (CallFits p c → IfSome (leg_of c.back s.legs) (BeginsHere p s.legs) → AnswerFits p s W a) →
      AnswerFits p s W (cond (nat_eq from.0 p.id.0) (cond test a nothing) nothing)
  ordered-fits n from c test a found follows =
      let here = found-of_all (CallFits p) (λ b. nat_eq b.call.0 n.0) s.calls c found fits.calls.each in
      if_cases (AnswerFits p s W) (nat_eq from.0 p.id.0) _ _
      (λ e. if_cases (AnswerFits p s W) test a nothing
      (λ e. follows here (backup-begins p s c.back (leg_of c.back s.legs) fits here.back refl))
      (λ e. nothing-fits p s W fits))
      (λ e. nothing-fits p s W fits)

  pub retry-fits : (n : CallNo) (from : NodeId) (o : Option CallRec) → find_call n s.calls ≡ o →
      AnswerFits p s W (retry_with p s from o)
  retry-fits n from None found = nothing-fits p s W fits
  retry-fits n from (Some c) found =
      ordered-fits n from c _ _ found (turn-fits p s s.legs W fits c (leg_of c.back s.legs))

  pub revert-fits : (n : CallNo) (from : NodeId) (o : Option CallRec) → find_call n s.calls ≡ o →
      AnswerFits p s W (revert_with p s from o)
  revert-fits n from None found = nothing-fits p s W fits
  revert-fits n from (Some c) found =
      ordered-fits n from c _ _ found (go_back-fits p s s.legs W fits c (leg_of c.back s.legs))
