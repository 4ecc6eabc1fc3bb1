-- What holds of each call of a node after an order, a tick, an alarm or a clear, by what a rule may make of a call.
use Rattle.std.proofs.{Common.{true, ◌≡◌, ◌+◌, not, nat_eq, nat_le, List, [], ◌∷◌, refl, sym, ap, ◌∙◌, subst, inr}, lemmas.Bool.not-true}
use Rattle.std.specs.{Prelude.{◌&&◌, Option, Some, None}, List.AllByRecursion}
use Rattle.ason_base.specs.{declared.ids.CallNo.CallNo, declared.ids.Fibre.Fibre, declared.ids.Lsp.Lsp, declared.ids.NodeId.NodeId, declared.tables.CallRec.CallRec, declared.tables.Leg.Leg, declared.tables.Out.Out, Lsps.has_fibre}
use Rattle.mesh_rules.specs.{Alarms.{enters, on_alarm, on_clear}, Calls.{find_call, is_bare, is_stuck, is_turned, names}, Changes.Answer, Legs.leg_of, LocalNodes.{LocalNode, own_link}, Protects.{protect_with, protects}, Releases.release_with, Retries.retry_with, Reverts.{revert_with, reverts}, State.NodeState, Turns.has_any, Waits.{all_ticked, on_tick, call_ticked}}
use Rattle.mesh_nodes.specs.Order.{CallsRise}
use Rattle.mesh_nodes.proofs.{Cases.if_cases, LegList.found-lsp, CallList.{all-calls_found, found-number}}
use Rattle.lsp_laws.proofs.{nodes.CallChanges.{AreChanges, EachCall, put-both}, nodes.CallParts.names-work, nodes.CallSteps.{holds-go_back, holds-pair, holds-turn, puts}, nodes.CallWays.{CallBecomes, ByRetry, ByRevert, ByWait, Counts, AtOnce, IsCallAlone, Late, Retried, Reverted, Ticked, Way}, hops.Ticked.turned_is, nodes.NotifyKeeps.stuck-is}
use Rattle.ason_base.proofs.Bools.{and-right, and-left}
use Rattle.mesh_rules.proofs.AnswerParts.{tears-no_call}

-- the LSP of a call's working leg is one that it names
pub work-names : (c : CallRec) (legs : List Leg) (w : Leg) → leg_of c.work legs ≡ Some w → names w.lsp c ≡ true
work-names c legs w there = go c.work refl there
  where
    go : (o : Option Lsp) → c.work ≡ o → leg_of o legs ≡ Some w → names w.lsp c ≡ true
    go None is there = absurd (cc there)
    go (Some l) is there = names-work c w.lsp (is ∙ ap Some (sym (found-lsp l legs w there)))

-- P holds of each call before the rule, and R of those that the rule puts in their places; G of those that go. W: what
-- came to the node. T: what is sent.
module _ (G : CallNo → Type 0) (P R : CallRec → Type 0) (W : Way → Type 0) (T : List Out → Type 0) (p : LocalNode)
    (s : NodeState) (keeps : (c d : CallRec) → CallBecomes p s W T c d → P c → R d) (rise : CallsRise s.calls)
    (each : EachCall P s.calls) where
  abbrev Holds : Answer → Type 0
  Holds a = AreChanges G R a.calls

  abbrev HoldsIf : Answer → Type 0
  HoldsIf a = T a.sent → AreChanges G R a.calls

  -- Orders of calls that are there

  -- one is released
  pub release-holds : (from : NodeId) (o : Option CallRec) → ((c : CallRec) → o ≡ Some c → G c.call) →
      Holds (release_with p s from o)
  release-holds from None goes = tt
  release-holds from (Some c) goes =
      if_cases Holds (nat_eq from.0 p.id.0) _ _
      (λ e. rw (tears-no_call (leg_of c.work s.legs), tears-no_call (leg_of c.back s.legs)) (goes c refl, tt)) (λ e. tt)

  holds-protects : (c : CallRec) (o : Option Leg) → leg_of c.work s.legs ≡ o → IsCallAlone c → P c →
      HoldsIf (protects p s c o)
  holds-protects c None is alone here = λ sent. tt
  holds-protects c (Some w) is alone here =
      holds-pair G P R W T p s keeps rise each c w alone (work-names c s.legs w is) here

  -- one is to be protected
  pub protect-holds : (k : CallNo) (from : NodeId) (o : Option CallRec) → find_call k s.calls ≡ o →
      HoldsIf (protect_with p s from o)
  protect-holds k from None is = λ sent. tt
  protect-holds k from (Some c) is =
      if_cases HoldsIf (nat_eq from.0 p.id.0 && is_bare c.state) _ _
      (λ e. holds-protects c (leg_of c.work s.legs) refl
      (inr (and-right (nat_eq from.0 p.id.0) (is_bare c.state) e)) (each k c is)) (λ e sent. tt)

  follows : (c e : CallRec) → Late s W ⊥ c e → CallBecomes p s W T c e
  follows c e late = AtOnce late

  -- one is to turn
  pub retry-holds : (k : CallNo) (from : NodeId) (o : Option CallRec) → find_call k s.calls ≡ o → W (Retried k) →
      Holds (retry_with p s from o)
  retry-holds k from None is came = tt
  retry-holds k from (Some c) is came =
      if_cases Holds (nat_eq from.0 p.id.0) _ _
      (λ e. if_cases Holds (is_stuck c.state && (has_any c.work_reports && not (has_any c.back_reports))) _ _
      (λ f. holds-turn G P R W T p s keeps rise each ⊥ c c (each k c is) (follows c) (leg_of c.back s.legs)
      (ByRetry (stuck-is c.state (and-left (is_stuck c.state) _ f))
      (subst (λ j. W (Retried j)) (sym (found-number k s.calls c is)) came))) (λ f. tt))
      (λ e. tt)

  holds-reverts : (k : CallNo) (c : CallRec) → find_call k s.calls ≡ Some c → W (Reverted k) → Holds (reverts s c)
  holds-reverts k c is came =
      if_cases Holds (is_turned c.state && not (has_any c.work_reports)) _ _
      (λ e. holds-go_back G P R W T p s keeps rise each ⊥ c c (each k c is) (follows c) (leg_of c.back s.legs)
      (ByRevert (turned_is c.state (and-left (is_turned c.state) _ e))
      (not-true (has_any c.work_reports) (and-right (is_turned c.state) _ e))
      (subst (λ j. W (Reverted j)) (sym (found-number k s.calls c is)) came))) (λ e. tt)

  -- one is to go back
  pub revert-holds : (k : CallNo) (from : NodeId) (o : Option CallRec) → find_call k s.calls ≡ o → W (Reverted k) →
      Holds (revert_with p s from o)
  revert-holds k from None is came = tt
  revert-holds k from (Some c) is came =
      if_cases Holds (nat_eq from.0 p.id.0) _ _ (λ e. holds-reverts k c is came) (λ e. tt)

  -- Ticks

  holds-ticked : W Ticked → (c : CallRec) → P c → Holds (call_ticked p.wait s.legs c)
  holds-ticked came c here =
      if_cases Holds (not (nat_eq p.wait 0) && (is_turned c.state && not (has_any c.work_reports))) _ _
      (λ waits. let turned = and-right (not (nat_eq p.wait 0)) _ waits in
      if_cases Holds (nat_le p.wait (c.ticks + 1)) _ _
      (λ f. holds-go_back G P R W T p s keeps rise each ⊥ c c here (follows c) (leg_of c.back s.legs)
      (ByWait (turned_is c.state (and-left (is_turned c.state) _ turned))
      (not-true (has_any c.work_reports) (and-right (is_turned c.state) _ turned)) came))
      (λ f. puts G P R W T p s keeps rise each c (record c { ticks = c.ticks + 1 }) (Counts turned f came) here))
      (λ e. tt)

  holds-all_ticked : W Ticked → (calls : List CallRec) → AllByRecursion P calls →
      Holds (all_ticked p.wait s.legs calls)
  holds-all_ticked came [] all = tt
  holds-all_ticked came (c ∷ calls) all =
      put-both G R (call_ticked p.wait s.legs c).calls (all_ticked p.wait s.legs calls).calls
      (holds-ticked came c all.0)
      (holds-all_ticked came calls all.1)

  -- the node ticks
  pub tick-holds : W Ticked → Holds (on_tick p s)
  tick-holds came = holds-all_ticked came s.calls (all-calls_found P s.calls rise each)

  -- An alarm and a clear change no call

  -- either
  pub alarm-holds : (f : Fibre) → Holds (on_alarm p s f)
  alarm-holds f =
      if_cases Holds (enters p f (own_link p f.link) && not (has_fibre s.down f)) _ _ (λ e. tt) (λ e. tt)

  -- or
  pub clear-holds : (f : Fibre) → Holds (on_clear p s f)
  clear-holds f =
      if_cases Holds (enters p f (own_link p f.link) && has_fibre s.down f) _ _ (λ e. tt) (λ e. tt)
