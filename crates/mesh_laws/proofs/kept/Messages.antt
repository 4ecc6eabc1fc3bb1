-- What a node answers to a message that tears nothing changes phases of legs alone.
use Rattle.std.proofs.Common.{◌≡◌, ℕ, Bool, true, false, List, [], ◌∷◌, drop, refl}
use Rattle.std.specs.{Prelude.{◌&&◌, not, Option, Some, None}, List.AllByRecursion}
use Rattle.ason_base.specs.{declared.ids.Fibre.Fibre, declared.ids.Lsp.Lsp, declared.ids.NodeId.NodeId, declared.calls.Phase.Phase, declared.calls.Phase.TheVariants.{Asked, Held, Armed, Live}, declared.messages.Msg.Msg, declared.messages.Msg.TheVariants.{Path, Resv, PathTear, PathErr, Notify}, declared.messages.PathRole.PathRole, declared.messages.PathRole.TheVariants.{Work, Back}, declared.steps.Step.Step, declared.tables.CallRec.CallRec, declared.tables.Leg.Leg}
use Rattle.ason_base.proofs.Bools.{and-left}
use Rattle.mesh_rules.specs.{declared.arrivals.Arrival.Arrival, declared.neighbours.Neighbour.Neighbour, Activations.{activated, armed_on, busy_to, path_again, resv_to, taken_back, taken_on}, ActivationAnswers.{confirmed, contended, disarmed, is_confirmed, resv_again}, Calls.call_with, CallSteps.{call_contended, call_turned}, Changes.{Answer, nothing, puts, sends}, Legs.{find_leg, following, is_active_backup, is_armed, is_asked, is_beyond_asked, is_closing, is_contended, is_held, is_node, is_over, leg_of, previous, with_phase}, LocalNodes.LocalNode, Messages.{arrival, on_message}, Notifies.{Notice, notice_passed, notice_told, notify_with}, Pairs.route_from, PathErrs.{PathFailure, path_err_with}, Paths.{PathRequest, path_with}, Reports.{call_reported, fibre_into, reported, reported_on, with_report}, Resvs.{answered, is_expected, resv_with}, State.NodeState}
use Rattle.mesh_nodes.proofs.{Cases.if_cases, LegList.found-all}
use Rattle.mesh_laws.proofs.{kept.Phases.{IsHere, IsUp, Kept, LegsUp, MsgKept, OutKept, found-here, kept-nothing, kept-puts, kept-sends, kept-then, leg_of-here}, kept.Calls.{call_contended-kept, call_turned-kept, decide-kept}}

pub up-not_asked : (q : Phase) → is_beyond_asked q ≡ true → is_asked q ≡ true → ⊥
up-not_asked Asked up e = absurd (cc up)
up-not_asked _ up e = absurd (cc e)

module _ (p : LocalNode) (s : NodeState) (up : LegsUp s.legs) where
  abbrev Good : Answer → Type 0
  Good a = Kept s.legs a

  -- A leg that stands

  module _ (b : Leg) (here : IsHere s.legs b) where
    resv_to-kept : (h : Option Neighbour) (x : Option ℕ) → AllByRecursion OutKept (resv_to b h x)
    resv_to-kept None x = tt
    resv_to-kept (Some h) None = tt
    resv_to-kept (Some h) (Some x) = (tt, tt)

    armed_on-kept : (route : List Step) (r : PathRole) (h : Option Neighbour) → Good (armed_on b route r h)
    armed_on-kept route r None =
        kept-puts s.legs (with_phase Live b) _ refl here (resv_to-kept (previous b) b.in_label)
    armed_on-kept route r (Some h) = kept-puts s.legs (with_phase Armed b) _ refl here (tt, tt)

    activated-kept : (a : Arrival) (route : List Step) (r : PathRole) → Good (activated p s a route r b)
    activated-kept a route r =
        if_cases Good (is_contended s.legs b) (sends (busy_to p b a.from ∷ []))
        (armed_on b route r (following b)) (λ e. kept-sends s.legs _ (tt, tt))
        (λ e. armed_on-kept route r (following b))

    taken_back-kept : (route : List Step) (r : PathRole) → Good (taken_back b route r)
    taken_back-kept route r = kept-puts s.legs (with_phase Held b) _ refl here (path (following b))
      where
        path : (h : Option Neighbour) → AllByRecursion OutKept (taken_on b route r h)
        path None = tt
        path (Some h) = (tt, tt)

    path_again-kept : (a : Arrival) (route : List Step) (r : PathRole) → Good (path_again p s a route r b)
    path_again-kept a route (Work guard) = kept-nothing s.legs
    path_again-kept a route (Back true work primary) =
        if_cases Good (is_held b.phase && is_over (previous b) a.from a.link) _ nothing
        (λ e. activated-kept a route (Back true work primary)) (λ e. kept-nothing s.legs)
    path_again-kept a route (Back false work primary) =
        if_cases Good (is_active_backup b && is_over (previous b) a.from a.link) _ nothing
        (λ e. taken_back-kept route (Back false work primary)) (λ e. kept-nothing s.legs)

    confirmed-kept : (h : Option Neighbour) → Good (confirmed s b h)
    confirmed-kept None =
        kept-then s.legs (puts (with_phase Live b) []) (call_turned s (with_phase Live b) (call_with b.lsp s.calls))
        (kept-puts s.legs (with_phase Live b) [] refl here tt)
        (call_turned-kept s.legs s (with_phase Live b) (call_with b.lsp s.calls) here)
    confirmed-kept (Some h) =
        kept-puts s.legs (with_phase Live b) _ refl here (resv_to-kept (Some h) b.in_label)

    resv_again-kept : (a : Arrival) (x : ℕ) → Good (resv_again s a x b)
    resv_again-kept a x =
        if_cases Good (is_confirmed a x b) (confirmed s b (previous b)) nothing (λ e. confirmed-kept (previous b))
        (λ e. kept-nothing s.legs)

    resv-kept : (a : Arrival) (x : ℕ) → IsUp b → Good (resv_with p s a x (Some b))
    resv-kept a x is_up =
        if_cases Good (is_expected a x b) (answered p s a x b (previous b)) (resv_again s a x b)
        (λ e. absurd (up-not_asked b.phase is_up (and-left (is_asked b.phase) _ e))) (λ e. resv_again-kept a x)

    disarmed-kept : (m : Msg) (h : Option Neighbour) → MsgKept m → Good (disarmed s b m h)
    disarmed-kept m None kept =
        kept-then s.legs (puts (with_phase Held b) []) (call_contended s (with_phase Held b) (call_with b.lsp s.calls))
        (kept-puts s.legs (with_phase Held b) [] refl here tt)
        (call_contended-kept s.legs s (with_phase Held b) (call_with b.lsp s.calls) here)
    disarmed-kept m (Some h) kept = kept-puts s.legs (with_phase Held b) _ refl here (kept, tt)

    contended-kept : (m : Msg) → MsgKept m → Good (contended s b m)
    contended-kept m kept =
        if_cases Good (is_armed b.phase) (disarmed s b m (previous b)) nothing
        (λ e. disarmed-kept m (previous b) kept) (λ e. kept-nothing s.legs)

  -- Notifies

  call_reported-kept : (l : Lsp) (down : Bool) (f : Fibre) (c : Option CallRec) → Good (call_reported s l down f c)
  call_reported-kept l down f None = kept-nothing s.legs
  call_reported-kept l down f (Some c) =
      decide-kept s.legs s.legs (with_report c l down f) (leg_of c.back s.legs) (leg_of-here c.back s.legs)

  reported_on-kept : (b : Leg) (down : Bool) (f : Option Fibre) → Good (reported_on s b down f)
  reported_on-kept b down None = kept-nothing s.legs
  reported_on-kept b down (Some f) = call_reported-kept b.lsp down f (call_with b.lsp s.calls)

  notice_passed-kept : (m : Notice) (b : Leg) (down : Bool) (h : Option Neighbour) → MsgKept m.msg →
      Good (notice_passed p s m b down h)
  notice_passed-kept m b down None kept =
      reported_on-kept b down (fibre_into (route_from p b) b.egress m.at m.link)
  notice_passed-kept m b down (Some h) kept = kept-sends s.legs _ (kept, tt)

  notice_told-kept : (m : Notice) (b : Leg) (down : Option Bool) → MsgKept m.msg → Good (notice_told p s m b down)
  notice_told-kept m b None kept = kept-nothing s.legs
  notice_told-kept m b (Some down) kept = notice_passed-kept m b down (previous b) kept

  notify-kept : (u : NodeId) (m : Notice) (b : Option Leg) → MsgKept m.msg → Good (notify_with p s u m b)
  notify-kept u m None kept = kept-nothing s.legs
  notify-kept u m (Some b) kept =
      if_cases Good (not (is_closing b.phase) && is_node (following b) u) _ nothing
      (λ e. notice_told-kept m b (reported m.code) kept) (λ e. kept-nothing s.legs)

  -- Messages

  path-kept : (m : PathRequest) (b : Option Leg) → find_leg m.arrival.lsp s.legs ≡ b → (b ≡ None → ⊥) →
      Good (path_with p s m b)
  path-kept m None found there = absurd (there refl)
  path-kept m (Some b) found there =
      path_again-kept b (found-here m.arrival.lsp s.legs b found) m.arrival (drop 1 m.route) m.role

  resv_with-kept : (a : Arrival) (x : ℕ) (b : Option Leg) → find_leg a.lsp s.legs ≡ b → Good (resv_with p s a x b)
  resv_with-kept a x None found = kept-nothing s.legs
  resv_with-kept a x (Some b) found =
      resv-kept b (found-here a.lsp s.legs b found) a x (found-all IsUp a.lsp s.legs b found up)

  err-kept : (u : NodeId) (e : PathFailure) (b : Option Leg) → find_leg e.lsp s.legs ≡ b → e.removed ≡ false →
      MsgKept e.msg → Good (path_err_with s u e b)
  err-kept u e None found stays kept = kept-nothing s.legs
  err-kept u e (Some b) found stays kept =
      if_cases Good (is_node (following b) u) _ nothing
      (λ test. rw stays (contended-kept b (found-here e.lsp s.legs b found) e.msg kept))
      (λ test. kept-nothing s.legs)

  -- a Path comes where a leg of its LSP stands
  abbrev pub ComesToLeg : Msg → Type 0
  ComesToLeg (Path l e k route set up r) = find_leg l s.legs ≡ None → ⊥
  ComesToLeg (Resv l e k x) = Unit {0}
  ComesToLeg (PathTear l e k) = Unit {0}
  ComesToLeg (PathErr l e at gone code) = Unit {0}
  ComesToLeg (Notify l e at k code) = Unit {0}

  -- each message that tears nothing, a Path only where a leg of its LSP stands
  pub message-kept : (u : NodeId) (m : Msg) → MsgKept m → ComesToLeg m → Good (on_message p s u m)
  message-kept u (Path l e k route set up r) kept there =
      path-kept (record { arrival = arrival l e u k; route = route; set = set; upstream = up; role = r })
      (find_leg l s.legs) refl
      there
  message-kept u (Resv l e k x) kept there = resv_with-kept (arrival l e u k) x (find_leg l s.legs) refl
  message-kept u (PathTear l e k) kept there = absurd kept
  message-kept u (PathErr l e at true code) kept there = absurd kept
  message-kept u (PathErr l e at false code) kept there =
      err-kept u (record { lsp = l; msg = PathErr l e at false code; removed = false; code = code })
      (find_leg l s.legs) refl refl tt
  message-kept u (Notify l e at k code) kept there =
      notify-kept u (record { lsp = l; msg = Notify l e at k code; at = at; link = k; code = code })
      (find_leg l s.legs) tt
