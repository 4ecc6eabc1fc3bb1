-- What a message does at its node in two parts, one after the other: the leg of its LSP follows, and then the call at
-- the ingress. p is the node; s is what it keeps.
use Rattle.std.proofs.Common.{◌≡◌, Bool, true, false, cond, ℕ, [], ◌∷◌, refl, sym}
use Rattle.std.specs.Prelude.{◌&&◌, not, Option, Some, None, if◌then◌else◌}
use Rattle.ason_base.specs.{declared.calls.Phase.TheVariants.{Held, Live}, declared.ids.NodeId.NodeId, declared.messages.Msg.Msg, declared.messages.Msg.TheVariants.{Path, Resv, PathTear, PathErr, Notify}, declared.tables.Leg.Leg}
use Rattle.mesh_rules.specs.{declared.arrivals.Arrival.Arrival, declared.neighbours.Neighbour.Neighbour, State.NodeState, Activations.resv_to, ActivationAnswers.{confirmed, contended, disarmed, is_confirmed, resv_again}, Changes.{Answer, nothing, puts, removes, sends, followed_by, to_node}, LocalNodes.LocalNode, Legs.{find_leg, is_armed, is_asked, is_closing, connected, previous, following, is_node, with_phase, label_through}, Calls.call_with, CallSteps.{call_answered, call_contended, call_refused, call_turned}, Notifies.{Notice, notice_passed, notice_told, notify_with}, Resvs.{is_expected, labels_left, passed_back, answered, resv_with}, PathErrs.{PathFailure, err_passed, removed, path_err_with}, Reports.{report_here, reported}, Messages.{arrival, on_message}}
use Rattle.mesh_rules.proofs.AnswerParts.{then-nothing}
use Rattle.mesh_nodes.proofs.Followed.{nothing-then}

-- The leg

abbrev pub leg_answers : LocalNode → NodeState → Arrival → ℕ → Leg → Option Neighbour → Answer
leg_answers p s a x g None = puts (connected g None x) []
leg_answers p s a x g (Some h) = passed_back p a g h x (label_through p (labels_left p s g h) x)

-- an Armed leg is Live
abbrev pub leg_confirmed : Leg → Option Neighbour → Answer
leg_confirmed g None = puts (with_phase Live g) []
leg_confirmed g (Some h) = puts (with_phase Live g) (resv_to g (Some h) g.in_label)

abbrev pub leg_again : Arrival → ℕ → Leg → Answer
leg_again a x g = if is_confirmed a x g then leg_confirmed g (previous g) else nothing

abbrev pub leg_of_resv : LocalNode → NodeState → Arrival → ℕ → Option Leg → Answer
leg_of_resv p s a x None = nothing
leg_of_resv p s a x (Some g) = if is_expected a x g then leg_answers p s a x g (previous g) else leg_again a x g

abbrev pub leg_refused : Leg → PathFailure → Option Neighbour → Answer
leg_refused g e None = removes g.lsp []
leg_refused g e (Some h) = removes g.lsp (to_node h.node e.msg ∷ [])

abbrev pub leg_removed : Leg → PathFailure → Answer
leg_removed g e =
    if is_asked g.phase then leg_refused g e (previous g)
    else (if is_closing g.phase then removes g.lsp [] else nothing)

-- an Armed leg is Held again
abbrev pub leg_disarmed : Leg → Msg → Option Neighbour → Answer
leg_disarmed g m None = puts (with_phase Held g) []
leg_disarmed g m (Some h) = puts (with_phase Held g) (to_node h.node m ∷ [])

abbrev pub leg_contended : Leg → Msg → Answer
leg_contended g m = if is_armed g.phase then leg_disarmed g m (previous g) else nothing

abbrev pub leg_failed : Leg → PathFailure → Answer
leg_failed g e = if e.removed then leg_removed g e else leg_contended g e.msg

abbrev pub leg_of_err : NodeId → PathFailure → Option Leg → Answer
leg_of_err u e None = nothing
leg_of_err u e (Some g) = if is_node (following g) u then leg_failed g e else nothing

-- a Notify is passed back
abbrev pub notice_back : Notice → Option Neighbour → Answer
notice_back m None = nothing
notice_back m (Some h) = sends (to_node h.node m.msg ∷ [])

abbrev pub notice_goes : Notice → Leg → Option Bool → Answer
notice_goes m g None = nothing
notice_goes m g (Some down) = notice_back m (previous g)

abbrev pub leg_of_notice : NodeId → Notice → Option Leg → Answer
leg_of_notice u m None = nothing
leg_of_notice u m (Some g) =
    if not (is_closing g.phase) && is_node (following g) u then notice_goes m g (reported m.code) else nothing

abbrev pub leg_part : LocalNode → NodeState → NodeId → Msg → Answer
leg_part p s u (Path l e k route set up r) = on_message p s u (Path l e k route set up r)
leg_part p s u (Resv l e k x) = leg_of_resv p s (arrival l e u k) x (find_leg l s.legs)
leg_part p s u (PathTear l e k) = on_message p s u (PathTear l e k)
leg_part p s u (PathErr l e at gone code) =
    leg_of_err u (record { lsp = l; msg = PathErr l e at gone code; removed = gone; code = code }) (find_leg l s.legs)
leg_part p s u (Notify l e at k code) =
    leg_of_notice u (record { lsp = l; msg = Notify l e at k code; at = at; link = k; code = code })
    (find_leg l s.legs)

-- The call

-- where the leg has no previous node
abbrev pub at_ingress : Option Neighbour → Answer → Answer
at_ingress None a = a
at_ingress (Some h) a = nothing

abbrev pub call_again : NodeState → Arrival → ℕ → Leg → Answer
call_again s a x g =
    if is_confirmed a x g then at_ingress (previous g) (call_turned s (with_phase Live g) (call_with g.lsp s.calls))
    else nothing

abbrev pub call_of_resv : LocalNode → NodeState → Arrival → ℕ → Option Leg → Answer
call_of_resv p s a x None = nothing
call_of_resv p s a x (Some g) =
    if is_expected a x g
    then at_ingress (previous g) (call_answered p s (connected g None x) (call_with g.lsp s.calls))
    else call_again s a x g

abbrev pub call_of_removal : NodeState → Leg → PathFailure → Answer
call_of_removal s g e =
    if is_asked g.phase then at_ingress (previous g) (call_refused e.code g (call_with g.lsp s.calls)) else nothing

abbrev pub call_of_contention : NodeState → Leg → Answer
call_of_contention s g =
    if is_armed g.phase then at_ingress (previous g) (call_contended s (with_phase Held g) (call_with g.lsp s.calls))
    else nothing

abbrev pub call_of_failure : NodeState → Leg → PathFailure → Answer
call_of_failure s g e = if e.removed then call_of_removal s g e else call_of_contention s g

abbrev pub call_of_err : NodeState → NodeId → PathFailure → Option Leg → Answer
call_of_err s u e None = nothing
call_of_err s u e (Some g) = if is_node (following g) u then call_of_failure s g e else nothing

abbrev pub notice_here : LocalNode → NodeState → Notice → Leg → Option Bool → Answer
notice_here p s m g None = nothing
notice_here p s m g (Some down) = at_ingress (previous g) (report_here p s g m.at m.link down)

abbrev pub call_of_notice : LocalNode → NodeState → NodeId → Notice → Option Leg → Answer
call_of_notice p s u m None = nothing
call_of_notice p s u m (Some g) =
    if not (is_closing g.phase) && is_node (following g) u then notice_here p s m g (reported m.code) else nothing

abbrev pub call_part : LocalNode → NodeState → NodeId → Msg → Answer
call_part p s u (Path l e k route set up r) = nothing
call_part p s u (Resv l e k x) = call_of_resv p s (arrival l e u k) x (find_leg l s.legs)
call_part p s u (PathTear l e k) = nothing
call_part p s u (PathErr l e at gone code) =
    call_of_err s u (record { lsp = l; msg = PathErr l e at gone code; removed = gone; code = code })
    (find_leg l s.legs)
call_part p s u (Notify l e at k code) =
    call_of_notice p s u (record { lsp = l; msg = Notify l e at k code; at = at; link = k; code = code })
    (find_leg l s.legs)

-- Both

answered-parts : (p : LocalNode) (s : NodeState) (a : Arrival) (x : ℕ) (g : Leg) (o : Option Neighbour) →
    answered p s a x g o ≡
    followed_by (leg_answers p s a x g o)
    (at_ingress o (call_answered p s (connected g None x) (call_with g.lsp s.calls)))
answered-parts p s a x g None = refl
answered-parts p s a x g (Some h) = sym (then-nothing (leg_answers p s a x g (Some h)))

confirmed-parts : (s : NodeState) (g : Leg) (o : Option Neighbour) →
    confirmed s g o ≡
    followed_by (leg_confirmed g o) (at_ingress o (call_turned s (with_phase Live g) (call_with g.lsp s.calls)))
confirmed-parts s g None = refl
confirmed-parts s g (Some h) = sym (then-nothing (leg_confirmed g (Some h)))

again-parts : (s : NodeState) (a : Arrival) (x : ℕ) (g : Leg) →
    resv_again s a x g ≡ followed_by (leg_again a x g) (call_again s a x g)
again-parts s a x g =
    elim (is_confirmed a x g) as (λ b. cond b (confirmed s g (previous g)) nothing ≡
    followed_by (cond b (leg_confirmed g (previous g)) nothing)
    (cond b (at_ingress (previous g) (call_turned s (with_phase Live g) (call_with g.lsp s.calls))) nothing)) [
      | true ↦ confirmed-parts s g (previous g)
      | false ↦ refl
    ]

resv-parts : (p : LocalNode) (s : NodeState) (a : Arrival) (x : ℕ) (o : Option Leg) →
    resv_with p s a x o ≡ followed_by (leg_of_resv p s a x o) (call_of_resv p s a x o)
resv-parts p s a x None = refl
resv-parts p s a x (Some g) =
    elim (is_expected a x g) as (λ b. cond b (answered p s a x g (previous g)) (resv_again s a x g) ≡
    followed_by (cond b (leg_answers p s a x g (previous g)) (leg_again a x g))
    (cond b (at_ingress (previous g) (call_answered p s (connected g None x) (call_with g.lsp s.calls)))
    (call_again s a x g))) [
      | true ↦ answered-parts p s a x g (previous g)
      | false ↦ again-parts s a x g
    ]

refused-parts : (s : NodeState) (g : Leg) (e : PathFailure) (o : Option Neighbour) →
    err_passed s g e o ≡
    followed_by (leg_refused g e o) (at_ingress o (call_refused e.code g (call_with g.lsp s.calls)))
refused-parts s g e None = refl
refused-parts s g e (Some h) = refl

removed-parts : (s : NodeState) (g : Leg) (e : PathFailure) →
    removed s g e ≡ followed_by (leg_removed g e) (call_of_removal s g e)
removed-parts s g e =
    elim (is_asked g.phase) as (λ b. cond b (err_passed s g e (previous g))
    (cond (is_closing g.phase) (removes g.lsp []) nothing) ≡
    followed_by (cond b (leg_refused g e (previous g)) (cond (is_closing g.phase) (removes g.lsp []) nothing))
    (cond b (at_ingress (previous g) (call_refused e.code g (call_with g.lsp s.calls))) nothing)) [
      | true ↦ refused-parts s g e (previous g)
      | false ↦ sym (then-nothing (cond (is_closing g.phase) (removes g.lsp []) nothing))
    ]

disarmed-parts : (s : NodeState) (g : Leg) (m : Msg) (o : Option Neighbour) →
    disarmed s g m o ≡
    followed_by (leg_disarmed g m o) (at_ingress o (call_contended s (with_phase Held g) (call_with g.lsp s.calls)))
disarmed-parts s g m None = refl
disarmed-parts s g m (Some h) = refl

contended-parts : (s : NodeState) (g : Leg) (m : Msg) →
    contended s g m ≡ followed_by (leg_contended g m) (call_of_contention s g)
contended-parts s g m =
    elim (is_armed g.phase) as (λ b. cond b (disarmed s g m (previous g)) nothing ≡
    followed_by (cond b (leg_disarmed g m (previous g)) nothing)
    (cond b (at_ingress (previous g) (call_contended s (with_phase Held g) (call_with g.lsp s.calls))) nothing)) [
      | true ↦ disarmed-parts s g m (previous g)
      | false ↦ refl
    ]

failed-parts : (s : NodeState) (g : Leg) (e : PathFailure) →
    cond e.removed (removed s g e) (contended s g e.msg) ≡ followed_by (leg_failed g e) (call_of_failure s g e)
failed-parts s g e =
    elim e.removed as (λ b. cond b (removed s g e) (contended s g e.msg) ≡
    followed_by (cond b (leg_removed g e) (leg_contended g e.msg))
    (cond b (call_of_removal s g e) (call_of_contention s g))) [
      | true ↦ removed-parts s g e
      | false ↦ contended-parts s g e.msg
    ]

err-parts : (s : NodeState) (u : NodeId) (e : PathFailure) (o : Option Leg) →
    path_err_with s u e o ≡ followed_by (leg_of_err u e o) (call_of_err s u e o)
err-parts s u e None = refl
err-parts s u e (Some g) =
    elim (is_node (following g) u) as (λ b. cond b (cond e.removed (removed s g e) (contended s g e.msg)) nothing ≡
    followed_by (cond b (leg_failed g e) nothing) (cond b (call_of_failure s g e) nothing)) [
      | true ↦ failed-parts s g e
      | false ↦ refl
    ]

passed-parts : (p : LocalNode) (s : NodeState) (m : Notice) (g : Leg) (down : Bool) (o : Option Neighbour) →
    notice_passed p s m g down o ≡
    followed_by (notice_back m o) (at_ingress o (report_here p s g m.at m.link down))
passed-parts p s m g down None = sym (nothing-then (report_here p s g m.at m.link down))
passed-parts p s m g down (Some h) = refl

told-parts : (p : LocalNode) (s : NodeState) (m : Notice) (g : Leg) (o : Option Bool) →
    notice_told p s m g o ≡ followed_by (notice_goes m g o) (notice_here p s m g o)
told-parts p s m g None = refl
told-parts p s m g (Some down) = passed-parts p s m g down (previous g)

notice-parts : (p : LocalNode) (s : NodeState) (u : NodeId) (m : Notice) (o : Option Leg) →
    notify_with p s u m o ≡ followed_by (leg_of_notice u m o) (call_of_notice p s u m o)
notice-parts p s u m None = refl
notice-parts p s u m (Some g) =
    elim (not (is_closing g.phase) && is_node (following g) u) as
    (λ b. cond b (notice_told p s m g (reported m.code)) nothing ≡
    followed_by (cond b (notice_goes m g (reported m.code)) nothing)
    (cond b (notice_here p s m g (reported m.code)) nothing)) [
      | true ↦ told-parts p s m g (reported m.code)
      | false ↦ refl
    ]

pub in-parts : (p : LocalNode) (s : NodeState) (u : NodeId) (m : Msg) →
    on_message p s u m ≡ followed_by (leg_part p s u m) (call_part p s u m)
in-parts p s u (Path l e k route set up r) = sym (then-nothing (on_message p s u (Path l e k route set up r)))
in-parts p s u (Resv l e k x) = resv-parts p s (arrival l e u k) x (find_leg l s.legs)
in-parts p s u (PathTear l e k) = sym (then-nothing (on_message p s u (PathTear l e k)))
in-parts p s u (PathErr l e at gone code) =
    err-parts s u (record { lsp = l; msg = PathErr l e at gone code; removed = gone; code = code }) (find_leg l s.legs)
in-parts p s u (Notify l e at k code) =
    notice-parts p s u (record { lsp = l; msg = Notify l e at k code; at = at; link = k; code = code })
    (find_leg l s.legs)
