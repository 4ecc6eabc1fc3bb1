-- By no message, and by no item of its desk, does a node learn of a link; by no message and no order does it learn that a
-- fibre went down.
use Rattle.std.proofs.Common.{[], Bool, cond, drop, false, List, nat_eq, not, refl, true, ◌∷◌, ◌≡◌}
use Rattle.std.specs.Prelude.{◌&&◌, ℕ, Option, Some, None}
use Rattle.ason_base.specs.{Codes.torn_code, Labels.least, Lsps.has_fibre, declared.calls.Phase.TheVariants.{Held, Live}, declared.ids.Fibre.Fibre, declared.messages.PathRole.PathRole, declared.messages.PathRole.TheVariants.{Work, Back}, declared.codes.ErrCode.ErrCode, declared.commands.Command.Command, declared.commands.Command.TheVariants.{Setup, Release, Protect, Retry, Revert, Fail, Repair}, declared.commands.DeskItem.DeskItem, declared.commands.DeskItem.TheVariants.{Order, Alarm, Clear}, declared.ids.NodeId.NodeId, declared.messages.Msg.Msg, declared.messages.Msg.TheVariants.{Path, Resv, PathTear, PathErr, Notify}, declared.network.LinkSpec.LinkSpec, declared.risks.Risk.Risk, declared.steps.Step.Step, declared.tables.Leg.Leg, declared.tables.Out.Out}
use Rattle.mesh_rules.specs.{declared.arrivals.Arrival.Arrival, declared.neighbours.Neighbour.Neighbour, ActivationAnswers.{confirmed, contended, disarmed, is_confirmed, resv_again}, Activations.{armed_on, path_again}, Alarms.{enters, on_alarm, on_clear}, CallSteps.{call_answered, call_contended, call_refused, call_turned}, Calls.{call_with, find_call}, Changes.{Answer, nothing, puts, removes, to_node}, Legs.{connected, find_leg, following, is_active_backup, is_armed, is_asked, is_closing, is_contended, is_held, is_node, is_over, label_through, previous, with_phase}, LocalNodes.{LocalNode, leads, own_link}, Messages.{arrival, on_message}, Notifies.{Notice, notice_passed, notice_told, notify_with}, Orders.{on_item, on_order}, PathErrs.{PathFailure, err_passed, path_err_with, removed}, Paths.{PathRequest, admitted, at_egress, checks, first_failure, first_path, in_transit, is_active, judged, offered_labels, path_with, risks_here}, Pairs.route_from, Reports.{fibre_into, reported, reported_on}, Resvs.{answered, is_expected, labels_left, passed_back, resv_with}, State.NodeState, Tears.{tear_with, torn}, Waits.on_tick}
use Rattle.mesh_nodes.specs.Learnt.{NothingElseIsLearnt}
use Rattle.mesh_nodes.proofs.{Cases.if_cases, CallsLearnNothing.{all_ticked-none, both, call_answered-none, call_contended-none, call_refused-none, call_reported-none, call_turned-none, either-one, LearnsNothing, protect-none, release-none, retry-none, revert-none, setup-none}}
use Rattle.mesh_rules.specs.Events.{on_first}

-- Path

at_egress-none : (p : LocalNode) (m : PathRequest) (link : LinkSpec) (risks : List Risk) (offered : List ℕ)
    (o : Option ℕ) → LearnsNothing (at_egress p m link risks offered o)
at_egress-none p m link risks offered None = (refl, refl)
at_egress-none p m link risks offered (Some x) = (refl, refl)

in_transit-none : (p : LocalNode) (s : NodeState) (m : PathRequest) (link : LinkSpec) (route : List Step)
    (o : Option LinkSpec) → LearnsNothing (in_transit p s m link route o)
in_transit-none p s m link route None = (refl, refl)
in_transit-none p s m link route (Some out) = (refl, refl)

admitted-none : (p : LocalNode) (s : NodeState) (m : PathRequest) (link : LinkSpec) (route : List Step) →
    LearnsNothing (admitted p s m link route)
admitted-none p s m link [] =
    at_egress-none p m link (risks_here p s m) (offered_labels p s m link) (least (offered_labels p s m link))
admitted-none p s m link (hop ∷ route) = in_transit-none p s m link route (own_link p hop.link)

judged-none : (p : LocalNode) (s : NodeState) (m : PathRequest) (link : LinkSpec) (o : Option ErrCode) →
    LearnsNothing (judged p s m link o)
judged-none p s m link (Some code) = (refl, refl)
judged-none p s m link None = admitted-none p s m link m.route

first_path-none : (p : LocalNode) (s : NodeState) (m : PathRequest) (o : Option LinkSpec) →
    LearnsNothing (first_path p s m o)
first_path-none p s m None = (refl, refl)
first_path-none p s m (Some link) =
    either-one
    (not (is_active m.role) && (leads (Some link) m.arrival.from p.id
    && not (nat_eq m.arrival.lsp.ingress.0 p.id.0)))
    (judged p s m link (first_failure (checks p s m link))) nothing
    (judged-none p s m link (first_failure (checks p s m link))) (refl, refl)

armed_on-none : (g : Leg) (route : List Step) (r : PathRole) (o : Option Neighbour) → LearnsNothing (armed_on g route r o)
armed_on-none g route r None = (refl, refl)
armed_on-none g route r (Some h) = (refl, refl)

again-none : (p : LocalNode) (s : NodeState) (a : Arrival) (route : List Step) (r : PathRole) (g : Leg) →
    LearnsNothing (path_again p s a route r g)
again-none p s a route (Work guard) g = (refl, refl)
again-none p s a route (Back false work primary) g =
    if_cases LearnsNothing (is_active_backup g && is_over (previous g) a.from a.link) _ _ (λ e. (refl, refl))
    (λ e. (refl, refl))
again-none p s a route (Back true work primary) g =
    if_cases LearnsNothing (is_held g.phase && is_over (previous g) a.from a.link) _ _
    (λ e. if_cases LearnsNothing (is_contended s.legs g) _ _ (λ b. (refl, refl))
    (λ b. armed_on-none g route (Back true work primary) (following g)))
    (λ e. (refl, refl))

path-none : (p : LocalNode) (s : NodeState) (m : PathRequest) (o : Option Leg) → LearnsNothing (path_with p s m o)
path-none p s m None = first_path-none p s m (own_link p m.arrival.link)
path-none p s m (Some g) = again-none p s m.arrival (drop 1 m.route) m.role g

-- Resv

confirmed-none : (s : NodeState) (g : Leg) (o : Option Neighbour) → LearnsNothing (confirmed s g o)
confirmed-none s g None =
    both (puts (with_phase Live g) []) (call_turned s (with_phase Live g) (call_with g.lsp s.calls)) (refl, refl)
    (call_turned-none s (with_phase Live g) (call_with g.lsp s.calls))
confirmed-none s g (Some h) = (refl, refl)

resv_again-none : (s : NodeState) (a : Arrival) (x : ℕ) (g : Leg) → LearnsNothing (resv_again s a x g)
resv_again-none s a x g =
    if_cases LearnsNothing (is_confirmed a x g) _ _ (λ e. confirmed-none s g (previous g)) (λ e. (refl, refl))

passed_back-none : (p : LocalNode) (a : Arrival) (g : Leg) (h : Neighbour) (x : ℕ) (o : Option ℕ) →
    LearnsNothing (passed_back p a g h x o)
passed_back-none p a g h x None = (refl, refl)
passed_back-none p a g h x (Some y) = (refl, refl)

answered-none : (p : LocalNode) (s : NodeState) (a : Arrival) (x : ℕ) (g : Leg) (o : Option Neighbour) →
    LearnsNothing (answered p s a x g o)
answered-none p s a x g None =
    both (puts (connected g None x) []) (call_answered p s (connected g None x) (call_with g.lsp s.calls)) (refl, refl)
    (call_answered-none p s (connected g None x) (call_with g.lsp s.calls))
answered-none p s a x g (Some h) = passed_back-none p a g h x (label_through p (labels_left p s g h) x)

resv-none : (p : LocalNode) (s : NodeState) (a : Arrival) (x : ℕ) (o : Option Leg) → LearnsNothing (resv_with p s a x o)
resv-none p s a x None = (refl, refl)
resv-none p s a x (Some g) =
    either-one (is_expected a x g) (answered p s a x g (previous g)) (resv_again s a x g)
    (answered-none p s a x g (previous g)) (resv_again-none s a x g)

-- PathErr

err_passed-none : (s : NodeState) (g : Leg) (e : PathFailure) (o : Option Neighbour) →
    LearnsNothing (err_passed s g e o)
err_passed-none s g e None =
    both (removes g.lsp []) (call_refused e.code g (call_with g.lsp s.calls)) (refl, refl)
    (call_refused-none e.code g (call_with g.lsp s.calls))
err_passed-none s g e (Some h) = (refl, refl)

removed-none : (s : NodeState) (g : Leg) (e : PathFailure) → LearnsNothing (removed s g e)
removed-none s g e =
    either-one (is_asked g.phase) (err_passed s g e (previous g))
    (cond (is_closing g.phase) (removes g.lsp []) nothing) (err_passed-none s g e (previous g))
    (either-one (is_closing g.phase) (removes g.lsp []) nothing (refl, refl) (refl, refl))

disarmed-none : (s : NodeState) (g : Leg) (m : Msg) (o : Option Neighbour) → LearnsNothing (disarmed s g m o)
disarmed-none s g m None =
    both (puts (with_phase Held g) []) (call_contended s (with_phase Held g) (call_with g.lsp s.calls)) (refl, refl)
    (call_contended-none s (with_phase Held g) (call_with g.lsp s.calls))
disarmed-none s g m (Some h) = (refl, refl)

contended-none : (s : NodeState) (g : Leg) (m : Msg) → LearnsNothing (contended s g m)
contended-none s g m =
    if_cases LearnsNothing (is_armed g.phase) _ _ (λ e. disarmed-none s g m (previous g)) (λ e. (refl, refl))

path_err-none : (s : NodeState) (u : NodeId) (e : PathFailure) (o : Option Leg) → LearnsNothing (path_err_with s u e o)
path_err-none s u e None = (refl, refl)
path_err-none s u e (Some g) =
    either-one (is_node (following g) u) (cond e.removed (removed s g e) (contended s g e.msg)) nothing
    (either-one e.removed (removed s g e) (contended s g e.msg) (removed-none s g e) (contended-none s g e.msg))
    (refl, refl)

-- PathTear

torn-none : (g : Leg) (answer : Out) (o : Option Neighbour) → LearnsNothing (torn g answer o)
torn-none g answer None = (refl, refl)
torn-none g answer (Some h) = (refl, refl)

tear-none : (p : LocalNode) (a : Arrival) (o : Option Leg) → LearnsNothing (tear_with p a o)
tear-none p a None = (refl, refl)
tear-none p a (Some g) =
    let answer = to_node a.from (PathErr g.lsp g.egress p.id true torn_code) in
    either-one (not (is_closing g.phase) && is_over (previous g) a.from a.link) (torn g answer (following g)) nothing
    (torn-none g answer (following g)) (refl, refl)

-- Notify

reported_on-none : (s : NodeState) (g : Leg) (down : Bool) (o : Option Fibre) → LearnsNothing (reported_on s g down o)
reported_on-none s g down None = (refl, refl)
reported_on-none s g down (Some f) = call_reported-none s g.lsp down f (call_with g.lsp s.calls)

notice_passed-none : (p : LocalNode) (s : NodeState) (m : Notice) (g : Leg) (down : Bool) (o : Option Neighbour) →
    LearnsNothing (notice_passed p s m g down o)
notice_passed-none p s m g down None = reported_on-none s g down (fibre_into (route_from p g) g.egress m.at m.link)
notice_passed-none p s m g down (Some h) = (refl, refl)

notice_told-none : (p : LocalNode) (s : NodeState) (m : Notice) (g : Leg) (o : Option Bool) →
    LearnsNothing (notice_told p s m g o)
notice_told-none p s m g None = (refl, refl)
notice_told-none p s m g (Some down) = notice_passed-none p s m g down (previous g)

notify-none : (p : LocalNode) (s : NodeState) (u : NodeId) (m : Notice) (o : Option Leg) →
    LearnsNothing (notify_with p s u m o)
notify-none p s u m None = (refl, refl)
notify-none p s u m (Some g) =
    either-one (not (is_closing g.phase) && is_node (following g) u) (notice_told p s m g (reported m.code)) nothing
    (notice_told-none p s m g (reported m.code)) (refl, refl)

-- Alarms and clears

alarm-none : (p : LocalNode) (s : NodeState) (f : Fibre) → (on_alarm p s f).rows ≡ []
alarm-none p s f =
    if_cases (λ (a : Answer). a.rows ≡ []) (enters p f (own_link p f.link) && not (has_fibre s.down f)) _ _
    (λ e. refl) (λ e. refl)

clear-none : (p : LocalNode) (s : NodeState) (f : Fibre) → (on_clear p s f).rows ≡ []
clear-none p s f =
    if_cases (λ (a : Answer). a.rows ≡ []) (enters p f (own_link p f.link) && has_fibre s.down f) _ _ (λ e. refl)
    (λ e. refl)

-- Every message, and every item

message-none : (p : LocalNode) (s : NodeState) (u : NodeId) (m : Msg) → LearnsNothing (on_message p s u m)
message-none p s u (Path l e k route set up r) =
    path-none p s (record { arrival = arrival l e u k; route = route; set = set; upstream = up; role = r })
    (find_leg l s.legs)
message-none p s u (Resv l e k x) = resv-none p s (arrival l e u k) x (find_leg l s.legs)
message-none p s u (PathTear l e k) = tear-none p (arrival l e u k) (find_leg l s.legs)
message-none p s u (PathErr l e at gone code) =
    path_err-none s u (record { lsp = l; msg = PathErr l e at gone code; removed = gone; code = code })
    (find_leg l s.legs)
message-none p s u (Notify l e at k code) =
    notify-none p s u (record { lsp = l; msg = Notify l e at k code; at = at; link = k; code = code })
    (find_leg l s.legs)

order-none : (p : LocalNode) (s : NodeState) (c : Command) → LearnsNothing (on_order p s c)
order-none p s (Setup n from to protected two via backup) =
    setup-none p s
    (record { call = n; from = from; egress = to; protected = protected; both = two; via = via; backup = backup })
    (find_call n s.calls)
order-none p s (Release n from) = release-none p s from (find_call n s.calls)
order-none p s (Protect n from) = protect-none p s from (find_call n s.calls)
order-none p s (Retry n from) = retry-none p s from (find_call n s.calls)
order-none p s (Revert n from) = revert-none p s from (find_call n s.calls)
order-none p s (Fail g) = (refl, refl)
order-none p s (Repair g) = (refl, refl)

pub message-learns_nothing : (p : LocalNode) (s : NodeState) (u : NodeId) (m : Msg) → (on_message p s u m).rows ≡ []
message-learns_nothing p s u m = (message-none p s u m).0

pub item-learns_nothing : (p : LocalNode) (s : NodeState) (i : DeskItem) → (on_item p s i).rows ≡ []
item-learns_nothing p s (Order c) = (order-none p s c).0
item-learns_nothing p s (Alarm f) = alarm-none p s f
item-learns_nothing p s (Clear f) = clear-none p s f

-- what is known to be down stays so after every message and every order
pub message-keeps_down : (p : LocalNode) (s : NodeState) (u : NodeId) (m : Msg) → (on_message p s u m).down ≡ None
message-keeps_down p s u m = (message-none p s u m).1

pub order-keeps_down : (p : LocalNode) (s : NodeState) (c : Command) → (on_order p s c).down ≡ None
order-keeps_down p s c = (order-none p s c).1

pub tick-learns_nothing : (p : LocalNode) (s : NodeState) → (on_tick p s).rows ≡ []
tick-learns_nothing p s = (all_ticked-none p.wait s.legs s.calls).0

pub tick-keeps_down : (p : LocalNode) (s : NodeState) → (on_tick p s).down ≡ None
tick-keeps_down p s = (all_ticked-none p.wait s.legs s.calls).1

pub nothing-else : NothingElseIsLearnt
nothing-else = (message-learns_nothing, item-learns_nothing, tick-learns_nothing)

-- Nor by the first of the messages that are under way, if there is one.
pub first-learns_nothing : (p : LocalNode) (s : NodeState) (u : NodeId) (ms : List Msg) → (on_first p s u ms).rows ≡ []
first-learns_nothing p s u [] = refl
first-learns_nothing p s u (m ∷ ms) = message-learns_nothing p s u m
