-- What a node answers to a message that concerns one of the groups concerns one: no activation is refused.
use Rattle.std.proofs.Common.{◌≡◌, ℕ, true, false, List, [], ◌∷◌, refl, sym, subst, drop}
use Rattle.std.specs.{Prelude.{◌&&◌, not, Option, Some, None}, List.AllByRecursion}
use Rattle.ason_base.specs.{Codes.torn_code, Network.Network, declared.ids.LinkId.LinkId, declared.ids.Lsp.Lsp, declared.ids.NodeId.NodeId, declared.commands.Group.Group, declared.messages.Msg.Msg, declared.messages.Msg.TheVariants.{Path, Resv, PathTear, PathErr, Notify}, declared.messages.PathRole.PathRole, declared.messages.PathRole.TheVariants.{Work, Back}, declared.steps.Step.Step, declared.calls.Phase.TheVariants.{Armed, Held, Live}, declared.tables.Leg.Leg, declared.tables.Out.Out}
use Rattle.ason_base.proofs.Bools.{and-left, and-right}
use Rattle.mesh_rules.specs.{declared.arrivals.Arrival.Arrival, declared.neighbours.Neighbour.Neighbour, Activations.{activated, armed_on, busy_to, path_again, resv_to, taken_back, taken_on}, ActivationAnswers.{confirmed, is_confirmed, resv_again}, Calls.call_with, CallSteps.{call_answered, call_refused, call_turned}, Changes.{nothing, puts, removes, sends, to_node}, Legs.{closed, connected, find_leg, following, is_active_backup, is_armed, is_asked, is_closing, is_contended, is_held, is_node, is_over, label_through, previous, with_phase}, LocalNodes.{LocalNode, own_link}, Messages.{arrival, on_message}, Notifies.{Notice, notify_with}, PathErrs.{PathFailure, err_passed, path_err_with, removed}, Paths.{PathRequest, path_with}, Reports.reported, Resvs.{answered, connected_here, is_expected, labels_left, passed_back, resv_with}, State.NodeState, Tears.{tear_with, torn}}
use Rattle.mesh_nodes.proofs.{Cases.if_cases, LegList.{found-all, found-lsp}}
use Rattle.lsp_laws.proofs.nodes.Facts.{SharesAll}
use Rattle.mesh_laws.proofs.{alone.CallAnswers.{call_answered-fine, call_refused-fine, call_turned-fine}, alone.Facts.{MsgKnows, NodeKnows, RoleKnows, LspRoutes}, alone.Fine.{Fine, NodeHolds, OutFine, fine-nothing, fine-puts, fine-removes, fine-then}, alone.FirstPaths.first_path-fine, alone.Groups.{LegConcernsGroups, MsgConcernsGroups, RoleConcerns, has_one, any_on_link}, alone.Legs.{BackupsApart, IsLegAlone, MsgApart, RecordsGroup, armed-records, closed-concerns, idle-concerns, not_contended, records-concerns, reserved-concerns}, alone.Reports.notice_told-fine, alone.RouteRisks.recorded-one}

module _ (t : Network) (gs : List Group) (o : LspRoutes) (p : LocalNode) (s : NodeState) (knows : NodeKnows t o p s)
    (holds : NodeHolds t gs o s) (apart : BackupsApart gs s.legs) where
  -- A leg that stands

  module _ (b : Leg) (here : find_leg b.lsp s.legs ≡ Some b) where
    old : LegConcernsGroups gs b
    old = found-all (LegConcernsGroups gs) b.lsp s.legs b here holds.legs

    resv_to-fine : (h : Option Neighbour) (x : Option ℕ) → AllByRecursion (OutFine t gs) (resv_to b h x)
    resv_to-fine None x = tt
    resv_to-fine (Some h) None = tt
    resv_to-fine (Some h) (Some x) = (tt, tt)

    -- Activation

    armed_on-fine : (route : List Step) (r : PathRole) (h : Option Neighbour) → RoleConcerns t gs r →
        RecordsGroup gs b →
        Fine t gs o (armed_on b route r h)
    armed_on-fine route r None concerns records =
        fine-puts t gs o (with_phase Live b) _ (records-concerns gs (with_phase Live b) records)
        (resv_to-fine (previous b) b.in_label)
    armed_on-fine route r (Some h) concerns records =
        fine-puts t gs o (with_phase Armed b) _ (records-concerns gs (with_phase Armed b) records) (concerns, tt)

    activated-fine : (a : Arrival) (route : List Step) (r : PathRole) → RoleConcerns t gs r → RecordsGroup gs b →
        Fine t gs o (activated p s a route r b)
    activated-fine a route r concerns records =
        if_cases (Fine t gs o) (is_contended s.legs b) (sends (busy_to p b a.from ∷ []))
        (armed_on b route r (following b))
        (λ e. let never = not_contended gs s.legs knows.rise holds.legs b (knows.shares b.lsp b here)
        (apart b.lsp b here) records in
        absurd (cc (e, never)))
        (λ e. armed_on-fine route r (following b) concerns records)

    -- a Held leg concerns any group, and the Path that goes on doesn't activate
    taken_back-fine : (route : List Step) (work : ℕ) (primary : List Step) →
        Fine t gs o (taken_back b route (Back false work primary))
    taken_back-fine route work primary =
        fine-puts t gs o (with_phase Held b) _ (idle-concerns gs (with_phase Held b) refl)
        (path (following b))
      where
        path : (h : Option Neighbour) →
            AllByRecursion (OutFine t gs) (taken_on b route (Back false work primary) h)
        path None = tt
        path (Some h) = (tt, tt)

    path_again-fine : (a : Arrival) (route : List Step) (r : PathRole) → RoleConcerns t gs r → RoleKnows t s b.lsp r →
        Fine t gs o (path_again p s a route r b)
    path_again-fine a route (Work guard) concerns its = fine-nothing t gs o
    path_again-fine a route (Back false work primary) concerns its =
        if_cases (Fine t gs o) (is_active_backup b && is_over (previous b) a.from a.link) _ nothing
        (λ e. taken_back-fine route work primary) (λ e. fine-nothing t gs o)
    path_again-fine a route (Back true work primary) concerns its =
        if_cases (Fine t gs o) (is_held b.phase && is_over (previous b) a.from a.link) _ nothing
        (λ e. activated-fine a route (Back true work primary) concerns
        (λ back. subst (λ x. has_one x gs ≡ true) (sym (its b here back))
        (recorded-one t gs primary concerns)))
        (λ e. fine-nothing t gs o)

    -- A Resv

    -- the leg with the label that it gets shares that, and of the backups that use it no other records one of the
    -- groups
    abbrev Gift : ℕ → Type 0
    Gift x = SharesAll s.legs (connected b None x) × IsLegAlone gs s.legs (connected b None x)

    connected_here-fine : (x : ℕ) → Gift x → Fine t gs o (connected_here p s x b)
    connected_here-fine x gift =
        fine-then t gs o (puts (connected b None x) [])
        (call_answered p s (connected b None x) (call_with b.lsp s.calls))
        (fine-puts t gs o (connected b None x) [] (reserved-concerns gs (connected b None x) refl) tt)
        (call_answered-fine t gs o p s knows holds b (connected b None x) (call_with b.lsp s.calls) here refl refl refl
        gift.0 gift.1 refl)

    passed_back-fine : (a : Arrival) (h : Neighbour) (x : ℕ) (y : Option ℕ) → Fine t gs o (passed_back p a b h x y)
    passed_back-fine a h x None = fine-puts t gs o (closed b) _ (closed-concerns gs b old) (tt, (tt, tt))
    passed_back-fine a h x (Some y) =
        fine-puts t gs o (connected b (Some y) x) _ (reserved-concerns gs (connected b (Some y) x) refl) (tt, tt)

    answered-fine : (a : Arrival) (x : ℕ) (h : Option Neighbour) → Gift x → Fine t gs o (answered p s a x b h)
    answered-fine a x None gift = connected_here-fine x gift
    answered-fine a x (Some h) gift = passed_back-fine a h x (label_through p (labels_left p s b h) x)

    confirmed-fine : (h : Option Neighbour) → is_armed b.phase ≡ true → Fine t gs o (confirmed s b h)
    confirmed-fine None armed =
        fine-then t gs o (puts (with_phase Live b) []) (call_turned s (with_phase Live b) (call_with b.lsp s.calls))
        (fine-puts t gs o (with_phase Live b) []
        (records-concerns gs (with_phase Live b) (armed-records gs b armed old)) tt)
        (call_turned-fine t gs o p s knows holds (with_phase Live b) b.lsp (call_with b.lsp s.calls) refl)
    confirmed-fine (Some h) armed =
        fine-puts t gs o (with_phase Live b) _
        (records-concerns gs (with_phase Live b) (armed-records gs b armed old)) (resv_to-fine (Some h) b.in_label)

    resv_again-fine : (a : Arrival) (x : ℕ) → Fine t gs o (resv_again s a x b)
    resv_again-fine a x =
        if_cases (Fine t gs o) (is_confirmed a x b) (confirmed s b (previous b)) nothing
        (λ e. confirmed-fine (previous b) (and-left (is_armed b.phase) _ e)) (λ e. fine-nothing t gs o)

    resv-fine : (a : Arrival) (x : ℕ) →
        (is_asked b.phase ≡ true → is_over (following b) a.from a.link ≡ true → Gift x) →
        Fine t gs o (resv_with p s a x (Some b))
    resv-fine a x gift =
        if_cases (Fine t gs o) (is_expected a x b) (answered p s a x b (previous b)) (resv_again s a x b)
        (λ e. answered-fine a x (previous b) (gift (and-left (is_asked b.phase) _ e)
        (and-left (is_over (following b) a.from a.link) _ (and-right (is_asked b.phase) _ e))))
        (λ e. resv_again-fine a x)

    -- A PathErr with Path_State_Removed

    err_passed-fine : (e : PathFailure) (h : Option Neighbour) → MsgConcernsGroups t gs e.msg →
        Fine t gs o (err_passed s b e h)
    err_passed-fine e None concerns =
        fine-then t gs o (removes b.lsp []) (call_refused e.code b (call_with b.lsp s.calls))
        (fine-removes t gs o b.lsp [] tt)
        (call_refused-fine t gs o p s knows holds e.code b b.lsp (call_with b.lsp s.calls) refl)
    err_passed-fine e (Some h) concerns = fine-removes t gs o b.lsp _ (concerns, tt)

    removed-fine : (e : PathFailure) → MsgConcernsGroups t gs e.msg → Fine t gs o (removed s b e)
    removed-fine e concerns =
        if_cases (Fine t gs o) (is_asked b.phase) (err_passed s b e (previous b)) _
        (λ test. err_passed-fine e (previous b) concerns)
        (λ test. if_cases (Fine t gs o) (is_closing b.phase) (removes b.lsp []) nothing
        (λ test'. fine-removes t gs o b.lsp [] tt) (λ test'. fine-nothing t gs o))

    -- A PathTear

    torn-fine : (answer : Out) (h : Option Neighbour) → OutFine t gs answer → Fine t gs o (torn b answer h)
    torn-fine answer None concerns = fine-removes t gs o b.lsp _ (concerns, tt)
    torn-fine answer (Some h) concerns = fine-puts t gs o (closed b) _ (closed-concerns gs b old) (concerns, (tt, tt))

  -- Every message

  found-here : (l : Lsp) (b : Leg) → find_leg l s.legs ≡ Some b → find_leg b.lsp s.legs ≡ Some b
  found-here l b found = subst (λ k. find_leg k s.legs ≡ Some b) (sym (found-lsp l s.legs b found)) found

  path_with-fine : (m : PathRequest) (b : Option Leg) → find_leg m.arrival.lsp s.legs ≡ b → RoleConcerns t gs m.role →
      RoleKnows t s m.arrival.lsp m.role → Fine t gs o (path_with p s m b)
  path_with-fine m None found concerns its = first_path-fine t gs o p s m (own_link p m.arrival.link)
  path_with-fine m (Some b) found concerns its =
      path_again-fine b (found-here m.arrival.lsp b found) m.arrival (drop 1 m.route) m.role concerns
      (subst (λ k. RoleKnows t s k m.role) (sym (found-lsp m.arrival.lsp s.legs b found)) its)

  resv_with-fine : (l : Lsp) (e u : NodeId) (k : LinkId) (x : ℕ) (b : Option Leg) → find_leg l s.legs ≡ b →
      MsgKnows t s u (Resv l e k x) → MsgApart gs s.legs u (Resv l e k x) →
      Fine t gs o (resv_with p s (arrival l e u k) x b)
  resv_with-fine l e u k x None found its other = fine-nothing t gs o
  resv_with-fine l e u k x (Some b) found its other =
      resv-fine b (found-here l b found) (arrival l e u k) x
      (λ asked over. (its b found over, other b found asked over))

  tear_with-fine : (a : Arrival) (b : Option Leg) → find_leg a.lsp s.legs ≡ b → Fine t gs o (tear_with p a b)
  tear_with-fine a None found = fine-nothing t gs o
  tear_with-fine a (Some b) found =
      if_cases (Fine t gs o) (not (is_closing b.phase) && is_over (previous b) a.from a.link) _ nothing
      (λ e. torn-fine b (found-here a.lsp b found) (to_node a.from (PathErr b.lsp b.egress p.id true torn_code))
      (following b) tt)
      (λ e. fine-nothing t gs o)

  removal-fine : (u : NodeId) (e : PathFailure) (b : Option Leg) → find_leg e.lsp s.legs ≡ b → e.removed ≡ true →
      MsgConcernsGroups t gs e.msg → Fine t gs o (path_err_with s u e b)
  removal-fine u e None found gone concerns = fine-nothing t gs o
  removal-fine u e (Some b) found gone concerns =
      if_cases (Fine t gs o) (is_node (following b) u) _ nothing
      (λ test. rw gone (removed-fine b (found-here e.lsp b found) e concerns)) (λ test. fine-nothing t gs o)

  notify_with-fine : (u : NodeId) (m : Notice) (b : Option Leg) → find_leg m.lsp s.legs ≡ b →
      MsgConcernsGroups t gs m.msg → any_on_link t gs m.link ≡ true → Fine t gs o (notify_with p s u m b)
  notify_with-fine u m None found concerns on = fine-nothing t gs o
  notify_with-fine u m (Some b) found concerns on =
      if_cases (Fine t gs o) (not (is_closing b.phase) && is_node (following b) u) _ nothing
      (λ e. notice_told-fine t gs o p s knows holds apart b (found-here m.lsp b found) m (reported m.code) concerns on)
      (λ e. fine-nothing t gs o)

  -- the answer to each message concerns one of the groups
  pub message-fine : (u : NodeId) (m : Msg) → MsgConcernsGroups t gs m → MsgKnows t s u m → MsgApart gs s.legs u m →
      Fine t gs o (on_message p s u m)
  message-fine u (Path l e k route set up r) concerns its other =
      path_with-fine (record { arrival = arrival l e u k; route = route; set = set; upstream = up; role = r })
      (find_leg l s.legs)
      refl concerns its
  message-fine u (Resv l e k x) concerns its other = resv_with-fine l e u k x (find_leg l s.legs) refl its other
  message-fine u (PathTear l e k) concerns its other = tear_with-fine (arrival l e u k) (find_leg l s.legs) refl
  message-fine u (PathErr l e at true code) concerns its other =
      removal-fine u (record { lsp = l; msg = PathErr l e at true code; removed = true; code = code })
      (find_leg l s.legs) refl refl tt
  message-fine u (PathErr l e at false code) concerns its other = absurd concerns
  message-fine u (Notify l e at k code) concerns its other =
      notify_with-fine u (record { lsp = l; msg = Notify l e at k code; at = at; link = k; code = code })
      (find_leg l s.legs) refl concerns concerns
