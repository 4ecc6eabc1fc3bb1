-- A call that gets a new LSP from a message knows nothing of its fibres to be down.
use Rattle.std.proofs.Common.{◌≡◌, ℕ, Bool, true, false, not, List, [], ◌∷◌, drop, refl}
use Rattle.std.specs.Prelude.{◌&&◌, Option, Some, None}
use Rattle.ason_base.specs.{declared.calls.Phase.TheVariants.{Held, Live}, declared.ids.CallNo.CallNo, declared.ids.Fibre.Fibre, declared.ids.Lsp.Lsp, declared.ids.NodeId.NodeId, declared.messages.Msg.Msg, declared.messages.PathRole.PathRole, declared.messages.PathRole.TheVariants.{Work, Back}, declared.steps.Step.Step, declared.tables.CallRec.CallRec, declared.tables.Leg.Leg, declared.tables.Out.Out}
use Rattle.mesh_rules.specs.{declared.arrivals.Arrival.Arrival, declared.changes.CallChange.CallChange, declared.neighbours.Neighbour.Neighbour, ActivationAnswers.{confirmed, disarmed, is_confirmed}, Activations.{armed_on, path_again}, Calls.{call_with, find_call, names}, Changes.Answer, Events.on_first, Legs.{connected, find_leg, following, is_active_backup, is_armed, is_asked, is_closing, is_contended, is_held, is_node, is_over, label_through, leg_of, previous, with_phase}, LocalNodes.{LocalNode, own_link}, Messages.on_message, Notifies.{Notice, notice_passed, notice_told, notify_with}, Pairs.route_from, PathErrs.{PathFailure, err_passed, path_err_with}, Paths.{PathRequest, path_with}, Reports.{call_reported, fibre_into, reported, reported_on, with_report}, Resvs.{answered, is_expected, labels_left, passed_back, resv_with}, State.NodeState, Tears.{tear_with, torn}}
use Rattle.mesh_nodes.specs.Order.{CallsRise}
use Rattle.mesh_nodes.proofs.{Cases.if_cases, ByKind.by-message}
use Rattle.mesh_laws.proofs.{reports.FirstPaths.no_calls-first_path, reports.Reported.report-names, reports.NewParts.{AreCallsNew, IsAnswerNew, answered-new, called-there, contended-new, new-decide, new-none, refused-new, turned-new}}

module _ (p : LocalNode) (s : NodeState) (rise : CallsRise s.calls) (l : Lsp)
    (unnamed : (k : CallNo) (c : CallRec) → find_call k s.calls ≡ Some c → names l c ≡ false) where
  abbrev New : Answer → Type 0
  New = IsAnswerNew p s rise l unnamed

  unchanged : (changes : List CallChange) → changes ≡ [] → AreCallsNew p s rise l unnamed changes
  unchanged = new-none p s rise l unnamed

  there : (j : Lsp) (c : CallRec) → call_with j s.calls ≡ Some c → find_call c.call s.calls ≡ Some c
  there = called-there p s rise l unnamed

  resv-new : (a : Arrival) (x : ℕ) (o : Option Leg) → New (resv_with p s a x o)
  resv-new a x None = unchanged [] refl
  resv-new a x (Some g) =
      if_cases New (is_expected a x g) _ _ (λ e. expected (previous g))
      (λ e. if_cases New (is_confirmed a x g) _ _ (λ f. confirms (previous g)) (λ f. unchanged [] refl))
    where
      back : (h : Neighbour) (y : Option ℕ) → New (passed_back p a g h x y)
      back h None = unchanged _ refl
      back h (Some y) = unchanged _ refl

      expected : (h : Option Neighbour) → New (answered p s a x g h)
      expected None = answered-new p s rise l unnamed (connected g None x) (call_with g.lsp s.calls) (there g.lsp)
      expected (Some h) = back h (label_through p (labels_left p s g h) x)

      confirms : (h : Option Neighbour) → New (confirmed s g h)
      confirms None = turned-new p s rise l unnamed (with_phase Live g) (call_with g.lsp s.calls) (there g.lsp)
      confirms (Some h) = unchanged _ refl

  err-new : (u : NodeId) (e : PathFailure) (o : Option Leg) → New (path_err_with s u e o)
  err-new u e None = unchanged [] refl
  err-new u e (Some g) =
      if_cases New (is_node (following g) u) _ _
      (λ x. if_cases New e.removed _ _
      (λ y. if_cases New (is_asked g.phase) _ _ (λ z. passed (previous g))
      (λ z. if_cases New (is_closing g.phase) _ _ (λ w. unchanged _ refl) (λ w. unchanged [] refl)))
      (λ y. if_cases New (is_armed g.phase) _ _ (λ z. disarms (previous g)) (λ z. unchanged [] refl)))
      (λ x. unchanged [] refl)
    where
      passed : (h : Option Neighbour) → New (err_passed s g e h)
      passed None = refused-new p s rise l unnamed e.code g (call_with g.lsp s.calls) (there g.lsp)
      passed (Some h) = unchanged _ refl

      disarms : (h : Option Neighbour) → New (disarmed s g e.msg h)
      disarms None = contended-new p s rise l unnamed (with_phase Held g) (call_with g.lsp s.calls) (there g.lsp)
      disarms (Some h) = unchanged _ refl

  tear-new : (a : Arrival) (o : Option Leg) → New (tear_with p a o)
  tear-new a None = unchanged [] refl
  tear-new a (Some g) = if_cases New (not (is_closing g.phase) && is_over (previous g) a.from a.link) _ _
      (λ e. tears-on _ (following g)) (λ e. unchanged [] refl)
    where
      tears-on : (answer : Out) (h : Option Neighbour) → New (torn g answer h)
      tears-on answer None = unchanged _ refl
      tears-on answer (Some h) = unchanged _ refl

  again-new : (a : Arrival) (route : List Step) (r : PathRole) (g : Leg) → New (path_again p s a route r g)
  again-new a route (Work guard) g = unchanged [] refl
  again-new a route (Back false work primary) g =
      if_cases New (is_active_backup g && is_over (previous g) a.from a.link) _ _ (λ h. unchanged _ refl)
      (λ h. unchanged [] refl)
  again-new a route (Back true work primary) g =
      if_cases New (is_held g.phase && is_over (previous g) a.from a.link) _ _
      (λ h. if_cases New (is_contended s.legs g) _ _ (λ c. unchanged _ refl)
      (λ c. on (following g)))
      (λ h. unchanged [] refl)
    where
      on : (h : Option Neighbour) → New (armed_on g route (Back true work primary) h)
      on None = unchanged _ refl
      on (Some h) = unchanged _ refl

  path-new : (m : PathRequest) (o : Option Leg) → New (path_with p s m o)
  path-new m None = unchanged _ (no_calls-first_path p s m (own_link p m.arrival.link))
  path-new m (Some g) = again-new m.arrival (drop 1 m.route) m.role g

  notify-new : (u : NodeId) (m : Notice) (o : Option Leg) → New (notify_with p s u m o)
  notify-new u m None = unchanged [] refl
  notify-new u m (Some g) =
      if_cases New (not (is_closing g.phase) && is_node (following g) u) _ _ (λ e. told (reported m.code))
      (λ e. unchanged [] refl)
    where
      called : (down : Bool) (f : Fibre) (o : Option CallRec) → call_with g.lsp s.calls ≡ o →
          New (call_reported s g.lsp down f o)
      called down f None is = unchanged [] refl
      called down f (Some c) is =
          new-decide p s rise l unnamed c (with_report c g.lsp down f) (leg_of c.back s.legs)
          (there g.lsp c is)
          (report-names c g.lsp l down f)

      on-fibre : (down : Bool) (o : Option Fibre) → New (reported_on s g down o)
      on-fibre down None = unchanged [] refl
      on-fibre down (Some f) = called down f (call_with g.lsp s.calls) refl

      passed : (down : Bool) (h : Option Neighbour) → New (notice_passed p s m g down h)
      passed down None = on-fibre down (fibre_into (route_from p g) g.egress m.at m.link)
      passed down (Some h) = unchanged _ refl

      told : (o : Option Bool) → New (notice_told p s m g o)
      told None = unchanged [] refl
      told (Some down) = passed down (previous g)

  pub message-new : (u : NodeId) (m : Msg) → New (on_message p s u m)
  message-new u =
      by-message New p s u (λ m. path-new m (find_leg m.arrival.lsp s.legs))
      (λ a x. resv-new a x (find_leg a.lsp s.legs)) (λ a. tear-new a (find_leg a.lsp s.legs))
      (λ e. err-new u e (find_leg e.lsp s.legs)) (λ m. notify-new u m (find_leg m.lsp s.legs))

  pub first-new : (u : NodeId) (ms : List Msg) → New (on_first p s u ms)
  first-new u [] = unchanged [] refl
  first-new u (m ∷ ms) = message-new u m
