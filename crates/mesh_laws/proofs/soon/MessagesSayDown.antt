-- No message but a Notify of a repair sends one on.
use Rattle.std.proofs.Common.{Bool, List, [], false, nat_eq, not, true, ℕ, ◌∷◌}
use Rattle.std.specs.Prelude.{None, Option, Some, drop, ◌&&◌}
use Rattle.ason_base.specs.{declared.calls.Phase.TheVariants.{Held, Live}, Codes.torn_code, declared.codes.ErrCode.ErrCode, declared.ids.Fibre.Fibre, declared.ids.NodeId.NodeId, declared.messages.Msg.Msg, declared.messages.PathRole.PathRole, declared.network.LinkSpec.LinkSpec, declared.steps.Step.Step, declared.tables.Leg.Leg, declared.tables.Out.Out, declared.risks.Risk.Risk, Labels.least, declared.messages.Msg.TheVariants.{Notify, Path, PathErr, PathTear, Resv}}
use Rattle.mesh_rules.specs.{Calls.call_with, Changes.{Answer, to_node}, Legs.{connected, find_leg, following, is_active_backup, is_armed, is_asked, is_closing, is_contended, is_held, is_node, is_over, label_through, previous, with_phase}, Reports.{fibre_into, reported, reported_on}, State.NodeState, Pairs.route_from, LocalNodes.{LocalNode, leads, own_link}, declared.arrivals.Arrival.Arrival, declared.neighbours.Neighbour.Neighbour, ActivationAnswers.{confirmed, disarmed, is_confirmed}, Activations.{armed_on, path_again}, Messages.{arrival, on_message}, Notifies.{Notice, notice_passed, notice_told, notify_with}, PathErrs.{PathFailure, err_passed, path_err_with}, Paths.{PathRequest, admitted, at_egress, checks, first_failure, first_path, in_transit, is_active, judged, offered_labels, path_with, risks_here}, Resvs.{answered, is_expected, labels_left, passed_back, resv_with}, Tears.{tear_with, torn}}
use Rattle.mesh_nodes.proofs.Cases.{if_cases}
use Rattle.ason_base.specs.declared.messages.PathRole.TheVariants as path
use Rattle.mesh_laws.proofs.soon.CallsSayDown.{AllDown, IsDown, resv-out, back-out, sent-answered, sent-turned, sent-contended, sent-refused, sent-reported}

module _ (p : LocalNode) (s : NodeState) where
  abbrev Holds : Answer → Type 0
  Holds a = AllDown a.sent

  holds-passed_back : (a : Arrival) (g : Leg) (h : Neighbour) (x : ℕ) (o : Option ℕ) → Holds (passed_back p a g h x o)
  holds-passed_back a g h x None = (tt, (tt, tt))
  holds-passed_back a g h x (Some y) = (tt, tt)

  holds-answered : (a : Arrival) (x : ℕ) (g : Leg) (o : Option Neighbour) → Holds (answered p s a x g o)
  holds-answered a x g None = sent-answered p s (connected g None x) (call_with g.lsp s.calls)
  holds-answered a x g (Some h) = holds-passed_back a g h x (label_through p (labels_left p s g h) x)

  holds-confirmed : (g : Leg) (o : Option Neighbour) → Holds (confirmed s g o)
  holds-confirmed g None = sent-turned p s (with_phase Live g) (call_with g.lsp s.calls)
  holds-confirmed g (Some h) = resv-out p s g (Some h) g.in_label

  holds-resv : (a : Arrival) (x : ℕ) (o : Option Leg) → Holds (resv_with p s a x o)
  holds-resv a x None = tt
  holds-resv a x (Some g) =
      if_cases Holds (is_expected a x g) _ _ (λ e. holds-answered a x g (previous g))
      (λ e. if_cases Holds (is_confirmed a x g) _ _ (λ h. holds-confirmed g (previous g)) (λ h. tt))

  holds-err_passed : (g : Leg) (e : PathFailure) (o : Option Neighbour) → IsDown e.msg → Holds (err_passed s g e o)
  holds-err_passed g e None down = sent-refused p s e.code g (call_with g.lsp s.calls)
  holds-err_passed g e (Some h) down = (down, tt)

  holds-disarmed : (g : Leg) (m : Msg) (o : Option Neighbour) → IsDown m → Holds (disarmed s g m o)
  holds-disarmed g m None down = sent-contended p s (with_phase Held g) (call_with g.lsp s.calls)
  holds-disarmed g m (Some h) down = (down, tt)

  holds-err : (u : NodeId) (e : PathFailure) (o : Option Leg) → IsDown e.msg → Holds (path_err_with s u e o)
  holds-err u e None down = tt
  holds-err u e (Some g) down =
      if_cases Holds (is_node (following g) u) _ _
      (λ h. if_cases Holds e.removed _ _
      (λ r. if_cases Holds (is_asked g.phase) _ _ (λ h. holds-err_passed g e (previous g) down)
      (λ h. if_cases Holds (is_closing g.phase) _ _ (λ h. tt) (λ h. tt)))
      (λ r. if_cases Holds (is_armed g.phase) _ _ (λ h. holds-disarmed g e.msg (previous g) down) (λ h. tt)))
      (λ h. tt)

  holds-torn : (g : Leg) (answer : Out) (o : Option Neighbour) → IsDown answer.msg → Holds (torn g answer o)
  holds-torn g answer None down = (down, tt)
  holds-torn g answer (Some h) down = (down, (tt, tt))

  holds-tear : (a : Arrival) (o : Option Leg) → Holds (tear_with p a o)
  holds-tear a None = tt
  holds-tear a (Some g) =
      if_cases Holds (not (is_closing g.phase) && is_over (previous g) a.from a.link) _ _
      (λ e. holds-torn g (to_node a.from (PathErr g.lsp g.egress p.id true torn_code)) (following g) tt) (λ e. tt)

  holds-at_egress : (m : PathRequest) (link : LinkSpec) (risks : List Risk) (offered : List ℕ) (o : Option ℕ) →
      Holds (at_egress p m link risks offered o)
  holds-at_egress m link risks offered None = tt
  holds-at_egress m link risks offered (Some x) = (tt, tt)

  holds-in_transit : (m : PathRequest) (link : LinkSpec) (route : List Step) (o : Option LinkSpec) →
      Holds (in_transit p s m link route o)
  holds-in_transit m link route None = tt
  holds-in_transit m link route (Some out) = (tt, tt)

  holds-admitted_path : (m : PathRequest) (link : LinkSpec) (route : List Step) → Holds (admitted p s m link route)
  holds-admitted_path m link [] =
      holds-at_egress m link (risks_here p s m) (offered_labels p s m link) (least (offered_labels p s m link))
  holds-admitted_path m link (hop ∷ route) = holds-in_transit m link route (own_link p hop.link)

  holds-judged : (m : PathRequest) (link : LinkSpec) (o : Option ErrCode) → Holds (judged p s m link o)
  holds-judged m link (Some code) = (tt, tt)
  holds-judged m link None = holds-admitted_path m link m.route

  holds-first_path : (m : PathRequest) (o : Option LinkSpec) → Holds (first_path p s m o)
  holds-first_path m None = tt
  holds-first_path m (Some link) =
      if_cases Holds
      (not (is_active m.role) && (leads (Some link) m.arrival.from p.id
      && not (nat_eq m.arrival.lsp.ingress.0 p.id.0))) _ _
      (λ h. holds-judged m link (first_failure (checks p s m link))) (λ h. tt)

  holds-armed_on : (g : Leg) (route : List Step) (r : PathRole) (o : Option Neighbour) → Holds (armed_on g route r o)
  holds-armed_on g route r None = resv-out p s g (previous g) g.in_label
  holds-armed_on g route r (Some h) = (tt, tt)

  holds-again : (a : Arrival) (route : List Step) (r : PathRole) (g : Leg) → Holds (path_again p s a route r g)
  holds-again a route (path.Work guard) g = tt
  holds-again a route (path.Back false work primary) g =
      if_cases Holds (is_active_backup g && is_over (previous g) a.from a.link) _ _ (λ e. back-out p s g route (path.Back false work primary) (following g)) (λ e. tt)
  holds-again a route (path.Back true work primary) g =
      if_cases Holds (is_held g.phase && is_over (previous g) a.from a.link) _ _
      (λ e. if_cases Holds (is_contended s.legs g) _ _ (λ b. (tt, tt))
      (λ b. holds-armed_on g route (path.Back true work primary) (following g)))
      (λ e. tt)

  holds-path : (m : PathRequest) (o : Option Leg) → Holds (path_with p s m o)
  holds-path m None = holds-first_path m (own_link p m.arrival.link)
  holds-path m (Some g) = holds-again m.arrival (drop 1 m.route) m.role g

  holds-reported_on : (g : Leg) (down : Bool) (o : Option Fibre) → Holds (reported_on s g down o)
  holds-reported_on g down None = tt
  holds-reported_on g down (Some f) = sent-reported p s g.lsp down f (call_with g.lsp s.calls)

  holds-passed : (m : Notice) (g : Leg) (down : Bool) (o : Option Neighbour) → IsDown m.msg →
      Holds (notice_passed p s m g down o)
  holds-passed m g down None is = holds-reported_on g down (fibre_into (route_from p g) g.egress m.at m.link)
  holds-passed m g down (Some h) is = (is, tt)

  holds-told : (m : Notice) (g : Leg) (o : Option Bool) → IsDown m.msg → Holds (notice_told p s m g o)
  holds-told m g None is = tt
  holds-told m g (Some down) is = holds-passed m g down (previous g) is

  holds-notify : (u : NodeId) (m : Notice) (o : Option Leg) → IsDown m.msg → Holds (notify_with p s u m o)
  holds-notify u m None is = tt
  holds-notify u m (Some g) is =
      if_cases Holds (not (is_closing g.phase) && is_node (following g) u) _ _
      (λ e. holds-told m g (reported m.code) is) (λ e. tt)

  -- what a message makes its node send tells of no repair, unless it tells of one itself
  pub message-sends : (u : NodeId) (m : Msg) → IsDown m → Holds (on_message p s u m)
  message-sends u (Path l e k route set up r) is =
      holds-path (record { arrival = arrival l e u k; route = route; set = set; upstream = up; role = r })
      (find_leg l s.legs)
  message-sends u (Resv l e k x) is = holds-resv (arrival l e u k) x (find_leg l s.legs)
  message-sends u (PathTear l e k) is = holds-tear (arrival l e u k) (find_leg l s.legs)
  message-sends u (PathErr l e at gone code) is =
      holds-err u (record { lsp = l; msg = PathErr l e at gone code; removed = gone; code = code })
      (find_leg l s.legs) tt
  message-sends u (Notify l e at k code) is =
      holds-notify u (record { lsp = l; msg = Notify l e at k code; at = at; link = k; code = code })
      (find_leg l s.legs) is
