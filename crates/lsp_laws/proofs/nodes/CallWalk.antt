-- What holds of each call of a node after a message, by what a rule may make of a call: a walk over all rules.
use Rattle.std.proofs.Common.{Bool, true, false, ◌≡◌, ℕ, not, nat_eq, List, [], ◌∷◌, refl, sym, subst}
use Rattle.std.specs.Prelude.{◌&&◌, Option, Some, None, drop}
use Rattle.ason_base.specs.{declared.calls.Phase.TheVariants.{Held, Live}, declared.codes.ErrCode.ErrCode, declared.ids.CallNo.CallNo, declared.ids.Fibre.Fibre, declared.ids.NodeId.NodeId, declared.messages.Msg.Msg, declared.messages.PathRole.PathRole, declared.network.LinkSpec.LinkSpec, declared.risks.Risk.Risk, declared.steps.Step.Step, declared.tables.CallRec.CallRec, declared.tables.Leg.Leg, declared.tables.Out.Out, Labels.least, declared.messages.Msg.TheVariants.{Path, Resv, PathTear, PathErr, Notify}}
use Rattle.ason_base.specs.declared.messages.PathRole.TheVariants as path
use Rattle.mesh_rules.specs.{declared.arrivals.Arrival.Arrival, declared.neighbours.Neighbour.Neighbour, ActivationAnswers.{confirmed, disarmed, is_confirmed}, Activations.{armed_on, path_again}, Calls.call_with, Changes.Answer, Legs.{connected, find_leg, following, is_active_backup, is_armed, is_asked, is_closing, is_contended, is_held, is_node, is_over, label_through, previous, with_phase}, LocalNodes.{LocalNode, leads, own_link}, Messages.{on_message, arrival}, Notifies.{Notice, notice_passed, notice_told, notify_with}, Pairs.route_from, PathErrs.{PathFailure, err_passed, path_err_with}, Paths.{PathRequest, admitted, at_egress, checks, first_failure, first_path, in_transit, is_active, judged, offered_labels, path_with, risks_here}, Reports.{fibre_into, reported, reported_on}, Resvs.{answered, is_expected, labels_left, passed_back, resv_with}, State.NodeState, Tears.{tear_with, torn}}
use Rattle.mesh_nodes.specs.Order.{CallsRise}
use Rattle.mesh_nodes.proofs.{Cases.if_cases, LegList.found-lsp}
use Rattle.lsp_laws.proofs.{nodes.CallChanges.{AreChanges, EachCall}, nodes.CallSteps.{holds-call_answered, holds-call_contended, holds-call_refused, holds-call_reported, holds-call_turned}, nodes.CallWays.{Answered, CallBecomes, Contended, IsReportable, IsWayOf, Removed, Reported, Way}}

-- P holds of each call before the rule, and R of those that the rule puts in their places; G of those that go. W: what
-- came to the node. T: what is sent.
module _ (G : CallNo → Type 0) (P R : CallRec → Type 0) (W : Way → Type 0) (T : List Out → Type 0) (p : LocalNode)
    (s : NodeState) (keeps : (c d : CallRec) → CallBecomes p s W T c d → P c → R d) (rise : CallsRise s.calls)
    (each : EachCall P s.calls) where
  abbrev Holds : Answer → Type 0
  Holds a = AreChanges G R a.calls

  abbrev HoldsIf : Answer → Type 0
  HoldsIf a = T a.sent → AreChanges G R a.calls

  -- Messages

  holds-passed_back : (a : Arrival) (g : Leg) (h : Neighbour) (x : ℕ) (o : Option ℕ) → Holds (passed_back p a g h x o)
  holds-passed_back a g h x None = tt
  holds-passed_back a g h x (Some y) = tt

  holds-answered : W Answered → (a : Arrival) (x : ℕ) (g : Leg) (o : Option Neighbour) → HoldsIf (answered p s a x g o)
  holds-answered came a x g None = holds-call_answered G P R W T p s keeps rise each came (connected g None x)
      (call_with g.lsp s.calls) refl
  holds-answered came a x g (Some h) = λ sent. holds-passed_back a g h x (label_through p (labels_left p s g h) x)

  holds-confirmed : W Answered → (g : Leg) (o : Option Neighbour) → Holds (confirmed s g o)
  holds-confirmed came g None = holds-call_turned G P R W T p s keeps rise each came g.lsp (with_phase Live g)
      (call_with g.lsp s.calls) refl
  holds-confirmed came g (Some h) = tt

  holds-resv : W Answered → (a : Arrival) (x : ℕ) (o : Option Leg) → HoldsIf (resv_with p s a x o)
  holds-resv came a x None = λ sent. tt
  holds-resv came a x (Some g) =
      if_cases HoldsIf (is_expected a x g) _ _ (λ e. holds-answered came a x g (previous g))
      (λ e. if_cases HoldsIf (is_confirmed a x g) _ _ (λ h sent. holds-confirmed came g (previous g)) (λ h sent. tt))

  holds-err_passed : (g : Leg) (e : PathFailure) (o : Option Neighbour) → W (Removed e.code) → Holds (err_passed s g e o)
  holds-err_passed g e None came =
      holds-call_refused G P R W T p s keeps rise each e.code came g (call_with g.lsp s.calls) refl
  holds-err_passed g e (Some h) came = tt

  holds-disarmed : (g : Leg) (m : Msg) (o : Option Neighbour) → W Contended → Holds (disarmed s g m o)
  holds-disarmed g m None came = holds-call_contended G P R W T p s keeps rise each came g.lsp (with_phase Held g)
      (call_with g.lsp s.calls) refl
  holds-disarmed g m (Some h) came = tt

  holds-err : (u : NodeId) (e : PathFailure) (o : Option Leg) → (e.removed ≡ true → W (Removed e.code)) →
      (e.removed ≡ false → W Contended) → Holds (path_err_with s u e o)
  holds-err u e None removal refusal = tt
  holds-err u e (Some g) removal refusal =
      if_cases Holds (is_node (following g) u) _ _
      (λ h. if_cases Holds e.removed _ _
      (λ r. if_cases Holds (is_asked g.phase) _ _ (λ h. holds-err_passed g e (previous g) (removal r))
      (λ h. if_cases Holds (is_closing g.phase) _ _ (λ h. tt) (λ h. tt)))
      (λ r. if_cases Holds (is_armed g.phase) _ _ (λ h. holds-disarmed g e.msg (previous g) (refusal r)) (λ h. tt)))
      (λ h. tt)

  holds-torn : (g : Leg) (answer : Out) (o : Option Neighbour) → Holds (torn g answer o)
  holds-torn g answer None = tt
  holds-torn g answer (Some h) = tt

  holds-tear : (a : Arrival) (o : Option Leg) → Holds (tear_with p a o)
  holds-tear a None = tt
  holds-tear a (Some g) =
      if_cases Holds (not (is_closing g.phase) && is_over (previous g) a.from a.link) _ _
      (λ e. holds-torn g _ (following g)) (λ e. tt)

  holds-at_egress : (m : PathRequest) (link : LinkSpec) (risks : List Risk) (offered : List ℕ) (o : Option ℕ) →
      Holds (at_egress p m link risks offered o)
  holds-at_egress m link risks offered None = tt
  holds-at_egress m link risks offered (Some x) = tt

  holds-in_transit : (m : PathRequest) (link : LinkSpec) (route : List Step) (o : Option LinkSpec) →
      Holds (in_transit p s m link route o)
  holds-in_transit m link route None = tt
  holds-in_transit m link route (Some out) = tt

  holds-admitted_path : (m : PathRequest) (link : LinkSpec) (route : List Step) → Holds (admitted p s m link route)
  holds-admitted_path m link [] =
      holds-at_egress m link (risks_here p s m) (offered_labels p s m link) (least (offered_labels p s m link))
  holds-admitted_path m link (hop ∷ route) = holds-in_transit m link route (own_link p hop.link)

  holds-judged : (m : PathRequest) (link : LinkSpec) (o : Option ErrCode) → Holds (judged p s m link o)
  holds-judged m link (Some code) = tt
  holds-judged m link None = holds-admitted_path m link m.route

  holds-first_path : (m : PathRequest) (o : Option LinkSpec) → Holds (first_path p s m o)
  holds-first_path m None = tt
  holds-first_path m (Some link) =
      if_cases Holds
      (not (is_active m.role) && (leads (Some link) m.arrival.from p.id
      && not (nat_eq m.arrival.lsp.ingress.0 p.id.0))) _ _
      (λ h. holds-judged m link (first_failure (checks p s m link))) (λ h. tt)

  holds-armed_on : (g : Leg) (route : List Step) (r : PathRole) (o : Option Neighbour) → Holds (armed_on g route r o)
  holds-armed_on g route r None = tt
  holds-armed_on g route r (Some h) = tt

  holds-again : (a : Arrival) (route : List Step) (r : PathRole) (g : Leg) → Holds (path_again p s a route r g)
  holds-again a route (path.Work guard) g = tt
  holds-again a route (path.Back false work primary) g =
      if_cases Holds (is_active_backup g && is_over (previous g) a.from a.link) _ _ (λ e. tt) (λ e. tt)
  holds-again a route (path.Back true work primary) g =
      if_cases Holds (is_held g.phase && is_over (previous g) a.from a.link) _ _
      (λ e. if_cases Holds (is_contended s.legs g) _ _ (λ b. tt)
      (λ b. holds-armed_on g route (path.Back true work primary) (following g)))
      (λ e. tt)

  holds-path : (m : PathRequest) (o : Option Leg) → Holds (path_with p s m o)
  holds-path m None = holds-first_path m (own_link p m.arrival.link)
  holds-path m (Some g) = holds-again m.arrival (drop 1 m.route) m.role g

  holds-reported_on : W Reported → (g : Leg) (down : Bool) (o : Option Fibre) →
      ((f : Fibre) → o ≡ Some f → IsReportable p s g.lsp f) → Holds (reported_on s g down o)
  holds-reported_on came g down None of = tt
  holds-reported_on came g down (Some f) of =
      holds-call_reported G P R W T p s keeps rise each came g.lsp down f (call_with g.lsp s.calls) refl (of f refl)

  holds-passed : W Reported → (m : Notice) (g : Leg) (down : Bool) (o : Option Neighbour) →
      find_leg g.lsp s.legs ≡ Some g → previous g ≡ o → Holds (notice_passed p s m g down o)
  holds-passed came m g down None found first =
      holds-reported_on came g down (fibre_into (route_from p g) g.egress m.at m.link) (λ f into. record {
        leg = g;
        of = refl;
        found = found;
        first = first;
        at_node = m.at;
        link = m.link;
        into = into;
      })
  holds-passed came m g down (Some h) found first = tt

  holds-told : W Reported → (m : Notice) (g : Leg) (o : Option Bool) → find_leg g.lsp s.legs ≡ Some g →
      Holds (notice_told p s m g o)
  holds-told came m g None found = tt
  holds-told came m g (Some down) found = holds-passed came m g down (previous g) found refl

  holds-notify : W Reported → (u : NodeId) (m : Notice) (o : Option Leg) → find_leg m.lsp s.legs ≡ o →
      Holds (notify_with p s u m o)
  holds-notify came u m None found = tt
  holds-notify came u m (Some g) found =
      if_cases Holds (not (is_closing g.phase) && is_node (following g) u) _ _
      (λ e. holds-told came m g (reported m.code)
      (subst (λ l. find_leg l s.legs ≡ Some g) (sym (found-lsp m.lsp s.legs g found)) found)) (λ e. tt)

  -- any message
  pub message-holds : (u : NodeId) (m : Msg) → ((way : Way) → IsWayOf m way → W way) → HoldsIf (on_message p s u m)
  message-holds u (Path l e k route set up r) came =
      λ sent. holds-path (record { arrival = arrival l e u k; route = route; set = set; upstream = up; role = r })
      (find_leg l s.legs)
  message-holds u (Resv l e k x) came = holds-resv (came Answered tt) (arrival l e u k) x (find_leg l s.legs)
  message-holds u (PathTear l e k) came = λ sent. holds-tear (arrival l e u k) (find_leg l s.legs)
  message-holds u (PathErr l e at gone code) came =
      λ sent. holds-err u (record { lsp = l; msg = PathErr l e at gone code; removed = gone; code = code })
      (find_leg l s.legs) (λ is. came (Removed code) (is, refl)) (λ is. came Contended is)
  message-holds u (Notify l e at k code) came =
      λ sent. holds-notify (came Reported tt) u
      (record { lsp = l; msg = Notify l e at k code; at = at; link = k; code = code }) (find_leg l s.legs) refl
