-- What a message's rule makes of legs changes no call.
use Rattle.std.proofs.Common.{◌≡◌, ℕ, true, false, nat_eq, not, List, [], ◌∷◌, refl, drop}
use Rattle.std.specs.Prelude.{◌&&◌, Option, Some, None}
use Rattle.ason_base.specs.{Labels.least, declared.codes.ErrCode.ErrCode, declared.ids.NodeId.NodeId, declared.messages.Msg.Msg, declared.messages.Msg.TheVariants.{Path, Resv, PathTear, PathErr, Notify}, declared.messages.PathRole.PathRole, declared.messages.PathRole.TheVariants.{Work, Back}, declared.network.LinkSpec.LinkSpec, declared.steps.Step.Step, declared.tables.Leg.Leg, declared.tables.Out.Out}
use Rattle.mesh_rules.specs.{declared.arrivals.Arrival.Arrival, declared.neighbours.Neighbour.Neighbour, ActivationAnswers.is_confirmed, Activations.{armed_on, path_again}, Changes.Answer, Legs.{find_leg, following, is_active_backup, is_armed, is_asked, is_closing, is_contended, is_held, is_node, is_over, label_through, previous}, LocalNodes.{LocalNode, leads, own_link}, Messages.arrival, PathErrs.PathFailure, Paths.{PathRequest, admitted, at_egress, checks, first_failure, first_path, in_transit, is_active, judged, offered_labels, path_with, risks_here}, Resvs.{is_expected, labels_left, passed_back}, State.NodeState, Tears.{tear_with, torn}}
use Rattle.mesh_nodes.proofs.Cases.{if_cases}
use Rattle.lsp_laws.specs.HopLaw.{is_notice}
use Rattle.lsp_laws.proofs.hops.InParts.{leg_answers, leg_confirmed, leg_disarmed, leg_of_err, leg_of_resv, leg_part, leg_refused}

-- no call changes, and what is known to be down stays
pub record NoCalls (a : Answer) : Type 0 where
  pub calls : a.calls ≡ []
  pub down : a.down ≡ None

no-admitted : (p : LocalNode) (s : NodeState) (m : PathRequest) (link : LinkSpec) (route : List Step) →
    NoCalls (admitted p s m link route)
no-admitted p s m link [] = egress (least (offered_labels p s m link))
  where
    egress : (o : Option ℕ) → NoCalls (at_egress p m link (risks_here p s m) (offered_labels p s m link) o)
    egress None = record { calls = refl; down = refl }
    egress (Some x) = record { calls = refl; down = refl }
no-admitted p s m link (hop ∷ route) = transit (own_link p hop.link)
  where
    transit : (o : Option LinkSpec) → NoCalls (in_transit p s m link route o)
    transit None = record { calls = refl; down = refl }
    transit (Some out) = record { calls = refl; down = refl }

no-judged : (p : LocalNode) (s : NodeState) (m : PathRequest) (link : LinkSpec) (o : Option ErrCode) →
    NoCalls (judged p s m link o)
no-judged p s m link None = no-admitted p s m link m.route
no-judged p s m link (Some code) = record { calls = refl; down = refl }

no-first : (p : LocalNode) (s : NodeState) (m : PathRequest) (o : Option LinkSpec) → NoCalls (first_path p s m o)
no-first p s m None = record { calls = refl; down = refl }
no-first p s m (Some link) =
    if_cases NoCalls
    (not (is_active m.role) && (leads (Some link) m.arrival.from p.id
    && not (nat_eq m.arrival.lsp.ingress.0 p.id.0))) _ _
    (λ h. no-judged p s m link (first_failure (checks p s m link))) (λ h. record { calls = refl; down = refl })

no-armed : (g : Leg) (route : List Step) (r : PathRole) (h : Option Neighbour) → NoCalls (armed_on g route r h)
no-armed g route r None = record { calls = refl; down = refl }
no-armed g route r (Some h) = record { calls = refl; down = refl }

no-again : (p : LocalNode) (s : NodeState) (a : Arrival) (route : List Step) (r : PathRole) (g : Leg) →
    NoCalls (path_again p s a route r g)
no-again p s a route (Work guard) g = record { calls = refl; down = refl }
no-again p s a route (Back true work primary) g =
    if_cases NoCalls (is_held g.phase && is_over (previous g) a.from a.link) _ _
    (λ h. if_cases NoCalls (is_contended s.legs g) _ _ (λ c. record { calls = refl; down = refl })
    (λ c. no-armed g route (Back true work primary) (following g)))
    (λ h. record { calls = refl; down = refl })
no-again p s a route (Back false work primary) g =
    if_cases NoCalls (is_active_backup g && is_over (previous g) a.from a.link) _ _
    (λ h. record { calls = refl; down = refl }) (λ h. record { calls = refl; down = refl })

no-path : (p : LocalNode) (s : NodeState) (m : PathRequest) (o : Option Leg) → NoCalls (path_with p s m o)
no-path p s m None = no-first p s m (own_link p m.arrival.link)
no-path p s m (Some g) = no-again p s m.arrival (drop 1 m.route) m.role g

no-passed : (p : LocalNode) (a : Arrival) (g : Leg) (h : Neighbour) (x : ℕ) (o : Option ℕ) →
    NoCalls (passed_back p a g h x o)
no-passed p a g h x None = record { calls = refl; down = refl }
no-passed p a g h x (Some y) = record { calls = refl; down = refl }

no-answers : (p : LocalNode) (s : NodeState) (a : Arrival) (x : ℕ) (g : Leg) (o : Option Neighbour) →
    NoCalls (leg_answers p s a x g o)
no-answers p s a x g None = record { calls = refl; down = refl }
no-answers p s a x g (Some h) = no-passed p a g h x (label_through p (labels_left p s g h) x)

no-confirmed : (g : Leg) (o : Option Neighbour) → NoCalls (leg_confirmed g o)
no-confirmed g None = record { calls = refl; down = refl }
no-confirmed g (Some h) = record { calls = refl; down = refl }

no-resv : (p : LocalNode) (s : NodeState) (a : Arrival) (x : ℕ) (o : Option Leg) → NoCalls (leg_of_resv p s a x o)
no-resv p s a x None = record { calls = refl; down = refl }
no-resv p s a x (Some g) =
    if_cases NoCalls (is_expected a x g) _ _ (λ e. no-answers p s a x g (previous g))
    (λ e. if_cases NoCalls (is_confirmed a x g) _ _ (λ c. no-confirmed g (previous g))
    (λ c. record { calls = refl; down = refl }))

no-refused : (g : Leg) (e : PathFailure) (o : Option Neighbour) → NoCalls (leg_refused g e o)
no-refused g e None = record { calls = refl; down = refl }
no-refused g e (Some h) = record { calls = refl; down = refl }

no-disarmed : (g : Leg) (m : Msg) (o : Option Neighbour) → NoCalls (leg_disarmed g m o)
no-disarmed g m None = record { calls = refl; down = refl }
no-disarmed g m (Some h) = record { calls = refl; down = refl }

no-err : (u : NodeId) (e : PathFailure) (o : Option Leg) → NoCalls (leg_of_err u e o)
no-err u e None = record { calls = refl; down = refl }
no-err u e (Some g) =
    if_cases NoCalls (is_node (following g) u) _ _
    (λ n. if_cases NoCalls e.removed _ _
    (λ r. if_cases NoCalls (is_asked g.phase) _ _ (λ q. no-refused g e (previous g))
    (λ q. if_cases NoCalls (is_closing g.phase) _ _ (λ c. record { calls = refl; down = refl })
    (λ c. record { calls = refl; down = refl })))
    (λ r. if_cases NoCalls (is_armed g.phase) _ _ (λ q. no-disarmed g e.msg (previous g))
    (λ q. record { calls = refl; down = refl })))
    (λ n. record { calls = refl; down = refl })

no-torn : (g : Leg) (answer : Out) (o : Option Neighbour) → NoCalls (torn g answer o)
no-torn g answer None = record { calls = refl; down = refl }
no-torn g answer (Some h) = record { calls = refl; down = refl }

no-tear : (p : LocalNode) (a : Arrival) (o : Option Leg) → NoCalls (tear_with p a o)
no-tear p a None = record { calls = refl; down = refl }
no-tear p a (Some g) =
    if_cases NoCalls (not (is_closing g.phase) && is_over (previous g) a.from a.link) _ _
    (λ t. no-torn g _ (following g)) (λ t. record { calls = refl; down = refl })

-- of any message but a Notify
pub no-calls : (p : LocalNode) (s : NodeState) (u : NodeId) (m : Msg) → is_notice m ≡ false → NoCalls (leg_part p s u m)
no-calls p s u (Path l e k route set up r) plain =
    no-path p s (record { arrival = arrival l e u k; route = route; set = set; upstream = up; role = r })
    (find_leg l s.legs)
no-calls p s u (Resv l e k x) plain = no-resv p s (arrival l e u k) x (find_leg l s.legs)
no-calls p s u (PathTear l e k) plain = no-tear p (arrival l e u k) (find_leg l s.legs)
no-calls p s u (PathErr l e at gone code) plain =
    no-err u (record { lsp = l; msg = PathErr l e at gone code; removed = gone; code = code }) (find_leg l s.legs)
no-calls p s u (Notify l e at k code) plain = absurd (cc plain)
