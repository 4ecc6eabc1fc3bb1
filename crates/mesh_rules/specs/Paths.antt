-- A Path where no leg of its LSP stands (RFC 2205, section 3.1.3; RFC 3473, section 2).
use Rattle.std.specs.Prelude.{ℕ, ◌==◌, ◌&&◌, nat_le, Bool, true, false, not, List, [], ◌∷◌, length, drop, Option, Some, None, is_some, if◌then◌else◌}
use Rattle.ason_base.specs.{Codes.{down_code, full_code, label_code, route_code, primary_code, set_code}, Labels.{up_to, meet, least}, Lsps.has_fibre, Risks.{route_risks, unknown_link}, declared.codes.ErrCode.ErrCode, declared.steps.Step.Step, declared.network.LinkSpec.LinkSpec, declared.network.TeRow.TeRow, declared.risks.Risk.Risk, declared.messages.PathRole.PathRole, declared.messages.PathRole.TheVariants.{Work, Back}, declared.messages.Msg.TheVariants.{Path, Resv, PathErr}, declared.calls.Phase.TheVariants.Asked, declared.calls.Role.Role, declared.ids.NodeId.NodeId, declared.tables.Leg.Leg, declared.tables.Out.Out, Network.other_end}
use Rattle.ason_base.specs.declared.calls.Role.TheVariants as role
use Rattle.mesh_rules.specs.{declared.limits.TheConstants.MOST_LEGS, declared.arrivals.Arrival.Arrival, State.NodeState, Activations.path_again, KnownRows.known_rows, Changes.{Answer, nothing, sends, puts, to_node}, LocalNodes.{LocalNode, own_link, is_link_there, leads, fibre_in, fibre_out}, Legs.{find_leg, label_through, reserved, reverse, usable}}

-- what a Path asks for: of which LSP and from where it came, over which steps from here, with which labels, and for
-- what
pub record PathRequest : Type 0 where
  pub arrival : Arrival
  pub route : List Step
  pub set : List ℕ
  -- of a two-way LSP the label on which the sender receives (RFC 3473, section 3)
  pub upstream : Option ℕ
  pub role : PathRole

-- The role of a Path

abbrev pub is_for_work : PathRole → Bool
is_for_work (Work guard) = true
is_for_work (Back active work primary) = false

-- a Path that activates a backup
abbrev pub is_active : PathRole → Bool
is_active (Work guard) = false
is_active (Back active work primary) = active

abbrev pub role_of : PathRole → Role
role_of (Work guard) = role.Work
role_of (Back active work primary) = role.Back

-- the risks that a backup's leg records: those of its primary's route, over the rows of the links that are known
abbrev pub recorded : List TeRow → PathRole → List Risk
recorded rows (Work guard) = []
recorded rows (Back active work primary) = route_risks rows primary

-- a link of the primary's route isn't known, so neither are its risks
abbrev pub is_primary_unknown : List TeRow → PathRole → Bool
is_primary_unknown rows (Work guard) = false
is_primary_unknown rows (Back active work primary) = is_some (unknown_link rows primary)

-- the risks of a Path's primary, as the node knows them
abbrev pub risks_here : LocalNode → NodeState → PathRequest → List Risk
risks_here p s m = recorded (known_rows p s) m.role

-- Refusals

-- the route ends just at the egress; its first step names this node and a link of it other than the one that it came by
abbrev pub leads_on : LocalNode → Arrival → List Step → Bool
leads_on p a [] = p.id.0 == a.egress.0
leads_on p a (hop ∷ route) =
    not (p.id.0 == a.egress.0) && (hop.node.0 == p.id.0
    && (not (hop.link.0 == a.link.0) && is_link_there (own_link p hop.link)))

-- the labels of the set that are usable on the fibre that the Path came by
abbrev pub offered_labels : LocalNode → NodeState → PathRequest → LinkSpec → List ℕ
offered_labels p s m link = meet m.set (usable p s.legs (role_of m.role) (risks_here p s m) (fibre_in link p.id))

-- of the labels that are usable on the fibre from the next node, the one that the node takes for the way back of a
-- two-way LSP: the label that came, or at a node that converts the least
abbrev pub back_through : LocalNode → List ℕ → Option ℕ → Option ℕ
back_through p labels None = None
back_through p labels (Some x) = label_through p labels x

abbrev pub back_label : LocalNode → NodeState → PathRequest → LinkSpec → Option ℕ
back_label p s m out =
    back_through p (usable p s.legs (role_of m.role) (risks_here p s m) (reverse (fibre_out out p.id))) m.upstream

abbrev pub is_none : Option ℕ → Bool
is_none None = true
is_none (Some x) = false

-- a way back is asked for, and there is no label for it
abbrev pub lacks_back : LocalNode → NodeState → PathRequest → Option LinkSpec → Bool
lacks_back p s m None = false
lacks_back p s m (Some out) = is_some m.upstream && is_none (back_label p s m out)

-- the link of the route's first step
abbrev pub link_on : LocalNode → List Step → Option LinkSpec
link_on p [] = None
link_on p (hop ∷ route) = own_link p hop.link

-- one reason to refuse a Path
pub record Check : Type 0 where
  pub fails : Bool
  pub code : ErrCode

-- the code of the first check that fails
abbrev pub first_failure : List Check → Option ErrCode
first_failure [] = None
first_failure (c ∷ checks) = if c.fails then Some c.code else first_failure checks

-- in this order: the node keeps all the legs that it can; the route doesn't lead on from here; a link of the primary's
-- route isn't known; the fibre that the Path came by is known to be down; no label that was offered is usable; none is
-- usable for the way back
abbrev pub checks : LocalNode → NodeState → PathRequest → LinkSpec → List Check
checks p s m link =
    record { fails = nat_le MOST_LEGS (length s.legs); code = full_code }
    ∷ record { fails = not (leads_on p m.arrival m.route); code = route_code }
    ∷ record { fails = is_primary_unknown (known_rows p s) m.role; code = primary_code }
    ∷ record { fails = has_fibre s.down (fibre_in link p.id); code = down_code }
    ∷ record { fails = is_none (least (offered_labels p s m link)); code = set_code }
    ∷ record { fails = lacks_back p s m (link_on p m.route); code = label_code }
    ∷ []

-- a PathErr of this node with Path_State_Removed (RFC 3473, section 4.4)
abbrev pub error_to : NodeId → LocalNode → Arrival → ErrCode → Out
error_to n p a code = to_node n (PathErr a.lsp a.egress p.id true code)

-- Legs

-- the leg that a Path makes, as far as it is the same at each node
abbrev pub asked_leg : LocalNode → PathRequest → LinkSpec → List Risk → List ℕ → Leg
asked_leg p m link risks offered = record {
  lsp = m.arrival.lsp;
  egress = m.arrival.egress;
  role = role_of m.role;
  prev = Some m.arrival.from;
  next = None;
  in_fibre = Some (fibre_in link p.id);
  out_fibre = None;
  offered = offered;
  sent = [];
  route = [];
  path_role = m.role;
  risks = risks;
  phase = Asked;
  in_label = None;
  out_label = None;
  back_in = None;
  back_out = m.upstream;
}

abbrev pub egress_leg : LocalNode → PathRequest → LinkSpec → List Risk → List ℕ → ℕ → Leg
egress_leg p m link risks offered x =
    record (asked_leg p m link risks offered) { phase = reserved (role_of m.role); in_label = Some x }

-- a node that converts lets every label of the link through, another one those that it was offered
abbrev pub set_on : LocalNode → LinkSpec → List ℕ → List ℕ
set_on p out offered = if p.convert then up_to out.labels else offered

abbrev pub transit_leg : LocalNode → PathRequest → LinkSpec → List Risk → LinkSpec → List Step → List ℕ → Option ℕ → Leg
transit_leg p m link risks out route offered back = record (asked_leg p m link risks offered) {
  next = Some (other_end out p.id);
  out_fibre = Some (fibre_out out p.id);
  sent = set_on p out offered;
  route = route;
  back_in = back;
}

-- What is answered

-- at the egress the least offered label is taken
abbrev pub at_egress : LocalNode → PathRequest → LinkSpec → List Risk → List ℕ → Option ℕ → Answer
at_egress p m link risks offered None = nothing
at_egress p m link risks offered (Some x) =
    puts (egress_leg p m link risks offered x)
    (to_node m.arrival.from (Resv m.arrival.lsp m.arrival.egress link.id x) ∷ [])

-- the Path goes on over the first step's link, without that step, with the label for the way back that was taken here
abbrev pub passed_on : LocalNode → PathRequest → LinkSpec → List Risk → LinkSpec → List Step → List ℕ → Option ℕ →
    Answer
passed_on p m link risks out route offered back =
    puts (transit_leg p m link risks out route offered back)
    (to_node (other_end out p.id) (Path m.arrival.lsp m.arrival.egress out.id route
    (set_on p out offered) back m.role) ∷ [])

abbrev pub in_transit : LocalNode → NodeState → PathRequest → LinkSpec → List Step → Option LinkSpec → Answer
in_transit p s m link route None = nothing
in_transit p s m link route (Some out) =
    passed_on p m link (risks_here p s m) out route (offered_labels p s m link) (back_label p s m out)

abbrev pub admitted : LocalNode → NodeState → PathRequest → LinkSpec → List Step → Answer
admitted p s m link [] =
    at_egress p m link (risks_here p s m) (offered_labels p s m link) (least (offered_labels p s m link))
admitted p s m link (hop ∷ route) = in_transit p s m link route (own_link p hop.link)

-- it is refused, no leg is made and the sender is told why; or it is admitted
abbrev pub judged : LocalNode → NodeState → PathRequest → LinkSpec → Option ErrCode → Answer
judged p s m link (Some code) = sends (error_to m.arrival.from p m.arrival code ∷ [])
judged p s m link None = admitted p s m link m.route

-- the link leads from the sender to this node, the ingress is another node, and no backup is activated that has no leg
-- here
abbrev pub first_path : LocalNode → NodeState → PathRequest → Option LinkSpec → Answer
first_path p s m None = nothing
first_path p s m (Some link) =
    if not (is_active m.role) && (leads (Some link) m.arrival.from p.id && not (m.arrival.lsp.ingress.0 == p.id.0))
    then judged p s m link (first_failure (checks p s m link))
    else nothing

-- a Path of an LSP that has a leg here may activate it
abbrev pub path_with : LocalNode → NodeState → PathRequest → Option Leg → Answer
path_with p s m None = first_path p s m (own_link p m.arrival.link)
path_with p s m (Some g) = path_again p s m.arrival (drop 1 m.route) m.role g

abbrev pub on_path : LocalNode → NodeState → PathRequest → Answer
on_path p s m = path_with p s m (find_leg m.arrival.lsp s.legs)
