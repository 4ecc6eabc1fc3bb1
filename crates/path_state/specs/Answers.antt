-- What a Path of an LSP that has no leg, and a PathTear, do at a node of these tables.
use Rattle.std.specs.Prelude.{◌≡◌, ℕ, ◌&&◌, Bool, false, List, [], ◌∷◌, Option, Some, None, IsTrue, drop, is_some, if◌then◌else◌}
use Rattle.ason_base.specs.{Codes.{label_code, set_code}, Labels.least, Lsps.has_fibre, declared.codes.ErrCode.ErrCode, declared.ids.LinkId.LinkId, declared.ids.NodeId.NodeId, declared.messages.PathRole.PathRole, declared.messages.Msg.Msg, declared.messages.Msg.TheVariants.{Path, Resv, PathTear, PathErr, Notify}, declared.network.LinkSpec.LinkSpec, declared.network.TeRow.TeRow, declared.risks.Risk.Risk, declared.risks.RiskFault.RiskFault, declared.risks.RiskFault.TheVariants.Unknown, declared.steps.Step.Step, declared.tables.Leg.Leg}
use Rattle.mesh_rules.specs.{declared.arrivals.Arrival.Arrival, Changes.{Answer, nothing, sends}, Messages.arrival, Paths.{PathRequest, asked_leg, at_egress, back_label, checks, error_to, first_failure, first_path, is_none, is_primary_unknown, judged, link_on, offered_labels, passed_on, risks_here}, KnownRows.known_rows, Legs.{find_leg, reverse}, LocalNodes.{fibre_in, fibre_out, own_link}, Tears.on_tear}
use Rattle.leg_table.specs.{LegClaims.is_fibre_in, States.{legs_state, local_of}, Tables.LegTable}

-- the labels of the Path's set that are usable on the fibre of this link that comes in
abbrev pub offered_here : LegTable → PathRequest → LinkSpec → List ℕ
offered_here t m link = offered_labels (local_of t) (legs_state t) m link

-- the label that is taken for the way back over this link
abbrev pub back_over : LegTable → PathRequest → LinkSpec → Option ℕ
back_over t m out = back_label (local_of t) (legs_state t) m out

-- the same, as far as the Path goes on over a link
abbrev pub back_on : LegTable → PathRequest → Option LinkSpec → Option ℕ
back_on t m None = None
back_on t m (Some out) = back_over t m out

abbrev pub path_back_here : LegTable → PathRequest → Option ℕ
path_back_here t m = back_on t m (link_on (local_of t) m.route)

-- the Path goes on over a link and asks for a way back, and there is no label for it
abbrev pub lacks_way : PathRequest → Option LinkSpec → Option ℕ → Bool
lacks_way m None back = false
lacks_way m (Some out) back = is_some m.upstream && is_none back

abbrev pub lacks_way_back : LegTable → PathRequest → Option ℕ → Bool
lacks_way_back t m back = lacks_way m (link_on (local_of t) m.route) back

-- the risks of the Path's primary, as the node knows them
abbrev pub recorded_here : LegTable → PathRequest → List Risk
recorded_here t m = risks_here (local_of t) (legs_state t) m

-- the rows of the links that the node knows
abbrev pub known_here : LegTable → List TeRow
known_here t = known_rows (local_of t) (legs_state t)

-- a link of the primary's route isn't known here
abbrev pub is_unknown_here : LegTable → PathRole → Bool
is_unknown_here t r = is_primary_unknown (known_here t) r

-- a fault that names a link comes where one isn't known
abbrev pub IsUnknownFor : LegTable → PathRole → RiskFault → Type 0
IsUnknownFor t r f = (l : LinkId) → f ≡ Unknown l → IsTrue (is_unknown_here t r)

-- the leg that the Path makes, as far as it is the same at each node
abbrev pub path_asked_here : LegTable → PathRequest → LinkSpec → List Risk → List ℕ → Leg
path_asked_here t m link risks offered = asked_leg (local_of t) m link risks offered

abbrev pub judged_here : LegTable → PathRequest → LinkSpec → Answer
judged_here t m link =
    judged (local_of t) (legs_state t) m link (first_failure (checks (local_of t) (legs_state t) m link))

abbrev pub first_here : LegTable → PathRequest → Answer
first_here t m = first_path (local_of t) (legs_state t) m (own_link (local_of t) m.arrival.link)

-- the fibre of this link that comes in is known to be down
abbrev pub is_down_here : LegTable → LinkSpec → Bool
is_down_here t link = has_fibre t.down (fibre_in link t.node.id)

-- the fibre of this link that comes in is one of the node's own links
abbrev pub comes_over : LegTable → LinkSpec → Bool
comes_over t link = is_fibre_in (local_of t) (fibre_in link t.node.id)

-- the other direction of the fibre of this link that goes out is one of the node's own links
abbrev pub path_comes_back : LegTable → LinkSpec → Bool
path_comes_back t out = is_fibre_in (local_of t) (reverse (fibre_out out t.node.id))

abbrev pub path_refused_here : LegTable → Arrival → ErrCode → Answer
path_refused_here t a code = sends (error_to a.from (local_of t) a code ∷ [])

abbrev pub ended_here : LegTable → PathRequest → LinkSpec → List Risk → List ℕ → Answer
ended_here t m link risks offered = at_egress (local_of t) m link risks offered (least offered)

-- the Path that goes on over this link from the leg
abbrev pub path_on : PathRequest → LinkId → Leg → Msg
path_on m k g = Path m.arrival.lsp m.arrival.egress k g.route g.sent g.back_in m.role

abbrev pub passed_over : LegTable → PathRequest → LinkSpec → List Risk → List ℕ → Option ℕ → Option LinkSpec → Answer
passed_over t m link risks offered back None = nothing
passed_over t m link risks offered back (Some out) =
    passed_on (local_of t) m link risks out (drop 1 m.route) offered back

-- it goes on over the node's link of this number, without its first step
abbrev pub path_passed_here : LegTable → PathRequest → LinkSpec → List Risk → List ℕ → Option ℕ → LinkId → Answer
path_passed_here t m link risks offered back k = passed_over t m link risks offered back (own_link (local_of t) k)

abbrev pub admitted_along : LegTable → PathRequest → LinkSpec → List Risk → List ℕ → Option ℕ → List Step → Answer
admitted_along t m link risks offered back [] = ended_here t m link risks offered
admitted_along t m link risks offered back (hop ∷ route) = path_passed_here t m link risks offered back hop.link

-- it ends here, or goes on
abbrev pub admitted_here : LegTable → PathRequest → LinkSpec → List Risk → List ℕ → Option ℕ → Answer
admitted_here t m link risks offered back = admitted_along t m link risks offered back m.route

-- it is refused where no label is left, there or for the way back, and else admitted
abbrev pub path_labelled_here : LegTable → PathRequest → LinkSpec → List Risk → List ℕ → Option ℕ → Answer
path_labelled_here t m link risks offered back =
    if is_none (least offered) then path_refused_here t m.arrival set_code
    else (if lacks_way_back t m back then path_refused_here t m.arrival label_code
    else admitted_here t m link risks offered back)

-- a Path of an LSP whose leg stands makes none
abbrev pub path_unless : LegTable → PathRequest → Option Leg → Answer
path_unless t m None = first_here t m
path_unless t m (Some g) = nothing

abbrev pub path_here : LegTable → PathRequest → Answer
path_here t m = path_unless t m (find_leg m.arrival.lsp t.legs)

-- a message of another kind does nothing
abbrev pub path_answer : LegTable → NodeId → Msg → Answer
path_answer t u (Path l e k route set up r) =
    path_here t (record { arrival = arrival l e u k; route = route; set = set; upstream = up; role = r })
path_answer t u (Resv l e k x) = nothing
path_answer t u (PathTear l e k) = nothing
path_answer t u (PathErr l e at gone code) = nothing
path_answer t u (Notify l e at k code) = nothing

-- likewise
abbrev pub tear_answer : LegTable → NodeId → Msg → Answer
tear_answer t u (Path l e k route set up r) = nothing
tear_answer t u (Resv l e k x) = nothing
tear_answer t u (PathTear l e k) = on_tear (local_of t) (legs_state t) (arrival l e u k)
tear_answer t u (PathErr l e at gone code) = nothing
tear_answer t u (Notify l e at k code) = nothing
