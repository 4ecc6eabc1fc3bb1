-- Where a rule of calls names a route that is searched for, and which route that is.
use Rattle.std.specs.Prelude.{◌≡◌, ◌==◌, ◌&&◌, Bool, true, not, List, Option, Some, None, IfSome, is_some, if◌then◌else◌}
use Rattle.ason_base.specs.{Risks.unknown_link, declared.ids.CallNo.CallNo, declared.ids.NodeId.NodeId, declared.network.TeRow.TeRow, declared.steps.Step.Step, declared.tables.CallRec.CallRec, declared.tables.Leg.Leg}
use Rattle.mesh_rules.specs.{Calls.{call_with, find_call, is_asking, is_bare}, KnownRows.known_rows, LeastRoutes.{Trip, least_backup, least_trip}, Legs.{is_work, leg_of}, Pairs.route_from, Setups.{SetupRequest, is_order_here}}
use Rattle.leg_table.specs.{States.{legs_state, local_of}, Tables.{CallTable, LegTable}}

-- the rows of the tables are those that the node knows
abbrev pub RowsAreKnown : LegTable → Type 0
RowsAreKnown t = t.rows ≡ known_rows (local_of t) (legs_state t)

-- The routes

abbrev pub steps_of : Option Trip → Option (List Step)
steps_of None = None
steps_of (Some r) = Some r.steps

-- the least route from here
abbrev pub found_route : LegTable → NodeId → Option (List Step)
found_route t to = steps_of (least_trip t.rows t.node.id to)

-- the least route beside a primary, each link of which is known
abbrev pub route_beside : List TeRow → List Step → NodeId → NodeId → Option (List Step)
route_beside rows primary from to =
    if is_some (unknown_link rows primary) then None else steps_of (least_backup rows primary from to)

-- beside that of an LSP whose leg begins here
abbrev pub found_backup : LegTable → Leg → Option (List Step)
found_backup t w = route_beside t.rows (route_from (local_of t) w) t.node.id w.egress

-- Setups

-- the setup makes a call here, and no route is given
abbrev pub seeks_route : LegTable → CallTable → SetupRequest → Bool
seeks_route t c w =
    not (is_some (find_call w.call c.calls)) && (is_order_here (local_of t) w && not (is_some w.via))

-- then the route is the least one
abbrev pub IsRouteFor : LegTable → CallTable → SetupRequest → Option (List Step) → Type 0
IsRouteFor t c w route = seeks_route t c w ≡ true → route ≡ found_route t w.egress

-- Pairs

-- a Resv by which the working LSP of this call stands leads to a backup
abbrev pub is_paired_by_resv : CallRec → Leg → Bool
is_paired_by_resv c g = is_work g.role && (is_asking c.state && c.protected)

abbrev pub has_no_backup : CallRec → Bool
has_no_backup c = not (is_some c.backup)

-- the leg, which has its labels now, if a backup is searched for beside its LSP
abbrev pub sought_of : Option CallRec → Leg → Option Leg
sought_of None g = None
sought_of (Some c) g = if is_paired_by_resv c g && has_no_backup c then Some g else None

abbrev pub sought_by_resv : CallTable → Leg → Option Leg
sought_by_resv c g = sought_of (call_with g.lsp c.calls) g

-- a call that stands without a backup, where the order comes from this ingress
abbrev pub unprotected_of : LegTable → NodeId → Option CallRec → Option CallRec
unprotected_of t from None = None
unprotected_of t from (Some c) = if from.0 == t.node.id.0 && is_bare c.state then Some c else None

abbrev pub unprotected_here : LegTable → CallTable → CallNo → NodeId → Option CallRec
unprotected_here t c n from = unprotected_of t from (find_call n c.calls)

abbrev pub sought_for : LegTable → Option CallRec → Option Leg
sought_for t None = None
sought_for t (Some c) = if has_no_backup c then leg_of c.work t.legs else None

-- the leg beside whose LSP a backup is searched for by the order to protect a call, if that is so
abbrev pub sought_by_protect : LegTable → CallTable → CallNo → NodeId → Option Leg
sought_by_protect t c n from = sought_for t (unprotected_here t c n from)

-- then the backup route is the least one beside it
abbrev pub IsBackupFor : LegTable → Option Leg → Option (List Step) → Type 0
IsBackupFor t sought backup = IfSome sought (λ w. backup ≡ found_backup t w)
