-- A call with those of its legs that a survey asks about.
use Rattle.std.specs.{Prelude.{◌==◌, ◌&&◌, ◌||◌, ℕ, Bool, List, filter, Option}, List.list_any}
use Rattle.ason_base.specs.{Lsps.is_lsp, declared.calls.CallRow.CallRow, declared.calls.LegRow.LegRow, declared.ids.LinkId.LinkId, declared.ids.Lsp.Lsp, declared.ids.NodeId.NodeId}
use Rattle.mesh_rules.specs.Legs.{is_beyond_asked, is_work}
use Rattle.mesh_laws.specs.Survey.{is_link, is_live, row_takes}
use Rattle.survey.specs.declared.views.CallView.{CallView}

-- a Live leg of a working LSP
abbrev pub is_live_leg : LegRow → Bool
is_live_leg r = is_work r.role && is_live r.phase

-- the rows of the LSP
abbrev pub rows_of_lsp : List LegRow → Option Lsp → List LegRow
rows_of_lsp legs wanted = filter (λ r. is_lsp wanted r.lsp) legs

abbrev pub live_legs : List LegRow → Option Lsp → List LegRow
live_legs legs work = filter is_live_leg (rows_of_lsp legs work)

abbrev pub view_of : List LegRow → CallRow → CallView
view_of legs c = record { call = c; live = live_legs legs c.work; backup = rows_of_lsp legs c.back }

-- its ingress has its backup's leg, Held, Armed or Live
abbrev pub is_guarded : CallView → Bool
is_guarded v = list_any (λ r. r.node.0 == v.call.ingress.0 && is_beyond_asked r.phase) v.backup

-- the leg is one of this node, which comes in over this link or goes out over it
abbrev pub is_on_link : NodeId → LinkId → LegRow → Bool
is_on_link n k r = r.node.0 == n.0 && (is_link r.in_link k || is_link r.out_link k)

-- it takes this label of the fibre that comes in over this link at this node
abbrev pub is_on_label : NodeId → LinkId → ℕ → LegRow → Bool
is_on_label n k x r = r.node.0 == n.0 && row_takes k x r

-- its backup passes the link
abbrev pub passes : NodeId → LinkId → CallView → Bool
passes n k v = list_any (is_on_link n k) v.backup

-- its backup takes this label of the fibre
abbrev pub takes : NodeId → LinkId → ℕ → CallView → Bool
takes n k x v = list_any (is_on_label n k x) v.backup
