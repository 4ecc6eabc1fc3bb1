-- The text of a table of calls and legs, and of the lines that a run prints beside it.
use Rattle.std.specs.{Prelude.{ℕ, ◌==◌, ◌&&◌, ◌||◌, Bool, List, [], ◌++◌, length, codes, Option, Some, None, slice_get, unwrap_or, position, is_some, if◌then◌else◌}, List.flat_map, Fmt.decimal}
use Rattle.ason_base.specs.{declared.ids.NodeId.NodeId, declared.ids.LinkId.LinkId, declared.ids.CallNo.CallNo, declared.ids.Lsp.Lsp, declared.codes.ErrCode.ErrCode, declared.calls.Role.Role, declared.calls.Role.TheVariants.{Work, Back}, declared.calls.Phase.Phase, declared.calls.Phase.TheVariants.{Asked, Held, Armed, Live, Closing, Falling}, declared.calls.CallState.CallState, declared.calls.CallState.TheVariants.{Asking, Bare, Pairing, Guarded, Turning, Turned, Stuck, Blocked}, declared.calls.Cause.Cause, declared.calls.Cause.TheVariants.{Unset, NoRoute, NoBackup, Spent, Full, BackDown, Code}, declared.calls.CallRow.CallRow, declared.calls.LegRow.LegRow, declared.calls.TableRows.TableRows, Codes.{busy_code, full_code, down_code, torn_code, label_code, set_code, route_code, primary_code}}
use Rattle.plan_reader.specs.declared.plan.Plan.{Plan}

-- Names; a number without a name gives no text

abbrev pub name_at : List (List ℕ) → ℕ → List ℕ
name_at names k = unwrap_or (slice_get names k) []

abbrev pub name_at_place : List (List ℕ) → Option ℕ → List ℕ
name_at_place names None = []
name_at_place names (Some k) = name_at names k

-- names stand in the order of the nodes
abbrev pub node_name : Plan → NodeId → List ℕ
node_name p n = name_at_place p.node_names (position (λ m. m.id.0 == n.0) p.topology.nodes)

-- names stand in the order of call numbers
abbrev pub call_name : Plan → CallNo → List ℕ
call_name p c = name_at p.call_names c.0

-- Words

abbrev pub state_word : CallState → List ℕ
state_word Asking = codes "asking"
state_word Bare = codes "bare"
state_word Pairing = codes "pairing"
state_word Guarded = codes "guarded"
state_word Turning = codes "turning"
state_word Turned = codes "turned"
state_word Stuck = codes "stuck"
state_word Blocked = codes "blocked"

abbrev pub role_word : Role → List ℕ
role_word Work = codes "work"
role_word Back = codes "back"

abbrev pub phase_word : Phase → List ℕ
phase_word Asked = codes "asked"
phase_word Held = codes "held"
phase_word Armed = codes "armed"
phase_word Live = codes "live"
phase_word Closing = codes "closing"
phase_word Falling = codes "falling"

-- Causes

abbrev pub same_code : ErrCode → ErrCode → Bool
same_code a b = a.code == b.code && a.value == b.value

abbrev pub code_name : ErrCode → Option (List ℕ)
code_name c =
    if same_code c busy_code then Some (codes "busy")
    else if same_code c full_code then Some (codes "full")
    else if same_code c down_code then Some (codes "down")
    else if same_code c torn_code then Some (codes "torn")
    else if same_code c label_code then Some (codes "label")
    else if same_code c set_code then Some (codes "set")
    else if same_code c route_code then Some (codes "route")
    else if same_code c primary_code then Some (codes "primary")
    else None

-- the name, or code and value in decimal
abbrev pub named_or_decimal : Option (List ℕ) → ErrCode → List ℕ
named_or_decimal None c = decimal c.code ++ codes "/" ++ decimal c.value
named_or_decimal (Some name) c = name

abbrev pub cause_text : Cause → List ℕ
cause_text Unset = codes "-"
cause_text NoRoute = codes "noroute"
cause_text NoBackup = codes "nobackup"
cause_text Spent = codes "spent"
cause_text Full = codes "full"
cause_text BackDown = codes "backdown"
cause_text (Code c) = named_or_decimal (code_name c) c

-- LSPs and labels

-- `INGRESS.TUNNEL.LSP`, with the ingress's name
abbrev pub lsp_text : Plan → Lsp → List ℕ
lsp_text p l = node_name p l.ingress ++ codes "." ++ decimal l.tunnel ++ codes "." ++ decimal l.lsp

abbrev pub lsp_or_dash : Plan → Option Lsp → List ℕ
lsp_or_dash p None = codes "-"
lsp_or_dash p (Some l) = lsp_text p l

abbrev pub label_or_dash : Option ℕ → List ℕ
label_or_dash None = codes "-"
label_or_dash (Some x) = decimal x

-- `LINK/LABEL`, `LINK/-` without a label, `-` without a link
abbrev pub label_text : Option LinkId → Option ℕ → List ℕ
label_text None x = codes "-"
label_text (Some k) x = decimal k.0 ++ codes "/" ++ label_or_dash x

-- `LINK/LABEL`, `-` without a label or a link
abbrev pub back_label_text : Option LinkId → Option ℕ → List ℕ
back_label_text k None = codes "-"
back_label_text k (Some x) = label_text k (Some x)

-- the backward labels, where there is one; the one that comes in stands on the link on which the leg sends
abbrev pub back_text : LegRow → List ℕ
back_text g =
    if is_some g.back_in || is_some g.back_out
    then codes " back " ++ back_label_text g.out_link g.back_in ++ codes " " ++ back_label_text g.in_link g.back_out
    else []

-- Lines

abbrev pub table_head_text : TableRows → List ℕ
table_head_text rows =
    codes "calls " ++ decimal (length rows.calls) ++ codes " legs " ++ decimal (length rows.legs) ++ codes "\n"

-- `call NAME FROM TO STATE`
abbrev pub call_ends : Plan → CallRow → List ℕ
call_ends p c =
    codes "call " ++ call_name p c.call ++ codes " " ++ node_name p c.ingress ++ codes " " ++ node_name p c.egress
    ++ codes " " ++ state_word c.state

-- ` WORK BACK `
abbrev pub call_lsps : Plan → CallRow → List ℕ
call_lsps p c = codes " " ++ lsp_or_dash p c.work ++ codes " " ++ lsp_or_dash p c.back ++ codes " "

-- `call NAME FROM TO STATE WORK BACK CAUSE`
abbrev pub call_text : Plan → CallRow → List ℕ
call_text p c = call_ends p c ++ call_lsps p c ++ cause_text c.cause ++ codes "\n"

-- ` NODE ROLE PHASE `
abbrev pub leg_standing : Plan → LegRow → List ℕ
leg_standing p g =
    codes " " ++ node_name p g.node ++ codes " " ++ role_word g.role ++ codes " " ++ phase_word g.phase ++ codes " "

-- `leg LSP NODE ROLE PHASE`, and a space
abbrev pub leg_place : Plan → LegRow → List ℕ
leg_place p g = codes "leg " ++ lsp_text p g.lsp ++ leg_standing p g

-- `IN OUT`
abbrev pub leg_labels : LegRow → List ℕ
leg_labels g = label_text g.in_link g.in_label ++ codes " " ++ label_text g.out_link g.out_label

-- `leg LSP NODE ROLE PHASE IN OUT`, and the backward labels
abbrev pub leg_text : Plan → LegRow → List ℕ
leg_text p g = leg_place p g ++ leg_labels g ++ back_text g ++ codes "\n"

-- a line of both counts, then a line a call, then a line a leg
abbrev pub table_text : Plan → TableRows → List ℕ
table_text p rows = table_head_text rows ++ flat_map (call_text p) rows.calls ++ flat_map (leg_text p) rows.legs

-- what is unsettled: desk items, unacknowledged messages, unacknowledged floods
abbrev pub unsettled_text : ℕ → ℕ → ℕ → List ℕ
unsettled_text desk hop flood =
    codes "unsettled desk " ++ decimal desk ++ codes " hop " ++ decimal hop ++ codes " flood " ++ decimal flood
    ++ codes "\n"

-- the run is stopped at the limit of a node
abbrev pub stopped_text : Plan → NodeId → List ℕ
stopped_text p n = codes "stopped at limit " ++ node_name p n ++ codes "\n"
