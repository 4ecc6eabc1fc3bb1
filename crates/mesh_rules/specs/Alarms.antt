-- A fibre in that goes down, or comes up again: alarms and clears (RFC 4872, section 8; Notify: RFC 3473, section 4.3).
-- p is the node; s is what it keeps.
use Rattle.std.specs.Prelude.{◌==◌, ◌&&◌, Bool, false, not, List, [], ◌∷◌, ◌++◌, Option, Some, None, if◌then◌else◌}
use Rattle.ason_base.specs.{Codes.{fibre_down_code, fibre_up_code}, Lsps.{has_fibre, same_bool, without_fibre}, declared.codes.ErrCode.ErrCode, declared.ids.Fibre.Fibre, declared.messages.Msg.TheVariants.Notify, declared.network.LinkSpec.LinkSpec, declared.tables.Leg.Leg, declared.tables.Out.Out}
use Rattle.mesh_rules.specs.{declared.neighbours.Neighbour.Neighbour, State.NodeState, Changes.{Answer, nothing, to_node}, Legs.{is_closing, is_on, previous}, LocalNodes.{LocalNode, own_link}}

-- the fibre comes in here
abbrev pub enters : LocalNode → Fibre → Option LinkSpec → Bool
enters p f None = false
enters p f (Some l) = same_bool f.forward (l.high.0 == p.id.0)

-- Notifies

-- a leg that the fibre leads to, and that isn't torn
abbrev pub is_hit : Fibre → Leg → Bool
is_hit f g = is_on g.in_fibre f && not (is_closing g.phase)

abbrev pub notify_to : LocalNode → Fibre → ErrCode → Leg → Option Neighbour → List Out
notify_to p f code g None = []
notify_to p f code g (Some h) = to_node h.node (Notify g.lsp g.egress p.id f.link code) ∷ []

abbrev pub notice_of : LocalNode → Fibre → ErrCode → Leg → List Out
notice_of p f code g = if is_hit f g then notify_to p f code g (previous g) else []

-- the previous node of each leg that the fibre leads to is told, in order of LSP
abbrev pub notices : LocalNode → Fibre → ErrCode → List Leg → List Out
notices p f code [] = []
notices p f code (g ∷ legs) = notice_of p f code g ++ notices p f code legs

-- Alarms and clears

-- these fibres are known to be down from now on, and the previous nodes are told
abbrev pub knows_down : LocalNode → NodeState → Fibre → ErrCode → List Fibre → Answer
knows_down p s f code fibres = record nothing { down = Some fibres; sent = notices p f code s.legs }

-- an alarm of a fibre that isn't known to be down
abbrev pub on_alarm : LocalNode → NodeState → Fibre → Answer
on_alarm p s f =
    if enters p f (own_link p f.link) && not (has_fibre s.down f)
    then knows_down p s f fibre_down_code (s.down ++ f ∷ []) else nothing

-- a clear of one that is
abbrev pub on_clear : LocalNode → NodeState → Fibre → Answer
on_clear p s f =
    if enters p f (own_link p f.link) && has_fibre s.down f
    then knows_down p s f fibre_up_code (without_fibre f s.down) else nothing
