-- The legs of one node, in order of LSP, and the labels that they take and send.
use Rattle.std.specs.{Prelude.{ℕ, ◌==◌, ◌&&◌, ◌||◌, Bool, true, false, not, List, [], ◌∷◌, find, filter, Option, Some, None, if◌then◌else◌}, List.list_any}
use Rattle.ason_base.specs.{declared.ids.NodeId.NodeId, declared.ids.LinkId.LinkId, declared.ids.Fibre.Fibre, declared.ids.Lsp.Lsp, declared.calls.Phase.Phase, declared.calls.Phase.TheVariants.{Asked, Held, Armed, Live, Closing, Falling}, declared.calls.Role.Role, declared.calls.Role.TheVariants.{Work, Back}, declared.risks.Risk.Risk, declared.tables.Leg.Leg, InOrder.put_by, Labels.{has, least, up_to}, Lsps.{same_lsp, lsp_before, same_fibre}, Risks.have_common}
use Rattle.mesh_rules.specs.{declared.changes.LegChange.LegChange, declared.changes.LegChange.TheVariants.{Goes, Put}, declared.neighbours.Neighbour.Neighbour, LocalNodes.{LocalNode, own_link, labels_of}}

-- The list

abbrev pub find_leg : Lsp → List Leg → Option Leg
find_leg l legs = find (λ g. same_lsp g.lsp l) legs

-- without the leg of this LSP
abbrev pub without_leg : Lsp → List Leg → List Leg
without_leg l legs = filter (λ g. not (same_lsp g.lsp l)) legs

-- the leg of an LSP that a call names
abbrev pub leg_of : Option Lsp → List Leg → Option Leg
leg_of None legs = None
leg_of (Some l) legs = find_leg l legs

abbrev pub has_lsp : Option Leg → Lsp → Bool
has_lsp None l = false
has_lsp (Some g) l = same_lsp g.lsp l

-- with this leg, in place of the one of its LSP or before the later ones
abbrev pub with_leg : Leg → List Leg → List Leg
with_leg g legs = put_by same_lsp lsp_before (λ h. h.lsp) g legs

abbrev pub leg_changed : LegChange → List Leg → List Leg
leg_changed (Goes l) legs = without_leg l legs
leg_changed (Put g) legs = with_leg g legs

-- the legs after these changes, one after the other
abbrev pub legs_changed : List LegChange → List Leg → List Leg
legs_changed [] legs = legs
legs_changed (c ∷ cs) legs = legs_changed cs (leg_changed c legs)

-- Phases

abbrev pub is_asked : Phase → Bool
is_asked Asked = true
is_asked _ = false

abbrev pub is_held : Phase → Bool
is_held Held = true
is_held _ = false

abbrev pub is_armed : Phase → Bool
is_armed Armed = true
is_armed _ = false

-- an activation has passed the leg
abbrev pub is_in_use : Phase → Bool
is_in_use Asked = false
is_in_use Held = false
is_in_use Armed = true
is_in_use Live = true
is_in_use Closing = false
is_in_use Falling = false

abbrev pub with_phase : Phase → Leg → Leg
with_phase q g = record g { phase = q }

-- torn, and waiting for the next node
abbrev pub is_closing : Phase → Bool
is_closing Closing = true
is_closing Falling = true
is_closing _ = false

-- the label is reserved
abbrev pub is_beyond_asked : Phase → Bool
is_beyond_asked Held = true
is_beyond_asked Armed = true
is_beyond_asked Live = true
is_beyond_asked _ = false

-- the phase of a leg that gets its label: a working leg is cross-connected, a backup's label is reserved alone
abbrev pub reserved : Role → Phase
reserved Work = Live
reserved Back = Held

-- a torn leg's phase: a backup that was Armed or Live falls
abbrev pub closing_phase : Phase → Role → Phase
closing_phase Armed Back = Falling
closing_phase Live Back = Falling
closing_phase p r = Closing

abbrev pub is_work : Role → Bool
is_work Work = true
is_work Back = false

-- a backup that an activation has passed
abbrev pub is_active_backup : Leg → Bool
is_active_backup g = not (is_work g.role) && is_in_use g.phase

-- the phases of a leg that an activation has passed, until the next node has let go
abbrev pub is_marking : Phase → Bool
is_marking Armed = true
is_marking Live = true
is_marking Falling = true
is_marking _ = false

-- a backup that is Armed, Live or Falling
abbrev pub is_marked : Leg → Bool
is_marked g = not (is_work g.role) && is_marking g.phase

-- A torn leg gives up the labels that its previous node uses: its label in and its back label out. It keeps its fibres,
-- and the labels that its next node uses: its label out and its back label in.
abbrev pub closed : Leg → Leg
closed g = record g { phase = closing_phase g.phase g.role; in_label = None; back_out = None }

-- The leg of a Resv: the label out is the one that came, the label in the one that goes back.
abbrev pub connected : Leg → Option ℕ → ℕ → Leg
connected g label x = record g { phase = reserved g.role; in_label = label; out_label = Some x }

-- Neighbours of a leg

abbrev pub neighbour_over : Option NodeId → Option Fibre → Option Neighbour
neighbour_over None f = None
neighbour_over (Some n) None = None
neighbour_over (Some n) (Some f) = Some (record { node = n; fibre = f })

abbrev pub previous : Leg → Option Neighbour
previous g = neighbour_over g.prev g.in_fibre

abbrev pub following : Leg → Option Neighbour
following g = neighbour_over g.next g.out_fibre

abbrev pub is_node : Option Neighbour → NodeId → Bool
is_node None n = false
is_node (Some h) n = h.node.0 == n.0

-- this node, over this link
abbrev pub is_over : Option Neighbour → NodeId → LinkId → Bool
is_over None n k = false
is_over (Some h) n k = h.node.0 == n.0 && h.fibre.link.0 == k.0

-- Labels

abbrev pub is_on : Option Fibre → Fibre → Bool
is_on None f = false
is_on (Some g) f = same_fibre g f

abbrev pub is_label : Option ℕ → ℕ → Bool
is_label None x = false
is_label (Some y) x = y == x

-- the other direction of the same link
abbrev pub reverse : Fibre → Fibre
reverse f = record { link = f.link; forward = not f.forward }

abbrev pub reverse_of : Option Fibre → Option Fibre
reverse_of None = None
reverse_of (Some f) = Some (reverse f)

-- this label of this fibre
abbrev pub is_at : Option Fibre → Option ℕ → Fibre → ℕ → Bool
is_at o label f x = is_on o f && is_label label x

-- the leg takes the label on a fibre that comes in: as its label in on its fibre in, or as its back label in on the
-- reverse of its fibre out
abbrev pub takes : Fibre → ℕ → Leg → Bool
takes f x g = is_at g.in_fibre g.in_label f x || is_at (reverse_of g.out_fibre) g.back_in f x

-- it sends on the label on a fibre that goes out: as its label out on its fibre out, or as its back label out on the
-- reverse of its fibre in
abbrev pub sends_label : Fibre → ℕ → Leg → Bool
sends_label f x g = is_at g.out_fibre g.out_label f x || is_at (reverse_of g.in_fibre) g.back_out f x

abbrev pub uses : Fibre → ℕ → Leg → Bool
uses f x g = takes f x g || sends_label f x g

-- no leg takes the label
abbrev pub is_free : List Leg → Fibre → ℕ → Bool
is_free legs f x = not (list_any (takes f x) legs)

-- a marked leg of another LSP uses the label
abbrev pub is_busy : List Leg → Lsp → Fibre → ℕ → Bool
is_busy legs l f x = list_any (λ h. uses f x h && (is_marked h && not (same_lsp h.lsp l))) legs

abbrev pub is_busy_at : List Leg → Lsp → Option Fibre → Option ℕ → Bool
is_busy_at legs l None x = false
is_busy_at legs l (Some f) None = false
is_busy_at legs l (Some f) (Some x) = is_busy legs l f x

-- a marked leg of another LSP uses a label that the leg uses: the leg can't be activated
abbrev pub is_contended : List Leg → Leg → Bool
is_contended legs g =
    is_busy_at legs g.lsp g.in_fibre g.in_label
    || (is_busy_at legs g.lsp (reverse_of g.out_fibre) g.back_in
    || (is_busy_at legs g.lsp g.out_fibre g.out_label
    || is_busy_at legs g.lsp (reverse_of g.in_fibre) g.back_out))

-- a backup whose primary has none of these risks
abbrev pub is_apart : List Risk → Leg → Bool
is_apart risks g = not (is_work g.role) && not (have_common risks g.risks)

-- each leg that takes the label is a backup whose primary has none of these risks
abbrev pub is_shareable : List Risk → List Leg → Fibre → ℕ → Bool
is_shareable risks legs f x = not (list_any (λ g. takes f x g && not (is_apart risks g)) legs)

-- A working leg may take a label that is free. A backup may share it with backups; these are the risks of its primary.
abbrev pub is_usable : Role → List Risk → List Leg → Fibre → ℕ → Bool
is_usable Work risks legs f x = is_free legs f x
is_usable Back risks legs f x = is_shareable risks legs f x

-- the labels of a fibre that a leg of this role, whose primary has these risks, may take
abbrev pub usable : LocalNode → List Leg → Role → List Risk → Fibre → List ℕ
usable p legs role risks f = filter (is_usable role risks legs f) (up_to (labels_of (own_link p f.link)))

-- The label with which an LSP goes on

-- this label, if it is one of them
abbrev pub only : ℕ → Bool → Option ℕ
only x true = Some x
only x false = None

-- of these labels the least at a node that converts, at another one the label that came
abbrev pub label_through : LocalNode → List ℕ → ℕ → Option ℕ
label_through p labels x = if p.convert then least labels else only x (has labels x)
