-- Labels that the backups of two guarded calls or more share.
use Rattle.std.specs.Prelude.{◌==◌, ◌&&◌, ◌++◌, ◌≤◌, if◌then◌else◌, ℕ, Bool, true, false, List, [], ◌∷◌, filter, flat_map}
use Rattle.ason_base.specs.{declared.limits.TheConstants.MOST_LABELS, declared.calls.LegRow.LegRow, declared.ids.Fibre.Fibre, declared.ids.LinkId.LinkId, declared.ids.NodeId.NodeId, declared.network.LinkSpec.LinkSpec}
use Rattle.mesh_laws.specs.Survey.{end_of, labels_at, row_labels}
use Rattle.survey.specs.{declared.slots.Slot.Slot, declared.views.CallView.CallView, Views.{is_guarded, passes, takes}}

abbrev pub IsLabelInRange : ℕ → Type 0
IsLabelInRange x = (1 ≤ x) × (x ≤ MOST_LABELS)

-- the labels that the row's leg takes of the fibre that comes in over this link, if it is one of this node
abbrev pub fibre_labels : NodeId → LinkId → LegRow → List ℕ
fibre_labels n k r = if r.node.0 == n.0 then row_labels k r else []

-- a guarded call whose backup passes the link at this node
abbrev pub is_user : NodeId → LinkId → CallView → Bool
is_user n k v = is_guarded v && passes n k v

abbrev pub users_of : List CallView → NodeId → LinkId → List CallView
users_of views n k = filter (is_user n k) views

-- the label of the fibre with these calls, where they are two or more
abbrev pub shared : Fibre → ℕ → List CallView → List Slot
shared f x [] = []
shared f x (v ∷ []) = []
shared f x (v ∷ w ∷ views) = record { fibre = f; label = x; takers = v ∷ w ∷ views } ∷ []

abbrev pub slot_at : LinkSpec → Bool → List CallView → ℕ → List Slot
slot_at l forward users x =
    shared (record { link = l.id; forward = forward }) x (filter (takes (end_of l forward) l.id x) users)

abbrev pub fibre_slots : List LegRow → List CallView → LinkSpec → Bool → List Slot
fibre_slots legs views l forward =
    flat_map (slot_at l forward (users_of views (end_of l forward) l.id)) (labels_at legs (end_of l forward) l.id)

-- of the fibre to the high end, and then of the other
abbrev pub link_slots : List LegRow → List CallView → LinkSpec → List Slot
link_slots legs views l = fibre_slots legs views l true ++ fibre_slots legs views l false
