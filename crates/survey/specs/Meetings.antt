-- Which two calls would contend for a shared label if two groups failed.
use Rattle.std.specs.{Prelude.{◌==◌, ◌&&◌, Bool, List, [], ◌∷◌, filter, flat_map, if◌then◌else◌}, List.list_any}
use Rattle.ason_base.specs.{declared.calls.CallRow.CallRow, declared.commands.Group.Group}
use Rattle.mesh_laws.specs.{Survey.of_two, declared.survey.Contend.Contend}
use Rattle.survey.specs.{declared.groups.GroupLinks.GroupLinks, declared.slots.Slot.Slot, declared.views.CallView.CallView, Groups.is_hit}

-- the group hits a call of the label
abbrev pub is_met : GroupLinks → Slot → Bool
is_met g s = list_any (is_hit g) s.takers

-- the group hits a call of one of the labels
abbrev pub is_met_at_all : List Slot → GroupLinks → Bool
is_met_at_all slots g = list_any (is_met g) slots

abbrev pub is_same_call : CallRow → CallRow → Bool
is_same_call a b = a.call.0 == b.call.0 && a.ingress.0 == b.ingress.0

-- these two calls of the label
abbrev pub two_meet : (Group × Group) → Slot → CallRow → CallRow → List Contend
two_meet groups s a b = of_two groups.0 groups.1 s.fibre.link s.fibre.forward s.label a b

-- and if the second group hits the other one
abbrev pub other_meets : Group → GroupLinks → Slot → CallView → CallView → List Contend
other_meets g h s a b = if is_hit h b then two_meet (g, h.group) s a.call b.call else []

-- this call with each that the second group hits
abbrev pub others_meet : Group → GroupLinks → Slot → CallView → List Contend
others_meet g h s a = flat_map (other_meets g h s a) s.takers

-- each that the first group hits with each that the second group hits
abbrev pub slot_meet : GroupLinks → GroupLinks → Slot → List Contend
slot_meet g h s = flat_map (others_meet g.group h s) (filter (is_hit g) s.takers)

-- on each of these labels
abbrev pub groups_meet : List Slot → GroupLinks → GroupLinks → List Contend
groups_meet slots g h = flat_map (slot_meet g h) slots

-- of this group with each of the others, over the labels of which it hits a call
abbrev pub first_meets : List Slot → GroupLinks → List GroupLinks → List Contend
first_meets slots g groups = flat_map (groups_meet (filter (is_met g) slots) g) groups

-- of each group with each later one, a list each
abbrev pub meet_lists : List Slot → List GroupLinks → List (List Contend)
meet_lists slots [] = []
meet_lists slots (g ∷ groups) = first_meets slots g groups ∷ meet_lists slots groups

-- of each two groups
abbrev pub all_meet : List Slot → List GroupLinks → List Contend
all_meet slots groups = flat_map (λ list. list) (meet_lists slots groups)
