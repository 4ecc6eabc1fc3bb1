-- Two calls whose backups meet on link 5, which has one label, and whose primaries have an SRLG in common. The first
-- backup finds the label taken when the Resv comes, and its call is bare; it is to be protected again, and its Path is
-- refused.
use Rattle.std.proofs.Common.{◌≡◌, true, List, [], ◌∷◌, ◌++◌, refl}
use Rattle.ason_base.specs.{Codes.{label_code, set_code}, declared.calls.Cause.TheVariants.Code}
use Rattle.ason_base.specs.Labels as labels
use Rattle.mesh_rules.specs.{declared.events.MeshEvent.MeshEvent, Events.after, Machine.start}
use Rattle.mesh_examples.proofs.{TakenLabel.network, Scene.{all_enabled, desk, protect_call, seen_of, takes_from, takes_each}}
use Rattle.mesh_examples.proofs.SharedLabel as shared_label

abbrev pub first_try : List MeshEvent
first_try =
    shared_label.both_learn
    ++ shared_label.first_call
    ∷ shared_label.second_call
    ∷ desk 3
    ∷ takes_each ((4, 3) ∷ (3, 4) ∷ [])
    ++ desk 1
    ∷ takes_each ((2, 1) ∷ (1, 2) ∷ (5, 3) ∷ (6, 5) ∷ (4, 6) ∷ (5, 1) ∷ (6, 5) ∷ (2, 6) ∷ (6, 4) ∷ (5, 6)
    ∷ (6, 2) ∷ (2, 6) ∷ (6, 2) ∷ (5, 6) ∷ (3, 5) ∷ (1, 5) ∷ [])

-- it is to be protected again
abbrev again : List MeshEvent
again = first_try ++ protect_call 1 1 ∷ desk 1 ∷ takes_from 5 1 ∷ takes_from 6 5 ∷ takes_from 5 6 ∷ takes_from 1 5 ∷ []

enabled : all_enabled network start again ≡ true
unfolding labels.numbers_from
enabled = refl

taken : seen_of network (after network start first_try) ≡ shared_label.one_bare 1 1 3 (Code label_code)
unfolding labels.numbers_from
taken = refl

refused : seen_of network (after network start again) ≡ shared_label.one_bare 1 1 3 (Code set_code)
unfolding labels.numbers_from
refused = refl
