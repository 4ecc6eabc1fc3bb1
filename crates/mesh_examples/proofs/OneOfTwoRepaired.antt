-- A run after which one of two reported fibres of a working route is repaired.
use Rattle.std.proofs.Common.{List, [], ◌∷◌, ◌++◌, refl}
use Rattle.std.specs.Prelude.{Some, None}
use Rattle.ason_base.specs.Labels as labels
use Rattle.ason_base.specs.{declared.calls.CallState.TheVariants.Bare, declared.calls.Cause.TheVariants.Unset, declared.calls.Phase.TheVariants.Live}
use Rattle.mesh_rules.specs.declared.events.MeshEvent.{MeshEvent}
use Rattle.mesh_examples.proofs.{GuardedCall.{network, one_of_two_repaired}, Scene.{only_at, desk, down_at, leg, step_over, Reaches, seen_reported, Seen, sets_up_alone, still, takes_each}}

abbrev events : List MeshEvent
events =
    sets_up_alone 1 1 2 (step_over 1 2 ∷ step_over 3 3 ∷ [])
    ∷ desk 1
    ∷ takes_each ((3, 1) ∷ (2, 3) ∷ (3, 2) ∷ (1, 3) ∷ [])
    ++ one_of_two_repaired

abbrev as_reached : Seen
as_reached = record (still 3 3) {
  legs =
      (leg 1 1 Live None (Some 1) 0 1 1 ∷ [])
      ∷ (leg 1 1 Live (Some 1) None 1 0 0 ∷ [])
      ∷ (leg 1 1 Live (Some 1) (Some 1) 1 1 0 ∷ [])
      ∷ [];
  calls = only_at 3 1 (seen_reported 1 Bare Unset 1 0 ∷ []);
  known = 2 ∷ 2 ∷ 2 ∷ [];
  down = down_at 3 ((3, 1) ∷ []);
}

reaches : Reaches network events as_reached
unfolding labels.numbers_from
reaches = record { enabled = refl; reached = refl }
