-- A run after which a turned call goes back, since its backup is hit and its working route is repaired.
use Rattle.std.proofs.Common.{List, [], ◌∷◌, ◌++◌, refl}
use Rattle.ason_base.specs.Labels as labels
use Rattle.ason_base.specs.{declared.calls.CallState.TheVariants.Guarded, declared.calls.Cause.TheVariants.Unset}
use Rattle.mesh_rules.specs.declared.events.MeshEvent.{MeshEvent}
use Rattle.mesh_examples.proofs.Deactivating as deactivating
use Rattle.mesh_examples.proofs.{Activating.network, Scene.{only_at, desk, down_at, fails_link, Reaches, seen_reported, Seen, takes_from}}

abbrev events : List MeshEvent
events = deactivating.repaired ++ fails_link 4 ∷ desk 2 ∷ takes_from 5 2 ∷ takes_from 1 5 ∷ []

abbrev as_reached : Seen
as_reached = record deactivating.as_reached {
  calls = only_at 6 1 (seen_reported 1 Guarded Unset 0 1 ∷ []);
  down = down_at 6 ((2, 1) ∷ []);
}

reaches : Reaches network events as_reached
unfolding labels.numbers_from
reaches = record { enabled = refl; reached = refl }
