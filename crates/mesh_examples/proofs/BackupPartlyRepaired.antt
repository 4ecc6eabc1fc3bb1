-- A run after which one of two reported fibres of a backup route is repaired.
use Rattle.std.proofs.Common.{List, ◌++◌, refl}
use Rattle.ason_base.specs.Labels as labels
use Rattle.mesh_rules.specs.declared.events.MeshEvent.{MeshEvent}
use Rattle.mesh_examples.proofs.GuardedCall as guarded_call
use Rattle.mesh_examples.proofs.{GuardedCall.network, Scene.Reaches}

abbrev events : List MeshEvent
events = guarded_call.events ++ guarded_call.one_of_two_repaired

reaches : Reaches network events guarded_call.as_reported
unfolding labels.numbers_from
reaches = record { enabled = refl; reached = refl }
