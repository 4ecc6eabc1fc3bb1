-- A run after which a tick counts nothing while a fibre of the working route is reported.
use Rattle.std.proofs.Common.{List, [], ◌∷◌, ◌++◌, refl}
use Rattle.ason_base.specs.Labels as labels
use Rattle.mesh_rules.specs.declared.events.MeshEvent.{MeshEvent}
use Rattle.mesh_examples.proofs.{GuardedCall.network, Scene.{Reaches, ticks_at}}
use Rattle.mesh_examples.proofs.TurnedCall as turned_call

abbrev events : List MeshEvent
events = turned_call.events ++ ticks_at 1 ∷ []

reaches : Reaches (record network { wait = 2 }) events turned_call.as_reached
unfolding labels.numbers_from
reaches = record { enabled = refl; reached = refl }
