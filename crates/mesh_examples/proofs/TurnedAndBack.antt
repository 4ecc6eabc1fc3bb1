-- A run after which a call that turned goes back by an order.
use Rattle.std.proofs.Common.{List, [], ◌∷◌, ◌++◌, refl}
use Rattle.ason_base.specs.Labels as labels
use Rattle.mesh_rules.specs.declared.events.MeshEvent.{MeshEvent}
use Rattle.mesh_examples.proofs.{GuardedCall.network, Scene.{desk, Reaches, revert_call}}
use Rattle.mesh_examples.proofs.TurnedCall as turned_call

abbrev events : List MeshEvent
events = turned_call.repaired ++ revert_call 1 1 ∷ desk 1 ∷ []

reaches : Reaches network events turned_call.as_gone_back
unfolding labels.numbers_from
reaches = record { enabled = refl; reached = refl }
