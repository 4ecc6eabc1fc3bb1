-- A run after which a call that was stuck is guarded again: its working route is repaired.
use Rattle.std.proofs.Common.{List, [], ◌∷◌, ◌++◌, refl}
use Rattle.ason_base.specs.Labels as labels
use Rattle.mesh_rules.specs.declared.events.MeshEvent.{MeshEvent}
use Rattle.mesh_examples.proofs.GuardedCall as guarded_call
use Rattle.mesh_examples.proofs.{GuardedCall.network, Scene.{desk, fails_link, Reaches, repairs_link, takes_from}}

-- its backup is hit, and then its working route too
abbrev stuck : List MeshEvent
stuck = guarded_call.events ++ fails_link 2 ∷ desk 3 ∷ takes_from 1 3 ∷ fails_link 1 ∷ desk 2 ∷ takes_from 1 2 ∷ []

abbrev events : List MeshEvent
events = stuck ++ repairs_link 1 ∷ desk 2 ∷ takes_from 1 2 ∷ []

reaches : Reaches network events guarded_call.as_reported
unfolding labels.numbers_from
reaches = record { enabled = refl; reached = refl }
