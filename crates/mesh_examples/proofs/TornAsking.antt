-- A run in which a call is released whose backup is asked for.
use Rattle.std.proofs.Common.{List, [], ◌∷◌, ◌++◌, refl}
use Rattle.ason_base.specs.Labels as labels
use Rattle.ason_base.specs.declared.calls.Role.TheVariants.{Back}
use Rattle.mesh_rules.specs.declared.events.MeshEvent.{MeshEvent}
use Rattle.lsp_laws.specs.HopShapes as row
use Rattle.mesh_examples.proofs.{Answered.network, Scene.{desk, lsp, node, ReachesRow, release_call, Seen}}
use Rattle.mesh_examples.proofs.Asking as asking

abbrev events : List MeshEvent
events = asking.events ++ release_call 1 4 ∷ desk 4 ∷ []

abbrev as_reached : Seen
as_reached = asking.released asking.as_reached ((5, (0, 2)) ∷ (7, (1, 0)) ∷ [])

reaches : ReachesRow network events as_reached Back (lsp 4 1 2) (node 4) (node 3)
unfolding labels.numbers_from
reaches = record { enabled = refl; reached = refl; in_row = row.TornAsking }
