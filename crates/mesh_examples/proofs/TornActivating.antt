-- A run after which a backup is torn while the Path that activates it is under way.
use Rattle.std.proofs.Common.{List, [], ◌∷◌, ◌++◌, refl}
use Rattle.ason_base.specs.Labels as labels
use Rattle.ason_base.specs.{declared.calls.Phase.TheVariants.Falling, declared.calls.Role.TheVariants.Back}
use Rattle.mesh_rules.specs.declared.events.MeshEvent.{MeshEvent}
use Rattle.lsp_laws.specs.HopShapes as row
use Rattle.mesh_examples.proofs.Activating as activating
use Rattle.mesh_examples.proofs.{Activating.network, Scene.{desk, down_at, lsp, node, ReachesRow, release_call, Seen}}

-- on the desk of node 1 the alarm of link 3 comes first
abbrev pub events : List MeshEvent
events = activating.events ++ release_call 1 1 ∷ desk 1 ∷ desk 1 ∷ []

abbrev pub as_reached : Seen
as_reached = record (activating.released activating.as_reached Falling 2) { down = down_at 6 ((1, 1) ∷ (6, 1) ∷ []) }

reaches : ReachesRow network events as_reached Back (lsp 1 1 2) (node 1) (node 5)
unfolding labels.numbers_from
reaches = record { enabled = refl; reached = refl; in_row = row.TornActivating }
