-- A run after which a backup is torn behind the Path that takes its activation back.
use Rattle.std.proofs.Common.{[], ◌∷◌, ◌++◌, refl}
use Rattle.ason_base.specs.Labels as labels
use Rattle.ason_base.specs.{declared.calls.Phase.TheVariants.Closing, declared.calls.Role.TheVariants.Back}
use Rattle.lsp_laws.specs.HopShapes as row
use Rattle.mesh_examples.proofs.Activating as activating
use Rattle.mesh_examples.proofs.{Activating.network, Scene.{desk, lsp, node, ReachesRow, release_call}}
use Rattle.mesh_examples.proofs.Deactivating as deactivating

reaches : ReachesRow network (deactivating.events ++ release_call 1 1 ∷ desk 1 ∷ [])
    (activating.released deactivating.as_reached Closing 2) Back (lsp 1 1 2) (node 1) (node 5)
unfolding labels.numbers_from
reaches = record { enabled = refl; reached = refl; in_row = row.TornDeactivating }
