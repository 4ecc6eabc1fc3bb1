-- A run after which a backup is activated at its egress, and the Resv goes back.
use Rattle.std.proofs.Common.{List, [], ◌∷◌, ◌++◌, refl}
use Rattle.std.specs.Prelude.{Some, None}
use Rattle.ason_base.specs.Labels as labels
use Rattle.ason_base.specs.{declared.calls.Phase.TheVariants.Live, declared.calls.Role.TheVariants.Back}
use Rattle.mesh_rules.specs.declared.events.MeshEvent.{MeshEvent}
use Rattle.lsp_laws.specs.HopShapes as row
use Rattle.mesh_examples.proofs.BothArmed as both_armed
use Rattle.mesh_examples.proofs.{Activating.network, Scene.{changed_at, leg, lsp, mail_on, node, ReachesRow, Seen, takes_from}}

abbrev pub events : List MeshEvent
events = both_armed.events ++ takes_from 2 5 ∷ []

abbrev pub as_reached : Seen
as_reached = record both_armed.as_reached {
  legs =
      changed_at 2 (leg 1 1 Live (Some 1) None 1 0 0 ∷ leg 1 2 Live (Some 1) None 1 0 0 ∷ [])
      both_armed.as_reached.legs;
  mail = mail_on 7 ((4, (1, 0)) ∷ []);
}

reaches : ReachesRow network events as_reached Back (lsp 1 1 2) (node 5) (node 2)
unfolding labels.numbers_from
reaches = record { enabled = refl; reached = refl; in_row = row.Activated }
