-- A run after which a Path that activates a backup has passed two nodes.
use Rattle.std.proofs.Common.{List, [], ◌∷◌, ◌++◌, refl}
use Rattle.std.specs.Prelude.{Some}
use Rattle.ason_base.specs.Labels as labels
use Rattle.ason_base.specs.{declared.calls.Phase.TheVariants.Armed, declared.calls.Role.TheVariants.Back}
use Rattle.mesh_rules.specs.declared.events.MeshEvent.{MeshEvent}
use Rattle.lsp_laws.specs.HopShapes as row
use Rattle.mesh_examples.proofs.Activating as activating
use Rattle.mesh_examples.proofs.{Activating.network, Scene.{changed_at, leg, lsp, mail_on, node, ReachesRow, Seen, takes_from}}

abbrev pub events : List MeshEvent
events = activating.events ++ takes_from 5 1 ∷ []

abbrev pub as_reached : Seen
as_reached = record activating.as_reached {
  legs = changed_at 5 (leg 1 2 Armed (Some 1) (Some 1) 3 3 0 ∷ []) activating.as_reached.legs;
  mail = mail_on 7 ((4, (0, 1)) ∷ []);
}

reaches : ReachesRow network events as_reached Back (lsp 1 1 2) (node 1) (node 5)
unfolding labels.numbers_from
reaches = record { enabled = refl; reached = refl; in_row = row.BothArmed }
