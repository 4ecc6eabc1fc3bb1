-- A run after which a backup is torn behind the Path that activates it.
use Rattle.std.proofs.Common.{List, [], ◌∷◌, ◌++◌, refl}
use Rattle.std.specs.Prelude.{Some}
use Rattle.ason_base.specs.Labels as labels
use Rattle.ason_base.specs.{declared.calls.Phase.TheVariants.Armed, declared.calls.Role.TheVariants.Back}
use Rattle.mesh_rules.specs.declared.events.MeshEvent.{MeshEvent}
use Rattle.lsp_laws.specs.HopShapes as row
use Rattle.mesh_examples.proofs.TornActivating as torn_activating
use Rattle.mesh_examples.proofs.{Activating.network, Scene.{changed_at, leg, lsp, mail_on, node, ReachesRow, Seen, takes_from}}

abbrev events : List MeshEvent
events = torn_activating.events ++ takes_from 5 1 ∷ []

abbrev as_reached : Seen
as_reached = record torn_activating.as_reached {
  legs = changed_at 5 (leg 1 2 Armed (Some 1) (Some 1) 3 3 0 ∷ []) torn_activating.as_reached.legs;
  mail = mail_on 7 ((2, (1, 0)) ∷ (3, (1, 0)) ∷ (4, (0, 1)) ∷ []);
}

reaches : ReachesRow network events as_reached Back (lsp 1 1 2) (node 1) (node 5)
unfolding labels.numbers_from
reaches = record { enabled = refl; reached = refl; in_row = row.TornArmed }
