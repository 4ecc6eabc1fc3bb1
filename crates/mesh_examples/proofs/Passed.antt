-- A run after which the Path of a backup has gone on.
use Rattle.std.proofs.Common.{List, [], ◌∷◌, ◌++◌, refl}
use Rattle.std.specs.Prelude.{None}
use Rattle.ason_base.specs.Labels as labels
use Rattle.ason_base.specs.{declared.calls.Phase.TheVariants.Asked, declared.calls.Role.TheVariants.Back}
use Rattle.mesh_rules.specs.declared.events.MeshEvent.{MeshEvent}
use Rattle.lsp_laws.specs.HopShapes as row
use Rattle.mesh_examples.proofs.{Answered.network, Scene.{changed_at, learns_links, leg, lsp, mail_on, node, ReachesRow, Seen, takes_from}}
use Rattle.mesh_examples.proofs.Asking as asking

abbrev pub events : List MeshEvent
events = asking.events ++ learns_links 3 (7 ∷ []) ++ takes_from 3 4 ∷ []

abbrev pub as_reached : Seen
as_reached = record asking.as_reached {
  legs = changed_at 3 (leg 4 2 Asked None None 1 1 2 ∷ []) asking.as_reached.legs;
  known = 3 ∷ 2 ∷ 5 ∷ 2 ∷ 3 ∷ 0 ∷ [];
  mail = mail_on 7 ((4, (0, 1)) ∷ []);
}

reaches : ReachesRow network events as_reached Back (lsp 4 1 2) (node 4) (node 3)
unfolding labels.numbers_from
reaches = record { enabled = refl; reached = refl; in_row = row.Passed }
