-- A run after which the egress has reserved a label for a backup.
use Rattle.std.proofs.Common.{List, [], ◌∷◌, ◌++◌, refl}
use Rattle.std.specs.Prelude.{Some, None}
use Rattle.ason_base.specs.Labels as labels
use Rattle.ason_base.specs.{declared.calls.Phase.TheVariants.{Asked, Held, Live}, declared.calls.Role.TheVariants.Back}
use Rattle.mesh_rules.specs.declared.events.MeshEvent.{MeshEvent}
use Rattle.lsp_laws.specs.HopShapes as row
use Rattle.mesh_examples.proofs.{Answered.network, Scene.{learns_links, leg, lsp, mail_on, node, ReachesRow, Seen, takes_each, with_new_at}}
use Rattle.mesh_examples.proofs.Passed as passed

abbrev pub events : List MeshEvent
events = passed.events ++ learns_links 2 (7 ∷ []) ++ learns_links 1 (7 ∷ [])
    ++ takes_each ((2, 3) ∷ (1, 2) ∷ (5, 1) ∷ [])

abbrev pub as_reached : Seen
as_reached = record passed.as_reached {
  legs = with_new_at (
      (1, leg 4 2 Asked None None 1 2 0 ∷ [])
      ∷ (2, leg 4 2 Asked None None 1 1 1 ∷ [])
      ∷ (5, leg 4 1 Live (Some 1) None 1 0 0 ∷ leg 4 2 Held (Some 1) None 2 0 0 ∷ [])
      ∷ []) passed.as_reached.legs;
  known = 4 ∷ 3 ∷ 5 ∷ 2 ∷ 3 ∷ 0 ∷ [];
  mail = mail_on 7 ((3, (0, 1)) ∷ []);
}

reaches : ReachesRow network events as_reached Back (lsp 4 1 2) (node 1) (node 5)
unfolding labels.numbers_from
reaches = record { enabled = refl; reached = refl; in_row = row.Reserved }
