-- A run after which a torn backup is let go behind the refusal of its activation: node 5, which refused, answers the
-- PathTear and tears on, and its own leg goes once node 6 has let go. Node 6 takes the Path of the other backup first.
use Rattle.std.proofs.Common.{List, [], ◌∷◌, ◌++◌, refl}
use Rattle.std.specs.Prelude.{Some, None}
use Rattle.ason_base.specs.Labels as labels
use Rattle.ason_base.specs.{declared.calls.Phase.TheVariants.{Armed, Closing}, declared.calls.Role.TheVariants.Back}
use Rattle.mesh_rules.specs.declared.events.MeshEvent.{MeshEvent}
use Rattle.lsp_laws.specs.HopShapes as row
use Rattle.mesh_examples.proofs.{Scene.{leg, lsp, mail_on, node, ReachesRow, Seen, takes_from, with_new_at}, SharedLabel.network}
use Rattle.mesh_examples.proofs.TornContended as torn

abbrev events : List MeshEvent
events = torn.events ++ takes_from 5 3 ∷ takes_from 6 5 ∷ takes_from 6 5 ∷ takes_from 5 6 ∷ []

-- on link 6 the refusal and the answer to the tear are on their way to node 3; the Path of the other backup is on
-- link 4, and PathTears are on links 2 and 7
abbrev as_reached : Seen
as_reached = record torn.as_reached {
  legs = with_new_at (
      (5, leg 1 2 Armed (Some 1) (Some 1) 2 1 1 ∷ [])
      ∷ (6, leg 1 2 Armed (Some 1) (Some 1) 1 1 0 ∷ leg 3 2 Closing None (Some 1) 1 1 0 ∷ [])
      ∷ []) torn.as_reached.legs;
  mail = mail_on 7 ((2, (1, 0)) ∷ (4, (0, 1)) ∷ (6, (0, 2)) ∷ (7, (0, 1)) ∷ []);
}

reaches : ReachesRow network events as_reached Back (lsp 3 1 2) (node 3) (node 5)
unfolding labels.numbers_from
reaches = record { enabled = refl; reached = refl; in_row = row.LetGo row.Falls row.NothingLeft row.AfterContention }
