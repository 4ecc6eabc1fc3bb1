-- A run after which a backup is reserved, and its call is guarded.
use Rattle.std.proofs.Common.{List, [], ◌∷◌, ◌++◌, refl}
use Rattle.std.specs.Prelude.{Some, None}
use Rattle.ason_base.specs.Labels as labels
use Rattle.ason_base.specs.{declared.calls.CallState.TheVariants.Guarded, declared.calls.Cause.TheVariants.Unset, declared.calls.Phase.TheVariants.{Held, Live}, declared.calls.Role.TheVariants.Back}
use Rattle.mesh_rules.specs.declared.events.MeshEvent.{MeshEvent}
use Rattle.lsp_laws.specs.HopShapes as row
use Rattle.mesh_examples.proofs.{Answered.network, Scene.{only_at, seen_unreported, leg, lsp, mail_on, node, ReachesRow, Seen, takes_each, with_new_at}}
use Rattle.mesh_examples.proofs.Reserved as reserved

abbrev events : List MeshEvent
events = reserved.events ++ takes_each ((1, 5) ∷ (2, 1) ∷ (3, 2) ∷ (4, 3) ∷ [])

abbrev as_reached : Seen
as_reached = record reserved.as_reached {
  legs = with_new_at (
      (1, leg 4 2 Held (Some 1) (Some 1) 1 2 0 ∷ [])
      ∷ (2, leg 4 2 Held (Some 1) (Some 1) 1 1 1 ∷ [])
      ∷ (3, leg 4 2 Held (Some 1) (Some 1) 1 1 2 ∷ [])
      ∷ (4, leg 4 1 Live None (Some 1) 0 1 0 ∷ leg 4 2 Held None (Some 1) 0 1 3 ∷ [])
      ∷ []) reserved.as_reached.legs;
  calls = only_at 6 4 (seen_unreported 1 Guarded Unset ∷ []);
  mail = mail_on 7 [];
}

reaches : ReachesRow network events as_reached Back (lsp 4 1 2) (node 4) (node 3)
unfolding labels.numbers_from
reaches = record { enabled = refl; reached = refl; in_row = row.Standby }
