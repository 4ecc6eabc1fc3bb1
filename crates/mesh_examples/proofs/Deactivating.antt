-- A run after which the activation of a backup is taken back: the Path that does so is on its way.
use Rattle.std.proofs.Common.{List, [], ◌∷◌, ◌++◌, refl}
use Rattle.std.specs.Prelude.{Some, None}
use Rattle.ason_base.specs.Labels as labels
use Rattle.ason_base.specs.{declared.calls.CallState.TheVariants.Guarded, declared.calls.Cause.TheVariants.Unset, declared.calls.Phase.TheVariants.{Held, Live}, declared.calls.Role.TheVariants.Back}
use Rattle.mesh_rules.specs.declared.events.MeshEvent.{MeshEvent}
use Rattle.lsp_laws.specs.HopShapes as row
use Rattle.mesh_examples.proofs.Activated as activated
use Rattle.mesh_examples.proofs.{Activating.network, Scene.{only_at, seen_unreported, desk, down_at, leg, lsp, mail_on, node, ReachesRow, repairs_link, revert_call, Seen, takes_from, takes_each, with_new_at}}

-- the backup carries the call, and the working route is repaired
abbrev pub repaired : List MeshEvent
repaired = activated.events ++ takes_each ((5, 2) ∷ (1, 5) ∷ []) ++ repairs_link 3 ∷ desk 6 ∷ takes_from 1 6 ∷ []

-- on the desk of node 1 the alarm of link 3 and its clear come first
abbrev pub events : List MeshEvent
events = repaired ++ revert_call 1 1 ∷ desk 1 ∷ desk 1 ∷ desk 1 ∷ []

abbrev pub as_reached : Seen
as_reached = record activated.as_reached {
  legs = with_new_at (
      (1, leg 1 1 Live None (Some 1) 0 1 1 ∷ leg 1 2 Held None (Some 1) 0 3 1 ∷ [])
      ∷ (5, leg 1 2 Live (Some 1) (Some 1) 3 3 0 ∷ [])
      ∷ []) activated.as_reached.legs;
  calls = only_at 6 1 (seen_unreported 1 Guarded Unset ∷ []);
  down = down_at 6 [];
  mail = mail_on 7 ((2, (1, 0)) ∷ []);
}

reaches : ReachesRow network events as_reached Back (lsp 1 1 2) (node 1) (node 5)
unfolding labels.numbers_from
reaches = record { enabled = refl; reached = refl; in_row = row.Deactivating }
