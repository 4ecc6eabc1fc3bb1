-- A run after which a backup is torn whose activation was refused: its call is released before the refusal is taken, so
-- the Armed leg falls, and the refusal finds no leg any more that waits for an answer.
use Rattle.std.proofs.Common.{List, [], ◌∷◌, ◌++◌, refl}
use Rattle.std.specs.Prelude.{Some, None}
use Rattle.ason_base.specs.Labels as labels
use Rattle.ason_base.specs.{declared.calls.CallState.TheVariants.Turning, declared.calls.Cause.TheVariants.Unset, declared.calls.Phase.TheVariants.{Closing, Falling}, declared.calls.Role.TheVariants.Back}
use Rattle.mesh_rules.specs.declared.events.MeshEvent.{MeshEvent}
use Rattle.lsp_laws.specs.HopShapes as row
use Rattle.mesh_examples.proofs.Contended as contended
use Rattle.mesh_examples.proofs.{Scene.{only_at, changed_at, desk, down_at, leg, lsp, mail_on, node, ReachesRow, release_call, seen_reported, Seen}, SharedLabel.network}

-- on the desk of node 3 the alarm of link 2 comes first
abbrev pub events : List MeshEvent
events = contended.events ++ release_call 2 3 ∷ desk 3 ∷ desk 3 ∷ []

-- on link 6 the PathTear meets the refusal; another is on link 2
abbrev pub as_reached : Seen
as_reached = record contended.as_reached {
  legs =
      changed_at 3 (leg 3 1 Closing None (Some 1) 0 1 0 ∷ leg 3 2 Falling None (Some 1) 0 2 2 ∷ [])
      contended.as_reached.legs;
  calls = only_at 6 1 (seen_reported 1 Turning Unset 1 0 ∷ []);
  down = down_at 6 ((2, 1) ∷ (3, 1) ∷ (4, 1) ∷ []);
  mail = mail_on 7 ((2, (1, 0)) ∷ (5, (1, 0)) ∷ (6, (1, 1)) ∷ []);
}

reaches : ReachesRow network events as_reached Back (lsp 3 1 2) (node 3) (node 5)
unfolding labels.numbers_from
reaches = record { enabled = refl; reached = refl; in_row = row.TornStandby row.Falls row.ContentionAnswer }
