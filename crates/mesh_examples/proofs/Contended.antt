-- A run after which an activation is refused. Both calls that share the label of link 5 are hit; the first one's backup
-- is activated as far as node 5. Node 5 takes a label of its own for either backup, from link 3 and from link 6, and
-- sends the shared one alone: it refuses the second activation before that comes to node 6, which takes the label.
use Rattle.std.proofs.Common.{List, [], ◌∷◌, ◌++◌, refl}
use Rattle.std.specs.Prelude.{Some, None}
use Rattle.ason_base.specs.Labels as labels
use Rattle.ason_base.specs.{declared.calls.CallState.TheVariants.Turning, declared.calls.Cause.TheVariants.Unset, declared.calls.Phase.TheVariants.{Armed, Held, Live}, declared.calls.Role.TheVariants.Back}
use Rattle.mesh_rules.specs.declared.events.MeshEvent.{MeshEvent}
use Rattle.lsp_laws.specs.HopShapes as row
use Rattle.mesh_examples.proofs.{Scene.{only_among, desk, down_at, fails_link, leg, lsp, mail_on, node, ReachesRow, seen_reported, Seen, takes_each, with_new_at}, SharedLabel.network}
use Rattle.mesh_examples.proofs.SharedLabel as shared

-- node 2 tells node 1 of link 1, and node 4 tells node 3 of link 2
abbrev pub events : List MeshEvent
events =
    shared.events
    ++ fails_link 1
    ∷ desk 2
    ∷ takes_each ((1, 2) ∷ (5, 1) ∷ [])
    ++ fails_link 2
    ∷ desk 4
    ∷ takes_each ((3, 4) ∷ (5, 3) ∷ [])

-- the Path that activates the first backup is on link 5, and the refusal of the second one on link 6
abbrev pub as_reached : Seen
as_reached = record shared.as_reached {
  legs = with_new_at (
      (1, leg 1 1 Live None (Some 1) 0 1 0 ∷ leg 1 2 Armed None (Some 1) 0 2 2 ∷ [])
      ∷ (3, leg 3 1 Live None (Some 1) 0 1 0 ∷ leg 3 2 Armed None (Some 1) 0 2 2 ∷ [])
      ∷ (5, leg 1 2 Armed (Some 1) (Some 1) 2 1 1 ∷ leg 3 2 Held (Some 1) (Some 1) 2 1 1 ∷ [])
      ∷ []) shared.as_reached.legs;
  calls = only_among 6 (
      (1, seen_reported 1 Turning Unset 1 0 ∷ [])
      ∷ (3, seen_reported 2 Turning Unset 1 0 ∷ [])
      ∷ []);
  down = down_at 6 ((2, 1) ∷ (4, 1) ∷ []);
  mail = mail_on 7 ((5, (1, 0)) ∷ (6, (0, 1)) ∷ []);
}

reaches : ReachesRow network events as_reached Back (lsp 3 1 2) (node 3) (node 5)
unfolding labels.numbers_from
reaches = record { enabled = refl; reached = refl; in_row = row.Contended }
