-- A run after which a backup is activated: the Path that activates it is on its way to the second node.
use Rattle.std.proofs.Common.{ℕ, true, false, List, [], ◌∷◌, ◌++◌, refl}
use Rattle.std.specs.Prelude.{Some, None}
use Rattle.ason_base.specs.Labels as labels
use Rattle.ason_base.specs.{Network.Network, declared.calls.CallState.TheVariants.Turning, declared.calls.Cause.TheVariants.Unset, declared.calls.Phase.Phase, declared.calls.Phase.TheVariants.{Armed, Closing, Held, Live}, declared.calls.Role.TheVariants.Back}
use Rattle.mesh_rules.specs.declared.events.MeshEvent.{MeshEvent}
use Rattle.lsp_laws.specs.HopShapes as row
use Rattle.mesh_examples.proofs.Scene.{only_at, only_among, changed_at, desk, down_at, fails_link, link_spec, learns_links, leg, lsp, mail_on, node, step_over, ReachesRow, seen_reported, Seen, sets_up, spec, still, takes_each}

abbrev pub network : Network
network = record {
  wait = 0;
  nodes = spec 1 true ∷ spec 2 false ∷ spec 3 false ∷ spec 4 false ∷ spec 5 false ∷ spec 6 false ∷ [];
  links =
      link_spec 1 1 2 2 (2 ∷ []) ∷ link_spec 2 1 5 3 [] ∷ link_spec 3 1 6 1 (2 ∷ []) ∷ link_spec 4 2 5 1 [] ∷ link_spec
      5 2 6 1 (1
      ∷ []) ∷ link_spec 6 3 6 2 (2 ∷ []) ∷ link_spec 7 5 6 1 [] ∷ [];
}

-- the call is guarded, and its working route is hit
abbrev pub since_setup : List MeshEvent
since_setup =
    sets_up 1 1 2 (step_over 1 3 ∷ step_over 6 5 ∷ []) (step_over 1 2 ∷ step_over 5 4 ∷ [])
    ∷ desk 1
    ∷ takes_each ((6, 1) ∷ (2, 6) ∷ (6, 2) ∷ (1, 6) ∷ (5, 1) ∷ (2, 5) ∷ (5, 2) ∷ [])
    ++ fails_link 3
    ∷ desk 6
    ∷ takes_each ((1, 6) ∷ (1, 5) ∷ [])

abbrev pub events : List MeshEvent
events =
    learns_links 1 (5 ∷ [])
    ++ learns_links 2 (3 ∷ [])
    ++ learns_links 5 (3 ∷ 5 ∷ [])
    ++ since_setup

abbrev pub as_reached : Seen
as_reached = record (still 6 7) {
  legs = only_among 6 (
      (1, leg 1 1 Live None (Some 1) 0 1 1 ∷ leg 1 2 Armed None (Some 1) 0 3 1 ∷ [])
      ∷ (2, leg 1 1 Live (Some 1) None 1 0 0 ∷ leg 1 2 Held (Some 1) None 1 0 0 ∷ [])
      ∷ (5, leg 1 2 Held (Some 1) (Some 1) 3 3 0 ∷ [])
      ∷ (6, leg 1 1 Live (Some 1) (Some 1) 1 1 0 ∷ [])
      ∷ []);
  calls = only_at 6 1 (seen_reported 1 Turning Unset 1 0 ∷ []);
  known = 4 ∷ 4 ∷ 1 ∷ 0 ∷ 5 ∷ 4 ∷ [];
  down = down_at 6 ((6, 1) ∷ []);
  mail = mail_on 7 ((2, (1, 0)) ∷ []);
}

-- what is seen after a release at node 1: the leg of the backup there is in this phase, and so many messages are on
-- link 2
abbrev pub released : Seen → Phase → ℕ → Seen
released before phase sent = record before {
  legs = changed_at 1 (leg 1 1 Closing None (Some 1) 0 1 1 ∷ leg 1 2 phase None (Some 1) 0 3 1 ∷ []) before.legs;
  calls = only_among 6 [];
  mail = mail_on 7 ((2, (sent, 0)) ∷ (3, (1, 0)) ∷ []);
}

reaches : ReachesRow network events as_reached Back (lsp 1 1 2) (node 1) (node 5)
unfolding labels.numbers_from
reaches = record { enabled = refl; reached = refl; in_row = row.Activating }
