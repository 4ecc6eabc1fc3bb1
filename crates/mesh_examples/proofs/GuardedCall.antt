-- A run after which a protected call in a triangle is guarded: its working LSP goes over link 1, its backup by node 3.
-- Other runs go on from here.
use Rattle.std.proofs.Common.{true, List, [], ◌∷◌, ◌++◌, refl}
use Rattle.ason_base.specs.Labels as labels
use Rattle.ason_base.specs.{Network.Network, declared.calls.CallState.TheVariants.Guarded, declared.calls.Cause.TheVariants.Unset, declared.calls.Phase.TheVariants.Held}
use Rattle.mesh_rules.specs.declared.events.MeshEvent.{MeshEvent}
use Rattle.mesh_examples.proofs.Scene.{only_at, by_node_3, seen_unreported, desk, down_at, fails_link, learns_links, step_over, Reaches, repairs_link, seen_reported, Seen, sets_up, still, takes_each, triangle}

abbrev pub network : Network
network = triangle true true 1

-- the working LSP stands, and node 3 has passed the Path of the backup on
abbrev pub until_passed : List MeshEvent
until_passed =
    learns_links 3 (1 ∷ [])
    ++ sets_up 1 1 2 (step_over 1 1 ∷ []) (step_over 1 2 ∷ step_over 3 3 ∷ [])
    ∷ desk 1
    ∷ takes_each ((2, 1) ∷ (1, 2) ∷ (3, 1) ∷ [])

abbrev pub events : List MeshEvent
events = until_passed ++ takes_each ((2, 3) ∷ (3, 2) ∷ (1, 3) ∷ [])

abbrev pub as_reached : Seen
as_reached = record (still 3 3) {
  legs = by_node_3 1 Held;
  calls = only_at 3 1 (seen_unreported 1 Guarded Unset ∷ []);
  known = 2 ∷ 2 ∷ 3 ∷ [];
}

-- links 2 and 3 fail, node 1 is told of both, and link 3 is repaired
abbrev pub one_of_two_repaired : List MeshEvent
one_of_two_repaired =
    fails_link 2 ∷ fails_link 3 ∷ desk 3 ∷ desk 2 ∷ takes_each ((1, 3) ∷ (3, 2) ∷ (1, 3) ∷ [])
    ++ repairs_link 3 ∷ desk 2 ∷ takes_each ((3, 2) ∷ (1, 3) ∷ [])

-- what is seen where the backup's fibre into node 3 alone is reported
abbrev pub as_reported : Seen
as_reported = record as_reached {
  calls = only_at 3 1 (seen_reported 1 Guarded Unset 0 1 ∷ []);
  down = down_at 3 ((3, 1) ∷ []);
}

reaches : Reaches network events as_reached
unfolding labels.numbers_from
reaches = record { enabled = refl; reached = refl }
