-- Node 6 doesn't know a link of a backup's primary, so it refuses the Path, and the call is bare. An order to protect a
-- call whose backup is asked for changes nothing.
use Rattle.std.proofs.Common.{List, [], ◌∷◌, ◌++◌, refl}
use Rattle.ason_base.specs.{Codes.primary_code, declared.calls.CallState.TheVariants.Bare, declared.calls.Cause.TheVariants.Code}
use Rattle.ason_base.specs.Labels as labels
use Rattle.mesh_rules.specs.declared.events.MeshEvent.{MeshEvent}
use Rattle.mesh_examples.proofs.SharedLabel as shared_label
use Rattle.mesh_examples.proofs.TakenLabel as taken_label
use Rattle.mesh_examples.proofs.{SharedLabel.network, Scene.{seen_unreported, changed_at, desk, learns_links, protect_call, Reaches, Seen, takes_each}}

abbrev events : List MeshEvent
events =
    learns_links 5 (1 ∷ [])
    ++ learns_links 6 (1 ∷ [])
    ++ learns_links 5 (2 ∷ [])
    ++ shared_label.first_call
    ∷ desk 1
    ∷ takes_each ((2, 1) ∷ (1, 2) ∷ [])
    ++ shared_label.second_call
    ∷ desk 3
    ∷ takes_each ((4, 3) ∷ (5, 1) ∷ (3, 4) ∷ (6, 5) ∷ (2, 6) ∷ [])
    ++ protect_call 2 3
    ∷ takes_each ((6, 2) ∷ (5, 6) ∷ [])
    ++ desk 3
    ∷ takes_each ((5, 3) ∷ (6, 5) ∷ (1, 5) ∷ (5, 6) ∷ (3, 5) ∷ [])

abbrev as_reached : Seen
as_reached = record taken_label.as_reached {
  calls = changed_at 3 (seen_unreported 2 Bare (Code primary_code) ∷ []) taken_label.as_reached.calls;
  known = 2 ∷ 2 ∷ 2 ∷ 2 ∷ 5 ∷ 4 ∷ [];
}

reaches : Reaches network events as_reached
unfolding labels.numbers_from
reaches = record { enabled = refl; reached = refl }
