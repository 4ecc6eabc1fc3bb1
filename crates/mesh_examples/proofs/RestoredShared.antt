-- A run in which of two guarded calls whose backups share a label the one is hit: it is carried by its backup, and the
-- other one stays as it is.
use Rattle.std.proofs.Common.{◌≡◌, true, List, [], ◌∷◌, ◌++◌, map, refl}
use Rattle.std.specs.Prelude.{Some, None}
use Rattle.ason_base.specs.Labels as labels
use Rattle.ason_base.specs.{declared.calls.CallState.TheVariants.{Guarded, Turned}, declared.calls.Cause.TheVariants.Unset, declared.calls.Phase.TheVariants.{Held, Live}, declared.commands.Group.TheVariants.Link}
use Rattle.mesh_rules.specs.{declared.events.MeshEvent.MeshEvent, Events.after, Machine.start}
use Rattle.mesh_laws.specs.RestorationLaw.{is_guarded}
use Rattle.mesh_examples.proofs.{Ends.{Restores, restores}, Scene.{only_among, seen_unreported, desk, down_at, fails_link, leg, link, Reaches, seen_reported, Seen, takes_each, with_new_at}, SharedLabel.network}
use Rattle.mesh_examples.proofs.SharedLabel as shared

abbrev events : List MeshEvent
events =
    shared.events
    ++ fails_link 1
    ∷ desk 1
    ∷ desk 2
    ∷ takes_each ((1, 2) ∷ (5, 1) ∷ (6, 5) ∷ (2, 6) ∷ (6, 2) ∷ (5, 6) ∷ (1, 5) ∷ [])

abbrev as_reached : Seen
as_reached = record shared.as_reached {
  legs = with_new_at (
      (1, leg 1 1 Live None (Some 1) 0 1 0 ∷ leg 1 2 Live None (Some 1) 0 2 2 ∷ [])
      ∷ (2, leg 1 1 Live (Some 1) None 1 0 0 ∷ leg 1 2 Live (Some 1) None 1 0 0 ∷ [])
      ∷ (5, leg 1 2 Live (Some 1) (Some 1) 2 1 1 ∷ leg 3 2 Held (Some 1) (Some 1) 2 1 1 ∷ [])
      ∷ (6, leg 1 2 Live (Some 1) (Some 1) 1 1 0 ∷ leg 3 2 Held (Some 1) (Some 1) 1 1 0 ∷ [])
      ∷ []) shared.as_reached.legs;
  calls = only_among 6 (
      (1, seen_reported 1 Turned Unset 1 0 ∷ [])
      ∷ (3, seen_unreported 2 Guarded Unset ∷ [])
      ∷ []);
  down = down_at 6 ((1, 1) ∷ (2, 1) ∷ []);
}

reaches : Reaches network events as_reached
unfolding labels.numbers_from
reaches = record { enabled = refl; reached = refl }

restored : Restores network events (Link (link 1)) 1
unfolding labels.numbers_from
restored = restores network events (Link (link 1)) 1 (assumption (tt, refl)) refl

-- the other call is guarded too
other_guarded : map (is_guarded ((after network start events).nodes 3)) ((after network start events).nodes 3).calls
    ≡ true ∷ []
unfolding labels.numbers_from
other_guarded = refl
