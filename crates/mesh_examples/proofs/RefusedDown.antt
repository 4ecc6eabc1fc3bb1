-- A run after which a backup is refused over a fibre that is known to be down.
use Rattle.std.proofs.Common.{List, [], ◌∷◌, ◌++◌, refl}
use Rattle.std.specs.Prelude.{Some, None}
use Rattle.ason_base.specs.{Codes.down_code, declared.calls.CallState.TheVariants.Bare, declared.calls.Cause.TheVariants.Code, declared.calls.Phase.TheVariants.{Closing, Held, Live}}
use Rattle.ason_base.specs.Labels as labels
use Rattle.mesh_rules.specs.declared.events.MeshEvent.{MeshEvent}
use Rattle.mesh_examples.proofs.SharedLabel as shared_label
use Rattle.mesh_examples.proofs.{SharedLabel.network, Scene.{only_at, only_among, desk, down_at, fails_link, leg, mail_on, protect_call, Reaches, release_call, seen_reported, revert_call, Seen, still, takes_from, takes_each, ticks_at}}

abbrev events : List MeshEvent
events =
    shared_label.both_learn
    ++ shared_label.first_call
    ∷ shared_label.second_call
    ∷ desk 3
    ∷ takes_each ((4, 3) ∷ (3, 4) ∷ (5, 3) ∷ [])
    ++ desk 1
    ∷ takes_from 6 5
    ∷ fails_link 5
    ∷ desk 6
    ∷ takes_from 2 1
    ∷ protect_call 2 3
    ∷ takes_from 5 6
    ∷ desk 5
    ∷ takes_each ((4, 6) ∷ (6, 4) ∷ (5, 6) ∷ [])
    ++ fails_link 1
    ∷ desk 3
    ∷ desk 2
    ∷ takes_from 3 5
    ∷ desk 1
    ∷ takes_each ((3, 5) ∷ (1, 2) ∷ (1, 2) ∷ (5, 1) ∷ (6, 5) ∷ (5, 6) ∷ (1, 5) ∷ [])
    ++ ticks_at 3
    ∷ revert_call 2 3
    ∷ desk 3
    ∷ release_call 2 3
    ∷ desk 3
    ∷ takes_each ((4, 3) ∷ (5, 3) ∷ (6, 5) ∷ (3, 4) ∷ [])

abbrev as_reached : Seen
as_reached = record (still 6 7) {
  legs = only_among 6 (
      (1, leg 1 1 Live None (Some 1) 0 1 0 ∷ [])
      ∷ (2, leg 1 1 Live (Some 1) None 1 0 0 ∷ [])
      ∷ (3, leg 3 2 Closing None (Some 1) 0 2 2 ∷ [])
      ∷ (4, leg 3 2 Held (Some 1) None 1 0 0 ∷ [])
      ∷ (5, leg 3 2 Closing None (Some 1) 2 1 1 ∷ [])
      ∷ (6, leg 3 2 Closing None (Some 1) 1 1 0 ∷ [])
      ∷ []);
  calls = only_at 6 1 (seen_reported 1 Bare (Code down_code) 1 0 ∷ []);
  known = 2 ∷ 2 ∷ 2 ∷ 2 ∷ 5 ∷ 5 ∷ [];
  down = down_at 6 ((1, 1) ∷ (2, 1) ∷ (5, 1) ∷ (6, 1) ∷ []);
  mail = mail_on 7 ((5, (0, 1)) ∷ (6, (0, 1)) ∷ (7, (0, 1)) ∷ []);
}

reaches : Reaches network events as_reached
unfolding labels.numbers_from
reaches = record { enabled = refl; reached = refl }
