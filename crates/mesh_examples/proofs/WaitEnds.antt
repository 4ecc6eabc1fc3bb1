-- A run after which the wait of a turned call ends, since its working route is hit again.
use Rattle.std.proofs.Common.{true, false, List, [], ◌∷◌, ◌++◌, refl}
use Rattle.std.specs.Prelude.{Some, None}
use Rattle.ason_base.specs.{Codes.{down_code, set_code}, Network.Network, declared.calls.CallState.TheVariants.{Blocked, Turned}, declared.calls.Cause.TheVariants.{Code, Unset}, declared.calls.Phase.TheVariants.Live}
use Rattle.ason_base.specs.Labels as labels
use Rattle.mesh_rules.specs.declared.events.MeshEvent.{MeshEvent}
use Rattle.mesh_examples.proofs.Scene.{only_among, seen_unreported, desk, down_at, fails_link, fails_srlg, link_spec, learns_links, leg, step_over, protect_call, Reaches, release_call, repairs_link, repairs_srlg, seen_reported, retry_call, revert_call, Seen, sets_up, spec, still, takes_from, takes_each, ticks_at}

abbrev network : Network
network = record {
  wait = 2;
  nodes = spec 1 true ∷ spec 2 false ∷ spec 3 false ∷ spec 4 false ∷ spec 5 false ∷ spec 6 false ∷ [];
  links =
      link_spec 1 1 3 2 [] ∷ link_spec 2 1 5 3 (1 ∷ 2 ∷ []) ∷ link_spec 3 3 4 2 [] ∷ link_spec 4 3 5 1 (1 ∷ [])
      ∷ link_spec 5 3 6 1 [] ∷ link_spec 6 4 5 3 (2 ∷ []) ∷ link_spec 7 4 6 1 [] ∷ link_spec 8 5 6 2 [] ∷ [];
}

abbrev events : List MeshEvent
events =
    learns_links 1 (3 ∷ 4 ∷ 5 ∷ 6 ∷ 8 ∷ [])
    ++ learns_links 3 (2 ∷ 6 ∷ 7 ∷ 8 ∷ [])
    ++ learns_links 4 (1 ∷ 2 ∷ 4 ∷ 5 ∷ 8 ∷ [])
    ++ learns_links 5 (1 ∷ 3 ∷ 5 ∷ 7 ∷ [])
    ++ learns_links 6 (1 ∷ 2 ∷ 3 ∷ 4 ∷ 6 ∷ [])
    ++ learns_links 1 (7 ∷ [])
    ++ fails_srlg 2
    ∷ desk 1
    ∷ desk 5
    ∷ desk 4
    ∷ desk 5
    ∷ sets_up 1 4 5 (step_over 4 6 ∷ []) (step_over 4 3 ∷ step_over 3 5 ∷ step_over 6 8 ∷ [])
    ∷ desk 4
    ∷ takes_each ((5, 4) ∷ (4, 5) ∷ [])
    ++ ticks_at 4
    ∷ sets_up 2 4 3 (step_over 4 7 ∷ step_over 6 5 ∷ []) (step_over 4 3 ∷ [])
    ∷ desk 4
    ∷ takes_each ((6, 4) ∷ (3, 6) ∷ (6, 3) ∷ (4, 6) ∷ (3, 4) ∷ (4, 3) ∷ [])
    ++ retry_call 1 4
    ∷ desk 4
    ∷ fails_link 7
    ∷ desk 6
    ∷ takes_from 4 6
    ∷ repairs_link 7
    ∷ desk 4
    ∷ desk 6
    ∷ takes_each ((3, 4) ∷ (4, 3) ∷ [])
    ++ desk 4
    ∷ takes_from 4 6
    ∷ revert_call 1 4
    ∷ sets_up 3 1 5 (step_over 1 2 ∷ []) (step_over 1 1 ∷ step_over 3 3 ∷ step_over 4 7 ∷ step_over 6 8 ∷ [])
    ∷ protect_call 3 1
    ∷ desk 4
    ∷ desk 1
    ∷ takes_each ((5, 1) ∷ (1, 5) ∷ [])
    ++ desk 1
    ∷ release_call 3 1
    ∷ sets_up 4 4 3 (step_over 4 7 ∷ step_over 6 5 ∷ []) (step_over 4 3 ∷ [])
    ∷ desk 1
    ∷ desk 4
    ∷ takes_each ((6, 4) ∷ (4, 6) ∷ [])
    ++ repairs_srlg 2
    ∷ fails_srlg 1
    ∷ desk 4
    ∷ desk 3
    ∷ desk 5
    ∷ desk 1
    ∷ desk 1
    ∷ desk 5
    ∷ desk 5
    ∷ desk 5
    ∷ revert_call 1 4
    ∷ desk 4
    ∷ protect_call 1 4
    ∷ desk 4
    ∷ repairs_srlg 1
    ∷ desk 3
    ∷ ticks_at 4
    ∷ desk 1
    ∷ revert_call 1 4
    ∷ desk 5
    ∷ fails_link 5
    ∷ desk 4
    ∷ desk 6
    ∷ desk 3
    ∷ takes_each ((6, 3) ∷ (4, 6) ∷ [])

abbrev as_reached : Seen
as_reached = record (still 6 8) {
  legs = only_among 6 (
      (3, leg 4 2 Live (Some 1) None 1 0 0 ∷ leg 4 3 Live (Some 1) None 2 0 0 ∷ [])
      ∷ (4, leg 4 2 Live None (Some 1) 0 1 1 ∷ leg 4 3 Live None (Some 1) 0 2 0 ∷ [])
      ∷ (6, leg 4 2 Live (Some 1) (Some 1) 1 1 0 ∷ [])
      ∷ []);
  calls = only_among 6 ((
    4,
    seen_unreported 1 Blocked (Code down_code) ∷ seen_reported 2 Turned Unset 1 0 ∷ seen_unreported 4 Blocked
        (Code set_code) ∷ [],
  )
      ∷ []);
  known = 8 ∷ 0 ∷ 8 ∷ 8 ∷ 8 ∷ 8 ∷ [];
  down = down_at 6 ((3, 1) ∷ (5, 1) ∷ (6, 1) ∷ []);
}

reaches : Reaches network events as_reached
unfolding labels.numbers_from
reaches = record { enabled = refl; reached = refl }
