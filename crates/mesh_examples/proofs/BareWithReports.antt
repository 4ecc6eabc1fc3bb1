-- A run after which a backup is refused while a fibre of its route is reported.
use Rattle.std.proofs.Common.{true, false, List, [], ◌∷◌, ◌++◌, refl}
use Rattle.std.specs.Prelude.{replicate, Some, None}
use Rattle.ason_base.specs.{Codes.set_code, Network.Network, declared.calls.CallState.TheVariants.{Bare, Turning}, declared.calls.Cause.TheVariants.{Code, Unset}, declared.calls.Phase.TheVariants.{Armed, Held, Live}}
use Rattle.ason_base.specs.Labels as labels
use Rattle.mesh_rules.specs.declared.events.MeshEvent.{MeshEvent}
use Rattle.mesh_examples.proofs.Scene.{only_at, seen_unreported, desk, down_at, fails_link, link_spec, learns_links, leg, mail_on, step_over, Reaches, seen_reported, Seen, sets_up, spec, still, takes_from, takes_each}

abbrev network : Network
network = record {
  wait = 2;
  nodes = spec 1 true ∷ spec 2 false ∷ spec 3 false ∷ spec 4 true ∷ spec 5 false ∷ spec 6 false ∷ [];
  links =
      link_spec 1 1 2 2 (1 ∷ 2 ∷ []) ∷ link_spec 2 1 3 3 [] ∷ link_spec 3 1 4 3 [] ∷ link_spec 4 1 5 3 (1 ∷ 2 ∷ [])
      ∷ link_spec 5 3 5 3 (1 ∷ 2 ∷ []) ∷ link_spec 6 4 5 1 [] ∷ link_spec 7 4 6 2 [] ∷ [];
}

abbrev events : List MeshEvent
events =
    learns_links 1 (5 ∷ 6 ∷ 7 ∷ [])
    ++ learns_links 2 (2 ∷ 3 ∷ 4 ∷ 5 ∷ 6 ∷ 7 ∷ [])
    ++ learns_links 3 (1 ∷ 3 ∷ 4 ∷ 6 ∷ 7 ∷ [])
    ++ learns_links 4 (1 ∷ 2 ∷ 4 ∷ 5 ∷ [])
    ++ learns_links 5 (1 ∷ 2 ∷ 3 ∷ 7 ∷ [])
    ++ learns_links 6 (1 ∷ 2 ∷ 3 ∷ 4 ∷ 5 ∷ 6 ∷ [])
    ++ fails_link 4
    ∷ desk 5
    ∷ desk 1
    ∷ sets_up 1 1 3 (step_over 1 2 ∷ []) (step_over 1 3 ∷ step_over 4 6 ∷ step_over 5 5 ∷ [])
    ∷ desk 1
    ∷ sets_up 2 1 4 (step_over 1 3 ∷ []) (step_over 1 2 ∷ step_over 3 5 ∷ step_over 5 6 ∷ [])
    ∷ desk 1
    ∷ takes_each ((4, 1) ∷ (3, 1) ∷ (1, 3) ∷ (4, 1) ∷ (1, 4) ∷ (5, 4) ∷ (3, 1) ∷ [])
    ++ fails_link 2
    ∷ takes_from 5 3
    ∷ desk 3
    ∷ desk 1
    ∷ takes_each ((4, 5) ∷ (3, 5) ∷ (1, 3) ∷ (5, 4) ∷ (1, 3) ∷ (5, 3) ∷ (4, 5) ∷ (3, 5) ∷ (1, 4) ∷ (1, 3) ∷ [])

abbrev as_reached : Seen
as_reached = record (still 6 7) {
  legs =
      (leg 1 1 Live None (Some 1) 0 3 0
      ∷ leg 1 3 Armed None (Some 2) 0 3 2
      ∷ leg 1 2 Live None (Some 1) 0 3 0 ∷ [])
      ∷ []
      ∷ (leg 1 1 Live (Some 1) None 3 0 0 ∷ leg 1 3 Held (Some 1) None 1 0 0 ∷ [])
      ∷ (leg 1 3 Held (Some 2) (Some 1) 2 1 1 ∷ leg 1 2 Live (Some 1) None 3 0 0 ∷ [])
      ∷ (leg 1 3 Held (Some 1) (Some 1) 1 1 0 ∷ [])
      ∷ []
      ∷ [];
  calls = only_at 6 1 (seen_reported 1 Turning Unset 1 0 ∷ seen_unreported 2 Bare (Code set_code) ∷ []);
  known = replicate 6 7;
  down = down_at 6 ((1, 2) ∷ (3, 1) ∷ (5, 1) ∷ []);
  mail = mail_on 7 ((3, (1, 0)) ∷ []);
}

reaches : Reaches network events as_reached
unfolding labels.numbers_from
reaches = record { enabled = refl; reached = refl }
