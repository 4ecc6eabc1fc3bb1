-- Two guarded calls whose backups meet on link 5, which has one label. Their primaries have no risk in common, so the
-- backups share the label.
use Rattle.std.proofs.Common.{ℕ, suc, true, false, List, [], ◌∷◌, ◌++◌, refl}
use Rattle.std.specs.Prelude.{Some, None}
use Rattle.ason_base.specs.Labels as labels
use Rattle.ason_base.specs.{Network.Network, declared.calls.CallState.TheVariants.{Bare, Guarded}, declared.calls.Cause.Cause, declared.calls.Cause.TheVariants.Unset, declared.calls.Phase.TheVariants.{Held, Live}}
use Rattle.mesh_rules.specs.declared.events.MeshEvent.{MeshEvent}
use Rattle.mesh_examples.proofs.Scene.{only_among, seen_unreported, changed_at, desk, link_spec, learns_links, leg, step_over, Reaches, Seen, sets_up, spec, still, takes_each, with_new_at}

-- how many ticks the wait has, and the SRLG of link 2
abbrev pub network_of : ℕ → ℕ → Network
network_of wait srlg = record {
  wait = wait;
  nodes = spec 1 false ∷ spec 2 false ∷ spec 3 false ∷ spec 4 false ∷ spec 5 true ∷ spec 6 false ∷ [];
  links = link_spec 1 1 2 1 (1 ∷ []) ∷ link_spec 2 3 4 1 (srlg ∷ []) ∷ link_spec 3 1 5 2 [] ∷ link_spec 4 2 6 2 [] ∷
      link_spec 5 5 6 1 []
      ∷ link_spec 6 3 5 2 [] ∷ link_spec 7 4 6 2 [] ∷ [];
}

abbrev pub network : Network
network = network_of 2 2

-- nodes 5 and 6 learn of the links of both primaries
abbrev pub both_learn : List MeshEvent
both_learn = learns_links 5 (1 ∷ []) ++ learns_links 6 (1 ∷ []) ++ learns_links 5 (2 ∷ []) ++ learns_links 6 (2 ∷ [])

abbrev pub first_call : MeshEvent
first_call = sets_up 1 1 2 (step_over 1 1 ∷ []) (step_over 1 3 ∷ step_over 5 5 ∷ step_over 6 4 ∷ [])

abbrev pub second_call : MeshEvent
second_call = sets_up 2 3 4 (step_over 3 2 ∷ []) (step_over 3 6 ∷ step_over 5 5 ∷ step_over 6 7 ∷ [])

abbrev pub events : List MeshEvent
events =
    both_learn
    ++ first_call
    ∷ desk 1
    ∷ takes_each ((2, 1) ∷ (1, 2) ∷ (5, 1) ∷ [])
    ++ second_call
    ∷ desk 3
    ∷ takes_each ((4, 3) ∷ (6, 5) ∷ (3, 4) ∷ (2, 6) ∷ (5, 3) ∷ (6, 2) ∷ (6, 5) ∷ (4, 6) ∷ (5, 6) ∷ (6, 4)
    ∷ (1, 5) ∷ (5, 6) ∷ (3, 5) ∷ [])

abbrev pub as_reached : Seen
as_reached = record (still 6 7) {
  legs = only_among 6 (
      (1, leg 1 1 Live None (Some 1) 0 1 0 ∷ leg 1 2 Held None (Some 1) 0 2 2 ∷ [])
      ∷ (2, leg 1 1 Live (Some 1) None 1 0 0 ∷ leg 1 2 Held (Some 1) None 1 0 0 ∷ [])
      ∷ (3, leg 3 1 Live None (Some 1) 0 1 0 ∷ leg 3 2 Held None (Some 1) 0 2 2 ∷ [])
      ∷ (4, leg 3 1 Live (Some 1) None 1 0 0 ∷ leg 3 2 Held (Some 1) None 1 0 0 ∷ [])
      ∷ (5, leg 1 2 Held (Some 1) (Some 1) 2 1 1 ∷ leg 3 2 Held (Some 1) (Some 1) 2 1 1 ∷ [])
      ∷ (6, leg 1 2 Held (Some 1) (Some 1) 1 1 0 ∷ leg 3 2 Held (Some 1) (Some 1) 1 1 0 ∷ [])
      ∷ []);
  calls = only_among 6 (
      (1, seen_unreported 1 Guarded Unset ∷ [])
      ∷ (3, seen_unreported 2 Guarded Unset ∷ [])
      ∷ []);
  known = 2 ∷ 2 ∷ 2 ∷ 2 ∷ 5 ∷ 5 ∷ [];
}

-- what is seen where the call of this number, from the first of these nodes, has no backup, for this cause, while the
-- call from the other node has one
abbrev pub one_bare : ℕ → ℕ → ℕ → Cause → Seen
one_bare number from other cause = record as_reached {
  legs = with_new_at (
      (from, leg from 1 Live None (Some 1) 0 1 0 ∷ [])
      ∷ (suc from, leg from 1 Live (Some 1) None 1 0 0 ∷ [])
      ∷ (5, leg other 2 Held (Some 1) (Some 1) 2 1 1 ∷ [])
      ∷ (6, leg other 2 Held (Some 1) (Some 1) 1 1 0 ∷ [])
      ∷ []) as_reached.legs;
  calls = changed_at from (seen_unreported number Bare cause ∷ []) as_reached.calls;
}

reaches : Reaches network events as_reached
unfolding labels.numbers_from
reaches = record { enabled = refl; reached = refl }
