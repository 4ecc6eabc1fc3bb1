-- A run in which an SRLG fails: both links that it has are cut, of which the working LSP's is one, and the call is carried
-- by its backup.
use Rattle.std.proofs.Common.{true, false, List, [], ◌∷◌, ◌++◌, refl}
use Rattle.ason_base.specs.Labels as labels
use Rattle.ason_base.specs.{Network.Network, declared.calls.CallState.TheVariants.Turned, declared.calls.Cause.TheVariants.Unset, declared.calls.Phase.TheVariants.Live, declared.commands.Group.TheVariants.Srlg}
use Rattle.mesh_rules.specs.declared.events.MeshEvent.{MeshEvent}
use Rattle.mesh_examples.proofs.{Ends.{Restores, restores}, Scene.{only_at as alone_at, by_node_3, desk, down_at, fails_srlg, link_spec, learns_links, Reaches, seen_reported, Seen, spec, still, takes_each}}
use Rattle.mesh_examples.proofs.GuardedCall as guarded_call

-- a triangle with a fourth link, beside link 1 and in one duct with it
abbrev network : Network
network = record {
  wait = 0;
  nodes = spec 1 true ∷ spec 2 false ∷ spec 3 false ∷ [];
  links = link_spec 1 1 2 2 (7 ∷ []) ∷ link_spec 2 1 3 2 [] ∷ link_spec 3 2 3 2 [] ∷ link_spec 4 1 2 2 (7 ∷ []) ∷ [];
}

abbrev events : List MeshEvent
events =
    learns_links 1 (3 ∷ [])
    ++ learns_links 2 (2 ∷ [])
    ++ guarded_call.events
    ++ fails_srlg 7
    ∷ desk 1
    ∷ desk 1
    ∷ desk 2
    ∷ desk 2
    ∷ takes_each ((1, 2) ∷ (3, 1) ∷ (2, 3) ∷ (3, 2) ∷ (1, 3) ∷ [])

abbrev as_reached : Seen
as_reached = record (still 3 4) {
  legs = by_node_3 2 Live;
  calls = alone_at 3 1 (seen_reported 1 Turned Unset 1 0 ∷ []);
  known = 4 ∷ 4 ∷ 3 ∷ [];
  down = down_at 3 ((1, 2) ∷ (2, 2) ∷ []);
}

reaches : Reaches network events as_reached
unfolding labels.numbers_from
reaches = record { enabled = refl; reached = refl }

restored : Restores network events (Srlg 7) 1
unfolding labels.numbers_from
restored = restores network events (Srlg 7) 1 (assumption (tt, refl)) refl
