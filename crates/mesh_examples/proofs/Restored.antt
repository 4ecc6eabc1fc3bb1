-- A run after which a call whose working LSP is hit is carried by its backup, and nothing is under way.
use Rattle.std.proofs.Common.{true, false, List, [], ◌∷◌, ◌++◌, refl}
use Rattle.ason_base.specs.Labels as labels
use Rattle.ason_base.specs.{Network.Network, declared.calls.Phase.TheVariants.Live, declared.commands.Group.TheVariants.Link}
use Rattle.mesh_rules.specs.declared.events.MeshEvent.{MeshEvent}
use Rattle.mesh_examples.proofs.{Ends.{Restores, restores}, Scene.{by_node_3, desk, fails_link, learns_links, link, Reaches, Seen, takes_each, triangle}}
use Rattle.mesh_examples.proofs.GuardedCall as guarded_call
use Rattle.mesh_examples.proofs.TurnedCall as turned_call

abbrev network : Network
network = triangle true false 2

abbrev events : List MeshEvent
events =
    learns_links 1 (3 ∷ [])
    ++ learns_links 2 (2 ∷ [])
    ++ guarded_call.events
    ++ fails_link 1
    ∷ desk 1
    ∷ desk 2
    ∷ takes_each ((1, 2) ∷ (3, 1) ∷ (2, 3) ∷ (3, 2) ∷ (1, 3) ∷ [])

abbrev as_reached : Seen
as_reached = record turned_call.as_reached {
  legs = by_node_3 2 Live;
  known = 3 ∷ 3 ∷ 3 ∷ [];
}

reaches : Reaches network events as_reached
unfolding labels.numbers_from
reaches = record { enabled = refl; reached = refl }

restored : Restores network events (Link (link 1)) 1
unfolding labels.numbers_from
restored = restores network events (Link (link 1)) 1 (assumption (tt, refl)) refl
