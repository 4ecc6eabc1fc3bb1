-- A run after which a call turns as soon as its backup is reserved: its working route is hit.
use Rattle.std.proofs.Common.{List, [], ◌∷◌, ◌++◌, refl}
use Rattle.ason_base.specs.Labels as labels
use Rattle.mesh_rules.specs.declared.events.MeshEvent.{MeshEvent}
use Rattle.mesh_examples.proofs.Activating as activating
use Rattle.mesh_examples.proofs.{Activating.network, Scene.{learns_links, Reaches, Seen}}

abbrev events : List MeshEvent
events =
    learns_links 1 (4 ∷ 5 ∷ 6 ∷ 7 ∷ [])
    ++ learns_links 2 (2 ∷ 3 ∷ 6 ∷ 7 ∷ [])
    ++ learns_links 3 (3 ∷ 5 ∷ 7 ∷ [])
    ++ learns_links 5 (1 ∷ 3 ∷ 5 ∷ 6 ∷ [])
    ++ learns_links 6 (1 ∷ 2 ∷ 4 ∷ [])
    ++ learns_links 3 (1 ∷ 2 ∷ 4 ∷ [])
    ++ activating.since_setup

abbrev as_reached : Seen
as_reached = record activating.as_reached {
  known = 7 ∷ 7 ∷ 7 ∷ 0 ∷ 7 ∷ 7 ∷ [];
}

reaches : Reaches network events as_reached
unfolding labels.numbers_from
reaches = record { enabled = refl; reached = refl }
