-- Two calls whose backups meet on link 5, which has one label, and whose primaries have an SRLG in common. When the
-- Resv of the second one comes the label is taken, and its call is bare.
use Rattle.std.proofs.Common.{List, [], ◌∷◌, ◌++◌, refl}
use Rattle.ason_base.specs.{Codes.label_code, Network.Network, declared.calls.Cause.TheVariants.Code}
use Rattle.ason_base.specs.Labels as labels
use Rattle.mesh_rules.specs.declared.events.MeshEvent.{MeshEvent}
use Rattle.mesh_examples.proofs.Scene.{desk, Reaches, Seen, takes_each}
use Rattle.mesh_examples.proofs.SharedLabel as shared_label

abbrev pub network : Network
network = shared_label.network_of 0 1

abbrev pub events : List MeshEvent
events =
    shared_label.both_learn
    ++ shared_label.first_call
    ∷ desk 1
    ∷ takes_each ((2, 1) ∷ (1, 2) ∷ [])
    ++ shared_label.second_call
    ∷ desk 3
    ∷ takes_each ((4, 3) ∷ (5, 1) ∷ (3, 4) ∷ (5, 3) ∷ (6, 5) ∷ (6, 5) ∷ (2, 6) ∷ (6, 2) ∷ (4, 6) ∷ (6, 4)
    ∷ (5, 6) ∷ (1, 5) ∷ (4, 6) ∷ (6, 4) ∷ (5, 6) ∷ (3, 5) ∷ [])

abbrev pub as_reached : Seen
as_reached = shared_label.one_bare 2 3 1 (Code label_code)

reaches : Reaches network events as_reached
unfolding labels.numbers_from
reaches = record { enabled = refl; reached = refl }
