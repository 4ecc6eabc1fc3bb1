-- A run after which a call is stuck as soon as its backup is reserved: both its routes are hit.
use Rattle.std.proofs.Common.{List, [], ◌∷◌, ◌++◌, refl}
use Rattle.ason_base.specs.Labels as labels
use Rattle.ason_base.specs.{declared.calls.CallState.TheVariants.Stuck, declared.calls.Cause.TheVariants.BackDown}
use Rattle.mesh_rules.specs.declared.events.MeshEvent.{MeshEvent}
use Rattle.mesh_examples.proofs.GuardedCall as guarded_call
use Rattle.mesh_examples.proofs.{GuardedCall.network, Scene.{only_at, desk, down_at, fails_link, Reaches, seen_reported, Seen, takes_each}}

-- node 3 tells of its fibre before it sends the Resv
abbrev events : List MeshEvent
events =
    guarded_call.until_passed
    ++ fails_link 1
    ∷ fails_link 2
    ∷ desk 2
    ∷ desk 3
    ∷ takes_each ((1, 2) ∷ (2, 3) ∷ (3, 2) ∷ (1, 3) ∷ (1, 3) ∷ [])

abbrev as_reached : Seen
as_reached = record guarded_call.as_reached {
  calls = only_at 3 1 (seen_reported 1 Stuck BackDown 1 1 ∷ []);
  down = down_at 3 ((2, 1) ∷ (3, 1) ∷ []);
}

reaches : Reaches network events as_reached
unfolding labels.numbers_from
reaches = record { enabled = refl; reached = refl }
