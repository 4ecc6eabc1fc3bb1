-- A run after which a guarded call has turned, since its working link failed. Other runs go on from here.
use Rattle.std.proofs.Common.{List, [], ◌∷◌, ◌++◌, refl}
use Rattle.std.specs.Prelude.{Some, None}
use Rattle.ason_base.specs.Labels as labels
use Rattle.ason_base.specs.{declared.calls.CallState.TheVariants.Turned, declared.calls.Cause.TheVariants.Unset, declared.calls.Phase.TheVariants.{Held, Live}}
use Rattle.mesh_rules.specs.declared.events.MeshEvent.{MeshEvent}
use Rattle.mesh_examples.proofs.GuardedCall as guarded_call
use Rattle.mesh_examples.proofs.{GuardedCall.network, Scene.{only_at, by_node_3, changed_at, desk, down_at, fails_link, leg, mail_on, Reaches, repairs_link, seen_reported, Seen, takes_from, takes_each}}

abbrev pub cut : List MeshEvent
cut =
    fails_link 1
    ∷ desk 2
    ∷ takes_each ((1, 2) ∷ (3, 1) ∷ (2, 3) ∷ (3, 2) ∷ (1, 3) ∷ [])
    ++ desk 1
    ∷ []

abbrev pub events : List MeshEvent
events = guarded_call.events ++ cut

abbrev pub as_reached : Seen
as_reached = record guarded_call.as_reached {
  legs = by_node_3 1 Live;
  calls = only_at 3 1 (seen_reported 1 Turned Unset 1 0 ∷ []);
  down = down_at 3 ((1, 1) ∷ (2, 1) ∷ []);
}

-- the working link is repaired, and node 1 is told
abbrev pub repaired : List MeshEvent
repaired = events ++ repairs_link 1 ∷ desk 2 ∷ desk 1 ∷ takes_from 1 2 ∷ []

-- what is seen when the call has gone back then: the Path that takes the activation back is on its way to node 3
abbrev pub as_gone_back : Seen
as_gone_back = record as_reached {
  legs = changed_at 1 (leg 1 1 Live None (Some 1) 0 1 0 ∷ leg 1 2 Held None (Some 1) 0 1 1 ∷ []) as_reached.legs;
  calls = guarded_call.as_reached.calls;
  down = down_at 3 [];
  mail = mail_on 3 ((2, (1, 0)) ∷ []);
}

pub reaches : Reaches network events as_reached
unfolding labels.numbers_from
reaches = record { enabled = refl; reached = refl }
