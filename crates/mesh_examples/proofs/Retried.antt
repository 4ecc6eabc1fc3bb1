-- A run after which a call that was stuck turns by an order. The refusal of its backup's activation came back to
-- node 3, where no other backup uses a label of it, so the order sends the activation out once more.
use Rattle.std.proofs.Common.{◌≡◌, ℕ, true, List, [], ◌∷◌, ◌++◌, refl}
use Rattle.std.specs.Prelude.{Some, None}
use Rattle.ason_base.specs.{Codes.busy_code, declared.calls.CallState.CallState, declared.calls.CallState.TheVariants.{Stuck, Turning}, declared.calls.Cause.Cause, declared.calls.Cause.TheVariants.{Code, Unset}, declared.calls.Phase.Phase, declared.calls.Phase.TheVariants.{Armed, Held, Live}}
use Rattle.ason_base.specs.Labels as labels
use Rattle.mesh_rules.specs.{declared.events.MeshEvent.MeshEvent, Events.after, Machine.start}
use Rattle.mesh_examples.proofs.Contended as contended
use Rattle.mesh_examples.proofs.{Scene.{all_enabled, changed_at, desk, down_at, leg, mail_on, seen_reported, retry_call, Seen, seen_of, takes_from}, SharedLabel.network}

-- node 3 takes the refusal, and the alarm of link 2 on its desk
abbrev until_stuck : List MeshEvent
until_stuck = contended.events ++ takes_from 3 5 ∷ desk 3 ∷ []

abbrev events : List MeshEvent
events = until_stuck ++ retry_call 2 3 ∷ desk 3 ∷ []

-- the leg of the second backup at node 3 is in this phase, its call in this state, and so many messages are from there
-- to node 5
abbrev with_second : Phase → CallState → Cause → ℕ → Seen
with_second phase state cause sent = record contended.as_reached {
  legs =
      changed_at 3 (leg 3 1 Live None (Some 1) 0 1 0 ∷ leg 3 2 phase None (Some 1) 0 2 2 ∷ [])
      contended.as_reached.legs;
  calls = changed_at 3 (seen_reported 2 state cause 1 0 ∷ []) contended.as_reached.calls;
  down = down_at 6 ((2, 1) ∷ (3, 1) ∷ (4, 1) ∷ []);
  mail = mail_on 7 ((5, (1, 0)) ∷ (6, (sent, 0)) ∷ []);
}

enabled : all_enabled network start events ≡ true
unfolding labels.numbers_from
enabled = refl

stuck_before : seen_of network (after network start until_stuck) ≡ with_second Held Stuck (Code busy_code) 0
unfolding labels.numbers_from
stuck_before = refl

reached : seen_of network (after network start events) ≡ with_second Armed Turning Unset 1
unfolding labels.numbers_from
reached = refl
