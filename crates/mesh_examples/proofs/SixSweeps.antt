-- A run that takes as many sweeps as a call may need at most: the call has turned after the sixth, and not after the fifth.
use Rattle.std.proofs.Common.{◌≡◌, ℕ, true, false, List, [], ◌∷◌, ◌++◌, ◌+◌, length, map, refl}
use Rattle.ason_base.specs.Labels as labels
use Rattle.ason_base.specs.{Network.Network, declared.calls.CallState.CallState, declared.calls.CallState.TheVariants.{Turned, Turning}, declared.tables.CallRec.CallRec}
use Rattle.mesh_rules.specs.{declared.events.MeshEvent.MeshEvent, Events.after, Machine.{Mesh, start}}
use Rattle.mesh_laws.specs.{InOrderLaw.sweeps_in_order, SoonLaw.sweeps_for}
use Rattle.mesh_examples.proofs.GuardedCall as guarded_call
use Rattle.mesh_examples.proofs.Scene.{all_enabled, desk, fails_link, learns_links, takes_each, triangle}

abbrev network : Network
network = triangle true false 2

abbrev before : List MeshEvent
before = learns_links 1 (3 ∷ []) ++ learns_links 2 (2 ∷ []) ++ guarded_call.events

-- the link of the working route fails
abbrev struck : List MeshEvent
struck = before ++ fails_link 1 ∷ []

-- The alarms; the Notify goes up a hop; the Path goes down the two hops of the backup, and the Resv comes up.
abbrev one : List MeshEvent
one = struck ++ desk 1 ∷ desk 2 ∷ []

abbrev two : List MeshEvent
two = one ++ takes_each ((1, 2) ∷ [])

abbrev three : List MeshEvent
three = two ++ takes_each ((3, 1) ∷ [])

abbrev four : List MeshEvent
four = three ++ takes_each ((2, 3) ∷ [])

abbrev five : List MeshEvent
five = four ++ takes_each ((3, 2) ∷ [])

abbrev six : List MeshEvent
six = five ++ takes_each ((1, 3) ∷ [])

enabled : all_enabled network start six ≡ true
unfolding labels.numbers_from
enabled = refl

-- how much waits
abbrev waiting : List MeshEvent → ℕ
waiting events = in_all (after network start events)
  where
    in_all : Mesh → ℕ
    in_all s =
        length (s.desks 1) + length (s.desks 2) + length (s.desks 3) + length (s.mail 1 2) + length (s.mail 1 3)
        + length (s.mail 2 1) + length (s.mail 2 3) + length (s.mail 3 1) + length (s.mail 3 2)

-- as many as each of the six takes
waits : waiting struck ∷ waiting one ∷ waiting two ∷ waiting three ∷ waiting four ∷ waiting five ∷ waiting six ∷ []
    ≡ 2 ∷ 1 ∷ 1 ∷ 1 ∷ 1 ∷ 1 ∷ 0 ∷ []
unfolding labels.numbers_from
waits = refl

-- one, a hop to the cut, and two hops there and back
most : map (sweeps_for network struck) ((after network start before).nodes 1).calls ≡ 6 ∷ []
unfolding labels.numbers_from
most = refl

-- In order of number the same events are four sweeps, to the ends of `one`, `three`, `five` and `six`, in each of which the
-- nodes 1, 2 and 3 have their parts: one, a hop up from the node 2 to the node 1, and the two hops of the backup.
in_order : map (sweeps_in_order network struck) ((after network start before).nodes 1).calls ≡ 4 ∷ []
unfolding labels.numbers_from
in_order = refl

abbrev states : List MeshEvent → List CallState
states events = map (λ (c : CallRec). c.state) ((after network start events).nodes 1).calls

not_yet : states five ≡ Turning ∷ []
unfolding labels.numbers_from
not_yet = refl

then_turned : states six ≡ Turned ∷ []
unfolding labels.numbers_from
then_turned = refl
