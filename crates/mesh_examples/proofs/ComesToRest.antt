-- A run in which a protected call is set up, its working link is cut and the call turns, and the link is repaired and
-- the call goes back by an order: what each part adds, how much is handled in it, and that the mesh is quiet at the
-- end.
use Rattle.std.proofs.Common.{◌≡◌, List, [], ◌∷◌, ◌++◌, length, map, refl}
use Rattle.ason_base.specs.Labels as labels
use Rattle.mesh_rules.specs.{declared.events.MeshEvent.MeshEvent, Events.after, Machine.start}
use Rattle.mesh_laws.specs.RestLaw.{work_added, items_handled}
use Rattle.mesh_examples.proofs.GuardedCall as guarded_call
use Rattle.mesh_examples.proofs.{GuardedCall.network, Scene.{desk, Reaches, repairs_link, revert_call, takes_from, takes_each}}
use Rattle.mesh_examples.proofs.TurnedCall as turned_call

abbrev way_back : List MeshEvent
way_back =
    repairs_link 1
    ∷ desk 2
    ∷ takes_from 1 2
    ∷ revert_call 1 1
    ∷ desk 1
    ∷ desk 1
    ∷ takes_each ((3, 1) ∷ (2, 3) ∷ [])

abbrev events : List MeshEvent
events = turned_call.events ++ way_back

abbrev parts : List (List MeshEvent)
parts = guarded_call.events ∷ turned_call.cut ∷ way_back ∷ []

goes_back : Reaches network events guarded_call.as_reached
unfolding labels.numbers_from
goes_back = record { enabled = refl; reached = refl }

-- no item is left on a desk
rests : map (λ n. length ((after network start events).desks n)) (1 ∷ 2 ∷ 3 ∷ []) ≡ 0 ∷ 0 ∷ 0 ∷ []
unfolding labels.numbers_from
rests = refl

-- an item handled and six messages taken; two and five; three and three
handled_each : map items_handled parts ≡ 7 ∷ 7 ∷ 6 ∷ []
handled_each = refl

-- a setup; a failure, on three links; a repair and an order to go back
added_each : map (work_added network) parts ≡ 4352 ∷ 6291462 ∷ 6291526 ∷ []
added_each = refl
