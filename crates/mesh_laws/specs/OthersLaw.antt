-- An order changes no call but its own.
use Rattle.std.specs.Prelude.{◌≡◌, ◌==◌, ◌⊎◌, Bool, true, false, List, ◌∷◌, Some}
use Rattle.ason_base.specs.{declared.commands.Command.TheVariants.{Setup, Release, Protect, Retry, Revert}, declared.commands.DeskItem.DeskItem, declared.commands.DeskItem.TheVariants.Order, declared.ids.CallNo.CallNo, declared.ids.Lsp.Lsp, declared.ids.NodeId.NodeId, declared.tables.CallRec.CallRec, declared.tables.Leg.Leg, Network.Network}
use Rattle.mesh_rules.specs.{declared.events.MeshEvent.MeshEvent, declared.events.MeshEvent.TheVariants.Desk, Calls.find_call, Events.{IsRun, after, step}, Machine.start}
use Rattle.lsp_laws.specs.HopLaw.{leg_at}

-- the item is an order of this call
abbrev pub is_order_of : CallNo → DeskItem → Bool
is_order_of k (Order (Setup m from to protected both via backup)) = m.0 == k.0
is_order_of k (Order (Release m from)) = m.0 == k.0
is_order_of k (Order (Protect m from)) = m.0 == k.0
is_order_of k (Order (Retry m from)) = m.0 == k.0
is_order_of k (Order (Revert m from)) = m.0 == k.0
is_order_of k item = false

-- over the event in which a node handles the first item of its desk: of each other call the node keeps what it kept
abbrev pub OrdersAreOfOneCall : Network → List MeshEvent → Type 0
OrdersAreOfOneCall t events =
    (n : NodeId) (i : DeskItem) (items : List DeskItem) →
    (after t start events).desks n.0 ≡ i ∷ items → (k : CallNo) → is_order_of k i ≡ false →
    find_call k ((step t (after t start events) (Desk n)).nodes n.0).calls ≡
    find_call k ((after t start events).nodes n.0).calls

-- over every network and every run
abbrev pub EveryOrderIsOfOneCall : Type 0
EveryOrderIsOfOneCall =
    (t : Network) (events : List MeshEvent) → IsRun t start events → OrdersAreOfOneCall t events

-- and the leg of each LSP that is named by no call of which the item is an order stays as it is
abbrev pub OrdersLeaveOtherLegs : Network → List MeshEvent → Type 0
OrdersLeaveOtherLegs t events =
    (n : NodeId) (i : DeskItem) (items : List DeskItem) → (after t start events).desks n.0 ≡ i ∷ items → (l : Lsp)
    (g : Leg) → leg_at (after t start events) l n ≡ Some g → ((k : CallNo) (c : CallRec) → is_order_of k i ≡ true →
    find_call k ((after t start events).nodes n.0).calls ≡ Some c → (c.work ≡ Some l) ⊎ (c.back ≡ Some l) → ⊥) →
    leg_at (step t (after t start events) (Desk n)) l n ≡ Some g

-- over every network and every run
abbrev pub EveryOrderLeavesOtherLegs : Type 0
EveryOrderLeavesOtherLegs =
    (t : Network) (events : List MeshEvent) → IsRun t start events → OrdersLeaveOtherLegs t events
