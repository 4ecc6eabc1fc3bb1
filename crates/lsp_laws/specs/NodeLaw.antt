-- At one node, whatever comes to it: a label is one LSP's, or shared lawfully.
use Rattle.std.specs.{Prelude.{◌≡◌, ℕ, List, [], ◌∷◌, IsTrue}, List.AllByRecursion}
use Rattle.ason_base.specs.{declared.commands.Command.TheVariants.{Setup, Release, Protect, Retry, Revert, Fail, Repair}, declared.commands.DeskItem.DeskItem, declared.commands.DeskItem.TheVariants.{Order, Alarm, Clear}, declared.ids.NodeId.NodeId, declared.messages.Msg.Msg, declared.network.TeRow.TeRow, Network.Network}
use Rattle.mesh_rules.specs.{Changes.{Answer, changed}, Commands.is_valid, Learnt.on_row, LocalNodes.{LocalNode, local_node}, Messages.on_message, Orders.on_item, State.{NodeState, new_node}, Waits.on_tick}
use Rattle.lsp_laws.specs.LabelLaw.{LabelsAreShared}

-- A desk

-- a valid command of a call that begins at node n, or an alarm or a clear of whatever fibre
abbrev pub FitsDesk : Network → ℕ → DeskItem → Type 0
FitsDesk t n (Order (Setup call from to protected both via backup)) =
    IsTrue (is_valid t (Setup call from to protected both via backup)) × (from.0 ≡ n)
FitsDesk t n (Order (Release call from)) = IsTrue (is_valid t (Release call from)) × (from.0 ≡ n)
FitsDesk t n (Order (Protect call from)) = IsTrue (is_valid t (Protect call from)) × (from.0 ≡ n)
FitsDesk t n (Order (Retry call from)) = IsTrue (is_valid t (Retry call from)) × (from.0 ≡ n)
FitsDesk t n (Order (Revert call from)) = IsTrue (is_valid t (Revert call from)) × (from.0 ≡ n)
FitsDesk t n (Order (Fail g)) = ⊥
FitsDesk t n (Order (Repair g)) = ⊥
FitsDesk t n (Alarm f) = Unit {0}
FitsDesk t n (Clear f) = Unit {0}

abbrev pub DeskFits : Network → ℕ → List DeskItem → Type 0
DeskFits t n items = AllByRecursion (FitsDesk t n) items

-- What comes to a node

pub data NodeInput : Type 0 where
  -- a message, as from this neighbour
  Message : NodeId → Msg → NodeInput
  -- an item of the desk
  Item : DeskItem → NodeInput
  -- a row of a link, as told by a neighbour
  Row : TeRow → NodeInput
  -- a tick
  Tick : NodeInput

-- any message of whatever sender, any row, any tick, and the items that a desk has
abbrev pub MayCome : Network → ℕ → NodeInput → Type 0
MayCome t n (Message u m) = Unit {0}
MayCome t n (Item i) = FitsDesk t n i
MayCome t n (Row row) = Unit {0}
MayCome t n Tick = Unit {0}

abbrev pub answer : LocalNode → NodeState → NodeInput → Answer
answer p s (Message u m) = on_message p s u m
answer p s (Item i) = on_item p s i
answer p s (Row row) = on_row p s row
answer p s Tick = on_tick p s

abbrev pub after_inputs : LocalNode → NodeState → List NodeInput → NodeState
after_inputs p s [] = s
after_inputs p s (i ∷ inputs) = after_inputs p (changed s (answer p s i)) inputs

-- over every network, at each node, after all that may come
abbrev pub EveryNodeSharesLawfully : Type 0
EveryNodeSharesLawfully =
    (t : Network) (n : NodeId) (inputs : List NodeInput) → AllByRecursion (MayCome t n.0) inputs →
    LabelsAreShared (after_inputs (local_node t n) new_node inputs).legs
