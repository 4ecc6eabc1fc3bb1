-- In every state of every run each call is that of a setup that was posted.
use Rattle.std.specs.Prelude.{◌≡◌, ◌⊎◌, ℕ, Bool, List, [], ◌∷◌, Option, Some, All}
use Rattle.ason_base.specs.{declared.commands.Command.Command, declared.commands.Command.TheVariants.Setup, declared.ids.Lsp.Lsp, declared.ids.NodeId.NodeId, declared.steps.Step.Step, declared.tables.CallRec.CallRec, declared.tables.Leg.Leg, Network.Network}
use Rattle.mesh_rules.specs.{declared.events.MeshEvent.MeshEvent, declared.events.MeshEvent.TheVariants.Post, Machine.start, Events.{IsRun, after, route_of}, Legs.find_leg, Pairs.is_two_way, State.NodeState}

-- the command is posted in one of these events
abbrev pub WasPosted : Command → List MeshEvent → Type 0
WasPosted c [] = ⊥
WasPosted c (e ∷ events) = (e ≡ Post c) ⊎ WasPosted c events

-- the call at node n is that of a setup from there: of its number, to its egress, protected where it says so, with
-- the backup route that it gives; where it gives a route its working LSP was sent on it; and its working LSP is
-- two-way just where it says so. o: the route of each LSP; legs: those of the node.
pub record IsOrdered (o : Lsp → Option (List Step)) (events : List MeshEvent) (n : ℕ) (legs : List Leg)
    (c : CallRec) : Type 0 where
  pub from : NodeId
  pub both : Bool
  pub via : Option (List Step)
  pub here : from.0 ≡ n
  pub posted : WasPosted (Setup c.call from c.egress c.protected both via c.backup) events
  pub over : (l : Lsp) (route : List Step) → c.work ≡ Some l → via ≡ Some route → o l ≡ Some route
  pub ways : (l : Lsp) (g : Leg) → c.work ≡ Some l → find_leg l legs ≡ Some g → is_two_way g ≡ both

-- at node n, which keeps s
abbrev pub AreOrdered : Network → List MeshEvent → ℕ → NodeState → Type 0
AreOrdered t events n s = All (IsOrdered (route_of t start events) events n s.legs) s.calls

abbrev pub CallsAreOrdered : Network → List MeshEvent → Type 0
CallsAreOrdered t events =
    (n : ℕ) → AreOrdered t events n ((after t start events).nodes n)

-- over every network and every run, at each node
abbrev pub EveryCallIsOrdered : Type 0
EveryCallIsOrdered = (t : Network) (events : List MeshEvent) → IsRun t start events → CallsAreOrdered t events
