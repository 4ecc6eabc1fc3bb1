-- Every run comes to rest: of the events that take a message or handle an item of a desk there are at most so many for
-- each order, each failure or repair, and each tick.
use Rattle.std.specs.Prelude.{◌≡◌, ◌≤◌, ℕ, ◌+◌, ◌*◌, false, List, [], ◌∷◌, length}
use Rattle.mesh_rules.specs.{declared.limits.TheConstants.{MOST_LEGS, MOST_LINKS_OF_ROUTE}, declared.events.MeshEvent.MeshEvent, declared.events.MeshEvent.TheVariants.{Take, Desk, Tick, Learn, Post}, Machine.{Mesh, start}, Events.{IsRun, after, is_enabled}, Quiet.IsQuiet}
use Rattle.ason_base.specs.{Network.{Network, IsTopology}, declared.commands.Command.Command, declared.commands.Command.TheVariants.{Fail, Repair}}
use Rattle.mesh_laws.specs.Weights.{alarm_weight, order_weight}

-- a message is taken or an item handled
abbrev pub handles : MeshEvent → ℕ
handles (Take d u) = 1
handles (Desk n) = 1
handles (Tick n) = 0
handles (Learn n k) = 0
handles (Post c) = 0

-- what a post adds: a failure an alarm of each fibre, a repair a clear of each, and any other one an order
abbrev pub post_weight : Network → Command → ℕ
post_weight t (Fail g) = 2 * length t.links * alarm_weight
post_weight t (Repair g) = 2 * length t.links * alarm_weight
post_weight t c = order_weight c

-- what an event may add: a tick a Path for each leg that a node keeps
abbrev pub adds : Network → MeshEvent → ℕ
adds t (Take d u) = 0
adds t (Desk n) = 0
adds t (Tick n) = MOST_LEGS * MOST_LINKS_OF_ROUTE
adds t (Learn n k) = 0
adds t (Post c) = post_weight t c

abbrev pub items_handled : List MeshEvent → ℕ
items_handled [] = 0
items_handled (e ∷ es) = handles e + items_handled es

abbrev pub work_added : Network → List MeshEvent → ℕ
work_added t [] = 0
work_added t (e ∷ es) = adds t e + work_added t es

-- over every topology and every run
abbrev pub EveryRunRests : Type 0
EveryRunRests = (t : Network) (events : List MeshEvent) → IsTopology t → IsRun t start events →
    items_handled events ≤ work_added t events

-- The end of a run

-- after it, while nothing more is posted and no node ticks, only so much follows
abbrev pub RunEnds : Network → List MeshEvent → Type 0
RunEnds t events =
    (later : List MeshEvent) → IsRun t (after t start events) later → work_added t later ≡ 0 →
    items_handled later ≤ work_added t events

-- over every topology and every run
abbrev pub EveryRunEnds : Type 0
EveryRunEnds = (t : Network) (events : List MeshEvent) → IsTopology t → IsRun t start events → RunEnds t events

-- no message can be taken, and no item handled
abbrev pub IsAtRest : Network → Mesh → Type 0
IsAtRest t s = (e : MeshEvent) → handles e ≡ 1 → is_enabled t s e ≡ false

-- a mesh at rest is quiet
abbrev pub EveryRestIsQuiet : Type 0
EveryRestIsQuiet = (t : Network) (s : Mesh) → IsAtRest t s → IsQuiet s
