-- Which events are enabled, what each does, and runs of them.
use Rattle.std.specs.{Prelude.{◌==◌, ◌&&◌, Bool, true, false, not, List, [], ◌∷◌, Option, Some, None, IsTrue, if◌then◌else◌}, List.list_any}
use Rattle.ason_base.specs.{declared.ids.NodeId.NodeId, declared.ids.LinkId.LinkId, declared.ids.Lsp.Lsp, declared.steps.Step.Step, declared.commands.Command.Command, declared.commands.Command.TheVariants.{Setup, Release, Protect, Retry, Revert, Fail, Repair}, declared.commands.DeskItem.DeskItem, declared.commands.DeskItem.TheVariants.Order, declared.messages.Msg.Msg, declared.messages.Msg.TheVariants.{Path, Resv, PathTear, PathErr, Notify}, declared.tables.Out.Out, Network.{Network, find_link, is_node_id, touches, other_end}, Lsps.same_lsp}
use Rattle.mesh_rules.specs.{declared.events.MeshEvent.MeshEvent, declared.events.MeshEvent.TheVariants.{Take, Desk, Tick, Learn, Post}, Changes.{Answer, nothing}, Failures.{with_failed, with_group, without_group}, State.NodeState, KnownRows.{has_row, known_rows}, Learnt.on_link, LocalNodes.{LocalNode, local_node}, Messages.on_message, Orders.on_item, Waits.on_tick, Commands.{is_valid, is_again}, Machine.{Mesh, commit, without_first, without_item, with_item, with_posted}}

-- What is enabled

abbrev pub has_first : {X : Type 0} → List X → Bool
has_first [] = false
has_first (x ∷ xs) = true

-- a node knows its own links, and those that it learnt
abbrev pub knows : Network → Mesh → NodeId → LinkId → Bool
knows t s n k = has_row (known_rows (local_node t n) (s.nodes n.0)) k

-- a neighbour of the node knows the link
abbrev pub may_learn : Network → Mesh → NodeId → LinkId → Bool
may_learn t s n k = list_any (λ l. touches n l && knows t s (other_end l n) k) t.links

abbrev pub is_enabled : Network → Mesh → MeshEvent → Bool
is_enabled t s (Take d u) = has_first (s.mail u.0 d.0)
is_enabled t s (Desk n) = has_first (s.desks n.0)
is_enabled t s (Tick n) = is_node_id t.nodes n
is_enabled t s (Learn n k) = may_learn t s n k
is_enabled t s (Post c) = is_valid t c && not (is_again s.posted c)

-- What each event does

-- the rule of the first message of a list
abbrev pub on_first : LocalNode → NodeState → NodeId → List Msg → Answer
on_first p s u [] = nothing
on_first p s u (m ∷ ms) = on_message p s u m

-- the rule of the first item of a desk
abbrev pub on_first_item : LocalNode → NodeState → List DeskItem → Answer
on_first_item p s [] = nothing
on_first_item p s (i ∷ items) = on_item p s i

-- a call's command goes to the desk of its ingress; where a group fails or is repaired, the nodes are told what has changed
abbrev pub posted : Network → Mesh → Command → Mesh
posted t s (Setup n from to protected both via backup) =
    with_posted (with_item s from.0 (Order (Setup n from to protected both via backup))) n
posted t s (Release n from) = with_item s from.0 (Order (Release n from))
posted t s (Protect n from) = with_item s from.0 (Order (Protect n from))
posted t s (Retry n from) = with_item s from.0 (Order (Retry n from))
posted t s (Revert n from) = with_item s from.0 (Order (Revert n from))
posted t s (Fail g) = with_failed t s (with_group g s.failed)
posted t s (Repair g) = with_failed t s (without_group g s.failed)

-- the one successor
abbrev pub step : Network → Mesh → MeshEvent → Mesh
step t s (Take d u) = commit (without_first s u.0 d.0) d.0 (on_first (local_node t d) (s.nodes d.0) u (s.mail u.0 d.0))
step t s (Desk n) = commit (without_item s n.0) n.0 (on_first_item (local_node t n) (s.nodes n.0) (s.desks n.0))
step t s (Tick n) = commit s n.0 (on_tick (local_node t n) (s.nodes n.0))
step t s (Learn n k) = commit s n.0 (on_link (local_node t n) (s.nodes n.0) (find_link t k))
step t s (Post c) = posted t s c

-- Runs

-- each event is enabled where it comes
abbrev pub IsRun : Network → Mesh → List MeshEvent → Type 0
IsRun t s [] = Unit {0}
IsRun t s (e ∷ es) = IsTrue (is_enabled t s e) × IsRun t (step t s e) es

-- where a run leads
abbrev pub after : Network → Mesh → List MeshEvent → Mesh
after t s [] = s
after t s (e ∷ es) = after t (step t s e) es

-- The whole route of an LSP

abbrev pub whole_route : Lsp → Msg → Option (List Step)
whole_route l (Path k e link route set up r) =
    if same_lsp k l then Some (record { node = k.ingress; link = link } ∷ route) else None
whole_route l (Resv k e link x) = None
whole_route l (PathTear k e link) = None
whole_route l (PathErr k e at gone code) = None
whole_route l (Notify k e at link code) = None

abbrev pub or_route : Option (List Step) → Option (List Step) → Option (List Step)
or_route None b = b
or_route (Some a) b = Some a

abbrev pub first_route : Lsp → List Out → Option (List Step)
first_route l [] = None
first_route l (o ∷ os) = or_route (whole_route l o.msg) (first_route l os)

-- what the LSP's ingress sends in a step
abbrev pub sent_at_ingress : Network → Mesh → MeshEvent → Lsp → List Out
sent_at_ingress t s (Take d u) l = if d.0 == l.ingress.0
    then (on_first (local_node t d) (s.nodes d.0) u (s.mail u.0 d.0)).sent else []
sent_at_ingress t s (Desk n) l = if n.0 == l.ingress.0
    then (on_first_item (local_node t n) (s.nodes n.0) (s.desks n.0)).sent else []
sent_at_ingress t s (Tick n) l = if n.0 == l.ingress.0 then (on_tick (local_node t n) (s.nodes n.0)).sent else []
sent_at_ingress t s (Learn n k) l = []
sent_at_ingress t s (Post c) l = []

-- the whole route of the first Path that the ingress sent for the LSP in a run
abbrev pub route_of : Network → Mesh → List MeshEvent → Lsp → Option (List Step)
route_of t s [] l = None
route_of t s (e ∷ es) l = or_route (first_route l (sent_at_ingress t s e l)) (route_of t (step t s e) es l)
