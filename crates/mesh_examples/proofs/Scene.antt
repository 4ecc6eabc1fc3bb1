-- What is looked at of a mesh of some nodes after a run: the legs and calls of each node, how many links each node
-- knows, how many fibres it knows to be down, and how many messages are under way.
use Rattle.std.proofs.Common.{◌≡◌, ℕ, suc, Bool, true, false, cond, nat_eq, List, [], ◌∷◌}
use Rattle.std.specs.Prelude.{◌&&◌, length, map, replicate, Option, Some, None}
use Rattle.ason_base.specs.{Network.Network, declared.calls.CallState.CallState, declared.calls.Cause.Cause, declared.calls.LegRow.LegRow, declared.calls.Phase.Phase, declared.calls.Phase.TheVariants.Live, declared.calls.Role.Role, declared.commands.Command.TheVariants.{Fail, Protect, Release, Repair, Retry, Revert, Setup}, declared.commands.Group.TheVariants.{Link, Srlg}, declared.ids.CallNo.CallNo, declared.ids.LinkId.LinkId, declared.ids.Lsp.Lsp, declared.ids.NodeId.NodeId, declared.network.LinkSpec.LinkSpec, declared.network.NodeSpec.NodeSpec, declared.steps.Step.Step, declared.tables.CallRec.CallRec, declared.tables.Leg.Leg}
use Rattle.mesh_rules.specs.{declared.events.MeshEvent.MeshEvent, declared.events.MeshEvent.TheVariants.{Desk, Learn, Post, Take, Tick}, Events.{after, is_enabled, step}, KnownRows.known_rows, LocalNodes.local_node, Machine.{Mesh, start}}
use Rattle.lsp_laws.specs.HopLaw.{HasShape}

-- Networks

abbrev pub node : ℕ → NodeId
node n = record { 0 = n }

abbrev pub link : ℕ → LinkId
link k = record { 0 = k }

-- whether the node converts
abbrev pub spec : ℕ → Bool → NodeSpec
spec n convert = record { id = node n; convert = convert }

-- a link between two nodes, with so many labels, and its SRLGs
abbrev pub link_spec : ℕ → ℕ → ℕ → ℕ → List ℕ → LinkSpec
link_spec k a b labels srlgs =
    record { id = link k; low = node a; high = node b; labels = labels; metric = 1; srlgs = srlgs }

-- three nodes, each two joined by a link with so many labels: link 1 joins nodes 1 and 2, link 2 nodes 1 and 3, link 3
-- nodes 2 and 3; whether node 1 converts, and whether the others do
abbrev pub triangle : Bool → Bool → ℕ → Network
triangle first others labels = record {
  wait = 0;
  nodes = spec 1 first ∷ spec 2 others ∷ spec 3 others ∷ [];
  links = link_spec 1 1 2 labels [] ∷ link_spec 2 1 3 labels [] ∷ link_spec 3 2 3 labels [] ∷ [];
}

-- three nodes that don't convert, in a ring: links 1 and 2 go from node 1 by node 2 to node 3, and link 3 closes it
abbrev pub ring : ℕ → Network
ring labels = record {
  wait = 0;
  nodes = spec 1 false ∷ spec 2 false ∷ spec 3 false ∷ [];
  links = link_spec 1 1 2 labels [] ∷ link_spec 2 2 3 labels [] ∷ link_spec 3 1 3 labels [] ∷ [];
}

-- an LSP of this ingress, in this tunnel
abbrev pub lsp : ℕ → ℕ → ℕ → Lsp
lsp n tunnel number = record { ingress = node n; tunnel = tunnel; lsp = number }

-- Events

abbrev pub call : ℕ → CallNo
call k = record { 0 = k }

abbrev pub step_over : ℕ → ℕ → Step
step_over n k = record { node = node n; link = link k }

-- the node learns of these links, one after the other
abbrev pub learns_links : ℕ → List ℕ → List MeshEvent
learns_links n links = map (λ k. Learn (node n) (link k)) links

-- a protected call between two nodes, over this route, with this backup route
abbrev pub sets_up : ℕ → ℕ → ℕ → List Step → List Step → MeshEvent
sets_up k from to via backup = Post (Setup (call k) (node from) (node to) true false (Some via) (Some backup))

-- an unprotected call between two nodes, over this route
abbrev pub sets_up_alone : ℕ → ℕ → ℕ → List Step → MeshEvent
sets_up_alone k from to via = Post (Setup (call k) (node from) (node to) false false (Some via) None)

-- a two-way call between two nodes, over this route, protected or not
abbrev pub sets_up_both : ℕ → ℕ → ℕ → Bool → List Step → Option (List Step) → MeshEvent
sets_up_both k from to protected via backup =
    Post (Setup (call k) (node from) (node to) protected true (Some via) backup)

abbrev pub protect_call : ℕ → ℕ → MeshEvent
protect_call k from = Post (Protect (call k) (node from))

abbrev pub release_call : ℕ → ℕ → MeshEvent
release_call k from = Post (Release (call k) (node from))

abbrev pub retry_call : ℕ → ℕ → MeshEvent
retry_call k from = Post (Retry (call k) (node from))

abbrev pub revert_call : ℕ → ℕ → MeshEvent
revert_call k from = Post (Revert (call k) (node from))

abbrev pub fails_link : ℕ → MeshEvent
fails_link k = Post (Fail (Link (link k)))

abbrev pub repairs_link : ℕ → MeshEvent
repairs_link k = Post (Repair (Link (link k)))

abbrev pub fails_srlg : ℕ → MeshEvent
fails_srlg s = Post (Fail (Srlg s))

abbrev pub repairs_srlg : ℕ → MeshEvent
repairs_srlg s = Post (Repair (Srlg s))

abbrev pub ticks_at : ℕ → MeshEvent
ticks_at n = Tick (node n)

abbrev pub desk : ℕ → MeshEvent
desk n = Desk (node n)

-- the node takes the first message from this neighbour
abbrev pub takes_from : ℕ → ℕ → MeshEvent
takes_from n u = Take (node n) (node u)

-- one after the other
abbrev pub takes_each : List (ℕ × ℕ) → List MeshEvent
takes_each pairs = map (λ p. takes_from p.0 p.1) pairs

-- each event is enabled when its turn comes
abbrev pub all_enabled : Network → Mesh → List MeshEvent → Bool
all_enabled t s [] = true
all_enabled t s (e ∷ es) = is_enabled t s e && all_enabled t (step t s e) es

-- What is seen

-- a leg: the ingress and the number of its LSP; how many labels were offered and sent on, and how many steps are left
pub record SeenLeg : Type 0 where
  pub ingress : ℕ
  pub number : ℕ
  pub phase : Phase
  pub in_label : Option ℕ
  pub out_label : Option ℕ
  pub offered : ℕ
  pub sent : ℕ
  pub left : ℕ

pub record SeenCall : Type 0 where
  pub number : ℕ
  pub state : CallState
  pub cause : Cause
  pub work_reports : ℕ
  pub back_reports : ℕ
  pub ticks : ℕ

-- what is given to the node, or else this
abbrev pub given_or : {X : Type 0} → X → ℕ → List (ℕ × X) → X
given_or x n [] = x
given_or x n (g ∷ given) = cond (nat_eq g.0 n) g.1 (given_or x n given)

-- what the nodes from this one on have: what is given to them, or else what they had
abbrev pub given_from : {X : Type 0} → ℕ → List (ℕ × X) → List X → List X
given_from n given [] = []
given_from n given (x ∷ xs) = given_or x n given ∷ given_from (suc n) given xs

-- these nodes have something new, and the others what they had
abbrev pub with_new_at : {X : Type 0} → List (ℕ × X) → List X → List X
with_new_at given xs = given_from 1 given xs

-- this node has something new, and the others what they had
abbrev pub changed_at : {X : Type 0} → ℕ → X → List X → List X
changed_at n x xs = with_new_at ((n, x) ∷ []) xs

-- of so many nodes these alone have any
abbrev pub only_among : {X : Type 0} → ℕ → List (ℕ × List X) → List (List X)
only_among count given = with_new_at given (replicate count [])

-- of so many nodes these alone know of fibres that are down
abbrev pub down_at : ℕ → List (ℕ × ℕ) → List ℕ
down_at count given = with_new_at given (replicate count 0)

-- of so many links these alone have messages, to the high end and to the low end
abbrev pub mail_on : ℕ → List (ℕ × (ℕ × ℕ)) → List (ℕ × ℕ)
mail_on count given = with_new_at given (replicate count (0, 0))

-- this one alone has any
abbrev pub only_at : {X : Type 0} → ℕ → ℕ → List X → List (List X)
only_at count n xs = only_among count ((n, xs) ∷ [])

-- by node the legs, the calls, how many links are known, and how many fibres are known to be down; by link the messages
-- to its high end, and to its low end
pub record Seen : Type 0 where
  pub legs : List (List SeenLeg)
  pub calls : List (List SeenCall)
  pub known : List ℕ
  pub down : List ℕ
  pub mail : List (ℕ × ℕ)

-- so many nodes and links, of which none has anything
abbrev pub still : ℕ → ℕ → Seen
still nodes links = record {
  legs = only_among nodes [];
  calls = only_among nodes [];
  known = down_at nodes [];
  down = down_at nodes [];
  mail = mail_on links [];
}

abbrev pub leg : ℕ → ℕ → Phase → Option ℕ → Option ℕ → ℕ → ℕ → ℕ → SeenLeg
leg ingress number phase in_label out_label offered sent left = record {
  ingress = ingress;
  number = number;
  phase = phase;
  in_label = in_label;
  out_label = out_label;
  offered = offered;
  sent = sent;
  left = left;
}

-- in a triangle with so many labels: the legs of a call from node 1 to node 2 over link 1, and of its backup by node 3,
-- which are in this phase
abbrev pub by_node_3 : ℕ → Phase → List (List SeenLeg)
by_node_3 labels phase =
    (leg 1 1 Live None (Some 1) 0 labels 0 ∷ leg 1 2 phase None (Some 1) 0 labels 1 ∷ [])
    ∷ (leg 1 1 Live (Some 1) None labels 0 0 ∷ leg 1 2 phase (Some 1) None labels 0 0 ∷ [])
    ∷ (leg 1 2 phase (Some 1) (Some 1) labels labels 0 ∷ [])
    ∷ []

-- a call without reports
abbrev pub seen_unreported : ℕ → CallState → Cause → SeenCall
seen_unreported number state cause =
    record { number = number; state = state; cause = cause; work_reports = 0; back_reports = 0; ticks = 0 }

-- a call with so many reports of its working LSP, and of its backup
abbrev pub seen_reported : ℕ → CallState → Cause → ℕ → ℕ → SeenCall
seen_reported number state cause works backs =
    record { number = number; state = state; cause = cause; work_reports = works; back_reports = backs; ticks = 0 }

abbrev leg_seen : Leg → SeenLeg
leg_seen g =
    leg g.lsp.ingress.0 g.lsp.lsp g.phase g.in_label g.out_label (length g.offered) (length g.sent) (length g.route)

abbrev call_seen : CallRec → SeenCall
call_seen c = record {
  number = c.call.0;
  state = c.state;
  cause = c.cause;
  work_reports = length c.work_reports;
  back_reports = length c.back_reports;
  ticks = c.ticks;
}

abbrev pub seen_of : Network → Mesh → Seen
seen_of t s = record {
  legs = map (λ n. map leg_seen (s.nodes n.id.0).legs) t.nodes;
  calls = map (λ n. map call_seen (s.nodes n.id.0).calls) t.nodes;
  known = map (λ n. length (known_rows (local_node t n.id) (s.nodes n.id.0))) t.nodes;
  down = map (λ n. length (s.nodes n.id.0).down) t.nodes;
  mail = map (λ l. (length (s.mail l.low.0 l.high.0), length (s.mail l.high.0 l.low.0))) t.links;
}

-- the row of a leg at a node: by which link and label it comes in, and goes out, and its labels for the way back
abbrev pub row_of_leg : Lsp → Role → ℕ → Phase → Option LinkId → Option ℕ → Option LinkId → Option ℕ → Option ℕ →
    Option ℕ →
    LegRow
row_of_leg l role n phase in_link in_label out_link out_label back_in back_out = record {
  lsp = l;
  node = node n;
  role = role;
  phase = phase;
  in_link = in_link;
  in_label = in_label;
  out_link = out_link;
  out_label = out_label;
  back_in = back_in;
  back_out = back_out;
}

-- a call that waits, after so many ticks
abbrev pub waiting : ℕ → CallState → Cause → ℕ → ℕ → ℕ → SeenCall
waiting number state cause works backs ticks =
    record { number = number; state = state; cause = cause; work_reports = works; back_reports = backs; ticks = ticks }

-- each event of the run is enabled, and this is seen after it
pub record Reaches (t : Network) (events : List MeshEvent) (shown : Seen) : Type 0 where
  pub enabled : all_enabled t start events ≡ true
  pub reached : seen_of t (after t start events) ≡ shown

-- the run reaches this, and there the hop from one node to the next is in its row of the table
pub record ReachesRow (t : Network) (es : List MeshEvent) (shown : Seen) (r : Role) (l : Lsp) (u d : NodeId) : Type 0
  where
    pub enabled : all_enabled t start es ≡ true
    pub reached : seen_of t (after t start es) ≡ shown
    pub in_row : HasShape (after t start es) r l u d
