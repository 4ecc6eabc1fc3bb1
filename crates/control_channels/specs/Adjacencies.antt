-- The hops of a node, one a neighbour: as a list, and as a function of the neighbour.
use Rattle.std.specs.{Prelude.{◌≡◌, ◌<◌, ◌+◌, ◌-◌, ◌^◌, ◌==◌, ℕ, nat_lt, Bool, true, List, [], ◌∷◌, find, map, slice_get, slice_set, Option, Some, None, is_some, if◌then◌else◌}, List.AllByRecursion}
use Rattle.ason_base.specs.{declared.ids.NodeId.NodeId, declared.messages.MsgId.MsgId, declared.messages.Packet.Packet, declared.tables.Out.Out, InOrder.in_order, Network.other_end, Writable.IsWritableMsg}
use Rattle.flood.specs.declared.frames.Content.TheVariants.{Message}
use Rattle.hop_reliable.specs.{declared.heard.Heard.Heard, Hop.{HopState, PreparedHop, all_sent, fresh_hop, numbered, resent, resting, sent_message, taken, ticked}}
use Rattle.mesh_rules.specs.LocalNodes.{LocalNode}
use Rattle.control_channels.specs.{declared.adjacencies.Adjacency.Adjacency, Frames.Sending}

-- Peers

abbrev pub peer_numbers : List Adjacency → List ℕ
peer_numbers adjacencies = map (λ a. a.peer.0) adjacencies

-- the numbers of a node's neighbours, rising, each once
abbrev pub neighbours : LocalNode → List ℕ
neighbours p = in_order nat_lt (map (λ l. (other_end l p.id).0) p.own)

-- a hop over which nothing was sent
abbrev pub new_adjacency : ℕ → Adjacency
new_adjacency n = record { peer = record { 0 = n }; hop = resting fresh_hop }

-- Hops by neighbour

abbrev pub is_adjacency_to : ℕ → Adjacency → Bool
is_adjacency_to n a = a.peer.0 == n

abbrev pub adjacency_at : List Adjacency → ℕ → Option Adjacency
adjacency_at adjacencies n = find (is_adjacency_to n) adjacencies

abbrev pub reaches : List Adjacency → ℕ → Bool
reaches adjacencies n = is_some (adjacency_at adjacencies n)

abbrev pub hop_of : Option Adjacency → PreparedHop
hop_of None = resting fresh_hop
hop_of (Some a) = a.hop

abbrev pub prepared_at : List Adjacency → ℕ → PreparedHop
prepared_at adjacencies n = hop_of (adjacency_at adjacencies n)

-- the hop to this neighbour
abbrev pub hop_at : List Adjacency → ℕ → HopState
hop_at adjacencies n = (prepared_at adjacencies n).state

-- and once what is prepared is sent
abbrev pub next_at : List Adjacency → ℕ → HopState
next_at adjacencies n = all_sent (prepared_at adjacencies n)

-- One adjacency that changes

abbrev pub with_hop : PreparedHop → Adjacency → Adjacency
with_hop h a = record { peer = a.peer; hop = h }

-- the hop at this place is changed, and no other
abbrev pub IsHopChangedAt : List Adjacency → ℕ → (PreparedHop → PreparedHop) → List Adjacency → Type 0
IsHopChangedAt before place f after =
    (a : Adjacency) → slice_get before place ≡ Some a → after ≡ slice_set before place (with_hop (f a.hop) a)

abbrev pub taken_by : Heard → List MsgId → PreparedHop → PreparedHop
taken_by v acks h = record { state = taken h.state v acks; prepared = h.prepared }

-- each hop, after one took what was heard of this neighbour
abbrev pub taken_at : List Adjacency → NodeId → Heard → List MsgId → ℕ → PreparedHop
taken_at adjacencies u v acks d =
    if d == u.0 then taken_by v acks (prepared_at adjacencies d) else prepared_at adjacencies d

-- nothing is prepared
abbrev pub rested : Adjacency → Adjacency
rested a = with_hop (resting a.hop.state) a

-- what is prepared is sent
abbrev pub committed : Adjacency → Adjacency
committed a = with_hop (resting (all_sent a.hop)) a

-- each unacknowledged message is a tick older
abbrev pub aged : Adjacency → Adjacency
aged a = with_hop (record { state = ticked a.hop.state; prepared = a.hop.prepared }) a

-- Messages

-- one message more to a neighbour
abbrev pub sent_one : (ℕ → HopState) → Out → ℕ → HopState
sent_one hops o d = if d == o.to.0 then sent_message (hops d) o.msg else hops d

-- these messages, one after the other
abbrev pub sent_on : (ℕ → HopState) → List Out → ℕ → HopState
sent_on hops [] = hops
sent_on hops (o ∷ outs) = sent_on (sent_one hops o) outs

-- the packets that go out
abbrev pub packets_on : (ℕ → HopState) → List Out → List Sending
packets_on hops [] = []
packets_on hops (o ∷ outs) =
    record { to = o.to; content = Message (numbered ((hops o.to.0).sent + 1) o.msg) }
    ∷ packets_on (sent_one hops o) outs

-- all that will be sent is prepared
abbrev pub ArePrepared : List Adjacency → List Out → List Adjacency → Type 0
ArePrepared before outs after = (d : ℕ) → next_at after d ≡ sent_on (hop_at before) outs d

-- each message is to a neighbour, can be written, and has a number left
abbrev pub AllCanGo : (ℕ → Bool) → (ℕ → HopState) → List Out → Type 0
AllCanGo near hops [] = Unit {0}
AllCanGo near hops (o ∷ outs) =
    (near o.to.0 ≡ true) × ((hops o.to.0).sent < 2 ^ 32 - 1) × IsWritableMsg o.msg ×
    AllCanGo near (sent_one hops o) outs

-- A tick

abbrev pub sendings_to : NodeId → List Packet → List Sending
sendings_to n packets = map (λ q. record { to = n; content = Message q }) packets

-- what goes again to a neighbour
abbrev pub again_to : Adjacency → List Sending
again_to a = sendings_to a.peer (resent a.hop.state)

-- what is unacknowledged can be written
abbrev pub CanGoAgain : HopState → Type 0
CanGoAgain h = AllByRecursion (λ w. IsWritableMsg w.msg) h.unacked
