-- Frames that are sent go to neighbours.
use Rattle.std.proofs.{Common.{◌≡◌, ℕ, true, List, [], ◌∷◌, ◌++◌, refl, sym, ap, ◌∙◌, subst}, ByRecursion.All-append}
use Rattle.std.specs.List.{AllByRecursion, flat_map}
use Rattle.ason_base.specs.{declared.ids.NodeId.NodeId, declared.messages.Packet.Packet, declared.tables.Out.Out}
use Rattle.hop_reliable.specs.{declared.heard.Heard.Heard, Hop.{HopState, answers_to}}
use Rattle.mesh_nodes.specs.{LocalNodes.is_neighbour, Sent.AllToNeighbours, Nodes.NodeView}
use Rattle.mesh_rules.specs.{Changes.Answer, LocalNodes.LocalNode}
use Rattle.control_channels.specs.{declared.adjacencies.Adjacency.Adjacency, declared.frames.Frame.Frame, Adjacencies.{again_to, packets_on, sendings_to, sent_one}, Answers.CanBeSent, Controllers.{IsMade, acks_to, carried}, Frames.{Sending, frames_to}}
use Rattle.control_channels.specs.ReadyControllers as kept

pub frames-near : (p : LocalNode) (me : NodeId) (ss : List Sending) →
    AllByRecursion (λ (s : Sending). is_neighbour p s.to ≡ true) ss →
    kept.AllFramesToNeighbours p (frames_to me ss)
frames-near p me [] h = tt
frames-near p me (s ∷ ss) h = (h.0, frames-near p me ss h.1)

packets-near : (p : LocalNode) (outs : List Out) (hops : ℕ → HopState) → AllToNeighbours p outs →
    AllByRecursion (λ (s : Sending). is_neighbour p s.to ≡ true) (packets_on hops outs)
packets-near p [] hops h = tt
packets-near p (o ∷ outs) hops h = (h.0, packets-near p outs (sent_one hops o) h.1)

sendings-near : (p : LocalNode) (n : NodeId) (qs : List Packet) → is_neighbour p n ≡ true →
    AllByRecursion (λ (s : Sending). is_neighbour p s.to ≡ true) (sendings_to n qs)
sendings-near p n [] h = tt
sendings-near p n (q ∷ qs) h = (h, sendings-near p n qs h)

pub again-near : (p : LocalNode) (xs : List Adjacency) →
    AllByRecursion (λ (a : Adjacency). is_neighbour p a.peer ≡ true) xs →
    AllByRecursion (λ (s : Sending). is_neighbour p s.to ≡ true) (flat_map again_to xs)
again-near p [] h = tt
again-near p (a ∷ xs) h =
    All-append (λ (s : Sending). is_neighbour p s.to ≡ true) (again_to a) (flat_map again_to xs)
    (sendings-near p a.peer _ h.0) (again-near p xs h.1)

pub acks-near : (p : LocalNode) (u : NodeId) (v : Heard) (q : Packet) → is_neighbour p u ≡ true →
    AllByRecursion (λ (s : Sending). is_neighbour p s.to ≡ true) (acks_to u v q)
acks-near p u v q h = sendings-near p u (answers_to v q) h

-- the frames of a step
pub made-near : (p : LocalNode) (me : NodeId) (first : List Sending) (hops : ℕ → HopState) (a : Answer)
    (none frames : List Frame) →
    AllByRecursion (λ (s : Sending). is_neighbour p s.to ≡ true) first → CanBeSent p a → none ≡ [] →
    frames ≡ none ++ frames_to me (first ++ packets_on hops a.sent) → kept.AllFramesToNeighbours p frames
made-near p me first hops a none frames near can start e =
    subst (kept.AllFramesToNeighbours p)
    (sym (e ∙ ap (λ fs. fs ++ frames_to me (first ++ packets_on hops a.sent)) start))
    (frames-near p me (first ++ packets_on hops a.sent)
    (All-append (λ (s : Sending). is_neighbour p s.to ≡ true) first (packets_on hops a.sent) near
    (packets-near p a.sent hops can.near)))

pub made-to_neighbours : (n m : NodeView) (before after : List Adjacency) (hops : ℕ → HopState) (a : Answer)
    (first : List Sending) (frames : List Frame) →
    AllByRecursion (λ (s : Sending). is_neighbour n.place s.to ≡ true) first → CanBeSent n.place a →
    IsMade n m before after (carried hops n.state a first) frames → kept.AllFramesToNeighbours n.place frames
made-to_neighbours n m before after hops a first frames near can made =
    made-near n.place n.place.id first hops a [] frames near can refl made.frames
