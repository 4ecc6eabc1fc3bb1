-- How many messages wait at the hops, and how many frames go out.
use Rattle.std.proofs.{Common.{◌≡◌, ◌≤◌, ◌+◌, ◌*◌, ◌^◌, ℕ, suc, Bool, true, false, cond, not, nat_eq, List, [], ◌∷◌, ◌++◌, length, map, filter, refl, sym, ap, ◌∙◌, subst, arith, length-append}, lemmas.List.length-map}
use Rattle.std.specs.List.{AllByRecursion, flat_map}
use Rattle.ason_base.specs.{declared.limits.TheConstants.{MOST_EVENTS, MOST_LINKS}, declared.ids.NodeId.NodeId, declared.messages.MsgId.MsgId, declared.messages.Packet.Packet, declared.tables.Out.Out}
use Rattle.hop_reliable.specs.{declared.heard.Heard.Heard, declared.heard.Heard.TheVariants.{Acked, Unnumbered, Ahead, Repeat, Next}, declared.unacked.Unacked.Unacked, Ages.{is_due, older_age}, Hop.{HopState, again, is_acked, numbered, older, received, resent, sent_message, still_unacked}}
use Rattle.mesh_rules.specs.{Changes.Answer, LocalNodes.LocalNode}
use Rattle.mesh_nodes.specs.Nodes.{NodeView}
use Rattle.control_channels.specs.{declared.adjacencies.Adjacency.Adjacency, declared.frames.Frame.Frame, Adjacencies.{again_to, neighbours, packets_on, peer_numbers, sent_on, sent_one}, Answers.CanBeSent, Controllers.{IsMade, acks_to, carried, heard_hops}, Frames.{Sending, frames_to, sent_frame}, ReadyControllers.unacknowledged}

-- Only what was sent waits

one-waits : (hops : ℕ → HopState) (o : Out) → ((d : ℕ) → length (hops d).unacked ≤ (hops d).sent) →
    (d : ℕ) → length (sent_one hops o d).unacked ≤ (sent_one hops o d).sent
one-waits hops o wait d = go (nat_eq d o.to.0) (wait d)
  where
    one : Unacked
    one = record { number = (hops d).sent + 1; age = 0; msg = o.msg }

    go : (b : Bool) → length (hops d).unacked ≤ (hops d).sent →
        length (cond b (sent_message (hops d) o.msg) (hops d)).unacked
        ≤ (cond b (sent_message (hops d) o.msg) (hops d)).sent
    go true h = rw (length-append (hops d).unacked (one ∷ [])) (omega arith)
    go false h = h

pub all-wait : (outs : List Out) (hops : ℕ → HopState) → ((d : ℕ) → length (hops d).unacked ≤ (hops d).sent) →
    (d : ℕ) → length (sent_on hops outs d).unacked ≤ (sent_on hops outs d).sent
all-wait [] hops wait d = wait d
all-wait (o ∷ outs) hops wait d = all-wait outs (sent_one hops o) (one-waits hops o wait) d

fewer-left : (acks : List MsgId) (ws : List Unacked) → length (still_unacked acks ws) ≤ length ws
fewer-left acks [] = omega arith
fewer-left acks (w ∷ ws) = go (not (is_acked acks w)) (fewer-left acks ws)
  where
    go : (b : Bool) → length (still_unacked acks ws) ≤ length ws →
        length (cond b (w ∷ still_unacked acks ws) (still_unacked acks ws)) ≤ suc (length ws)
    go true h = omega arith
    go false h = omega arith

pub heard-waits : (hops : ℕ → HopState) (u : NodeId) (q : Packet) →
    ((d : ℕ) → length (hops d).unacked ≤ (hops d).sent) → (d : ℕ) →
    length (heard_hops hops u q d).unacked ≤ (heard_hops hops u q d).sent
heard-waits hops u q wait d = go (nat_eq d u.0) (wait d) (fewer-left q.acks (hops d).unacked)
  where
    go : (b : Bool) → length (hops d).unacked ≤ (hops d).sent →
        length (still_unacked q.acks (hops d).unacked) ≤ length (hops d).unacked →
        length (cond b (received (hops d) q) (hops d)).unacked ≤ (cond b (received (hops d) q) (hops d)).sent
    go true h k = omega arith
    go false h k = h

pub older-waits : (ws : List Unacked) (sent : ℕ) → length ws ≤ sent → length (map older ws) ≤ sent
older-waits ws sent wait = subst (λ n. n ≤ sent) (sym (length-map ws older)) wait

-- All that waits

sum-few : (xs : List Adjacency) →
    AllByRecursion (λ (a : Adjacency). length a.hop.state.unacked ≤ 65536 * MOST_EVENTS) xs →
    unacknowledged xs ≤ length xs * (65536 * MOST_EVENTS)
sum-few [] each = omega arith
sum-few (a ∷ xs) each =
    let one : length a.hop.state.unacked ≤ 65536 * MOST_EVENTS = each.0 in
    let later : unacknowledged xs ≤ length xs * (65536 * MOST_EVENTS) = sum-few xs each.1 in
    omega arith

pub unacknowledged-few : (p : LocalNode) (xs : List Adjacency) → peer_numbers xs ≡ neighbours p →
    length (neighbours p) ≤ MOST_LINKS →
    AllByRecursion (λ (a : Adjacency). length a.hop.state.unacked ≤ 65536 * MOST_EVENTS) xs →
    unacknowledged xs ≤ MOST_LINKS * (65536 * MOST_EVENTS)
unacknowledged-few p xs peers narrow each =
    let count : length xs ≡ length (neighbours p) =
    sym (length-map xs (λ (a : Adjacency). a.peer.0)) ∙ ap length peers in
    let total : unacknowledged xs ≤ length xs * (65536 * MOST_EVENTS) = sum-few xs each in
    omega arith

-- What goes out

again-few : (ws : List Unacked) → length (again (map older ws)) ≤ length ws
again-few [] = omega arith
again-few (w ∷ ws) = go (is_due (older_age w.age)) (again-few ws)
  where
    rest : List Unacked
    rest = filter (λ (v : Unacked). is_due v.age) (map older ws)

    go : (b : Bool) → length (again (map older ws)) ≤ length ws →
        length (map (λ (v : Unacked). numbered v.number v.msg) (cond b (older w ∷ rest) rest)) ≤ suc (length ws)
    go true h = omega arith
    go false h = omega arith

pub due-few : (xs : List Adjacency) → length (flat_map again_to xs) ≤ unacknowledged xs
due-few [] = omega arith
due-few (a ∷ xs) =
    let same : length (again_to a) ≡ length (resent a.hop.state) = length-map (resent a.hop.state) _ in
    let one : length (resent a.hop.state) ≤ length a.hop.state.unacked = again-few a.hop.state.unacked in
    let later : length (flat_map again_to xs) ≤ unacknowledged xs = due-few xs in
    rw (length-append (again_to a) (flat_map again_to xs)) (omega arith)

pub acks-few : (u : NodeId) (v : Heard) (q : Packet) → length (acks_to u v q) ≤ MOST_LINKS * (65536 * (MOST_EVENTS + 1))
acks-few u Next q = omega arith
acks-few u Repeat q = omega arith
acks-few u Acked q = omega arith
acks-few u Unnumbered q = omega arith
acks-few u Ahead q = omega arith

packets-count : (outs : List Out) (hops : ℕ → HopState) → length (packets_on hops outs) ≡ length outs
packets-count [] hops = refl
packets-count (o ∷ outs) hops = ap suc (packets-count outs (sent_one hops o))

-- the frames of a step
pub frames-few : (p : LocalNode) (me : NodeId) (first : List Sending) (hops : ℕ → HopState) (a : Answer)
    (none frames : List Frame) → length first ≤ MOST_LINKS * (65536 * (MOST_EVENTS + 1)) → CanBeSent p a → none ≡ [] →
    frames ≡ none ++ frames_to me (first ++ packets_on hops a.sent) → length frames ≤ 2 ^ 40
frames-few p me first hops a none frames before can start e =
    let all : length frames ≡ length (frames_to me (first ++ packets_on hops a.sent)) =
    ap length (e ∙ ap (λ fs. fs ++ frames_to me (first ++ packets_on hops a.sent)) start) in
    let same : length (frames_to me (first ++ packets_on hops a.sent)) ≡ length (first ++ packets_on hops a.sent) =
    length-map (first ++ packets_on hops a.sent) (λ (s : Sending). sent_frame me s.to s.content) in
    let both : length (first ++ packets_on hops a.sent) ≡ length first + length (packets_on hops a.sent) =
    length-append first (packets_on hops a.sent) in
    let count : length (packets_on hops a.sent) ≡ length a.sent = packets-count a.sent hops in
    let few : length a.sent ≤ 65536 = can.few in
    omega arith

pub made-few : (n m : NodeView) (before after : List Adjacency) (hops : ℕ → HopState) (a : Answer)
    (first : List Sending) (frames : List Frame) → length first ≤ MOST_LINKS * (65536 * (MOST_EVENTS + 1)) →
    CanBeSent n.place a →
    IsMade n m before after (carried hops n.state a first) frames → length frames ≤ 2 ^ 40
made-few n m before after hops a first frames few can made =
    frames-few n.place n.place.id first hops a [] frames few can refl made.frames
