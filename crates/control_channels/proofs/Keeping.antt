-- What a controller keeps, so that its next step can be made.
use Rattle.std.proofs.{Common.{◌≡◌, ◌≤◌, ◌<◌, ◌+◌, ◌*◌, ℕ, Bool, true, false, cond, not, nat_eq, List, [], ◌∷◌, length, map, refl, sym, ◌∙◌, subst, arith}, ByRecursion.All-append}
use Rattle.std.specs.{Prelude.{Option, Some, None, nat_lt}, List.AllByRecursion, Option.option_to_list}
use Rattle.ason_base.specs.{declared.limits.TheConstants.MOST_EVENTS, declared.commands.DeskItem.DeskItem, declared.ids.NodeId.NodeId, declared.messages.Msg.Msg, declared.messages.MsgId.MsgId, declared.messages.Packet.Packet, declared.tables.Out.Out, InOrder.{in_order, put_in}, Writable.IsWritableMsg}
use Rattle.hop_reliable.specs.{declared.heard.Heard.Heard, declared.heard.Heard.TheVariants.{Acked, Unnumbered, Ahead, Repeat, Next}, declared.unacked.Unacked.Unacked, Hop.{HopState, handed_up_of, is_acked, older, received, sent_message, still_unacked}}
use Rattle.mesh_nodes.proofs.{Items.items-fit, Messages.messages-fit, Ticks.ticks-fit}
use Rattle.mesh_nodes.specs.{FitNodes.NodeFits, LocalNodes.LocalNodeFits, Sent.{AllWritable, AnswerFits, CanBePassedOn}, Nodes.NodeView}
use Rattle.mesh_rules.specs.{Changes.{Answer, nothing}, Events.on_first, LocalNodes.LocalNode, Orders.on_item, Waits.on_tick, State.NodeState}
use Rattle.control_channels.specs.{declared.adjacencies.Adjacency.Adjacency, declared.frames.Frame.Frame, Adjacencies.{CanGoAgain, hop_at, peer_numbers, rested, sent_on, sent_one}, Answers.{BodyCanBePassedOn, CanBeSent}, Controllers.{IsMade, carried, heard_hops}, Frames.Sending, ReadyControllers.{IsKeptAfter, IsReady}}
use Rattle.control_channels.proofs.{Counting.{all-wait, unacknowledged-few}, Reaching.{each-to_neighbour, neighbour-reached, peers-near}}

pub is-ready : (p : LocalNode) (xs : List Adjacency) (steps : ℕ) → IsKeptAfter p xs steps → steps < MOST_EVENTS →
    IsReady p xs
is-ready p xs steps k few = record {
  reached = neighbour-reached p xs k.peers;
  again = each-to_neighbour CanGoAgain p xs k.peers tt k.again;
  left = λ d. let sent : (hop_at xs d).sent ≤ 65536 * steps = k.few d in omega arith;
  near = peers-near p xs k.peers;
  narrow = k.narrow;
  waiting = unacknowledged-few p xs k.peers k.narrow
      (each-to_neighbour (λ (h : HopState). length h.unacked ≤ 65536 * MOST_EVENTS) p xs k.peers (omega arith) waits);
  rest = k.rest;
}
  where
    waits : (d : ℕ) → length (hop_at xs d).unacked ≤ 65536 * MOST_EVENTS
    waits d =
        let sent : (hop_at xs d).sent ≤ 65536 * steps = k.few d in
        let wait : length (hop_at xs d).unacked ≤ (hop_at xs d).sent = k.waiting d in
        omega arith

-- Hops that sent

one-again : (hops : ℕ → HopState) (o : Out) → IsWritableMsg o.msg → ((d : ℕ) → CanGoAgain (hops d)) → (d : ℕ) →
    CanGoAgain (sent_one hops o d)
one-again hops o can again d = go (nat_eq d o.to.0)
  where
    go : (b : Bool) → CanGoAgain (cond b (sent_message (hops d) o.msg) (hops d))
    go true =
        All-append (λ (w : Unacked). IsWritableMsg w.msg) (hops d).unacked
        (record { number = (hops d).sent + 1; age = 0; msg = o.msg } ∷ []) (again d) (can, tt)
    go false = again d

all-again : (outs : List Out) (hops : ℕ → HopState) → AllWritable outs → ((d : ℕ) → CanGoAgain (hops d)) → (d : ℕ) →
    CanGoAgain (sent_on hops outs d)
all-again [] hops can again d = again d
all-again (o ∷ outs) hops can again d = all-again outs (sent_one hops o) can.1 (one-again hops o can.0 again) d

one-sent : (hops : ℕ → HopState) (o : Out) (most : ℕ) → ((d : ℕ) → (hops d).sent ≤ most) → (d : ℕ) →
    (sent_one hops o d).sent ≤ most + 1
one-sent hops o most few d = go (nat_eq d o.to.0) (few d)
  where
    go : (b : Bool) → (hops d).sent ≤ most → (cond b (sent_message (hops d) o.msg) (hops d)).sent ≤ most + 1
    go true h = omega arith
    go false h = omega arith

all-sent : (outs : List Out) (hops : ℕ → HopState) (most : ℕ) → ((d : ℕ) → (hops d).sent ≤ most) → (d : ℕ) →
    (sent_on hops outs d).sent ≤ most + length outs
all-sent [] hops most few d = let f = few d in omega arith
all-sent (o ∷ outs) hops most few d = let f =
    all-sent outs (sent_one hops o) (most + 1) (one-sent hops o most few) d in omega arith

pub kept-next : (p : LocalNode) (before after : List Adjacency) (steps : ℕ) (hops : ℕ → HopState) (a : Answer) →
    IsKeptAfter p before steps →
    ((d : ℕ) → (hops d).sent ≡ (hop_at before d).sent) → ((d : ℕ) → CanGoAgain (hops d)) →
    ((d : ℕ) → length (hops d).unacked ≤ (hops d).sent) → CanBeSent p a →
    ((d : ℕ) → hop_at after d ≡ sent_on hops a.sent d) → peer_numbers after ≡ peer_numbers before →
    map rested after ≡ after →
    IsKeptAfter p after (steps + 1)
kept-next p before after steps hops a k same again wait can are peers rest = record {
  peers = peers ∙ k.peers;
  narrow = k.narrow;
  again = λ d. subst CanGoAgain (sym (are d)) (all-again a.sent hops can.written again d);
  few = λ d.
      let sent : (sent_on hops a.sent d).sent ≤ 65536 * steps + length a.sent =
      all-sent a.sent hops (65536 * steps) (λ e. subst (λ n. n ≤ 65536 * steps) (sym (same e)) (k.few e)) d in
      let few : length a.sent ≤ 65536 = can.few in
      subst (λ (h : HopState). h.sent ≤ 65536 * (steps + 1)) (sym (are d)) (omega arith);
  waiting = λ d. subst (λ (h : HopState). length h.unacked ≤ h.sent) (sym (are d)) (all-wait a.sent hops wait d);
  rest = rest;
}

-- Hops that heard, and hops that ticked

each-left : (acks : List MsgId) (ws : List Unacked) → AllByRecursion (λ (w : Unacked). IsWritableMsg w.msg) ws →
    AllByRecursion (λ (w : Unacked). IsWritableMsg w.msg) (still_unacked acks ws)
each-left acks [] h = tt
each-left acks (w ∷ ws) h = go (not (is_acked acks w)) (each-left acks ws h.1)
  where
    go : (b : Bool) → AllByRecursion (λ (v : Unacked). IsWritableMsg v.msg) (still_unacked acks ws) →
        AllByRecursion (λ (v : Unacked). IsWritableMsg v.msg)
        (cond b (w ∷ still_unacked acks ws) (still_unacked acks ws))
    go true r = (h.0, r)
    go false r = r

pub heard-again : (hops : ℕ → HopState) (u : NodeId) (q : Packet) → ((d : ℕ) → CanGoAgain (hops d)) → (d : ℕ) →
    CanGoAgain (heard_hops hops u q d)
heard-again hops u q again d = go (nat_eq d u.0)
  where
    go : (b : Bool) → CanGoAgain (cond b (received (hops d) q) (hops d))
    go true = each-left q.acks (hops d).unacked (again d)
    go false = again d

pub heard-sent : (hops : ℕ → HopState) (u : NodeId) (q : Packet) (d : ℕ) → (heard_hops hops u q d).sent ≡ (hops d).sent
heard-sent hops u q d = go (nat_eq d u.0)
  where
    go : (b : Bool) → (cond b (received (hops d) q) (hops d)).sent ≡ (hops d).sent
    go true = refl
    go false = refl

pub older-again : (ws : List Unacked) → AllByRecursion (λ (w : Unacked). IsWritableMsg w.msg) ws →
    AllByRecursion (λ (w : Unacked). IsWritableMsg w.msg) (map older ws)
older-again [] h = tt
older-again (w ∷ ws) h = (h.0, older-again ws h.1)

-- Answers

fits-sent : (p : LocalNode) (s : NodeState) (W : Type 0) (a : Answer) → AnswerFits p s W a → W → CanBeSent p a
fits-sent p s W a f w = record { near = f.near; written = f.written w; few = f.few }

nothing-sent : (p : LocalNode) → CanBeSent p nothing
nothing-sent p = record { near = tt; written = tt; few = omega arith }

pub item-sent : (p : LocalNode) (s : NodeState) (i : DeskItem) → LocalNodeFits p → NodeFits p s →
    CanBeSent p (on_item p s i)
item-sent p s i place fits = fits-sent p s (Unit {0}) (on_item p s i) (items-fit p s i place fits) tt

pub tick-sent : (p : LocalNode) (s : NodeState) → NodeFits p s → length s.calls ≤ 65536 → CanBeSent p (on_tick p s)
tick-sent p s fits few = fits-sent p s (Unit {0}) (on_tick p s) (ticks-fit p s fits few) tt

pub heard-answered : (p : LocalNode) (s : NodeState) (u : NodeId) (v : Heard) (q : Packet) → LocalNodeFits p →
    NodeFits p s →
    BodyCanBePassedOn q.body → CanBeSent p (on_first p s u (handed_up_of v q))
heard-answered p s u v q place fits body = go v
  where
    by : (b : Option Msg) → BodyCanBePassedOn b → CanBeSent p (on_first p s u (option_to_list b))
    by None can = nothing-sent p
    by (Some m) can = fits-sent p s (CanBePassedOn m) (on_first p s u (m ∷ [])) (messages-fit p s u m place fits) can

    go : (v : Heard) → CanBeSent p (on_first p s u (handed_up_of v q))
    go Next = by q.body body
    go Acked = nothing-sent p
    go Unnumbered = nothing-sent p
    go Ahead = nothing-sent p
    go Repeat = nothing-sent p

-- Where frames go

-- the next step of a made one
pub made-kept : (n m : NodeView) (before after : List Adjacency) (steps : ℕ) (hops : ℕ → HopState) (a : Answer)
    (first : List Sending) (frames : List Frame) →
    IsKeptAfter n.place before steps → ((d : ℕ) → (hops d).sent ≡ (hop_at before d).sent) →
    ((d : ℕ) → CanGoAgain (hops d)) →
    ((d : ℕ) → length (hops d).unacked ≤ (hops d).sent) → CanBeSent n.place a →
    IsMade n m before after (carried hops n.state a first) frames → IsKeptAfter m.place after (steps + 1)
made-kept n m before after steps hops a first frames k same again wait can made =
    subst (λ p. IsKeptAfter p after (steps + 1)) (sym made.becomes.place)
    (kept-next n.place before after steps hops a k same again wait can made.becomes.hops made.becomes.peers
    made.becomes.rest)

-- after a step that changes nothing
pub kept-still : (p : LocalNode) (xs : List Adjacency) (steps : ℕ) → IsKeptAfter p xs steps →
    IsKeptAfter p xs (steps + 1)
kept-still p xs steps k = record {
  peers = k.peers;
  narrow = k.narrow;
  again = k.again;
  few = λ d. let sent : (hop_at xs d).sent ≤ 65536 * steps = k.few d in omega arith;
  waiting = k.waiting;
  rest = k.rest;
}

one-put : (x : ℕ) (xs : List ℕ) → length (put_in nat_lt x xs) ≤ 1 + length xs
one-put x [] = omega arith
one-put x (y ∷ ys) = go (nat_lt x y) (nat_lt y x) (one-put x ys)
  where
    go : (a b : Bool) → length (put_in nat_lt x ys) ≤ 1 + length ys →
        length (cond a (x ∷ y ∷ ys) (cond b (y ∷ put_in nat_lt x ys) (y ∷ ys))) ≤ 1 + length (y ∷ ys)
    go true b h = omega arith
    go false true h = omega arith
    go false false h = omega arith

pub order-few : (xs : List ℕ) → length (in_order nat_lt xs) ≤ length xs
order-few [] = omega arith
order-few (x ∷ xs) =
    let later : length (in_order nat_lt xs) ≤ length xs = order-few xs in
    let one : length (put_in nat_lt x (in_order nat_lt xs)) ≤ 1 + length (in_order nat_lt xs) =
    one-put x (in_order nat_lt xs) in
    omega arith
