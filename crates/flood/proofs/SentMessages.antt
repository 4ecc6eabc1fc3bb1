-- What a node sends, to one of the others.
use Rattle.std.proofs.{Common.{◌≡◌, ◌⊎◌, inl, inr, ℕ, ◌+◌, ◌==◌, Bool, true, false, cond, not, List, [], ◌∷◌, map, filter, refl, ap, ◌∙◌, Contains}, lemmas.Bool.not-true}
use Rattle.std.specs.Prelude.{Some}
use Rattle.ason_base.specs.{declared.ids.NodeId.NodeId, declared.network.TeRow.TeRow}
use Rattle.ason_base.proofs.Members.{contains-cases, kept-there, there-from_flat, there-from_map, contains-none}
use Rattle.flood.specs.{declared.due.Due.Due, declared.messages.FloodMsg.FloodMsg, declared.messages.FloodMsg.TheVariants.{Row, Ack}, State.{FloodState, NeighbourState, first_sending, first_sendings, goes_at, is_from, is_new, older_due, sending, sends_after, sent_at_tick, rows_sent_to}, Networks.sent_to_node}

-- the message goes to the node d
pub record GoesTo (d : ℕ) (sends : List (NodeId × FloodMsg)) (m : FloodMsg) : Type 0 where
  pub send : NodeId × FloodMsg
  pub there : Contains sends send
  pub to : (send.0.0 == d) ≡ true
  pub is : send.1 ≡ m

goes_to : (d : ℕ) (sends : List (NodeId × FloodMsg)) (m : FloodMsg) → Contains (sent_to_node d sends) m
    → GoesTo d sends m
goes_to d sends m there =
    let made = there-from_map (λ (s : NodeId × FloodMsg). s.1)
    (filter (λ (s : NodeId × FloodMsg). s.0.0 == d) sends) m there in
    let kept = kept-there (λ (s : NodeId × FloodMsg). s.0.0 == d) sends made.0 made.1 in
    record { send = made.0; there = kept.0; to = kept.1; is = made.2 }

-- the row of something that is due to the neighbour d
pub record SentAgain (s : FloodState) (d : ℕ) (m : FloodMsg) : Type 0 where
  pub line : NeighbourState
  pub due : Due
  pub neighbour : Contains s.neighbours line
  pub to : (line.id.0 == d) ≡ true
  pub there : Contains line.due due
  pub is : Row due.number due.origin due.row ≡ m

pub sent_in_tick : (s : FloodState) (d : ℕ) (m : FloodMsg) → Contains (sent_to_node d (sent_at_tick s)) m
    → SentAgain s d m
sent_in_tick s d m there =
    let goes = goes_to d (sent_at_tick s) m there in
    let of = there-from_flat rows_sent_to s.neighbours goes.send goes.there in
    let sent = there-from_map (sending of.0.id) (filter (λ (e : Due). goes_at e.age) (map older_due of.0.due)) goes.send
    of.2 in
    let aged = kept-there (λ (e : Due). goes_at e.age) (map older_due of.0.due) sent.0 sent.1 in
    let before = there-from_map older_due of.0.due sent.0 aged.0 in
    let send : sending of.0.id (older_due before.0) ≡ goes.send = ap (sending of.0.id) before.2 ∙ sent.2 in
    record {
      line = of.0;
      due = before.0;
      neighbour = of.1;
      to = ap (λ (q : NodeId × FloodMsg). q.0.0 == d) send ∙ goes.to;
      there = before.1;
      is = ap (λ (q : NodeId × FloodMsg). q.1) send ∙ goes.is;
    }

-- a new row to the neighbour d, under its next number
pub record SentFirst (s : FloodState) (from origin : NodeId) (row : TeRow) (d : ℕ) (m : FloodMsg) : Type 0 where
  pub new : is_new s row ≡ true
  pub line : NeighbourState
  pub neighbour : Contains s.neighbours line
  pub other : (line.id.0 == from.0) ≡ false
  pub to : (line.id.0 == d) ≡ true
  pub is : Row (line.sent + 1) origin row ≡ m

-- the acknowledgement of what came from d
pub record IsAnswer (from : NodeId) (number d : ℕ) (m : FloodMsg) : Type 0 where
  pub to : (from.0 == d) ≡ true
  pub is : Ack number ≡ m

first_sent : (s : FloodState) (from origin : NodeId) (row : TeRow) (d : ℕ) (m : FloodMsg) → is_new s row ≡ true
    → GoesTo d (first_sendings from origin row s.neighbours) m → SentFirst s from origin row d m
first_sent s from origin row d m new goes =
    let made = there-from_map (first_sending origin row)
    (filter (λ (n : NeighbourState). not (is_from (Some from) n)) s.neighbours) goes.send goes.there in
    let kept = kept-there (λ (n : NeighbourState). not (is_from (Some from) n)) s.neighbours made.0 made.1 in
    record {
      new = new;
      line = made.0;
      neighbour = kept.0;
      other = not-true (made.0.id.0 == from.0) kept.1;
      to = ap (λ (q : NodeId × FloodMsg). q.0.0 == d) made.2 ∙ goes.to;
      is = ap (λ (q : NodeId × FloodMsg). q.1) made.2 ∙ goes.is;
    }

pub sent_after_row : (s : FloodState) (from : NodeId) (number : ℕ) (origin : NodeId) (row : TeRow) (d : ℕ)
    (m : FloodMsg)
    → Contains (sent_to_node d (sends_after s from (Row number origin row))) m
    → IsAnswer from number d m ⊎ SentFirst s from origin row d m
sent_after_row s from number origin row d m there =
    let goes = goes_to d (sends_after s from (Row number origin row)) m there in
    by_new goes (is_new s row) refl goes.there
  where
    answer : (g : GoesTo d (sends_after s from (Row number origin row)) m) → (from, Ack number) ≡ g.send
        → IsAnswer from number d m
    answer g first = record {
      to = ap (λ (q : NodeId × FloodMsg). q.0.0 == d) first ∙ g.to;
      is = ap (λ (q : NodeId × FloodMsg). q.1) first ∙ g.is;
    }

    by_new : (g : GoesTo d (sends_after s from (Row number origin row)) m) (b : Bool) → is_new s row ≡ b
        → Contains ((from, Ack number) ∷ cond b (first_sendings from origin row s.neighbours) []) g.send
        → IsAnswer from number d m ⊎ SentFirst s from origin row d m
    by_new g true new at = elim (contains-cases (from, Ack number) g.send
        (first_sendings from origin row s.neighbours) at) [
          | inl first ↦ inl (answer g first)
          | inr later ↦ inr (first_sent s from origin row d m new
              (record { send = g.send; there = later; to = g.to; is = g.is }))
        ]
    by_new g false new at = elim (contains-cases (from, Ack number) g.send [] at) [
      | inl first ↦ inl (answer g first)
      | inr later ↦ absurd (contains-none g.send later)
    ]
