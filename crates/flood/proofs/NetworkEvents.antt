-- What lasts in a network of floods lasts where a node takes a row, and so through every event.
use Rattle.std.proofs.Common.{◌≡◌, inl, inr, ℕ, ◌==◌, Bool, true, false, cond, List, [], ◌∷◌, ◌++◌, refl, subst, arith, Contains}
use Rattle.std.specs.{Prelude.{Option, Some, None}, List.slice_get}
use Rattle.ason_base.specs.{declared.ids.NodeId.NodeId, declared.network.TeRow.TeRow}
use Rattle.ason_base.proofs.{Numbers.equal-is, Bools.not-both}
use Rattle.flood.specs.{declared.messages.FloodMsg.FloodMsg, declared.messages.FloodMsg.TheVariants.{Row, Ack}, State.{FloodState, NeighbourState, is_from, is_known, is_new, flood_received, sends_after, sent_at_tick, ticked_flood, with_row}, Networks.{FloodEvent, FloodNetwork, Take, Tick, floods_after, sent_to_node, floods_step, floods_taken}, NetworkLaws.AreRowsOfLinks}
use Rattle.flood.proofs.{Members.there_from_place, KnownRows.known_row, SentMessages.{IsAnswer, sent_after_row}, NodeFacts.{facts_received, known_on, taken_is_known}, ChannelFacts.{IsHeard, IsNumberedRow, flow_again, flow_far}, RowsGiven.{first_numbered, flow_learns, flow_told}, NetworkFacts.{FlowOf, FollowsNetwork, Lasts, acks_follow, lasts_with, ticks_follow}}

-- A row is taken.

module _ (rows : List TeRow) (w : FloodNetwork) (n : ℕ) (u : NodeId) (number : ℕ) (origin : NodeId) (row : TeRow)
    (are : AreRowsOfLinks rows) (all : Lasts rows w)
    (there : Contains (w.channels u.0 n) (Row number origin row)) where
  abbrev next : FloodState
  next = flood_received (w.nodes n) u (Row number origin row)

  abbrev sends : List (NodeId × FloodMsg)
  sends = sends_after (w.nodes n) u (Row number origin row)

  apart : (b : Bool) → (u.0 == n) ≡ b → (u.0 == n) ≡ false
  apart true e = absurd (all.silent n (Row number origin row)
      (subst (λ k. Contains (w.channels k n) (Row number origin row)) (equal-is u.0 n e) there))
  apart false e = e

  other : (u.0 == n) ≡ false
  other = apart (u.0 == n) refl

  -- who sent it knows it, and it is of the network
  sender_knows : Contains (w.nodes u.0).rows row
  sender_knows =
      let f = all.flow u.0 n other in
      let is = f.flow.frames number origin row there in
      f.flow.backed is.place origin row is.at

  of_network : Contains rows row
  of_network = (all.node u.0).truth row sender_knows

  known_next : is_known next.rows row.link ≡ true
  known_next = taken_is_known rows are n (w.nodes n) u origin number row (all.node n) (all.own n) of_network

  more_known : (r : TeRow) → is_known (w.nodes n).rows r.link ≡ true → is_known next.rows r.link ≡ true
  more_known r known = known_on (w.nodes n) u (Row number origin row) r known

  no_row : (k : ℕ) (o : NodeId) (r : TeRow) (d : ℕ) → IsAnswer u number d (Row k o r) → ⊥
  no_row k o r d answer = absurd (cc (answer.is))

  -- towards another node b

  near : (b : ℕ) → FlowOf (w.nodes n) (w.nodes b) b (w.channels n b) (w.channels b n)
      → FlowOf next (w.nodes b) b (w.channels n b ++ sent_to_node b sends) (w.channels b n)
  near b f = by_new (is_new (w.nodes n) row) refl (u.0 == b) refl
    where
      told : (u.0 == b) ≡ true → (k : ℕ) (o : NodeId) (r : TeRow) → Contains (sent_to_node b sends) (Row k o r)
          → IsNumberedRow f.given k o r
      told is k o r at = elim (sent_after_row (w.nodes n) u number origin row b (Row k o r) at) [
        | inl answer ↦ absurd (no_row k o r b answer)
        | inr first ↦ absurd (not-both (first.line.id.0 == u.0) (agree first.line.id.0 u.0 b first.to is) first.other)
      ]
        where
          agree : (x y z : ℕ) → (x == z) ≡ true → (y == z) ≡ true → (x == y) ≡ true
          agree x y z h k = grind arith

      first : (k : ℕ) (o : NodeId) (r : TeRow) → Contains (sent_to_node b sends) (Row k o r)
          → IsNumberedRow (f.given ++ (origin, row) ∷ []) k o r
      first k o r at = elim (sent_after_row (w.nodes n) u number origin row b (Row k o r) at) [
        | inl answer ↦ absurd (no_row k o r b answer)
        | inr new ↦ first_numbered f.given (w.nodes b) new.line origin row k o r
            (f.flow.lines new.line new.neighbour new.to) new.is
      ]

      none : is_new (w.nodes n) row ≡ false → (k : ℕ) (o : NodeId) (r : TeRow)
          → Contains (sent_to_node b sends) (Row k o r) → IsNumberedRow f.given k o r
      none old k o r at = elim (sent_after_row (w.nodes n) u number origin row b (Row k o r) at) [
        | inl answer ↦ absurd (no_row k o r b answer)
        | inr new ↦ absurd (not-both (is_new (w.nodes n) row) new.new old)
      ]

      goes_there : (u.0 == b) ≡ false → (l : NeighbourState) → (l.id.0 == b) ≡ true → is_from (Some u) l ≡ false
      goes_there h l to = differ l.id.0 u.0 b to h
        where
          differ : (x y z : ℕ) → (x == z) ≡ true → (y == z) ≡ false → (x == y) ≡ false
          differ x y z p q = grind arith

      by_new : (c : Bool) → is_new (w.nodes n) row ≡ c → (e : Bool) → (u.0 == b) ≡ e
          → FlowOf (cond c (with_row (w.nodes n) (Some u) origin (Some 0) row) (w.nodes n)) (w.nodes b) b
          (w.channels n b ++ sent_to_node b (sends_after (w.nodes n) u (Row number origin row))) (w.channels b n)
      by_new true new true is = record {
        given = f.given;
        flow = flow_told (w.nodes n) (w.nodes b) b (w.channels n b) (w.channels b n)
            (sent_to_node b sends) f.given u origin (Some 0) row is
            (known_row (w.nodes b).rows row (subst (λ k. Contains (w.nodes k).rows row)
            (equal-is u.0 b is) sender_knows)) (told is) f.flow;
      }
      by_new true new false h = record {
        given = f.given ++ (origin, row) ∷ [];
        flow = flow_learns (w.nodes n) (w.nodes b) b (w.channels n b) (w.channels b n) (sent_to_node b sends) f.given
            (Some u) origin (Some 0) row
            (goes_there h) first f.flow;
      }
      by_new false old e h = record {
        given = f.given;
        flow = flow_again (w.nodes n) (w.nodes b) b (w.channels n b) (w.channels b n) (sent_to_node b sends) f.given
            (none old) f.flow;
      }

  -- for another node a

  far : (a : ℕ) → FlowOf (w.nodes a) (w.nodes n) n (w.channels a n) (w.channels n a)
      → FlowOf (w.nodes a) next n (w.channels a n) (w.channels n a ++ sent_to_node a sends)
  far a f = record {
    given = f.given;
    flow = flow_far (w.nodes a) (w.nodes n) next n (w.channels a n) (w.channels n a)
        (sent_to_node a sends) f.given more_known heard f.flow;
  }
    where
      heard : (k : ℕ) → Contains (sent_to_node a sends) (Ack k) → IsHeard f.given next k
      heard k at = elim (sent_after_row (w.nodes n) u number origin row a (Ack k) at) [
        | inl answer ↦
            let is : number ≡ k = (let same = answer.is in cc) in
            let to : Contains (w.channels a n) (Row number origin row) =
            subst (λ j. Contains (w.channels j n) (Row number origin row)) (equal-is u.0 a answer.to) there
            in
            record {
              origin = origin;
              row = row;
              numbered = subst (λ j. IsNumberedRow f.given j origin row) is (f.flow.frames number origin row to);
              known = known_next;
            }
        | inr first ↦ absurd (cc (first.is))
      ]

  silent_still : (m : FloodMsg) → Contains (sent_to_node n sends) m → ⊥
  silent_still m at = elim (sent_after_row (w.nodes n) u number origin row n m at) [
    | inl answer ↦ not-both (u.0 == n) answer.to other
    | inr first ↦ not-both (first.line.id.0 == n) first.to ((all.node n).lines first.line first.neighbour).other
  ]

  rows_follow : FollowsNetwork rows w n (flood_received (w.nodes n) u (Row number origin row))
      (sends_after (w.nodes n) u (Row number origin row))
  rows_follow = record {
    node = facts_received rows n (w.nodes n) u (Row number origin row)
        (λ k o r is. subst (Contains rows) (let same : row ≡ r = cc in same) of_network)
        (all.node n);
    own = record { own = λ r at end. more_known r ((all.own n).own r at end) };
    silent = silent_still;
    near = λ b apart. near b (all.flow n b apart);
    far = λ a apart. far a (all.flow a n apart);
  }

-- Every event

taken_lasts : (rows : List TeRow) → AreRowsOfLinks rows
    → (w : FloodNetwork) (d u : NodeId) (o : Option FloodMsg) (k : ℕ)
    → slice_get (w.channels u.0 d.0) k ≡ o → Lasts rows w → Lasts rows (floods_taken w d u o)
taken_lasts rows are w d u None k at all = all
taken_lasts rows are w d u (Some (Ack number)) k at all =
    lasts_with rows w d.0 (flood_received (w.nodes d.0) u (Ack number)) [] all
    (acks_follow rows w d.0 u number all (there_from_place (w.channels u.0 d.0) k (Ack number) at))
taken_lasts rows are w d u (Some (Row number origin row)) k at all =
    lasts_with rows w d.0 (flood_received (w.nodes d.0) u (Row number origin row))
    (sends_after (w.nodes d.0) u (Row number origin row)) all
    (rows_follow rows w d.0 u number origin row are all
    (there_from_place (w.channels u.0 d.0) k (Row number origin row) at))

step_lasts : (rows : List TeRow) → AreRowsOfLinks rows → (w : FloodNetwork) (e : FloodEvent) → Lasts rows w
    → Lasts rows (floods_step w e)
step_lasts rows are w (Tick n) all =
    lasts_with rows w n.0 (ticked_flood (w.nodes n.0)) (sent_at_tick (w.nodes n.0)) all (ticks_follow rows w n.0 all)
step_lasts rows are w (Take d u k) all =
    taken_lasts rows are w d u (slice_get (w.channels u.0 d.0) k) k refl all

pub run_lasts : (rows : List TeRow) → AreRowsOfLinks rows → (events : List FloodEvent) (w : FloodNetwork) → Lasts rows w
    → Lasts rows (floods_after w events)
run_lasts rows are [] w all = all
run_lasts rows are (e ∷ es) w all =
    run_lasts rows are es (floods_step w e) (step_lasts rows are w e all)
