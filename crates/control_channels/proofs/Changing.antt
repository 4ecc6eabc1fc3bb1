-- One adjacency is changed: the first one to a neighbour.
use Rattle.std.proofs.Common.{◌≡◌, ◌+◌, ℕ, suc, Bool, true, false, cond, not, nat_eq, nat_lt, List, [], ◌∷◌, ◌++◌, drop, length, map, set, refl, sym, ap, ◌∙◌, subst, arith, append_assoc, length-append, one-add}
use Rattle.std.specs.{Prelude.{find, position, slice_get, Some, None, is_some}, List.position_or_len}
use Rattle.ason_base.specs.{declared.messages.Msg.Msg, declared.messages.MsgId.MsgId}
use Rattle.hop_reliable.specs.{declared.unacked.Unacked.Unacked, declared.heard.Heard.Heard, Hop.{PreparedHop, all_sent, last_number, resting, sent_message, taken, with_next}}
use Rattle.control_channels.specs.{declared.adjacencies.Adjacency.Adjacency, Adjacencies.{IsHopChangedAt, adjacency_at, hop_of, is_adjacency_to, next_at, peer_numbers, prepared_at, reaches, rested, taken_by, with_hop}}

-- the first adjacency to n with another hop
abbrev pub changed : ℕ → (PreparedHop → PreparedHop) → List Adjacency → List Adjacency
changed n f [] = []
changed n f (a ∷ rest) = cond (is_adjacency_to n a) (with_hop (f a.hop) a ∷ rest) (a ∷ changed n f rest)

record IsFound (n : ℕ) (f : PreparedHop → PreparedHop) (before : List Adjacency) (place : ℕ) : Type 0 where
  item : Adjacency
  there : slice_get before place ≡ Some item
  first : adjacency_at before n ≡ Some item
  after : set before place (with_hop (f item.hop) item) ≡ changed n f before

found_first : (n : ℕ) (f : PreparedHop → PreparedHop) (before : List Adjacency) →
    nat_lt (position_or_len (is_adjacency_to n) before) (length before) ≡ true →
    IsFound n f before (position_or_len (is_adjacency_to n) before)
found_first n f [] within = absurd (cc within)
found_first n f (a ∷ rest) within = go (found_first n f rest) (nat_eq a.peer.0 n) refl within
  where
    nearer : (i j : ℕ) → nat_lt (1 + i) (suc j) ≡ true → nat_lt i j ≡ true
    nearer i j h = grind arith

    go : (nat_lt (position_or_len (is_adjacency_to n) rest) (length rest) ≡ true →
        IsFound n f rest (position_or_len (is_adjacency_to n) rest)) →
        (b : Bool) → nat_eq a.peer.0 n ≡ b →
        nat_lt (cond (not b) (1 + position_or_len (is_adjacency_to n) rest) 0) (suc (length rest)) ≡ true →
        IsFound n f (a ∷ rest) (cond (not b) (1 + position_or_len (is_adjacency_to n) rest) 0)
    go later true e h = record { item = a; there = refl; first = rw e refl; after = rw e refl }
    go later false e h =
        let k : IsFound n f rest (position_or_len (is_adjacency_to n) rest) =
        later (nearer (position_or_len (is_adjacency_to n) rest) (length rest) h) in
        record {
          item = k.item;
          there = rw (one-add (position_or_len (is_adjacency_to n) rest)) k.there;
          first = rw e k.first;
          after = rw (one-add (position_or_len (is_adjacency_to n) rest), e) (ap (λ xs. a ∷ xs) k.after);
        }

-- the place that was found
place_is : (n : ℕ) (before : List Adjacency) (i : ℕ) → position (is_adjacency_to n) before ≡ Some i →
    (i ≡ position_or_len (is_adjacency_to n) before)
    × (nat_lt (position_or_len (is_adjacency_to n) before) (length before) ≡ true)
place_is n before i e = go (nat_lt (position_or_len (is_adjacency_to n) before) (length before)) refl e
  where
    go : (b : Bool) → nat_lt (position_or_len (is_adjacency_to n) before) (length before) ≡ b →
        cond b (Some (position_or_len (is_adjacency_to n) before)) None ≡ Some i →
        (i ≡ position_or_len (is_adjacency_to n) before) ×
        (b ≡ true)
    go true e h = (cc h, refl)
    go false e h = absurd (cc h)

found_at : (n : ℕ) (f : PreparedHop → PreparedHop) (before : List Adjacency) (i : ℕ) →
    position (is_adjacency_to n) before ≡ Some i →
    IsFound n f before i
found_at n f before i at =
    let place = place_is n before i at in
    subst (λ k. IsFound n f before k) (sym place.0) (found_first n f before place.1)

pub changed_is : (n : ℕ) (f : PreparedHop → PreparedHop) (before after : List Adjacency) (i : ℕ) →
    position (is_adjacency_to n) before ≡ Some i →
    IsHopChangedAt before i f after → after ≡ changed n f before
changed_is n f before after i at changes =
    let k = found_at n f before i at in changes k.item k.there ∙ k.after

-- the hop at the place
pub hop_there : (n : ℕ) (before : List Adjacency) (i : ℕ) → position (is_adjacency_to n) before ≡ Some i →
    (a : Adjacency) → slice_get before i ≡ Some a → a.hop ≡ prepared_at before n
hop_there n before i at a e =
    let k = found_at n (λ h. h) before i at in
    let same : k.item ≡ a = cc (k.there, e) in
    sym (ap hop_of (k.first ∙ ap Some same))

-- an adjacency stands at the place
pub item_there : (n : ℕ) (before : List Adjacency) (i : ℕ) → position (is_adjacency_to n) before ≡ Some i →
    (a : Adjacency) × (slice_get before i ≡ Some a) × (a.hop ≡ prepared_at before n)
item_there n before i at =
    let k = found_at n (λ h. h) before i at in
    (k.item, k.there, hop_there n before i at k.item k.there)

-- nothing is reached where no place is found
pub none_there : (n : ℕ) (before : List Adjacency) → position (is_adjacency_to n) before ≡ None →
    reaches before n ≡ true → ⊥
none_there n before nowhere there = go before
    (beyond (nat_lt (position_or_len (is_adjacency_to n) before) (length before)) nowhere) there
  where
    beyond : (b : Bool) → cond b (Some (position_or_len (is_adjacency_to n) before)) None ≡ None → b ≡ false
    beyond true h = absurd (cc h)
    beyond false h = refl

    farther : (i j : ℕ) → nat_lt (1 + i) (suc j) ≡ false → nat_lt i j ≡ false
    farther i j h = grind arith

    below_suc : (j : ℕ) → nat_lt 0 (suc j) ≡ false → ⊥
    below_suc j h = absurd (grind arith)

    go : (xs : List Adjacency) → nat_lt (position_or_len (is_adjacency_to n) xs) (length xs) ≡ false →
        reaches xs n ≡ true → ⊥
    go [] h r = absurd (cc r)
    go (a ∷ xs) h r = by (nat_eq a.peer.0 n) (go xs) h r
      where
        by : (b : Bool) → (nat_lt (position_or_len (is_adjacency_to n) xs) (length xs) ≡ false → reaches xs n ≡ true → ⊥) →
            nat_lt (cond (not b) (1 + position_or_len (is_adjacency_to n) xs) 0) (suc (length xs)) ≡ false →
            is_some (cond b (Some a) (find (is_adjacency_to n) xs)) ≡ true → ⊥
        by true later h r = below_suc (length xs) h
        by false later h r = later (farther (position_or_len (is_adjacency_to n) xs) (length xs) h) r

-- What is read of it

pub at_changed : (n : ℕ) (f : PreparedHop → PreparedHop) (xs : List Adjacency) (d : ℕ) (b : Bool) → nat_eq d n ≡ b →
    reaches xs n ≡ true → prepared_at (changed n f xs) d ≡ cond b (f (prepared_at xs d)) (prepared_at xs d)
at_changed n f [] d b e r = absurd (cc r)
at_changed n f (a ∷ xs) d b e r = go (nat_eq a.peer.0 n) (nat_eq a.peer.0 d) refl refl (at_changed n f xs d b e) r
  where
    here : (x y z : ℕ) → nat_eq z y ≡ true → nat_eq x y ≡ true → nat_eq x z ≡ false → ⊥
    here x y z p q s = absurd (grind arith)

    other : (x y z : ℕ) → nat_eq z y ≡ false → nat_eq x y ≡ true → nat_eq x z ≡ true → ⊥
    other x y z p q s = absurd (grind arith)

    late : (x y z : ℕ) → nat_eq z y ≡ true → nat_eq x y ≡ false → nat_eq x z ≡ true → ⊥
    late x y z p q s = absurd (grind arith)

    later : (c : Bool) → b ≡ c → (reaches xs n ≡ true →
        prepared_at (changed n f xs) d ≡ cond b (f (prepared_at xs d)) (prepared_at xs d)) →
        reaches xs n ≡ true → prepared_at (changed n f xs) d ≡ cond b (f (prepared_at xs d)) (prepared_at xs d)
    later c k rest r = rest r

    go : (x y : Bool) → nat_eq a.peer.0 n ≡ x → nat_eq a.peer.0 d ≡ y →
        (reaches xs n ≡ true → prepared_at (changed n f xs) d ≡ cond b (f (prepared_at xs d)) (prepared_at xs d)) →
        is_some (cond x (Some a) (find (is_adjacency_to n) xs)) ≡ true →
        prepared_at (cond x (with_hop (f a.hop) a ∷ xs) (a ∷ changed n f xs)) d
        ≡ cond b (f (hop_of (cond y (Some a) (find (is_adjacency_to d) xs))))
        (hop_of (cond y (Some a) (find (is_adjacency_to d) xs)))
    go true true p q rest s = rw q (by b e)
      where
        by : (c : Bool) → nat_eq d n ≡ c → f a.hop ≡ cond c (f a.hop) a.hop
        by true k = refl
        by false k = absurd (other a.peer.0 n d k p q)
    go true false p q rest s = rw q (by b e)
      where
        by : (c : Bool) → nat_eq d n ≡ c → prepared_at xs d ≡ cond c (f (prepared_at xs d)) (prepared_at xs d)
        by true k = absurd (here a.peer.0 n d k p q)
        by false k = refl
    go false true p q rest s = rw q (by b e)
      where
        by : (c : Bool) → nat_eq d n ≡ c → a.hop ≡ cond c (f a.hop) a.hop
        by true k = absurd (late a.peer.0 n d k p q)
        by false k = refl
    go false false p q rest s = rw q (rest s)

pub rested-changed : (n : ℕ) (f : PreparedHop → PreparedHop) (xs : List Adjacency) →
    ((h : PreparedHop) → (f h).state ≡ h.state) →
    map rested (changed n f xs) ≡ map rested xs
rested-changed n f [] keeps = refl
rested-changed n f (a ∷ xs) keeps = go (nat_eq a.peer.0 n) (rested-changed n f xs keeps)
  where
    go : (b : Bool) → map rested (changed n f xs) ≡ map rested xs →
        map rested (cond b (with_hop (f a.hop) a ∷ xs) (a ∷ changed n f xs)) ≡ rested a ∷ map rested xs
    go true later = ap (λ h. with_hop (resting h) a ∷ map rested xs) (keeps a.hop)
    go false later = ap (λ bs. rested a ∷ bs) later

pub peers-changed : (n : ℕ) (f : PreparedHop → PreparedHop) (xs : List Adjacency) →
    peer_numbers (changed n f xs) ≡ peer_numbers xs
peers-changed n f [] = refl
peers-changed n f (a ∷ xs) = go (nat_eq a.peer.0 n) (peers-changed n f xs)
  where
    go : (b : Bool) → peer_numbers (changed n f xs) ≡ peer_numbers xs →
        peer_numbers (cond b (with_hop (f a.hop) a ∷ xs) (a ∷ changed n f xs)) ≡ a.peer.0 ∷ peer_numbers xs
    go true later = refl
    go false later = ap (λ ns. a.peer.0 ∷ ns) later

pub prepared_changed : (n : ℕ) (f : PreparedHop → PreparedHop) (before after : List Adjacency) (i : ℕ) →
    position (is_adjacency_to n) before ≡ Some i → IsHopChangedAt before i f after → reaches before n ≡ true →
    (d : ℕ) → prepared_at after d ≡ cond (nat_eq d n) (f (prepared_at before d)) (prepared_at before d)
prepared_changed n f before after i at changes there d =
    ap (λ xs. prepared_at xs d) (changed_is n f before after i at changes) ∙
    at_changed n f before d (nat_eq d n) refl there

-- One message more is prepared, or nothing has changed

with_next-sent : (h : PreparedHop) (m : Msg) → all_sent (with_next h m) ≡ sent_message (all_sent h) m
with_next-sent h m =
    let w : Unacked = record { number = last_number h + 1; age = 0; msg = m } in
    let count : h.state.sent + length (h.prepared ++ w ∷ []) ≡ h.state.sent + length h.prepared + 1 =
    rw (length-append h.prepared (w ∷ [])) (omega arith) in
    λ i. record {
      sent = count i;
      handed_up = h.state.handed_up;
      unacked =
          sym (append_assoc h.state.unacked h.prepared (w ∷ [])) i;
    }

pub next_changed : (n : ℕ) (m : Msg) (before after : List Adjacency) (i : ℕ) →
    position (is_adjacency_to n) before ≡ Some i → IsHopChangedAt before i (λ h. with_next h m) after →
    reaches before n ≡ true →
    (d : ℕ) → next_at after d ≡ cond (nat_eq d n) (sent_message (next_at before d) m) (next_at before d)
next_changed n m before after i at changes there d =
    ap all_sent (prepared_changed n (λ h. with_next h m) before after i at changes there d) ∙ go (nat_eq d n)
  where
    go : (b : Bool) → all_sent (cond b (with_next (prepared_at before d) m) (prepared_at before d)) ≡ cond b
        (sent_message (next_at before d) m) (next_at before d)
    go true = with_next-sent (prepared_at before d) m
    go false = refl

pub rest_changed : (n : ℕ) (f : PreparedHop → PreparedHop) (before after : List Adjacency) (i : ℕ) →
    position (is_adjacency_to n) before ≡ Some i → ((h : PreparedHop) → (f h).state ≡ h.state) →
    IsHopChangedAt before i f after →
    map rested after ≡ map rested before
rest_changed n f before after i at keeps changes =
    ap (map rested) (changed_is n f before after i at changes) ∙ rested-changed n f before keeps

-- what is prepared at the first one
abbrev first_prepared : List Adjacency → List Unacked
first_prepared [] = []
first_prepared (a ∷ rest) = a.hop.prepared

-- where nothing is prepared, nothing is after one has taken what was heard
pub taken-rests : (n : ℕ) (v : Heard) (acks : List MsgId) (xs : List Adjacency) → map rested xs ≡ xs →
    map rested (changed n (taken_by v acks) xs) ≡ changed n (taken_by v acks) xs
taken-rests n v acks [] e = refl
taken-rests n v acks (a ∷ rest) e = go (is_adjacency_to n a) (taken-rests n v acks rest (ap (drop 1) e))
  where
    go : (b : Bool) → map rested (changed n (taken_by v acks) rest) ≡ changed n (taken_by v acks) rest →
        map rested (cond b (with_hop (taken_by v acks a.hop) a ∷ rest) (a ∷ changed n (taken_by v acks) rest))
        ≡ cond b (with_hop (taken_by v acks a.hop) a ∷ rest) (a ∷ changed n (taken_by v acks) rest)
    go true later = λ i.
        with_hop (record { state = taken a.hop.state v acks; prepared = ap first_prepared e i }) a ∷ ap (drop 1) e i
    go false later = λ i. with_hop (record { state = a.hop.state; prepared = ap first_prepared e i }) a ∷ later i
