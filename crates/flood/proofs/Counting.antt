-- Counts of what is due.
use Rattle.std.proofs.{Common.{◌≡◌, ℕ, ◌+◌, ◌*◌, ◌^◌, ◌<◌, ◌≤◌, ◌==◌, true, false, cond, not, Option, zero, suc, List, [], ◌∷◌, ◌++◌, length, get_or, map, refl, sym, subst, ap, ◌∙◌, arith, All, sum_by, length-append, add-one}, lemmas.List.length-map, lemmas.List.Sums.sum_by-cons, lemmas.List.Elements.{All-head, All-map, All-tail}}
use Rattle.std.specs.List.Sorted.{IsStrictlyIncreasing}
use Rattle.ason_base.specs.{declared.limits.TheConstants.MOST_LINKS, declared.ids.NodeId.NodeId, declared.network.TeRow.TeRow}
use Rattle.ason_base.proofs.Members.{filter-shorter}
use Rattle.flood.specs.{declared.due.Due.Due, State.{NeighbourState, FloodState, fresh_neighbour, queued, queued_unless, is_from, acked, acked_by, older_due, older_neighbour, IsCounted}}

-- What holds of each element holds of each as it is changed.
all-map : {X : Type 0} (P Q : X → Type 0) (f : X → X) → ((x : X) → P x → Q (f x)) → (xs : List X) → All P xs →
    All Q (map f xs)
all-map P Q f keeps xs all = All-map Q f xs (λ k d within. keeps (get_or xs k d) (all k d within))

-- A row becomes due.

sent-queued : (from : Option NodeId) (origin : NodeId) (age : Option ℕ) (row : TeRow) (rows : ℕ)
    (n : NeighbourState) → n.sent ≤ rows → (queued_unless from origin age row n).sent ≤ rows + 1
sent-queued from origin age row rows n low =
    elim (is_from from n) as (λ b. (cond b n (queued origin age row n)).sent ≤ rows + 1)
    [ true ↦ omega arith | false ↦ omega arith ]

due-queued : (from : Option NodeId) (origin : NodeId) (age : Option ℕ) (row : TeRow) (n : NeighbourState) →
    length n.due ≤ n.sent → length (queued_unless from origin age row n).due ≤
    (queued_unless from origin age row n).sent
due-queued from origin age row n low =
    let new : Due = record { number = n.sent + 1; age = age; origin = origin; row = row } in
    let longer : length (n.due ++ new ∷ []) ≡ length n.due + 1 = length-append n.due (new ∷ []) in
    elim (is_from from n) as (λ b. length (cond b n (queued origin age row n)).due ≤
    (cond b n (queued origin age row n)).sent) [ true ↦ low | false ↦ omega arith ]

pub counted-row : (from : Option NodeId) (origin : NodeId) (age : Option ℕ) (row : TeRow) (rows : ℕ)
    (ns : List NeighbourState) → rows < MOST_LINKS → IsCounted rows ns →
    IsCounted (rows + 1) (map (queued_unless from origin age row) ns)
counted-row from origin age row rows ns less c = record {
  few = omega arith;
  hops = rw (length-map ns (queued_unless from origin age row)) c.hops;
  sent = all-map (λ n. n.sent ≤ rows) (λ n. n.sent ≤ rows + 1) (queued_unless from origin age row)
      (λ n low. sent-queued from origin age row rows n low) ns c.sent;
  due = all-map (λ n. length n.due ≤ n.sent) (λ n. length n.due ≤ n.sent) (queued_unless from origin age row)
      (λ n low. due-queued from origin age row n low) ns c.due;
}

-- An acknowledgement, and a tick.

sent-acked : (from : NodeId) (number rows : ℕ) (n : NeighbourState) → n.sent ≤ rows →
    (acked_by from number n).sent ≤ rows
sent-acked from number rows n low = elim (n.id.0 == from.0) as
    (λ b. (cond b (acked number n) n).sent ≤ rows) [ true ↦ low | false ↦ low ]

due-acked : (from : NodeId) (number : ℕ) (n : NeighbourState) → length n.due ≤ n.sent →
    length (acked_by from number n).due ≤ (acked_by from number n).sent
due-acked from number n low =
    let shorter : length (acked number n).due ≤ length n.due = filter-shorter (λ d. not (d.number == number)) n.due in
    elim (n.id.0 == from.0) as (λ b. length (cond b (acked number n) n).due ≤ (cond b (acked number n) n).sent)
    [ true ↦ omega arith | false ↦ low ]

pub counted-ack : (from : NodeId) (number rows : ℕ) (ns : List NeighbourState) → IsCounted rows ns →
    IsCounted rows (map (acked_by from number) ns)
counted-ack from number rows ns c = record {
  few = c.few;
  hops = rw (length-map ns (acked_by from number)) c.hops;
  sent = all-map (λ n. n.sent ≤ rows) (λ n. n.sent ≤ rows) (acked_by from number)
      (λ n low. sent-acked from number rows n low) ns c.sent;
  due = all-map (λ n. length n.due ≤ n.sent) (λ n. length n.due ≤ n.sent) (acked_by from number)
      (λ n low. due-acked from number n low) ns c.due;
}

pub counted-tick : (rows : ℕ) (ns : List NeighbourState) → IsCounted rows ns → IsCounted rows (map older_neighbour ns)
counted-tick rows ns c = record {
  few = c.few;
  hops = rw (length-map ns older_neighbour) c.hops;
  sent = all-map (λ n. n.sent ≤ rows) (λ n. n.sent ≤ rows) older_neighbour (λ n low. low) ns c.sent;
  due = all-map (λ n. length n.due ≤ n.sent) (λ n. length n.due ≤ n.sent) older_neighbour
      (λ n low. rw (length-map n.due older_due) low) ns c.due;
}

-- Numbers fit.

one_more : (head others count : ℕ) → head ≤ MOST_LINKS → others ≤ MOST_LINKS * count →
    head + others ≤ MOST_LINKS * suc count
one_more head others count low most = omega arith

pub total-most : (rows : ℕ) (ns : List NeighbourState) → rows ≤ MOST_LINKS → All (λ n. n.sent ≤ rows) ns →
    All (λ n. length n.due ≤ n.sent) ns → sum_by (λ n. length n.due) ns ≤ MOST_LINKS * length ns
total-most rows [] few sent due = omega arith
total-most rows (n ∷ ns) few sent due =
    let head_sent : n.sent ≤ rows = All-head (λ m. m.sent ≤ rows) n ns sent in
    let head_due : length n.due ≤ n.sent = All-head (λ m. length m.due ≤ m.sent) n ns due in
    let others : sum_by (λ m. length m.due) ns ≤ MOST_LINKS * length ns =
    total-most rows ns few (All-tail (λ m. m.sent ≤ rows) n ns sent)
    (All-tail (λ m. length m.due ≤ m.sent) n ns due) in
    subst (λ (total : ℕ). total ≤ MOST_LINKS * suc (length ns))
    (sym (sum_by-cons {X = NeighbourState} (λ m. length m.due) n ns))
    (one_more (length n.due) (sum_by (λ m. length m.due) ns) (length ns) (omega arith) others)

pub pending-fits : (rows : ℕ) (ns : List NeighbourState) → IsCounted rows ns → sum_by (λ n. length n.due) ns < 2 ^ 64
pending-fits rows ns c = let hops : length ns ≤ 2 ^ 32 = c.hops in omega (arith, total-most rows ns c.few c.sent c.due)

-- There are not more rising numbers of 32 bits than there are numbers of 32 bits.

at_least : (xs : List ℕ) → IsStrictlyIncreasing xs → (k : ℕ) → k < length xs → k ≤ get_or xs k 0
at_least xs rising zero within = omega arith
at_least xs rising (suc k) within =
    let before : k ≤ get_or xs k 0 = at_least xs rising k (omega arith) in
    let next : get_or xs k 0 < get_or xs (k + 1) 0 = rising k (omega arith) in
    rw (← add-one k) (omega arith)

not_more : (xs : List ℕ) → IsStrictlyIncreasing xs → ((k : ℕ) → get_or xs k 0 < 2 ^ 32) → (n : ℕ) → length xs ≡ n →
    n ≤ 2 ^ 32
not_more xs rising small zero is = omega arith
not_more xs rising small (suc n) is =
    let low : n ≤ get_or xs n 0 = at_least xs rising n (omega arith) in
    let high : get_or xs n 0 < 2 ^ 32 = small n in
    omega arith

pub counted-start : (xs : List ℕ) → IsStrictlyIncreasing xs → ((k : ℕ) → get_or xs k 0 < 2 ^ 32) →
    IsCounted 0 (map (λ n. fresh_neighbour (record { 0 = n })) xs)
counted-start xs rising small = record {
  few = omega arith;
  hops = rw (length-map xs (λ n. fresh_neighbour (record { 0 = n }))) (not_more xs rising small (length xs) refl);
  sent = All-map (λ n. n.sent ≤ 0) (λ n. fresh_neighbour (record { 0 = n })) xs (λ k d within. omega arith);
  due = All-map (λ n. length n.due ≤ n.sent) (λ n. fresh_neighbour (record { 0 = n })) xs (λ k d within. omega arith);
}

-- The fields of a flood, as its calls change them.

pub less_than_most : (f s : FloodState) → f ≡ s → length s.rows < MOST_LINKS → length f.rows < MOST_LINKS
less_than_most f s same less = let rows : f.rows ≡ s.rows = ap (λ (t : FloodState). t.rows) same in rw rows less

pub start_is : (me : NodeId) (rows : List TeRow) (ns : List NeighbourState) (numbers ids : List ℕ) → rows ≡ [] →
    ids ≡ numbers → ns ≡ map (λ n. fresh_neighbour (record { 0 = n })) ids →
    ◌≡◌ {A = FloodState} (record { me = me; rows = rows; neighbours = ns })
    (record { me = me; rows = []; neighbours = map (λ n. fresh_neighbour (record { 0 = n })) numbers })
start_is me rows ns numbers ids none same are =
    let all : ns ≡ map (λ n. fresh_neighbour (record { 0 = n })) numbers =
    are ∙ ap (map (λ n. fresh_neighbour (record { 0 = n }))) same in
    λ i. record { me = me; rows = none i; neighbours = all i }
