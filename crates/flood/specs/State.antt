-- What a node knows of links, which rows are due to each neighbour, and what each call makes of it.
use Rattle.std.specs.{List.Sorted.{IsNonDecreasing, IsStrictlyIncreasing}, Prelude.{◌≡◌, ◌≤◌, ◌<◌, ◌↔◌, ◌^◌, All, AllPairs, Contains, ℕ, ◌+◌, ◌-◌, Bool, false, not, ◌==◌, ◌&&◌, ◌||◌, nat_lt, nat_le, if◌then◌else◌, Option, Some, None, List, [], ◌∷◌, ◌++◌, length, map, filter, fold, sum_by, take}, List.{list_any, flat_map}}
use Rattle.ason_base.specs.{declared.limits.TheConstants.{MOST_LINKS, MOST_NODES}, declared.ids.LinkId.LinkId, declared.ids.NodeId.NodeId, declared.network.TeRow.TeRow}
use Rattle.flood.specs.{declared.due.Due.Due, declared.messages.FloodMsg.FloodMsg, declared.messages.FloodMsg.TheVariants.{Row, Ack}}
use Rattle.hop_reliable.specs.Ages.{older_age, is_due}

pub record NeighbourState : Type 0 where
  pub id : NodeId
  pub sent : ℕ  -- the number of the last row that became due to it
  pub due : List Due  -- the rows that it hasn't acknowledged, in order of number

pub record FloodState : Type 0 where
  pub me : NodeId
  pub rows : List TeRow  -- the known rows, in order of learning
  pub neighbours : List NeighbourState

-- what holds of the fields of every neighbour: the numbers of what is due rise, and none is above the last one given
pub record IsDueInOrder (sent : ℕ) (due : List Due) : Type 0 where
  pub rising : AllPairs (λ d e. d.number < e.number) due
  pub below : All (λ d. d.number ≤ sent) due

abbrev pub fresh_neighbour : NodeId → NeighbourState
fresh_neighbour id = record { id = id; sent = 0; due = [] }

-- What is known, and what can become known.

abbrev pub is_known : List TeRow → LinkId → Bool
is_known rows link = list_any (λ r. r.link.0 == link.0) rows

abbrev pub is_end : NodeId → TeRow → Bool
is_end node row = row.low.0 == node.0 || row.high.0 == node.0

abbrev pub with_end : List ℕ → ℕ → List ℕ
with_end ends node = if list_any (λ n. n == node) ends then ends else ends ++ node ∷ []

abbrev pub with_ends : List ℕ → TeRow → List ℕ
with_ends ends row = with_end (with_end ends row.low.0) row.high.0

-- the different ends of rows, each once
abbrev pub ends_in_rows : List TeRow → List ℕ
ends_in_rows rows = fold with_ends [] rows

-- with this row there are at most 256 rows, and they have at most 64 different ends
abbrev pub has_room : List TeRow → TeRow → Bool
has_room rows row = nat_lt (length rows) MOST_LINKS && nat_le (length (with_ends (ends_in_rows rows) row)) MOST_NODES

-- a row that a neighbour gave becomes known
abbrev pub is_new : FloodState → TeRow → Bool
is_new s row = not (is_known s.rows row.link) && not (is_end s.me row) && has_room s.rows row

-- A row becomes due to a neighbour with the next number. One that isn't sent at once has no age yet.

abbrev pub queued : NodeId → Option ℕ → TeRow → NeighbourState → NeighbourState
queued origin age row n = record {
  id = n.id;
  sent = n.sent + 1;
  due = n.due ++ record { number = n.sent + 1; age = age; origin = origin; row = row } ∷ [];
}

abbrev pub is_from : Option NodeId → NeighbourState → Bool
is_from None n = false
is_from (Some from) n = n.id.0 == from.0

-- to all neighbours but the one that it came from
abbrev pub queued_unless : Option NodeId → NodeId → Option ℕ → TeRow → NeighbourState → NeighbourState
queued_unless from origin age row n = if is_from from n then n else queued origin age row n

-- A row that became due to a neighbour last is taken back, with its number.

abbrev pub unqueued : NeighbourState → NeighbourState
unqueued n = record { id = n.id; sent = n.sent - 1; due = take (length n.due - 1) n.due }

abbrev pub unqueued_unless : Option NodeId → NeighbourState → NeighbourState
unqueued_unless from n = if is_from from n then n else unqueued n

abbrev pub with_row : FloodState → Option NodeId → NodeId → Option ℕ → TeRow → FloodState
with_row s from origin age row = record {
  me = s.me;
  rows = s.rows ++ row ∷ [];
  neighbours = map (queued_unless from origin age row) s.neighbours;
}

-- a row of this node's own links
abbrev pub declared_row : FloodState → TeRow → FloodState
declared_row s row = with_row s None s.me None row

-- An acknowledgement takes the row of that number off what is due to that neighbour, and to no other.

abbrev pub acked : ℕ → NeighbourState → NeighbourState
acked number n = record { id = n.id; sent = n.sent; due = filter (λ d. not (d.number == number)) n.due }

-- the first row that is due has the number
abbrev pub is_first : ℕ → List Due → Bool
is_first number [] = false
is_first number (d ∷ due) = d.number == number

abbrev pub acked_by : NodeId → ℕ → NeighbourState → NeighbourState
acked_by from number n = if n.id.0 == from.0 then acked number n else n

abbrev pub with_neighbours : FloodState → List NeighbourState → FloodState
with_neighbours s ns = record { me = s.me; rows = s.rows; neighbours = ns }

abbrev pub flood_received : FloodState → NodeId → FloodMsg → FloodState
flood_received s from (Ack number) = with_neighbours s (map (acked_by from number) s.neighbours)
flood_received s from (Row number origin row) = if is_new s row then with_row s (Some from) origin (Some 0) row else s

abbrev pub learnt_of : FloodState → FloodMsg → Option TeRow
learnt_of s (Ack number) = None
learnt_of s (Row number origin row) = if is_new s row then Some row else None

-- the row as it goes out first, with the number that it gets
abbrev pub first_sending : NodeId → TeRow → NeighbourState → NodeId × FloodMsg
first_sending origin row n = (n.id, Row (n.sent + 1) origin row)

abbrev pub first_sendings : NodeId → NodeId → TeRow → List NeighbourState → List (NodeId × FloodMsg)
first_sendings from origin row ns = map (first_sending origin row) (filter (λ n. not (is_from (Some from) n)) ns)

-- Each row is acknowledged, known or not; a new one goes on at once.
abbrev pub sends_after : FloodState → NodeId → FloodMsg → List (NodeId × FloodMsg)
sends_after s from (Ack number) = []
sends_after s from (Row number origin row) =
    (from, Ack number) ∷ (if is_new s row then first_sendings from origin row s.neighbours else [])

-- A tick: a row that wasn't sent yet goes out first and gets age 0. The others age, and go again at the ages of a hop's
-- messages.

abbrev pub age_after_tick : Option ℕ → Option ℕ
age_after_tick None = Some 0
age_after_tick (Some age) = Some (older_age age)

abbrev pub goes_at : Option ℕ → Bool
goes_at None = false
goes_at (Some age) = age == 0 || is_due age

abbrev pub older_due : Due → Due
older_due d = record { number = d.number; age = age_after_tick d.age; origin = d.origin; row = d.row }

abbrev pub sending : NodeId → Due → NodeId × FloodMsg
sending to d = (to, Row d.number d.origin d.row)

abbrev pub due_to : NodeId → List Due → List (NodeId × FloodMsg)
due_to to due = map (sending to) (filter (λ d. goes_at d.age) (map older_due due))

abbrev pub rows_sent_to : NeighbourState → List (NodeId × FloodMsg)
rows_sent_to n = due_to n.id n.due

abbrev pub older_neighbour : NeighbourState → NeighbourState
older_neighbour n = record { id = n.id; sent = n.sent; due = map older_due n.due }

abbrev pub ticked_flood : FloodState → FloodState
ticked_flood s = with_neighbours s (map older_neighbour s.neighbours)

-- by neighbour, then number
abbrev pub sent_at_tick : FloodState → List (NodeId × FloodMsg)
sent_at_tick s = flat_map rows_sent_to s.neighbours

abbrev pub pending_count : FloodState → ℕ
pending_count s = sum_by (λ n. length n.due) s.neighbours

-- A start for these neighbours: nothing is known or due, and each stands once, in order of id.
pub record IsStart (me : NodeId) (ids : List NodeId) (s : FloodState) : Type 0 where
  pub numbers : List ℕ
  pub rising : IsStrictlyIncreasing numbers
  pub same : (n : ℕ) → Contains numbers n ↔ Contains (map (λ id. id.0) ids) n
  pub is : s ≡ record { me = me; rows = []; neighbours = map (λ n. fresh_neighbour (record { 0 = n })) numbers }

-- what holds of the fields of every flood: no neighbour's number is above the number of known rows, of which there are
-- 256 at most
pub record IsCounted (rows : ℕ) (ns : List NeighbourState) : Type 0 where
  pub few : rows ≤ MOST_LINKS
  pub hops : length ns ≤ 2 ^ 32
  pub sent : All (λ n. n.sent ≤ rows) ns
  pub due : All (λ n. length n.due ≤ n.sent) ns

-- as many numbers, and the same ones, in any order
pub record AreAlike (xs ys : List ℕ) : Type 0 where
  pub count : length xs ≡ length ys
  pub has : (n : ℕ) → list_any (λ m. m == n) xs ≡ list_any (λ m. m == n) ys

-- what is kept beside the known rows: the numbers of their links and of their different ends, both rising
pub record IsIndexed (rows : List TeRow) (numbers nodes : List ℕ) : Type 0 where
  pub rising : IsNonDecreasing numbers
  pub links : (n : ℕ) → list_any (λ m. m == n) numbers ≡ is_known rows (record { 0 = n })
  pub in_order : IsNonDecreasing nodes
  pub ends : AreAlike nodes (ends_in_rows rows)
