-- Lists of calls at one node, and what holds after them.
use Rattle.std.specs.Prelude.{◌≡◌, ◌≢◌, ◌≤◌, ◌⊎◌, ℕ, ◌+◌, true, Some, List, [], ◌∷◌, ◌++◌, slice_get}
use Rattle.ason_base.specs.{declared.ids.NodeId.NodeId, declared.network.TeRow.TeRow}
use Rattle.flood.specs.{declared.due.Due.Due, declared.messages.FloodMsg.FloodMsg, declared.messages.FloodMsg.TheVariants.{Row, Ack}, State.{NeighbourState, FloodState, declared_row, flood_received, ticked_flood, is_new}}

pub data Call : Type 0 where
  Declares : (row : TeRow) → Call
  Receives : (from : NodeId) (m : FloodMsg) → Call
  Ticks : Call

abbrev pub called : FloodState → Call → FloodState
called s (Declares row) = declared_row s row
called s (Receives from m) = flood_received s from m
called s Ticks = ticked_flood s

abbrev pub after_calls : FloodState → List Call → FloodState
after_calls s [] = s
after_calls s (c ∷ cs) = after_calls (called s c) cs

-- What is known stays known, in its place.
abbrev pub KnownStays : Type 0
KnownStays = (s : FloodState) (calls : List Call) → (more : List TeRow) × (s.rows ++ more ≡ (after_calls s calls).rows)

abbrev pub Brings : TeRow → Call → Type 0
Brings row (Declares r) = r ≡ row
Brings row (Receives from (Row number origin r)) = r ≡ row
Brings row (Receives from (Ack number)) = ⊥
Brings row Ticks = ⊥

abbrev pub SomeBrings : TeRow → List Call → Type 0
SomeBrings row [] = ⊥
SomeBrings row (c ∷ cs) = Brings row c ⊎ SomeBrings row cs

-- A row that is known after some calls was known before, or one of the calls declared or received it.
abbrev pub KnownWasBrought : Type 0
KnownWasBrought =
    (s : FloodState) (calls : List Call) (k : ℕ) (row : TeRow) → slice_get (after_calls s calls).rows k ≡ Some row →
    ((j : ℕ) × (slice_get s.rows j ≡ Some row)) ⊎ SomeBrings row calls

-- the row with this number is due
abbrev pub IsDue : ℕ → TeRow → List Due → Type 0
IsDue number row [] = ⊥
IsDue number row (d ∷ ds) = ((d.number ≡ number) × (d.row ≡ row)) ⊎ IsDue number row ds

-- no row with this number is due
abbrev pub IsNotDue : ℕ → List Due → Type 0
IsNotDue number due = (row : TeRow) → IsDue number row due → ⊥

-- the call is an acknowledgement of this number by this neighbour
abbrev pub Acknowledges : NodeId → ℕ → Call → Type 0
Acknowledges id number (Declares row) = ⊥
Acknowledges id number (Receives from (Row n origin row)) = ⊥
Acknowledges id number (Receives from (Ack n)) = (id.0 ≡ from.0) × (n ≡ number)
Acknowledges id number Ticks = ⊥

abbrev pub NoneAcknowledges : NodeId → ℕ → List Call → Type 0
NoneAcknowledges id number [] = Unit {0}
NoneAcknowledges id number (c ∷ cs) = (Acknowledges id number c → ⊥) × NoneAcknowledges id number cs

-- A row that is due to a neighbour stays due to it until that neighbour acknowledges its number.
abbrev pub DueUntilAcknowledged : Type 0
DueUntilAcknowledged =
    (s : FloodState) (calls : List Call) (place : ℕ) (n : NeighbourState) (number : ℕ) (row : TeRow)
    → slice_get s.neighbours place ≡ Some n → IsDue number row n.due → NoneAcknowledges n.id number calls
    → (m : NeighbourState) × (slice_get (after_calls s calls).neighbours place ≡ Some m) × (m.id ≡ n.id)
    × IsDue number row m.due

-- A number that was given, and whose row isn't due any more, never becomes due to that neighbour again.
abbrev pub NoneAfterwards : Type 0
NoneAfterwards =
    (s : FloodState) (calls : List Call) (place : ℕ) (n : NeighbourState) (number : ℕ)
    → slice_get s.neighbours place ≡ Some n → number ≤ n.sent → IsNotDue number n.due
    → (m : NeighbourState) × (slice_get (after_calls s calls).neighbours place ≡ Some m) × IsNotDue number m.due

-- An acknowledgement takes the row off what is due to its neighbour.
abbrev pub AcknowledgedIsOff : Type 0
AcknowledgedIsOff =
    (s : FloodState) (from : NodeId) (number place : ℕ) (n : NeighbourState)
    → slice_get s.neighbours place ≡ Some n → n.id.0 ≡ from.0
    → (m : NeighbourState) × (slice_get (flood_received s from (Ack number)).neighbours place ≡ Some m)
    × IsNotDue number m.due

-- A new row becomes due to each neighbour but the one that it came from, and to that one it doesn't go.
abbrev pub GoesToTheOthers : Type 0
GoesToTheOthers =
    (s : FloodState) (from origin : NodeId) (number place : ℕ) (row : TeRow) (n : NeighbourState)
    → is_new s row ≡ true → slice_get s.neighbours place ≡ Some n
    → (m : NeighbourState) × (slice_get (flood_received s from (Row number origin row)).neighbours place ≡ Some m)
    × (n.id.0 ≢ from.0 → IsDue (n.sent + 1) row m.due) × (n.id.0 ≡ from.0 → m ≡ n)
