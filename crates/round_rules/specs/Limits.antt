-- A turn up to a node's limit: an input that comes when the log is full, or when no stamp is left, stays, and the
-- turn is over.
use Rattle.std.specs.Prelude.{◌+◌, ◌^◌, ◌&&◌, ℕ, zero, suc, max, nat_lt, Bool, true, false, List, [], ◌∷◌, ◌++◌, fold, length, Option, Some, None, if◌then◌else◌}
use Rattle.ason_base.specs.{declared.limits.TheConstants.MOST_EVENTS, declared.ids.NodeId.NodeId, declared.commands.Disturb.Disturb, declared.commands.DisturbKind.DisturbKind, declared.commands.DisturbKind.TheVariants.{Lose, Repeat, Hold}, Network.Network}
use Rattle.world_merge.specs.{Histories.at, Logs.log_of}
use Rattle.round_rules.specs.{Doings.{DeskItem, Doing, DueFrame, Left, RingFrame, TickAsked, Waiting, deeds_in}, Functions.{Popped, clock_of, with_delivered, with_freed, got, with_handled, with_ticked}, Lines.says, Turns.items_after}

-- what a node did, and whether its turn is over before its end
pub record Progress : Type 0 where
  pub doings : List Doing
  pub halted : Bool

abbrev pub going : List Doing → Progress
going ds = record { doings = ds; halted = false }

-- this input stays
abbrev pub halted_by : Waiting → List Doing → Progress
halted_by w ds = record { doings = ds ++ Left w ∷ []; halted = true }

-- after a halt nothing is done
abbrev pub unless_halted : (List Doing → Progress) → Progress → Progress
unless_halted next p = if p.halted then p else next p.doings

-- how many lines the log has
abbrev pub log_line_count : List Doing → ℕ
log_line_count ds = length (log_of (at 0) (deeds_in ds))

-- an input is at hand: it is taken with this stamp, where the log has room for a line and the stamp is one of 64 bits
abbrev pub if_able : Waiting → ℕ → (List Doing → List Doing) → List Doing → Progress
if_able w s next ds = if nat_lt (log_line_count ds) MOST_EVENTS
    && nat_lt s (2 ^ 64) then going (next ds) else halted_by w ds

-- Its parts

abbrev pub next_stamp : List Doing → ℕ
next_stamp ds = clock_of ds + 1

-- the stamp of a delivery
abbrev pub stamp_for : Popped → List Doing → ℕ
stamp_for p ds = max (clock_of ds) p.stamp + 1

abbrev pub tick_part : Bool → List Doing → Progress
tick_part tick ds = if tick then if_able TickAsked (next_stamp ds) with_ticked ds else going ds

abbrev pub due_part : List Doing → Popped → Progress
due_part ds p = if_able (DueFrame p.from p.number) (stamp_for p ds) (λ ks. with_freed ks p) ds

abbrev pub item_part : List Doing → Progress
item_part ds = if_able DeskItem (next_stamp ds) with_handled ds

abbrev pub delivery_part : Popped → List Doing → Progress
delivery_part p ds = if_able (RingFrame p.from p.number) (stamp_for p ds) (λ ks. with_delivered ks p) ds

-- a frame is taken and delivered
abbrev pub taking_part : Option DisturbKind → Popped → List Doing → Progress
taking_part o p ds = if_able (RingFrame p.from p.number) (stamp_for p ds) (λ ks. with_delivered (got ks p o) p) ds

-- what the last line says is done; a frame that isn't delivered now is taken at the limit too
abbrev pub pop_part : Option DisturbKind → List Doing → Popped → Progress
pop_part None ds p = taking_part None p ds
pop_part (Some Repeat) ds p = unless_halted (delivery_part p) (taking_part (Some Repeat) p ds)
pop_part (Some Lose) ds p = going (got ds p (Some Lose))
pop_part (Some Hold) ds p = going (got ds p (Some Hold))

-- Loops

abbrev pub due_parts : Progress → List Popped → Progress
due_parts p due = fold (λ (q : Progress) (x : Popped). unless_halted (λ ds. due_part ds x) q) p due

abbrev pub item_parts : ℕ → Progress → Progress
item_parts zero p = p
item_parts (suc k) p = item_parts k (unless_halted item_part p)

-- all items that are on the desk now
abbrev pub desk_part : Network → NodeId → List Doing → Progress
desk_part t n ds = item_parts (items_after t n ds) (going ds)

abbrev pub pop_parts : List Disturb → NodeId → Progress → List Popped → Progress
pop_parts lines n p pops =
    fold (λ (q : Progress) (x : Popped). unless_halted (λ ds. pop_part (says lines x.from n x.number) ds x) q) p pops

-- The turn: the tick, the held frames that are due, which are these, all items of the desk, and what is popped. What is
-- popped after a halt says nothing.
abbrev pub turn_to : Network → List Disturb → NodeId → Bool → List Doing → List Popped → List Popped → Progress
turn_to t lines n tick ds due pops =
    pop_parts lines n (unless_halted (desk_part t n) (due_parts (tick_part tick ds) due)) pops
