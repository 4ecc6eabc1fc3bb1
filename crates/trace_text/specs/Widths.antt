-- The numbers that stand in a trace are those of their types.
use Rattle.std.specs.{Prelude.{◌<◌, ◌^◌, ℕ, All, List, length}, List.AllByRecursion}
use Rattle.ason_base.specs.{declared.commands.Entry.Entry, declared.commands.Event.Event, declared.commands.Event.TheVariants.{Deliver, Noise, Tick, Desk, Post}}

-- the number of a frame is one of 64 bits, and noise is of bytes
abbrev pub EventFits : Event → Type 0
EventFits (Deliver to from number) = number < 2 ^ 64
EventFits (Noise to from bytes) = All (λ b. b < 256) bytes
EventFits (Tick n) = Unit {0}
EventFits (Desk n) = Unit {0}
EventFits (Post c) = Unit {0}

-- so is the stamp
pub record EntryFits (e : Entry) : Type 0 where
  pub stamp : e.stamp < 2 ^ 64
  pub event : EventFits e.event

-- the plan's bytes and the entries are counted so too
pub record TraceFits (plan_bytes : List ℕ) (es : List Entry) : Type 0 where
  pub plan : length plan_bytes < 2 ^ 64
  pub count : length es < 2 ^ 64
  pub entries : AllByRecursion EntryFits es
