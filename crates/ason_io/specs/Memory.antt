-- Sources and sinks in memory.
use Rattle.std.specs.Prelude.{ℕ, List}

-- the bytes still to come, the calls that fail, by number from 1, the calls so far and the faults so far
pub record SourceState : Type 0 where
  pub left : List ℕ
  pub failing : List ℕ
  pub calls : ℕ
  pub faults : ℕ

-- the bytes written, the room left, the most that a call takes, the calls that fail, the calls and the faults so far
pub record SinkState : Type 0 where
  pub written : List ℕ
  pub room : ℕ
  pub most : ℕ
  pub failing : List ℕ
  pub calls : ℕ
  pub faults : ℕ
