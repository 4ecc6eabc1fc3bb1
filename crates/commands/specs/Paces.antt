-- How a run goes.
use Rattle.std.specs.Prelude.{ℕ, ◌≤◌}
use Rattle.ason_base.specs.declared.limits.TheConstants.{MOST_TURNS, MOST_WORKERS}

-- on how many workers, and how many turns each node makes in a round
pub record PaceView : Type 0 where
  pub workers : ℕ
  pub stride : ℕ

-- from 1 to 16 workers, and from 1 to 64 turns
pub record IsWithin (p : PaceView) : Type 0 where
  pub some : 1 ≤ p.workers
  pub most : p.workers ≤ MOST_WORKERS
  pub some_turns : 1 ≤ p.stride
  pub most_turns : p.stride ≤ MOST_TURNS
