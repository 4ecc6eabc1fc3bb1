-- The room of a hop.
use Rattle.std.specs.Prelude.{ℕ, ◌+◌, ◌<◌, ◌≤◌, ◌^◌}

-- no more messages are unacknowledged than were sent; what is prepared has numbers, and room behind the unacknowledged
-- messages
pub record HasRoom (sent unacked prepared capacity : ℕ) : Type 0 where
  pub few : unacked ≤ sent
  pub numbers : sent + prepared < 2 ^ 32
  pub room : unacked + prepared ≤ capacity
