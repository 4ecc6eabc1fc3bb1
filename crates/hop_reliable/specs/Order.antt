-- The order of the messages of a hop.
use Rattle.std.specs.Prelude.{AllPairs, All, ◌≡◌, ◌<◌, ◌≤◌, ℕ, ◌+◌, List, [], ◌∷◌}
use Rattle.hop_reliable.specs.declared.unacked.Unacked.{Unacked}

-- each number is below those of all later messages
abbrev pub UnackedNumbersRise : List Unacked → Type 0
UnackedNumbersRise ws = AllPairs (λ v w. v.number < w.number) ws

-- what holds of the unacknowledged messages of every hop: their numbers rise, and none is above the last that was sent
pub record AreSentInOrder (sent : ℕ) (unacked : List Unacked) : Type 0 where
  pub rising : UnackedNumbersRise unacked
  pub most : All (λ w. w.number ≤ sent) unacked

-- the messages have the numbers behind this one, in order, as those have that are prepared
abbrev pub AreNumberedAfter : ℕ → List Unacked → Type 0
AreNumberedAfter n [] = Unit {0}
AreNumberedAfter n (w ∷ ws) = (w.number ≡ n + 1) × AreNumberedAfter (n + 1) ws
