-- What could happen at the nodes of a network.
use Rattle.std.specs.Prelude.{◌≡◌, ◌≤◌, ℕ, true}
use Rattle.ason_base.specs.{declared.ids.NodeId.NodeId, Network.Network}
use Rattle.world_rules.specs.WorldRuns.{is_world_channel}
use Rattle.world_merge.specs.{Histories.{AreHistories, at}, Logs.{RisesAbove, posts_of}}
use Rattle.round_rules.specs.{Records.{Record, deeds_at, posts_in}, Rings.{count_of, got_from, is_number_in}}

-- on this channel only what was sent is taken or dropped
pub record OnlySentOn (t : Network) (r : Record) (u d : NodeId) : Type 0 where
  pub got : (k : ℕ) → is_number_in (got_from u (r.doings d.0)) k ≡ true → k ≤ count_of t r u d
  pub dropped : (k : ℕ) → is_number_in (r.dropped u.0 d.0) k ≡ true → k ≤ count_of t r u d

-- What the nodes did could happen, at each the stamps rise, all have the same posts, and only what was sent is taken or
-- dropped.
pub record IsRecord (t : Network) (r : Record) : Type 0 where
  pub histories : AreHistories t (deeds_at r)
  pub rises : (n : ℕ) → RisesAbove 0 (deeds_at r n)
  pub posts : (n : ℕ) → posts_of (at n) (deeds_at r n) ≡ posts_in r
  pub only : (u d : NodeId) → is_world_channel t u d ≡ true → OnlySentOn t r u d
