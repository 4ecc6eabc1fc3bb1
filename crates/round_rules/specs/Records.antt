-- What stations have made so far, of which all else is a function: logs, posts, rings, held frames, and the world.
use Rattle.std.specs.Prelude.{ℕ, List, []}
use Rattle.ason_base.specs.{declared.commands.Entry.Entry, Network.Network}
use Rattle.world_rules.specs.Worlds.{World}
use Rattle.world_merge.specs.{Deeds.Deed, Histories.at, Logs.{log_of, posts_of}, Merges.assembled}
use Rattle.round_rules.specs.Doings.{Doing, deeds_in}

-- what each node did, and the numbers of the frames that were dropped on each channel
pub record Record : Type 0 where
  pub doings : ℕ → List Doing
  pub dropped : ℕ → ℕ → List ℕ

-- nothing was done yet
abbrev pub new_record : Record
new_record = record { doings = λ n. []; dropped = λ u d. [] }

abbrev pub deeds_at : Record → ℕ → List Deed
deeds_at r n = deeds_in (r.doings n)

abbrev pub log_at : Record → ℕ → List Entry
log_at r n = log_of (at n) (deeds_at r n)

-- the same at every number
abbrev pub posts_in : Record → List Entry
posts_in r = posts_of (at 0) (deeds_at r 0)

-- the world to which each merge of the logs leads
abbrev pub world_of : Network → Record → World
world_of t r = assembled t (deeds_at r)
