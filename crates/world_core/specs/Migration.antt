-- What a migration keeps of a list of events, how many it leaves out, and what holds of both.
use Rattle.std.specs.Prelude.{◌≡◌, ◌≢◌, ◌+◌, ◌⊎◌, ◌↔◌, ℕ, List, [], ◌∷◌}
use Rattle.ason_base.specs.{declared.commands.Event.Event, Network.Network}
use Rattle.world_core.specs.Replays.{IsFirstDisabled}
use Rattle.world_rules.specs.{WorldRuns.{IsEnabled, IsWorldRun, world_step}, Worlds.{World, world_start}}

-- Of these events, taken in turn from this world on, just those are kept that are enabled after the ones kept before,
-- and so many are left out.
abbrev pub AreKept : Network → World → List Event → List Event → ℕ → Type 0
AreKept t w [] kept n = (kept ≡ []) × (n ≡ 0)
AreKept t w (e ∷ es) kept n =
    (IsEnabled t w e × ((later : List Event) × (kept ≡ e ∷ later) × AreKept t (world_step t w e) es later n))
    ⊎ ((¬ IsEnabled t w e) × ((m : ℕ) × (n ≡ m + 1) × AreKept t w es kept m))

-- What holds of every migration

-- what is kept is a run
abbrev pub WhatIsKeptIsARun : Type 0
WhatIsKeptIsARun =
    (t : Network) (w : World) (events kept : List Event) (n : ℕ) → AreKept t w events kept n → IsWorldRun t w kept

-- none is left out just where the events are a run
abbrev pub NoneOfARunIsLeftOut : Type 0
NoneOfARunIsLeftOut =
    (t : Network) (w : World) (events kept : List Event) (n : ℕ) → AreKept t w events kept n →
    n ≡ 0 ↔ IsWorldRun t w events

-- and then all are kept
abbrev pub AllOfARunAreKept : Type 0
AllOfARunAreKept =
    (t : Network) (w : World) (events : List Event) → IsWorldRun t w events → AreKept t w events events 0

-- where a replay tells the first event that isn't enabled, at least one is left out
abbrev pub WhatIsRefusedIsLeftOut : Type 0
WhatIsRefusedIsLeftOut =
    (t : Network) (events kept : List Event) (i n : ℕ) → IsFirstDisabled t events i →
    AreKept t (world_start t) events kept n → n ≢ 0

-- one list is kept, and one number left out
abbrev pub EveryMigrationIsOne : Type 0
EveryMigrationIsOne =
    (t : Network) (w : World) (events kept others : List Event) (n m : ℕ) →
    AreKept t w events kept n → AreKept t w events others m → (kept ≡ others) × (n ≡ m)
