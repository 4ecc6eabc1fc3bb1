-- The lines of deeds whose stamps rise are sorted.
use Rattle.std.proofs.Common.{◌<◌, ◌≤◌, ℕ, Bool, true, false, cond, List, [], ◌∷◌, filter, map, arith, inl}
use Rattle.std.specs.List.{AllByRecursion}
use Rattle.ason_base.specs.{declared.ids.NodeId.NodeId, declared.commands.Entry.Entry}
use Rattle.world_merge.specs.{Deeds.{Deed, stamp_of}, Logs.{RisesAbove, line_of}, Orders.{IsBefore, IsSorted}}
use Rattle.world_merge.proofs.Splitting.{line-stamp}

all_later : (p : Deed → Bool) (n : NodeId) (e : Entry) (s : ℕ) (ds : List Deed) → e.stamp ≤ s → RisesAbove s ds →
    AllByRecursion (IsBefore e) (map (line_of n) (filter p ds))
all_later p n e s [] less up = tt
all_later p n e s (d ∷ ds) less up = go (p d) (all_later p n e (stamp_of d) ds (omega (arith, less, first)) up.1)
  where
    first : s < stamp_of d
    first = up.0

    go : (b : Bool) → AllByRecursion (IsBefore e) (map (line_of n) (filter p ds)) →
        AllByRecursion (IsBefore e) (map (line_of n) (cond b (d ∷ filter p ds) (filter p ds)))
    go true rest = (inl (let same = line-stamp n d in omega (arith, less, first, same)), rest)
    go false rest = rest

-- The lines of those deeds that pass are sorted where stamps rise.
pub sorted_lines : (p : Deed → Bool) (n : NodeId) (s : ℕ) (ds : List Deed) → RisesAbove s ds →
    IsSorted (map (line_of n) (filter p ds))
sorted_lines p n s [] up = tt
sorted_lines p n s (d ∷ ds) up = go (p d) (sorted_lines p n (stamp_of d) ds up.1)
  where
    go : (b : Bool) → IsSorted (map (line_of n) (filter p ds)) →
        IsSorted (map (line_of n) (cond b (d ∷ filter p ds) (filter p ds)))
    go true rest = (all_later p n (line_of n d) (stamp_of d) ds (omega (arith, line-stamp n d)) up.1, rest)
    go false rest = rest
