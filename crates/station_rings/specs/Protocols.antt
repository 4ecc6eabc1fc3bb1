-- What a ring promises of its parcels.
use Rattle.std.specs.{Prelude.{◌<◌, ◌≤◌, List, [], ◌∷◌, ◌++◌}, List.AllByRecursion}
use Rattle.flood.specs.{declared.frames.Content.Content, Frames.IsFrame}
use Rattle.station_rings.specs.declared.parcel.Parcel.{Parcel}

-- the parcel x has a greater number than y, and no lower stamp
abbrev pub IsAfter : Parcel → Parcel → Type 0
IsAfter x y = (y.number < x.number) × (y.stamp ≤ x.stamp)

-- numbers rise, stamps never fall, and each frame bears something
pub record FollowsParcels (before : List Parcel) (x : Parcel) : Type 0 where
  pub after : AllByRecursion (IsAfter x) before
  pub content : Content
  pub spells : IsFrame x.frame content

-- each of these follows those and the ones before it
abbrev pub AreInOrder : List Parcel → List Parcel → Type 0
AreInOrder before [] = Unit {0}
AreInOrder before (x ∷ xs) = FollowsParcels before x × AreInOrder (before ++ x ∷ []) xs
