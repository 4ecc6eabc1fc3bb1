-- What a publisher shares with its viewers, and what a viewer has read.
use Rattle.std.specs.{Prelude.{◌≡◌, ◌⊎◌, ◌≤◌, ◌<◌, ℕ, Bool, true, false, List, [], Option, Some, None, length}, declared.alloc.Global.Global}
use Rattle.left_right.specs.{Sides.view, declared.board.Doing.Doing, declared.part.Part.Part, declared.reader.Reader.Reader}
use Rattle.atomic_table.specs.declared.shared.Seat.{Seat}
use Rattle.mgmt_view.specs.{Tables.{EndsWith, StartsWith, tables_of}, declared.node_table.NodeTable.NodeTable, declared.shelf.Shelf.Shelf, declared.rule.View.View, declared.rule.Published.Published}

-- what the thread at this place has seen
abbrev pub seen_at : Seat (Option (Part Shelf)) (Doing Shelf View) → List NodeTable
seen_at place = (view place).seen

-- and of what it was told
abbrev pub told_at : Seat (Option (Part Shelf)) (Doing Shelf View) → List NodeTable
told_at place = (view place).told

-- The publisher

abbrev pub tables_in : Option Shelf → List NodeTable
tables_in None = []
tables_in (Some shelf) = tables_of shelf.past

abbrev pub or_none : Option (List NodeTable) → List NodeTable
or_none None = []
or_none (Some tables) = tables

-- The viewer

-- what its reader has seen and was told of, the table that it keeps and the number of that one among the published
-- tables, and whether it has learnt of that one and not read since
pub record ViewerState : Type 0 where
  pub seen : List NodeTable
  pub told : List NodeTable
  pub kept : NodeTable
  pub count : ℕ
  pub is_new : Bool

abbrev pub seen_by : Option (Reader Shelf View Published Global) → List NodeTable
seen_by None = []
seen_by (Some r) = seen_at r.place

abbrev pub told_to : Option (Reader Shelf View Published Global) → List NodeTable
told_to None = []
told_to (Some r) = told_at r.place

-- it is the last of the published tables as they were then, which begin with all of which the viewer was told
pub record IsLastSeen (v : ViewerState) (t : NodeTable) : Type 0 where
  pub last : EndsWith v.seen t
  pub count : v.count ≡ length v.seen
  pub told : StartsWith v.seen v.told

-- The viewer has read this table and keeps it, and has learnt nothing since. It is the one that was kept, or the last of
-- the published ones; its number is no less; and right after a token was learnt it is the last table of which that tells.
pub record HasReadTable (old new : ViewerState) (t : NodeTable) : Type 0 where
  pub kept : new.kept ≡ t
  pub rises : old.count ≤ new.count
  pub told : new.told ≡ old.told
  pub seen : StartsWith new.seen old.seen
  pub table : ((t ≡ old.kept) × (new.count ≡ old.count)) ⊎ IsLastSeen new t
  pub exact : old.is_new ≡ true → t ≡ old.kept
  pub since : new.is_new ≡ false

-- what it keeps is as it was
pub record HasKeptView (old new : ViewerState) : Type 0 where
  pub kept : new.kept ≡ old.kept
  pub count : new.count ≡ old.count
  pub told : new.told ≡ old.told
  pub is_new : new.is_new ≡ old.is_new

-- It was told of these tables. It keeps the last one of them, unless the one that it keeps has a greater number.
pub record HasLearnt (old : ViewerState) (tables : List NodeTable) (new : ViewerState) : Type 0 where
  pub told : new.told ≡ tables
  pub rises : old.count ≤ new.count
  pub last : old.count ≤ length tables → EndsWith tables new.kept
  pub count : old.count ≤ length tables → new.count ≡ length tables
  pub fresh : old.count ≤ length tables → new.is_new ≡ true
  pub kept : length tables < old.count → new.kept ≡ old.kept

-- It was told of these tables by the last token that there is: it keeps the last one of them and hasn't read since. One
-- that had read more began anew.
pub record HasLearntLast (old : ViewerState) (tables : List NodeTable) (new : ViewerState) : Type 0 where
  pub told : new.told ≡ tables
  pub last : EndsWith tables new.kept
  pub count : new.count ≡ length tables
  pub fresh : new.is_new ≡ true
  pub learnt : old.count ≤ length tables → HasLearnt old tables new
