-- The frames that a station holds back.
use Rattle.std.specs.Prelude.{ℕ, ◌+◌, nat_le, Bool, List, [], ◌∷◌, ◌++◌, drop, filter, fold, map, Option, Some, None}
use Rattle.ason_base.specs.{declared.ids.NodeId.NodeId, declared.commands.DisturbKind.DisturbKind, declared.commands.DisturbKind.TheVariants.{Lose, Repeat, Hold}}
use Rattle.world_merge.specs.Deeds.{Deed, Handled, Heard, Posted, Ticked, Took}
use Rattle.round_rules.specs.Doings.{Did, Doing, Freed, Got, Left, Lost}

-- a frame that is held, and how often the node ticked since its taking
pub record HeldFrame : Type 0 where
  pub from : NodeId
  pub number : ℕ
  pub ticks : ℕ

abbrev pub ticked_once : HeldFrame → HeldFrame
ticked_once h = record h { ticks = h.ticks + 1 }

-- a tick is one for each of them
abbrev pub held_past : List HeldFrame → Deed → List HeldFrame
held_past hs (Ticked s) = map ticked_once hs
held_past hs (Handled s) = hs
held_past hs (Took s u k x) = hs
held_past hs (Heard s u bytes) = hs
held_past hs (Posted s c) = hs

-- a frame of which a line says `hold` is held
abbrev pub held_by_line : NodeId → ℕ → Option DisturbKind → List HeldFrame
held_by_line u k (Some Hold) = record { from = u; number = k; ticks = 0 } ∷ []
held_by_line u k (Some Lose) = []
held_by_line u k (Some Repeat) = []
held_by_line u k None = []

abbrev pub held_step : List HeldFrame → Doing → List HeldFrame
held_step hs (Did d) = held_past hs d
held_step hs (Got u k says) = hs ++ held_by_line u k says
held_step hs Freed = drop 1 hs
held_step hs (Lost u k) = hs
held_step hs (Left i) = hs

-- in the order of their taking
abbrev pub held_after : List HeldFrame → List Doing → List HeldFrame
held_after hs ds = fold held_step hs ds

-- the last tick was the second since its taking, or a later one
abbrev pub is_frame_due : HeldFrame → Bool
is_frame_due h = nat_le 2 h.ticks

abbrev pub due_in : List Doing → List HeldFrame
due_in ds = filter is_frame_due (held_after [] ds)
