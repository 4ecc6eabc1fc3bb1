-- A turn as a function of what the node did before, of the frames that are due, and of those that it pops.
use Rattle.std.specs.{Prelude.{◌≡◌, ◌+◌, ℕ, zero, suc, max, Bool, List, [], ◌∷◌, ◌++◌, fold, Option, Some, None, if◌then◌else◌}, List.AllZip}
use Rattle.ason_base.specs.{declared.ids.NodeId.NodeId, declared.commands.Disturb.Disturb, declared.commands.DisturbKind.DisturbKind, declared.commands.DisturbKind.TheVariants.{Lose, Repeat, Hold}, Network.Network}
use Rattle.flood.specs.declared.frames.Content.{Content}
use Rattle.world_merge.specs.Deeds.{Deed, Handled, Ticked, Took, stamp_of}
use Rattle.round_rules.specs.{Doings.{Did, Doing, Freed, Got, deeds_in}, Held.HeldFrame, Lines.says, Turns.items_after}

-- a frame as it is popped: its sender, its number, the stamp with which it was sent, and what it bears
pub record Popped : Type 0 where
  pub from : NodeId
  pub number : ℕ
  pub stamp : ℕ
  pub content : Content

-- the clock is the stamp of the last deed, posts among them; 0 at the start
abbrev pub clock_of : List Doing → ℕ
clock_of ds = fold (λ (s : ℕ) (d : Deed). stamp_of d) 0 (deeds_in ds)

-- Its parts

-- a tick and an item take the next stamp
abbrev pub with_ticked : List Doing → List Doing
with_ticked ds = ds ++ Did (Ticked (clock_of ds + 1)) ∷ []

abbrev pub tick_if : Bool → List Doing → List Doing
tick_if b ds = if b then with_ticked ds else ds

abbrev pub with_handled : List Doing → List Doing
with_handled ds = ds ++ Did (Handled (clock_of ds + 1)) ∷ []

abbrev pub all_handled : ℕ → List Doing → List Doing
all_handled zero ds = ds
all_handled (suc k) ds = all_handled k (with_handled ds)

-- a delivery takes the next stamp above the clock and the frame's
abbrev pub with_delivered : List Doing → Popped → List Doing
with_delivered ds p = ds ++ Did (Took (max (clock_of ds) p.stamp + 1) p.from p.number p.content) ∷ []

-- the first held frame, which is this one, is let go and delivered
abbrev pub with_freed : List Doing → Popped → List Doing
with_freed ds p = with_delivered (ds ++ Freed ∷ []) p

abbrev pub all_freed : List Doing → List Popped → List Doing
all_freed ds ps = fold with_freed ds ps

-- Taking

abbrev pub got : List Doing → Popped → Option DisturbKind → List Doing
got ds p o = ds ++ Got p.from p.number o ∷ []

-- what the last line says is done
abbrev pub taken_as : Option DisturbKind → List Doing → Popped → List Doing
taken_as None ds p = with_delivered (got ds p None) p
taken_as (Some Repeat) ds p = with_delivered (with_delivered (got ds p (Some Repeat)) p) p
taken_as (Some Lose) ds p = got ds p (Some Lose)
taken_as (Some Hold) ds p = got ds p (Some Hold)

abbrev pub with_taken : List Disturb → NodeId → List Doing → Popped → List Doing
with_taken lines n ds p = taken_as (says lines p.from n p.number) ds p

abbrev pub all_taken : List Disturb → NodeId → List Doing → List Popped → List Doing
all_taken lines n ds ps = fold (with_taken lines n) ds ps

-- The turn

-- the tick, the held frames that are due, which are these, all items of the desk, and what is popped
abbrev pub turn_after : Network → List Disturb → NodeId → Bool → List Doing → List Popped → List Popped → List Doing
turn_after t lines n tick ds due pops =
    let before = all_freed (tick_if tick ds) due in
    all_taken lines n (all_handled (items_after t n before) before) pops

abbrev pub IsHeldAs : HeldFrame → Popped → Type 0
IsHeldAs h p = (h.from ≡ p.from) × (h.number ≡ p.number)

-- the held frames are these
abbrev pub AreHeldAs : List HeldFrame → List Popped → Type 0
AreHeldAs hs ps = AllZip IsHeldAs hs ps
