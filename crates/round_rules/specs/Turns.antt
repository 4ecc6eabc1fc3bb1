-- One turn of a node: its tick, the held frames that are due, its desk, and what it takes.
use Rattle.std.specs.Prelude.{◌≡◌, ℕ, Bool, true, false, List, [], ◌∷◌, ◌++◌, length}
use Rattle.ason_base.specs.{declared.ids.NodeId.NodeId, declared.commands.Disturb.Disturb, Network.Network}
use Rattle.flood.specs.declared.frames.Content.{Content}
use Rattle.world_merge.specs.Deeds.{Handled, Ticked, Took, alone}
use Rattle.round_rules.specs.{Doings.{Did, Doing, Freed, deeds_in}, Held.{HeldFrame, due_in}, Takings.{AreTakings, Taking, all_doings}}

-- a tick where it is asked for
abbrev pub IsTick : Bool → List Doing → Type 0
IsTick true ds = (s : ℕ) × (ds ≡ Did (Ticked s) ∷ [])
IsTick false ds = ds ≡ []

-- the held frames are let go and delivered, one after the other
abbrev pub AreDelivered : List HeldFrame → List Doing → Type 0
AreDelivered [] ds = ds ≡ []
AreDelivered (h ∷ hs) ds =
    (s : ℕ) × (x : Content) × (rest : List Doing) ×
    (ds ≡ Freed ∷ Did (Took s h.from h.number x) ∷ rest) × AreDelivered hs rest

-- so many items are handled
abbrev pub AreHandled : List Doing → Type 0
AreHandled [] = Unit {0}
AreHandled (d ∷ ds) = ((s : ℕ) × (d ≡ Did (Handled s))) × AreHandled ds

-- how many items are on the desk once this was done
abbrev pub items_after : Network → NodeId → List Doing → ℕ
items_after t n ds = length ((alone t n (deeds_in ds)).desks n.0)

-- What a node adds in a turn that comes to its end, where it did this before. All items are handled that were on the
-- desk once the frames that are due were delivered; frames are taken after these.
pub record IsTurnOf (t : Network) (lines : List Disturb) (n : NodeId) (tick : Bool)
    (before added : List Doing) : Type 0 where
  pub ticks : List Doing
  pub dues : List Doing
  pub items : List Doing
  pub takings : List Taking
  pub all : added ≡ ticks ++ (dues ++ (items ++ all_doings takings))
  pub is_tick : IsTick tick ticks
  pub are_due : AreDelivered (due_in (before ++ ticks)) dues
  pub handled : AreHandled items
  pub count : length items ≡ items_after t n (before ++ (ticks ++ dues))
  pub are_takings : AreTakings lines n takings
