-- The lines that a log has of what happened at a node.
use Rattle.std.specs.Prelude.{◌<◌, ℕ, Bool, true, false, not, List, [], ◌∷◌, filter, map, Some, None}
use Rattle.ason_base.specs.{declared.ids.NodeId.NodeId, declared.commands.Entry.Entry, declared.commands.Event.TheVariants.{Deliver, Noise, Tick, Desk, Post}}
use Rattle.world_merge.specs.Deeds.{Deed, Handled, Heard, Posted, Ticked, Took, stamp_of}

-- a post is a line of no node
abbrev pub line_of : NodeId → Deed → Entry
line_of n (Ticked s) = record { stamp = s; node = Some n; event = Tick n }
line_of n (Handled s) = record { stamp = s; node = Some n; event = Desk n }
line_of n (Took s u k x) = record { stamp = s; node = Some n; event = Deliver n u k }
line_of n (Heard s u bytes) = record { stamp = s; node = Some n; event = Noise n u bytes }
line_of n (Posted s c) = record { stamp = s; node = None; event = Post c }

abbrev pub is_posted : Deed → Bool
is_posted (Ticked s) = false
is_posted (Handled s) = false
is_posted (Took s u k x) = false
is_posted (Heard s u bytes) = false
is_posted (Posted s c) = true

-- the log of the node, in which posts don't stand
abbrev pub log_of : NodeId → List Deed → List Entry
log_of n ds = map (line_of n) (filter (λ d. not (is_posted d)) ds)

-- the posts among these
abbrev pub posts_of : NodeId → List Deed → List Entry
posts_of n ds = map (line_of n) (filter is_posted ds)

-- each stamp is above the one before, the first above this one
abbrev pub RisesAbove : ℕ → List Deed → Type 0
RisesAbove s [] = Unit {0}
RisesAbove s (d ∷ ds) = (s < stamp_of d) × RisesAbove (stamp_of d) ds
