-- A merge of what happened at all nodes, and that it is a run.
use Rattle.std.specs.Prelude.{◌≡◌, ◌≤◌, ◌==◌, ℕ, Bool, true, List, [], ◌∷◌, Option, Some, None, filter, map}
use Rattle.ason_base.specs.{declared.ids.NodeId.NodeId, declared.commands.Entry.Entry, declared.commands.Event.Event, Network.Network}
use Rattle.world_rules.specs.{Worlds.{World, world_start}, WorldRuns.{IsWorldRun, world_after}}
use Rattle.world_merge.specs.{Deeds.alone, Histories.{AreHistories, Histories, at}, Logs.line_of}

-- Merges

-- the line is of this node, or of none
abbrev pub is_line_at : ℕ → Option NodeId → Bool
is_line_at n None = true
is_line_at n (Some m) = m.0 == n

abbrev pub concerns : ℕ → Entry → Bool
concerns n e = is_line_at n e.node

-- the lines of the node with this number, and the posts among them
abbrev pub part : ℕ → List Entry → List Entry
part n m = filter (concerns n) m

-- the stamps never fall, from this one on
abbrev pub Ascends : ℕ → List Entry → Type 0
Ascends s [] = Unit {0}
Ascends s (e ∷ m) = (s ≤ e.stamp) × Ascends e.stamp m

-- Of each node the list has just what happened there, in its order. Stamps never fall; lines of two nodes with the same
-- stamp may stand in either order.
pub record IsMergeOf (hists : Histories) (m : List Entry) : Type 0 where
  pub ascends : Ascends 0 m
  pub parts : (n : ℕ) → part n m ≡ map (line_of (at n)) (hists n)

abbrev pub events_of : List Entry → List Event
events_of m = map (λ e. e.event) m

-- Where it leads

-- the world of which each node has the part that it made alone; posts are the same at every number
abbrev pub assembled : Network → Histories → World
assembled t hists = record {
  nodes = λ n. (alone t (at n) (hists n)).nodes n;
  desks = λ n. (alone t (at n) (hists n)).desks n;
  ends = λ u d. (alone t (at u) (hists u)).ends u d;
  floods = λ n. (alone t (at n) (hists n)).floods n;
  channels = λ u d. (alone t (at u) (hists u)).channels u d;
  posted = (alone t (at 0) (hists 0)).posted;
  failed = (alone t (at 0) (hists 0)).failed;
  made = λ n. (alone t (at n) (hists n)).made n;
}

-- two worlds have the same of the node with this number, and the same posts
pub record Agrees (n : ℕ) (w v : World) : Type 0 where
  pub node : w.nodes n ≡ v.nodes n
  pub desk : w.desks n ≡ v.desks n
  pub ends : (d : ℕ) → w.ends n d ≡ v.ends n d
  pub flood : w.floods n ≡ v.floods n
  pub channels : (d : ℕ) → w.channels n d ≡ v.channels n d
  pub made : w.made n ≡ v.made n
  pub posted : w.posted ≡ v.posted
  pub failed : w.failed ≡ v.failed

-- each event is enabled where it comes, and at last each node has what it made alone
pub record IsRunOf (t : Network) (hists : Histories) (m : List Entry) : Type 0 where
  pub run : IsWorldRun t (world_start t) (events_of m)
  pub parts : (n : ℕ) → Agrees n (world_after t (world_start t) (events_of m)) (alone t (at n) (hists n))
  pub leads : world_after t (world_start t) (events_of m) ≡ assembled t hists

-- whatever the schedule was
abbrev pub EveryMergeIsARun : Type 0
EveryMergeIsARun =
    (t : Network) (hists : Histories) (m : List Entry) → AreHistories t hists → IsMergeOf hists m → IsRunOf t hists m
