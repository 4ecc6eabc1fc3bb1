-- The stamps of a fleet have no gap, so none is above the number of all that happened.
use Rattle.std.specs.{Prelude.{◌≡◌, ◌≤◌, ◌⊎◌, ◌+◌, ◌*◌, ◌^◌, ℕ, true, List, length}, List.{AllByRecursion, Contains, flat_map}}
use Rattle.ason_base.specs.{declared.limits.TheConstants.{MOST_EVENTS, MOST_NODES}, declared.ids.NodeId.NodeId, declared.commands.Command.Command, declared.commands.Disturb.Disturb, Network.{Network, is_node_id}}
use Rattle.world_merge.specs.Deeds.{Deed, Posted, stamp_of}
use Rattle.round_rules.specs.{OneWorker.ids_of, Records.{Record, deeds_at, posts_in}, PartLimits.IsAtLimit, States.StationState, Fleets.{AreStanding, HasGrown, Wires, AllBegun}}

-- a deed of some node has this stamp
pub record IsStampIn (t : Network) (r : Record) (s : ℕ) : Type 0 where
  pub node : NodeId
  pub known : is_node_id t.nodes node ≡ true
  pub deed : Deed
  pub there : Contains (deeds_at r node.0) deed
  pub stamp : stamp_of deed ≡ s

-- it is 1, or one more than the stamp of a deed
abbrev pub HasPredecessor : Network → Record → ℕ → Type 0
HasPredecessor t r s = (s ≡ 1) ⊎ ((p : ℕ) × IsStampIn t r p × (s ≡ p + 1))

-- a post took the greatest clock and one more
abbrev pub PostsFollow : Network → Record → Type 0
PostsFollow t r =
    (n : NodeId) (s : ℕ) (c : Command) → is_node_id t.nodes n ≡ true → Contains (deeds_at r n.0) (Posted s c) →
    HasPredecessor t r s

-- all that happened at the nodes; a post is there for each node
abbrev pub all_deeds : Network → Record → List Deed
all_deeds t r = flat_map (λ (n : NodeId). deeds_at r n.0) (ids_of t)

-- no clock is above the number of all deeds
abbrev pub StampsAreFew : Type 0
StampsAreFew =
    (t : Network) (lines : List Disturb) (r : Record) (w : Wires) (xs : List StationState) →
    AreStanding t lines r w xs → AllBegun t w → PostsFollow t r →
    AllByRecursion (λ (s : StationState). s.clock ≤ length (all_deeds t r)) xs

-- turns post nothing, and what was posted still follows
abbrev pub PostsStillFollow : Type 0
PostsStillFollow =
    (t : Network) (before after : Record) → ((m : ℕ) → HasGrown before after m) → PostsFollow t before →
    PostsFollow t after

-- at most 64 logs have at most 50,000 lines, and each node has the posts
abbrev pub DeedsAreFew : Type 0
DeedsAreFew =
    (t : Network) (lines : List Disturb) (r : Record) (w : Wires) (xs : List StationState) →
    AreStanding t lines r w xs → length (all_deeds t r) ≤ MOST_NODES * (MOST_EVENTS + length (posts_in r))

-- So with as many posts as a fleet takes a station is at its limit only where its log is full.
abbrev pub LimitsAreLogs : Type 0
LimitsAreLogs =
    (t : Network) (lines : List Disturb) (r : Record) (w : Wires) (xs : List StationState) →
    AreStanding t lines r w xs → AllBegun t w → PostsFollow t r → length (posts_in r) ≤ 2 ^ 32 →
    AllByRecursion (λ (s : StationState). IsAtLimit s → length s.log ≡ MOST_EVENTS) xs
