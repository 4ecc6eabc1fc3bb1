-- A station is what its node made alone.
use Rattle.std.specs.{Prelude.{◌≡◌, ◌≤◌, ℕ, true, List, length, map}, List.AllByRecursion}
use Rattle.ason_base.specs.{declared.limits.TheConstants.MOST_EVENTS, declared.ids.NodeId.NodeId, declared.commands.DeskItem.DeskItem, declared.commands.Entry.Entry, Network.{Network, is_node_id}}
use Rattle.control_channels.specs.Controllers.{ControllerState}
use Rattle.world_rules.specs.{WorldRuns.neighbours_of, Standing.NodeStands, Worlds.world_start}
use Rattle.world_merge.specs.{Deeds.{AreDoable, Deed, alone, sent_by, stamp_of}, Logs.{RisesAbove, log_of}}
use Rattle.station_rings.specs.{declared.parcel.Parcel.Parcel, Links.LinkView, Parcels.{AreStamped, CameIn, IsSentOf, clock_after}}

pub record StationView : Type 0 where
  pub controller : ControllerState
  pub desk : List DeskItem
  -- the stamp of its last line, or of a later post
  pub clock : ℕ
  pub log : List Entry
  pub links : List LinkView

-- all that the node sent over the link has a number, and each parcel is the frame of its number
pub record LinkIsSound (t : Network) (n : NodeId) (deeds : List Deed) (clock : ℕ) (l : LinkView) : Type 0 where
  pub numbers : l.sent ≡ length (sent_by t n deeds l.peer.0)
  pub sent : AllByRecursion (IsSentOf t n deeds l.peer) l.gone
  pub old : AllByRecursion (λ (p : Parcel). p.stamp ≤ clock) l.gone

-- Controller and desk are those of the node where it was alone and did this, the log is that of the deeds, the clock is
-- the stamp of the last of them, no stamp is above it, and the links lead to the neighbours.
pub record IsSound (t : Network) (n : NodeId) (deeds : List Deed) (s : StationView) : Type 0 where
  pub known : is_node_id t.nodes n ≡ true
  pub node : NodeStands t (alone t n deeds) n s.controller s.desk
  pub log : s.log ≡ log_of n deeds
  pub rises : RisesAbove 0 deeds
  pub below : AllByRecursion (λ (d : Deed). stamp_of d ≤ s.clock) deeds
  pub doable : AreDoable t n (world_start t) deeds
  pub peers : map (λ (l : LinkView). l.peer) s.links ≡ neighbours_of t n
  pub links : AllByRecursion (LinkIsSound t n deeds s.clock) s.links
  pub took : AllByRecursion (CameIn s.links) deeds
  pub clock : s.clock ≡ clock_after 0 deeds
  pub stamped : AreStamped s.links 0 deeds

abbrev pub LogsAreCounted : Type 0
LogsAreCounted = (t : Network) (n : NodeId) (deeds : List Deed) → (alone t n deeds).made n.0 ≡ length (log_of n deeds)

-- a log has 50,000 lines at most
abbrev pub LogsAreFew : Type 0
LogsAreFew =
    (t : Network) (n : NodeId) (deeds : List Deed) → AreDoable t n (world_start t) deeds →
    length (log_of n deeds) ≤ MOST_EVENTS
