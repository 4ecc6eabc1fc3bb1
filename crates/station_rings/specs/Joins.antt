-- The stations of a network, joined by their rings.
use Rattle.std.specs.{Prelude.{◌≡◌, ℕ, true, false, List, map}, List.Contains}
use mathlib.Core.List.{IsPrefix}
use Rattle.ason_base.specs.{declared.commands.Command.Command, Network.{Network, is_node_id}}
use Rattle.world_rules.specs.Worlds.{world_start}
use Rattle.world_merge.specs.{Deeds.{AreDoable, Posted}, Histories.{AreHistories, Histories, at}}
use Rattle.station_rings.specs.{Links.LinkView, Stations.{IsSound, StationView}}

-- the station of each node
abbrev pub Stations : Type 0
Stations = ℕ → StationView

-- what came out of the ring to the node n is a beginning of what its other end's station put there
pub record IsRingJoined (t : Network) (stations : Stations) (n : ℕ) (l : LinkView) : Type 0 where
  pub far : LinkView
  pub known : is_node_id t.nodes l.peer ≡ true
  pub there : Contains (stations l.peer.0).links far
  pub back : far.peer ≡ at n
  pub begins : IsPrefix l.came far.gone

-- at a number that is no node's there are posts alone
pub record HasPosts (t : Network) (hists : Histories) (n : ℕ) : Type 0 where
  pub posts : List (ℕ × Command)
  pub all : hists n ≡ map (λ c. Posted c.0 c.1) posts
  pub doable : AreDoable t (at n) (world_start t) (hists n)

-- each node's station is sound by what the node did, and each of its rings is joined
pub record AreStationsSound (t : Network) (hists : Histories) (stations : Stations) : Type 0 where
  pub sound : (n : ℕ) → is_node_id t.nodes (at n) ≡ true → IsSound t (at n) (hists n) (stations n)
  pub joined : (n : ℕ) → is_node_id t.nodes (at n) ≡ true → (l : LinkView) → Contains (stations n).links l →
      IsRingJoined t stations n l
  pub nowhere : (n : ℕ) → is_node_id t.nodes (at n) ≡ false → HasPosts t hists n

abbrev pub JoinedAreHistories : Type 0
JoinedAreHistories =
    (t : Network) (hists : Histories) (stations : Stations) → AreStationsSound t hists stations → AreHistories t hists
