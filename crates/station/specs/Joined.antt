-- Stations that are made, joined and looked at.
use Rattle.std.specs.{Prelude.{◌≡◌, ◌≤◌, ◌+◌, ◌==◌, ℕ, false, [], ◌∷◌, ◌++◌, slice_get, slice_set, None, Some}, List.AllByRecursion}
use Rattle.ason_base.specs.{declared.commands.DeskItem.DeskItem, declared.ids.NodeId.NodeId, Network.Network}
use Rattle.control_channels.specs.ReadyControllers.{new_controller}
use Rattle.station_rings.specs.LinkStates.{AreEnds, IsLooked, IsNew, LinkState}
use Rattle.round_rules.specs.{Entered.me_of, Moves.peers_of, States.StationState}

-- nothing was done yet, and there is no link
pub record IsNewStation (t : Network) (id : NodeId) (s : StationState) : Type 0 where
  pub controller : s.controller ≡ new_controller t id
  pub desk : s.desk ≡ []
  pub links : s.links ≡ []
  pub clock : s.clock ≡ 0
  pub log : s.log ≡ []
  pub held : s.held ≡ []
  pub lines : s.lines ≡ []
  pub publisher : s.publisher ≡ None

-- no link leads to this node
abbrev pub IsApartFrom : NodeId → StationState → Type 0
IsApartFrom n s = AllByRecursion (λ (m : NodeId). (m.0 == n.0) ≡ false) (peers_of s.links)

-- with a link more, at the end
abbrev pub with_link : StationState → LinkState → StationState
with_link s l = record s { links = s.links ++ l ∷ [] }

-- each has the end of a new link to the other
pub record AreStationsConnected (a c b d : StationState) : Type 0 where
  pub here : LinkState
  pub there : LinkState
  pub ends : AreEnds here there
  pub first : c ≡ with_link a here
  pub second : d ≡ with_link b there
  pub new : IsNew (me_of b) here
  pub new_back : IsNew (me_of a) there

-- with another link at this place
abbrev pub with_link_at : StationState → ℕ → LinkState → StationState
with_link_at s place l = record s { links = slice_set s.links place l }

-- A look at the link of a at one place, and at that of b at another, which are two ends.
pub record AreTwoLooked (place : ℕ) (a c : StationState) (back : ℕ) (b d : StationState) : Type 0 where
  pub old : LinkState
  pub old_back : LinkState
  pub was : slice_get a.links place ≡ Some old
  pub was_back : slice_get b.links back ≡ Some old_back
  pub new : LinkState
  pub new_back : LinkState
  pub here : c ≡ with_link_at a place new
  pub there : d ≡ with_link_at b back new_back
  pub ends : AreEnds new new_back
  pub looked : IsLooked old new old_back new_back
  pub looked_back : IsLooked old_back new_back old new

-- with the item at the end of the desk, which has room for one item less at the least
pub record IsItemOrdered (old : StationState) (i : DeskItem) (new : StationState) : Type 0 where
  pub station : new ≡ record old { desk = old.desk ++ i ∷ []; spare = new.spare }
  pub spare : old.spare ≤ new.spare + 1
