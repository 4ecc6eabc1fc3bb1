-- The links of a station that stands in a fleet.
use Rattle.std.proofs.Common.{◌≡◌, true, List, length, map, sym, ap, ◌∙◌, subst}
use Rattle.std.specs.List.{AllZip, Contains}
use Rattle.ason_base.specs.{declared.ids.NodeId.NodeId, declared.commands.Disturb.Disturb, Network.{Network, is_node_id}}
use Rattle.ason_base.proofs.Members.{map-map, one-of_all, there-map}
use Rattle.world_rules.specs.WorldRuns.{is_world_channel, neighbours_of}
use Rattle.world_merge.specs.Deeds.{sent_by}
use Rattle.station_rings.specs.{Links.LinkView, Stations.{IsSound, LinkIsSound}, LinkStates.{LinkState, view_of}}
use Rattle.round_rules.specs.{Records.{Record, deeds_at}, Rings.count_of, OneWorker.ids_of, States.{IsTakenFrom, StationState, holding_of}, Fleets.{AreStanding, IsStationAt, Wires}}
use Rattle.round_rules.proofs.{Choosing.{Beside, mapped-same, zip-beside}, Nodes.{channel-back, joins-nodes, near-there, node-there}}

-- the station's links lead to the node's neighbours
pub peers-near : (t : Network) (lines : List Disturb) (r : Record) (wires : Wires) (n : NodeId) (s : StationState) →
    IsStationAt t lines r wires n s → map (λ (l : LinkState). l.peer) s.links ≡ neighbours_of t n
peers-near t lines r wires n s is =
    sym (map-map view_of (λ (l : LinkView). l.peer) s.links) ∙ is.station.stands.sound.peers

-- the node's link to a neighbour
module _ (t : Network) (lines : List Disturb) (r : Record) (wires : Wires) (n : NodeId) (s : StationState)
    (is : IsStationAt t lines r wires n s) (u : NodeId) (near : Contains (neighbours_of t n) u) where
  sound : IsSound t n (deeds_at r n.0) (holding_of s).station
  sound = is.station.stands.sound

  -- it is one of the station's
  pub link-there : Contains s.links (wires n.0 u.0)
  link-there =
      subst (λ ls. Contains ls (wires n.0 u.0)) (sym is.links)
      (there-map (λ (v : NodeId). wires n.0 v.0) (neighbours_of t n) u near)

  -- it leads to the neighbour
  pub link-peer : (wires n.0 u.0).peer ≡ u
  link-peer =
      mapped-same (λ (v : NodeId). (wires n.0 v.0).peer) (neighbours_of t n) u
      (sym (map-map (λ (v : NodeId). wires n.0 v.0) (λ (l : LinkState). l.peer) (neighbours_of t n))
      ∙ ap (map (λ (l : LinkState). l.peer)) (sym is.links) ∙ peers-near t lines r wires n s is) near

  -- it is sound
  pub link-sound : LinkIsSound t n (deeds_at r n.0) s.clock (view_of (wires n.0 u.0))
  link-sound =
      one-of_all (LinkIsSound t n (deeds_at r n.0) s.clock) (map view_of s.links) (view_of (wires n.0 u.0)) sound.links
      (there-map view_of s.links (wires n.0 u.0) link-there)

  -- as many frames were sent over it as the record tells
  pub link-count : (wires n.0 u.0).sent ≡ count_of t r n u
  link-count = link-sound.numbers ∙ ap (λ (v : NodeId). length (sent_by t n (deeds_at r n.0) v.0)) link-peer

  -- and those were taken that the record tells
  pub link-taken : IsTakenFrom (r.doings n.0) (wires n.0 u.0)
  link-taken = one-of_all (IsTakenFrom (r.doings n.0)) s.links (wires n.0 u.0) is.station.taken link-there

-- a station of these for each node
pub at-each : (t : Network) (lines : List Disturb) (r : Record) (wires : Wires) (stations : List StationState) →
    AllZip (IsStationAt t lines r wires) (ids_of t) stations → (n : NodeId) → is_node_id t.nodes n ≡ true →
    Beside (IsStationAt t lines r wires) stations n
at-each t lines r wires stations each n known =
    zip-beside (IsStationAt t lines r wires) (ids_of t) stations n each (node-there t n known)

-- the station of a node
pub at-node : (t : Network) (lines : List Disturb) (r : Record) (wires : Wires) (stations : List StationState) →
    AreStanding t lines r wires stations → (n : NodeId) → is_node_id t.nodes n ≡ true →
    Beside (IsStationAt t lines r wires) stations n
at-node t lines r wires stations all n known = at-each t lines r wires stations all.each n known

-- Of a channel: the link of its receiver, by which its frames come, and that of its sender.
pub record ChannelEnds (t : Network) (lines : List Disturb) (r : Record) (wires : Wires) (u d : NodeId) : Type 0 where
  pub sender : StationState
  pub sends : IsStationAt t lines r wires u sender
  pub receiver : StationState
  pub receives : IsStationAt t lines r wires d receiver
  pub out : Contains (neighbours_of t u) d
  pub into : Contains (neighbours_of t d) u

-- the two ends of a channel, by the stations alone
pub ends-each : (t : Network) (lines : List Disturb) (r : Record) (wires : Wires) (stations : List StationState) →
    AllZip (IsStationAt t lines r wires) (ids_of t) stations → (u d : NodeId) → is_world_channel t u d ≡ true →
    ChannelEnds t lines r wires u d
ends-each t lines r wires stations each u d joined =
    let ends = joins-nodes t u d joined in
    let a = at-each t lines r wires stations each u ends.from in
    let b = at-each t lines r wires stations each d ends.to in
    record {
      sender = a.item;
      sends = a.is;
      receiver = b.item;
      receives = b.is;
      out = near-there t u d (channel-back t u d joined);
      into = near-there t d u joined;
    }

-- the two ends of a channel
pub channel-ends : (t : Network) (lines : List Disturb) (r : Record) (wires : Wires) (stations : List StationState) →
    AreStanding t lines r wires stations → (u d : NodeId) → is_world_channel t u d ≡ true →
    ChannelEnds t lines r wires u d
channel-ends t lines r wires stations all u d joined = ends-each t lines r wires stations all.each u d joined
