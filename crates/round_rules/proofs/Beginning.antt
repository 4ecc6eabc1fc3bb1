-- New stations stand for the record in which nothing was done.
use Rattle.std.proofs.Common.{◌≡◌, ◌≤◌, ◌+◌, ℕ, true, List, [], ◌∷◌, length, map, refl, sym, ap, ◌∙◌, subst, arith}
use Rattle.std.specs.List.{AllByRecursion, Contains}
use Rattle.ason_base.specs.{declared.limits.TheConstants.MOST_FRAMES, declared.ids.NodeId.NodeId, Network.{IsTopology, Network, is_node_id}}
use mathlib.Core.List.{IsPrefix}
use Rattle.ason_base.proofs.Members.{map-map, contains-head, contains-tail, contains-none}
use Rattle.mesh_rules.specs.LocalNodes.{local_node}
use Rattle.control_channels.specs.{Adjacencies.neighbours as hop_neighbours, Controllers.ControllerState, ReadyControllers.new_controller}
use Rattle.control_channels.proofs.Reaching.{peers-new, hop-new}
use Rattle.world_rules.specs.{WorldRuns.{is_world_channel, neighbours_of}, Standing.NodeStands, Worlds.world_start}
use Rattle.world_merge.specs.Deeds.{Posted}
use Rattle.station_rings.specs.{Links.LinkView, declared.parcel.Parcel.Parcel, Parcels.IsSentOf, Stations.{IsSound, LinkIsSound}, LinkStates.{IsNew, LinkState, gone_of, view_of}}
use Rattle.round_rules.specs.{OneWorker.ids_of, Records.new_record, Lines.says, Stands.{IsHeldOf, frame_of}, States.{IsTakenFrom, StationState, holding_of, parcel_numbers}, Commands.{IsNewAt, IsNewRing, NewStationsStand}, Fleets.{HasBegun, IsRingOf, IsStationAt, Wires}}
use Rattle.round_rules.proofs.{Choosing.zip-there, Nodes.{among-ids, channel-back, channel-near, there-among}}

-- A new controller

new_stands : (t : Network) (n : NodeId) → NodeStands t (world_start t) n (new_controller t n) []
new_stands t n = record {
  place = refl;
  stands = record { state = refl; hops = hop-new (hop_neighbours (local_node t n)) };
  flood = refl;
  hops = peers-new (hop_neighbours (local_node t n));
  desk = refl;
  made = refl;
}

-- Links

each_mapped : {X Y : Type 0} (P : Y → Type 0) (f : X → Y) (xs : List X) → ((x : X) → Contains xs x → P (f x)) →
    AllByRecursion P (map f xs)
each_mapped P f [] each = tt
each_mapped P f (x ∷ xs) each =
    (each x (contains-head x xs), each_mapped P f xs (λ y there. each y (contains-tail x y xs there)))

mapped_back : {X Y : Type 0} (f : X → Y) (g : Y → X) (xs : List X) → ((x : X) → Contains xs x → g (f x) ≡ x) →
    map g (map f xs) ≡ xs
mapped_back f g [] each = refl
mapped_back f g (x ∷ xs) each =
    λ i. (each x (contains-head x xs) i) ∷ (mapped_back f g xs (λ y there. each y (contains-tail x y xs there)) i)

module _ (t : Network) (valid : IsTopology t) (wires : Wires)
    (rings : (u d : NodeId) → is_world_channel t u d ≡ true → IsNewRing wires u d) where
  -- the link of a node to each of its neighbours is new
  new_link : (n u : NodeId) → Contains (neighbours_of t n) u → IsNew u (wires n.0 u.0)
  new_link n u near = (rings n u (channel-back t u n (channel-near t n u near))).new

  link_sound : (n : NodeId) (clock : ℕ) (u : NodeId) → Contains (neighbours_of t n) u →
      LinkIsSound t n [] clock (view_of (wires n.0 u.0))
  link_sound n clock u near =
      let is = new_link n u near in
      record {
        numbers = is.sent;
        sent = subst (AllByRecursion (IsSentOf t n [] (wires n.0 u.0).peer)) (sym is.gone) tt;
        old = subst (AllByRecursion (λ (p : Parcel). p.stamp ≤ clock)) (sym is.gone) tt;
      }

  link_taken : (n u : NodeId) → Contains (neighbours_of t n) u → IsTakenFrom [] (wires n.0 u.0)
  link_taken n u near =
      let is = new_link n u near in record { taken = []; came = is.came ∙ sym is.early; numbers = refl }

  module _ (n : NodeId) (known : is_node_id t.nodes n ≡ true) (s : StationState) (is : IsNewAt t wires n s) where
    abbrev links : List LinkState
    links = map (λ (u : NodeId). wires n.0 u.0) (neighbours_of t n)

    views : map view_of s.links ≡ map (λ (u : NodeId). view_of (wires n.0 u.0)) (neighbours_of t n)
    views = ap (map view_of) is.links ∙ map-map (λ (u : NodeId). wires n.0 u.0) view_of (neighbours_of t n)

    sound : IsSound t n [] (holding_of s).station
    sound = record {
      known = known;
      node =
          subst (λ (c : ControllerState). NodeStands t (world_start t) n c s.desk) (sym is.controller)
          (subst (NodeStands t (world_start t) n (new_controller t n)) (sym is.desk) (new_stands t n));
      log = is.log;
      rises = tt;
      below = tt;
      doable = tt;
      peers =
          ap (map (λ (l : LinkView). l.peer)) views
          ∙ mapped_back (λ (u : NodeId). view_of (wires n.0 u.0)) (λ (l : LinkView). l.peer) (neighbours_of t n)
          (λ u near. (new_link n u near).peer);
      links =
          subst (AllByRecursion (LinkIsSound t n [] s.clock)) (sym views)
          (each_mapped (LinkIsSound t n [] s.clock) (λ (u : NodeId). view_of (wires n.0 u.0)) (neighbours_of t n)
          (link_sound n s.clock));
      took = tt;
      clock = is.clock;
      stamped = tt;
    }

    station : IsStationAt t [] new_record wires n s
    station = record {
      station = record {
        stands = record {
          sound = sound;
          clock = is.clock;
          held = ap (map frame_of) is.held;
          kept = subst (AllByRecursion (IsHeldOf (map view_of s.links))) (sym is.held) tt;
        };
        taken =
            subst (AllByRecursion (IsTakenFrom [])) (sym is.links)
            (each_mapped (IsTakenFrom []) (λ (u : NodeId). wires n.0 u.0) (neighbours_of t n) (link_taken n));
      };
      links = is.links;
      told = λ u k. ap (λ ls. says ls u n k) is.lines;
    }

  new_ring : (u d : NodeId) → is_world_channel t u d ≡ true → IsRingOf t new_record wires u d
  new_ring u d joined =
      let is = rings u d joined in
      record {
        ends = is.ends;
        handed_over = ap parcel_numbers is.new.gone;
        room = subst (λ ps. length ps ≤ (wires u.0 d.0).standing + 0) (sym is.new.gone) (omega arith);
        most = subst (λ k. k ≤ MOST_FRAMES) (sym is.new.standing) (omega arith);
        past = tt;
      }

  new_begun : (u d : NodeId) → is_world_channel t u d ≡ true → HasBegun wires u d
  new_begun u d joined =
      subst (λ ps. IsPrefix ps (gone_of (wires u.0 d.0))) (sym (rings d u (channel-back t u d joined)).new.came)
      (gone_of (wires u.0 d.0), refl)

-- Stations that are new stand for the record in which nothing was done.
pub new-stations-stand : NewStationsStand
new-stations-stand t wires stations valid each rings = record {
  stands = record {
    valid = valid;
    each =
        zip-there (IsNewAt t wires) (IsStationAt t [] new_record wires) (ids_of t)
        (λ n s there is. station t valid wires rings n (sym (among-ids t n) ∙ there-among (ids_of t) n there) s is)
        (ids_of t) stations (λ n there. there) each;
    rings = new_ring t valid wires rings;
    nowhere = λ n none. record { posts = record { posts = []; all = refl; doable = tt }; rises = tt };
    posts = λ n. refl;
  };
  begun = new_begun t valid wires rings;
  follow = λ n s c known there. absurd (contains-none (Posted s c) there);
}
