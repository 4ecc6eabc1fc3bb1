-- The stations of a fleet stand for a record.
use Rattle.std.proofs.{Common.{◌≡◌, ◌≤◌, ℕ, Bool, true, false, nat_eq, nat_le, List, [], ◌∷◌, length, map, refl, sym, ap, ◌∙◌, subst, arith}, lemmas.List.length-map}
use Rattle.std.specs.{Prelude.{◌&&◌, ◌||◌}, List.{AllByRecursion, AllZip, Contains}}
use Rattle.ason_base.specs.{declared.ids.NodeId.NodeId, declared.commands.Disturb.Disturb, declared.network.NodeSpec.NodeSpec, Network.{IsTopology, Network, is_node_id}}
use Rattle.ason_base.proofs.Members.{there-from_map, there-map}
use Rattle.world_rules.specs.WorldRuns.{is_world_channel, neighbours_of}
use Rattle.world_merge.specs.{Histories.at, Logs.RisesAbove}
use Rattle.station_rings.specs.{Joins.{AreStationsSound, IsRingJoined}, Links.LinkView, Stations.{IsSound, StationView}, LinkStates.{LinkState, view_of}}
use Rattle.station_rings.proofs.Joining.{joined-are-histories}
use Rattle.round_rules.specs.{OneWorker.ids_of, Records.{Record, deeds_at}, States.{StationState, holding_of}, Fleets.{AreStanding, HasBegun, IsStationAt, Wires, AllBegun}, RoundLaws.StationsAreARecord, PossibleRecords.OnlySentOn, Rings.{count_of, got_from, is_number_in}}
use Rattle.round_rules.proofs.{Choosing.{Beside, Chosen, choose, zip-beside, zip-more}, Nodes.{apart-ids, channel-back, channel-near, joins-nodes, near-there, node-there}, Wired.link-peer, Counting.{RingFacts, taken-first}, Handing.handed-in, Numbers.in-first, Rounding.ring-facts}

-- there is a station at least
some_station : {X Y : Type 0} (P : X → Y → Type 0) (xs : List X) (ys : List Y) → AllZip P xs ys → 1 ≤ length xs → Y
some_station P [] ys all some = absurd (omega (arith, some))
some_station P (x ∷ xs) [] all some = absurd all
some_station P (x ∷ xs) (y ∷ ys) all some = y

some_node : (t : Network) → IsTopology t → 1 ≤ length (ids_of t)
some_node t valid = subst (λ k. 1 ≤ k) (sym (length-map t.nodes (λ (m : NodeSpec). m.id))) (first _ _ valid.count)
  where
    first : (k : ℕ) (b : Bool) → (nat_le 1 k && b) ≡ true → 1 ≤ k
    first k b h = grind (arith, h)

module _ (t : Network) (lines : List Disturb) (r : Record) (wires : Wires) (stations : List StationState)
    (all : AreStanding t lines r wires stations)
    (begun : (u d : NodeId) → is_world_channel t u d ≡ true → HasBegun wires u d) where
  abbrev Seen : NodeId → StationState → StationView → Type 0
  Seen n s v = IsStationAt t lines r wires n s × (v ≡ (holding_of s).station)

  chosen : Chosen Seen (ids_of t) stations
      (λ n. (holding_of (some_station (IsStationAt t lines r wires) (ids_of t) stations all.each
      (some_node t all.valid))).station)
  chosen =
      choose Seen (ids_of t) stations
      (λ n. (holding_of (some_station (IsStationAt t lines r wires) (ids_of t) stations all.each
      (some_node t all.valid))).station)
      (apart-ids t all.valid)
      (zip-more (IsStationAt t lines r wires) (λ n s. (v : StationView) × Seen n s v)
      (λ n s is. ((holding_of s).station, (is, refl))) (ids_of t) stations all.each)

  abbrev views : ℕ → StationView
  views = chosen.choice

  here : (n : NodeId) → is_node_id t.nodes n ≡ true → Beside (λ m s. Seen m s (views m.0)) stations n
  here n known = zip-beside (λ m s. Seen m s (views m.0)) (ids_of t) stations n chosen.each (node-there t n known)

  view_sound : (n : ℕ) → is_node_id t.nodes (at n) ≡ true → IsSound t (at n) (deeds_at r n) (views n)
  view_sound n known =
      let h = here (at n) known in
      subst (IsSound t (at n) (deeds_at r n)) (sym h.is.1) h.is.0.station.stands.sound

  -- the links of a node, as they are seen
  links_seen : (n : NodeId) (s : StationState) → Seen n s (views n.0) →
      (views n.0).links ≡ map view_of (map (λ (u : NodeId). wires n.0 u.0) (neighbours_of t n))
  links_seen n s is = ap (λ (v : StationView). v.links) is.1 ∙ ap (map view_of) is.0.links

  one_joined : (n u : NodeId) → is_node_id t.nodes n ≡ true → Contains (neighbours_of t n) u →
      IsRingJoined t views n.0 (view_of (wires n.0 u.0))
  one_joined n u known near = record {
    far = view_of (wires u.0 n.0);
    known = ap (is_node_id t.nodes) peer ∙ far_known;
    there =
        subst (λ (v : NodeId). Contains (views v.0).links (view_of (wires u.0 n.0))) (sym peer)
        (subst (λ ls. Contains ls (view_of (wires u.0 n.0))) (sym (links_seen u b.item b.is))
        (there-map view_of (map (λ (v : NodeId). wires u.0 v.0) (neighbours_of t u)) (wires u.0 n.0)
        (there-map (λ (v : NodeId). wires u.0 v.0) (neighbours_of t u) n back_near)));
    back = link-peer t lines r wires u b.item b.is.0 n back_near;
    begins = begun u n joined;
  }
    where
      joined : is_world_channel t u n ≡ true
      joined = channel-near t n u near

      far_known : is_node_id t.nodes u ≡ true
      far_known = (joins-nodes t u n joined).from

      back_near : Contains (neighbours_of t u) n
      back_near = near-there t u n (channel-back t u n joined)

      a : Beside (λ m s. Seen m s (views m.0)) stations n
      a = here n known

      b : Beside (λ m s. Seen m s (views m.0)) stations u
      b = here u far_known

      peer : (wires n.0 u.0).peer ≡ u
      peer = link-peer t lines r wires n a.item a.is.0 u near

  all_joined : (n : ℕ) → is_node_id t.nodes (at n) ≡ true → (l : LinkView) → Contains (views n).links l →
      IsRingJoined t views n l
  all_joined n known l there =
      subst (IsRingJoined t views n) (near.2)
      (subst (λ (k : LinkState). IsRingJoined t views n (view_of k)) wire.2 (one_joined (at n) wire.0 known wire.1))
    where
      h : Beside (λ m s. Seen m s (views m.0)) stations (at n)
      h = here (at n) known

      near : (k : LinkState) × Contains (map (λ (u : NodeId). wires n u.0) (neighbours_of t (at n))) k × (view_of k ≡ l)
      near =
          there-from_map view_of (map (λ (u : NodeId). wires n u.0) (neighbours_of t (at n))) l
          (subst (λ ls. Contains ls l) (links_seen (at n) h.item h.is) there)

      wire : (u : NodeId) × Contains (neighbours_of t (at n)) u × (wires n u.0 ≡ near.0)
      wire = there-from_map (λ (u : NodeId). wires n u.0) (neighbours_of t (at n)) near.0 near.1

  are_sound : AreStationsSound t (deeds_at r) views
  are_sound = record {
    sound = view_sound;
    joined = all_joined;
    nowhere = λ n none. (all.nowhere n none).posts;
  }

  rises : (n : ℕ) (b : Bool) → is_node_id t.nodes (at n) ≡ b → RisesAbove 0 (deeds_at r n)
  rises n true known = (view_sound n known).rises
  rises n false none = (all.nowhere n none).rises

below : (ks : List ℕ) (most : ℕ) → AllByRecursion (λ (k : ℕ). k ≤ most) ks → (k : ℕ) → is_number_in ks k ≡ true →
    k ≤ most
below [] most all k h = absurd (cc (h))
below (j ∷ ks) most all k h = go (nat_eq j k) refl h (below ks most all.1 k)
  where
    go : (b : Bool) → nat_eq j k ≡ b → (b || is_number_in ks k) ≡ true → (is_number_in ks k ≡ true → k ≤ most) →
        k ≤ most
    go true e h rest =
        let same : j ≡ k = grind (arith, e) in
        let low : j ≤ most = all.0 in
        omega (arith, same, low)
    go false e h rest = rest h

-- only what was sent is taken or dropped
only_sent : (t : Network) (lines : List Disturb) (r : Record) (wires : Wires) (stations : List StationState) →
    AreStanding t lines r wires stations → AllBegun t wires → (u d : NodeId) → is_world_channel t u d ≡ true →
    OnlySentOn t r u d
only_sent t lines r wires stations all begun u d joined = record {
  got = λ k h.
      let first = taken-first t r u d (wires u.0 d.0) (wires d.0 u.0) f (begun u d joined) in
      (handed-in (r.dropped u.0 d.0) (count_of t r u d) k
      (ap (λ ks. is_number_in ks k) (sym first.1) ∙ in-first (got_from u (r.doings d.0)) first.0 k h)).0;
  dropped = λ k h.
      let low = below (r.dropped u.0 d.0) (wires u.0 d.0).sent f.past k h in
      let count = f.count in
      omega (arith, low, count);
}
  where
    f : RingFacts t r u d (wires u.0 d.0) (wires d.0 u.0)
    f = ring-facts t lines r wires stations all u d joined

-- A fleet that stands, and whose rings have begun, stands for a record.
pub standing-is-a-record : StationsAreARecord
standing-is-a-record t lines r wires stations all begun = record {
  histories = joined-are-histories t (deeds_at r) (views t lines r wires stations all begun)
      (are_sound t lines r wires stations all begun);
  rises = λ n. rises t lines r wires stations all begun n (is_node_id t.nodes (at n)) refl;
  posts = all.posts;
  only = only_sent t lines r wires stations all begun;
}
