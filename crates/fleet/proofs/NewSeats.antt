-- The far ends of the links of new stations.
use Rattle.std.proofs.{Common.{◌≡◌, ◌<◌, ◌≤◌, ◌+◌, ℕ, Bool, true, false, nat_eq, List, [], ◌∷◌, ◌++◌, get_or, length, refl, sym, ap, ◌∙◌, subst, arith}, lemmas.List.length-map, lemmas.Option.slice_get_read}
use Rattle.std.specs.{Prelude.{None, Some, position, slice_get}, List.AllZip}
use Rattle.ason_base.specs.{declared.ids.NodeId.NodeId, declared.network.NodeSpec.NodeSpec, Network.Network}
use Rattle.ason_base.proofs.{Places.{all-at, there-at}, Numbers.self-number, Bridges.same_node}
use Rattle.flood.proofs.Members.{place_of, there_from_place}
use Rattle.world_rules.specs.WorldRuns.{is_world_channel, neighbours_of}
use Rattle.round_rules.specs.{OneWorker.ids_of, States.StationState, Commands.IsNewAt, Fleets.Wires}
use Rattle.station_rings.specs.LinkStates.{LinkState}
use Rattle.station.specs.Sending.{is_link_to}
use Rattle.round_rules.proofs.Nodes.{channel-back, channel-near, near-there}
use Rattle.fleet.specs.{declared.seats.End.End, declared.seats.Seat.Seat, Joining.{AreNew, near_among}, Standing.{IsFarEnd, IsSeat}}
use Rattle.fleet.proofs.{Firsts.{IsFirstPassing, first-at, none-passes}, Near.{near-all, near-next, near-same}, Places.{get-map, map-get, zip-at, zip-length}}

zip_more : {X Y : Type 0} (R : X → Y → Type 0) (xs : List X) (ys : List Y) (x : X) (y : Y) → AllZip R xs ys → R x y →
    AllZip R (xs ++ x ∷ []) (ys ++ y ∷ [])
zip_more R [] [] x y all one = (one, tt)
zip_more R [] (v ∷ ys) x y all one = absurd all
zip_more R (u ∷ xs) [] x y all one = absurd all
zip_more R (u ∷ xs) (v ∷ ys) x y all one = (all.0, zip_more R xs ys x y all.1 one)

-- the node at a place, and its station
record IsThereAt (t : Network) (place : ℕ) (s : StationState) (w : Wires) : Type 0 where
  node : NodeId
  at : slice_get (ids_of t) place ≡ Some node
  new : IsNewAt t w node s

pub station-count : (t : Network) (xs : List StationState) → AreNew t xs → length xs ≡ length t.nodes
station-count t xs new =
    zip-length (IsNewAt t new.wires) (ids_of t) xs new.each ∙ length-map t.nodes (λ (m : NodeSpec). m.id)

there_at : (t : Network) (xs : List StationState) (place : ℕ) (s : StationState) → (new : AreNew t xs) →
    place < length xs → s ≡ get_or xs place s → IsThereAt t place s new.wires
there_at t xs place s new below read = record {
  node = node.0;
  at = node.1;
  new = zip-at (IsNewAt t new.wires) (ids_of t) xs place node.0 s new.each node.1
      (slice_get_read xs (length xs) place s refl below read);
}
  where
    less : (a b c : ℕ) → a < b → b ≡ c → a < c
    less a b c p q = omega (arith, p, q)

    node : (n : NodeId) × (slice_get (ids_of t) place ≡ Some n)
    node = there-at (ids_of t) place
        (less place (length xs) (length (ids_of t)) below (zip-length (IsNewAt t new.wires) (ids_of t) xs new.each))

-- the link that is found leads to the node
link_found : (t : Network) (xs : List StationState) (new : AreNew t xs) (n id : NodeId) (s : StationState) (link : ℕ) →
    IsNewAt t new.wires n s → position (is_link_to id) s.links ≡ Some link →
    slice_get (neighbours_of t n) link ≡ Some id
link_found t xs new n id s link is found =
    image.1
    ∙ ap Some (sym peer ∙ ap (λ (l : LinkState). l.peer) image.2 ∙ same_node first.item.peer id first.passes)
  where
    first : IsFirstPassing (is_link_to id) s.links link
    first = first-at (is_link_to id) s.links link found

    image : (u : NodeId) × (slice_get (neighbours_of t n) link ≡ Some u) × (new.wires n.0 u.0 ≡ first.item)
    image = map-get (λ (u : NodeId). new.wires n.0 u.0) (neighbours_of t n) link first.item
        (ap (λ ls. slice_get ls link) (sym is.links) ∙ first.is)

    peer : (new.wires n.0 image.0.0).peer ≡ image.0
    peer = (new.rings n image.0 (channel-back t image.0 n
        (channel-near t n image.0 (there_from_place (neighbours_of t n) link image.0 image.1)))).new.peer

-- where none is found it is no neighbour
link_lost : (t : Network) (xs : List StationState) (new : AreNew t xs) (n id : NodeId) (s : StationState) →
    IsNewAt t new.wires n s → position (is_link_to id) s.links ≡ None → is_world_channel t n id ≡ true → ⊥
link_lost t xs new n id s is none on = absurd (cc (self-number id.0, lost))
  where
    near : (k : ℕ) × (slice_get (neighbours_of t n) k ≡ Some id)
    near = place_of (neighbours_of t n) id (near-there t n id (channel-back t n id on))

    peer : (new.wires n.0 id.0).peer ≡ id
    peer = (new.rings n id on).new.peer

    lost : nat_eq id.0 id.0 ≡ false
    lost = subst (λ (k : NodeId). nat_eq k.0 id.0 ≡ false) peer
        (all-at (λ (l : LinkState). is_link_to id l ≡ false) s.links near.0 (new.wires n.0 id.0)
        (none-passes (is_link_to id) s.links none)
        (ap (λ ls. slice_get ls near.0) is.links
        ∙ get-map (λ (u : NodeId). new.wires n.0 u.0) (neighbours_of t n) near.0 id near.1))

-- The far ends of the links to the first so many nodes, with the next one.

abbrev pub AreEndsOf : Network → ℕ → NodeId → List End → Type 0
AreEndsOf t count id ends = AllZip (IsFarEnd t id) (near_among t count id) ends

pub end-found : (t : Network) (xs : List StationState) (ends : List End) (place link : ℕ) (id : NodeId)
    (s : StationState) → AreNew t xs → place < length xs → s ≡ get_or xs place s →
    position (is_link_to id) s.links ≡ Some link → AreEndsOf t place id ends →
    AreEndsOf t (place + 1) id (ends ++ record { station = place; link = link } ∷ [])
end-found t xs ends place link id s new below read found all =
    let is : IsThereAt t place s new.wires = there_at t xs place s new below read in
    let near : slice_get (neighbours_of t is.node) link ≡ Some id =
    link_found t xs new is.node id s link is.new found in
    let back : is_world_channel t id is.node ≡ true =
    channel-near t is.node id (there_from_place (neighbours_of t is.node) link id near) in
    subst (λ ns. AllZip (IsFarEnd t id) ns (ends ++ record { station = place; link = link } ∷ []))
    (sym (near-next t id is.node place is.at (channel-back t id is.node back)))
    (zip_more (IsFarEnd t id) (near_among t place id) ends is.node (record { station = place; link = link }) all
    (record { station = is.at; link = near }))

pub end-none : (t : Network) (xs : List StationState) (ends : List End) (place : ℕ) (id : NodeId)
    (s : StationState) → AreNew t xs → place < length xs → s ≡ get_or xs place s →
    position (is_link_to id) s.links ≡ None → AreEndsOf t place id ends → AreEndsOf t (place + 1) id ends
end-none t xs ends place id s new below read none all =
    let is : IsThereAt t place s new.wires = there_at t xs place s new below read in
    subst (λ ns. AllZip (IsFarEnd t id) ns ends)
    (sym (near-same t id is.node place is.at (go is (is_world_channel t is.node id) refl))) all
  where
    go : (is : IsThereAt t place s new.wires) → (b : Bool) → is_world_channel t is.node id ≡ b →
        is_world_channel t is.node id ≡ false
    go is true e = absurd (link_lost t xs new is.node id s is.new none e)
    go is false e = e

-- So all of them are a seat's.
pub new-seat : (t : Network) (xs : List StationState) (count : ℕ) (s : Seat) → AreNew t xs → count ≡ length xs →
    AreEndsOf t count s.id s.ends.items → IsSeat t s
new-seat t xs count s new whole all = record {
  count = zip-length (IsFarEnd t s.id) (neighbours_of t s.id) s.ends.items ends;
  each = λ place e u at near. zip-at (IsFarEnd t s.id) (neighbours_of t s.id) s.ends.items place u e ends near at;
}
  where
    enough : (a b c : ℕ) → a ≡ b → b ≡ c → c ≤ a
    enough a b c p q = omega (arith, p, q)

    ends : AllZip (IsFarEnd t s.id) (neighbours_of t s.id) s.ends.items
    ends = subst (λ ns. AllZip (IsFarEnd t s.id) ns s.ends.items)
        (near-all t s.id count (enough count (length xs) (length t.nodes) whole (station-count t xs new))) all
