-- After turns the links of the stations still have the two ends of each ring.
use Rattle.std.proofs.{Common.{◌≡◌, ◌≤◌, ◌+◌, ◌-◌, ℕ, true, List, [], ◌∷◌, length, map, min, refl, sym, ap, ◌∙◌, arith}, lemmas.List.{length-append, length-map}}
use Rattle.std.specs.{Prelude.{Some, slice_get, slice_set}, List.AllZip}
use Rattle.ason_base.specs.{declared.limits.TheConstants.MOST_FRAMES, declared.ids.NodeId.NodeId, Network.{IsTopology, Network}}
use Rattle.rtrb.specs.Ring.{received}
use Rattle.flood.proofs.Members.{place_of}
use Rattle.world_rules.specs.WorldRuns.{is_world_channel, neighbours_of}
use Rattle.station_rings.specs.LinkStates.{LinkState, gone_of}
use Rattle.round_rules.specs.{Moves.HasMoved, States.StationState, OneWorker.ids_of, Fleets.Wires, Looks.HasLinks}
use Rattle.round_rules.proofs.{Choosing.{choose, zip-equal, zip-more, zip-then, ThroughMiddle}, Moving.moved-none, Links.{ends-stay, sends-count}, Nodes.{apart-ids, apart-near, channel-back, joins-nodes, near-there, node-there}}
use Rattle.fleet.specs.{declared.seats.Seat.Seat, Connections.{AreConnected, IsRing}, Turning.{HaveTurned, MakesTurns}}
use Rattle.fleet.proofs.{Places.{get-map, zip-at, zip-get, zip-length, zip-self, zip-set}, Turning.turns-moved}

-- Lists of links as functions

each_some : (us : List NodeId) (ls : List LinkState) → length ls ≡ length us →
    AllZip (λ (u : NodeId) (l : LinkState). (k : LinkState) × (l ≡ k)) us ls
each_some [] [] count = tt
each_some [] (l ∷ ls) count = absurd (omega (arith, count))
each_some (u ∷ us) [] count = absurd (omega (arith, count))
each_some (u ∷ us) (l ∷ ls) count = ((l, refl), each_some us ls (omega (arith, count)))

-- so many links are the images of as many nodes that are apart
links_named : (t : Network) (n : NodeId) (w : Wires) (s : StationState) → IsTopology t →
    length s.links ≡ length (neighbours_of t n) →
    (f : ℕ → LinkState) × (s.links ≡ map (λ (u : NodeId). f u.0) (neighbours_of t n))
links_named t n w s valid count =
    let chosen = choose (λ (u : NodeId) (l k : LinkState). l ≡ k) (neighbours_of t n) s.links (w n.0)
    (apart-near t valid n) (each_some (neighbours_of t n) s.links count) in
    (chosen.choice, zip-equal (λ (u : NodeId). chosen.choice u.0) (neighbours_of t n) s.links chosen.each)

-- stations with a link for each neighbour have wires
pub rewired : (t : Network) (w : Wires) (ys : List StationState) → IsTopology t →
    AllZip (λ (n : NodeId) (s : StationState). length s.links ≡ length (neighbours_of t n)) (ids_of t) ys →
    (v : Wires) × AllZip (HasLinks t v) (ids_of t) ys
rewired t w ys valid counts =
    let chosen = choose (λ (n : NodeId) (s : StationState) (f : ℕ → LinkState).
    s.links ≡ map (λ (u : NodeId). f u.0) (neighbours_of t n)) (ids_of t) ys w (apart-ids t valid)
    (zip-more (λ (n : NodeId) (s : StationState). length s.links ≡ length (neighbours_of t n))
    (λ (n : NodeId) (s : StationState).
    (f : ℕ → LinkState) × (s.links ≡ map (λ (u : NodeId). f u.0) (neighbours_of t n)))
    (λ n s count. links_named t n w s valid count) (ids_of t) ys counts) in
    (chosen.choice, chosen.each)

-- Turns

abbrev pub LinksMoved : StationState → StationState → Type 0
LinksMoved x y = AllZip HasMoved x.links y.links

-- the links of a channel after turns
pub link-moved : (t : Network) (w v : Wires) (xs ys : List StationState) → AllZip (HasLinks t w) (ids_of t) xs →
    AllZip (HasLinks t v) (ids_of t) ys → AllZip LinksMoved xs ys → (u d : NodeId) → is_world_channel t u d ≡ true →
    HasMoved (w u.0 d.0) (v u.0 d.0)
link-moved t w v xs ys before after moved u d channel =
    zip-at HasMoved x.0.links y.0.links near.0 (w u.0 d.0) (v u.0 d.0) y.2
    (ap (λ ls. slice_get ls near.0) x.2 ∙ get-map (λ (k : NodeId). w u.0 k.0) (neighbours_of t u) near.0 d near.1)
    (ap (λ ls. slice_get ls near.0) has ∙ get-map (λ (k : NodeId). v u.0 k.0) (neighbours_of t u) near.0 d near.1)
  where
    at : (k : ℕ) × (slice_get (ids_of t) k ≡ Some u)
    at = place_of (ids_of t) u (node-there t u (joins-nodes t u d channel).from)

    near : (k : ℕ) × (slice_get (neighbours_of t u) k ≡ Some d)
    near = place_of (neighbours_of t u) d (near-there t u d (channel-back t u d channel))

    x : (s : StationState) × (slice_get xs at.0 ≡ Some s) × HasLinks t w u s
    x = zip-get (HasLinks t w) (ids_of t) xs at.0 u before at.1

    y : (s : StationState) × (slice_get ys at.0 ≡ Some s) × LinksMoved x.0 s
    y = zip-get LinksMoved xs ys at.0 x.0 moved x.1

    has : HasLinks t v u y.0
    has = zip-at (HasLinks t v) (ids_of t) ys at.0 u y.0 after at.1 y.1

ring_room : (a b c d : LinkState) → HasMoved a c → HasMoved b d →
    length b.early + length (gone_of a) ≤ a.standing + length (received b.into) →
    length d.early + length (gone_of c) ≤ c.standing + length (received d.into)
ring_room a b c d m k room =
    numbers (length b.early) (length (gone_of a)) a.standing (length (received b.into)) (length d.early)
    (length (gone_of c)) c.standing (length (received d.into)) (length m.sends) (length k.came) (length k.takes) room
    (sym (length-append b.early k.came) ∙ ap length k.taken ∙ length-append k.takes d.early)
    (ap length m.gone ∙ length-append (gone_of a) m.sends) m.standing
    (ap length k.into ∙ length-append (received b.into) k.came)
  where
    numbers : (e g s r e' g' s' r' n c x : ℕ) → e + g ≤ s + r → e + c ≡ x + e' → g' ≡ g + n → s' ≡ s + n →
        r' ≡ r + c → e' + g' ≤ s' + r'
    numbers e g s r e' g' s' r' n c x p f h i j = omega (arith, p, f, h, i, j)

most : (a c : LinkState) → HasMoved a c → a.standing ≤ MOST_FRAMES → c.standing ≤ MOST_FRAMES
most a c m few = numbers a.standing c.standing (length m.sends) (c.sent - a.sent) few m.standing (sends-count a c m)
  where
    numbers : (s s' n x : ℕ) → s ≤ MOST_FRAMES → s' ≡ s + n → n ≡ min x (MOST_FRAMES - s) → s' ≤ MOST_FRAMES
    numbers s s' n x p f h = omega (arith, p, f, h)

ring_moved : (w v : Wires) (u d : NodeId) → HasMoved (w u.0 d.0) (v u.0 d.0) → HasMoved (w d.0 u.0) (v d.0 u.0) →
    IsRing w u d → IsRing v u d
ring_moved w v u d m k ring = record {
  peer = m.peer ∙ ring.peer;
  ends = ends-stay (w u.0 d.0) (w d.0 u.0) (v u.0 d.0) (v d.0 u.0) ring.ends m.ends k.ends;
  room = ring_room (w u.0 d.0) (w d.0 u.0) (v u.0 d.0) (v d.0 u.0) m k ring.room;
  most = most (w u.0 d.0) (v u.0 d.0) m ring.most;
}

-- A fleet stays connected.
pub moved-connected : (t : Network) (seats : List Seat) (xs ys : List StationState) → AreConnected t seats xs →
    AllZip LinksMoved xs ys → AreConnected t seats ys
moved-connected t seats xs ys all moved = record {
  valid = all.valid;
  seated = all.seated;
  wires = now.0;
  wired = record {
    links = now.1;
    rings = λ u d channel.
        ring_moved all.wires now.0 u d
        (link-moved t all.wires now.0 xs ys all.wired.links now.1 moved u d channel)
        (link-moved t all.wires now.0 xs ys all.wired.links now.1 moved d u (channel-back t u d channel))
        (all.wired.rings u d channel);
  };
}
  where
    now : (v : Wires) × AllZip (HasLinks t v) (ids_of t) ys
    now = rewired t all.wires ys all.valid
        (zip-more (ThroughMiddle (HasLinks t all.wires) LinksMoved)
        (λ (n : NodeId) (s : StationState). length s.links ≡ length (neighbours_of t n))
        (λ n s b. zip-length HasMoved b.mid.links s.links b.two ∙ ap length b.one
        ∙ length-map (neighbours_of t n) (λ (u : NodeId). all.wires n.0 u.0)) (ids_of t) ys
        (zip-then (HasLinks t all.wires) LinksMoved (ids_of t) xs ys all.wired.links moved))

pub turned-connected : (t : Network) (seats : List Seat) (stride : ℕ) (xs ys : List StationState) →
    AreConnected t seats xs → HaveTurned stride xs ys → AreConnected t seats ys
turned-connected t seats stride xs ys all turned =
    moved-connected t seats xs ys all (zip-more (MakesTurns stride) LinksMoved
    (λ x y made. turns-moved stride true x y y.answer made) xs ys turned)

pub still-moved : (s : StationState) → LinksMoved s s
still-moved s = zip-self HasMoved (λ l. (moved-none l).0) s.links

-- So it does after the turns of one station.
pub turn-connected : (t : Network) (seats : List Seat) (xs : List StationState) (place stride : ℕ)
    (x y : StationState) → AreConnected t seats xs → slice_get xs place ≡ Some x → MakesTurns stride x y →
    AreConnected t seats (slice_set xs place y)
turn-connected t seats xs place stride x y all at made =
    moved-connected t seats xs (slice_set xs place y) all
    (zip-set LinksMoved still-moved xs place x y at (turns-moved stride true x y y.answer made))
