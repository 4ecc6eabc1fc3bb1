-- Fleets whose rings were all looked at since they were last used.
use Rattle.std.proofs.Common.{◌≡◌, ◌+◌, ℕ, Bool, true, false, nat_eq, List, [], ◌∷◌, ◌++◌, length, map, refl, sym, ap, ◌∙◌, eqb-true, append-nil, inl, inr}
use Rattle.std.specs.{Prelude.{Some, slice_get, slice_set}, List.{AllZip, Contains}}
use Rattle.rtrb.specs.Ring.{received, sent}
use Rattle.ason_base.specs.{declared.ids.NodeId.NodeId, Network.Network}
use Rattle.ason_base.proofs.{Members.{contains-head, contains-tail}, Places.all-at}
use Rattle.flood.proofs.Members.{place_of}
use Rattle.world_rules.specs.WorldRuns.{is_world_channel, neighbours_of}
use Rattle.station_rings.specs.LinkStates.{IsLooked, IsLinkStill, LinkState}
use Rattle.round_rules.specs.{Moves.peers_of, States.StationState, OneWorker.ids_of, Fleets.Wires, Looks.{AreLooked, HasKept, HasLinks}}
use Rattle.round_rules.proofs.Nodes.{channel-back, channel-near, joins-nodes, near-there, node-there}
use Rattle.fleet.specs.{declared.seats.Seat.Seat, Connections.{AreConnected, AreSettled, HaveSeats}, Looks.{HaveLooked, IsAny, IsAround, LooksOver, Pairs, has_used_link}, Turning.MakesTurns}
use Rattle.fleet.proofs.{Firsts.none-any, Looked.kept-self, LooksTwice.{looked-connected, looked-still, still-looked}, Places.{get-set-elsewhere, set-there, zip-at, zip-get, zip-self, zip-set}, Rewired.{LinksMoved, link-moved, still-moved, turn-connected}, Seated.{link-near, near-channel}, Turning.turns-moved}

-- A look after a look

looked_again : (a b x y : LinkState) → IsLooked a x b y → IsLooked x x y y
looked_again a b x y is = record {
  peer = refl;
  unused = is.unused;
  sent = refl;
  gone = refl;
  backlog = is.backlog;
  whole = is.whole ∙ sym is.gone;
  more = [];
  early = sym (append-nil y.early);
  came = append-nil (received y.into);
  standing = is.standing;
}

-- links that stayed still are looked at as they were
looked_still : (a c b d : LinkState) → IsLooked a a b b → IsLinkStill a c → IsLinkStill b d → c.used ≡ false →
    IsLooked c c d d
looked_still a c b d is s k unused = record {
  peer = refl;
  unused = unused;
  sent = refl;
  gone = refl;
  backlog = s.backlog ∙ is.backlog;
  whole = (λ i. k.came i ++ k.known i) ∙ is.whole ∙ sym (λ i. sent (s.out i) ++ s.backlog i);
  more = [];
  early = sym (append-nil d.early);
  came = append-nil (received d.into);
  standing = s.standing ∙ is.standing ∙ sym (λ i. length (k.early i) + length (k.known i));
}

again : (w v : Wires) (u d : NodeId) → AreLooked w v u d → AreLooked v v u d
again w v u d is = record {
  ends = is.ends;
  there = looked_again (w u.0 d.0) (w d.0 u.0) (v u.0 d.0) (v d.0 u.0) is.there;
  back = looked_again (w d.0 u.0) (w u.0 d.0) (v d.0 u.0) (v u.0 d.0) is.back;
}

-- After a look at all rings they are settled.
pub settled-all : (seats : List Seat) (xs ys : List StationState) → HaveSeats seats xs → LooksOver seats IsAny xs ys →
    AreSettled seats ys
settled-all seats xs ys all looks = (
  all.0,
  record {
    connected = looked-connected all.0 seats xs ys IsAny all.1 looks;
    wires = now.wires_now;
    links = now.links;
    looked = λ u d channel. again all.1.wires now.wires_now u d (now.seen u d channel channel);
  },
)
  where
    now : HaveLooked all.0 all.1.wires xs ys (IsAny all.0)
    now = looks all.0 all.1 all.1.wires all.1.wired.links

-- Whatever network the stations are those of

peers_are : (f : NodeId → LinkState) (us : List NodeId) → ((d : NodeId) → Contains us d → (f d).peer ≡ d) →
    peers_of (map f us) ≡ us
peers_are f [] each = refl
peers_are f (u ∷ us) each =
    λ i. (each u (contains-head u us) i) ∷ (peers_are f us (λ d there. each d (contains-tail u d us there)) i)

-- the links of a station lead to the neighbours of its node
near_peers : (t : Network) (seats : List Seat) (xs : List StationState) (place : ℕ) (n : NodeId) (s : StationState) →
    AreConnected t seats xs → slice_get (ids_of t) place ≡ Some n → slice_get xs place ≡ Some s →
    peers_of s.links ≡ neighbours_of t n
near_peers t seats xs place n s all at there =
    ap peers_of (zip-at (HasLinks t all.wires) (ids_of t) xs place n s all.wired.links at there)
    ∙ peers_are (λ d. all.wires n.0 d.0) (neighbours_of t n)
    (λ d near. (all.wired.rings n d (channel-back t d n (channel-near t n d near))).peer)

-- a link of a station has one state, whatever it is called
one_link : (t k : Network) (w v : Wires) (n d : NodeId) (s : StationState) → neighbours_of t n ≡ neighbours_of k n →
    HasLinks t w n s → HasLinks k v n s → is_world_channel t n d ≡ true →
    (is_world_channel k n d ≡ true) × (v n.0 d.0 ≡ w n.0 d.0)
one_link t k w v n d s same has is channel =
    let near = place_of (neighbours_of t n) d (near-there t n d (channel-back t n d channel)) in
    let there : slice_get (neighbours_of k n) near.0 ≡ Some d =
    ap (λ (us : List NodeId). slice_get us near.0) (sym same) ∙ near.1 in
    let link : v n.0 d.0 ≡ w n.0 d.0 =
    cc (link-near t w n d s near.0 has near.1, link-near k v n d s near.0 is there) in
    (near-channel k n d near.0 there, link)

module _ (seats : List Seat) (xs : List StationState) (all : AreSettled seats xs) where
  same_ring : (t : Network) → AreConnected t seats xs → (w : Wires) → AllZip (HasLinks t w) (ids_of t) xs →
      (u d : NodeId) → is_world_channel t u d ≡ true →
      (is_world_channel all.0 u d ≡ true) × (all.1.wires u.0 d.0 ≡ w u.0 d.0)
  same_ring t is w links u d channel =
      one_link t all.0 w all.1.wires u d s.0 near s.2
      (zip-at (HasLinks all.0 all.1.wires) (ids_of all.0) xs at.0 u s.0 all.1.links node s.1) channel
    where
      at : (k : ℕ) × (slice_get (ids_of t) k ≡ Some u)
      at = place_of (ids_of t) u (node-there t u (joins-nodes t u d channel).from)

      s : (x : StationState) × (slice_get xs at.0 ≡ Some x) × HasLinks t w u x
      s = zip-get (HasLinks t w) (ids_of t) xs at.0 u links at.1

      node : slice_get (ids_of all.0) at.0 ≡ Some u
      node = ap (λ ids. slice_get ids at.0) (sym all.1.connected.seated.ids ∙ is.seated.ids) ∙ at.1

      near : neighbours_of t u ≡ neighbours_of all.0 u
      near = sym (near_peers t seats xs at.0 u s.0 is at.1 s.1)
          ∙ near_peers all.0 seats xs at.0 u s.0 all.1.connected node s.1

  -- Where all is settled a look at any rings changes nothing.
  pub over-settled : (P : Network → Pairs) → LooksOver seats P xs xs
  over-settled P t is w links = record {
    wires_now = w;
    kept = zip-self HasKept kept-self xs;
    links = links;
    ways = λ u d channel. inl (record { there = refl; back = refl });
    seen = λ u d channel one.
        let there = same_ring t is w links u d channel in
        let back = same_ring t is w links d u (channel-back t u d channel) in
        looked-still w all.1.wires w u d
        (still-looked w all.1.wires all.1.wires u d (record { there = there.1; back = back.1 })
        (all.1.looked u d there.0)) (record { there = sym there.1; back = sym back.1 });
  }

-- The station at a place made its turns.
module _ (seats : List Seat) (xs : List StationState) (place stride : ℕ) (x y : StationState)
    (all : AreSettled seats xs) (at : slice_get xs place ≡ Some x) (made : MakesTurns stride x y) where
  abbrev t : Network
  t = all.0

  abbrev w : Wires
  w = all.1.wires

  abbrev ys : List StationState
  ys = slice_set xs place y

  turned : AreConnected t seats ys
  turned = turn-connected t seats xs place stride x y all.1.connected at made

  place_from : (u d : NodeId) → is_world_channel t u d ≡ true → (k : ℕ) × (slice_get (ids_of t) k ≡ Some u)
  place_from u d channel = place_of (ids_of t) u (node-there t u (joins-nodes t u d channel).from)

  -- the links of the other stations are as they were
  others_still : (k : ℕ) (u d : NodeId) → slice_get (ids_of t) k ≡ Some u → nat_eq k place ≡ false →
      is_world_channel t u d ≡ true → turned.wires u.0 d.0 ≡ w u.0 d.0
  others_still k u d node other channel =
      let s = zip-get (HasLinks t w) (ids_of t) xs k u all.1.links node in
      (one_link t t w turned.wires u d s.0 refl s.2
      (zip-at (HasLinks t turned.wires) (ids_of t) ys k u s.0 turned.wired.links node
      (get-set-elsewhere xs place k y other ∙ s.1)) channel).1

  module _ (none : has_used_link y ≡ false) where
    unused : (u d : NodeId) → is_world_channel t u d ≡ true → (turned.wires u.0 d.0).used ≡ false
    unused u d channel = go (nat_eq from.0 place) refl
      where
        from : (k : ℕ) × (slice_get (ids_of t) k ≡ Some u)
        from = place_from u d channel

        near : (k : ℕ) × (slice_get (neighbours_of t u) k ≡ Some d)
        near = place_of (neighbours_of t u) d (near-there t u d (channel-back t u d channel))

        go : (b : Bool) → nat_eq from.0 place ≡ b → (turned.wires u.0 d.0).used ≡ false
        go true same =
            let here = ap (slice_get ys) (eqb-true from.0 place same) ∙ set-there xs place x y at in
            all-at (λ (l : LinkState). l.used ≡ false) y.links near.0 (turned.wires u.0 d.0)
            (none-any (λ (l : LinkState). l.used) y.links none)
            (link-near t turned.wires u d y near.0
            (zip-at (HasLinks t turned.wires) (ids_of t) ys from.0 u y turned.wired.links from.1 here) near.1)
        go false other =
            ap (λ (l : LinkState). l.used) (others_still from.0 u d from.1 other channel)
            ∙ (all.1.looked u d channel).there.unused

    still : (u d : NodeId) → is_world_channel t u d ≡ true → IsLinkStill (w u.0 d.0) (turned.wires u.0 d.0)
    still u d channel =
        (link-moved t w turned.wires xs ys all.1.links turned.wired.links
        (zip-set LinksMoved still-moved xs place x y at (turns-moved stride true x y y.answer made)) u d
        channel).still (unused u d channel)

    -- Where it used none of its links all is settled still.
    pub settled-unused : AreSettled seats ys
    settled-unused = (
      t,
      record {
        connected = turned;
        wires = turned.wires;
        links = turned.wired.links;
        looked = λ u d channel.
            let back = channel-back t u d channel in
            record {
              ends = (turned.wired.rings u d channel).ends;
              there =
                  looked_still (w u.0 d.0) (turned.wires u.0 d.0) (w d.0 u.0) (turned.wires d.0 u.0)
                  (all.1.looked u d channel).there (still u d channel) (still d u back) (unused u d channel);
              back =
                  looked_still (w d.0 u.0) (turned.wires d.0 u.0) (w u.0 d.0) (turned.wires u.0 d.0)
                  (all.1.looked u d channel).back (still d u back) (still u d channel) (unused d u back);
            };
      },
    )

  -- And its rings were looked at.
  module _ (zs : List StationState) (looks : LooksOver seats (IsAround place) ys zs) where
    now : HaveLooked t turned.wires ys zs (IsAround place t)
    now = looks t turned turned.wires turned.wired.links

    looked : (u d : NodeId) → is_world_channel t u d ≡ true → AreLooked now.wires_now now.wires_now u d
    looked u d channel = go (nat_eq from.0 place) refl (nat_eq to.0 place) refl
      where
        from : (k : ℕ) × (slice_get (ids_of t) k ≡ Some u)
        from = place_from u d channel

        to : (k : ℕ) × (slice_get (ids_of t) k ≡ Some d)
        to = place_from d u (channel-back t u d channel)

        there : (k : ℕ) (n : NodeId) → slice_get (ids_of t) k ≡ Some n → nat_eq k place ≡ true →
            slice_get (ids_of t) place ≡ Some n
        there k n node same = ap (slice_get (ids_of t)) (sym (eqb-true k place same)) ∙ node

        go : (a : Bool) → nat_eq from.0 place ≡ a → (b : Bool) → nat_eq to.0 place ≡ b →
            AreLooked now.wires_now now.wires_now u d
        go true p b q =
            again turned.wires now.wires_now u d (now.seen u d channel (inl (there from.0 u from.1 p)))
        go false p true q =
            again turned.wires now.wires_now u d (now.seen u d channel (inr (there to.0 d to.1 q)))
        go false p false q = elim (now.ways u d channel) [
          | inl is ↦
              again w now.wires_now u d (looked-still w w now.wires_now u d (all.1.looked u d channel) (record {
                there = is.there ∙ others_still from.0 u d from.1 p channel;
                back = is.back ∙ others_still to.0 d u to.1 q (channel-back t u d channel);
              }))
          | inr is ↦ again turned.wires now.wires_now u d is
        ]

    -- All is settled again.
    pub settled-around : AreSettled seats zs
    settled-around = (
      t,
      record {
        connected = looked-connected t seats ys zs (IsAround place) turned looks;
        wires = now.wires_now;
        links = now.links;
        looked = looked;
      },
    )
