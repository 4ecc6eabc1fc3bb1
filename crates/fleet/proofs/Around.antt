-- Looks at all rings of one station, and of all stations.
use Rattle.std.proofs.{Common.{◌≡◌, ◌<◌, ◌+◌, ℕ, Bool, true, false, nat_eq, List, get_or, length, refl, sym, ap, ◌∙◌, subst, arith, inl, inr}, lemmas.List.length-map, lemmas.Option.{slice_get_read, slice_get_within}}
use Rattle.std.specs.Prelude.{◌⊎◌, Some, slice_get}
use Rattle.ason_base.specs.{declared.ids.NodeId.NodeId, Network.Network}
use Rattle.ason_base.proofs.Places.{all-at}
use Rattle.flood.proofs.Members.{place_of}
use Rattle.world_rules.specs.WorldRuns.{is_world_channel, neighbours_of}
use Rattle.round_rules.specs.{States.StationState, OneWorker.ids_of}
use Rattle.round_rules.proofs.Nodes.{channel-back, joins-nodes, near-there, node-there}
use Rattle.fleet.specs.{declared.seats.Seat.Seat, Connections.AreConnected, Looks.{HaveLooked, IsAny, IsAround, IsLinkOfStation, IsLinkBefore, IsNodeBefore, LooksOver, Pairs}, Standing.{AreSeats, IsSeat}}
use Rattle.fleet.proofs.{Looked.looked-back, LooksTwice.{looked-connected, looked-more, looked-none}, Places.get-map}

-- One look after the other

pub over-none : (seats : List Seat) (xs : List StationState) (P : Network → Pairs) →
    ((t : Network) (u d : NodeId) → P t u d → ⊥) → LooksOver seats P xs xs
over-none seats xs P none t all w links = looked-none t w xs (P t) (none t) links

over-more : (seats : List Seat) (xs ys zs : List StationState) (P Q R : Network → Pairs) → LooksOver seats P xs ys →
    LooksOver seats Q ys zs → ((t : Network) (u d : NodeId) → R t u d → P t u d ⊎ Q t u d) → LooksOver seats R xs zs
over-more seats xs ys zs P Q R p q either t all w links =
    let one : HaveLooked t w xs ys (P t) = p t all w links in
    looked-more t w xs ys zs (P t) (Q t) (R t) one
    (q t (looked-connected t seats xs ys P all p) one.wires_now one.links) (λ u d channel is. either t u d is)

-- a ring is looked at from either end
over-as : (seats : List Seat) (xs ys : List StationState) (P R : Network → Pairs) → LooksOver seats P xs ys →
    ((t : Network) → AreConnected t seats xs → (u d : NodeId) → is_world_channel t u d ≡ true → R t u d →
    P t u d ⊎ P t d u) → LooksOver seats R xs ys
over-as seats xs ys P R p either t all w links =
    let one : HaveLooked t w xs ys (P t) = p t all w links in
    record {
      wires_now = one.wires_now;
      kept = one.kept;
      links = one.links;
      ways = one.ways;
      seen = λ u d channel is. elim (either t all u d channel is) [
        | inl there ↦ one.seen u d channel there
        | inr back ↦ looked-back w one.wires_now d u (one.seen d u (channel-back t u d channel) back)
      ];
    }

before_next : (P : ℕ → Type 0) (count k : ℕ) → k < count + 1 → P k → (k < count) ⊎ P count
before_next P count k below is = go (nat_eq k count) refl
  where
    go : (b : Bool) → nat_eq k count ≡ b → (k < count) ⊎ P count
    go true e = let same : k ≡ count = grind (arith, e) in inr (subst P same is)
    go false e = inl (grind (arith, below, e))

-- The links of one station

pub over-link : (seats : List Seat) (xs ys zs : List StationState) (place link : ℕ) →
    LooksOver seats (IsLinkBefore place link) xs ys → LooksOver seats (IsLinkOfStation place link) ys zs →
    LooksOver seats (IsLinkBefore place (link + 1)) xs zs
over-link seats xs ys zs place link p q =
    over-more seats xs ys zs (IsLinkBefore place link) (IsLinkOfStation place link) (IsLinkBefore place (link + 1)) p q
    (λ t u d is. elim (before_next (λ k. IsLinkOfStation place k t u d) link is.0 is.1 is.2) [
      | inl below ↦ inl (is.0, below, is.2)
      | inr at ↦ inr at
    ])

pub no-link : (place : ℕ) (t : Network) (u d : NodeId) → IsLinkBefore place 0 t u d → ⊥
no-link place t u d is = let h = is.1 in absurd (omega (arith, h))

seat_count : (t : Network) (seats : List Seat) (place : ℕ) (s : Seat) (n : NodeId) → AreSeats t seats →
    slice_get seats place ≡ Some s → slice_get (ids_of t) place ≡ Some n →
    length s.ends.items ≡ length (neighbours_of t n)
seat_count t seats place s n are at node =
    let is : IsSeat t s = all-at (IsSeat t) seats place s are.each at in
    let id : slice_get (ids_of t) place ≡ Some s.id =
    ap (λ ids. slice_get ids place) (sym are.ids) ∙ get-map (λ (x : Seat). x.id) seats place s at in
    let same : s.id ≡ n = cc (id, node) in
    is.count ∙ ap (λ (k : NodeId). length (neighbours_of t k)) same

one_end : (t : Network) (seats : List Seat) (place count : ℕ) (s : Seat) (u d : NodeId) → AreSeats t seats →
    slice_get seats place ≡ Some s → count ≡ length s.ends.items → is_world_channel t u d ≡ true →
    slice_get (ids_of t) place ≡ Some u → IsLinkBefore place count t u d
one_end t seats place count s u d are at whole channel node =
    let near = place_of (neighbours_of t u) d (near-there t u d (channel-back t u d channel)) in
    let total : count ≡ length (neighbours_of t u) = whole ∙ seat_count t seats place s u are at node in (
      near.0,
      subst (λ k. near.0 < k) (sym total) (slice_get_within
          (neighbours_of t u) near.0 d near.1),
      record { node = node; near = near.1 },
    )

pub over-around : (seats : List Seat) (xs ys : List StationState) (place count : ℕ) (s : Seat) → place < length seats →
    s ≡ get_or seats place s → count ≡ length s.ends.items → LooksOver seats (IsLinkBefore place count) xs ys →
    LooksOver seats (IsAround place) xs ys
over-around seats xs ys place count s below read whole p =
    over-as seats xs ys (IsLinkBefore place count) (IsAround place) p (λ t all u d channel is.
    let at : slice_get seats place ≡ Some s = slice_get_read seats (length seats) place s refl below read in
    elim is [
      | inl from ↦ inl (one_end t seats place count s u d all.seated at whole channel from)
      | inr to ↦ inr (one_end t seats place count s d u all.seated at whole (channel-back t u d channel) to)
    ])

-- All stations

pub over-node : (seats : List Seat) (xs ys zs : List StationState) (place : ℕ) →
    LooksOver seats (IsNodeBefore place) xs ys → LooksOver seats (IsAround place) ys zs →
    LooksOver seats (IsNodeBefore (place + 1)) xs zs
over-node seats xs ys zs place p q =
    over-more seats xs ys zs (IsNodeBefore place) (IsAround place) (IsNodeBefore (place + 1)) p q
    (λ t u d is. elim (before_next (λ k. slice_get (ids_of t) k ≡ Some u) place is.0 is.1 is.2) [
      | inl below ↦ inl (is.0, below, is.2)
      | inr at ↦ inr (inl at)
    ])

pub no-node : (t : Network) (u d : NodeId) → IsNodeBefore 0 t u d → ⊥
no-node t u d is = let h = is.1 in absurd (omega (arith, h))

pub seats-count : (t : Network) (seats : List Seat) → AreSeats t seats → length seats ≡ length (ids_of t)
seats-count t seats are = sym (length-map seats (λ (s : Seat). s.id)) ∙ ap length are.ids

pub over-all : (seats : List Seat) (xs ys : List StationState) (count : ℕ) → count ≡ length seats →
    LooksOver seats (IsNodeBefore count) xs ys → LooksOver seats IsAny xs ys
over-all seats xs ys count whole p =
    over-as seats xs ys (IsNodeBefore count) IsAny p (λ t all u d channel is.
    let at = place_of (ids_of t) u (node-there t u (joins-nodes t u d channel).from) in
    inl (
      at.0,
      subst (λ k. at.0 < k) (sym (whole ∙ seats-count t seats all.seated)) (slice_get_within (ids_of t) at.0 u at.1),
      at.1,
    ))
