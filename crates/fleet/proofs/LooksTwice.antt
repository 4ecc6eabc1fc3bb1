-- Looks one after the other, and that a fleet stays connected.
use Rattle.std.proofs.{Common.{◌≡◌, ◌≤◌, ◌+◌, ℕ, true, List, ◌++◌, length, refl, sym, ap, ◌∙◌, subst, append_assoc, arith, inl, inr}, lemmas.List.length-append}
use Rattle.std.specs.{Prelude.◌⊎◌, List.AllZip}
use Rattle.ason_base.specs.{declared.limits.TheConstants.MOST_FRAMES, declared.ids.NodeId.NodeId, Network.Network}
use Rattle.rtrb.specs.Ring.{known_items, received}
use Rattle.world_rules.specs.WorldRuns.{is_world_channel}
use Rattle.station_rings.specs.{declared.parcel.Parcel.Parcel, LinkStates.{AreEnds, IsLooked, LinkState, gone_of}}
use Rattle.round_rules.specs.{States.StationState, OneWorker.ids_of, Fleets.Wires, Looks.{AreLooked, AreStill, HasKept, HasLinks}}
use Rattle.fleet.specs.{declared.seats.Seat.Seat, Connections.{AreConnected, IsRing}, Looks.{HaveLooked, LooksOver, Pairs}}
use Rattle.fleet.proofs.{Looked.{kept-self, kept-twice}, Places.{zip-self, zip-twice}}

-- Two looks at one ring

looked_twice : (a b c x y z : LinkState) → IsLooked a b x y → IsLooked b c y z → IsLooked a c x z
looked_twice a b c x y z p q = record {
  peer = q.peer ∙ p.peer;
  unused = q.unused;
  sent = q.sent ∙ p.sent;
  gone = q.gone ∙ p.gone;
  backlog = q.backlog;
  whole = q.whole ∙ p.gone;
  more = p.more ++ q.more;
  early = q.early ∙ ap (λ ps. ps ++ q.more) p.early ∙ append_assoc x.early p.more q.more;
  came = sym (append_assoc (received x.into) p.more q.more) ∙ ap (λ ps. ps ++ q.more) p.came ∙ q.came;
  standing = q.standing;
}

pub looks-twice : (w v z : Wires) (u d : NodeId) → AreLooked w v u d → AreLooked v z u d → AreLooked w z u d
looks-twice w v z u d p q = record {
  ends = q.ends;
  there = looked_twice (w u.0 d.0) (v u.0 d.0) (z u.0 d.0) (w d.0 u.0) (v d.0 u.0) (z d.0 u.0) p.there q.there;
  back = looked_twice (w d.0 u.0) (v d.0 u.0) (z d.0 u.0) (w u.0 d.0) (v u.0 d.0) (z u.0 d.0) p.back q.back;
}

abbrev Way : Wires → Wires → NodeId → NodeId → Type 0
Way w v u d = AreStill w v u d ⊎ AreLooked w v u d

pub looked-still : (w v z : Wires) (u d : NodeId) → AreLooked w v u d → AreStill v z u d → AreLooked w z u d
looked-still w v z u d p q =
    rename (z u.0 d.0) (z d.0 u.0) q.there q.back
  where
    rename : (x y : LinkState) → x ≡ v u.0 d.0 → y ≡ v d.0 u.0 → AreLooked w z u d
    rename x y f g = record {
      ends = subst2 (λ a b. AreEnds a b) p.ends;
      there = subst2 (λ a b. IsLooked (w u.0 d.0) a (w d.0 u.0) b) p.there;
      back = subst2 (λ a b. IsLooked (w d.0 u.0) b (w u.0 d.0) a) p.back;
    }
      where
        subst2 : (P : LinkState → LinkState → Type 0) → P (v u.0 d.0) (v d.0 u.0) → P (z u.0 d.0) (z d.0 u.0)
        subst2 P h =
            subst (λ a. P a (z d.0 u.0)) (sym q.there) (subst (λ b. P (v u.0 d.0) b) (sym q.back) h)

pub still-looked : (w v z : Wires) (u d : NodeId) → AreStill w v u d → AreLooked v z u d → AreLooked w z u d
still-looked w v z u d p q = record {
  ends = q.ends;
  there = subst2 (λ a b. IsLooked a (z u.0 d.0) b (z d.0 u.0)) q.there;
  back = subst2 (λ a b. IsLooked b (z d.0 u.0) a (z u.0 d.0)) q.back;
}
  where
    subst2 : (P : LinkState → LinkState → Type 0) → P (v u.0 d.0) (v d.0 u.0) → P (w u.0 d.0) (w d.0 u.0)
    subst2 P h = subst (λ a. P a (w d.0 u.0)) p.there (subst (λ b. P (v u.0 d.0) b) p.back h)

way_looked : (w v z : Wires) (u d : NodeId) → Way w v u d → AreLooked v z u d → AreLooked w z u d
way_looked w v z u d (inl still) q = still-looked w v z u d still q
way_looked w v z u d (inr looked) q = looks-twice w v z u d looked q

looked_way : (w v z : Wires) (u d : NodeId) → AreLooked w v u d → Way v z u d → AreLooked w z u d
looked_way w v z u d p (inl still) = looked-still w v z u d p still
looked_way w v z u d p (inr looked) = looks-twice w v z u d p looked

ways : (w v z : Wires) (u d : NodeId) → Way w v u d → Way v z u d → Way w z u d
ways w v z u d (inl p) (inl q) = inl (record { there = q.there ∙ p.there; back = q.back ∙ p.back })
ways w v z u d (inl p) (inr q) = inr (still-looked w v z u d p q)
ways w v z u d (inr p) q = inr (looked_way w v z u d p q)

-- Looks at a fleet

pub looked-none : (t : Network) (w : Wires) (xs : List StationState) (Seen : Pairs) →
    ((u d : NodeId) → Seen u d → ⊥) → AllZip (HasLinks t w) (ids_of t) xs → HaveLooked t w xs xs Seen
looked-none t w xs Seen none links = record {
  wires_now = w;
  kept = zip-self HasKept kept-self xs;
  links = links;
  ways = λ u d channel. inl (record { there = refl; back = refl });
  seen = λ u d channel is. absurd (none u d is);
}

-- and then others
pub looked-more : (t : Network) (w : Wires) (xs ys zs : List StationState) (P Q R : Pairs)
    (p : HaveLooked t w xs ys P) → HaveLooked t p.wires_now ys zs Q →
    ((u d : NodeId) → is_world_channel t u d ≡ true → R u d → P u d ⊎ Q u d) → HaveLooked t w xs zs R
looked-more t w xs ys zs P Q R p q either = record {
  wires_now = q.wires_now;
  kept = zip-twice HasKept kept-twice xs ys zs p.kept q.kept;
  links = q.links;
  ways = λ u d channel. ways w p.wires_now q.wires_now u d (p.ways u d channel) (q.ways u d channel);
  seen = λ u d channel is. elim (either u d channel is) [
    | inl one ↦ looked_way w p.wires_now q.wires_now u d (p.seen u d channel one) (q.ways u d channel)
    | inr two ↦ way_looked w p.wires_now q.wires_now u d (p.ways u d channel) (q.seen u d channel two)
  ];
}

-- Rings

ring_room : (w v : Wires) (u d : NodeId) → AreLooked w v u d →
    length (w d.0 u.0).early + length (gone_of (w u.0 d.0))
    ≤ (w u.0 d.0).standing + length (received (w d.0 u.0).into) →
    (length (v d.0 u.0).early + length (gone_of (v u.0 d.0))
    ≤ (v u.0 d.0).standing + length (received (v d.0 u.0).into)) × ((v u.0 d.0).standing ≤ (w u.0 d.0).standing)
ring_room w v u d is room =
    let look = is.there in
    let early = ap length look.early ∙ length-append (w d.0 u.0).early look.more in
    let came = ap length (sym look.came) ∙ length-append (received (w d.0 u.0).into) look.more in
    let whole = sym (length-append (received (v d.0 u.0).into) (known_items (v d.0 u.0).into))
    ∙ ap length look.whole in
    let gone = ap (λ (ps : List Parcel). length ps) look.gone in
    numbers (length (w d.0 u.0).early) (length (gone_of (w u.0 d.0))) (w u.0 d.0).standing
    (length (received (w d.0 u.0).into)) (length (v d.0 u.0).early) (length (gone_of (v u.0 d.0)))
    (v u.0 d.0).standing (length (received (v d.0 u.0).into)) (length (known_items (v d.0 u.0).into))
    (length look.more) room early came whole gone look.standing
  where
    numbers : (e g s r e' g' s' r' k m : ℕ) → e + g ≤ s + r → e' ≡ e + m → r' ≡ r + m → r' + k ≡ g → g' ≡ g →
        s' ≡ e' + k → (e' + g' ≤ s' + r') × (s' ≤ s)
    numbers e g s r e' g' s' r' k m p a b c f h = (omega (arith, p, a, b, c, f, h), omega (arith, p, a, b, c, f, h))

ring_looked : (w v : Wires) (u d : NodeId) → IsRing w u d → AreLooked w v u d → IsRing v u d
ring_looked w v u d ring is =
    let room = ring_room w v u d is ring.room in
    record {
      peer = is.there.peer ∙ ring.peer;
      ends = is.ends;
      room = room.0;
      most = less (v u.0 d.0).standing (w u.0 d.0).standing room.1 ring.most;
    }
  where
    less : (a b : ℕ) → a ≤ b → b ≤ MOST_FRAMES → a ≤ MOST_FRAMES
    less a b p q = omega (arith, p, q)

ring_still : (w v : Wires) (u d : NodeId) → IsRing w u d → AreStill w v u d → IsRing v u d
ring_still w v u d ring is = record {
  peer = subst2 (λ a b. a.peer ≡ d) ring.peer;
  ends = subst2 (λ a b. AreEnds a b) ring.ends;
  room = subst2 (λ a b. length b.early + length (gone_of a) ≤ a.standing + length (received b.into)) ring.room;
  most = subst2 (λ a b. a.standing ≤ MOST_FRAMES) ring.most;
}
  where
    subst2 : (P : LinkState → LinkState → Type 0) → P (w u.0 d.0) (w d.0 u.0) → P (v u.0 d.0) (v d.0 u.0)
    subst2 P h = subst (λ a. P a (v d.0 u.0)) (sym is.there) (subst (λ b. P (w u.0 d.0) b) (sym is.back) h)

-- A fleet stays connected.
pub looked-connected : (t : Network) (seats : List Seat) (xs ys : List StationState) (Seen : Network → Pairs) →
    AreConnected t seats xs → LooksOver seats Seen xs ys → AreConnected t seats ys
looked-connected t seats xs ys Seen all looks = record {
  valid = all.valid;
  seated = all.seated;
  wires = now.wires_now;
  wired = record {
    links = now.links;
    rings = λ u d channel.
        let ring : IsRing all.wires u d = all.wired.rings u d channel in
        elim (now.ways u d channel) [
          | inl still ↦ ring_still all.wires now.wires_now u d ring still
          | inr looked ↦ ring_looked all.wires now.wires_now u d ring looked
        ];
  };
}
  where
    now : HaveLooked t all.wires xs ys (Seen t)
    now = looks t all all.wires all.wired.links
