-- The stations after one pair more, or one node more, was gone through.
use Rattle.std.proofs.{Common.{◌≡◌, ◌<◌, ◌+◌, ℕ, zero, suc, Bool, true, false, nat_eq, List, [], ◌∷◌, length, refl, sym, eqb-true, ap, ◌∙◌, subst, arith}, lemmas.Bool.and_parts}
use Rattle.std.specs.{Prelude.{◌&&◌, Some, slice_get, slice_set}, List.AllByRecursion}
use Rattle.ason_base.specs.{declared.ids.NodeId.NodeId, Network.{IsTopology, Network}}
use Rattle.ason_base.proofs.{Places.length-set, Numbers.{self-number, apart-turned}}
use Rattle.hop_reliable.proofs.Members.{each-more}
use Rattle.world_rules.specs.WorldRuns.{is_world_channel}
use Rattle.round_rules.specs.{OneWorker.ids_of, States.StationState, Commands.IsNewRing, Fleets.Wires}
use Rattle.station_rings.specs.LinkStates.{AreEnds, IsNew, LinkState}
use Rattle.round_rules.proofs.Nodes.{apart-ids, channel-back, joins-nodes}
use Rattle.fleet.specs.Joining.{AreJoinedAt, AreNewUpTo, IsNewUpTo, joined_up_to, near_among}
use Rattle.fleet.proofs.{JoinPlaces.{joined-else-next, joined-high, joined-high-next, joined-low, joined-low-next, old-pair}, JoinSteps.{as-before, me-is, one-more}, Near.near-apart, Places.{apart-places, get-set-elsewhere}, Wires.{put, put-else, put-here, put-node, put-peer}}

-- nodes are the same where their places are
same_test : (t : Network) → IsTopology t → (i j : ℕ) (u n : NodeId) → slice_get (ids_of t) i ≡ Some u →
    slice_get (ids_of t) j ≡ Some n → nat_eq u.0 n.0 ≡ nat_eq i j
same_test t valid i j u n at there = go (nat_eq i j) refl
  where
    go : (b : Bool) → nat_eq i j ≡ b → nat_eq u.0 n.0 ≡ nat_eq i j
    go true e =
        let place : i ≡ j = eqb-true i j e in
        let node : u ≡ n = cc (at, ap (slice_get (ids_of t)) place ∙ there) in
        ap (λ (k : NodeId). nat_eq k.0 n.0) node ∙ self-number n.0 ∙ sym e
    go false e = apart-places (ids_of t) (apart-ids t valid) i j u n at there e ∙ sym e

set_there : {X : Type 0} (xs : List X) (place : ℕ) (y x : X) → slice_get (slice_set xs place y) place ≡ Some x → y ≡ x
set_there [] place y x at = absurd (cc (at))
set_there (z ∷ xs) zero y x at = cc (at)
set_there (z ∷ xs) (suc place) y x at = set_there xs place y x at

-- The stations at two places have one link more to each other.
module _ (t : Network) (xs ys : List StationState) (low high : ℕ) (n m : NodeId)
    (below : low < high) (all : AreNewUpTo t (joined_up_to high low) xs) (at : slice_get (ids_of t) low ≡ Some n)
    (there : slice_get (ids_of t) high ≡ Some m) (channel : is_world_channel t n m ≡ true)
    (is : AreJoinedAt low high xs ys) where
  valid : IsTopology t
  valid = all.valid

  abbrev w : Wires
  w = all.wires

  abbrev here : LinkState
  here = is.connected.here

  abbrev back : LinkState
  back = is.connected.there

  abbrev v : Wires
  v = put (put w n m here) m n back

  channel_back : is_world_channel t m n ≡ true
  channel_back = channel-back t n m channel

  other : nat_eq n.0 m.0 ≡ false
  other = (joins-nodes t n m channel).other

  new_here : IsNewUpTo t w high n is.here
  new_here = subst (λ k. IsNewUpTo t w k n is.here) (joined-low high low below) (all.each low n is.here at is.is_here)

  new_there : IsNewUpTo t w low m is.there
  new_there =
      subst (λ k. IsNewUpTo t w k m is.there) (joined-high high low (omega (arith, below)))
      (all.each high m is.there there is.is_there)

  first : IsNew m here
  first = subst (λ (k : NodeId). IsNew k here) (me-is t w low m is.there new_there) is.connected.new

  second : IsNew n back
  second = subst (λ (k : NodeId). IsNew k back) (me-is t w high n is.here new_here) is.connected.new_back

  is_here : v n.0 m.0 ≡ here
  is_here = put-node (put w n m here) m n back n.0 m.0 other ∙ put-here w n m here

  is_back : v m.0 n.0 ≡ back
  is_back = put-here (put w n m here) m n back

  untouched : (a b : ℕ) → (nat_eq a n.0 && nat_eq b m.0) ≡ false → (nat_eq a m.0 && nat_eq b n.0) ≡ false →
      w a b ≡ v a b
  untouched a b p q = sym (put-else (put w n m here) m n back a b q ∙ put-else w n m here a b p)

  from_low : (k : NodeId) → nat_eq k.0 m.0 ≡ false → w n.0 k.0 ≡ v n.0 k.0
  from_low k h = sym (put-node (put w n m here) m n back n.0 k.0 other ∙ put-peer w n m here n.0 k.0 h)

  from_high : (k : NodeId) → nat_eq k.0 n.0 ≡ false → w m.0 k.0 ≡ v m.0 k.0
  from_high k h =
      sym (put-peer (put w n m here) m n back m.0 k.0 h ∙ put-node w n m here m.0 k.0 (apart-turned n.0 m.0 other))

  from_else : (u : NodeId) → nat_eq u.0 n.0 ≡ false → nat_eq u.0 m.0 ≡ false → (k : ℕ) → w u.0 k ≡ v u.0 k
  from_else u p q k = sym (put-node (put w n m here) m n back u.0 k q ∙ put-node w n m here u.0 k p)

  -- the links that one of both nodes has already are as they were
  from_near : (k u : NodeId) (place : ℕ) → ((j : NodeId) → nat_eq j.0 u.0 ≡ false → w k.0 j.0 ≡ v k.0 j.0) →
      slice_get (ids_of t) place ≡ Some u →
      AllByRecursion (λ (j : NodeId). w k.0 j.0 ≡ v k.0 j.0) (near_among t place k)
  from_near k u place same node =
      each-more (λ (j : NodeId). nat_eq j.0 u.0 ≡ false) (λ (j : NodeId). w k.0 j.0 ≡ v k.0 j.0) same
      (near_among t place k) (near-apart t k u place valid node)

  now_here : IsNewUpTo t v (high + 1) n is.here_now
  now_here =
      subst (IsNewUpTo t v (high + 1) n) (sym is.connected.first)
      (one-more t w v high n m is.here here new_here there channel_back first.peer is_here
      (from_near n m high from_low there))

  now_there : IsNewUpTo t v (low + 1) m is.there_now
  now_there =
      subst (IsNewUpTo t v (low + 1) m) (sym is.connected.second)
      (one-more t w v low m n is.there back new_there at channel second.peer is_back
      (from_near m n low from_high at))

  abbrev mid : List StationState
  mid = slice_set xs low is.here_now

  apart : nat_eq low high ≡ false
  apart = grind (arith, below)

  -- the station of one of both nodes, whatever it is called
  placed : (place spot : ℕ) (k u : NodeId) (x s : StationState) → place ≡ spot → u ≡ k → x ≡ s → (count : ℕ) →
      joined_up_to high (low + 1) spot ≡ count → IsNewUpTo t v count k x →
      IsNewUpTo t v (joined_up_to high (low + 1) place) u s
  placed place spot k u x s same one it count is_count new =
      subst (λ p. IsNewUpTo t v (joined_up_to high (low + 1) p) u s) (sym same)
      (subst (λ p. IsNewUpTo t v p u s) (sym is_count)
      (subst (λ (y : NodeId). IsNewUpTo t v count y s) (sym one) (subst (IsNewUpTo t v count k) it new)))

  each : (place : ℕ) (u : NodeId) (s : StationState) → slice_get (ids_of t) place ≡ Some u →
      slice_get (slice_set mid high is.there_now) place ≡ Some s → (a : Bool) → nat_eq place low ≡ a → (b : Bool) →
      nat_eq place high ≡ b → IsNewUpTo t v (joined_up_to high (low + 1) place) u s
  each place u s node station true p b q =
      let same : place ≡ low = eqb-true place low p in
      placed place low n u is.here_now s same (cc (node, ap (slice_get (ids_of t)) same ∙ at))
      (set_there xs low is.here_now s (sym (get-set-elsewhere mid high low is.there_now apart)
      ∙ subst (λ k. slice_get (slice_set mid high is.there_now) k ≡ Some s) same station)) (high + 1)
      (joined-low-next high low) now_here
  each place u s node station false p true q =
      let same : place ≡ high = eqb-true place high q in
      placed place high m u is.there_now s same (cc (node, ap (slice_get (ids_of t)) same ∙ there))
      (set_there mid high is.there_now s
      (subst (λ k. slice_get (slice_set mid high is.there_now) k ≡ Some s) same station)) (low + 1)
      (joined-high-next high low below) now_there
  each place u s node station false p false q =
      as-before t w v (joined_up_to high low place) (joined_up_to high (low + 1) place) u s
      (all.each place u s node (sym (get-set-elsewhere mid high place is.there_now q
      ∙ get-set-elsewhere xs low place is.here_now p) ∙ station))
      (ap (λ k. near_among t k u) (joined-else-next high low place p q))
      (from_else u (same_test t valid place low u n node at ∙ p) (same_test t valid place high u m node there ∙ q))

  -- the ring between two nodes, whatever they are called
  ring_between : (k l u d : NodeId) (a b : LinkState) → k ≡ u → l ≡ d → v k.0 l.0 ≡ a → v l.0 k.0 ≡ b → AreEnds a b →
      IsNew l a → IsNewRing v u d
  ring_between k l u d a b one two is_a is_b ends new =
      subst (λ (x : NodeId). IsNewRing v x d) one (subst (λ (x : NodeId). IsNewRing v k x) two (record {
        ends = subst (λ x. AreEnds x (v l.0 k.0)) (sym is_a) (subst (λ x. AreEnds a x) (sym is_b) ends);
        new = subst (IsNew l) (sym is_a) new;
      }))

  ring : (p q : ℕ) (u d : NodeId) → slice_get (ids_of t) p ≡ Some u → slice_get (ids_of t) q ≡ Some d →
      is_world_channel t u d ≡ true → q < joined_up_to high (low + 1) p → (a : Bool) →
      (nat_eq p low && nat_eq q high) ≡ a → (b : Bool) → (nat_eq p high && nat_eq q low) ≡ b → IsNewRing v u d
  ring p q u d from to on less true f b g =
      let h = and_parts (nat_eq p low) (nat_eq q high) f in
      ring_between n m u d here back (cc (from, ap (slice_get (ids_of t)) (eqb-true p low h.0) ∙ at))
      (cc (to, ap (slice_get (ids_of t)) (eqb-true q high h.1) ∙ there)) is_here is_back is.connected.ends first
  ring p q u d from to on less false f true g =
      let h = and_parts (nat_eq p high) (nat_eq q low) g in
      ring_between m n u d back here (cc (from, ap (slice_get (ids_of t)) (eqb-true p high h.0) ∙ there))
      (cc (to, ap (slice_get (ids_of t)) (eqb-true q low h.1) ∙ at)) is_back is_here
      (ends_back here back is.connected.ends) second
    where
      ends_back : (a b : LinkState) → AreEnds a b → AreEnds b a
      ends_back a b e = record { there = e.back; back = e.there; wide = e.wide_back; wide_back = e.wide }
  ring p q u d from to on less false f false g =
      let was : IsNewRing w u d = all.rings p q u d from to on (old-pair high low p q below f g less) in
      let out : w u.0 d.0 ≡ v u.0 d.0 =
      untouched u.0 d.0
      (ap (λ x. x && nat_eq d.0 m.0) (same_test t valid p low u n from at)
      ∙ ap (λ x. nat_eq p low && x) (same_test t valid q high d m to there) ∙ f)
      (ap (λ x. x && nat_eq d.0 n.0) (same_test t valid p high u m from there)
      ∙ ap (λ x. nat_eq p high && x) (same_test t valid q low d n to at) ∙ g) in
      let into : w d.0 u.0 ≡ v d.0 u.0 =
      untouched d.0 u.0
      (and_turned (nat_eq d.0 n.0) (nat_eq u.0 m.0)
      ∙ ap (λ x. x && nat_eq d.0 n.0) (same_test t valid p high u m from there)
      ∙ ap (λ x. nat_eq p high && x) (same_test t valid q low d n to at) ∙ g)
      (and_turned (nat_eq d.0 m.0) (nat_eq u.0 n.0)
      ∙ ap (λ x. x && nat_eq d.0 m.0) (same_test t valid p low u n from at)
      ∙ ap (λ x. nat_eq p low && x) (same_test t valid q high d m to there) ∙ f) in
      record {
        ends = subst (λ l. AreEnds l (v d.0 u.0)) out (subst (λ l. AreEnds (w u.0 d.0) l) into was.ends);
        new = subst (IsNew d) out was.new;
      }
    where
      and_turned : (a b : Bool) → (a && b) ≡ (b && a)
      and_turned true true = refl
      and_turned true false = refl
      and_turned false true = refl
      and_turned false false = refl

  pub joined-next : AreNewUpTo t (joined_up_to high (low + 1)) ys
  joined-next = record {
    valid = valid;
    wires = v;
    count =
        ap length is.stations ∙ length-set mid high is.there_now ∙ length-set xs low is.here_now ∙ all.count;
    each = λ place u s node station.
        each place u s node (ap (λ zs. slice_get zs place) (sym is.stations) ∙ station) (nat_eq place low) refl
        (nat_eq place high) refl;
    rings = λ p q u d from to on less.
        ring p q u d from to on less (nat_eq p low && nat_eq q high) refl (nat_eq p high && nat_eq q low) refl;
  }
