-- The stations are joined pair by pair, to the end.
use Rattle.std.proofs.{Common.{◌≡◌, ◌<◌, ◌≤◌, ◌+◌, ℕ, suc, Bool, true, false, nat_eq, List, [], ◌∷◌, get_or, length, map, eqb-true, refl, sym, ap, ◌∙◌, subst, arith}, lemmas.List.length-map, lemmas.Option.{slice_get-get_or, slice_get_within}, lemmas.Bool.and_parts}
use Rattle.std.specs.{Prelude.{◌&&◌, Some, slice_get}, List.AllZip}
use Rattle.ason_base.specs.{declared.ids.NodeId.NodeId, declared.network.NodeSpec.NodeSpec, Network.Network}
use Rattle.flood.proofs.Members.{place_of}
use Rattle.world_rules.specs.WorldRuns.{is_world_channel}
use Rattle.round_rules.specs.{OneWorker.ids_of, States.StationState, Commands.IsNewAt}
use Rattle.round_rules.proofs.Nodes.{channel-back, joins-nodes, node-there}
use Rattle.fleet.specs.Joining.{AreNew, AreNewUpTo, IsNewUpTo, joined_up_to, near_among}
use Rattle.fleet.proofs.{JoinPlaces.{joined-else-next, joined-high, joined-high-next, joined-low, joined-low-next, joined-up, joined-whole, old-pair}, JoinSteps.as-before, Near.{near-all, near-same}, Places.get-map}

-- Each station is joined to other numbers of nodes, and to the same neighbours.
recounted : (t : Network) (f g : ℕ → ℕ) (xs : List StationState) → AreNewUpTo t f xs →
    ((place : ℕ) (n : NodeId) → slice_get (ids_of t) place ≡ Some n →
    near_among t (g place) n ≡ near_among t (f place) n) →
    ((p q : ℕ) (u d : NodeId) → slice_get (ids_of t) p ≡ Some u → slice_get (ids_of t) q ≡ Some d →
    is_world_channel t u d ≡ true → q < g p → q < f p) → AreNewUpTo t g xs
recounted t f g xs all near old = record {
  valid = all.valid;
  wires = all.wires;
  count = all.count;
  each = λ place n s at there.
      as-before t all.wires all.wires (f place) (g place) n s (all.each place n s at there) (near place n at)
      (λ k. refl);
  rings = λ p q u d from to on less. all.rings p q u d from to on (old p q u d from to on less);
}

not_back : (t : Network) (n m : NodeId) → is_world_channel t n m ≡ false → is_world_channel t m n ≡ false
not_back t n m none = go (is_world_channel t m n) refl
  where
    go : (b : Bool) → is_world_channel t m n ≡ b → is_world_channel t m n ≡ false
    go true e = absurd (cc (channel-back t m n e, none))
    go false e = e

one_node : (t : Network) (i j : ℕ) (u n : NodeId) → i ≡ j → slice_get (ids_of t) i ≡ Some u →
    slice_get (ids_of t) j ≡ Some n → n ≡ u
one_node t i j u n same at there = cc (at, ap (slice_get (ids_of t)) same ∙ there)

-- no channel joins the two nodes that come next
pub joined-skip : (t : Network) (xs : List StationState) (low high : ℕ) (n m : NodeId) → low < high →
    AreNewUpTo t (joined_up_to high low) xs → slice_get (ids_of t) low ≡ Some n →
    slice_get (ids_of t) high ≡ Some m → is_world_channel t n m ≡ false → AreNewUpTo t (joined_up_to high (low + 1)) xs
joined-skip t xs low high n m below all at there none =
    recounted t (joined_up_to high low) (joined_up_to high (low + 1)) xs all
    (λ place u node. near place u node (nat_eq place low) refl (nat_eq place high) refl)
    (λ p q u d from to on less. old p q u d from to on less (nat_eq p low && nat_eq q high) refl
    (nat_eq p high && nat_eq q low) refl)
  where
    near : (place : ℕ) (u : NodeId) → slice_get (ids_of t) place ≡ Some u → (a : Bool) → nat_eq place low ≡ a →
        (b : Bool) → nat_eq place high ≡ b →
        near_among t (joined_up_to high (low + 1) place) u ≡ near_among t (joined_up_to high low place) u
    near place u node true p b q =
        let same : place ≡ low = eqb-true place low p in
        let one : n ≡ u = one_node t place low u n same node at in
        ap (λ k. near_among t k u) (ap (joined_up_to high (low + 1)) same ∙ joined-low-next high low)
        ∙ near-same t u m high there (subst (λ (k : NodeId). is_world_channel t m k ≡ false) one (not_back t n m none))
        ∙ ap (λ k. near_among t k u) (sym (ap (joined_up_to high low) same ∙ joined-low high low below))
    near place u node false p true q =
        let same : place ≡ high = eqb-true place high q in
        let one : m ≡ u = one_node t place high u m same node there in
        ap (λ k. near_among t k u) (ap (joined_up_to high (low + 1)) same ∙ joined-high-next high low below)
        ∙ near-same t u n low at (subst (λ (k : NodeId). is_world_channel t n k ≡ false) one none)
        ∙ ap (λ k. near_among t k u)
        (sym (ap (joined_up_to high low) same ∙ joined-high high low (omega (arith, below))))
    near place u node false p false q = ap (λ k. near_among t k u) (joined-else-next high low place p q)

    old : (p q : ℕ) (u d : NodeId) → slice_get (ids_of t) p ≡ Some u → slice_get (ids_of t) q ≡ Some d →
        is_world_channel t u d ≡ true → q < joined_up_to high (low + 1) p → (a : Bool) →
        (nat_eq p low && nat_eq q high) ≡ a → (b : Bool) → (nat_eq p high && nat_eq q low) ≡ b →
        q < joined_up_to high low p
    old p q u d from to on less true f b g =
        let h = and_parts (nat_eq p low) (nat_eq q high) f in
        let one : n ≡ u = one_node t p low u n (eqb-true p low h.0) from at in
        let two : m ≡ d = one_node t q high d m (eqb-true q high h.1) to there in
        absurd (cc (on, none, one, two))
    old p q u d from to on less false f true g =
        let h = and_parts (nat_eq p high) (nat_eq q low) g in
        let one : m ≡ u = one_node t p high u m (eqb-true p high h.0) from there in
        let two : n ≡ d = one_node t q low d n (eqb-true q low h.1) to at in
        absurd (cc (on, not_back t n m none, one, two))
    old p q u d from to on less false f false g = old-pair high low p q below f g less

not_itself : (t : Network) (n : NodeId) → is_world_channel t n n ≡ false
not_itself t n = go (is_world_channel t n n) refl
  where
    same : nat_eq n.0 n.0 ≡ true
    same = grind arith

    go : (b : Bool) → is_world_channel t n n ≡ b → is_world_channel t n n ≡ false
    go true e = absurd (cc ((joins-nodes t n n e).other, same))
    go false e = e

-- the next node comes, after the one at this place was joined to all before it
pub joined-on : (t : Network) (xs : List StationState) (place low : ℕ) → low ≡ place →
    AreNewUpTo t (joined_up_to place low) xs → AreNewUpTo t (joined_up_to (place + 1) 0) xs
joined-on t xs place low done all =
    recounted t (joined_up_to place place) (joined_up_to (place + 1) 0) xs
    (subst (λ k. AreNewUpTo t (joined_up_to place k) xs) done all)
    (λ p u node. near p u node (nat_eq p place) refl)
    (λ p q u d from to on less. old p q u d from to on less (nat_eq p place) refl)
  where
    up : joined_up_to (place + 1) 0 place ≡ place + 1
    up = joined-whole (place + 1) place (omega arith)

    here : joined_up_to place place place ≡ place
    here = joined-high place place (omega arith)

    near : (p : ℕ) (u : NodeId) → slice_get (ids_of t) p ≡ Some u → (b : Bool) → nat_eq p place ≡ b →
        near_among t (joined_up_to (place + 1) 0 p) u ≡ near_among t (joined_up_to place place p) u
    near p u node true e =
        let same : p ≡ place = eqb-true p place e in
        ap (λ k. near_among t k u) (joined_whole_at same)
        ∙ near-same t u u place (ap (slice_get (ids_of t)) (sym same) ∙ node) (not_itself t u)
        ∙ ap (λ k. near_among t k u) (sym (ap (joined_up_to place place) same ∙ here))
      where
        joined_whole_at : p ≡ place → joined_up_to (place + 1) 0 p ≡ place + 1
        joined_whole_at same = ap (joined_up_to (place + 1) 0) same ∙ up
    near p u node false e = ap (λ k. near_among t k u) (joined-up place p e)

    old : (p q : ℕ) (u d : NodeId) → slice_get (ids_of t) p ≡ Some u → slice_get (ids_of t) q ≡ Some d →
        is_world_channel t u d ≡ true → q < joined_up_to (place + 1) 0 p → (b : Bool) → nat_eq p place ≡ b →
        q < joined_up_to place place p
    old p q u d from to on less true e =
        let same : p ≡ place = eqb-true p place e in
        let now : q < place + 1 =
        subst (λ k. q < k) up (subst (λ k. q < joined_up_to (place + 1) 0 k) same less) in
        subst (λ k. q < joined_up_to place place k) (sym same)
        (subst (λ k. q < k) (sym here) (before same now (nat_eq q place) refl))
      where
        before : p ≡ place → q < place + 1 → (b : Bool) → nat_eq q place ≡ b → q < place
        before same h true f =
            let one : d ≡ u = one_node t p q u d (same ∙ sym (eqb-true q place f)) from to in
            absurd (cc (on, not_itself t u, one))
        before same h false f = grind (arith, h, f)
    old p q u d from to on less false e = subst (λ k. q < k) (joined-up place p e) less

-- All stations are joined

zip_places : {X Y : Type 0} (R : X → Y → Type 0) (xs : List X) (ys : List Y) → length ys ≡ length xs →
    ((place : ℕ) (x : X) (y : Y) → slice_get xs place ≡ Some x → slice_get ys place ≡ Some y → R x y) → AllZip R xs ys
zip_places R [] [] same each = tt
zip_places R [] (y ∷ ys) same each = absurd (omega (arith, same))
zip_places R (x ∷ xs) [] same each = absurd (omega (arith, same))
zip_places R (x ∷ xs) (y ∷ ys) same each = (
  each 0 x y refl refl,
  zip_places R xs ys (omega (arith, same)) (λ place u v at there. each (suc place) u v at there),
)

id_count : (t : Network) → length (ids_of t) ≡ length t.nodes
id_count t = length-map t.nodes (λ (m : NodeSpec). m.id)

pub joined-all : (t : Network) (xs : List StationState) (count : ℕ) → count ≡ length xs →
    AreNewUpTo t (joined_up_to count 0) xs → AreNew t xs
joined-all t xs count whole all = record {
  valid = all.valid;
  wires = all.wires;
  each = zip_places (IsNewAt t all.wires) (ids_of t) xs (all.count ∙ sym (id_count t))
      (λ place n s at there. one place n s at (all.each place n s at there));
  rings = λ u d on.
      let from = place_of (ids_of t) u (node-there t u (joins-nodes t u d on).from) in
      let to = place_of (ids_of t) d (node-there t d (joins-nodes t u d on).to) in
      all.rings from.0 to.0 u d from.1 to.1 on
      (subst (λ k. to.0 < k) (sym (joined-whole count from.0 (inside from.0 u from.1))) (inside to.0 d to.1));
}
  where
    inside : (place : ℕ) (n : NodeId) → slice_get (ids_of t) place ≡ Some n → place < count
    inside place n at =
        less place (length (ids_of t)) (length t.nodes) (length xs) count (slice_get_within (ids_of t) place n at)
        (id_count t) all.count whole
      where
        less : (a b c d e : ℕ) → a < b → b ≡ c → d ≡ c → e ≡ d → a < e
        less a b c d e p q r s = omega (arith, p, q, r, s)

    one : (place : ℕ) (n : NodeId) (s : StationState) → slice_get (ids_of t) place ≡ Some n →
        IsNewUpTo t all.wires (joined_up_to count 0 place) n s → IsNewAt t all.wires n s
    one place n s at new = record {
      controller = new.controller;
      desk = new.desk;
      links =
          new.links
          ∙ ap (map (λ (u : NodeId). all.wires n.0 u.0))
          (ap (λ k. near_among t k n) (joined-whole count place (inside place n at))
          ∙ near-all t n count (enough count (length xs) (length t.nodes) whole all.count));
      clock = new.clock;
      log = new.log;
      held = new.held;
      lines = new.lines;
    }
      where
        enough : (a b c : ℕ) → a ≡ b → b ≡ c → c ≤ a
        enough a b c p q = omega (arith, p, q)

-- The nodes that are read

pub id-read : (t : Network) (nodes : List NodeSpec) (i : ℕ) (d : NodeSpec) → nodes ≡ t.nodes → i < length nodes →
    slice_get (ids_of t) i ≡ Some (get_or nodes i d).id
id-read t nodes i d same below =
    ap (λ (ns : List NodeSpec). slice_get (map (λ (m : NodeSpec). m.id) ns) i) (sym same)
    ∙ get-map (λ (m : NodeSpec). m.id) nodes i (get_or nodes i d) (slice_get-get_or nodes i d below)

-- the two nodes of a pair
pub two-read : (t : Network) (nodes : List NodeSpec) (xs : List StationState) (low high : ℕ) (d e : NodeSpec) →
    nodes ≡ t.nodes → low < high → high < length xs → length xs ≡ length t.nodes →
    (slice_get (ids_of t) low ≡ Some (get_or nodes low d).id) ×
    (slice_get (ids_of t) high ≡ Some (get_or nodes high e).id)
two-read t nodes xs low high d e same order within count =
    (id-read t nodes low d same (omega (arith, order, inside)), id-read t nodes high e same inside)
  where
    less : (a b c k : ℕ) → a < b → b ≡ c → k ≡ c → a < k
    less a b c k p q r = omega (arith, p, q, r)

    inside : high < length nodes
    inside = less high (length xs) (length t.nodes) (length nodes) within count (ap length same)
