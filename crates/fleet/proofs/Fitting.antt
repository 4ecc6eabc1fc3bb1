-- Sums over the stations of a fleet fit in 64 bits.
use Rattle.std.proofs.{Common.{◌≡◌, ◌≤◌, ◌<◌, ◌+◌, ◌-◌, ◌*◌, ◌^◌, ℕ, suc, Bool, true, false, cond, nat_eq, nat_le, List, append-nil, append_assoc, [], ◌∷◌, ◌++◌, drop, filter, get_or, length, map, take, refl, sym, ap, ◌∙◌, subst, arith, eqb-true}, Math.Nat.min-eq_left, lemmas.List.{length-append, length-map, map-append, take_more}, lemmas.List.Sums.{sum_by-cons, sum_by_more, sum_by_more_le}, lemmas.Option.{get_or_from_slice_get, slice_get_within}}
use Rattle.std.specs.{Prelude.{◌&&◌, flat_map, min, None, Option, Some, slice_get, sum_by}, List.{AllByRecursion, AllZip}}
use Rattle.ason_base.specs.{declared.limits.TheConstants.{MOST_LINKS, MOST_NODES}, declared.ids.NodeId.NodeId, declared.commands.Command.Command, declared.commands.Disturb.Disturb, declared.commands.DeskItem.DeskItem, declared.commands.DeskItem.TheVariants.Order, declared.network.NodeSpec.NodeSpec, Network.{IsTopology, Network}}
use Rattle.mesh_rules.specs.Failures.{failed_after}
use Rattle.mesh_rules.proofs.LinkNews.{few-links, few-news}
use Rattle.world_core.specs.Replays.{ingress_of}
use Rattle.world_rules.specs.Worlds.{World, world_start, with_event}
use Rattle.world_merge.specs.{Deeds.{Deed, Handled, Heard, Posted, Ticked, Took, alone, alone_from, done}, Histories.at, Logs.{is_posted, line_of}}
use Rattle.world_rules.proofs.Delivered.{kept-delivered}
use Rattle.round_rules.specs.{OneWorker.ids_of, Records.{Record, deeds_at}, States.StationState, Fleets.IsStationAt, Looks.HasLinks}
use Rattle.fleet.specs.{declared.seats.Seat.Seat, Connections.AreSettled, Posting.{news_for, order_for}, Standing.{FleetState, StandsFor}}
use Rattle.fleet.proofs.{Places.zip-length, Posted.{news-desks, order-desks}}
use Rattle.ason_base.proofs.{Numbers.self-number, Places.all-by_place}

-- Desks

-- an order is one item
one_order : (n m : NodeId) (c : Command) → length (order_for n c m) ≤ MOST_LINKS
one_order n m c = go (nat_eq n.0 m.0)
  where
    go : (b : Bool) → length (cond b (Order c ∷ []) []) ≤ MOST_LINKS
    go true = omega arith
    go false = omega arith

-- a post puts at most 256 items on a desk
post_items : (t : Network) → IsTopology t → (n : NodeId) (w : World) (s : ℕ) (c : Command) →
    length ((done t n w (Posted s c)).desks n.0) ≤ length (w.desks n.0) + MOST_LINKS
post_items t valid n w s c = go (ingress_of c) refl
  where
    more : (items : List DeskItem) → (done t n w (Posted s c)).desks n.0 ≡ w.desks n.0 ++ items →
        length items ≤ MOST_LINKS →
        length ((done t n w (Posted s c)).desks n.0) ≤ length (w.desks n.0) + MOST_LINKS
    more items is few =
        let both = ap length is ∙ length-append (w.desks n.0) items in omega (arith, both, few)

    go : (o : Option NodeId) → ingress_of c ≡ o →
        length ((done t n w (Posted s c)).desks n.0) ≤ length (w.desks n.0) + MOST_LINKS
    go None e =
        more (news_for t w.failed (failed_after c w.failed) n) (news-desks t w c e n)
        (omega (arith, few-news t valid w.failed (failed_after c w.failed) n.0, few-links t valid))
    go (Some m) e = more (order_for m c n) (order-desks t w c m e n) (one_order m n c)

fewer : (items : List DeskItem) → length (drop 1 items) ≤ length items
fewer [] = omega arith
fewer (i ∷ items) = omega arith

handled_items : (t : Network) (n : NodeId) (w : World) (s : ℕ) →
    length ((done t n w (Handled s)).desks n.0) ≤ length (w.desks n.0)
handled_items t n w s =
    subst (λ b. length (cond b (drop 1 (w.desks n.0)) (w.desks n.0)) ≤ length (w.desks n.0)) (sym (self-number n.0))
    (fewer (w.desks n.0))

desk_from : (t : Network) → IsTopology t → (n : NodeId) (ds : List Deed) (w : World) →
    length ((alone_from t n w ds).desks n.0) ≤ length (w.desks n.0) + MOST_LINKS * length (filter is_posted ds)
desk_from t valid n [] w = omega arith
desk_from t valid n (Ticked s ∷ ds) w = desk_from t valid n ds (done t n w (Ticked s))
desk_from t valid n (Handled s ∷ ds) w =
    let rest = desk_from t valid n ds (done t n w (Handled s)) in
    let less = handled_items t n w s in omega (arith, rest, less)
desk_from t valid n (Took s u k x ∷ ds) w =
    let rest = desk_from t valid n ds (done t n w (Took s u k x)) in
    let same = ap length (kept-delivered t (with_event w n.0) n u (Some x) n.0).desk in omega (arith, rest, same)
desk_from t valid n (Heard s u bytes ∷ ds) w = desk_from t valid n ds (done t n w (Heard s u bytes))
desk_from t valid n (Posted s c ∷ ds) w =
    let rest = desk_from t valid n ds (done t n w (Posted s c)) in
    let more = post_items t valid n w s c in omega (arith, rest, more)

-- Sums

pub few-nodes : (t : Network) → IsTopology t → length t.nodes ≤ MOST_NODES
few-nodes t valid = go (nat_le 1 (length t.nodes)) (nat_le (length t.nodes) MOST_NODES)
    (nat_le (length t.links) MOST_LINKS) refl valid.count
  where
    within : (a : ℕ) → nat_le a MOST_NODES ≡ true → a ≤ MOST_NODES
    within a h = grind arith

    go : (a b c : Bool) → nat_le (length t.nodes) MOST_NODES ≡ b → (a && (b && c)) ≡ true → length t.nodes ≤ MOST_NODES
    go true true c e h = within (length t.nodes) e
    go true false c e h = absurd (cc (h))
    go false b c e h = absurd (cc (h))

abbrev pub AllFit : {X : Type 0} → (X → ℕ) → List X → Type 0
AllFit f xs = AllByRecursion (λ x. f x ≤ 2 ^ 40) xs

sum-fits : {X : Type 0} (f : X → ℕ) (xs : List X) → AllFit f xs → sum_by f xs ≤ length xs * 2 ^ 40
sum-fits f [] all = omega arith
sum-fits f (x ∷ xs) all = subst (λ k. k ≤ length (x ∷ xs) * 2 ^ 40) (sym (sum_by-cons f x xs))
    (more (f x) (sum_by f xs) (length xs) all.0 (sum-fits f xs all.1))
  where
    more : (a b n : ℕ) → a ≤ 2 ^ 40 → b ≤ n * 2 ^ 40 → a + b ≤ suc n * 2 ^ 40
    more a b n h k = omega arith

-- a fleet has at most 64 stations
pub few-stations : (seats : List Seat) (xs : List StationState) → AreSettled seats xs → length xs ≤ MOST_NODES
few-stations seats xs are =
    within (length xs) (length are.0.nodes)
    (zip-length (HasLinks are.0 are.1.wires) (ids_of are.0) xs are.1.links
    ∙ length-map are.0.nodes (λ (n : NodeSpec). n.id)) (few-nodes are.0 are.1.connected.valid)
  where
    within : (a b : ℕ) → a ≡ b → b ≤ MOST_NODES → a ≤ MOST_NODES
    within a b p q = omega arith

-- such a sum over the stations fits
fits : (t : Network) (lines : List Disturb) (f : FleetState) (r : Record) → StandsFor t lines f r →
    (g : StationState → ℕ) → AllFit g f.stations → sum_by g f.stations < 2 ^ 64
fits t lines f r s g all =
    within (sum_by g f.stations) (length f.stations) (length t.nodes) (sum-fits g f.stations all)
    (zip-length (IsStationAt t lines r s.wires) (ids_of t) f.stations s.stations.each
    ∙ length-map t.nodes (λ (n : NodeSpec). n.id)) (few-nodes t s.stations.valid)
  where
    within : (a n m : ℕ) → a ≤ n * 2 ^ 40 → n ≡ m → m ≤ MOST_NODES → a < 2 ^ 64
    within a n m p q r = omega arith

-- so what is found where it fits is the sum over the stations
pub sum-found : (t : Network) (lines : List Disturb) (f : FleetState) (r : Record) → StandsFor t lines f r →
    (g : StationState → ℕ) (lent : List StationState) (found : ℕ) → lent ≡ f.stations → AllFit g lent →
    (sum_by g lent < 2 ^ 64 → found ≡ sum_by g lent) → found ≡ sum_by g f.stations
sum-found t lines f r s g lent found same all is =
    is (subst (λ xs. sum_by g xs < 2 ^ 64) (sym same) (fits t lines f r s g (subst (AllFit g) same all)))
    ∙ ap (sum_by g) same

-- no desk has more than 256 items of each post
pub items-fit : (t : Network) (lines : List Disturb) (f : FleetState) (r : Record) → StandsFor t lines f r →
    AllFit (λ (x : StationState). length x.desk) f.stations
items-fit t lines f r s = each (ids_of t) f.stations s.stations.each
  where
    few : (a b c d : ℕ) → a ≡ b → b ≤ 0 + MOST_LINKS * c → c ≡ d → d ≤ 2 ^ 32 → a ≤ 2 ^ 40
    few a b c d p q r s = omega arith

    one : (n : NodeId) (x : StationState) → IsStationAt t lines r s.wires n x → length x.desk ≤ 2 ^ 40
    one n x is =
        few (length x.desk) (length ((alone t n (deeds_at r n.0)).desks n.0))
        (length (filter is_posted (deeds_at r n.0))) (length f.posts) (ap length is.station.stands.sound.node.desk)
        (desk_from t s.stations.valid n (deeds_at r n.0) (world_start t))
        (sym (length-map (filter is_posted (deeds_at r n.0)) (line_of n)) ∙ ap length (s.stations.posts n.0)
        ∙ ap length (sym s.posts)) s.few

    each : (ns : List NodeId) (xs : List StationState) → AllZip (IsStationAt t lines r s.wires) ns xs →
        AllByRecursion (λ (x : StationState). length x.desk ≤ 2 ^ 40) xs
    each [] [] all = tt
    each [] (x ∷ xs) all = absurd all
    each (n ∷ ns) [] all = absurd all
    each (n ∷ ns) (x ∷ xs) all = (one n x all.0, each ns xs all.1)

flat_end : {X Y : Type 0} (f : X → List Y) (xs : List X) (y : X) → flat_map f (xs ++ y ∷ []) ≡ flat_map f xs ++ f y
flat_end f [] y = append-nil (f y)
flat_end f (x ∷ xs) y = ap (λ zs. f x ++ zs) (flat_end f xs y) ∙ sym (append_assoc (f x) (flat_map f xs) (f y))

-- what is listed of one item more
pub flat-more : {X Y : Type 0} (f : X → List Y) (xs : List X) (i : ℕ) (x : X) → x ≡ get_or xs i x → i < length xs →
    flat_map f (take (i + 1) xs) ≡ flat_map f (take i xs) ++ f x
flat-more f xs i x is below =
    ap (flat_map f) (take_more xs i x below) ∙ flat_end f (take i xs) (get_or xs i x)
    ∙ ap (λ z. flat_map f (take i xs) ++ f z) (sym is)

-- the log of one station more
pub logs-more : (xs : List StationState) (i : ℕ) (x : StationState) → x ≡ get_or xs i x → i < length xs →
    map (λ (s : StationState). s.log) (take (i + 1) xs) ≡ map (λ (s : StationState). s.log) (take i xs) ++ x.log ∷ []
logs-more xs i x is below =
    ap (map (λ (s : StationState). s.log)) (take_more xs i x below)
    ∙ map-append (λ (s : StationState). s.log) (take i xs) (get_or xs i x ∷ [])
    ∙ ap (λ (z : StationState). map (λ (s : StationState). s.log) (take i xs) ++ z.log ∷ []) (sym is)

-- one station more is counted
pub sum-more : (f : StationState → ℕ) (xs : List StationState) (i so_far item next : ℕ) (d : StationState) →
    i < length xs → (sum_by f xs < 2 ^ 64 → so_far ≡ sum_by f (take i xs)) → item ≡ f (get_or xs i d) →
    next ≡ min (so_far + item) (2 ^ 64 - 1) → sum_by f xs < 2 ^ 64 → next ≡ sum_by f (take (i + 1) xs)
sum-more f xs i so_far item next d below is one then fit =
    then ∙ min-eq_left (few so_far item (sum_by f (take i xs)) (f (get_or xs i d)) (sum_by f xs) (is fit) one
    (sum_by_more_le f xs i d below) fit)
    ∙ total so_far item (sum_by f (take i xs)) (f (get_or xs i d)) (is fit) one
    ∙ sym (sum_by_more f xs i d below)
  where
    few : (a b c e k : ℕ) → a ≡ c → b ≡ e → c + e ≤ k → k < 2 ^ 64 → a + b ≤ 2 ^ 64 - 1
    few a b c e k p q r s = omega arith

    total : (a b c e : ℕ) → a ≡ c → b ≡ e → a + b ≡ c + e
    total a b c e p q = omega arith

pub few-more : (f : StationState → ℕ) (xs : List StationState) (i : ℕ) (d : StationState) →
    ((k : ℕ) (x : StationState) → k < i → slice_get xs k ≡ Some x → f x ≤ 2 ^ 40) →
    d ≡ get_or xs i d → f d ≤ 2 ^ 40 → i < length xs →
    (k : ℕ) (x : StationState) → k < i + 1 → slice_get xs k ≡ Some x → f x ≤ 2 ^ 40
few-more f xs i d each is few below k x under at = go (nat_eq k i) refl
  where
    before : (a b : ℕ) → a < b + 1 → nat_eq a b ≡ false → a < b
    before a b p q = grind arith

    go : (b : Bool) → nat_eq k i ≡ b → f x ≤ 2 ^ 40
    go true e =
        let same : x ≡ d = sym (get_or_from_slice_get xs k x d at) ∙ ap (λ j. get_or xs j d) (eqb-true k i e) ∙
        sym is in
        subst (λ (y : StationState). f y ≤ 2 ^ 40) (sym same) few
    go false e = each k x (before k i under e) at

pub few-all : (f : StationState → ℕ) (xs : List StationState) (i : ℕ) → length xs ≤ i →
    ((k : ℕ) (x : StationState) → k < i → slice_get xs k ≡ Some x → f x ≤ 2 ^ 40) →
    AllByRecursion (λ (x : StationState). f x ≤ 2 ^ 40) xs
few-all f xs i past each = all-by_place (λ (x : StationState). f x ≤ 2 ^ 40) xs
    (λ k x at. each k x (less k (length xs) i (slice_get_within xs k x at) past) at)
  where
    less : (a b c : ℕ) → a < b → b ≤ c → a < c
    less a b c p q = omega arith
