-- Places in order of their nodes.
use Rattle.std.proofs.{Common.{◌≡◌, ◌≢◌, inl, inr, ℕ, ◌+◌, ◌<◌, ◌≤◌, true, false, List, [], ◌∷◌, ◌++◌, Some, length, map, get_or, slice_get, Less, Equal, refl, sym, ◌∙◌, ap, subst, arith, length-append}, lemmas.Cmp.eq_by_cmp_equiv, lemmas.List.{get_or-map, length-map}, lemmas.List.Sorted.{Contains-permutation, IsPermutation-sym}, lemmas.Map.Keys.{IsDistinct-IsPermutation, Less-from_sorted, apart_from_distinct, sorted_from_all_adjacent}, lemmas.Map.Made.{IsDistinct-from_AllPairs, length-le_from_is_member}, lemmas.Map.Views.{Contains-from_any, list_any-from_Contains}, lemmas.List.Elements.Contains-get_or, lemmas.Option.{slice_get-get_or, slice_get_cases}}
use Rattle.std.specs.{List.{AllPairs, Contains, IsDistinct}, List.Sorted.{IsPermutation, IsSorted, IsStrictlySortedBy}, Bool.Decides, Ordering.{eq_by_cmp, is_lt}}
use Rattle.ason_base.specs.{declared.ids.NodeId.NodeId, contracts.ids.NodeIdOrd.TheImpl.ghosts as node, contracts.ids.NodeIdOrd.TheImpl.Laws.total-law as node-law}
use Rattle.ason_base.proofs.{Numbers.less-or-same, Places.get-pushed, JoinedEnds.same-node}
use Rattle.route_least.specs.{contracts.order.NodePlaceOrd.TheImpl.ghosts, contracts.order.NodePlaceOrd.TheImpl.Laws.total-law, declared.order.NodePlace.NodePlace, declared.places.Place.Place, Network.{AreNodesInOrder, AreNumbered, AreOnce, HasNode}}
use Rattle.route_least.proofs.PlaceLists.{node_at, node_within, none_some, one_node}

-- The entries in order of place

pub none_numbered : (places : List Place) (entries : List NodePlace) → entries ≡ [] → AreNumbered places 0 entries
none_numbered places entries none = record {
  len = ap length none;
  are = λ k e h. absurd (none_some (subst (λ es. slice_get es k ≡ Some e) none h));
}

pub numbered_more : (places : List Place) (k : ℕ) (d : Place) (entries : List NodePlace) → k < length places →
    AreNumbered places k entries → AreNumbered places (k + 1)
    (entries ++ (record { node = (get_or places k d).node; place = k }) ∷ [])
numbered_more places k d entries within are =
    let new : NodePlace = record { node = (get_or places k d).node; place = k } in
    record {
      len = (let l : length (entries ++ new ∷ []) ≡ length entries + 1 =
          length-append entries (new ∷ []) in let m : length entries ≡ k = are.len in omega arith);
      are = λ i e h. elim (get-pushed entries new i e h) [
        | inl before ↦ are.are i e before
        | inr last ↦
            (let at : k ≡ i = sym are.len ∙ sym last.0 in
            subst (λ x. (x.place ≡ i) × HasNode places i x.node) last.1
            (subst (λ j. (k ≡ j) × HasNode places j new.node) at (refl, node_at places k d within)))
      ];
    }

-- The order

no_entry : NodePlace
no_entry = record { node = record { 0 = 0 }; place = 0 }

cmp-equal : (a b : NodePlace) → ghosts.cmp a b ≡ Equal → a ≡ b
cmp-equal a b h =
    let e : a.node.0 ≡ b.node.0 = grind arith in
    let f : a.place ≡ b.place = grind arith in
    λ i. record { node = record { 0 = e i }; place = f i }

cmp-itself : (a : NodePlace) → ghosts.cmp a a ≡ Equal
cmp-itself a = grind arith

cmp-less : (a b : NodePlace) → ghosts.cmp a b ≡ Less → a.node.0 ≤ b.node.0
cmp-less a b h = grind arith

-- the order sorts the entries, no two of which are equal
module _ (entries order : List NodePlace) (apart : AllPairs (λ x y. x ≢ y) entries)
    (moved : IsPermutation entries order) (sorted : IsSorted ghosts.cmp order) where
  equal_decides : (x y : NodePlace) → Decides (eq_by_cmp ghosts.cmp x y) (x ≡ y)
  equal_decides x y = (
    (λ h. cmp-equal x y (grind arith)),
    (λ e. subst (λ z. eq_by_cmp ghosts.cmp x z ≡ true) e ((eq_by_cmp_equiv total-law).refl x)),
  )

  differ : IsDistinct (eq_by_cmp ghosts.cmp) order
  differ = IsDistinct-IsPermutation (eq_by_cmp ghosts.cmp) (λ x y. (eq_by_cmp_equiv total-law).symm x y) entries order
      moved (IsDistinct-from_AllPairs equal_decides entries apart)

  less_next : (x y : NodePlace) → is_lt (ghosts.cmp y x) ≡ false → eq_by_cmp ghosts.cmp x y ≡ false →
      ghosts.cmp x y ≡ Less
  less_next x y down same = grind arith

  strictly : IsStrictlySortedBy ghosts.cmp order
  strictly = sorted_from_all_adjacent total-law order no_entry (λ k within.
      less_next (get_or order k no_entry) (get_or order (k + 1) no_entry)
      (sorted k no_entry (omega arith) within)
      (apart_from_distinct (eq_by_cmp ghosts.cmp) order k (k + 1) no_entry differ (omega arith) within))

entries_apart : (places : List Place) (entries : List NodePlace) → AreNumbered places (length places) entries →
    AllPairs (λ x y. x ≢ y) entries
entries_apart places entries are i j d lt within same =
    let inside : i < length entries = omega arith in
    let first = (are.are i (get_or entries i d) (slice_get-get_or entries i d inside)).0 in
    let second = (are.are j (get_or entries j d) (slice_get-get_or entries j d within)).0 in
    let place = ap (λ e. e.place) same in
    omega (arith, first, second, place)

pub in_order : (places : List Place) (entries order : List NodePlace) → AreOnce places →
    AreNumbered places (length places) entries → IsPermutation entries order → IsSorted ghosts.cmp order →
    AreNodesInOrder places order
in_order places entries order once are moved sorted =
    let there : (e : NodePlace) → Contains order e → Contains entries e =
    λ e h. Contains-permutation order entries e (IsPermutation-sym entries order moved) h
    in
    let sound : (e : NodePlace) → Contains order e → HasNode places e.place e.node =
    λ e h. (let known = there e h in
    let at : slice_get entries known.0 ≡ Some e = slice_get-get_or entries known.0 e known.1 ∙ ap Some known.2 in
    let is = are.are known.0 e at in
    subst (λ k. HasNode places k e.node) (sym is.0) is.1)
    in
    record {
      sound = sound;
      complete = λ p n h.
          (let within : p < length entries = subst (λ k. p < k) (sym are.len) (node_within places p n h) in
          let e : NodePlace = get_or entries p (record { node = n; place = p }) in
          let at : slice_get entries p ≡ Some e = slice_get-get_or entries p (record { node = n; place = p }) within in
          let is = are.are p e at in
          let same : e ≡ record { node = n; place = p } =
          (λ i. record { node = one_node places p e.node n is.1 h i; place = is.0 i }) in
          Contains-permutation entries order (record { node = n; place = p }) moved (p, within, same));
      rising = λ i j d lt within.
          (let x = get_or order i d in
          let y = get_or order j d in
          let less : ghosts.cmp x y ≡ Less = Less-from_sorted ghosts.cmp order i j d
          (strictly entries order (entries_apart places entries are) moved sorted) lt within in
          elim (less-or-same x.node.0 y.node.0 (cmp-less x y less)) [
            | inl below ↦ below
            | inr same ↦ absurd
                (let inside : i < length order = omega arith in
                let node : x.node ≡ y.node = same-node x.node y.node same in
                let first : HasNode places x.place y.node = subst (HasNode places x.place) node
                (sound x (Contains-get_or order i d inside)) in
                let place : x.place ≡ y.place = once x.place y.place y.node first
                (sound y (Contains-get_or order j d within)) in
                let is : x ≡ y = (λ k. record { node = node k; place = place k }) in
                let equal : ghosts.cmp x y ≡ Equal = subst (λ z. ghosts.cmp x z ≡ Equal) is (cmp-itself x) in
                cc (less, equal))
          ]);
    }

-- How many places there are

exact : (x y : NodeId) → eq_by_cmp node.cmp x y ≡ true → x ≡ y
exact x y h = let e : x.0 ≡ y.0 = grind arith in same-node x y e

decides : (x y : NodeId) → Decides (eq_by_cmp node.cmp x y) (x ≡ y)
decides x y = (exact x y, λ e. subst (λ z. eq_by_cmp node.cmp x z ≡ true) e ((eq_by_cmp_equiv node-law).refl x))

-- distinct nodes that are all in another list are no more than that list has
at_most : (nodes others : List NodeId) → AllPairs (λ x y. x ≢ y) nodes →
    ((n : NodeId) → Contains nodes n → Contains others n) → length nodes ≤ length others
at_most nodes others apart among =
    length-le_from_is_member (eq_by_cmp_equiv node-law) nodes others (IsDistinct-from_AllPairs decides nodes apart)
    (λ q h. list_any-from_Contains (eq_by_cmp_equiv node-law) q others (among q (Contains-from_any exact q nodes h)))

-- places whose nodes are all in a list are no more than that list has
pub few_places : (places : List Place) (others : List NodeId) → AreOnce places →
    ((p : ℕ) (n : NodeId) → HasNode places p n → Contains others n) → length places ≤ length others
few_places places others once among =
    let nodes : List NodeId = map (λ q. q.node) places in
    let len : length nodes ≡ length places = length-map places (λ q. q.node) in
    let at : (k : ℕ) (d : NodeId) → k < length nodes → HasNode places k (get_or nodes k d) =
    λ k d within. elim ((slice_get_cases places k).1) [
      | inl there ↦ (
        there.0,
        there.2,
        sym (get_or-map (λ q. q.node) places k there.0 d there.1 ∙
            ap (λ q. q.node) there.3),
      )
      | inr past ↦ absurd (let h : length places ≤ k = past.0 in omega arith)
    ]
    in
    subst (λ n. n ≤ length others) len
    (at_most nodes others
    (λ i j d lt within same. (let a : i ≡ j = once i j (get_or nodes i d) (at i d (omega arith))
    (subst (HasNode places j) (sym same) (at j d within)) in omega arith))
    (λ n known. among known.0 n (subst (HasNode places known.0) known.2 (at known.0 n known.1))))
