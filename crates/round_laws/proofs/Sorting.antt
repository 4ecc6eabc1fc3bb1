-- What the nodes add in a round can be merged: the least head of their lines is taken, again and again.
use Rattle.std.proofs.Common.{◌≡◌, ◌≤◌, ◌<◌, inl, inr, ℕ, Bool, true, false, cond, nat_eq, List, [], ◌∷◌, ◌++◌, filter, map, refl, sym, ap, ◌∙◌, append-nil, arith}
use Rattle.std.specs.{Prelude.◌||◌, List.{AllByRecursion, flat_map}}
use Rattle.ason_base.specs.{declared.ids.NodeId.NodeId, declared.commands.Entry.Entry, declared.network.NodeSpec.NodeSpec, Network.{IsTopology, Network, is_node_id}}
use Rattle.world_rules.proofs.Numbered.{NodesRiseAbove, rises}
use Rattle.world_merge.specs.{Deeds.{Deed, Handled, Heard, Posted, Ticked, Took, stamp_of}, Histories.at, Logs.{RisesAbove, is_posted, line_of}, Merges.{Ascends, concerns, part}, Orders.{IsBefore, IsSorted}, Picking.{HasNoLine, IsInOne, IsPicked, merged_of}}
use Rattle.world_merge.proofs.{Picking.picking-sorts, Splitting.line-stamp, Ordering.{ascends, from_zero}, Picked.none-of}

-- The lines of one node

above_all : (s : ℕ) (ds : List Deed) → RisesAbove s ds → AllByRecursion (λ (d : Deed). s < stamp_of d) ds
above_all s [] up = tt
above_all s (d ∷ ds) up = (up.0, go ds (above_all (stamp_of d) ds up.1))
  where
    go : (es : List Deed) → AllByRecursion (λ (e : Deed). stamp_of d < stamp_of e) es →
        AllByRecursion (λ (e : Deed). s < stamp_of e) es
    go [] all = tt
    go (e ∷ es) all = (omega (arith, up.0, all.0), go es all.1)

-- the lines of one node are sorted
pub sorted_lines : (n : NodeId) (s : ℕ) (ds : List Deed) → RisesAbove s ds → IsSorted (map (line_of n) ds)
sorted_lines n s [] up = tt
sorted_lines n s (d ∷ ds) up = (go ds (above_all (stamp_of d) ds up.1), sorted_lines n (stamp_of d) ds up.1)
  where
    go : (es : List Deed) → AllByRecursion (λ (e : Deed). stamp_of d < stamp_of e) es →
        AllByRecursion (IsBefore (line_of n d)) (map (line_of n) es)
    go [] all = tt
    go (e ∷ es) all = (
      inl (before (stamp_of d) (stamp_of e) (line_of n d).stamp (line_of n e).stamp all.0 (line-stamp n d)
          (line-stamp n e)),
      go es all.1,
    )
      where
        before : (a b c d : ℕ) → a < b → c ≡ a → d ≡ b → c < d
        before a b c d lt e f = omega (arith, lt, e, f)

-- none of these deeds is a post
abbrev pub NonePosted : List Deed → Type 0
NonePosted ds = AllByRecursion (λ (d : Deed). is_posted d ≡ false) ds

own_line : (n : ℕ) (k : NodeId) (d : Deed) → is_posted d ≡ false → concerns n (line_of k d) ≡ nat_eq k.0 n
own_line n k (Ticked s) is = refl
own_line n k (Handled s) is = refl
own_line n k (Took s u i x) is = refl
own_line n k (Heard s u bytes) is = refl
own_line n k (Posted s c) is = absurd (cc (is))

-- The test passes the lines of this node, as the deeds are that aren't posts.
abbrev IsTestOf : (Entry → Bool) → ℕ → Type 0
IsTestOf f n = (k : NodeId) (d : Deed) → is_posted d ≡ false → f (line_of k d) ≡ nat_eq k.0 n

module _ (f : Entry → Bool) (n : ℕ) (test : IsTestOf f n) where
  own : (k : NodeId) (ds : List Deed) → NonePosted ds → nat_eq k.0 n ≡ true →
      filter f (map (line_of k) ds) ≡ map (line_of k) ds
  own k [] none e = refl
  own k (d ∷ ds) none e =
      ap (λ b. cond b (line_of k d ∷ filter f (map (line_of k) ds)) (filter f (map (line_of k) ds)))
      (test k d none.0 ∙ e)
      ∙ ap (λ m. line_of k d ∷ m) (own k ds none.1 e)

  others : (k : NodeId) (ds : List Deed) → NonePosted ds → nat_eq k.0 n ≡ false →
      filter f (map (line_of k) ds) ≡ []
  others k [] none e = refl
  others k (d ∷ ds) none e =
      ap (λ b. cond b (line_of k d ∷ filter f (map (line_of k) ds)) (filter f (map (line_of k) ds)))
      (test k d none.0 ∙ e)
      ∙ others k ds none.1 e

-- The lines of all nodes

-- the lines of each node
abbrev pub lists : (ℕ → List Deed) → List NodeSpec → List (List Entry)
lists deeds [] = []
lists deeds (m ∷ ms) = map (line_of m.id) (deeds m.id.0) ∷ lists deeds ms

-- each list is sorted
pub all_sorted : (deeds : ℕ → List Deed) (ms : List NodeSpec) → ((n : ℕ) → (s : ℕ) × RisesAbove s (deeds n)) →
    AllByRecursion IsSorted (lists deeds ms)
all_sorted deeds [] up = tt
all_sorted deeds (m ∷ ms) up =
    (sorted_lines m.id (up m.id.0).0 (deeds m.id.0) (up m.id.0).1, all_sorted deeds ms up)

module _ (f : Entry → Bool) (n : ℕ) (test : IsTestOf f n) (deeds : ℕ → List Deed)
    (none : (n : ℕ) → NonePosted (deeds n)) where
  -- no other node has this number, where all others are above it
  none_there : (k : ℕ) (ms : List NodeSpec) → NodesRiseAbove k ms → n ≤ k → HasNoLine f (lists deeds ms)
  none_there k [] up le = tt
  none_there k (m ∷ ms) up le =
      let other : nat_eq m.id.0 n ≡ false = grind (arith, up.0, le) in (
        others f n test m.id (deeds m.id.0) (none m.id.0) other,
        none_there m.id.0 ms up.1 (omega (arith, up.0, le)),
      )

  -- the lines of a number are in one list
  pub in_one : (k : ℕ) (ms : List NodeSpec) → NodesRiseAbove k ms → IsInOne f (lists deeds ms)
  in_one k [] up = tt
  in_one k (m ∷ ms) up = go (nat_eq m.id.0 n) refl (in_one m.id.0 ms up.1)
    where
      go : (b : Bool) → nat_eq m.id.0 n ≡ b → IsInOne f (lists deeds ms) → IsInOne f (lists deeds (m ∷ ms))
      go true e rest =
          let same : m.id.0 ≡ n = grind (arith, e) in
          inr (none_there m.id.0 ms up.1 (omega (arith, same)))
      go false e rest = inl (others f n test m.id (deeds m.id.0) (none m.id.0) e, rest)

  -- and all of them are in the lists
  pub all_of : (k : ℕ) (ms : List NodeSpec) → NodesRiseAbove k ms → (is_node_id ms (at n) ≡ false → deeds n ≡ []) →
      flat_map (filter f) (lists deeds ms) ≡ map (line_of (at n)) (deeds n)
  all_of k [] up empty = ap (map (line_of (at n))) (sym (empty refl))
  all_of k (m ∷ ms) up empty = go (nat_eq m.id.0 n) refl empty (all_of m.id.0 ms up.1)
    where
      go : (b : Bool) → nat_eq m.id.0 n ≡ b → ((b || is_node_id ms (at n)) ≡ false → deeds n ≡ []) →
          ((is_node_id ms (at n) ≡ false → deeds n ≡ []) →
          flat_map (filter f) (lists deeds ms) ≡ map (line_of (at n)) (deeds n)) →
          filter f (map (line_of m.id) (deeds m.id.0)) ++ flat_map (filter f) (lists deeds ms)
          ≡ map (line_of (at n)) (deeds n)
      go true e empty rest =
          let same : m.id.0 ≡ n = grind (arith, e) in
          let node : m.id ≡ at n = (λ i. record { 0 = same i }) in
          ap (λ xs. xs ++ flat_map (filter f) (lists deeds ms)) (own f n test m.id (deeds m.id.0) (none m.id.0) e)
          ∙ ap (λ xs. map (line_of m.id) (deeds m.id.0) ++ xs)
          (none-of f (lists deeds ms) (none_there m.id.0 ms up.1 (omega (arith, same))))
          ∙ append-nil (map (line_of m.id) (deeds m.id.0))
          ∙ (λ i. map (line_of (node i)) (deeds (same i)))
      go false e empty rest =
          ap (λ xs. xs ++ flat_map (filter f) (lists deeds ms))
          (others f n test m.id (deeds m.id.0) (none m.id.0) e)
          ∙ rest empty

-- they can be merged
pub record AreDeedsMerged (deeds : ℕ → List Deed) (m : List Entry) : Type 0 where
  pub ascends : Ascends 0 m
  pub parts : (n : ℕ) → part n m ≡ map (line_of (at n)) (deeds n)

-- So the lists, merged, have of each node just its lines.
pub merges : (t : Network) → IsTopology t → (deeds : ℕ → List Deed) → ((n : ℕ) → NonePosted (deeds n)) →
    ((n : ℕ) → (s : ℕ) × RisesAbove s (deeds n)) → ((n : ℕ) → is_node_id t.nodes (at n) ≡ false → deeds n ≡ []) →
    AreDeedsMerged deeds (merged_of (lists deeds t.nodes))
merges t is deeds none up empty =
    let p : IsPicked (lists deeds t.nodes) = picking-sorts (lists deeds t.nodes) (all_sorted deeds t.nodes up) in
    record {
      ascends = ascends 0 (merged_of (lists deeds t.nodes)) (from_zero (merged_of (lists deeds t.nodes))) p.sorted;
      parts = λ n. p.each (concerns n) (in_one (concerns n) n (own_line n) deeds none 0 t.nodes (rises t is))
          ∙ all_of (concerns n) n (own_line n) deeds none 0 t.nodes (rises t is) (empty n);
    }
