-- The entries of a merge are events of their nodes, and rise.
use Rattle.std.proofs.{Common.{◌≡◌, ◌<◌, ◌≤◌, ◌==◌, ℕ, Bool, true, false, cond, nat_lt, not, List, [], ◌∷◌, inl, inr, filter, Option, Some, None, refl, ap, sym, ◌∙◌, subst, arith}, lemmas.Bool.Decides.nat_tests}
use Rattle.std.specs.List.{AllByRecursion}
use Rattle.ason_base.specs.{declared.commands.Entry.Entry, declared.commands.Event.Event, declared.commands.Event.TheVariants.{Deliver, Noise, Tick, Desk, Post}, declared.ids.NodeId.NodeId, Network.Network}
use Rattle.world_merge.specs.{Deeds.{Deed, Posted}, Histories.at, Logs.{is_posted, log_of, posts_of}, Orders.{IsBefore, IsMerge, IsSorted, is_of, is_post}}
use Rattle.world_merge.specs.Orders as orders
use Rattle.round_rules.specs.{Records.{Record, deeds_at, log_at, posts_in}, PossibleRecords.IsRecord}
use Rattle.script_rules.proofs.Merges.{IsStrict, strict_lines}
use Rattle.ason_base.proofs.Numbers.{equal-self}
use Rattle.trace_text.specs.{LinesRead.{node_before, place_before, place_of, rises}, declared.reading.Place.Place}

-- A test that is left out

-- what holds of the lines that pass a test, without the first line
all_behind : (Holds : Entry → Type 0) (b : Bool) (e : Entry) (m : List Entry) →
    AllByRecursion Holds (cond b (e ∷ m) m) → AllByRecursion Holds m
all_behind Holds true e m all = all.1
all_behind Holds false e m all = all

-- Whose events they are

-- the event is one of the node; that of no node is a post
abbrev pub IsEventOf : Option NodeId → Event → Type 0
IsEventOf (Some n) (Deliver to from number) = to ≡ n
IsEventOf (Some n) (Noise to from bytes) = to ≡ n
IsEventOf (Some n) (Tick m) = m ≡ n
IsEventOf (Some n) (Desk m) = m ≡ n
IsEventOf (Some n) (Post c) = ⊥
IsEventOf None (Deliver to from number) = ⊥
IsEventOf None (Noise to from bytes) = ⊥
IsEventOf None (Tick m) = ⊥
IsEventOf None (Desk m) = ⊥
IsEventOf None (Post c) = Unit {0}

abbrev pub IsOwnEvent : Entry → Type 0
IsOwnEvent e = IsEventOf e.node e.event

own_log : (n : NodeId) (ds : List Deed) → AllByRecursion IsOwnEvent (log_of n ds)
own_log n [] = tt
own_log n (Posted s c ∷ ds) = own_log n ds
own_log n (d ∷ ds) = (refl, own_log n ds)

own_posts : (n : NodeId) (ds : List Deed) → AllByRecursion IsOwnEvent (posts_of n ds)
own_posts n [] = tt
own_posts n (Posted s c ∷ ds) = (tt, own_posts n ds)
own_posts n (d ∷ ds) = own_posts n ds

all_own : (m : List Entry) → ((n : ℕ) → AllByRecursion IsOwnEvent (filter (is_of n) m)) →
    AllByRecursion IsOwnEvent (filter is_post m) → AllByRecursion IsOwnEvent m
all_own [] logs posts = tt
all_own (e ∷ m) logs posts = (
  here e.node refl,
  all_own m (λ n. all_behind IsOwnEvent (is_of n e) e (filter (is_of n) m) (logs n))
      (all_behind IsOwnEvent (is_post e) e (filter is_post m) posts),
)
  where
    first : (b : Bool) (l : List Entry) → b ≡ true → AllByRecursion IsOwnEvent (cond b (e ∷ l) l) → IsOwnEvent e
    first true l is all = all.0
    first false l is all = absurd (cc (is))

    here : (o : Option NodeId) → e.node ≡ o → IsOwnEvent e
    here None is = first (is_post e) (filter is_post m) (ap orders.is_no_node is) posts
    here (Some n) is =
        first (is_of n.0 e) (filter (is_of n.0) m) (ap (orders.is_at_node n.0) is ∙ equal-self n.0) (logs n.0)

-- Each of a merge is one of its node, or a post.
pub merge_own : (r : Record) (m : List Entry) → IsMerge (log_at r) (posts_in r) m → AllByRecursion IsOwnEvent m
merge_own r m is =
    all_own m (λ n. subst (AllByRecursion IsOwnEvent) (sym (is.each_log n)) (own_log (at n) (deeds_at r n)))
    (subst (AllByRecursion IsOwnEvent) (sym is.all_posts) (own_posts (at 0) (deeds_at r 0)))

-- Rising

strict_behind : (b : Bool) (e : Entry) (m : List Entry) → IsStrict (cond b (e ∷ m) m) → IsStrict m
strict_behind true e m is = is.1
strict_behind false e m is = is

-- two lines that both pass the test
strict_two : (a b : Bool) (e f : Entry) (m : List Entry) → a ≡ true → b ≡ true →
    IsStrict (cond a (e ∷ cond b (f ∷ m) m) (cond b (f ∷ m) m)) → e.stamp < f.stamp
strict_two true true e f m x y is = is.0.0
strict_two true false e f m x y is = absurd (cc (y))
strict_two false b e f m x y is = absurd (cc (x))

-- a line comes before the next
module _ (e f : Entry) (m : List Entry) (logs : (n : ℕ) → IsStrict (filter (is_of n) (e ∷ f ∷ m)))
    (posts : IsStrict (filter is_post (e ∷ f ∷ m))) where
  nodes_rise : e.stamp ≡ f.stamp → (a b : Option NodeId) → e.node ≡ a → f.node ≡ b →
      orders.order_place a ≤ orders.order_place b → node_before a b ≡ true
  nodes_rise same None None x y below =
      let less = strict_two (is_post e) (is_post f) e f (filter is_post m) (ap orders.is_no_node x)
      (ap orders.is_no_node y)
      posts in
      absurd (omega (arith, less, same))
  nodes_rise same None (Some n) x y below = refl
  nodes_rise same (Some k) None x y below = absurd (omega (arith, below))
  nodes_rise same (Some k) (Some n) x y below = by_test (nat_lt k.0 n.0) refl
    where
      by_test : (b : Bool) → nat_lt k.0 n.0 ≡ b → nat_lt k.0 n.0 ≡ true
      by_test true is = is
      by_test false is =
          let equal : (n.0 == k.0) ≡ true = grind (arith, nat_tests, is, below) in
          let less = strict_two (is_of k.0 e) (is_of k.0 f) e f (filter (is_of k.0) m)
          (ap (orders.is_at_node k.0) x ∙ equal-self k.0) (ap (orders.is_at_node k.0) y ∙ equal) (logs k.0) in
          absurd (omega (arith, less, same))

  places_rise : IsBefore e f → place_before (place_of e) (place_of f) ≡ true
  places_rise (inl less) = let is : nat_lt e.stamp f.stamp ≡ true = grind (arith, less) in rw is refl
  places_rise (inr (same, below)) =
      let is : (e.stamp == f.stamp) ≡ true = grind (arith, same) in
      let not_less : nat_lt e.stamp f.stamp ≡ false = grind (arith, same) in
      rw (not_less, is) (nodes_rise same e.node f.node refl refl below)

-- each rises above the one before, the first above this place
abbrev pub AreEntriesRising : Option Place → List Entry → Type 0
AreEntriesRising last [] = Unit {0}
AreEntriesRising last (e ∷ m) = (rises last (place_of e) ≡ true) × AreEntriesRising (Some (place_of e)) m

rise_from : (e : Entry) (m : List Entry) → IsSorted (e ∷ m) → ((n : ℕ) → IsStrict (filter (is_of n) (e ∷ m))) →
    IsStrict (filter is_post (e ∷ m)) → AreEntriesRising (Some (place_of e)) m
rise_from e [] sorted logs posts = tt
rise_from e (f ∷ m) sorted logs posts = (
  places_rise e f m logs posts sorted.0.0,
  rise_from f m sorted.1 (λ n. strict_behind (is_of n e) e (filter (is_of n) (f ∷ m)) (logs n))
      (strict_behind (is_post e) e (filter is_post (f ∷ m)) posts),
)

all_rise : (m : List Entry) → IsSorted m → ((n : ℕ) → IsStrict (filter (is_of n) m)) →
    IsStrict (filter is_post m) → AreEntriesRising None m
all_rise [] sorted logs posts = tt
all_rise (e ∷ m) sorted logs posts = (refl, rise_from e m sorted logs posts)

-- The entries of a record's merge rise.
pub merge_rises : {t : Network} (r : Record) (m : List Entry) → IsRecord t r → IsMerge (log_at r) (posts_in r) m →
    AreEntriesRising None m
merge_rises r m possible is =
    all_rise m is.sorted
    (λ n. subst IsStrict (sym (is.each_log n))
    (strict_lines (λ d. not (is_posted d)) (at n) 0 (deeds_at r n) (possible.rises n)))
    (subst IsStrict (sym is.all_posts) (strict_lines is_posted (at 0) 0 (deeds_at r 0) (possible.rises 0)))
