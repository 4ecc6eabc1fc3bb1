-- Logs and posts that are sorted by stamp, then node, have of each node what happened there, in its order.
use Rattle.std.proofs.{Common.{◌≡◌, ◌<◌, ◌≤◌, ℕ, Bool, true, false, cond, nat_eq, List, [], ◌∷◌, filter, map, refl, sym, ap, ◌∙◌, subst, arith, ⊎_elim}, Math.Bool.not-not}
use Rattle.std.specs.{Prelude.{not, Option, Some, None}, List.AllByRecursion}
use Rattle.ason_base.specs.{declared.ids.NodeId.NodeId, declared.commands.Entry.Entry}
use Rattle.world_merge.specs.{Deeds.{Deed, stamp_of}, Histories.at, Logs.{RisesAbove, is_posted, line_of, log_of, posts_of}, Merges.{Ascends, is_line_at, part}, Orders.{IsBefore, IsSorted, SortingMerges, is_at_node, is_no_node, is_of, is_post, order_place}}
use Rattle.world_merge.proofs.Splitting.{line-stamp}

-- Stamps

not_before : (e f : Entry) → IsBefore e f → f.stamp < e.stamp → ⊥
not_before e f b lt =
    ⊎_elim (λ (h : e.stamp < f.stamp). absurd (omega (arith, h, lt)))
    (λ (h : (e.stamp ≡ f.stamp) × (order_place e.node ≤ order_place f.node)). absurd (omega (arith, h.0, lt))) b

at_least : (e f : Entry) → IsBefore e f → e.stamp ≤ f.stamp
at_least e f b =
    ⊎_elim (λ (h : e.stamp < f.stamp). omega (arith, h))
    (λ (h : (e.stamp ≡ f.stamp) × (order_place e.node ≤ order_place f.node)). omega (arith, h.0)) b

-- stamps of a sorted list never fall
pub ascends : (s : ℕ) (m : List Entry) → AllByRecursion (λ (f : Entry). s ≤ f.stamp) m → IsSorted m → Ascends s m
ascends s [] all sorted = tt
ascends s (e ∷ m) all sorted = (all.0, ascends e.stamp m (go m sorted.0) sorted.1)
  where
    go : (m : List Entry) → AllByRecursion (IsBefore e) m → AllByRecursion (λ (f : Entry). e.stamp ≤ f.stamp) m
    go [] all = tt
    go (f ∷ m) all = (at_least e f all.0, go m all.1)

-- nor is one below 0
pub from_zero : (m : List Entry) → AllByRecursion (λ (f : Entry). 0 ≤ f.stamp) m
from_zero [] = tt
from_zero (e ∷ m) = (omega arith, from_zero m)

-- Heads of filters

-- the head of what a filter leaves stands in the list
head_of : (P : Entry → Type 0) (f : Entry → Bool) (m : List Entry) (x : Entry) (xs : List Entry) →
    AllByRecursion P m → filter f m ≡ x ∷ xs → P x
head_of P f [] x xs all e = absurd (cc (e))
head_of P f (y ∷ m) x xs all e = go (f y) e (head_of P f m x xs all.1)
  where
    go : (b : Bool) → cond b (y ∷ filter f m) (filter f m) ≡ x ∷ xs → (filter f m ≡ x ∷ xs → P x) → P x
    go true e rest = let same : y ≡ x = cc (e) in subst P same all.0
    go false e rest = rest e

-- of deeds that rise, the first line that a filter leaves has a stamp above
kept_head : (p : Deed → Bool) (s : ℕ) (n : NodeId) (ds : List Deed) (e : Entry) (es : List Entry) → RisesAbove s ds →
    e ∷ es ≡ map (line_of n) (filter p ds) → s < e.stamp
kept_head p s n [] e es up is = absurd (cc (is))
kept_head p s n (d ∷ ds) e es up is = go (p d) is (kept_head p (stamp_of d) n ds e es up.1)
  where
    go : (b : Bool) → e ∷ es ≡ map (line_of n) (cond b (d ∷ filter p ds) (filter p ds)) →
        (e ∷ es ≡ map (line_of n) (filter p ds) → stamp_of d < e.stamp) → s < e.stamp
    go true is rest =
        let same : e ≡ line_of n d = cc (is) in
        omega (arith, up.0, ap (λ (x : Entry). x.stamp) same ∙ line-stamp n d)
    go false is rest = omega (arith, up.0, rest is)

-- The first line of a node's part

-- the rest of the list has these deeds, where its logs and posts are theirs
abbrev HasRest : (Entry → Bool) → (Entry → Bool) → (Deed → Bool) → (Deed → Bool) → NodeId → List Entry → Type 0
HasRest f g p q n m =
    (r : ℕ) (ds : List Deed) → RisesAbove r ds → filter f m ≡ map (line_of n) (filter p ds) →
    filter g m ≡ map (line_of n) (filter q ds) → part n.0 m ≡ map (line_of n) ds

-- Of two kinds of deeds a line of the one comes first in the list. Then it is that of the first deed: were that one of the
-- other kind, its line would come before.
first_line : (f g : Entry → Bool) (p q : Deed → Bool) → ((d : Deed) → not (p d) ≡ q d) → (n : NodeId) (e : Entry)
    (m : List Entry) (s : ℕ) (ds : List Deed) → AllByRecursion (IsBefore e) m → RisesAbove s ds →
    e ∷ filter f m ≡ map (line_of n) (filter p ds) → filter g m ≡ map (line_of n) (filter q ds) →
    HasRest f g p q n m → e ∷ part n.0 m ≡ map (line_of n) ds
first_line f g p q opposite n e m s [] before up one other rest = absurd (cc (one))
first_line f g p q opposite n e m s (d ∷ ds) before up one other rest = go (p d) (q d) (opposite d) one other
  where
    go : (a b : Bool) → not a ≡ b → e ∷ filter f m ≡ map (line_of n) (cond a (d ∷ filter p ds) (filter p ds)) →
        filter g m ≡ map (line_of n) (cond b (d ∷ filter q ds) (filter q ds)) →
        e ∷ part n.0 m ≡ line_of n d ∷ map (line_of n) ds
    go true true is one other = absurd (cc (is))
    go false false is one other = absurd (cc (is))
    go true false is one other =
        let same : e ≡ line_of n d = cc (one) in
        let more : filter f m ≡ map (line_of n) (filter p ds) = cc (one) in
        ap (λ x. x ∷ part n.0 m) same ∙ ap (λ xs. line_of n d ∷ xs) (rest (stamp_of d) ds up.1 more other)
    go false true is one other =
        let above : stamp_of d < e.stamp = kept_head p (stamp_of d) n ds e (filter f m) up.1 one in
        absurd (not_before e (line_of n d)
        (head_of (IsBefore e) g m (line_of n d) (map (line_of n) (filter q ds)) before other)
        (subst (λ k. k < e.stamp) (sym (line-stamp n d)) above))

none_left : (n : NodeId) (ds : List Deed) → [] ≡ log_of n ds → [] ≡ posts_of n ds → [] ≡ map (line_of n) ds
none_left n [] logs posts = refl
none_left n (d ∷ ds) logs posts = go (is_posted d) logs posts
  where
    go : (b : Bool) → [] ≡ map (line_of n) (cond (not b) (d ∷ filter (λ x. not (is_posted x)) ds)
        (filter (λ x. not (is_posted x)) ds)) →
        [] ≡ map (line_of n) (cond b (d ∷ filter is_posted ds) (filter is_posted ds)) →
        [] ≡ line_of n d ∷ map (line_of n) ds
    go true logs posts = absurd (cc (posts))
    go false logs posts = absurd (cc (logs))

parts : (n : NodeId) (m : List Entry) (s : ℕ) (ds : List Deed) → IsSorted m → RisesAbove s ds →
    filter (is_of n.0) m ≡ log_of n ds → filter is_post m ≡ posts_of n ds → part n.0 m ≡ map (line_of n) ds
parts n [] s ds sorted up logs posts = none_left n ds logs posts
parts n (e ∷ m) s ds sorted up logs posts = go e.node logs posts (λ r rest. parts n m r rest sorted.1)
  where
    go : (o : Option NodeId) → cond (is_at_node n.0 o) (e ∷ filter (is_of n.0) m) (filter (is_of n.0) m) ≡ log_of n ds →
        cond (is_no_node o) (e ∷ filter is_post m) (filter is_post m) ≡ posts_of n ds →
        HasRest (is_of n.0) is_post (λ d. not (is_posted d)) is_posted n m →
        cond (is_line_at n.0 o) (e ∷ part n.0 m) (part n.0 m) ≡ map (line_of n) ds
    go None logs posts later =
        first_line is_post (is_of n.0) is_posted (λ d. not (is_posted d)) (λ d. refl) n e m s ds sorted.0 up posts logs
        (λ r rest above ps ls. later r rest above ls ps)
    go (Some k) logs posts later = here (nat_eq k.0 n.0) logs
      where
        here : (b : Bool) → cond b (e ∷ filter (is_of n.0) m) (filter (is_of n.0) m) ≡ log_of n ds →
            cond b (e ∷ part n.0 m) (part n.0 m) ≡ map (line_of n) ds
        here true logs =
            first_line (is_of n.0) is_post (λ d. not (is_posted d)) is_posted (λ d. not-not (is_posted d)) n e m s ds
            sorted.0 up logs posts later
        here false logs = later s ds up logs posts

pub sorting-merges : SortingMerges
sorting-merges hists logs posts m are is = record {
  ascends = ascends 0 m (from_zero m) is.sorted;
  parts = λ n.
      parts (at n) m 0 (hists n) is.sorted (are.rises n) (is.each_log n ∙ sym (are.each_log n))
      (is.all_posts ∙ sym (are.all_posts n));
}
