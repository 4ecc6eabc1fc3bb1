-- Which of two lists of links stands first, and which of two pairs is the better one.
use Rattle.std.proofs.Common.{◌≡◌, ◌≤◌, ◌<◌, Bool, true, false, cond, not, nat_eq, List, [], ◌∷◌, Option, Some, None, refl, sym, ap, ◌∙◌, subst, arith, inl, inr}
use Rattle.std.specs.Prelude.{◌⊎◌, ◌&&◌, ◌||◌, nat_lt}
use Rattle.ason_base.specs.{Walks.{IsAtMost, links_of}, declared.ids.LinkId.LinkId, declared.steps.Step.Step}
use Rattle.ason_base.proofs.{Bools.{and-left, and-right}, RiskUnion.same_link}
use Rattle.mesh_nodes.proofs.routes.Nodes.{same_number}
use Rattle.pair_search.specs.{Pairs.{IsAsGood, Weighed}, Searches.{IsNoWorse, IsPairReached, as_good, at_most, weighed}, declared.pairs.RoutePair.RoutePair}

-- Lists of links

-- a list of links is at most itself
pub most-same : (a : List LinkId) → IsAtMost a a
most-same [] = tt
most-same (x ∷ a) = inr (refl, most-same a)

most-trans : (a b c : List LinkId) → IsAtMost a b → IsAtMost b c → IsAtMost a c
most-trans [] b c p q = tt
most-trans (x ∷ a) [] c p q = absurd p
most-trans (x ∷ a) (y ∷ b) [] p q = absurd q
most-trans (x ∷ a) (y ∷ b) (z ∷ c) (inl l) (inl m) = inl (omega (arith, l, m))
most-trans (x ∷ a) (y ∷ b) (z ∷ c) (inl l) (inr m) = inl (subst (λ (k : LinkId). x.0 < k.0) m.0 l)
most-trans (x ∷ a) (y ∷ b) (z ∷ c) (inr l) (inl m) = inl (subst (λ (k : LinkId). k.0 < z.0) (sym l.0) m)
most-trans (x ∷ a) (y ∷ b) (z ∷ c) (inr l) (inr m) = inr (l.0 ∙ m.0, most-trans a b c l.1 m.1)

-- lists that are each at most the other are one
pub most-once : (a b : List LinkId) → IsAtMost a b → IsAtMost b a → a ≡ b
most-once [] [] p q = refl
most-once [] (y ∷ b) p q = absurd q
most-once (x ∷ a) [] p q = absurd p
most-once (x ∷ a) (y ∷ b) (inl l) (inl m) = absurd (omega (arith, l, m))
most-once (x ∷ a) (y ∷ b) (inl l) (inr m) =
    absurd (let same : y.0 ≡ x.0 = ap (λ (k : LinkId). k.0) m.0 in omega (arith, l, same))
most-once (x ∷ a) (y ∷ b) (inr l) (inl m) =
    absurd (let same : x.0 ≡ y.0 = ap (λ (k : LinkId). k.0) l.0 in omega (arith, m, same))
most-once (x ∷ a) (y ∷ b) (inr l) (inr m) =
    let rest = most-once a b l.1 m.1 in let head = l.0 in λ i. head i ∷ rest i

at_most-is : (a b : List Step) → at_most a b ≡ true → IsAtMost (links_of a) (links_of b)
at_most-is [] b e = tt
at_most-is (x ∷ xs) [] e = absurd (cc e)
at_most-is (x ∷ xs) (y ∷ ys) e =
    go (nat_lt x.link.0 y.link.0) refl (nat_eq x.link.0 y.link.0) refl e (at_most-is xs ys)
  where
    go : (a : Bool) → nat_lt x.link.0 y.link.0 ≡ a → (b : Bool) → nat_eq x.link.0 y.link.0 ≡ b →
        (a || (b && at_most xs ys)) ≡ true → (at_most xs ys ≡ true → IsAtMost (links_of xs) (links_of ys)) →
        (x.link.0 < y.link.0) ⊎ ((x.link ≡ y.link) × IsAtMost (links_of xs) (links_of ys))
    go true p b q e later = inl (grind arith)
    go false p true q e later = inr (same_link x.link y.link q, later e)
    go false p false q e later = absurd (cc e)

most-not : (a b : List Step) → at_most a b ≡ false → IsAtMost (links_of b) (links_of a)
most-not [] b e = absurd (cc e)
most-not (x ∷ xs) [] e = tt
most-not (x ∷ xs) (y ∷ ys) e =
    go (nat_lt x.link.0 y.link.0) refl (nat_eq x.link.0 y.link.0) refl e (most-not xs ys)
  where
    go : (a : Bool) → nat_lt x.link.0 y.link.0 ≡ a → (b : Bool) → nat_eq x.link.0 y.link.0 ≡ b →
        (a || (b && at_most xs ys)) ≡ false → (at_most xs ys ≡ false → IsAtMost (links_of ys) (links_of xs)) →
        (y.link.0 < x.link.0) ⊎ ((y.link ≡ x.link) × IsAtMost (links_of ys) (links_of xs))
    go true p b q e later = absurd (cc e)
    go false p true q e later = inr (sym (same_link x.link y.link q), later e)
    go false p false q e later = inl (grind arith)

at_most-same : (a b : List Step) → links_of a ≡ links_of b → at_most a b ≡ true
at_most-same [] b e = refl
at_most-same (x ∷ xs) [] e = absurd (cc e)
at_most-same (x ∷ xs) (y ∷ ys) e =
    let head : x.link ≡ y.link = cc e in
    let tail : links_of xs ≡ links_of ys = cc e in
    let same : nat_eq x.link.0 y.link.0 ≡ true = same_number x.link y.link head in
    let rest : at_most xs ys ≡ true = at_most-same xs ys tail in
    go (nat_lt x.link.0 y.link.0) (nat_eq x.link.0 y.link.0) same rest
  where
    go : (a b : Bool) → b ≡ true → at_most xs ys ≡ true → (a || (b && at_most xs ys)) ≡ true
    go true b p q = refl
    go false true p q = q
    go false false p q = absurd (cc p)

-- Pairs

-- a pair is as good as itself
pub good-same : (a : Weighed) → IsAsGood a a
good-same a = record {
  total = omega arith;
  primary = λ e. most-same (links_of a.primary);
  backup = λ e l. most-same (links_of a.backup);
}

-- a pair of a lesser total is the better one
pub good-less : (a b : Weighed) → a.total < b.total → IsAsGood a b
good-less a b less = record {
  total = omega (arith, less);
  primary = λ e. absurd (let same : a.total ≡ b.total = e in omega (arith, less, same));
  backup = λ e l. absurd (let same : a.total ≡ b.total = e in omega (arith, less, same));
}

good-trans : (a b c : Weighed) → IsAsGood a b → IsAsGood b c → IsAsGood a c
good-trans a b c first second = record {
  total = total;
  primary = λ e. most-trans (links_of a.primary) (links_of b.primary) (links_of c.primary)
      (first.primary (one e)) (second.primary (two e));
  backup = λ e l.
      (let p = first.primary (one e) in
      let q = subst (λ k. IsAtMost (links_of b.primary) k) (sym l) (second.primary (two e)) in
      let same = most-once (links_of a.primary) (links_of b.primary) p q in
      most-trans (links_of a.backup) (links_of b.backup) (links_of c.backup) (first.backup (one e) same)
      (second.backup (two e) (sym same ∙ l)));
}
  where
    total : a.total ≤ c.total
    total = (let p = first.total in let q = second.total in omega (arith, p, q))

    one : a.total ≡ c.total → a.total ≡ b.total
    one e = (let p = first.total in let q = second.total in omega (arith, p, q, e))

    two : a.total ≡ c.total → b.total ≡ c.total
    two e = (let p = first.total in let q = second.total in omega (arith, p, q, e))

abbrev rest_good : Weighed → Weighed → Bool
rest_good a b = at_most a.primary b.primary && (not (at_most b.primary a.primary) || at_most a.backup b.backup)

-- where the code calls the first pair as good, it is
pub good-is : (a b : Weighed) → as_good a b ≡ true → IsAsGood a b
good-is a b e = go (nat_eq a.total b.total) refl e
  where
    go : (z : Bool) → nat_eq a.total b.total ≡ z → cond z (rest_good a b) (nat_lt a.total b.total) ≡ true → IsAsGood a b
    go false p e = good-less a b (grind arith)
    go true p e = record {
      total = (let same : a.total ≡ b.total = grind arith in omega (arith, same));
      primary = λ t. at_most-is a.primary b.primary (and-left (at_most a.primary b.primary) _ e);
      backup = λ t l. at_most-is a.backup b.backup
          (second (at_most b.primary a.primary) (at_most-same b.primary a.primary (sym l))
          (and-right (at_most a.primary b.primary) _ e));
    }
      where
        second : (z : Bool) → z ≡ true → (not z || at_most a.backup b.backup) ≡ true →
            at_most a.backup b.backup ≡ true
        second true q f = f
        second false q f = absurd (cc q)

-- where it does not, the second one is as good
pub good-not : (a b : Weighed) → as_good a b ≡ false → IsAsGood b a
good-not a b e = go (nat_eq a.total b.total) refl e
  where
    tie : a.total ≡ b.total → (x y z : Bool) → at_most a.primary b.primary ≡ x → at_most b.primary a.primary ≡ y →
        at_most a.backup b.backup ≡ z → (x && (not y || z)) ≡ false → IsAsGood b a
    tie same false y z p q r e = record {
      total = omega (arith, same);
      primary = λ t. most-not a.primary b.primary p;
      backup = λ t l. absurd (let yes = at_most-same a.primary b.primary (sym l) in cc (yes, p));
    }
    tie same true false z p q r e = absurd (cc e)
    tie same true true true p q r e = absurd (cc e)
    tie same true true false p q r e = record {
      total = omega (arith, same);
      primary = λ t. at_most-is b.primary a.primary q;
      backup = λ t l. most-not a.backup b.backup r;
    }

    go : (z : Bool) → nat_eq a.total b.total ≡ z → cond z (rest_good a b) (nat_lt a.total b.total) ≡ false →
        IsAsGood b a
    go false p e = good-less b a (grind arith)
    go true p e = tie (grind arith) (at_most a.primary b.primary) (at_most b.primary a.primary)
        (at_most a.backup b.backup) refl refl refl e

-- The best pair so far

-- a pair that is as good as one is as good as each that is worse
pub reached-good : (best : Option RoutePair) (a b : Weighed) → IsPairReached best a → IsAsGood a b →
    IsPairReached best b
reached-good None a b there good = absurd there
reached-good (Some pair) a b there good = good-trans (weighed pair) a b there good

-- what was reached stays so
pub reached-later : (old new : Option RoutePair) (a : Weighed) → IsNoWorse old new → IsPairReached old a →
    IsPairReached new a
reached-later None new a later there = absurd there
reached-later (Some pair) new a later there = reached-good new (weighed pair) a later there

-- the best pair is no worse than itself
pub worse-same : (best : Option RoutePair) → IsNoWorse best best
worse-same None = tt
worse-same (Some pair) = good-same (weighed pair)

-- it never gets worse, step by step
pub worse-trans : (a b c : Option RoutePair) → IsNoWorse a b → IsNoWorse b c → IsNoWorse a c
worse-trans None b c p q = tt
worse-trans (Some pair) b c p q = reached-later b c (weighed pair) q p
