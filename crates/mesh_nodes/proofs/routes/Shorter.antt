-- For each walk there is one that visits no node twice, has no other steps, and costs less, or is the same one.
use Rattle.std.proofs.{Common.{◌≡◌, ◌≤◌, inl, inr, ℕ, suc, ◌+◌, Bool, true, false, not, nat_eq, List, [], ◌∷◌, ◌++◌, map, length, refl, sym, ap, ◌∙◌, subst, arith, Contains}, lemmas.Cmp.nat_eq_equiv, lemmas.List.Elements.All-contains, lemmas.Map.Made.length-le_from_is_member}
use Rattle.std.specs.{Prelude.{◌&&◌, ◌||◌}, List.{AllByRecursion, IsDistinct, list_any}}
use Rattle.mesh_rules.specs.declared.limits.TheConstants.{MOST_LINKS_OF_ROUTE}
use Rattle.ason_base.specs.{declared.limits.TheConstants.{MOST_METRIC, MOST_NODES}, Network.is_distinct, Routes.nodes_of, Walks.{HaveFewEnds, HaveMetrics, IsWalk, Joins, NoLink, NoNode}, declared.ids.NodeId.NodeId, declared.network.TeRow.TeRow, declared.steps.Step.Step}
use Rattle.ason_base.proofs.{Bridges.same_node, Ordered.{any-there, there-any}, Members.{contains-cases, contains-head, contains-tail, there-map, contains-none}}

abbrev pub visited : List Step → NodeId → List ℕ
visited steps b = nodes_of steps ++ b.0 ∷ []

-- A walk in place of another, from a node that the other visits: it visits no node twice and has no other steps.
pub record IsPart (rows : List TeRow) (a b : NodeId) (steps : List Step) (cost : ℕ) : Type 0 where
  pub part : List Step
  pub less : ℕ
  pub walk : IsWalk rows NoLink NoNode a b part less
  pub once : is_distinct (visited part b) ≡ true
  pub among : (s : Step) → Contains part s → Contains steps s
  pub short : length part ≤ length steps
  pub most : less ≤ cost

-- It costs less, or is the same.
pub record IsShorter (rows : List TeRow) (a b : NodeId) (steps : List Step) (cost : ℕ) : Type 0 where
  pub is : IsPart rows a b steps cost
  pub same : is.less ≡ cost → is.part ≡ steps

rest_distinct : (x : ℕ) (xs : List ℕ) → is_distinct (x ∷ xs) ≡ true → is_distinct xs ≡ true
rest_distinct x xs e = go (list_any (λ y. nat_eq y x) xs) e
  where
    go : (b : Bool) → (not b && is_distinct xs) ≡ true → is_distinct xs ≡ true
    go true f = absurd (cc f)
    go false f = f

-- from a node that a walk visits
from_visited : (rows : List TeRow) (a b : NodeId) (steps : List Step) (x : NodeId) (cost : ℕ) →
    IsWalk rows NoLink NoNode x b steps cost → is_distinct (visited steps b) ≡ true →
    list_any (λ y. nat_eq y a.0) (visited steps b) ≡ true → IsPart rows a b steps cost
from_visited rows a b [] x cost walk once at = go (nat_eq b.0 a.0) refl at
  where
    go : (c : Bool) → nat_eq b.0 a.0 ≡ c → (c || false) ≡ true → IsPart rows a b [] cost
    go true e f = record {
      part = [];
      less = 0;
      walk = (sym (same_node b a e), refl);
      once = refl;
      among = λ s h. h;
      short = omega arith;
      most = omega arith;
    }
    go false e f = absurd (cc f)
from_visited rows a b (s ∷ steps) x cost walk once at =
    go (nat_eq s.node.0 a.0) refl at
    (from_visited rows a b steps walk.1 walk.2 walk.4 (rest_distinct s.node.0 (visited steps b) once))
  where
    go : (c : Bool) → nat_eq s.node.0 a.0 ≡ c → (c || list_any (λ y. nat_eq y a.0) (visited steps b)) ≡ true →
        (list_any (λ y. nat_eq y a.0) (visited steps b) ≡ true → IsPart rows a b steps walk.2) →
        IsPart rows a b (s ∷ steps) cost
    go true e f later =
        let is : x ≡ a = sym walk.3.sender ∙ same_node s.node a e in
        record {
          part = s ∷ steps;
          less = cost;
          walk = subst (λ n. IsWalk rows NoLink NoNode n b (s ∷ steps) cost) is walk;
          once = once;
          among = λ q h. h;
          short = omega arith;
          most = omega arith;
        }
    go false e f later =
        let p = later f in
        let most : p.less ≤ walk.2 = p.most in
        let sum : cost ≡ walk.0.metric + walk.2 = walk.5 in
        record {
          part = p.part;
          less = p.less;
          walk = p.walk;
          once = p.once;
          among = λ q h. contains-tail s q steps (p.among q h);
          short = (let short : length p.part ≤ length steps = p.short in omega arith);
          most = omega arith;
        }

metric_of : (rows : List TeRow) → HaveMetrics rows → (row : TeRow) → Contains rows row → 1 ≤ row.metric
metric_of rows metrics row known = (All-contains
    (λ r. (1 ≤ r.metric) × (r.metric ≤ MOST_METRIC)) rows row metrics known).0

one_more : (x : ℕ) (xs : List ℕ) → list_any (λ y. nat_eq y x) xs ≡ false → is_distinct xs ≡ true →
    is_distinct (x ∷ xs) ≡ true
one_more x xs none once = rw (none, once) refl

pub shorten : (rows : List TeRow) → HaveMetrics rows → (b : NodeId) (steps : List Step) (a : NodeId) (cost : ℕ) →
    IsWalk rows NoLink NoNode a b steps cost → IsShorter rows a b steps cost
shorten rows metrics b [] a cost walk = record {
  is = record {
    part = [];
    less = cost;
    walk = walk;
    once = refl;
    among = λ s h. h;
    short = omega arith;
    most =
        omega arith;
  };
  same = λ e. refl;
}
shorten rows metrics b (s ∷ steps) a cost walk =
    go (shorten rows metrics b steps walk.1 walk.2 walk.4)
  where
    metric : 1 ≤ walk.0.metric
    metric = metric_of rows metrics walk.0 walk.3.known

    sum : cost ≡ walk.0.metric + walk.2
    sum = walk.5

    -- the node isn't visited again
    longer : (q : IsShorter rows walk.1 b steps walk.2) → list_any (λ y. nat_eq y a.0) (visited q.is.part b) ≡ false →
        IsShorter rows a b (s ∷ steps) cost
    longer q none = record {
      is = record {
        part = s ∷ q.is.part;
        less = walk.0.metric + q.is.less;
        walk = (walk.0, walk.1, q.is.less, walk.3, q.is.walk, refl);
        once = one_more s.node.0 (visited q.is.part b)
            (subst (λ (n : NodeId). list_any (λ y. nat_eq y n.0) (visited q.is.part b) ≡ false)
            (sym walk.3.sender) none) q.is.once;
        among = λ x h. elim (contains-cases s x q.is.part h) [
          | inl e ↦ subst (Contains (s ∷ steps)) e (contains-head s steps)
          | inr later ↦ contains-tail s x steps (q.is.among x later)
        ];
        short = (let short : length q.is.part ≤ length steps = q.is.short in omega arith);
        most = (let most : q.is.less ≤ walk.2 = q.is.most in let all : cost ≡ walk.0.metric + walk.2 =
            sum in omega arith);
      };
      same = λ e. (let all : cost ≡ walk.0.metric + walk.2 = sum in let left : q.is.less ≡ walk.2 =
          omega arith in ap (λ others. s ∷ others) (q.same left));
    }

    -- it is visited again: the way from there is shorter
    cut : (q : IsShorter rows walk.1 b steps walk.2) → IsPart rows a b q.is.part q.is.less →
        IsShorter rows a b (s ∷ steps) cost
    cut q p =
        let first : p.less ≤ q.is.less = p.most in
        let second : q.is.less ≤ walk.2 = q.is.most in
        let costs : 1 ≤ walk.0.metric = metric in
        let all : cost ≡ walk.0.metric + walk.2 = sum in
        record {
          is = record {
            part = p.part;
            less = p.less;
            walk = p.walk;
            once = p.once;
            among = λ x h. contains-tail s x steps (q.is.among x (p.among x h));
            short = (let one : length p.part ≤ length q.is.part =
                p.short in let two : length q.is.part ≤ length steps = q.is.short in omega arith);
            most = omega arith;
          };
          same = λ e. absurd (omega arith);
        }

    go : IsShorter rows walk.1 b steps walk.2 → IsShorter rows a b (s ∷ steps) cost
    go q = by_test (list_any (λ y. nat_eq y a.0) (visited q.is.part b)) refl
      where
        by_test : (c : Bool) → list_any (λ y. nat_eq y a.0) (visited q.is.part b) ≡ c →
            IsShorter rows a b (s ∷ steps) cost
        by_test true e = cut q (from_visited rows a b q.is.part walk.1 q.is.less q.is.walk q.is.once e)
        by_test false e = longer q e

-- A walk that visits no node twice has at most 63 links

both_ends : (rows : List TeRow) (ends : HaveFewEnds rows) (row : TeRow) → Contains rows row → (a b : NodeId) →
    Joins row a b →
    Contains ends.0 a × Contains ends.0 b
both_ends rows ends row known a b joins =
    let both = All-contains (λ r. Contains ends.0 r.low × Contains ends.0 r.high) rows row ends.2 known in
    elim joins [
      | inl up ↦ (subst (Contains ends.0) up.0 both.0, subst (Contains ends.0) up.1 both.1)
      | inr down ↦ (subst (Contains ends.0) down.0 both.1, subst (Contains ends.0) down.1 both.0)
    ]

abbrev pub numbers : List NodeId → List ℕ
numbers nodes = map (λ n. n.0) nodes

visits_ends : (rows : List TeRow) (ends : HaveFewEnds rows) (b : NodeId) (steps : List Step) (a : NodeId) (cost : ℕ) →
    IsWalk rows NoLink NoNode a b steps cost → Contains ends.0 a → (q : ℕ) → Contains (visited steps b) q →
    Contains (numbers ends.0) q
visits_ends rows ends b [] a cost walk known q h = elim (contains-cases b.0 q [] h) [
  | inl e ↦ subst (Contains (numbers ends.0)) e
      (there-map (λ n. n.0) ends.0 b (subst (Contains ends.0) walk.0 known))
  | inr none ↦ absurd (contains-none q none)
]
visits_ends rows ends b (s ∷ steps) a cost walk known q h = elim (contains-cases s.node.0 q (visited steps b) h) [
  | inl e ↦ subst (Contains (numbers ends.0)) e
      (there-map (λ n. n.0) ends.0 s.node (subst (Contains ends.0) (sym walk.3.sender) known))
  | inr later ↦
      visits_ends rows ends b steps walk.1 walk.2 walk.4
      (both_ends rows ends walk.0 walk.3.known a walk.1 walk.3.joins).1 q later
]

-- numbers that are each there once are apart
pub apart : (xs : List ℕ) → is_distinct xs ≡ true → IsDistinct nat_eq xs
unfolding IsDistinct
apart [] e = tt
apart (x ∷ xs) e = go (list_any (λ y. nat_eq y x) xs) refl e (apart xs)
  where
    none : (ys : List ℕ) → list_any (λ y. nat_eq y x) ys ≡ false → AllByRecursion (λ y. nat_eq x y ≡ false) ys
    none [] f = tt
    none (y ∷ ys) f = at (nat_eq y x) refl f (none ys)
      where
        at : (c : Bool) → nat_eq y x ≡ c → (c || list_any (λ z. nat_eq z x) ys) ≡ false →
            (list_any (λ z. nat_eq z x) ys ≡ false → AllByRecursion (λ z. nat_eq x z ≡ false) ys) →
            (nat_eq x y ≡ false) × AllByRecursion (λ z. nat_eq x z ≡ false) ys
        at true g k later = absurd (cc k)
        at false g k later = (grind arith, later k)

    go : (b : Bool) → list_any (λ y. nat_eq y x) xs ≡ b → (not b && is_distinct xs) ≡ true →
        (is_distinct xs ≡ true → IsDistinct nat_eq xs) → AllByRecursion (λ y. nat_eq x y ≡ false) xs ×
        IsDistinct nat_eq xs
    go true f g rest = absurd (cc g)
    go false f g rest = (none xs f, rest g)

pub length-numbers : (nodes : List NodeId) → length (numbers nodes) ≡ length nodes
length-numbers [] = refl
length-numbers (n ∷ nodes) = ap suc (length-numbers nodes)

length-visited : (steps : List Step) (b : NodeId) → length (visited steps b) ≡ suc (length steps)
length-visited [] b = refl
length-visited (s ∷ steps) b = ap suc (length-visited steps b)

pub few_links : (rows : List TeRow) → HaveFewEnds rows → (a b : NodeId) (steps : List Step) (cost : ℕ) →
    IsWalk rows NoLink NoNode a b steps cost → is_distinct (visited steps b) ≡ true → length steps ≤ MOST_LINKS_OF_ROUTE
few_links rows ends a b [] cost walk once = omega arith
few_links rows ends a b (s ∷ steps) cost walk once =
    let known : Contains ends.0 a = (both_ends rows ends walk.0 walk.3.known a walk.1 walk.3.joins).0 in
    let each : (q : ℕ) → list_any (nat_eq q) (visited (s ∷ steps) b) ≡ true →
    list_any (nat_eq q) (numbers ends.0) ≡ true =
    (λ q h.
    let x = any-there (nat_eq q) (visited (s ∷ steps) b) h in
    there-any (nat_eq q) (numbers ends.0) x.0 (visits_ends rows ends b (s ∷ steps) a cost walk known x.0 x.1) x.2)
    in
    let few : length (visited (s ∷ steps) b) ≤ length (numbers ends.0) =
    length-le_from_is_member nat_eq_equiv (visited (s ∷ steps) b) (numbers ends.0)
    (apart (visited (s ∷ steps) b) once) each
    in
    let more : length (visited (s ∷ steps) b) ≡ suc (length (s ∷ steps)) = length-visited (s ∷ steps) b in
    let as_many : length (numbers ends.0) ≡ length ends.0 = length-numbers ends.0 in
    let most : length ends.0 ≤ MOST_NODES = ends.1 in
    omega arith
