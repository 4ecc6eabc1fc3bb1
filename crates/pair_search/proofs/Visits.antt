-- Routes that visit no node twice.
use Rattle.std.proofs.{Common.{◌≡◌, ◌≢◌, ℕ, Bool, true, false, not, nat_eq, List, [], ◌∷◌, ◌++◌, refl, sym, ap, ◌∙◌, subst, arith, inl, inr, Contains}, lemmas.List.Elements.{Contains-append_cases, Contains-append_left, Contains-append_right}, lemmas.Bool.and_from}
use Rattle.std.specs.{Prelude.◌||◌, List.list_any}
use Rattle.ason_base.specs.{Network.is_distinct, Routes.nodes_of, declared.ids.LinkId.LinkId, declared.ids.NodeId.NodeId, declared.steps.Step.Step}
use Rattle.ason_base.proofs.{Ordered.there-any, Members.{contains-cases, contains-head, contains-tail, there-map, there-from_map, contains-none}, Bools.{and-left, and-right}, Bridges.same_node}
use Rattle.pair_search.specs.Pairs.{VisitsOnce}

-- no step leaves a node that an earlier one left, and none leaves the end
pub record HasNoNodeTwice (to : NodeId) (steps : List Step) : Type 0 where
  pub once : (front back : List Step) (x y : Step) → steps ≡ front ++ x ∷ back → Contains front y → y.node ≢ x.node
  pub end : (x : Step) → Contains steps x → x.node ≢ to

first-apart : (n m : ℕ) (ns : List ℕ) → is_distinct (n ∷ ns) ≡ true → Contains ns m → n ≡ m → ⊥
first-apart n m ns e there same =
    let is : nat_eq m n ≡ true = (let x : n ≡ m = same in grind arith) in
    let has : list_any (λ y. nat_eq y n) ns ≡ true = there-any (λ y. nat_eq y n) ns m there is in
    let none : not (list_any (λ y. nat_eq y n) ns) ≡ true = and-left (not (list_any (λ y. nat_eq y n) ns)) _ e in
    let off : not true ≡ true = subst (λ b. not b ≡ true) has none in
    cc off

left-there : (steps : List Step) (to : NodeId) (x : Step) → Contains steps x →
    Contains (nodes_of steps ++ to.0 ∷ []) x.node.0
left-there steps to x there =
    Contains-append_left (nodes_of steps) (to.0 ∷ []) x.node.0 (there-map (λ (h : Step). h.node.0) steps x there)

end-there : (steps : List Step) (to : NodeId) → Contains (nodes_of steps ++ to.0 ∷ []) to.0
end-there steps to = Contains-append_right (nodes_of steps) (to.0 ∷ []) to.0 (contains-head to.0 [])

rest-once : (to : NodeId) (s : Step) (steps : List Step) → VisitsOnce to (s ∷ steps) → VisitsOnce to steps
rest-once to s steps e = and-right (not (list_any (λ y. nat_eq y s.node.0) (nodes_of steps ++ to.0 ∷ []))) _ e

visits-end : (to : NodeId) (steps : List Step) → VisitsOnce to steps → (x : Step) → Contains steps x → x.node ≢ to
visits-end to [] e x there is = absurd (contains-none x there)
visits-end to (s ∷ steps) e x there is = elim (contains-cases s x steps there) [
  | inl same ↦ first-apart s.node.0 to.0 (nodes_of steps ++ to.0 ∷ []) e (end-there steps to)
      (ap (λ (h : Step). h.node.0) same ∙ ap (λ (n : NodeId). n.0) is)
  | inr later ↦ visits-end to steps (rest-once to s steps e) x later is
]

visits-apart : (to : NodeId) (front back : List Step) (x y : Step) → VisitsOnce to (front ++ x ∷ back) →
    Contains front y → y.node ≢ x.node
visits-apart to [] back x y e there is = absurd (contains-none y there)
visits-apart to (f ∷ front) back x y e there is = elim (contains-cases f y front there) [
  | inl same ↦ first-apart f.node.0 x.node.0 (nodes_of (front ++ x ∷ back) ++ to.0 ∷ []) e
      (left-there (front ++ x ∷ back) to x (Contains-append_right front (x ∷ back) x (contains-head x back)))
      (ap (λ (h : Step). h.node.0) same ∙ ap (λ (n : NodeId). n.0) is)
  | inr later ↦ visits-apart to front back x y (rest-once to f (front ++ x ∷ back) e) later is
]

pub visits-once : (to : NodeId) (steps : List Step) → VisitsOnce to steps → HasNoNodeTwice to steps
visits-once to steps e = record {
  once = λ front back x y is there. visits-apart to front back x y (subst (VisitsOnce to) is e) there;
  end = visits-end to steps e;
}

-- One node more

none-more : (x b : ℕ) (xs : List ℕ) → not (list_any (λ y. nat_eq y x) xs) ≡ true → (x ≡ b → ⊥) →
    not (list_any (λ y. nat_eq y x) (xs ++ b ∷ [])) ≡ true
none-more x b [] e apart = go (nat_eq b x) refl
  where
    go : (z : Bool) → nat_eq b x ≡ z → not (z || false) ≡ true
    go true p = absurd (apart (let e : b ≡ x = grind arith in sym e))
    go false p = refl
none-more x b (y ∷ ys) e apart = go (nat_eq y x) refl e (none-more x b ys)
  where
    go : (z : Bool) → nat_eq y x ≡ z → not (z || list_any (λ w. nat_eq w x) ys) ≡ true →
        (not (list_any (λ w. nat_eq w x) ys) ≡ true → (x ≡ b → ⊥) →
        not (list_any (λ w. nat_eq w x) (ys ++ b ∷ [])) ≡ true) →
        not (z || list_any (λ w. nat_eq w x) (ys ++ b ∷ [])) ≡ true
    go true p e later = absurd (cc e)
    go false p e later = later e apart

pub distinct-more : (b : ℕ) (xs : List ℕ) → is_distinct xs ≡ true → ((x : ℕ) → Contains xs x → x ≡ b → ⊥) →
    is_distinct (xs ++ b ∷ []) ≡ true
distinct-more b [] e apart = refl
distinct-more b (x ∷ xs) e apart =
    and_from (not (list_any (λ y. nat_eq y x) (xs ++ b ∷ []))) _
    (none-more x b xs (and-left (not (list_any (λ y. nat_eq y x) xs)) _ e) (apart x (contains-head x xs)))
    (distinct-more b xs (and-right (not (list_any (λ y. nat_eq y x) xs)) _ e)
    (λ y there. apart y (contains-tail x y xs there)))

nodes-more : (steps : List Step) (s : Step) → nodes_of (steps ++ s ∷ []) ≡ nodes_of steps ++ s.node.0 ∷ []
nodes-more [] s = refl
nodes-more (x ∷ steps) s = ap (λ ns. x.node.0 ∷ ns) (nodes-more steps s)

-- a route that goes on to a node that it hasn't visited
pub longer-once : (steps : List Step) (at next : NodeId) (link : LinkId) → VisitsOnce at steps → next ≢ at →
    ((y : Step) → Contains steps y → y.node ≢ next) →
    VisitsOnce next (steps ++ record { node = at; link = link } ∷ [])
longer-once steps at next link e other fresh =
    let s : Step = record { node = at; link = link } in
    distinct-more next.0 (nodes_of (steps ++ s ∷ []))
    (subst (λ ns. is_distinct ns ≡ true) (sym (nodes-more steps s)) e)
    (λ x there same. (let h = there-from_map (λ (h : Step). h.node.0) (steps ++ s ∷ []) x there in
    let is : h.0.node.0 ≡ next.0 = h.2 ∙ same in
    let node : h.0.node ≡ next = same_node h.0.node next (let q : h.0.node.0 ≡ next.0 = is in grind arith) in
    elim (Contains-append_cases steps (s ∷ []) h.0 h.1) [
      | inl before ↦ fresh h.0 before node
      | inr last ↦ elim (contains-cases s h.0 [] last) [
        | inl here ↦ other (sym node ∙ sym (ap (λ (k : Step). k.node) here))
        | inr none ↦ contains-none h.0 none
      ]
    ]))
