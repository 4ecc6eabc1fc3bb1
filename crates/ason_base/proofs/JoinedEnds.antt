-- Facts on rows and the nodes that they join.
use Rattle.std.proofs.{Common.{sym, inr, inl, ◌∙◌, ◌≡◌, ℕ, ◌<◌, arith, ap, get_or, Contains, ◌⊎◌, List}, lemmas.List.get_or_default}
use Rattle.ason_base.specs.{declared.network.TeRow.TeRow, declared.ids.NodeId.NodeId, Walks.{Joins, HaveDistinctLinks}}
use Rattle.ason_base.specs.{declared.network.{NodeSpec.NodeSpec, LinkSpec.LinkSpec}, Network.is_link}
use Rattle.ason_base.proofs.Bools.{and-left}
use Rattle.std.proofs.Common.{true, nat_lt}

-- A row joins a node with one other.
pub far_end : (row : TeRow) (a b c : NodeId) → Joins row a b → Joins row a c → b ≡ c
far_end row a b c (inl x) (inl y) = sym x.1 ∙ y.1
far_end row a b c (inl x) (inr y) = sym x.1 ∙ y.0 ∙ sym x.0 ∙ y.1
far_end row a b c (inr x) (inl y) = sym x.1 ∙ y.0 ∙ sym x.0 ∙ y.1
far_end row a b c (inr x) (inr y) = sym x.1 ∙ y.1

-- A row joins its nodes either way.
pub swapped : (row : TeRow) (a b : NodeId) → Joins row a b → Joins row b a
swapped row a b (inl up) = inr (up.1, up.0)
swapped row a b (inr down) = inl (down.1, down.0)

-- Rows of distinct links that have one link are one.
pub one_row : (rows : List TeRow) (x y : TeRow) → HaveDistinctLinks rows → Contains rows x → Contains rows y
    → x.link ≡ y.link
    → x ≡ y
one_row rows x y distinct first second link = by_order (order first.0 second.0)
  where
    order : (i j : ℕ) → (i ≡ j) ⊎ ((i < j) ⊎ (j < i))
    order i j = grind arith

    here : get_or rows first.0 x ≡ x
    here = first.2

    there : get_or rows second.0 x ≡ y
    there = get_or_default rows second.0 x y second.1 ∙ second.2

    by_order : (first.0 ≡ second.0) ⊎ ((first.0 < second.0) ⊎ (second.0 < first.0)) → x ≡ y
    by_order o = elim o [
      | inl same ↦ sym here ∙ ap (λ (k : ℕ). get_or rows k x) same ∙ there
      | inr apart ↦ elim apart [
        | inl below ↦ absurd (distinct first.0 second.0 x below second.1
            (ap (λ (r : TeRow). r.link) here ∙ link ∙ sym (ap (λ (r : TeRow). r.link) there)))
        | inr above ↦ absurd (distinct second.0 first.0 x above first.1
            (ap (λ (r : TeRow). r.link) there ∙ sym link ∙ sym (ap (λ (r : TeRow). r.link) here)))
      ]
    ]

-- Nodes with one number are one.
pub same-node : (a b : NodeId) → a.0 ≡ b.0 → a ≡ b
same-node a b e = λ i. record { 0 = e i }

-- The first end of a link is the lesser one.
pub ends-in_order : (nodes : List NodeSpec) (l : LinkSpec) → is_link nodes l ≡ true → nat_lt l.low.0 l.high.0 ≡ true
ends-in_order nodes l h = and-left _ _ (and-left _ _ (and-left _ _ (and-left _ _ h)))
