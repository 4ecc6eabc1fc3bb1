-- Potentials, entry by entry of the order.
use Rattle.std.proofs.{Common.{◌≡◌, inl, inr, ℕ, ◌+◌, ◌<◌, List, [], ◌∷◌, ◌++◌, All, Option, Some, length, get_or, take, refl, sym, ◌∙◌, ap, subst, arith}, lemmas.List.{get_or-take, get_or_default, length-take-le, take_more}, lemmas.List.Elements.{Contains-append_left, Contains-get_or, Contains-push, Contains-push_cases}, lemmas.List.Quantifiers.all_pairs_push}
use Rattle.std.specs.List.{Contains}
use Rattle.ason_base.specs.declared.ids.NodeId.{NodeId}
use Rattle.route_least.specs.{declared.order.NodePlace.NodePlace, Costs.cost_at, Potentials.{AreListed, AreNodesRising}}
use Rattle.route_least.proofs.PlaceLists.{nothing, some_same}

pub none_listed : (costs : List (Option ℕ)) (entries : List (NodeId × ℕ)) → entries ≡ [] → AreListed [] costs entries
none_listed costs entries none = record {
  rising = λ i j d lt within. absurd (let h : j < 0 = subst (λ es. j < length es) none within in omega arith);
  sound = λ n cost known. absurd (nothing entries (n, cost) none known);
  complete = λ e cost known has. absurd (nothing [] e refl known);
}

-- an element of a first part stands in the list before its end
taken_before : {X : Type 0} (xs : List X) (i : ℕ) (x : X) → i < length xs → Contains (take i xs) x → (k : ℕ) ×
    (k < i) × (get_or xs k x ≡ x)
taken_before xs i x below known =
    let inside : known.0 < i = (let h : known.0 < length (take i xs) = known.1 in let l : length (take i xs) ≡ i =
    length-take-le i xs (omega arith) in omega arith) in
    (known.0, inside, sym (get_or-take i xs known.0 x inside) ∙ known.2)

module _ (order : List NodePlace) (costs : List (Option ℕ)) (i : ℕ) (d : NodePlace) (entries : List (NodeId × ℕ))
    (within : i < length order) (are : AreListed (take i order) costs entries) where
  before : AreNodesRising order → (entry : NodeId × ℕ) → Contains entries entry → entry.0.0 < (get_or order i d).node.0
  before rising entry known =
      let has = are.sound entry.0 entry.1 known in
      let at = taken_before order i has.0 within has.1 in
      let here : get_or order at.0 d ≡ has.0 = get_or_default order at.0 d has.0 (omega (arith, at.1)) ∙ at.2 in
      subst (λ n. n.0 < (get_or order i d).node.0) (ap (λ e. e.node) here ∙ has.2) (rising at.0 i d at.1 within)

  pub all_below : AreNodesRising order → All (λ entry. entry.0.0 < (get_or order i d).node.0) entries
  all_below rising = λ j e h. before rising (get_or entries j e) (Contains-get_or entries j e h)

  pub listed_skip : ((cost : ℕ) → cost_at costs (get_or order i d).place ≡ Some cost → ⊥) →
      AreListed (take (i + 1) order) costs entries
  listed_skip none = subst (λ done. AreListed done costs entries) (sym (take_more order i d within)) (record {
    rising = are.rising;
    sound = λ n cost known. (let has = are.sound n cost known in (
      has.0,
      Contains-append_left (take i order) (get_or order i d ∷ []) has.0 has.1,
      has.2,
      has.3,
    ));
    complete = λ e cost known has. elim (Contains-push_cases (take i order) (get_or order i d) e known) [
      | inl earlier ↦ are.complete e cost earlier has
      | inr same ↦ absurd (none cost (subst (λ x. cost_at costs x.place ≡ Some cost) (sym same) has))
    ];
  })

  pub listed_push : (cost : ℕ) → AreNodesRising order → cost_at costs (get_or order i d).place ≡ Some cost →
      AreListed (take (i + 1) order) costs (entries ++ ((get_or order i d).node, cost) ∷ [])
  listed_push cost rising here =
      let last = get_or order i d in
      subst (λ done. AreListed done costs (entries ++ (last.node, cost) ∷ [])) (sym (take_more order i d within))
      (record {
        rising = all_pairs_push (λ x y. x.0.0 < y.0.0) entries (last.node, cost) are.rising
            (λ j e h. all_below rising j e h);
        sound = λ n c known. elim (Contains-push_cases entries (last.node, cost) (n, c) known) [
          | inl earlier ↦ (let has = are.sound n c earlier in
              (has.0, Contains-append_left (take i order) (last ∷ []) has.0 has.1, has.2, has.3))
          | inr same ↦ (last, Contains-push (take i order) last, ap (λ e. e.0) same, here ∙ ap (λ e. Some e.1) same)
        ];
        complete = λ e c known has. elim (Contains-push_cases (take i order) last e known) [
          | inl earlier ↦ Contains-append_left entries ((last.node, cost) ∷ []) (e.node, c)
              (are.complete e c earlier has)
          | inr same ↦
              (let equal : cost ≡ c = some_same (sym here ∙
              subst (λ x. cost_at costs x.place ≡ Some c) (sym same) has) in
              subst (λ x. Contains (entries ++ (last.node, cost) ∷ []) (x.node, c)) same
              (subst (λ y. Contains (entries ++ (last.node, cost) ∷ []) (last.node, y)) equal
              (Contains-push entries (last.node, cost))))
        ];
      })
