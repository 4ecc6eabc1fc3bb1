-- The nodes of routes.
use Rattle.std.proofs.{Common.{◌≡◌, ◌<◌, ◌≤◌, ◌+◌, ◌-◌, ℕ, suc, Bool, true, false, not, nat_eq, List, [], ◌∷◌, ◌++◌, length, get_or, take, drop, refl, sym, ap, ◌∙◌, arith, length-drop, take_all}, lemmas.List.drop-map, lemmas.List.Folds.list_any-append, Math.Seq.drop-cons}
use Rattle.std.specs.{Prelude.{◌&&◌, ◌||◌, map}, List.list_any}
use Rattle.ason_base.specs.{declared.steps.Step.Step, Network.is_distinct, Routes.{nodes_of, routes_share_node}}

list_any-map : {X Y : Type 0} (p : Y → Bool) (f : X → Y) (xs : List X) →
    list_any p (map f xs) ≡ list_any (λ x. p (f x)) xs
list_any-map p f [] = refl
list_any-map p f (x ∷ xs) = rw (list_any-map p f xs) refl

list_any-same : {X : Type 0} (p q : X → Bool) (xs : List X) → ((x : X) → p x ≡ q x) → list_any p xs ≡ list_any q xs
list_any-same p q [] h = refl
list_any-same p q (x ∷ xs) h = rw (h x, list_any-same p q xs h) refl

-- One node at a time

either_way : (a b c : Bool) → (not (a || (b || false)) && c) ≡ (not (b || a) && c)
either_way true true c = refl
either_way true false c = refl
either_way false true c = refl
either_way false false c = refl

apart_next : (h : Step) (route : List Step) (to : ℕ) →
    is_distinct (nodes_of (h ∷ route) ++ to ∷ []) ≡
    (not (nat_eq to h.node.0 || list_any (λ k. nat_eq k.node.0 h.node.0) route) && is_distinct
    (nodes_of route ++ to ∷ []))
apart_next h route to =
    let again : list_any (λ n. nat_eq n h.node.0) (nodes_of route ++ to ∷ []) ≡
    (list_any (λ k. nat_eq k.node.0 h.node.0) route || (nat_eq to h.node.0 || false)) =
    list_any-append (λ n. nat_eq n h.node.0) (nodes_of route) (to ∷ []) ∙
    ap (λ b. b || (nat_eq to h.node.0 || false)) (list_any-map (λ n. nat_eq n h.node.0) (λ k. k.node.0) route) in
    ap (λ b. not b && is_distinct (nodes_of route ++ to ∷ [])) again
    ∙ either_way (list_any (λ k. nat_eq k.node.0 h.node.0) route) (nat_eq to h.node.0)
    (is_distinct (nodes_of route ++ to ∷ []))

apart_at : (route : List Step) (to i : ℕ) (d : Step) → i < length route →
    is_distinct (nodes_of (drop i route) ++ to ∷ []) ≡
    (not (nat_eq to (get_or route i d).node.0 || list_any (λ k. nat_eq k.node.0 (get_or route i d).node.0)
    (drop (i + 1) route)) && is_distinct (nodes_of (drop (i + 1) route) ++ to ∷ []))
apart_at route to i d below =
    let e : suc i ≡ i + 1 = omega arith in
    let cut : drop i route ≡ get_or route i d ∷ drop (i + 1) route = rw (← e) (drop-cons route i d below) in
    ap (λ r. is_distinct (nodes_of r ++ to ∷ [])) cut ∙ apart_next (get_or route i d) (drop (i + 1) route) to

pub ends_again : (route : List Step) (to i : ℕ) (d : Step) (all : Bool) → i < length route →
    is_distinct (nodes_of (drop i route) ++ to ∷ []) ≡ all → nat_eq to (get_or route i d).node.0 ≡ true → false ≡ all
ends_again route to i d all below left e = rw e at (sym (apart_at route to i d below)) ∙ left

after_it : (route : List Step) (i : ℕ) → take (length route - (i + 1)) (drop (i + 1) route) ≡ drop (i + 1) route
after_it route i = let short : length (drop (i + 1) route) ≤ length route - (i + 1) =
    simp length-drop (omega arith) in take_all (length route - (i + 1))
    (drop (i + 1) route) short

pub comes_again : (route : List Step) (to i : ℕ) (d : Step) (all : Bool) → i < length route →
    is_distinct (nodes_of (drop i route) ++ to ∷ []) ≡ all → nat_eq to (get_or route i d).node.0 ≡ false →
    list_any (λ k. nat_eq k.node.0 (get_or route i d).node.0) (take (length route - (i + 1)) (drop (i + 1) route)) ≡
    true → false ≡ all
comes_again route to i d all below left e f =
    let again : list_any (λ k. nat_eq k.node.0 (get_or route i d).node.0) (drop (i + 1) route) ≡ true =
    rw after_it at f in
    rw (e, again) at (sym (apart_at route to i d below)) ∙ left

pub still_apart : (route : List Step) (to i : ℕ) (d : Step) (all : Bool) → i < length route →
    is_distinct (nodes_of (drop i route) ++ to ∷ []) ≡ all → nat_eq to (get_or route i d).node.0 ≡ false →
    list_any (λ k. nat_eq k.node.0 (get_or route i d).node.0) (take (length route - (i + 1)) (drop (i + 1) route)) ≡
    false → is_distinct (nodes_of (drop (i + 1) route) ++ to ∷ []) ≡ all
still_apart route to i d all below left e f =
    let again : list_any (λ k. nat_eq k.node.0 (get_or route i d).node.0) (drop (i + 1) route) ≡ false =
    rw after_it at f in
    rw (e, again) at (sym (apart_at route to i d below)) ∙ left

-- Inner nodes

pub share_inner : (a b : List Step) → list_any (λ h. list_any (λ k. nat_eq k.node.0 h.node.0) (drop 1 b))
    (drop 1 a) ≡ routes_share_node a b
share_inner a b =
    rw (drop-map (λ (h : Step). h.node.0) 1 a, drop-map (λ (h : Step). h.node.0) 1 b)
    (sym (list_any-map (λ n. list_any (λ m. nat_eq m n) (map (λ h. h.node.0) (drop 1 b))) (λ h. h.node.0) (drop 1 a)
    ∙ list_any-same _ _ (drop 1 a) (λ h. list_any-map (λ m. nat_eq m h.node.0) (λ k. k.node.0) (drop 1 b))))
