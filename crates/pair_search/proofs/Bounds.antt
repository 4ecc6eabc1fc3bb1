-- The least costs of walks are valid bounds.
use Rattle.std.proofs.{Common.{◌≡◌, ◌<◌, ◌⊎◌, ℕ, zero, suc, ◌+◌, Bool, true, false, cond, not, nat_eq, map, List, [], ◌∷◌, ◌++◌, Option, Some, None, get_or, refl, sym, ap, ◌∙◌, subst, arith, inl, inr, AllPairs, Contains}, lemmas.List.get_or_default, lemmas.Option.slice_get-get_or}
use Rattle.std.specs.Prelude.{find, slice_get, slice_index_or}
use Rattle.ason_base.specs.{Walks.{WalkStep, IsWalk}, declared.ids.LinkId.LinkId, declared.ids.NodeId.NodeId, declared.network.TeRow.TeRow, declared.steps.Step.Step}
use Rattle.ason_base.proofs.{Members.{contains-cases, contains-head, contains-tail, contains-none}, Bridges.same_node, JoinedEnds.swapped}
use Rattle.route_least.specs.Network.{IsClosed}
use Rattle.route_least.proofs.WalkLaws.{known_row, walk_push}
use Rattle.mesh_nodes.proofs.routes.Walked.{node_test}
use Rattle.pair_search.specs.{Certificates.{AreBounds, bound_at, bound_cost}, Searches.AreEndBounds}

-- The bound of a node is that of its entry

-- the bound of a node stands in the list
pub bound-there : (ps : List (NodeId × ℕ)) (n : NodeId) (p : ℕ) → bound_at ps n ≡ Some p → Contains ps (n, p)
bound-there [] n p e = absurd (cc e)
bound-there (x ∷ ps) n p e = go (nat_eq x.0.0 n.0) refl e (bound-there ps n p)
  where
    go : (b : Bool) → nat_eq x.0.0 n.0 ≡ b → bound_cost (cond b (Some x) (find (λ b. nat_eq b.0.0 n.0) ps)) ≡ Some p →
        (bound_at ps n ≡ Some p → Contains ps (n, p)) → Contains (x ∷ ps) (n, p)
    go true q e later =
        let node : x.0 ≡ n = same_node x.0 n q in
        let cost : x.1 ≡ p = cc e in
        let is : x ≡ (n, p) = (λ i. (node i, cost i)) in
        subst (Contains (x ∷ ps)) is (contains-head x ps)
    go false q e later = contains-tail x (n, p) ps (later e)

bound-some : (ps : List (NodeId × ℕ)) (n : NodeId) (p : ℕ) → Contains ps (n, p) → bound_at ps n ≡ None → ⊥
bound-some [] n p there e = contains-none (n, p) there
bound-some (x ∷ ps) n p there e =
    go (nat_eq x.0.0 n.0) refl e (contains-cases x (n, p) ps there) (bound-some ps n p)
  where
    go : (b : Bool) → nat_eq x.0.0 n.0 ≡ b → bound_cost (cond b (Some x) (find (λ b. nat_eq b.0.0 n.0) ps)) ≡ None →
        (x ≡ (n, p)) ⊎ Contains ps (n, p) → (Contains ps (n, p) → bound_at ps n ≡ None → ⊥) → ⊥
    go true q e cases later = cc e
    go false q e (inl same) later =
        (let yes = node_test x.0 n (ap (λ (z : NodeId × ℕ). z.0) same) in cc (yes, q))
    go false q e (inr there) later = later there e

one-cost : (ps : List (NodeId × ℕ)) → AllPairs (λ x y. x.0.0 < y.0.0) ps → (n : NodeId) (p q : ℕ) →
    Contains ps (n, p) → Contains ps (n, q) → p ≡ q
one-cost ps rising n p q first second =
    elim (order first.0 second.0) [
      | inl same ↦ ap (λ (z : NodeId × ℕ). z.1) (sym here ∙ ap (λ (k : ℕ). get_or ps k (n, p)) same ∙ there)
      | inr apart ↦ elim apart [
        | inl below ↦ absurd (less (rising first.0 second.0 (n, p) below second.1) here there)
        | inr above ↦ absurd (less (rising second.0 first.0 (n, p) above first.1) there here)
      ]
    ]
  where
    order : (i j : ℕ) → (i ≡ j) ⊎ ((i < j) ⊎ (j < i))
    order i j = grind arith

    here : get_or ps first.0 (n, p) ≡ (n, p)
    here = first.2

    there : get_or ps second.0 (n, p) ≡ (n, q)
    there = get_or_default ps second.0 (n, p) (n, q) second.1 ∙ second.2

    less : {x y : NodeId × ℕ} {a b : ℕ} → x.0.0 < y.0.0 → x ≡ (n, a) → y ≡ (n, b) → ⊥
    less {x} {y} below at_x at_y =
        let l : x.0.0 ≡ n.0 = ap (λ (z : NodeId × ℕ). z.0.0) at_x in
        let r : y.0.0 ≡ n.0 = ap (λ (z : NodeId × ℕ). z.0.0) at_y in
        absurd (omega (arith, below, l, r))

there-bound : (ps : List (NodeId × ℕ)) → AllPairs (λ x y. x.0.0 < y.0.0) ps → (n : NodeId) (p : ℕ) →
    Contains ps (n, p) → bound_at ps n ≡ Some p
there-bound ps rising n p there = go (bound_at ps n) refl
  where
    go : (b : Option ℕ) → bound_at ps n ≡ b → b ≡ Some p
    go None e = absurd (bound-some ps n p there e)
    go (Some q) e = ap Some (one-cost ps rising n q p (bound-there ps n q e) there)

-- over rows that aren't closed
pub end-bounds : (rows : List TeRow) (closed : List Bool) (from to : NodeId) (May : TeRow → Type 0) →
    ((row : TeRow) → Contains rows row → May row → ¬ IsClosed rows closed row.link) → (ps : List (NodeId × ℕ)) →
    AreEndBounds rows closed from to ps → AreBounds rows May to ps
end-bounds rows closed from to May free ps are = record {
  zero = there-bound ps are.potential.rising to 0 are.certificate.start;
  rises = λ a b row q there may joins is.
      (let hop : WalkStep rows (IsClosed rows closed) (Contains []) b (record { node = b; link = row.link }) row a =
      record {
        known = there;
        sender = refl;
        link = refl;
        joins = swapped row a b joins;
        link_allowed = free row there may;
        node_allowed = λ none. contains-none a none;
      } in
      let risen = are.certificate.rises b a (record { node = b; link = row.link }) row q hop (bound-there ps b q is) in
      (risen.0, there-bound ps are.potential.rising a risen.0 risen.1, risen.2));
}

-- The other way

-- a walk back over the same rows
pub walk-back : (rows : List TeRow) (L : LinkId → Type 0) (b : NodeId) (steps : List Step) (a : NodeId) (cost : ℕ) →
    IsWalk rows L (Contains []) a b steps cost → (back : List Step) × IsWalk rows L (Contains []) b a back cost
walk-back rows L b [] a cost walk = ([], (sym walk.0, walk.1))
walk-back rows L b (s ∷ steps) a cost walk =
    let rest = walk-back rows L b steps walk.1 walk.2 walk.4 in
    let step : Step = record { node = walk.1; link = walk.0.link } in
    let hop : WalkStep rows L (Contains []) walk.1 step walk.0 a = record {
      known = walk.3.known;
      sender = refl;
      link = refl;
      joins = swapped walk.0 a walk.1 walk.3.joins;
      link_allowed = walk.3.link_allowed;
      node_allowed = λ none. contains-none a none;
    } in
    let sum : walk.2 + walk.0.metric ≡ cost = (let e : cost ≡ walk.0.metric + walk.2 = walk.5 in omega arith) in (
      rest.0 ++ step ∷ [],
      subst (λ c. IsWalk rows L (Contains []) b a (rest.0 ++ step ∷ []) c) sum
          (walk_push rows L (Contains []) b walk.1 a rest.0 walk.2 step walk.0 rest.1 hop),
    )

-- Closed rows

closed-at : (f : TeRow → Bool) (rows : List TeRow) (k : ℕ) (row : TeRow) → slice_get rows k ≡ Some row →
    slice_index_or (map f rows) k false ≡ f row
closed-at f [] k row e = absurd (cc e)
closed-at f (x ∷ xs) zero row e = ap f (let is : x ≡ row = cc e in is)
closed-at f (x ∷ xs) (suc k) row e = closed-at f xs k row e

module _ (rows : List TeRow) (one : (a b : TeRow) → Contains rows a → Contains rows b → a.link ≡ b.link → a ≡ b)
    (may : TeRow → Bool) where
  abbrev shut : List Bool
  shut = map (λ row. not (may row)) rows

  -- a row that may be used is not closed
  pub may-open : (row : TeRow) → Contains rows row → may row ≡ true → ¬ IsClosed rows shut row.link
  may-open row known m (k, other, at, link, on) =
      let same : other ≡ row = one other row (known_row rows k other at) known link in
      let off : not (may row) ≡ true =
      subst (λ r. not (may r) ≡ true) same (sym (closed-at (λ r. not (may r)) rows k other at) ∙ on) in
      let none : not true ≡ true = subst (λ b. not b ≡ true) m off in
      cc none

  -- a row that is not closed may be used
  pub open-may : (row : TeRow) → Contains rows row → ¬ IsClosed rows shut row.link → may row ≡ true
  open-may row known open' = go (may row) refl
    where
      at : slice_get rows known.0 ≡ Some row
      at = slice_get-get_or rows known.0 row known.1 ∙ ap Some known.2

      go : (b : Bool) → may row ≡ b → b ≡ true
      go true e = refl
      go false e = absurd (open' (
        known.0,
        row,
        at,
        refl,
        closed-at (λ r. not (may r)) rows known.0 row at ∙ ap not e,
      ))
