-- The list of walks has just the walks of at most so many links.
use Rattle.std.proofs.{Common.{◌≡◌, ◌≤◌, ◌<◌, inl, inr, ℕ, zero, suc, ◌+◌, Bool, true, false, cond, nat_eq, nat_lt, List, [], ◌∷◌, map, length, get_or, refl, sym, ap, ◌∙◌, subst, arith, Contains}, lemmas.List.Elements.{Contains-append_cases, Contains-append_left, Contains-append_right}}
use Rattle.std.specs.List.{flat_map}
use Rattle.ason_base.specs.{Walks.{HaveDistinctLinks, WalkStep, IsWalk, Joins, NoLink, NoNode, links_of}, declared.ids.NodeId.NodeId, declared.network.TeRow.TeRow, declared.steps.Step.Step}
use Rattle.ason_base.proofs.{Bridges.same_node, Members.{contains-cases, contains-head, there-flat, there-map, there-from_flat, there-from_map, contains-none}, JoinedEnds.far_end}
use Rattle.mesh_rules.specs.LeastRoutes.{Trip, across_row, from_end, trip_over_row, stay, trips}

pub node_test : (a b : NodeId) → a ≡ b → nat_eq a.0 b.0 ≡ true
node_test a b e = let p : a.0 ≡ b.0 = ap (λ (n : NodeId). n.0) e in grind arith

-- a walk of at most so many links
abbrev pub Leads : List TeRow → ℕ → NodeId → NodeId → Trip → Type 0
Leads rows k a b r = IsWalk rows NoLink NoNode a b r.steps r.cost × (length r.steps ≤ k)

abbrev here : NodeId → NodeId → List Trip
here a b = cond (nat_eq a.0 b.0) (stay ∷ []) []

-- Each of the list is a walk

stays : (rows : List TeRow) (k : ℕ) (a b : NodeId) (r : Trip) (c : Bool) → nat_eq a.0 b.0 ≡ c →
    Contains (cond c (stay ∷ []) []) r → Leads rows k a b r
stays rows k a b r true e h = elim (contains-cases stay r [] h) [
  | inl is ↦ subst (Leads rows k a b) is ((same_node a b e, refl), omega arith)
  | inr none ↦ absurd (contains-none r none)
]
stays rows k a b r false e h = absurd (contains-none r h)

hop_over : (rows : List TeRow) (a far : NodeId) (row : TeRow) → Contains rows row → Joins row a far →
    WalkStep rows NoLink NoNode a (record { node = a; link = row.link }) row far
hop_over rows a far row known joins =
    record { known = known; sender = refl; link = refl; joins = joins; link_allowed = λ h. h; node_allowed = λ h. h }

module _ (rows : List TeRow) (k : ℕ) (a b : NodeId) (row : TeRow) (onward : NodeId → List Trip)
    (leads : (n : NodeId) (q : Trip) → Contains (onward n) q → Leads rows k n b q) (known : Contains rows row) where
  end-leads : (near far : NodeId) → (near ≡ a → Joins row a far) → (r : Trip) (c : Bool) → nat_eq near.0 a.0 ≡ c →
      Contains (cond c (map (trip_over_row a row) (onward far)) []) r → Leads rows (suc k) a b r
  end-leads near far joins r true e h =
      let q = there-from_map (trip_over_row a row) (onward far) r h in
      let on = leads far q.0 q.1 in
      let short : length q.0.steps ≤ k = on.1 in
      subst (Leads rows (suc k) a b) q.2
      ((row, far, q.0.cost, hop_over rows a far row known (joins (same_node near a e)), on.0, refl), omega arith)
  end-leads near far joins r false e h = absurd (contains-none r h)

  row-leads : (r : Trip) → Contains (across_row onward a row) r → Leads rows (suc k) a b r
  row-leads r h =
      elim (Contains-append_cases (from_end onward a row row.low row.high)
      (from_end onward a row row.high row.low) r h) [
        | inl up ↦ end-leads row.low row.high (λ e. inl (e, refl)) r (nat_eq row.low.0 a.0) refl up
        | inr down ↦ end-leads row.high row.low (λ e. inr (e, refl)) r (nat_eq row.high.0 a.0) refl down
      ]

pub each-leads : (rows : List TeRow) (k : ℕ) (a b : NodeId) (r : Trip) → Contains (trips rows k a b) r →
    Leads rows k a b r
unfolding trips
each-leads rows zero a b r h = stays rows zero a b r (nat_eq a.0 b.0) refl h
each-leads rows (suc k) a b r h =
    elim (Contains-append_cases (here a b) (flat_map (across_row (λ n. trips rows k n b) a) rows) r h) [
      | inl at ↦ stays rows (suc k) a b r (nat_eq a.0 b.0) refl at
      | inr later ↦
          (let q = there-from_flat (across_row (λ n. trips rows k n b) a) rows r later in
          row-leads rows k a b q.0 (λ n. trips rows k n b) (λ n s. each-leads rows k n b s) q.1 r q.2)
    ]

-- Each walk is one of the list

stay-there : (a b : NodeId) (cost : ℕ) → a ≡ b → cost ≡ 0 → Contains (here a b) (record { steps = []; cost = cost })
stay-there a b cost same none =
    rw (node_test a b same) (subst (λ c. Contains (stay ∷ []) (record { steps = []; cost = c })) (sym none)
    (contains-head stay []))

end-there : (onward : NodeId → List Trip) (a : NodeId) (row : TeRow) (near far : NodeId) (q : Trip) → near ≡ a →
    Contains (onward far) q → Contains (from_end onward a row near far) (trip_over_row a row q)
end-there onward a row near far q e h = rw (node_test near a e) (there-map (trip_over_row a row) (onward far) q h)

row-there : (onward : NodeId → List Trip) (a far : NodeId) (row : TeRow) (q : Trip) → Joins row a far →
    Contains (onward far) q →
    Contains (across_row onward a row) (trip_over_row a row q)
row-there onward a far row q joins h = elim joins [
  | inl up ↦ Contains-append_left (from_end onward a row row.low row.high) (from_end onward a row row.high row.low)
      (trip_over_row a row q)
      (end-there onward a row row.low row.high q up.0 (subst (λ n. Contains (onward n) q) (sym up.1) h))
  | inr down ↦ Contains-append_right (from_end onward a row row.low row.high)
      (from_end onward a row row.high row.low) (trip_over_row a row q)
      (end-there onward a row row.high row.low q down.0 (subst (λ n. Contains (onward n) q) (sym down.1) h))
]

over_row-is : (a : NodeId) (row : TeRow) (s : Step) (steps : List Step) (left cost : ℕ) → s.node ≡ a →
    s.link ≡ row.link →
    cost ≡ row.metric + left → trip_over_row a row (record { steps = steps; cost = left }) ≡
    record { steps = s ∷ steps; cost = cost }
over_row-is a row s steps left cost sender link sum =
    λ i. record { steps = record { node = sym sender i; link = sym link i } ∷ steps; cost = sym sum i }

pub each-there : (rows : List TeRow) (k : ℕ) (a b : NodeId) (steps : List Step) (cost : ℕ) →
    IsWalk rows NoLink NoNode a b steps cost → length steps ≤ k →
    Contains (trips rows k a b) (record { steps = steps; cost = cost })
unfolding trips
each-there rows zero a b [] cost walk few = stay-there a b cost walk.0 walk.1
each-there rows zero a b (s ∷ steps) cost walk few = absurd (omega arith)
each-there rows (suc k) a b [] cost walk few =
    Contains-append_left (here a b) (flat_map (across_row (λ n. trips rows k n b) a) rows)
    (record { steps = []; cost = cost })
    (stay-there a b cost walk.0 walk.1)
each-there rows (suc k) a b (s ∷ steps) cost walk few =
    let row = walk.0 in
    let next = walk.1 in
    let left = walk.2 in
    let on = each-there rows k next b steps left walk.4 (omega arith) in
    let onward : NodeId → List Trip = (λ n. trips rows k n b) in
    Contains-append_right (here a b) (flat_map (across_row onward a) rows) (record { steps = s ∷ steps; cost = cost })
    (there-flat (across_row onward a) rows row (record { steps = s ∷ steps; cost = cost }) walk.3.known
    (subst (Contains (across_row onward a row)) (over_row-is a row s steps left cost walk.3.sender walk.3.link walk.5)
    (row-there onward a next row (record { steps = steps; cost = left }) walk.3.joins on)))

-- Walks from one node over the same links are one, where no link is in two rows

get_same : (rows : List TeRow) (k : ℕ) (d e : TeRow) → k < length rows → get_or rows k d ≡ get_or rows k e
get_same [] k d e h = absurd (omega arith)
get_same (r ∷ rows) zero d e h = refl
get_same (r ∷ rows) (suc k) d e h = get_same rows k d e (omega arith)

pub one_row : (rows : List TeRow) → HaveDistinctLinks rows → (x y : TeRow) → Contains rows x → Contains rows y →
    x.link ≡ y.link → x ≡ y
one_row rows distinct x y h k same = by_order (nat_lt h.0 k.0) refl (nat_lt k.0 h.0) refl
  where
    x-there : get_or rows h.0 x ≡ x
    x-there = h.2

    y-there : get_or rows k.0 x ≡ y
    y-there = get_same rows k.0 x y k.1 ∙ k.2

    by_order : (b : Bool) → nat_lt h.0 k.0 ≡ b → (c : Bool) → nat_lt k.0 h.0 ≡ c → x ≡ y
    by_order true e c f =
        absurd (distinct h.0 k.0 x (grind arith) k.1
        (ap (λ (r : TeRow). r.link) x-there ∙ same ∙ sym (ap (λ (r : TeRow). r.link) y-there)))
    by_order false e true f =
        absurd (distinct k.0 h.0 x (grind arith) h.1
        (ap (λ (r : TeRow). r.link) y-there ∙ sym same ∙ sym (ap (λ (r : TeRow). r.link) x-there)))
    by_order false e false f = let at : h.0 ≡ k.0 = grind arith in sym x-there ∙ ap (λ n. get_or rows n x) at ∙ y-there

first_link : (x y : Step) (xs ys : List Step) → links_of (x ∷ xs) ≡ links_of (y ∷ ys) → x.link ≡ y.link
first_link x y xs ys e = cc e

other_links : (x y : Step) (xs ys : List Step) → links_of (x ∷ xs) ≡ links_of (y ∷ ys) → links_of xs ≡ links_of ys
other_links x y xs ys e = cc e

pub one_walk : (rows : List TeRow) → HaveDistinctLinks rows → (b : NodeId) (xs ys : List Step) (a : NodeId) (c d : ℕ) →
    IsWalk rows NoLink NoNode a b xs c → IsWalk rows NoLink NoNode a b ys d → links_of xs ≡ links_of ys → xs ≡ ys
one_walk rows distinct b [] [] a c d v w same = refl
one_walk rows distinct b [] (y ∷ ys) a c d v w same = absurd (cc same)
one_walk rows distinct b (x ∷ xs) [] a c d v w same = absurd (cc same)
one_walk rows distinct b (x ∷ xs) (y ∷ ys) a c d v w same =
    let link = first_link x y xs ys same in
    let row : v.0 ≡ w.0 = one_row rows distinct v.0 w.0 v.3.known w.3.known (sym v.3.link ∙ link ∙ w.3.link) in
    let node : v.1 ≡ w.1 = far_end w.0 a v.1 w.1 (subst (λ r. Joins r a v.1) row v.3.joins) w.3.joins in
    let on : IsWalk rows NoLink NoNode w.1 b xs v.2 = subst (λ n. IsWalk rows NoLink NoNode n b xs v.2) node v.4 in
    let others : xs ≡ ys = one_walk rows distinct b xs ys w.1 v.2 w.2 on w.4 (other_links x y xs ys same) in
    let sender : x.node ≡ y.node = v.3.sender ∙ sym w.3.sender in
    λ i. record { node = sender i; link = link i } ∷ others i
