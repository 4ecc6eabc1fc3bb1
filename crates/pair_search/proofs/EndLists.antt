-- The ends of rows, each once, are as many as the nodes that are ends.
use Rattle.std.proofs.{Common.{◌≡◌, ◌≤◌, ◌<◌, ℕ, Bool, true, false, cond, nat_eq, map, List, [], ◌∷◌, ◌++◌, length, refl, sym, ap, ◌∙◌, subst, arith, inl, inr, Contains}, lemmas.Cmp.nat_eq_equiv, lemmas.List.Elements.{All-cons, All-contains, All-nil, Contains-append_cases, Contains-append_left, Contains-append_right}, lemmas.Map.Made.length-le_from_is_member}
use Rattle.std.specs.{Prelude.{All, ◌⊎◌, fold}, List.list_any}
use Rattle.pair_search.specs.{declared.limits.TheConstants.{MOST_ENDS, MOST_ROWS}, Answers.IsSmall, Searches.{ends_of, with_end_node, with_end_nodes}}
use Rattle.ason_base.specs.{Network.is_distinct, Walks.HaveFewEnds, declared.ids.NodeId.NodeId, declared.network.TeRow.TeRow}
use Rattle.ason_base.proofs.{Ordered.{any-there, there-any}, Members.{contains-cases, contains-head, contains-tail, there-map, there-from_map, contains-none}, Bridges.same_node}
use Rattle.mesh_nodes.proofs.routes.Shorter.{apart, length-numbers}
use Rattle.pair_search.proofs.Visits.{distinct-more}

abbrev numbers : List NodeId → List ℕ
numbers nodes = map (λ (n : NodeId). n.0) nodes

-- One more

with-kept : (ends : List NodeId) (n m : NodeId) → Contains ends m → Contains (with_end_node ends n) m
with-kept ends n m there = go (list_any (λ k. nat_eq k.0 n.0) ends)
  where
    go : (b : Bool) → Contains (cond b ends (ends ++ n ∷ [])) m
    go true = there
    go false = Contains-append_left ends (n ∷ []) m there

with-new : (ends : List NodeId) (n : NodeId) → Contains (with_end_node ends n) n
with-new ends n = go (list_any (λ k. nat_eq k.0 n.0) ends) refl
  where
    go : (b : Bool) → list_any (λ k. nat_eq k.0 n.0) ends ≡ b → Contains (cond b ends (ends ++ n ∷ [])) n
    go true e = (let h = any-there (λ (k : NodeId). nat_eq k.0 n.0) ends e in
        subst (Contains ends) (same_node h.0 n h.2) h.1)
    go false e = Contains-append_right ends (n ∷ []) n (contains-head n [])

with-only : (ends : List NodeId) (n m : NodeId) → Contains (with_end_node ends n) m → Contains ends m ⊎ (n ≡ m)
with-only ends n m = go (list_any (λ k. nat_eq k.0 n.0) ends)
  where
    go : (b : Bool) → Contains (cond b ends (ends ++ n ∷ [])) m → Contains ends m ⊎ (n ≡ m)
    go true there = inl there
    go false there = elim (Contains-append_cases ends (n ∷ []) m there) [
      | inl before ↦ inl before
      | inr last ↦ elim (contains-cases n m [] last) [ inl same ↦ inr same | inr none ↦ absurd (contains-none m none) ]
    ]

numbers-more : (ends : List NodeId) (n : NodeId) → numbers (ends ++ n ∷ []) ≡ numbers ends ++ n.0 ∷ []
numbers-more [] n = refl
numbers-more (m ∷ ends) n = ap (λ ns. m.0 ∷ ns) (numbers-more ends n)

with-once : (ends : List NodeId) (n : NodeId) → is_distinct (numbers ends) ≡ true →
    is_distinct (numbers (with_end_node ends n)) ≡ true
with-once ends n once = go (list_any (λ k. nat_eq k.0 n.0) ends) refl
  where
    go : (b : Bool) → list_any (λ k. nat_eq k.0 n.0) ends ≡ b →
        is_distinct (numbers (cond b ends (ends ++ n ∷ []))) ≡ true
    go true e = once
    go false e = subst (λ ns. is_distinct ns ≡ true) (sym (numbers-more ends n))
        (distinct-more n.0 (numbers ends) once
        (λ x there same. (let h = there-from_map (λ (k : NodeId). k.0) ends x there in
        let is : h.0.0 ≡ n.0 = h.2 ∙ same in
        let test : nat_eq h.0.0 n.0 ≡ true = (let q : h.0.0 ≡ n.0 = is in grind arith) in
        let has = there-any (λ (k : NodeId). nat_eq k.0 n.0) ends h.0 h.1 test in
        cc (has, e))))

-- All rows, from some ends on

ends-kept : (rows : List TeRow) (ends : List NodeId) (m : NodeId) → Contains ends m →
    Contains (fold with_end_nodes ends rows) m
ends-kept [] ends m there = there
ends-kept (row ∷ rows) ends m there = ends-kept rows (with_end_nodes ends row) m
    (with-kept (with_end_node ends row.low) row.high m (with-kept ends row.low m there))

ends-low : (rows : List TeRow) (ends : List NodeId) (row : TeRow) → Contains rows row →
    Contains (fold with_end_nodes ends rows) row.low × Contains (fold with_end_nodes ends rows) row.high
ends-low [] ends row there = absurd (contains-none row there)
ends-low (first ∷ rows) ends row there = elim (contains-cases first row rows there) [
  | inl same ↦ (
    ends-kept rows (with_end_nodes ends first) row.low
        (subst (λ (r : TeRow). Contains (with_end_nodes ends first) r.low) same
        (with-kept (with_end_node ends first.low) first.high first.low (with-new ends first.low))),
    ends-kept rows (with_end_nodes ends first) row.high
        (subst (λ (r : TeRow). Contains (with_end_nodes ends first) r.high) same
        (with-new (with_end_node ends first.low) first.high)),
  )
  | inr later ↦ ends-low rows (with_end_nodes ends first) row later
]

ends-only : (rows : List TeRow) (ends among : List NodeId) → ((m : NodeId) → Contains ends m → Contains among m) →
    ((row : TeRow) → Contains rows row → Contains among row.low × Contains among row.high) → (m : NodeId) →
    Contains (fold with_end_nodes ends rows) m → Contains among m
ends-only [] ends among within each m there = within m there
ends-only (row ∷ rows) ends among within each m there =
    ends-only rows (with_end_nodes ends row) among
    (λ n h. elim (with-only (with_end_node ends row.low) row.high n h) [
      | inl before ↦ elim (with-only ends row.low n before) [
        | inl first ↦ within n first
        | inr low ↦ subst (Contains among) low (each row (contains-head row rows)).0
      ]
      | inr high ↦ subst (Contains among) high (each row (contains-head row rows)).1
    ])
    (λ other h. each other (contains-tail row other rows h)) m there

ends-once : (rows : List TeRow) (ends : List NodeId) → is_distinct (numbers ends) ≡ true →
    is_distinct (numbers (fold with_end_nodes ends rows)) ≡ true
ends-once [] ends once = once
ends-once (row ∷ rows) ends once =
    ends-once rows (with_end_nodes ends row)
    (with-once (with_end_node ends row.low) row.high (with-once ends row.low once))

-- No list of nodes that has each of them is shorter

no-fewer : (rows : List TeRow) (among : List NodeId) →
    ((row : TeRow) → Contains rows row → Contains among row.low × Contains among row.high) →
    length (ends_of rows) ≤ length among
no-fewer rows among each =
    let few : length (numbers (ends_of rows)) ≤ length (numbers among) =
    length-le_from_is_member nat_eq_equiv (numbers (ends_of rows)) (numbers among)
    (apart (numbers (ends_of rows)) (ends-once rows [] refl))
    (λ q h. (let x = any-there (nat_eq q) (numbers (ends_of rows)) h in
    let n = there-from_map (λ (k : NodeId). k.0) (ends_of rows) x.0 x.1 in
    let there = ends-only rows [] among (λ m none. absurd (contains-none m none)) each n.0 n.1 in
    there-any (nat_eq q) (numbers among) x.0
    (subst (Contains (numbers among)) n.2 (there-map (λ (k : NodeId). k.0) among n.0 there)) x.2)) in
    let one : length (numbers (ends_of rows)) ≡ length (ends_of rows) = length-numbers (ends_of rows) in
    let two : length (numbers among) ≡ length among = length-numbers among in
    omega arith

-- What the count says

all-from : {X : Type 0} (P : X → Type 0) (xs : List X) → ((x : X) → Contains xs x → P x) → All P xs
all-from P [] each = All-nil P
all-from P (x ∷ xs) each = All-cons P x xs (each x (contains-head x xs))
    (all-from P xs (λ y there. each y (contains-tail x y xs there)))

-- at most 24 rows, and at most 16 nodes as their ends, are few
pub small-rows : (rows : List TeRow) → length rows ≤ MOST_ROWS → length (ends_of rows) ≤ MOST_ENDS → IsSmall rows
small-rows rows few ends = record {
  count = few;
  ends = ends_of rows;
  few = ends;
  each = all-from (λ row. Contains (ends_of rows) row.low × Contains (ends_of rows) row.high) rows (ends-low rows []);
}

-- more than 16 nodes as the ends of the rows are too many
pub large-ends : (rows : List TeRow) → MOST_ENDS < length (ends_of rows) → ¬ IsSmall rows
large-ends rows many small =
    let few : length (ends_of rows) ≤ length small.ends =
    no-fewer rows small.ends (λ row there. All-contains (λ r. Contains small.ends r.low × Contains small.ends r.high)
    rows row small.each there) in
    let most : length small.ends ≤ MOST_ENDS = small.few in
    omega (arith, many, few, most)

-- few rows have so few ends that routes may be asked of them
pub few-ends : (rows : List TeRow) → IsSmall rows → HaveFewEnds rows
few-ends rows small = (
  small.ends,
  (let few : length small.ends ≤ MOST_ENDS = small.few in omega (arith, few)),
  small.each,
)
