-- Rows of which no two are of one link, and that a node which knows some of them has room for the others.
use Rattle.std.proofs.{Common.{◌≡◌, ◌≢◌, ◌≤◌, ◌<◌, inl, inr, ℕ, ◌+◌, ◌==◌, nat_lt, nat_le, Bool, true, false, List, [], ◌∷◌, ◌++◌, length, get_or, map, fold, refl, ap, ◌∙◌, sym, subst, arith, Contains, AllPairs}, lemmas.List.{get_or-map, length-append, length-map}, lemmas.List.Elements.{All-contains, Contains-get_or, Contains-push, Contains-push_cases}, lemmas.List.Quantifiers.all_pairs_push, lemmas.Map.Made.{IsDistinct-from_AllPairs, length-le_from_is_member}, lemmas.Map.Views.{Contains-from_any, list_any-from_Contains}, lemmas.Bool.or_cases}
use Rattle.std.specs.{Prelude.{◌||◌, ◌&&◌}, Bool.Decides, Cmp.nat_eq_equiv, List.{AllByRecursion, IsDistinct, list_any}}
use Rattle.ason_base.specs.{declared.limits.TheConstants.{MOST_LINKS, MOST_NODES}, Walks.{HaveDistinctLinks, HaveFewEnds}, declared.ids.LinkId.LinkId, declared.ids.NodeId.NodeId, declared.network.TeRow.TeRow}
use Rattle.ason_base.proofs.{Ordered.{any-there, there-any}, Numbers.{equal-self, equal-is}, Members.{there-from_map, there-map}, JoinedEnds.one_row}
use Rattle.flood.specs.{Ends.IsApart, State.{ends_in_rows, has_room, is_end, is_known, with_ends}}
use Rattle.flood.proofs.DifferentEnds.{ends_are_listed, ends_stand_once}

-- Known links

pub known_row : (rows : List TeRow) (row : TeRow) → Contains rows row → is_known rows row.link ≡ true
known_row rows row there = there-any (λ (r : TeRow). r.link.0 == row.link.0) rows row there (equal-self row.link.0)

pub row_of_known : (rows : List TeRow) (link : LinkId) → is_known rows link ≡ true → (row : TeRow) ×
    Contains rows row × (row.link ≡ link)
row_of_known rows link known =
    let found = any-there (λ (r : TeRow). r.link.0 == link.0) rows known in
    let same : found.0.link.0 ≡ link.0 = equal-is found.0.link.0 link.0 found.2 in
    (found.0, found.1, λ i. record { 0 = same i })

pub known_more : (rows : List TeRow) (row : TeRow) (link : LinkId) → is_known rows link ≡ true
    → is_known (rows ++ row ∷ []) link ≡ true
known_more [] row link known = absurd (cc (known))
known_more (r ∷ rows) row link known = by_test (r.link.0 == link.0) known (known_more rows row link)
  where
    by_test : (b : Bool) → (b || is_known rows link) ≡ true
        → (is_known rows link ≡ true → is_known (rows ++ row ∷ []) link ≡ true)
        → (b || is_known (rows ++ row ∷ []) link) ≡ true
    by_test true h rest = refl
    by_test false h rest = rest h

pub known_last : (rows : List TeRow) (row : TeRow) → is_known (rows ++ row ∷ []) row.link ≡ true
known_last rows row = known_row (rows ++ row ∷ []) row (last rows)
  where
    last : (rs : List TeRow) → Contains (rs ++ row ∷ []) row
    last rs = Contains-push rs row

-- a row of the network whose link is known is known
pub known_is_there : (rows known : List TeRow) (row : TeRow) → HaveDistinctLinks rows
    → ((r : TeRow) → Contains known r → Contains rows r)
    → Contains rows row → is_known known row.link ≡ true → Contains known row
known_is_there rows known row distinct truth there is =
    let found = row_of_known known row.link is in
    subst (Contains known) (one_row rows found.0 row distinct (truth found.0 found.1) there found.2) found.1

pub distinct_push : (rows : List TeRow) (row : TeRow) → HaveDistinctLinks rows → is_known rows row.link ≡ false
    → HaveDistinctLinks (rows ++ row ∷ [])
distinct_push rows row distinct unknown = all_pairs_push (λ x y. x.link ≢ y.link) rows row distinct apart
  where
    apart : (k : ℕ) (d : TeRow) → k < length rows → (get_or rows k d).link ≢ row.link
    apart k d within same =
        let there : Contains rows (get_or rows k d) = Contains-get_or rows k d within in
        let known : is_known rows (get_or rows k d).link ≡ true = known_row rows (get_or rows k d) there in
        absurd (cc (ap (is_known rows) same, known, unknown))

-- Numbers that stand once are no more than those that they are among.

decides : (a b : ℕ) → Decides (a == b) (a ≡ b)
decides a b = (equal-is a b, λ e. subst (λ (k : ℕ). (a == k) ≡ true) e (equal-self a))

no_more : (xs ys : List ℕ) → IsDistinct ◌==◌ xs → ((n : ℕ) → Contains xs n → Contains ys n) → length xs ≤ length ys
no_more xs ys once among =
    length-le_from_is_member nat_eq_equiv xs ys once
    (λ q h. list_any-from_Contains nat_eq_equiv q ys (among q (Contains-from_any equal-is q xs h)))

-- Links

abbrev links : List TeRow → List ℕ
links rows = map (λ (r : TeRow). r.link.0) rows

distinct_numbers : (rows : List TeRow) → HaveDistinctLinks rows → AllPairs (λ x y. x ≢ y) (links rows)
distinct_numbers rows distinct i j d before within same =
    let long : length (links rows) ≡ length rows = length-map rows (λ (r : TeRow). r.link.0) in
    let equal : (get_or rows i row).link.0 ≡ (get_or rows j row).link.0 = sym (at i (omega arith)) ∙ same ∙
    at j (omega arith) in
    absurd (distinct i j row before (omega arith) (λ k. record { 0 = equal k }))
  where
    row : TeRow
    row = record { link = record { 0 = d }; low = record { 0 = 0 }; high = record { 0 = 0 }; metric = 0; srlgs = [] }

    at : (k : ℕ) → k < length rows → get_or (links rows) k d ≡ (get_or rows k row).link.0
    at k h = get_or-map (λ (r : TeRow). r.link.0) rows k row d h

no_more_rows : (rows known : List TeRow) → HaveDistinctLinks known → ((r : TeRow) → Contains known r → Contains rows r)
    → length known ≤ length rows
no_more_rows rows known distinct truth =
    let fewer = no_more (links known) (links rows)
    (IsDistinct-from_AllPairs decides (links known) (distinct_numbers known distinct)) among in
    let a = length-map known (λ (r : TeRow). r.link.0) in
    let b = length-map rows (λ (r : TeRow). r.link.0) in
    omega arith
  where
    among : (n : ℕ) → Contains (links known) n → Contains (links rows) n
    among n h =
        let q = there-from_map (λ (r : TeRow). r.link.0) known n h in
        subst (Contains (links rows)) q.2 (there-map (λ (r : TeRow). r.link.0) rows q.0 (truth q.0 q.1))

-- Ends

turned : (a b : ℕ) → (a == b) ≡ false → (b == a) ≡ false
turned a b h = grind arith

none_equal : (n : ℕ) (ns : List ℕ) → list_any (λ m. m == n) ns ≡ false → AllByRecursion (λ m. (n == m) ≡ false) ns
none_equal n [] h = tt
none_equal n (m ∷ ns) h = by_test (m == n) refl h (none_equal n ns)
  where
    by_test : (b : Bool) → (m == n) ≡ b → (b || list_any (λ k. k == n) ns) ≡ false
        → (list_any (λ k. k == n) ns ≡ false → AllByRecursion (λ k. (n == k) ≡ false) ns)
        → ((n == m) ≡ false) × AllByRecursion (λ k. (n == k) ≡ false) ns
    by_test true e g rest = absurd (cc (g))
    by_test false e g rest = (turned m n e, rest g)

once : (ns : List ℕ) → IsApart ns → IsDistinct ◌==◌ ns
unfolding IsDistinct
once [] apart = tt
once (n ∷ ns) apart = (none_equal n ns apart.0, once ns apart.1)

few_ends : (rows known : List TeRow) → HaveFewEnds rows
    → ((r : TeRow) → Contains known r → Contains rows r) → length (ends_in_rows known) ≤ MOST_NODES
few_ends rows known few truth =
    let fewer = no_more (ends_in_rows known) (map (λ (n : NodeId). n.0) few.0)
    (once (ends_in_rows known) (ends_stand_once known)) among in
    let long = length-map few.0 (λ (n : NodeId). n.0) in
    let most : length few.0 ≤ MOST_NODES = few.1 in
    omega arith
  where
    node_there : (n : ℕ) (m : NodeId) → (m.0 == n) ≡ true → Contains few.0 m
        → Contains (map (λ (k : NodeId). k.0) few.0) n
    node_there n m same there =
        subst (Contains (map (λ (k : NodeId). k.0) few.0)) (equal-is m.0 n same)
        (there-map (λ (k : NodeId). k.0) few.0 m there)

    among : (n : ℕ) → Contains (ends_in_rows known) n → Contains (map (λ (k : NodeId). k.0) few.0) n
    among n h =
        let test = there-any (λ m. m == n) (ends_in_rows known) n h (equal-self n) in
        let found = any-there (is_end (record { 0 = n })) known (sym (ends_are_listed known n) ∙ test) in
        let ends = All-contains (λ r. Contains few.0 r.low × Contains few.0 r.high) rows found.0 few.2
        (truth found.0 found.1) in
        elim (or_cases (found.0.low.0 == n) (found.0.high.0 == n) found.2) [
          | inl low ↦ node_there n found.0.low low ends.0
          | inr high ↦ node_there n found.0.high high ends.1
        ]

-- Room

pub fold_last : (xs : List TeRow) (y : TeRow) (ends : List ℕ)
    → fold with_ends ends (xs ++ y ∷ []) ≡ with_ends (fold with_ends ends xs) y
fold_last [] y ends = refl
fold_last (x ∷ xs) y ends = fold_last xs y (with_ends ends x)

-- a node that knows rows of the network has room for another one of it
pub room_for_row : (rows known : List TeRow) (row : TeRow) → HaveFewEnds rows → length rows ≤ MOST_LINKS
    → ((r : TeRow) → Contains known r → Contains rows r) → HaveDistinctLinks known → Contains rows row
    → is_known known row.link ≡ false → has_room known row ≡ true
room_for_row rows known row few most truth distinct there unknown =
    let ends : length (ends_in_rows (known ++ row ∷ [])) ≤ MOST_NODES = few_ends rows (known ++ row ∷ []) few more in
    let last : ends_in_rows (known ++ row ∷ []) ≡ with_ends (ends_in_rows known) row = fold_last known row [] in
    let fit : length (with_ends (ends_in_rows known) row) ≤ MOST_NODES = subst
    (λ (es : List ℕ). length es ≤ MOST_NODES) last ends in
    let all : length (known ++ row ∷ []) ≤ length rows =
    no_more_rows rows (known ++ row ∷ []) (distinct_push known row distinct unknown) more in
    let long : length (known ++ row ∷ []) ≡ length known + 1 = length-append known (row ∷ []) in
    by_numbers (length known) (length (with_ends (ends_in_rows known) row)) (omega arith) fit
  where
    more : (r : TeRow) → Contains (known ++ row ∷ []) r → Contains rows r
    more r h = elim (Contains-push_cases known row r h) [
      | inl before ↦ truth r before
      | inr is ↦ subst
          (Contains rows) is there
    ]

    by_numbers : (k e : ℕ) → k + 1 ≤ MOST_LINKS → e ≤ MOST_NODES → (nat_lt k MOST_LINKS && nat_le e MOST_NODES) ≡ true
    by_numbers k e less fits = grind arith
