-- The risks of a route, row by row.
use Rattle.std.proofs.{Common.{◌≡◌, ◌↔◌, inl, inr, ℕ, true, nat_eq, arith, ◌+◌, ◌<◌, List, [], ◌∷◌, ◌++◌, length, get_or, take, sym, ◌∙◌, ap, subst}, lemmas.List.take_more, lemmas.List.Elements.{Contains-append_left, Contains-append_right, Contains-append_cases, Contains-push, Contains-push_cases}}
use Rattle.std.specs.{List.{Contains, flat_map}, Prelude.filter}
use Rattle.ason_base.specs.{Risks.{HasRisk, AreRising, is_below, passes, risks_of, route_risks}, declared.ids.LinkId.LinkId, declared.network.TeRow.TeRow, declared.risks.Risk.Risk, declared.steps.Step.Step}
use Rattle.ason_base.proofs.{Ordered.{any-there, there-any, in_order-has, in_order-rises, rising_once}, RiskOrder.risk_order, Members.{there-kept, kept-there, contains-head, contains-tail, contains-cases, contains-none}}

abbrev pub Passes : List Step → LinkId → Type 0
Passes route l = (s : Step) × Contains route s × (l ≡ s.link)

-- the risks are those that the rows give to the route
abbrev pub AreRisks : List TeRow → List Step → List Risk → Type 0
AreRisks rows route risks = (r : Risk) → Contains risks r ↔ HasRisk rows route r

pub taken : (rows : List TeRow) (i : ℕ) (row : TeRow) → i < length rows → row ≡ get_or rows i row →
    take (i + 1) rows ≡ take i rows ++ row ∷ []
taken rows i row within same = take_more rows i row within ∙ ap (λ x. take i rows ++ x ∷ []) (sym same)

pub added : (rows : List TeRow) (row : TeRow) (route : List Step) (old : List Risk) → AreRisks rows route old →
    Passes route row.link → AreRisks (rows ++ row ∷ []) route (old ++ risks_of row)
added rows row route old are passes r = (
  (λ h. elim (Contains-append_cases old (risks_of row) r h) [
    | inl before ↦ (let has = (are r).0 before in
        (has.0, has.1, Contains-append_left rows (row ∷ []) has.0 has.2, has.3, has.4, has.5))
    | inr here ↦ (row, passes.0, Contains-push rows row, passes.1, passes.2, here)
  ]),
  (λ has. elim (Contains-push_cases rows row has.0 has.2) [
    | inl before ↦ Contains-append_left old (risks_of row) r ((are r).1 (has.0, has.1, before, has.3, has.4, has.5))
    | inr same ↦ Contains-append_right old (risks_of row) r (subst (λ x. Contains (risks_of x) r) (sym same) has.5)
  ]),
)

pub skipped : (rows : List TeRow) (row : TeRow) (route : List Step) (old : List Risk) → AreRisks rows route old →
    ¬ Passes route row.link → AreRisks (rows ++ row ∷ []) route old
skipped rows row route old are misses r = (
  (λ h. let has = (are r).0 h in (has.0, has.1, Contains-append_left rows (row ∷ []) has.0 has.2, has.3, has.4, has.5)),
  (λ has. elim (Contains-push_cases rows row has.0 has.2) [
    | inl before ↦ (are r).1 (has.0, has.1, before, has.3, has.4, has.5)
    | inr same ↦ absurd (misses (subst (λ x. Passes route x.link) (sym same) (has.1, has.3, has.4)))
  ]),
)

pub both : (rows : List TeRow) (route : List Step) (xs ys : List Risk) → AreRisks rows route ys →
    ((r : Risk) → Contains xs r ↔ Contains ys r) → AreRisks rows route xs
both rows route xs ys are same r = ((λ h. (are r).0 ((same r).0 h)), (λ h. (same r).1 ((are r).1 h)))

-- The risks as a function

flat-there : (rows : List TeRow) (r : Risk) → Contains (flat_map risks_of rows) r → (row : TeRow) ×
    Contains rows row × Contains (risks_of row) r
flat-there [] r h = absurd (contains-none r h)
flat-there (row ∷ rows) r h =
    elim (Contains-append_cases (risks_of row) (flat_map risks_of rows) r h) [
      | inl here ↦ (row, contains-head row rows, here)
      | inr later ↦ (let there = flat-there rows r later in (there.0, contains-tail row there.0 rows there.1, there.2))
    ]

there-flat : (rows : List TeRow) (row : TeRow) (r : Risk) → Contains rows row → Contains (risks_of row) r →
    Contains (flat_map risks_of rows) r
there-flat [] row r there here = absurd (contains-none row there)
there-flat (first ∷ rows) row r there here =
    elim (contains-cases first row rows there) [
      | inl is ↦ Contains-append_left (risks_of first) (flat_map risks_of rows) r
          (subst (λ x. Contains (risks_of x) r) (sym is) here)
      | inr later ↦ Contains-append_right (risks_of first) (flat_map risks_of rows) r (there-flat rows row r later here)
    ]

pub same_link : (k l : LinkId) → nat_eq k.0 l.0 ≡ true → k ≡ l
same_link k l h = let e : k.0 ≡ l.0 = grind arith in λ i. record { 0 = e i }

pub passes-there : (route : List Step) (l : LinkId) → passes route l ≡ true → Passes route l
passes-there route l h = let there = any-there (λ s. nat_eq s.link.0 l.0) route h in
    (there.0, there.1, sym (same_link there.0.link l there.2))

pub there-passes : (route : List Step) (l : LinkId) → Passes route l → passes route l ≡ true
there-passes route l (s, there, is) = there-any (λ s. nat_eq s.link.0 l.0) route s there
    (let e : l.0 ≡ s.link.0 = ap (λ k. k.0) is in grind arith)

-- the risks of a route are just those that one of its links has
pub route_risks-are : (rows : List TeRow) (route : List Step) → AreRisks rows route (route_risks rows route)
route_risks-are rows route r =
    let on = filter (λ (row : TeRow). passes route row.link) rows in
    let ordered = in_order-has is_below risk_order (flat_map risks_of on) r in (
      (λ h.
          let found = flat-there on r (ordered.0 h) in
          let kept = kept-there (λ (row : TeRow). passes route row.link) rows found.0 found.1 in
          let way = passes-there route found.0.link kept.1 in
          (found.0, way.0, kept.0, way.1, way.2, found.2)),
      (λ has.
          ordered.1 (there-flat on has.0 r
          (there-kept (λ (row : TeRow). passes route row.link) rows has.0 has.2
          (there-passes route has.0.link (has.1, has.3, has.4))) has.5)),
    )

pub route_risks-rise : (rows : List TeRow) (route : List Step) → AreRising (route_risks rows route)
route_risks-rise rows route = (in_order-rises is_below risk_order
    (flat_map risks_of (filter (λ (row : TeRow). passes route row.link) rows))).pairs

-- a rising list of the route's risks is that list
pub risks-exact : (rows : List TeRow) (route : List Step) (risks : List Risk) → AreRising risks →
    AreRisks rows route risks → risks ≡ route_risks rows route
risks-exact rows route risks rising are =
    rising_once is_below risk_order risks (route_risks rows route) (record { pairs = rising })
    (record { pairs = route_risks-rise rows route })
    (λ r there. (route_risks-are rows route r).1 ((are r).0 there))
    (λ r there. (are r).1 ((route_risks-are rows route r).0 there))
