-- A group that is a risk of a route is among the risks that are recorded of it, and isn't a risk of a route beside it.
use Rattle.std.proofs.{Common.{◌≡◌, ℕ, Bool, true, false, nat_eq, nat_lt, List, [], ◌∷◌, ◌++◌, map, refl, sym, ap, ◌∙◌, subst, arith, inl, inr, Contains}, lemmas.List.Elements.{Contains-append_cases, Contains-append_left}, lemmas.Bool.or_right}
use Rattle.std.specs.{Prelude.{◌||◌, Option, Some, None}, List.list_any}
use Rattle.ason_base.specs.{InOrder.in_order, Network.{Network, find_link, is_distinct, row_of}, Risks.{has_risk, risks_of, route_risks}, Routes.{routes_share_risk, shares_risk}, declared.commands.Group.Group, declared.ids.LinkId.LinkId, declared.network.LinkSpec.LinkSpec, declared.network.TeRow.TeRow, declared.risks.Risk.Risk, declared.risks.Risk.TheVariants.{Srlg, Link}, declared.steps.Step.Step}
use Rattle.ason_base.specs.declared.commands.Group.TheVariants as group
use Rattle.ason_base.proofs.{Ordered.{any-there, in_order-has, there-any}, RisingNumbers.nat_order, RiskOrder.{contains-has_risk, has_risk-contains}, RiskUnion.route_risks-are, Finding.found-passes, Members.{contains-cases, there-map, there-from_map, contains-none}, Numbers.self-number}
use Rattle.mesh_rules.specs.Failures.{is_risk_of}
use Rattle.mesh_nodes.proofs.routes.Nodes.{find-there, found-link}
use Rattle.lsp_laws.specs.RiskLaw.{rows_of}
use Rattle.mesh_laws.specs.AloneLaw.{is_on_link, is_on_route, is_risk_there, risk_of}

-- Tests of lists

-- Links

-- an SRLG of a link, in whatever order these stand
srlg-there : (s : ℕ) (srlgs : List ℕ) (more : List Risk) → list_any (λ r. nat_eq r s) srlgs ≡ true →
    has_risk (map Srlg (in_order nat_lt srlgs) ++ more) (Srlg s) ≡ true
srlg-there s srlgs more e =
    let one = any-there (λ r. nat_eq r s) srlgs e in
    let is : one.0 ≡ s = (let test = one.2 in grind arith) in
    let there : Contains (in_order nat_lt srlgs) s =
    (in_order-has nat_lt nat_order srlgs s).1 (subst (Contains srlgs) is one.1) in
    contains-has_risk (map Srlg (in_order nat_lt srlgs) ++ more) (Srlg s)
    (Contains-append_left (map Srlg (in_order nat_lt srlgs)) more (Srlg s)
    (there-map Srlg (in_order nat_lt srlgs) s there))

link-there : (k l : LinkId) (srlgs : List ℕ) → nat_eq l.0 k.0 ≡ true →
    has_risk (map Srlg srlgs ++ (Link l ∷ [])) (Link k) ≡ true
link-there k l [] e = let self-number : nat_eq k.0 l.0 ≡ true = grind arith in rw self-number refl
link-there k l (r ∷ srlgs) e = link-there k l srlgs e

-- a group of a link is one of its risks
pub group-risk : (g : Group) (l : LinkSpec) → is_risk_of l g ≡ true → has_risk (risks_of (row_of l)) (risk_of g) ≡ true
group-risk (group.Srlg s) l e = srlg-there s l.srlgs (Link l.id ∷ []) e
group-risk (group.Link k) l e = link-there k l.id (in_order nat_lt l.srlgs) e

-- and so the other way round
srlg-of : (s : ℕ) (l : LinkSpec) → Contains (risks_of (row_of l)) (Srlg s) → list_any (λ r. nat_eq r s) l.srlgs ≡ true
srlg-of s l there = elim (Contains-append_cases (map Srlg (in_order nat_lt l.srlgs)) (Link l.id ∷ []) (Srlg s) there) [
  | inl srlgs ↦ (let one = there-from_map Srlg (in_order nat_lt l.srlgs) (Srlg s) srlgs in
      let is : one.0 ≡ s = cc (one.2) in
      there-any (λ r. nat_eq r s) l.srlgs one.0 ((in_order-has nat_lt nat_order l.srlgs one.0).0 one.1)
      (rw is (self-number s)))
  | inr itself ↦ elim (contains-cases (Link l.id) (Srlg s) [] itself) [
    | inl is ↦ absurd (cc is)
    | inr none ↦ absurd (contains-none (Srlg s) none)
  ]
]

link-of : (k : LinkId) (l : LinkSpec) → Contains (risks_of (row_of l)) (Link k) → nat_eq l.id.0 k.0 ≡ true
link-of k l there = elim (Contains-append_cases (map Srlg (in_order nat_lt l.srlgs)) (Link l.id ∷ []) (Link k) there) [
  | inl srlgs ↦ (let one = there-from_map Srlg (in_order nat_lt l.srlgs) (Link k) srlgs in absurd (cc (one.2)))
  | inr itself ↦ elim (contains-cases (Link l.id) (Link k) [] itself) [
    | inl is ↦ (let one : l.id ≡ k = cc is in rw one (self-number k.0))
    | inr none ↦ absurd (contains-none (Link k) none)
  ]
]

risk-group : (g : Group) (l : LinkSpec) → Contains (risks_of (row_of l)) (risk_of g) → is_risk_of l g ≡ true
risk-group (group.Srlg s) l there = srlg-of s l there
risk-group (group.Link k) l there = link-of k l there

-- two links with one group share a risk
pub common-risk : (g : Group) (l m : LinkSpec) → is_risk_of l g ≡ true → is_risk_of m g ≡ true →
    shares_risk (Some l) (Some m) ≡ true
common-risk (group.Srlg s) l m on_l on_m =
    or_right (nat_eq l.id.0 m.id.0) _ (one l.srlgs on_l)
  where
    one : (srlgs : List ℕ) → list_any (λ r. nat_eq r s) srlgs ≡ true →
        list_any (λ s. list_any (λ r. nat_eq r s) m.srlgs) srlgs ≡ true
    one [] e = absurd (cc e)
    one (r ∷ srlgs) e = go (nat_eq r s) refl e (one srlgs)
      where
        go : (b : Bool) → nat_eq r s ≡ b → (b || list_any (λ r. nat_eq r s) srlgs) ≡ true →
            (list_any (λ r. nat_eq r s) srlgs ≡ true →
            list_any (λ s. list_any (λ r. nat_eq r s) m.srlgs) srlgs ≡ true) →
            (list_any (λ q. nat_eq q r) m.srlgs || list_any (λ s. list_any (λ r. nat_eq r s) m.srlgs) srlgs) ≡ true
        go true test e later =
            let is : r ≡ s = grind arith in
            let here : list_any (λ q. nat_eq q r) m.srlgs ≡ true = rw is on_m in
            rw here refl
        go false test e later = or_right (list_any (λ q. nat_eq q r) m.srlgs) _ (later e)
common-risk (group.Link k) l m on_l on_m = let self-number : nat_eq l.id.0 m.id.0 ≡ true = grind arith in rw self-number refl

module _ (t : Network) (g : Group) where
  -- the link that is found
  pub link-found : (k : LinkId) → is_on_link t g k ≡ true → (l : LinkSpec) × (find_link t k ≡ Some l) ×
      (is_risk_of l g ≡ true)
  link-found k e = go (find_link t k) refl e
    where
      go : (c : Option LinkSpec) → find_link t k ≡ c → is_risk_there c g ≡ true → (l : LinkSpec) ×
          (find_link t k ≡ Some l) × (is_risk_of l g ≡ true)
      go None is e = absurd (cc e)
      go (Some l) is e = (l, is, e)

  -- Routes

  pub recorded-risk : (route : List Step) → is_on_route t g route ≡ true →
      has_risk (route_risks (rows_of t) route) (risk_of g) ≡ true
  recorded-risk route e =
      let hop = any-there (λ (h : Step). is_on_link t g h.link) route e in
      let its = link-found hop.0.link hop.2 in
      let l : LinkSpec = its.0 in
      let there = find-there (λ m. nat_eq m.id.0 hop.0.link.0) t.links l its.1 in
      let number : nat_eq l.id.0 hop.0.link.0 ≡ true =
      found-passes (λ m. nat_eq m.id.0 hop.0.link.0) t.links l its.1 in
      let self-number : l.id ≡ hop.0.link = (let n : l.id.0 ≡ hop.0.link.0 = grind arith in λ i. record { 0 = n i }) in
      contains-has_risk (route_risks (rows_of t) route) (risk_of g)
      ((route_risks-are (rows_of t) route (risk_of g)).1 (
        row_of l,
        hop.0,
        there-map row_of t.links l there,
        hop.1,
        self-number,
        has_risk-contains (risks_of (row_of l)) (risk_of g) (group-risk g l its.2),
      ))

  -- and the group of a recorded risk is on the route, where no two links have one number
  pub risk-recorded : is_distinct (map (λ (l : LinkSpec). l.id.0) t.links) ≡ true → (route : List Step) →
      has_risk (route_risks (rows_of t) route) (risk_of g) ≡ true → is_on_route t g route ≡ true
  risk-recorded distinct route e =
      let has = (route_risks-are (rows_of t) route (risk_of g)).0
      (has_risk-contains (route_risks (rows_of t) route) (risk_of g) e) in
      let l = there-from_map row_of t.links has.0 has.2 in
      let found : find_link t l.0.id ≡ Some l.0 = found-link t.links l.0 distinct l.1 in
      let one : l.0.id ≡ has.1.link = ap (λ (row : TeRow). row.link) l.2 ∙ has.4 in
      let its : is_risk_of l.0 g ≡ true =
      risk-group g l.0 (subst (λ (row : TeRow). Contains (risks_of row) (risk_of g)) (sym l.2) has.5) in
      let on : is_on_link t g has.1.link ≡ true = rw (← one, found) its in
      there-any (λ (h : Step). is_on_link t g h.link) route has.1 has.3 on

  pub not_beside : (a b : List Step) → routes_share_risk t a b ≡ false → is_on_route t g a ≡ true →
      is_on_route t g b ≡ true → ⊥
  not_beside a b apart on_a on_b =
      let h = any-there (λ (x : Step). is_on_link t g x.link) a on_a in
      let k = any-there (λ (x : Step). is_on_link t g x.link) b on_b in
      let at_h = link-found h.0.link h.2 in
      let at_k = link-found k.0.link k.2 in
      let share : shares_risk (find_link t h.0.link) (find_link t k.0.link) ≡ true =
      rw (at_h.1, at_k.1) (common-risk g at_h.0 at_k.0 at_h.2 at_k.2) in
      let all : routes_share_risk t a b ≡ true =
      there-any (λ (x : Step). list_any (λ (y : Step). shares_risk (find_link t x.link) (find_link t y.link)) b) a h.0
      h.1 (there-any (λ (y : Step). shares_risk (find_link t h.0.link) (find_link t y.link)) b k.0 k.1 share) in
      cc (all, apart)
