-- Links and their rows: the same ends, the same shared risks, the same walks.
use Rattle.std.proofs.{Common.{◌≡◌, ◌↔◌, inl, inr, ℕ, ◌+◌, Bool, true, false, cond, nat_eq, List, [], ◌∷◌, Option, Some, None, refl, sym, ◌∙◌, ap, subst, arith, map, Contains}, lemmas.List.Elements.{Contains-append_cases, Contains-append_left, Contains-append_right}, lemmas.Bool.{or_right, or_left, or_cases}}
use Rattle.std.specs.{Prelude.{◌&&◌, ◌||◌, find, fold, nat_lt}, List.list_any}
use Rattle.ason_base.specs.{declared.ids.LinkId.LinkId, declared.ids.NodeId.NodeId, declared.network.LinkSpec.LinkSpec, declared.network.TeRow.TeRow, declared.risks.Risk.Risk, declared.risks.Risk.TheVariants.{Srlg, Link}, declared.steps.Step.Step, InOrder.in_order, Network.{Network, are_ends, find_link, has_ends, other_end, row_of, touches}, Risks.{have_common, risks_of}, Routes.{across, is_end, makes_route, one_step, route_end, shares_risk}, Walks.{WalkStep, IsWalk, Joins, NoLink, NoNode}}
use Rattle.ason_base.proofs.{Ordered.{any-there, there-any, in_order-has}, RiskOrder.{common-there, there-common}, RisingNumbers.nat_order, Numbers.self-number, Bools.{and-right, and-left, same-truth}, Members.{contains-head, contains-tail, contains-cases, contains-none}}

-- Tests

pub same_node : (a b : NodeId) → nat_eq a.0 b.0 ≡ true → a ≡ b
same_node a b h = let e : a.0 ≡ b.0 = grind arith in λ i. record { 0 = e i }

-- Ends

pub joins-are_ends : (row : TeRow) (a b : NodeId) → Joins row a b → are_ends row.low row.high a b ≡ true
joins-are_ends row a b (inl (low, high)) =
    let e : nat_eq row.low.0 a.0 ≡ true = rw low (self-number a.0) in
    let f : nat_eq row.high.0 b.0 ≡ true = rw high (self-number b.0) in
    let both : (nat_eq row.low.0 a.0 && nat_eq row.high.0 b.0) ≡ true = rw (e, f) refl in
    or_left (nat_eq row.low.0 a.0 && nat_eq row.high.0 b.0) (nat_eq row.low.0 b.0 && nat_eq row.high.0 a.0) both
joins-are_ends row a b (inr (high, low)) =
    let e : nat_eq row.low.0 b.0 ≡ true = rw low (self-number b.0) in
    let f : nat_eq row.high.0 a.0 ≡ true = rw high (self-number a.0) in
    let both : (nat_eq row.low.0 b.0 && nat_eq row.high.0 a.0) ≡ true = rw (e, f) refl in
    or_right (nat_eq row.low.0 a.0 && nat_eq row.high.0 b.0) (nat_eq row.low.0 b.0 && nat_eq row.high.0 a.0) both

pub are_ends-joins : (row : TeRow) (a b : NodeId) → are_ends row.low row.high a b ≡ true → Joins row a b
are_ends-joins row a b h =
    elim (or_cases (nat_eq row.low.0 a.0 && nat_eq row.high.0 b.0) (nat_eq row.low.0 b.0 && nat_eq row.high.0 a.0) h) [
      | inl e ↦ inl (
        same_node row.low a (and-left _ _ e),
        same_node row.high b (and-right (nat_eq row.low.0 a.0) _ e),
      )
      | inr e ↦ inr (
        same_node row.high a (and-right (nat_eq row.low.0 b.0) _ e),
        same_node row.low b (and-left _ _ e),
      )
    ]

-- a link joins the nodes that its row joins
pub link-joins : (l : LinkSpec) (a b : NodeId) → (has_ends (Some l) a b ≡ true) ↔ Joins (row_of l) a b
link-joins l a b = (are_ends-joins (row_of l) a b, joins-are_ends (row_of l) a b)

-- a link of a node joins it and its other end
pub joins-other_end : (l : LinkSpec) (n : NodeId) → touches n l ≡ true → Joins (row_of l) n (other_end l n)
joins-other_end l n h = go (nat_eq l.low.0 n.0) refl h
  where
    go : (b : Bool) → nat_eq l.low.0 n.0 ≡ b → (b || nat_eq l.high.0 n.0) ≡ true →
        Joins (row_of l) n (cond b l.high l.low)
    go true e t = inl (same_node l.low n e, refl)
    go false e t = inr (same_node l.high n t, refl)

-- Risks

srlg_there : (ns : List ℕ) (n : ℕ) → Contains (map Srlg ns) (Srlg n) → Contains ns n
srlg_there [] n h = absurd (contains-none (Srlg n) h)
srlg_there (m ∷ ns) n h = elim (contains-cases (Srlg m) (Srlg n) (map Srlg ns) h) [
  | inl is ↦ (let e : m ≡ n = cc in subst (λ k. Contains (m ∷ ns) k) e (contains-head m ns))
  | inr later ↦ contains-tail m n ns (srlg_there ns n later)
]

there_srlg : (ns : List ℕ) (n : ℕ) → Contains ns n → Contains (map Srlg ns) (Srlg n)
there_srlg [] n h = absurd (contains-none n h)
there_srlg (m ∷ ns) n h = elim (contains-cases m n ns h) [
  | inl is ↦ subst (λ k. Contains (Srlg m ∷ map Srlg ns) (Srlg k)) is (contains-head (Srlg m) (map Srlg ns))
  | inr later ↦ contains-tail (Srlg m) (Srlg n) (map Srlg ns) (there_srlg ns n later)
]

no_link : (ns : List ℕ) (k : LinkId) → Contains (map Srlg ns) (Link k) → ⊥
no_link [] k h = contains-none (Link k) h
no_link (m ∷ ns) k h = elim (contains-cases (Srlg m) (Link k) (map Srlg ns) h)
    [ inl is ↦ cc | inr later ↦ no_link ns k later ]

srlg_of : (row : TeRow) (n : ℕ) → Contains (risks_of row) (Srlg n) → Contains row.srlgs n
srlg_of row n h = elim (Contains-append_cases (map Srlg row.srlgs) (Link row.link ∷ []) (Srlg n) h) [
  | inl there ↦ srlg_there row.srlgs n there
  | inr there ↦ elim (contains-cases (Link row.link) (Srlg n) [] there) [
    | inl is ↦ absurd (cc)
    | inr later ↦ absurd
        (contains-none (Srlg n) later)
  ]
]

link_of : (row : TeRow) (k : LinkId) → Contains (risks_of row) (Link k) → row.link ≡ k
link_of row k h = elim (Contains-append_cases (map Srlg row.srlgs) (Link row.link ∷ []) (Link k) h) [
  | inl there ↦ absurd (no_link row.srlgs k there)
  | inr there ↦ elim (contains-cases (Link row.link) (Link k) [] there) [
    | inl is ↦ (cc)
    | inr later ↦ absurd
        (contains-none (Link k) later)
  ]
]

-- two links share a risk where their rows have one in common
pub shares_risk-rows : (l m : LinkSpec) → shares_risk (Some l) (Some m) ≡ have_common (risks_of (row_of l))
    (risks_of (row_of m))
shares_risk-rows l m = same-truth _ _ there back
  where
    has : (k : LinkSpec) (n : ℕ) → Contains (in_order nat_lt k.srlgs) n ↔ Contains k.srlgs n
    has k n = in_order-has nat_lt nat_order k.srlgs n

    link_there : (k : LinkSpec) → Contains (risks_of (row_of k)) (Link k.id)
    link_there k = Contains-append_right (map Srlg (row_of k).srlgs) (Link k.id ∷ []) (Link k.id)
        (contains-head (Link k.id) [])

    srlg_in : (k : LinkSpec) (n : ℕ) → Contains k.srlgs n → Contains (risks_of (row_of k)) (Srlg n)
    srlg_in k n h = Contains-append_left (map Srlg (row_of k).srlgs) (Link k.id ∷ []) (Srlg n)
        (there_srlg (row_of k).srlgs n ((has k n).1 h))

    there : shares_risk (Some l) (Some m) ≡ true → have_common (risks_of (row_of l)) (risks_of (row_of m)) ≡ true
    there h = elim (or_cases (nat_eq l.id.0 m.id.0) _ h) [
      | inl e ↦
          (let same : m.id ≡ l.id = (let f : m.id.0 ≡ l.id.0 = grind arith in λ i. record { 0 = f i }) in
          there-common _ _ (Link l.id) (link_there l) (subst (λ k. Contains (risks_of (row_of m)) (Link k)) same
          (link_there m)))
      | inr e ↦
          (let s = any-there (λ s. list_any (λ r. nat_eq r s) m.srlgs) l.srlgs e in
          let r = any-there (λ r. nat_eq r s.0) m.srlgs s.2 in
          let same : r.0 ≡ s.0 = (let t : nat_eq r.0 s.0 ≡ true = r.2 in grind arith) in
          there-common _ _ (Srlg s.0) (srlg_in l s.0 s.1) (srlg_in m s.0 (subst (λ n. Contains m.srlgs n) same r.1)))
    ]

    back_of : (r : Risk) → Contains (risks_of (row_of l)) r → Contains (risks_of (row_of m)) r →
        shares_risk (Some l) (Some m) ≡ true
    back_of (Srlg n) x y =
        or_right (nat_eq l.id.0 m.id.0) _
        (there-any (λ s. list_any (λ r. nat_eq r s) m.srlgs) l.srlgs n ((has l n).0 (srlg_of (row_of l) n x))
        (there-any (λ r. nat_eq r n) m.srlgs n ((has m n).0 (srlg_of (row_of m) n y)) (self-number n)))
    back_of (Link k) x y =
        let same : l.id ≡ m.id = link_of (row_of l) k x ∙ sym (link_of (row_of m) k y) in
        let e : nat_eq l.id.0 m.id.0 ≡ true = rw same (self-number m.id.0) in
        or_left (nat_eq l.id.0 m.id.0) _ e

    back : have_common (risks_of (row_of l)) (risks_of (row_of m)) ≡ true → shares_risk (Some l) (Some m) ≡ true
    back h = let c = common-there (risks_of (row_of l)) (risks_of (row_of m)) h in back_of c.0 c.1 c.2

-- Walks

pub stays_none : (t : Network) (route : List Step) → fold (one_step t) None route ≡ None
stays_none t [] = refl
stays_none t (s ∷ route) = stays_none t route

found-there : (k : LinkId) (links : List LinkSpec) (l : LinkSpec) → find (λ l. nat_eq l.id.0 k.0) links ≡ Some l →
    Contains (map row_of links) (row_of l) × (k ≡ l.id)
found-there k [] l e = cc
found-there k (m ∷ links) l e = go (nat_eq m.id.0 k.0) refl e (found-there k links l)
  where
    go : (b : Bool) → nat_eq m.id.0 k.0 ≡ b → cond b (Some m) (find (λ l. nat_eq l.id.0 k.0) links) ≡ Some l →
        (find (λ l. nat_eq l.id.0 k.0) links ≡ Some l → Contains (map row_of links) (row_of l) × (k ≡ l.id)) →
        Contains (row_of m ∷ map row_of links) (row_of l) × (k ≡ l.id)
    go true f is later =
        let same : m ≡ l = cc in
        let link : k ≡ m.id = (let n : k.0 ≡ m.id.0 = grind arith in λ i. record { 0 = n i }) in (
          subst (λ x. Contains (row_of m ∷ map row_of links) (row_of x)) same
              (contains-head (row_of m) (map row_of links)),
          subst (λ x. k ≡ x.id) same link,
        )
    go false f is later = let h = later is in (contains-tail (row_of m) (row_of l) (map row_of links) h.0, h.1)

-- a route of the network is a walk over the rows of its links
pub route-walk : (t : Network) (a b : NodeId) (route : List Step) → route_end t a route ≡ Some b → (cost : ℕ) ×
    IsWalk (map row_of t.links) NoLink NoNode a b route cost
route-walk t a b [] e = let same : a ≡ b = cc in (0, (same, refl))
route-walk t a b (s ∷ route) e = over (nat_eq s.node.0 a.0) refl (find_link t s.link) refl e
    (λ n h. route-walk t n b route h)
  where
    Rest : Type 0
    Rest = (n : NodeId) → route_end t n route ≡ Some b → (cost : ℕ) ×
        IsWalk (map row_of t.links) NoLink NoNode n b route cost

    Here : Type 0
    Here = (cost : ℕ) × IsWalk (map row_of t.links) NoLink NoNode a b (s ∷ route) cost

    ends : {X : Type 0} → fold (one_step t) None route ≡ Some b → X
    ends h = cc (stays_none t route, h)

    step : (l : LinkSpec) → nat_eq s.node.0 a.0 ≡ true → find_link t s.link ≡ Some l → (on : Bool) →
        touches a l ≡ on → fold (one_step t) (cond on (Some (other_end l a)) None) route ≡ Some b → Rest → Here
    step l node found false on h rest = ends h
    step l node found true on h rest =
        let left = rest (other_end l a) h in
        let there = found-there s.link t.links l found in
        let hop : WalkStep (map row_of t.links) NoLink NoNode a s (row_of l) (other_end l a) = record {
          known = there.0;
          sender = same_node s.node a node;
          link = there.1;
          joins = joins-other_end l a on;
          link_allowed = λ x. x;
          node_allowed = λ x. x;
        } in
        (l.metric + left.0, (row_of l, other_end l a, left.0, hop, left.1, refl))

    over : (at : Bool) → nat_eq s.node.0 a.0 ≡ at → (found : Option LinkSpec) → find_link t s.link ≡ found →
        fold (one_step t) (cond at (across found a) None) route ≡ Some b → Rest → Here
    over false node found f h rest = ends h
    over true node None f h rest = ends h
    over true node (Some l) f h rest = step l node f (touches a l) refl h rest

-- so is a route that makes one
pub makes_route-walk : (t : Network) (a b : NodeId) (route : List Step) → makes_route t a b route ≡ true →
    (cost : ℕ) × IsWalk (map row_of t.links) NoLink NoNode a b route cost
makes_route-walk t a b route h = route-walk t a b route
    (ended (route_end t a route) (and-left (is_end (route_end t a route) b) _ h))
  where
    ended : (end : Option NodeId) → is_end end b ≡ true → end ≡ Some b
    ended None e = cc
    ended (Some n) e = ap Some (same_node n b e)
