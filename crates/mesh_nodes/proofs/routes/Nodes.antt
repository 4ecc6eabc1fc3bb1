-- The routes that a node finds over the links that it knows.
use Rattle.std.proofs.{Common.{◌≡◌, ◌≢◌, ◌≤◌, ◌⊎◌, inl, inr, ℕ, Bool, true, false, cond, nat_eq, nat_lt, List, [], ◌∷◌, filter, get_or, length, map, refl, sym, ap, ◌∙◌, subst, arith, Contains, leb-true}, lemmas.List.Elements.{All-contains, Contains-append_cases, Contains-get_or}, lemmas.Bool.not-true}
use Rattle.std.specs.{Prelude.{◌||◌, not, Some, find, nat_le}, List.{list_all, list_any}}
use Rattle.ason_base.specs.{declared.limits.TheConstants.MOST_METRIC, Network.{Network, find_link, is_distinct, row_of, touches}, Walks.{HaveMetrics, IsWalk, Joins, NoLink, NoNode}, declared.ids.LinkId.LinkId, declared.ids.NodeId.NodeId, declared.network.LinkSpec.LinkSpec, declared.network.TeRow.TeRow, declared.steps.Step.Step}
use Rattle.ason_base.proofs.{Ordered.there-any, Numbers.less-by_test, Members.{contains-cases, contains-head, contains-tail, there-map, kept-there, there-from_map, contains-none}, Bools.{and-left, and-right}}
use Rattle.mesh_rules.specs.{declared.limits.TheConstants.MOST_LINKS_OF_ROUTE, Commands.{has_metric, is_searchable}, KnownRows.known_rows, LeastRoutes.trips, LocalNodes.{LocalNode, is_link_there, local_node, own_link}, Setups.is_followable, State.NodeState}
use Rattle.mesh_nodes.specs.Routes.{AreRowsOf, FoundBackupsLead, FoundRoutesAreFollowed, FoundRoutesLead, IsElsewhere, IsRowOf, RowsFit}
use Rattle.mesh_nodes.proofs.{routes.Least.chosen-is, routes.Makes.{backup-over, found-over}, routes.Walked.{each-leads, node_test}}

-- Links that are found by their numbers

pub same_number : (a b : LinkId) → a ≡ b → nat_eq a.0 b.0 ≡ true
same_number a b e = let n : a.0 ≡ b.0 = ap (λ (k : LinkId). k.0) e in grind arith

-- a link of this number stands in the list
abbrev stands_again : LinkSpec → List LinkSpec → Bool
stands_again m links = list_any (λ y. nat_eq y m.id.0) (map (λ k. k.id.0) links)

pub found-link : (links : List LinkSpec) (l : LinkSpec) → is_distinct (map (λ m. m.id.0) links) ≡ true →
    Contains links l → find (λ m. nat_eq m.id.0 l.id.0) links ≡ Some l
found-link [] l once there = absurd (contains-none l there)
found-link (m ∷ links) l once there =
    go (nat_eq m.id.0 l.id.0) refl (contains-cases m l links there)
    (found-link links l (and-right (not (stands_again m links)) _ once))
  where
    go : (b : Bool) → nat_eq m.id.0 l.id.0 ≡ b → (m ≡ l) ⊎ Contains links l →
        (Contains links l → find (λ k. nat_eq k.id.0 l.id.0) links ≡ Some l) →
        cond b (Some m) (find (λ k. nat_eq k.id.0 l.id.0) links) ≡ Some l
    go true e (inl is) later = ap Some is
    go false e (inl is) later = let same = same_number m.id l.id (ap (λ (k : LinkSpec). k.id) is) in absurd
        (cc (same, e))
    go true e (inr at) later =
        let none : stands_again m links ≡ false = not-true (stands_again m links)
        (and-left (not (stands_again m links)) _ once) in
        let back : nat_eq l.id.0 m.id.0 ≡ true = grind arith in
        let twice : stands_again m links ≡ true =
        there-any (λ y. nat_eq y m.id.0) (map (λ k. k.id.0) links) l.id.0
        (there-map (λ k. k.id.0) links l at) back in
        absurd (cc (none, twice))
    go false e (inr at) later = later at

pub find-there : (p : LinkSpec → Bool) (links : List LinkSpec) (l : LinkSpec) → find p links ≡ Some l → Contains links l
find-there p [] l e = absurd (cc e)
find-there p (m ∷ links) l e = go (p m) e (find-there p links l)
  where
    go : (b : Bool) → cond b (Some m) (find p links) ≡ Some l → (find p links ≡ Some l → Contains links l) →
        Contains (m ∷ links) l
    go true is later = let same : m ≡ l = cc is in subst (Contains (m ∷ links)) same (contains-head m links)
    go false is later = contains-tail m l links (later is)

any-found : (p : LinkSpec → Bool) (links : List LinkSpec) → list_any p links ≡ true →
    is_link_there (find p links) ≡ true
any-found p [] e = absurd (cc e)
any-found p (m ∷ links) e = go (p m) e (any-found p links)
  where
    go : (b : Bool) → (b || list_any p links) ≡ true → (list_any p links ≡ true → is_link_there (find p links) ≡ true) →
        is_link_there (cond b (Some m) (find p links)) ≡ true
    go true f later = refl
    go false f later = later f

all-there : {X : Type 0} (p : X → Bool) (xs : List X) (x : X) → list_all p xs ≡ true → Contains xs x → p x ≡ true
all-there p [] x e there = absurd (contains-none x there)
all-there p (y ∷ xs) x e there = elim (contains-cases y x xs there) [
  | inl is ↦ subst (λ z. p z ≡ true) is (and-left (p y) _ e)
  | inr later ↦ all-there p xs x (and-right (p y) _ e) later
]

-- Rows of a network

pub known-are : (t : Network) (n : NodeId) (s : NodeState) → is_searchable t ≡ true → AreRowsOf t s.learnt →
    AreRowsOf t (known_rows (local_node t n) s)
known-are t n s searchable are row there =
    elim (Contains-append_cases (map row_of (filter (touches n) t.links)) s.learnt row there) [
      | inl mine ↦
          (let own = there-from_map row_of (filter (touches n) t.links) row mine in
          let kept = kept-there (touches n) t.links own.0 own.1 in
          let link : row.link ≡ own.0.id = sym (ap (λ (r : TeRow). r.link) own.2) in
          record {
            link = own.0;
            found = ap (find_link t) link ∙ found-link t.links own.0
                (and-left _ (list_all has_metric t.links) searchable) kept.0;
            is = sym own.2;
          })
      | inr theirs ↦ are row theirs
    ]

pub metrics-are : (t : Network) (rows : List TeRow) → is_searchable t ≡ true → AreRowsOf t rows → HaveMetrics rows
metrics-are t rows searchable are k d below =
    let row = get_or rows k d in
    let is : IsRowOf t row = are row (Contains-get_or rows k d below) in
    let there = find-there (λ m. nat_eq m.id.0 row.link.0) t.links is.link is.found in
    let metrics = and-right (is_distinct (map (λ l. l.id.0) t.links)) (list_all has_metric t.links) searchable in
    let metric : has_metric is.link ≡ true = all-there has_metric t.links is.link metrics there in
    let same : row.metric ≡ is.link.metric = ap (λ (r : TeRow). r.metric) is.is in
    let low : 1 ≤ is.link.metric = leb-true 1 is.link.metric (and-left _ (nat_le is.link.metric MOST_METRIC) metric) in
    let high : is.link.metric ≤ MOST_METRIC = leb-true is.link.metric MOST_METRIC
    (and-right (nat_le 1 is.link.metric) _ metric) in
    (omega arith, omega arith)

pub found-leads : FoundRoutesLead
found-leads t n b s r searchable are e =
    let rows = known_rows (local_node t n) s in
    let known : AreRowsOf t rows = known-are t n s searchable are in
    found-over t rows n b r known (metrics-are t rows searchable known) e

pub found-backups-lead : FoundBackupsLead
found-backups-lead t n b s primary r searchable are e =
    let rows = known_rows (local_node t n) s in
    let known : AreRowsOf t rows = known-are t n s searchable are in
    backup-over t rows primary n b r known (metrics-are t rows searchable known) e

-- The first step of a route that is found is over a link of the node

module _ (p : LocalNode) (s : NodeState) (fit : RowsFit p s) where
  own-there : (row : TeRow) (next : NodeId) → Contains (known_rows p s) row → Joins row p.id next →
      is_link_there (own_link p row.link) ≡ true
  own-there row next known joins = elim (Contains-append_cases (map row_of p.own) s.learnt row known) [
    | inl mine ↦
        (let own = there-from_map row_of p.own row mine in
        any-found (λ l. nat_eq l.id.0 row.link.0) p.own
        (there-any (λ l. nat_eq l.id.0 row.link.0) p.own own.0 own.1
        (same_number own.0.id row.link (ap (λ (r : TeRow). r.link) own.2))))
    | inr theirs ↦
        (let elsewhere = All-contains (IsElsewhere p.id) s.learnt row fit.others theirs in
        elim joins [ inl up ↦ absurd (elsewhere.0 up.0) | inr down ↦ absurd (elsewhere.1 down.0) ])
  ]

  followed : (b : NodeId) → p.id ≢ b → (steps : List Step) (cost : ℕ) →
      IsWalk (known_rows p s) NoLink NoNode p.id b steps cost →
      length steps ≤ MOST_LINKS_OF_ROUTE → is_followable p (Some steps) ≡ true
  followed b away [] cost walk few = absurd (away walk.0)
  followed b away (h ∷ steps) cost walk few =
      let here : nat_eq h.node.0 p.id.0 ≡ true = node_test h.node p.id walk.3.sender in
      let short : nat_lt (length steps) MOST_LINKS_OF_ROUTE ≡ true = less-by_test (length steps) MOST_LINKS_OF_ROUTE few in
      let there : is_link_there (own_link p h.link) ≡ true =
      subst (λ k. is_link_there (own_link p k) ≡ true) (sym walk.3.link)
      (own-there walk.0 walk.1 walk.3.known walk.3.joins) in
      rw (here, short) there

pub found-followed : FoundRoutesAreFollowed
found-followed p s b r fit away e =
    let is = chosen-is (trips (known_rows p s) MOST_LINKS_OF_ROUTE p.id b) r e in
    let leads = each-leads (known_rows p s) MOST_LINKS_OF_ROUTE p.id b r is.there in
    followed p s fit b away r.steps r.cost leads.0 leads.1
