-- A backup that a node finds beside a route stands beside it in the network.
use Rattle.std.proofs.{Common.{◌≡◌, ◌≢◌, ◌⊎◌, inl, inr, ℕ, Bool, true, false, cond, not, nat_eq, List, [], ◌∷◌, ◌++◌, filter, map, drop, refl, sym, ap, ◌∙◌, subst, arith, Contains}, lemmas.Bool.{and_from, not-true}}
use Rattle.std.specs.{Prelude.{◌||◌, Some, find, is_some}, List.list_any}
use Rattle.ason_base.specs.{Network.{Network, find_link, is_distinct, row_of}, Risks.{AreRiskDisjoint, HasRisk, has_link_row, risks_of, unknown_link}, Routes.{inner_nodes, is_beside, is_end, makes_route, nodes_of, route_end, routes_share_node, routes_share_risk, shares_risk}, Walks.{IsBackup, IsWalk, NoLink, NoNode}, declared.ids.NodeId.NodeId, declared.network.TeRow.TeRow, declared.risks.Risk.Risk, declared.steps.Step.Step}
use Rattle.ason_base.proofs.{Bridges.shares_risk-rows, Ordered.any-there, RiskOrder.common-there, Bools.{not-from, and-left, and-right}, Members.{contains-cases, contains-head, contains-tail, there-from_map, contains-none}, RiskUnion.same_link}
use Rattle.mesh_rules.specs.{declared.limits.TheConstants.MOST_LINKS_OF_ROUTE, KnownRows.known_rows, LeastRoutes.{Trip, is_backup_route, trips}, LocalNodes.local_node}
use Rattle.mesh_nodes.specs.Routes.{AreRowsOf, FoundBackupsStandBeside}
use Rattle.mesh_nodes.proofs.{routes.Backups.backup-is, routes.Least.chosen-is, routes.Nodes.{found-backups-lead, known-are}, routes.Walked.node_test}

-- Links that are known

-- each link of the route has a row
pub knows-each : (rows : List TeRow) (route : List Step) → is_some (unknown_link rows route) ≡ false → (s : Step) →
    Contains route s → has_link_row rows s.link ≡ true
knows-each rows [] not-from s there = absurd (contains-none s there)
knows-each rows (h ∷ route) not-from s there =
    go (has_link_row rows h.link) refl not-from (contains-cases h s route there)
    (λ later. knows-each rows route later s)
  where
    go : (b : Bool) → has_link_row rows h.link ≡ b →
        is_some (cond (not b) (Some h.link) (find (λ l. not (has_link_row rows l)) (map (λ s. s.link) route))) ≡ false →
        (h ≡ s) ⊎ Contains route s →
        (is_some (unknown_link rows route) ≡ false → Contains route s → has_link_row rows s.link ≡ true) →
        has_link_row rows s.link ≡ true
    go false e not-from at later = absurd (cc not-from)
    go true e not-from (inl is) later = subst (λ x. has_link_row rows x.link ≡ true) is e
    go true e not-from (inr behind) later = later not-from behind

-- a row of the step's link
record HasRow (rows : List TeRow) (s : Step) : Type 0 where
  row : TeRow
  known : Contains rows row
  link : row.link ≡ s.link

EachHasRow : List TeRow → List Step → Type 0
EachHasRow rows route = (s : Step) → Contains route s → HasRow rows s

primary-rows : (rows : List TeRow) (route : List Step) → is_some (unknown_link rows route) ≡ false →
    EachHasRow rows route
unfolding EachHasRow
primary-rows rows route not-from s there =
    let row = any-there (λ r. nat_eq r.link.0 s.link.0) rows (knows-each rows route not-from s there) in
    record { row = row.0; known = row.1; link = same_link row.0.link s.link row.2 }

walk-rows : (rows : List TeRow) (b : NodeId) (steps : List Step) (a : NodeId) (cost : ℕ) →
    IsWalk rows NoLink NoNode a b steps cost → EachHasRow rows steps
unfolding EachHasRow
walk-rows rows b [] a cost walk s there = absurd (contains-none s there)
walk-rows rows b (h ∷ steps) a cost walk s there = elim (contains-cases h s steps there) [
  | inl is ↦ record { row = walk.0; known = walk.3.known; link = sym walk.3.link ∙ ap (λ (x : Step). x.link) is }
  | inr later ↦ walk-rows rows b steps walk.1 walk.2 walk.4 s later
]

-- Risks

module _ (t : Network) (rows : List TeRow) (are : AreRowsOf t rows) where
  -- links of the network that share a risk have one in common among their rows
  shared-risk : (a b : List Step) (h k : Step) → HasRow rows h → HasRow rows k → Contains a h → Contains b k →
      shares_risk (find_link t h.link) (find_link t k.link) ≡ true → (r : Risk) × HasRisk rows a r × HasRisk rows b r
  shared-risk a b h k mine theirs there there' shares =
      let this = are mine.row mine.known in
      let that = are theirs.row theirs.known in
      let found : find_link t h.link ≡ Some this.link = ap (find_link t) (sym mine.link) ∙ this.found in
      let found' : find_link t k.link ≡ Some that.link = ap (find_link t) (sym theirs.link) ∙ that.found in
      let specs : shares_risk (Some this.link) (Some that.link) ≡ true = rw (found, found') at shares in
      let r = common-there (risks_of (row_of this.link)) (risks_of (row_of that.link))
      (sym (shares_risk-rows this.link that.link) ∙ specs) in (
        r.0,
        (mine.row, h, mine.known, there, mine.link, subst (λ (q : TeRow). Contains (risks_of q) r.0) (sym this.is) r.1),
        (
          theirs.row,
          k,
          theirs.known,
          there',
          theirs.link,
          subst (λ (q : TeRow). Contains (risks_of q) r.0) (sym that.is) r.2,
        ),
      )

  no-risk : (primary route : List Step) → EachHasRow rows primary → EachHasRow rows route →
      AreRiskDisjoint rows route primary → routes_share_risk t primary route ≡ true → ⊥
  unfolding EachHasRow
  no-risk primary route mine theirs disjoint shares =
      let h = any-there (λ h. list_any (λ k. shares_risk (find_link t h.link) (find_link t k.link)) route) primary
      shares in
      let k = any-there (λ k. shares_risk (find_link t h.0.link) (find_link t k.link)) route h.2 in
      let r = shared-risk primary route h.0 k.0 (mine h.0 h.1) (theirs k.0 k.1) h.1 k.1 k.2 in
      disjoint r.0 r.2 r.1

-- Nodes between the ends

contains-behind : (xs : List ℕ) (x : ℕ) → Contains (drop 1 xs) x → Contains xs x
contains-behind [] x there = absurd (contains-none x there)
contains-behind (y ∷ xs) x there = contains-tail y x xs there

any-of : (xs : List ℕ) (x z : ℕ) → Contains xs x → list_any (λ y. nat_eq y z) xs ≡ false → nat_eq x z ≡ false
any-of [] x z there e = absurd (contains-none x there)
any-of (y ∷ xs) x z there e = go (nat_eq y z) refl e (contains-cases y x xs there) (any-of xs x z)
  where
    go : (b : Bool) → nat_eq y z ≡ b → (b || list_any (λ w. nat_eq w z) xs) ≡ false → (y ≡ x) ⊎ Contains xs x →
        (Contains xs x → list_any (λ w. nat_eq w z) xs ≡ false → nat_eq x z ≡ false) → nat_eq x z ≡ false
    go true h e at later = absurd (cc e)
    go false h e (inl is) later = subst (λ w. nat_eq w z ≡ false) is h
    go false h e (inr behind) later = later behind e

contains-front : (xs : List ℕ) (e x : ℕ) → Contains xs x → Contains (xs ++ e ∷ []) x
contains-front [] e x there = absurd (contains-none x there)
contains-front (y ∷ xs) e x there = elim (contains-cases y x xs there) [
  | inl is ↦ subst (Contains (y ∷ xs ++ e ∷ [])) is (contains-head y (xs ++ e ∷ []))
  | inr later ↦ contains-tail y x (xs ++ e ∷ []) (contains-front xs e x later)
]

contains-last : (xs : List ℕ) (e : ℕ) → Contains (xs ++ e ∷ []) e
contains-last [] e = contains-head e []
contains-last (y ∷ xs) e = contains-tail y e (xs ++ e ∷ []) (contains-last xs e)

-- where no number comes twice, none of the first ones is the last one
apart-last : (xs : List ℕ) (e x : ℕ) → is_distinct (xs ++ e ∷ []) ≡ true → Contains xs x → x ≢ e
apart-last [] e x once there is = contains-none x there
apart-last (y ∷ xs) e x once there is =
    let first = not-true (list_any (λ z. nat_eq z y) (xs ++ e ∷ [])) (and-left _ (is_distinct (xs ++ e ∷ [])) once) in
    elim (contains-cases y x xs there) [
      | inl at ↦
          (let apart : nat_eq e y ≡ false = any-of (xs ++ e ∷ []) e y (contains-last xs e) first in
          let same : e ≡ y = sym is ∙ sym at in
          let test : nat_eq e y ≡ true = grind arith in
          cc (apart, test))
      | inr later ↦
          apart-last xs e x (and-right (not (list_any (λ z. nat_eq z y) (xs ++ e ∷ []))) _ once) later is
    ]

module _ (rows : List TeRow) (primary : List Step) (from to : NodeId) where
  no-node : (route : List Step) (cost : ℕ) → IsBackup rows primary from to route cost →
      is_distinct (nodes_of route ++ to.0 ∷ []) ≡ true → routes_share_node primary route ≡ true → ⊥
  no-node [] cost backup once shares =
      let n = any-there (λ n. list_any (λ m. nat_eq m n) []) (inner_nodes primary) shares in
      let no = n.2 in
      cc no
  no-node (h ∷ rest) cost backup once shares =
      let n = any-there (λ n. list_any (λ m. nat_eq m n) (nodes_of rest)) (inner_nodes primary) shares in
      let m = any-there (λ m. nat_eq m n.0) (nodes_of rest) n.2 in
      let k = there-from_map (λ (s : Step). s.node.0) rest m.0 m.1 in
      let q = there-from_map (λ (s : Step). s.node.0) primary n.0 (contains-behind (nodes_of primary) n.0 n.1) in
      let test = m.2 in
      let met : m.0 ≡ n.0 = grind arith in
      let one : q.0.node.0 ≡ k.0.node.0 = q.2 ∙ sym met ∙ sym k.2 in
      let first = not-true (list_any (λ z. nat_eq z h.node.0) (nodes_of rest ++ to.0 ∷ []))
      (and-left _ (is_distinct (nodes_of rest ++ to.0 ∷ [])) once) in
      let later = and-right (not (list_any (λ z. nat_eq z h.node.0) (nodes_of rest ++ to.0 ∷ []))) _ once in
      let away : k.0.node ≢ from = apart-first k.0.node (begins-at backup.walk)
      (any-of (nodes_of rest ++ to.0 ∷ []) k.0.node.0 h.node.0
      (subst (Contains (nodes_of rest ++ to.0 ∷ [])) (sym k.2) (contains-front (nodes_of rest) to.0 m.0 m.1)) first) in
      let short : k.0.node ≢ to = λ e. apart-last (nodes_of rest) to.0 m.0 later m.1
      (sym k.2 ∙ ap (λ (n : NodeId). n.0) e) in
      backup.nodes k.0.node (k.0, contains-tail h k.0 rest k.1, refl, away, short)
      (q.0, q.1, (λ i. record { 0 = one i }), away, short)
    where
      begins-at : IsWalk rows NoLink NoNode from to (h ∷ rest) cost → h.node ≡ from
      begins-at walk = walk.3.sender

      apart-first : (n : NodeId) → h.node ≡ from → nat_eq n.0 h.node.0 ≡ false → n ≢ from
      apart-first n at_first apart e =
          let test : nat_eq n.0 h.node.0 ≡ true = node_test n h.node (e ∙ sym at_first) in
          cc (apart, test)

-- Beside

beside-is : (t : Network) (rows : List TeRow) (primary : List Step) (from to : NodeId) (route : List Step) (cost : ℕ) →
    AreRowsOf t rows → is_some (unknown_link rows primary) ≡ false → IsBackup rows primary from to route cost →
    makes_route t from to route ≡ true → is_beside t from to (Some primary) route ≡ true
beside-is t rows primary from to route cost are known backup made =
    and_from (makes_route t from to route) _ made
    (and_from (not (routes_share_risk t primary route)) _
    (not-from (routes_share_risk t primary route)
    (no-risk t rows are primary route (primary-rows rows primary known) (walk-rows rows to route from cost backup.walk)
    backup.risks))
    (not-from (routes_share_node primary route)
    (no-node rows primary from to route cost backup (and-right (is_end (route_end t from route) to) _ made))))

pub found-beside : FoundBackupsStandBeside
found-beside t n b s primary r searchable are known e =
    let rows = known_rows (local_node t n) s in
    let test : Trip → Bool = λ x. is_backup_route rows primary n b x.steps in
    let is = chosen-is (filter test (trips rows MOST_LINKS_OF_ROUTE n b)) r e in
    beside-is t rows primary n b r.steps r.cost (known-are t n s searchable are) known
    (backup-is rows primary n b r is.there) (found-backups-lead t n b s primary r searchable are e)
