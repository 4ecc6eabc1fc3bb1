-- What the checks of a tree find is what the certificate says.
use Rattle.std.proofs.{Common.{◌≡◌, ℕ, Bool, true, false, nat_eq, ◌+◌, List, [], ◌∷◌, ◌++◌, refl, sym, ◌∙◌, subst, inl, inr, Contains}, lemmas.Bool.{not-true, and_from}}
use Rattle.std.specs.Prelude.{◌⊎◌, ◌||◌, not, Option, Some, None}
use Rattle.ason_base.specs.{declared.ids.LinkId.LinkId, declared.ids.NodeId.NodeId, declared.network.TeRow.TeRow, declared.steps.Step.Step}
use Rattle.ason_base.proofs.{Bools.{not-from, or-rest, and-left, and-right}, Members.{contains-cases, contains-head, contains-tail, contains-none}, RiskUnion.same_link, Bridges.same_node}
use Rattle.mesh_nodes.proofs.{routes.Nodes.same_number, routes.Walked.node_test}
use Rattle.pair_search.proofs.{Tests.{all-at, at-all}, BoundChecks.{are-bounds, bounds-are, enough-is, far-is, is-enough, is-far}, OnwardChecks.{is-leads, leads-is, next-from, next-is}}
use Rattle.pair_search.specs.{declared.cert.Tree.{Tree, Far, Whole, Branch'}, declared.cert.Children.{Children, End, More'}, Certificates.{AreChildren, AreLinksOnce, ChildStands, MayPartner, RowLeadsOn, TreeHolds, bound_at, child_links}, Checks.{are_partner_bounds, are_told, children_stand, has_child, if_leads, is_some_node, is_told, may_partner, next_over, onward, stands}}

module _ (rows : List TeRow) (one : (a b : TeRow) → Contains rows a → Contains rows b → a.link ≡ b.link → a ≡ b) where
  -- Children

  has-there : (children : Children) (k : LinkId) → has_child children k ≡ true → Contains (child_links children) k
  has-there End k e = absurd (cc e)
  has-there (More' link tree p rest) k e = go (nat_eq link.0 k.0) refl e (has-there rest k)
    where
      go : (b : Bool) → nat_eq link.0 k.0 ≡ b → (b || has_child rest k) ≡ true →
          (has_child rest k ≡ true → Contains (child_links rest) k) → Contains (link ∷ child_links rest) k
      go true q e later = subst (Contains (link ∷ child_links rest)) (same_link link k q) (contains-head link _)
      go false q e later = contains-tail link k (child_links rest) (later e)

  there-has : (children : Children) (k : LinkId) → Contains (child_links children) k → has_child children k ≡ true
  there-has End k there = absurd (contains-none k there)
  there-has (More' link tree p rest) k there = elim (contains-cases link k (child_links rest) there) [
    | inl is ↦ (let same = same_number link k is in rw same refl)
    | inr later ↦ (let has = there-has rest k later in
        elim (nat_eq link.0 k.0) as (λ b. (b || has_child rest k) ≡ true) [ true ↦ refl | false ↦ has ])
  ]

  -- The tree

  module _ (from to : NodeId) (total : Option ℕ) (goal : List (NodeId × ℕ))
      (partner-to : (done : List Step) (row : TeRow) → Contains rows row → may_partner rows done from to row ≡ true →
      MayPartner rows done from to row)
      (partner-from : (done : List Step) (row : TeRow) → Contains rows row → MayPartner rows done from to row →
      may_partner rows done from to row ≡ true) where
    link-or-not : (a b : LinkId) → (a ≡ b) ⊎ (nat_eq a.0 b.0 ≡ false)
    link-or-not a b = go (nat_eq a.0 b.0) refl
      where
        go : (z : Bool) → nat_eq a.0 b.0 ≡ z → (a ≡ b) ⊎ (nat_eq a.0 b.0 ≡ false)
        go true e = inl (same_link a b e)
        go false e = inr e

    told-has : (all : Children) (done : List Step) (at : NodeId) (row : TeRow) (next : NodeId) →
        RowLeadsOn rows done at row next → is_told done at all row ≡ true → has_child all row.link ≡ true
    told-has all done at row next leads e = (let on = is-leads rows one done at row next leads in rw on at e)

    first-leads : (done : List Step) (at : NodeId) (link k : LinkId) → link ≡ k → (o : Option (NodeId × ℕ)) →
        next_over rows done at link ≡ o → (f : NodeId → ℕ → Bool) → if_leads o f ≡ true →
        (row : TeRow) × (next : NodeId) × (row.link ≡ k) × RowLeadsOn rows done at row next
    first-leads done at link k is None over f e = absurd (cc e)
    first-leads done at link k is (Some n) over f e =
        (let its = next-is rows one done at link n.0 n.1 over in (its.row, n.0, its.link ∙ is, its.leads))

    mutual
      pub stands-is : (tree : Tree) (done : List Step) (at : NodeId) (cost : ℕ) →
          stands rows from to total goal tree done at cost ≡ true → TreeHolds rows from to total goal tree done at cost
      stands-is Far done at cost e = far-is total (bound_at goal at) cost e
      stands-is (Whole bounds) done at cost e =
          let rest = and-right (nat_eq at.0 to.0) _ e in (
            same_node at to (and-left (nat_eq at.0 to.0) _ e),
            bounds-are rows (may_partner rows done from to) (MayPartner rows done from to) (partner-to done)
                (partner-from done) to bounds (and-left (are_partner_bounds rows done from to bounds) _ rest),
            enough-is total (bound_at bounds from) cost
                (and-right (are_partner_bounds rows done from to bounds) _ rest),
          )
      stands-is (Branch' p all) done at cost e =
          let rest = and-right (not (nat_eq at.0 to.0)) _ e in
          let told = and-left (are_told rows done at all) _ rest in
          let kids = and-right (are_told rows done at all) _ rest in (
            (λ is. (let same = node_test at to is in let other = and-left (not (nat_eq at.0 to.0)) _ e in
                let apart = not-true (nat_eq at.0 to.0) other in cc (same, apart))),
            children-are all done at cost kids,
            (λ row next leads. children-is all done at cost kids row next leads
                (told-has all done at row next leads (all-at (is_told done at all) rows told row leads.known))),
          )

      children-is : (all : Children) (done : List Step) (at : NodeId) (cost : ℕ) →
          children_stand rows from to total goal all done at cost ≡ true → (row : TeRow) (next : NodeId) →
          RowLeadsOn rows done at row next → has_child all row.link ≡ true →
          ChildStands rows from to total goal all done at cost row next
      children-is End done at cost e row next leads has = absurd (cc has)
      children-is (More' link tree p rest) done at cost e row next leads has =
          let later = and-right (not (has_child rest link)) _ e in
          let own = and-left (if_leads (next_over rows done at link) (λ n m. stands rows from to total goal tree
          (done ++ record { node = at; link = link } ∷ []) n (cost + m))) _ later in
          let others = and-right (if_leads (next_over rows done at link) (λ n m. stands rows from to total goal tree
          (done ++ record { node = at; link = link } ∷ []) n (cost + m))) _ later in
          elim (link-or-not link row.link) [
            | inl is ↦ (let over : next_over rows done at link ≡ Some (next, row.metric) =
                subst (λ k. next_over rows done at k ≡ Some (next, row.metric)) (sym is)
                (next-from rows one done at row next leads) in
                let holds : stands rows from to total goal tree (done ++ record { node = at; link = link } ∷ []) next
                (cost + row.metric) ≡ true = (let told = own in rw over at told) in
                inl (
                  is,
                  stands-is tree (done ++ record { node = at; link = link } ∷ []) next
                      (cost + row.metric) holds,
                ))
            | inr apart ↦ inr (children-is rest done at cost others row next leads
                (or-rest (nat_eq link.0 row.link.0) (has_child rest row.link) apart has))
          ]

      -- which links the children have
      children-are : (all : Children) (done : List Step) (at : NodeId) (cost : ℕ) →
          children_stand rows from to total goal all done at cost ≡ true → AreChildren rows done at (child_links all)
      children-are End done at cost e = record { once = tt; leads = λ k there. absurd (contains-none k there) }
      children-are (More' link tree p rest) done at cost e =
          let later = and-right (not (has_child rest link)) _ e in
          let none : has_child rest link ≡ false =
          not-true (has_child rest link) (and-left (not (has_child rest link)) _ e) in
          let own = and-left (if_leads (next_over rows done at link) (λ n m. stands rows from to total goal tree
          (done ++ record { node = at; link = link } ∷ []) n (cost + m))) _ later in
          let others = and-right (if_leads (next_over rows done at link) (λ n m. stands rows from to total goal tree
          (done ++ record { node = at; link = link } ∷ []) n (cost + m))) _ later in
          let rest_are = children-are rest done at cost others in
          record {
            once = (
              (λ there. (let has = there-has rest link there in cc (has, none))),
              rest_are.once,
            );
            leads = λ k there. elim (contains-cases link k (child_links rest) there) [
              | inl is ↦ first-leads done at link k is (next_over rows done at link) refl _ own
              | inr more ↦ rest_are.leads k more
            ];
          }

    -- The other way

    child-there : (all : Children) (done : List Step) (at : NodeId) (cost : ℕ) (row : TeRow) (next : NodeId) →
        ChildStands rows from to total goal all done at cost row next → Contains (child_links all) row.link
    child-there End done at cost row next says = absurd says
    child-there (More' link tree p rest) done at cost row next says = elim says [
      | inl here ↦ subst (Contains (link ∷ child_links rest)) here.0 (contains-head link (child_links rest))
      | inr later ↦ contains-tail link row.link (child_links rest) (child-there rest done at cost row next later)
    ]

    rest-child : (link : LinkId) (tree : Tree) (p : _) (rest : Children) (done : List Step) (at : NodeId) (cost : ℕ) →
        (Contains (child_links rest) link → ⊥) → (r : TeRow) (n : NodeId) → Contains (child_links rest) r.link →
        ChildStands rows from to total goal (More' link tree p rest) done at cost r n →
        ChildStands rows from to total goal rest done at cost r n
    rest-child link tree p rest done at cost apart r n there says = elim says [
      | inl own ↦ absurd (apart (subst (Contains (child_links rest)) (sym own.0) there))
      | inr later ↦ later
    ]

    told-row : (all : Children) (done : List Step) (at : NodeId) (cost : ℕ) (row : TeRow) → Contains rows row →
        ((r : TeRow) (n : NodeId) → RowLeadsOn rows done at r n →
        ChildStands rows from to total goal all done at cost r n) → is_told done at all row ≡ true
    told-row all done at cost row known each = go (onward done at row) refl
      where
        go : (o : Option NodeId) → onward done at row ≡ o → (not (is_some_node o) || has_child all row.link) ≡ true
        go None is = refl
        go (Some n) is =
            let leads = leads-is rows one done at row n known is in
            there-has all row.link (child-there all done at cost row n (each row n leads))

    mutual
      pub is-stands : (tree : Tree) (done : List Step) (at : NodeId) (cost : ℕ) →
          TreeHolds rows from to total goal tree done at cost → stands rows from to total goal tree done at cost ≡ true
      is-stands Far done at cost says = is-far total (bound_at goal at) cost says
      is-stands (Whole bounds) done at cost (is, bound, enough) =
          and_from (nat_eq at.0 to.0) _ (node_test at to is)
          (and_from (are_partner_bounds rows done from to bounds) _
          (are-bounds rows (may_partner rows done from to) (MayPartner rows done from to) (partner-to done)
          (partner-from done) to bounds bound)
          (is-enough total (bound_at bounds from) cost enough))
      is-stands (Branch' p all) done at cost (other, kids, each) =
          and_from (not (nat_eq at.0 to.0)) _ (not-from (nat_eq at.0 to.0) (λ e. other (same_node at to e)))
          (and_from (are_told rows done at all) _
          (at-all (is_told done at all) rows (λ row known. told-row all done at cost row known each))
          (is-children all done at cost kids.once kids.leads (λ row next leads there. each row next leads)))

      is-children : (all : Children) (done : List Step) (at : NodeId) (cost : ℕ) → AreLinksOnce (child_links all) →
          ((k : LinkId) → Contains (child_links all) k → (row : TeRow) × (next : NodeId) × (row.link ≡ k) ×
          RowLeadsOn rows done at row next) →
          ((row : TeRow) (next : NodeId) → RowLeadsOn rows done at row next → Contains (child_links all) row.link →
          ChildStands rows from to total goal all done at cost row next) →
          children_stand rows from to total goal all done at cost ≡ true
      is-children End done at cost once leads each = refl
      is-children (More' link tree p rest) done at cost once leads each =
          let (row, next, is, on) = leads link (contains-head link (child_links rest)) in
          let over : next_over rows done at link ≡ Some (next, row.metric) =
          subst (λ k. next_over rows done at k ≡ Some (next, row.metric)) is (next-from rows one done at row next on) in
          let here : Contains (link ∷ child_links rest) row.link =
          subst (Contains (link ∷ child_links rest)) (sym is) (contains-head link (child_links rest)) in
          let holds : stands rows from to total goal tree (done ++ record { node = at; link = link } ∷ []) next
          (cost + row.metric) ≡ true =
          elim (each row next on here) [
            | inl own ↦ is-stands tree (done ++ record { node = at; link = link } ∷ []) next (cost + row.metric) own.1
            | inr later ↦ absurd (once.0 (subst (Contains (child_links rest)) is
                (child-there rest done at cost row next later)))
          ] in
          and_from (not (has_child rest link)) _
          (not-from (has_child rest link) (λ has. once.0 (has-there rest link has)))
          (and_from (if_leads (next_over rows done at link) (λ n m. stands rows from to total goal tree
          (done ++ record { node = at; link = link } ∷ []) n (cost + m))) _
          (rw over holds)
          (is-children rest done at cost once.1 (λ k there. leads k (contains-tail link k (child_links rest) there))
          (λ r n l there. rest-child link tree p rest done at cost once.0 r n there
          (each r n l (contains-tail link r.link (child_links rest) there)))))
