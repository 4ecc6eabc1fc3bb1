-- The rows that lead on from a prefix, by test and in words.
use Rattle.std.proofs.Common.{◌≡◌, ◌≢◌, ℕ, Bool, true, false, cond, nat_eq, List, [], ◌∷◌, refl, sym, ap, ◌∙◌, subst, inl, inr, Contains}
use Rattle.std.specs.{Prelude.{◌⊎◌, ◌||◌, find, Option, Some, None}, List.list_any}
use Rattle.ason_base.specs.{Walks.Joins, declared.ids.LinkId.LinkId, declared.ids.NodeId.NodeId, declared.network.TeRow.TeRow, declared.steps.Step.Step}
use Rattle.ason_base.proofs.{Ordered.{any-there, there-any}, Members.{contains-cases, contains-head, contains-tail, contains-none}, RiskUnion.same_link, Bridges.same_node}
use Rattle.mesh_nodes.proofs.{routes.Nodes.same_number, routes.Walked.node_test}
use Rattle.pair_search.specs.{Certificates.RowLeadsOn, Checks.{far_end, is_visited, next_over, onward, over_row, unvisited, with_metric}}

-- A row that leads on

visited-not : (done : List Step) (at n : NodeId) → is_visited done at n ≡ false →
    (n ≢ at) × ((y : Step) → Contains done y → y.node ≢ n)
visited-not done at n e = (
  (λ is. (let same = node_test n at is in let yes : is_visited done at n ≡ true = rw same refl in cc (yes, e))),
  (λ y there is. (let one = there-any (λ (s : Step). nat_eq s.node.0 n.0) done y there (node_test y.node n is) in
      or-cases (nat_eq n.0 at.0) (list_any (λ (s : Step). nat_eq s.node.0 n.0) done) one e)),
)
  where
    or-cases : (a b : Bool) → b ≡ true → (a || b) ≡ false → ⊥
    or-cases true b p e = cc e
    or-cases false b p e = cc (p, e)

not-visited : (done : List Step) (at n : NodeId) → n ≢ at → ((y : Step) → Contains done y → y.node ≢ n) →
    is_visited done at n ≡ false
not-visited done at n other fresh =
    go (nat_eq n.0 at.0) refl (list_any (λ (s : Step). nat_eq s.node.0 n.0) done) refl
  where
    go : (a : Bool) → nat_eq n.0 at.0 ≡ a → (b : Bool) → list_any (λ (s : Step). nat_eq s.node.0 n.0) done ≡ b →
        (a || b) ≡ false
    go true p b q = absurd (other (same_node n at p))
    go false p true q = (let one = any-there (λ (s : Step). nat_eq s.node.0 n.0) done q in
        absurd (fresh one.0 one.1 (same_node one.0.node n one.2)))
    go false p false q = refl

unvisited-is : (done : List Step) (at : NodeId) (f : Option NodeId) (n : NodeId) → unvisited done at f ≡ Some n →
    (f ≡ Some n) × (is_visited done at n ≡ false)
unvisited-is done at None n e = absurd (cc e)
unvisited-is done at (Some m) n e = go (is_visited done at m) refl e
  where
    go : (b : Bool) → is_visited done at m ≡ b → cond b None (Some m) ≡ Some n →
        (Some m ≡ Some n) × (is_visited done at n ≡ false)
    go true p e = absurd (cc e)
    go false p e = (let is : m ≡ n = cc e in (e, subst (λ k. is_visited done at k ≡ false) is p))

far-joins : (row : TeRow) (at n : NodeId) → far_end row at ≡ Some n → Joins row at n
far-joins row at n e = go (nat_eq row.low.0 at.0) refl (nat_eq row.high.0 at.0) refl e
  where
    go : (a : Bool) → nat_eq row.low.0 at.0 ≡ a → (b : Bool) → nat_eq row.high.0 at.0 ≡ b →
        cond a (Some row.high) (cond b (Some row.low) None) ≡ Some n → Joins row at n
    go true p b q e = inl (same_node row.low at p, (let is : row.high ≡ n = cc e in is))
    go false p true q e = inr (same_node row.high at q, (let is : row.low ≡ n = cc e in is))
    go false p false q e = absurd (cc e)

joins-far : (row : TeRow) (at n : NodeId) → Joins row at n → n ≢ at → far_end row at ≡ Some n
joins-far row at n (inl j) apart = rw (node_test row.low at j.0) (ap Some j.1)
joins-far row at n (inr j) apart = go (nat_eq row.low.0 at.0) refl
  where
    go : (a : Bool) → nat_eq row.low.0 at.0 ≡ a →
        cond a (Some row.high) (cond (nat_eq row.high.0 at.0) (Some row.low) None) ≡ Some n
    go true p = absurd (apart (sym j.1 ∙ same_node row.low at p))
    go false p = rw (node_test row.high at j.0) (ap Some j.1)

module _ (rows : List TeRow) (one : (a b : TeRow) → Contains rows a → Contains rows b → a.link ≡ b.link → a ≡ b) where
  pub leads-is : (done : List Step) (at : NodeId) (row : TeRow) (n : NodeId) → Contains rows row →
      onward done at row ≡ Some n → RowLeadsOn rows done at row n
  leads-is done at row n there e =
      let found = unvisited-is done at (far_end row at) n e in
      let fresh = visited-not done at n found.1 in
      record { known = there; joins = far-joins row at n found.0; other = fresh.0; fresh = fresh.1 }

  pub is-leads : (done : List Step) (at : NodeId) (row : TeRow) (n : NodeId) → RowLeadsOn rows done at row n →
      onward done at row ≡ Some n
  is-leads done at row n leads =
      let far = joins-far row at n leads.joins leads.other in
      let fresh = not-visited done at n leads.other leads.fresh in
      rw far (rw fresh refl)

  find-is : (k : LinkId) (xs : List TeRow) (row : TeRow) → find (λ r. nat_eq r.link.0 k.0) xs ≡ Some row →
      Contains xs row × (row.link ≡ k)
  find-is k [] row e = absurd (cc e)
  find-is k (x ∷ xs) row e = go (nat_eq x.link.0 k.0) refl e (find-is k xs row)
    where
      go : (b : Bool) → nat_eq x.link.0 k.0 ≡ b → cond b (Some x) (find (λ r. nat_eq r.link.0 k.0) xs) ≡ Some row →
          (find (λ r. nat_eq r.link.0 k.0) xs ≡ Some row → Contains xs row × (row.link ≡ k)) →
          Contains (x ∷ xs) row × (row.link ≡ k)
      go true p e later = (let is : x ≡ row = cc e in
          subst (λ r. Contains (x ∷ xs) r × (r.link ≡ k)) is (contains-head x xs, same_link x.link k p))
      go false p e later = (let r = later e in (contains-tail x row xs r.0, r.1))

  find-some : (k : LinkId) (xs : List TeRow) (row : TeRow) → Contains xs row → row.link ≡ k →
      find (λ r. nat_eq r.link.0 k.0) xs ≡ None → ⊥
  find-some k [] row there is e = contains-none row there
  find-some k (x ∷ xs) row there is e =
      go (nat_eq x.link.0 k.0) refl e (contains-cases x row xs there) (λ later none. find-some k xs row later is none)
    where
      go : (b : Bool) → nat_eq x.link.0 k.0 ≡ b → cond b (Some x) (find (λ r. nat_eq r.link.0 k.0) xs) ≡ None →
          (x ≡ row) ⊎ Contains xs row →
          (Contains xs row → find (λ r. nat_eq r.link.0 k.0) xs ≡ None → ⊥) → ⊥
      go true p e cases rest = cc e
      go false p e (inl same) rest =
          (let yes = same_number x.link k (ap (λ (r : TeRow). r.link) same ∙ is) in cc (yes, p))
      go false p e (inr later) rest = rest later e

  -- a row is found by its link
  pub find-row : (row : TeRow) → Contains rows row → find (λ r. nat_eq r.link.0 row.link.0) rows ≡ Some row
  find-row row there = go (find (λ r. nat_eq r.link.0 row.link.0) rows) refl
    where
      go : (f : Option TeRow) → find (λ r. nat_eq r.link.0 row.link.0) rows ≡ f → f ≡ Some row
      go None e = absurd (find-some row.link rows row there refl e)
      go (Some x) e = (let its = find-is row.link rows x e in ap Some (one x row its.0 there its.1))

  pub record IsNext (done : List Step) (at : NodeId) (k : LinkId) (n : NodeId) (m : ℕ) : Type 0 where
    pub row : TeRow
    pub link : row.link ≡ k
    pub leads : RowLeadsOn rows done at row n
    pub metric : row.metric ≡ m

  pub next-is : (done : List Step) (at : NodeId) (k : LinkId) (n : NodeId) (m : ℕ) →
      next_over rows done at k ≡ Some (n, m) → IsNext done at k n m
  next-is done at k n m e = go (find (λ r. nat_eq r.link.0 k.0) rows) refl e
    where
      go : (f : Option TeRow) → find (λ r. nat_eq r.link.0 k.0) rows ≡ f → over_row done at f ≡ Some (n, m) →
          IsNext done at k n m
      go None is e = absurd (cc e)
      go (Some row) is e = on (onward done at row) refl e
        where
          on : (o : Option NodeId) → onward done at row ≡ o → with_metric o row.metric ≡ Some (n, m) →
              IsNext done at k n m
          on None at_o e = absurd (cc e)
          on (Some x) at_o e =
              let its = find-is k rows row is in
              let pair : (x, row.metric) ≡ (n, m) = cc e in
              let node : x ≡ n = ap (λ (z : NodeId × ℕ). z.0) pair in
              let number : row.metric ≡ m = ap (λ (z : NodeId × ℕ). z.1) pair in
              record {
                row = row;
                link = its.1;
                leads = leads-is done at row n its.0 (at_o ∙ ap Some node);
                metric = number;
              }

  pub next-from : (done : List Step) (at : NodeId) (row : TeRow) (n : NodeId) → RowLeadsOn rows done at row n →
      next_over rows done at row.link ≡ Some (n, row.metric)
  next-from done at row n leads = rw (find-row row leads.known) (ap (λ o. with_metric o row.metric)
      (is-leads done at row n leads))
