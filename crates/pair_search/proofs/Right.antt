-- A certificate is right: along a pair's primary route the tree leads to a leaf that bounds the pair's total.
use Rattle.std.proofs.{Common.{◌≡◌, ◌≢◌, ◌≤◌, ℕ, ◌+◌, List, [], ◌∷◌, ◌++◌, refl, sym, ap, ◌∙◌, subst, arith, inl, inr, Contains}, lemmas.List.Elements.{Contains-append_left, Contains-append_right}}
use Rattle.std.specs.Prelude.{◌⊎◌, Option, Some, None}
use Rattle.ason_base.specs.{Walks.{WalkStep, IsBackup, IsInner, IsWalk, Joins, NoLink, NoNode}, declared.ids.NodeId.NodeId, declared.network.TeRow.TeRow, declared.steps.Step.Step}
use Rattle.ason_base.proofs.Members.{contains-head, contains-tail}
use Rattle.pair_search.specs.{declared.cert.Tree.{Tree, Far, Whole, Branch'}, declared.cert.Children.{Children, End, More'}, Certificates.{AnyRow, AreBounds, CertificatesAreRight, ChildStands, IsEnough, IsFar, RowLeadsOn, MayPartner, TreeHolds, bound_at}, Pairs.IsNotBetter}
use Rattle.pair_search.proofs.Visits.{HasNoNodeTwice, visits-once}

-- A walk costs at least the bound of its start

-- the end of a walk, or the node that one of these steps leaves
abbrev pub ComesTo : NodeId → List Step → NodeId → Type 0
ComesTo to all b = (b ≡ to) ⊎ ((y : Step) × Contains all y × (y.node ≡ b))

-- each row over which one of the steps may lead on may be used
abbrev pub MayWalk : List TeRow → (TeRow → Type 0) → NodeId → List Step → Type 0
MayWalk rows May to all =
    (s : Step) (row : TeRow) (a b : NodeId) → Contains all s → WalkStep rows NoLink NoNode a s row b →
    ComesTo to all b →
    May row

pub comes-to : (rows : List TeRow) (to : NodeId) (all : List Step) (next : NodeId) (steps : List Step) (left : ℕ) →
    ((x : Step) → Contains steps x → Contains all x) → IsWalk rows NoLink NoNode next to steps left →
    ComesTo to all next
comes-to rows to all next [] left within (is, none) = inl is
comes-to rows to all next (y ∷ steps) left within (row, onto, less, hop, walk, sum) =
    inr (y, within y (contains-head y steps), hop.sender)

module _ (rows : List TeRow) (May : TeRow → Type 0) (to : NodeId) (bounds : List (NodeId × ℕ))
    (are : AreBounds rows May to bounds) (all : List Step) (may : MayWalk rows May to all) where
  pub walk-bounded : (steps : List Step) (a : NodeId) (cost : ℕ) → ((x : Step) → Contains steps x → Contains all x) →
      IsWalk rows NoLink NoNode a to steps cost → (p : ℕ) × (bound_at bounds a ≡ Some p) × (p ≤ cost)
  walk-bounded [] a cost within (is, none) =
      (0, subst (λ n. bound_at bounds n ≡ Some 0) (sym is) are.zero, omega arith)
  walk-bounded (s ∷ steps) a cost within (row, next, left, hop, walk, sum) =
      let inside : (x : Step) → Contains steps x → Contains all x =
      λ x there. within x (contains-tail s x steps there) in
      let later = walk-bounded steps next left inside walk in
      let here = are.rises a next row later.0 hop.known
      (may s row a next (within s (contains-head s steps)) hop (comes-to rows to all next steps left inside walk))
      hop.joins later.1 in
      (here.0, here.1, (let x = here.2 in let y = later.2 in omega (arith, sum)))

-- A partner may use the rows of a backup

module _ (rows : List TeRow) (from to : NodeId) (primary backup : List Step) (cost : ℕ)
    (is : IsBackup rows primary from to backup cost) where
  not-inner : (n : NodeId) → ComesTo to backup n → ¬ IsInner from to primary n
  not-inner n (inl end) (s, there, at, apart, other) = other end
  not-inner n (inr (y, there, at)) (s, on, is_at, apart, other) =
      is.nodes n (y, there, at, apart, other) (s, on, is_at, apart, other)

  pub partner-may : MayWalk rows (MayPartner rows primary from to) to backup
  partner-may s row a b there hop comes = record {
    risks = λ shared. (let (other, r, known, same, has, on) = shared in
        is.risks r (other, s, known, there, same ∙ sym hop.link, has) on);
    low = λ inner. not-inner row.low (ends row.low (at-low hop.joins)) inner;
    high = λ inner. not-inner row.high (ends row.high (at-high hop.joins)) inner;
  }
    where
      ends : (n : NodeId) → (n ≡ a) ⊎ (n ≡ b) → ComesTo to backup n
      ends n (inl at) = inr (s, there, hop.sender ∙ sym at)
      ends n (inr at) = subst (ComesTo to backup) (sym at) comes

      at-low : Joins row a b → (row.low ≡ a) ⊎ (row.low ≡ b)
      at-low (inl j) = inl j.0
      at-low (inr j) = inr j.1

      at-high : Joins row a b → (row.high ≡ a) ⊎ (row.high ≡ b)
      at-high (inl j) = inr j.1
      at-high (inr j) = inl j.0

-- Along the primary route

pub append-step : (a : List Step) (e : Step) (b : List Step) → (a ++ e ∷ []) ++ b ≡ a ++ e ∷ b
append-step [] e b = refl
append-step (z ∷ a) e b = ap (λ xs. z ∷ xs) (append-step a e b)

-- the node to which a step leads isn't visited
pub next-fresh : (rows : List TeRow) (to : NodeId) (done : List Step) (s : Step) (next : NodeId) (rest : List Step)
    (left : ℕ) → HasNoNodeTwice to (done ++ s ∷ rest) → IsWalk rows NoLink NoNode next to rest left → (y : Step) →
    Contains (done ++ s ∷ []) y → y.node ≢ next
next-fresh rows to done s next [] left twice (is, none) y there same = twice.end y there (same ∙ is)
next-fresh rows to done s next (x ∷ rest) left twice (row, onto, less, hop, walk, sum) y there same =
    twice.once (done ++ s ∷ []) rest x y (sym (append-step done s (x ∷ rest))) there (same ∙ sym hop.sender)

module _ (rows : List TeRow) (from to : NodeId) (total : Option ℕ) (goal : List (NodeId × ℕ))
    (are : AreBounds rows AnyRow to goal) where
  far-enough : (b : Option ℕ) (cost left more : ℕ) → IsFar total b cost → ((p : ℕ) × (b ≡ Some p) × (p ≤ left)) →
      cost + left ≤ more → IsNotBetter total (cost + left) more
  far-enough b cost left more far (p, is, small) less = go total b far is
    where
      go : (t b : Option ℕ) → IsFar t b cost → b ≡ Some p → IsNotBetter t (cost + left) more
      go t None far is = absurd (cc is)
      go None (Some q) far is = absurd far
      go (Some t) (Some q) far is = (let same : q ≡ p = cc is in omega (arith, far, small, less))

  partner-enough : (b : Option ℕ) (cost more : ℕ) → IsEnough total b cost → ((p : ℕ) × (b ≡ Some p) × (p ≤ more)) →
      IsNotBetter total cost more
  partner-enough b cost more enough (p, is, small) = go total b enough is
    where
      go : (t b : Option ℕ) → IsEnough t b cost → b ≡ Some p → IsNotBetter t cost more
      go t None enough is = absurd (cc is)
      go None (Some q) enough is = absurd enough
      go (Some t) (Some q) enough is = (let same : q ≡ p = cc is in omega (arith, enough, small))

  -- a child is of the row
  in-children : (all : Children) (done : List Step) (at : NodeId) (cost : ℕ) (row : TeRow) (next : NodeId)
      (Says : Type 0) → ChildStands rows from to total goal all done at cost row next →
      ((tree : Tree) → TreeHolds rows from to total goal tree (done ++ record { node = at; link = row.link } ∷ []) next
      (cost + row.metric) → Says) → Says
  in-children End done at cost row next Says stands then = absurd stands
  in-children (More' link tree p rest) done at cost row next Says stands then = elim stands [
    | inl (is, here) ↦ then tree (subst (λ k. TreeHolds rows from to total goal tree
        (done ++ record { node = at; link = k } ∷ []) next (cost + row.metric)) is here)
    | inr later ↦ in-children rest done at cost row next Says later then
  ]

  pub along : (rest : List Step) (tree : Tree) (done : List Step) (at : NodeId) (cost left : ℕ) (backup : List Step)
      (more : ℕ) → TreeHolds rows from to total goal tree done at cost → IsWalk rows NoLink NoNode at to rest left →
      HasNoNodeTwice to (done ++ rest) → IsBackup rows (done ++ rest) from to backup more → cost + left ≤ more →
      IsNotBetter total (cost + left) more
  along rest Far done at cost left backup more stands walk simple partner less =
      far-enough (bound_at goal at) cost left more stands
      (walk-bounded rows AnyRow to goal are rest (λ s row a b there hop comes. tt) rest at left
      (λ x there. there) walk) less
  along [] (Whole bounds) done at cost left backup more (is, bound, enough) (end, none) simple partner less =
      let whole : done ++ [] ≡ done = append-none done in
      let its : IsBackup rows done from to backup more =
      subst (λ r. IsBackup rows r from to backup more) whole partner in
      let found = walk-bounded rows (MayPartner rows done from to) to bounds bound backup
      (partner-may rows from to done backup more its) backup from more (λ x there. there) its.walk in
      let same : cost + left ≡ cost = omega (arith, none) in
      rw same (partner-enough (bound_at bounds from) cost more enough found)
    where
      append-none : (a : List Step) → a ++ [] ≡ a
      append-none [] = refl
      append-none (x ∷ a) = ap (λ xs. x ∷ xs) (append-none a)
  along [] (Branch' at_p all) done at cost left backup more (other, children, each) (end, none) simple partner less =
      absurd (other end)
  along (s ∷ rest) (Whole bounds) done at cost left backup more (is, bound, enough)
      (row, next, later, hop, walk, sum) simple partner less =
      absurd (simple.end s (Contains-append_right done (s ∷ rest) s (contains-head s rest)) (hop.sender ∙ is))
  along (s ∷ rest) (Branch' at_p all) done at cost left backup more (other, children, each)
      (row, next, later, hop, walk, sum) simple partner less =
      let step : Step = record { node = at; link = row.link } in
      let is : s ≡ step = (let a = hop.sender in let b = hop.link in λ i. record { node = a i; link = b i }) in
      let parted : done ++ s ∷ rest ≡ (done ++ step ∷ []) ++ rest =
      ap (λ x. done ++ x ∷ rest) is ∙ sym (append-step done step rest) in
      let fresh = next-fresh rows to done s next rest later simple walk in
      let leads : RowLeadsOn rows done at row next = record {
        known = hop.known;
        joins = hop.joins;
        other = λ e. fresh s (Contains-append_right done (s ∷ []) s (contains-head s [])) (hop.sender ∙ sym e);
        fresh = λ y there. fresh y (Contains-append_left done (s ∷ []) y there);
      } in
      in-children all done at cost row next (IsNotBetter total (cost + left) more) (each row next leads)
      (λ tree stands. (let total_is : cost + row.metric + later ≡ cost + left = omega (arith, sum) in
      subst (λ c. IsNotBetter total c more) total_is
      (along rest tree (done ++ step ∷ []) next (cost + row.metric) later backup more stands walk
      (subst (HasNoNodeTwice to) parted simple)
      (subst (λ r. IsBackup rows r from to backup more) parted partner) (omega (arith, less, total_is)))))

pub certificates_right : CertificatesAreRight
certificates_right rows from to total cert certifies primary backup cost more pair =
    let same : 0 + cost ≡ cost = omega arith in
    subst (λ c. IsNotBetter total c more) same
    (along rows from to total cert.goal certifies.goal primary cert.tree [] from 0 cost backup more certifies.tree
    pair.first (visits-once to primary pair.first_once) pair.second (let x = pair.less in omega arith))
