-- The rows that a partner may use, by test and in words.
use Rattle.std.proofs.{Common.{◌≡◌, ◌≢◌, ℕ, Bool, true, false, nat_eq, map, List, [], ◌∷◌, ◌++◌, refl, sym, ◌∙◌, subst, arith, inl, inr, Contains}, lemmas.Bool.{or_right, or_left, and_from}}
use Rattle.std.specs.{Prelude.{◌⊎◌, ◌&&◌, ◌||◌, not}, List.list_any}
use Rattle.ason_base.specs.{Risks.risks_of, Walks.{IsInner, SharesRisk}, declared.ids.LinkId.LinkId, declared.ids.NodeId.NodeId, declared.network.TeRow.TeRow, declared.risks.Risk.Risk, declared.risks.Risk.TheVariants.{Srlg, Link}, declared.steps.Step.Step}
use Rattle.ason_base.proofs.{Ordered.{any-there, there-any}, Bools.{not-from, not-holds, and-left, and-right}, Members.{contains-cases, contains-head, contains-tail, contains-none}, RiskUnion.same_link, Bridges.same_node}
use Rattle.mesh_nodes.proofs.{routes.Nodes.same_number, routes.Walked.node_test}
use Rattle.pair_search.specs.{Certificates.MayPartner, Checks.{has_link, is_inner, may_partner, share}}

risk-cases : (xs : List ℕ) (l : LinkId) (r : Risk) → Contains (map Srlg xs ++ Link l ∷ []) r →
    ((n : ℕ) × Contains xs n × (r ≡ Srlg n)) ⊎ (r ≡ Link l)
risk-cases [] l r there = elim (contains-cases (Link l) r [] there) [
  | inl is ↦ inr (sym is)
  | inr none ↦ absurd (contains-none r none)
]
risk-cases (x ∷ xs) l r there = elim (contains-cases (Srlg x) r (map Srlg xs ++ Link l ∷ []) there) [
  | inl is ↦ inl (x, contains-head x xs, sym is)
  | inr later ↦ elim (risk-cases xs l r later) [
    | inl own ↦ inl (own.0, contains-tail x own.0 xs own.1, own.2)
    | inr is ↦ inr is
  ]
]

srlg-there : (xs : List ℕ) (l : LinkId) (n : ℕ) → Contains xs n → Contains (map Srlg xs ++ Link l ∷ []) (Srlg n)
srlg-there [] l n there = absurd (contains-none n there)
srlg-there (x ∷ xs) l n there = elim (contains-cases x n xs there) [
  | inl is ↦ subst (λ m. Contains (Srlg x ∷ (map Srlg xs ++ Link l ∷ [])) (Srlg m)) is (contains-head (Srlg x) _)
  | inr later ↦ contains-tail (Srlg x) (Srlg n) _ (srlg-there xs l n later)
]

link-there : (xs : List ℕ) (l : LinkId) → Contains (map Srlg xs ++ Link l ∷ []) (Link l)
link-there [] l = contains-head (Link l) []
link-there (x ∷ xs) l = contains-tail (Srlg x) (Link l) _ (link-there xs l)

-- two rows have a risk in common
share-is : (a b : TeRow) → share a b ≡ true → (r : Risk) × Contains (risks_of a) r × Contains (risks_of b) r
share-is a b e = go (nat_eq a.link.0 b.link.0) refl e
  where
    go : (z : Bool) → nat_eq a.link.0 b.link.0 ≡ z →
        (z || list_any (λ s. list_any (λ r. nat_eq r s) b.srlgs) a.srlgs) ≡ true →
        (r : Risk) × Contains (risks_of a) r × Contains (risks_of b) r
    go true p e =
        let is = same_link a.link b.link p in (
          Link a.link,
          link-there a.srlgs a.link,
          subst (λ k. Contains (risks_of b) (Link k)) (sym is) (link-there b.srlgs b.link),
        )
    go false p e =
        let s = any-there (λ s. list_any (λ r. nat_eq r s) b.srlgs) a.srlgs e in
        let r = any-there (λ r. nat_eq r s.0) b.srlgs s.2 in
        let is : r.0 ≡ s.0 = (let test = r.2 in grind arith) in
        (Srlg s.0, srlg-there a.srlgs a.link s.0 s.1, srlg-there b.srlgs b.link s.0 (subst (Contains b.srlgs) is r.1))

is-share : (a b : TeRow) (r : Risk) → Contains (risks_of a) r → Contains (risks_of b) r → share a b ≡ true
is-share a b r at_a at_b = elim (risk-cases a.srlgs a.link r at_a) [
  | inl s ↦ elim (risk-cases b.srlgs b.link r at_b) [
    | inl q ↦ (let same : Srlg s.0 ≡ Srlg q.0 = sym s.2 ∙ q.2 in
        let n : s.0 ≡ q.0 = cc same in
        let here : nat_eq q.0 s.0 ≡ true = grind arith in
        or_right (nat_eq a.link.0 b.link.0) _
        (there-any (λ x. list_any (λ y. nat_eq y x) b.srlgs) a.srlgs s.0 s.1
        (there-any (λ y. nat_eq y s.0) b.srlgs q.0 q.1 here)))
    | inr k ↦ absurd (let x = s.2 in cc (x, k))
  ]
  | inr k ↦ elim (risk-cases b.srlgs b.link r at_b) [
    | inl q ↦ absurd (let x = q.2 in cc (x, k))
    | inr j ↦ (let same : Link a.link ≡ Link b.link = sym k ∙ j in
        let l : a.link ≡ b.link = cc same in
        or_left (nat_eq a.link.0 b.link.0) _ (same_number a.link b.link l))
  ]
]

inner-is : (from to : NodeId) (steps : List Step) (n : NodeId) → is_inner from to steps n ≡ true →
    IsInner from to steps n
inner-is from to steps n e =
    let s = any-there (λ (s : Step). nat_eq s.node.0 n.0) steps
    (and-left (list_any (λ (s : Step). nat_eq s.node.0 n.0) steps) _ e) in
    let apart = and-right (list_any (λ (s : Step). nat_eq s.node.0 n.0) steps) _ e in (
      s.0,
      s.1,
      same_node s.0.node n s.2,
      other from (and-left (not (nat_eq n.0 from.0)) _ apart),
      other to (and-right (not (nat_eq n.0 from.0)) _ apart),
    )
  where
    other : (m : NodeId) → not (nat_eq n.0 m.0) ≡ true → n ≢ m
    other m e is = (let yes = node_test n m is in let no' : not true ≡ true = subst (λ z. not z ≡ true) yes e in cc no')

is-inner : (from to : NodeId) (steps : List Step) (n : NodeId) → IsInner from to steps n →
    is_inner from to steps n ≡ true
is-inner from to steps n (s, there, at, apart, other) =
    and_from (list_any (λ (s : Step). nat_eq s.node.0 n.0) steps) _
    (there-any (λ (s : Step). nat_eq s.node.0 n.0) steps s there (node_test s.node n at))
    (and_from (not (nat_eq n.0 from.0)) _ (test from apart) (test to other))
  where
    test : (m : NodeId) → n ≢ m → not (nat_eq n.0 m.0) ≡ true
    test m differ = go (nat_eq n.0 m.0) refl
      where
        go : (z : Bool) → nat_eq n.0 m.0 ≡ z → not z ≡ true
        go true e = absurd (differ (same_node n m e))
        go false e = refl

module _ (rows : List TeRow) (one : (a b : TeRow) → Contains rows a → Contains rows b → a.link ≡ b.link → a ≡ b)
    (from to : NodeId) (done : List Step) (row : TeRow) (known : Contains rows row) where
  abbrev meets : TeRow → Bool
  meets other = has_link done other.link && share row other

  shares-is : list_any meets rows ≡ true → SharesRisk rows done row.link
  shares-is e =
      let other = any-there meets rows e in
      let s = any-there (λ (s : Step). nat_eq s.link.0 other.0.link.0) done
      (and-left (has_link done other.0.link) _ other.2) in
      let r = share-is row other.0 (and-right (has_link done other.0.link) _ other.2) in
      (row, r.0, known, refl, r.1, (other.0, s.0, other.1, s.1, sym (same_link s.0.link other.0.link s.2), r.2))

  is-shares : SharesRisk rows done row.link → list_any meets rows ≡ true
  is-shares (own, r, there, same, has, (other, s, in_rows, on, link, has')) =
      there-any meets rows other in_rows
      (and_from (has_link done other.link) _
      (there-any (λ (s : Step). nat_eq s.link.0 other.link.0) done s on (same_number s.link other.link (sym link)))
      (is-share row other r (subst (λ x. Contains (risks_of x) r) (one own row there known same) has) has'))

  pub partner-is : may_partner rows done from to row ≡ true → MayPartner rows done from to row
  partner-is e =
      let rest = and-right (not (list_any meets rows)) _ e in record {
        risks = λ shared. not-holds (list_any meets rows) (and-left (not (list_any meets rows)) _ e)
            (is-shares shared);
        low = λ inner. not-holds (is_inner from to done row.low)
            (and-left (not (is_inner from to done row.low)) _ rest)
            (is-inner from to done row.low inner);
        high = λ inner. not-holds (is_inner from to done row.high)
            (and-right (not (is_inner from to done row.low)) _ rest) (is-inner from to done row.high inner);
      }

  pub is-partner : MayPartner rows done from to row → may_partner rows done from to row ≡ true
  is-partner may =
      and_from (not (list_any meets rows)) _ (not-from (list_any meets rows) (λ e. may.risks (shares-is e)))
      (and_from (not (is_inner from to done row.low)) _
      (not-from (is_inner from to done row.low) (λ e. may.low (inner-is from to done row.low e)))
      (not-from (is_inner from to done row.high) (λ e. may.high (inner-is from to done row.high e))))
