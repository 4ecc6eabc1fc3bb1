-- Closed rows and banned links, and what stays where bans are told in another way.
use Rattle.std.proofs.{Common.{◌≡◌, ◌↔◌, inl, inr, IsTrue, Equal, ℕ, ◌+◌, ◌<◌, Bool, true, false, List, [], ◌∷◌, ◌++◌, Some, length, get_or, slice_get, refl, sym, ◌∙◌, ap, subst, arith, length-append}, Math.ListN.get_or-append, Math.Seq.get_or-append_seam, lemmas.Map.Views.btree_set_contains_from_list, lemmas.Option.{get_or_from_slice_get, slice_get-get_or, slice_get_within}}
use Rattle.std.specs.{BTreeSet.{BTreeSet, IsFromIterResult, contains}, List.Contains}
use Rattle.ason_base.specs.{Walks.{ArePotentials, Certify, WalkStep, IsLeast, IsWalk}, contracts.ids.LinkIdOrd.TheImpl.ghosts, contracts.ids.LinkIdOrd.TheImpl.Laws.total-law, declared.ids.LinkId.LinkId, declared.ids.NodeId.NodeId, declared.network.TeRow.TeRow, declared.steps.Step.Step}
use Rattle.ason_base.proofs.Numbers.{before-or-same}
use Rattle.route_least.specs.{Answers.JoinsNone, Bans.{AreLinksMarked, AreRowsWith}, Costs.is_place_marked, Network.IsClosed}

-- Rows of links

link-equal : (a b : LinkId) → ghosts.cmp a b ≡ Equal → a ≡ b
link-equal a b h = let e : a.0 ≡ b.0 = grind arith in λ i. record { 0 = e i }

-- the set has just the links of the list
pub set_has : (links : List LinkId) (set : BTreeSet LinkId) → IsFromIterResult ghosts.cmp links set → (l : LinkId) →
    IsTrue (contains ghosts.cmp set l) ↔ Contains links l
set_has links set from l = btree_set_contains_from_list total-law link-equal links set from l

pub no_rows : (Holds : TeRow → Type 0) (rows : List TeRow) (marks : List Bool) → marks ≡ [] →
    AreRowsWith Holds rows 0 marks
no_rows Holds rows marks none = record { len = ap length none; are = λ k row below at. absurd (omega arith) }

pub row_more : (Holds : TeRow → Type 0) (rows : List TeRow) (k : ℕ) (row : TeRow) (marks : List Bool) (b : Bool) →
    row ≡ get_or rows k row → (b ≡ true) ↔ Holds row → AreRowsWith Holds rows k marks →
    AreRowsWith Holds rows (k + 1) (marks ++ b ∷ [])
row_more Holds rows k row marks b is test are = record {
  len = (let l : length (marks ++ b ∷ []) ≡ length marks + 1 =
      length-append marks (b ∷ []) in let m : length marks ≡ k = are.len in omega arith);
  are = λ i other below at. elim (before-or-same i k below) [
    | inl earlier ↦
        (let inside : i < length marks = (let m : length marks ≡ k = are.len in omega arith) in
        subst (λ x. (x ≡ true) ↔ Holds other) (sym (get_or-append marks (b ∷ []) false i inside))
        (are.are i other earlier at))
    | inr last ↦
        (let here : is_place_marked (marks ++ b ∷ []) i ≡ b =
        subst (λ j. is_place_marked (marks ++ b ∷ []) j ≡ b) (are.len ∙ sym last)
        (get_or-append_seam marks b [] false) in
        let same : row ≡ other = is ∙ subst (λ j. get_or rows j row ≡ other) last
        (get_or_from_slice_get rows i other row at) in
        subst (λ x. (x ≡ true) ↔ Holds other) (sym here) (subst (λ r. (b ≡ true) ↔ Holds r) same test))
  ];
}

pub all_rows : (Holds : TeRow → Type 0) (rows : List TeRow) (count : ℕ) (marks : List Bool) → count ≡ length rows →
    AreRowsWith Holds rows count marks → AreRowsWith Holds rows (length rows) marks
all_rows Holds rows count marks all are = subst (λ n. AreRowsWith Holds rows n marks) all are

-- of the links of rows just those are closed that are banned
pub closed_iff : (rows : List TeRow) (links : List LinkId) (closed : List Bool) → AreLinksMarked rows links closed →
    (row : TeRow) → Contains rows row → IsClosed rows closed row.link ↔ Contains links row.link
closed_iff rows links closed are row known = (
  (λ shut. subst (Contains links) shut.3 ((are.are shut.0 shut.1
      (slice_get_within rows shut.0 shut.1 shut.2) shut.2).0 shut.4)),
  (λ banned.
      (let at : slice_get rows known.0 ≡ Some row = slice_get-get_or rows known.0 row known.1 ∙ ap Some known.2 in
      (known.0, row, at, refl, (are.are known.0 row known.1 at).1 banned))),
)

-- Bans told in another way

module _ (rows : List TeRow) (Link Link' : LinkId → Type 0) (Node Node' : NodeId → Type 0)
    (links : (row : TeRow) → Contains rows row → Link' row.link → Link row.link)
    (nodes : (n : NodeId) → Node' n → Node n) where
  -- what is allowed under more bans is allowed under fewer
  pub fewer_hop : (a b : NodeId) (s : Step) (row : TeRow) → WalkStep rows Link Node a s row b →
      WalkStep rows Link' Node' a s row b
  fewer_hop a b s row hop = record {
    known = hop.known;
    sender = hop.sender;
    link = hop.link;
    joins = hop.joins;
    link_allowed = λ banned. hop.link_allowed (links row hop.known banned);
    node_allowed = λ banned. hop.node_allowed (nodes b banned);
  }

  pub fewer_walk : (a b : NodeId) (steps : List Step) (cost : ℕ) → IsWalk rows Link Node a b steps cost →
      IsWalk rows Link' Node' a b steps cost
  fewer_walk a b [] cost walk = walk
  fewer_walk a b (s ∷ steps) cost walk = (
    walk.0,
    walk.1,
    walk.2,
    fewer_hop a walk.1 s walk.0 walk.3,
    fewer_walk walk.1 b steps walk.2 walk.4,
    walk.5,
  )

-- a least route, where the same routes are allowed
pub same_least : (IsAllowed IsAllowed' : List Step → ℕ → Type 0) →
    ((route : List Step) (cost : ℕ) → IsAllowed route cost → IsAllowed' route cost) →
    ((route : List Step) (cost : ℕ) → IsAllowed' route cost → IsAllowed route cost) →
    (route : List Step) (cost : ℕ) → IsLeast IsAllowed route cost → IsLeast IsAllowed' route cost
same_least IsAllowed IsAllowed' to of route cost least = record {
  allowed = to route cost least.allowed;
  least = λ other c h. least.least other c (of other c h);
  first = λ other h. least.first other (of other cost h);
}

module _ (rows : List TeRow) (Link Link' : LinkId → Type 0) (Node Node' : NodeId → Type 0)
    (links : (row : TeRow) → Contains rows row → Link row.link ↔ Link' row.link)
    (nodes : (n : NodeId) → Node n ↔ Node' n) where
  pub to_walk : (a b : NodeId) (steps : List Step) (cost : ℕ) → IsWalk rows Link Node a b steps cost →
      IsWalk rows Link' Node' a b steps cost
  to_walk a b steps cost walk = fewer_walk rows Link Link' Node Node' (λ row known h. (links row known).1 h)
      (λ n h. (nodes n).1 h) a b steps cost walk

  pub of_walk : (a b : NodeId) (steps : List Step) (cost : ℕ) → IsWalk rows Link' Node' a b steps cost →
      IsWalk rows Link Node a b steps cost
  of_walk a b steps cost walk = fewer_walk rows Link' Link Node' Node (λ row known h. (links row known).0 h)
      (λ n h. (nodes n).0 h) a b steps cost walk

  pub same_potentials : (from : NodeId) (potentials : List (NodeId × ℕ)) →
      ArePotentials (IsWalk rows Link Node from) potentials → ArePotentials (IsWalk rows Link' Node' from) potentials
  same_potentials from potentials are = record {
    rising = are.rising;
    attained = λ n p h. (let has = are.attained n p h in (has.0, to_walk from n has.0 p has.1));
    least = λ n route cost walk. are.least n route cost (of_walk from n route cost walk);
  }

  pub same_certify : (from : NodeId) (potentials : List (NodeId × ℕ)) → Certify rows Link Node from potentials →
      Certify rows Link' Node' from potentials
  same_certify from potentials certify = record {
    start = certify.start;
    rises = λ a b s row p hop has. certify.rises a b s row p
        (fewer_hop rows Link' Link Node' Node (λ r known h. (links r known).0 h)
        (λ n h. (nodes n).0 h) a b s row hop) has;
  }

  pub same_walks : (from to : NodeId) (route : List Step) (cost : ℕ) →
      IsLeast (IsWalk rows Link Node from to) route cost → IsLeast (IsWalk rows Link' Node' from to) route cost
  same_walks from to = same_least (IsWalk rows Link Node from to) (IsWalk rows Link' Node' from to) (to_walk from to)
      (of_walk from to)

  pub same_none : (from to : NodeId) (potentials : List (NodeId × ℕ)) → JoinsNone rows Link Node from to potentials →
      JoinsNone rows Link' Node' from to potentials
  same_none from to potentials none = record {
    none = λ route cost walk. none.none route cost (of_walk from to route cost walk);
    potential = same_potentials from potentials none.potential;
    certificate = same_certify from potentials none.certificate;
  }
