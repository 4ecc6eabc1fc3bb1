-- What a node learns it knows: the link is one of the network, since what its neighbour knows is.
use Rattle.std.proofs.{Common.{◌≡◌, Bool, true, false, cond, nat_eq, List, [], ◌∷◌, ◌++◌, append-nil, refl, sym, ap, ◌∙◌, subst, inl, inr}, lemmas.List.append_assoc, lemmas.List.Elements.Contains-append_cases}
use Rattle.std.specs.{Prelude.{◌&&◌, Option, Some, None, filter, find, map}, List.Contains}
use Rattle.ason_base.specs.{declared.ids.LinkId.LinkId, declared.ids.NodeId.NodeId, declared.network.LinkSpec.LinkSpec, declared.network.TeRow.TeRow, Network.{Network, find_link, other_end, row_of, touches}}
use Rattle.ason_base.proofs.{Ordered.any-there, Members.{contains-cases, kept-there, there-from_map, contains-none}, Bools.and-right, Numbers.self-number, RiskUnion.same_link}
use Rattle.mesh_rules.specs.{Changes.{changed, learns, nothing}, Events.{after, knows, step}, declared.events.MeshEvent.TheVariants.Learn, KnownRows.{has_row, known_rows}, Learnt.{on_link, on_row}, LocalNodes.{LocalNode, local_node}, Machine.{Mesh, start}, State.NodeState}
use Rattle.mesh_nodes.specs.Routes.{AreRowsOf}
use Rattle.mesh_nodes.proofs.{Cases.if_cases, routes.Learnt.learnt-known, routes.Nodes.find-there}
use Rattle.lsp_laws.proofs.{hops.Plans.found_id, nodes.Facts.MeshFacts, nodes.NodeRuns.{facts-hold, facts-step}}
use Rattle.mesh_laws.specs.KnowsLaw.{EveryLearntIsKnown, KnowsLink, KnowsMore}

-- a known row is that of a link of the network
record RowOf (t : Network) (row : TeRow) : Type 0 where
  pub link : LinkSpec
  pub there : Contains t.links link
  pub is : row ≡ row_of link

known-row : (t : Network) (m : NodeId) (x : NodeState) → AreRowsOf t x.learnt → (row : TeRow) →
    Contains (known_rows (local_node t m) x) row → RowOf t row
known-row t m x rows row there =
    elim (Contains-append_cases (map row_of (filter (touches m) t.links)) x.learnt row there) [
      | inl own ↦ (let l = there-from_map row_of (filter (touches m) t.links) row own in
          record { link = l.0; there = (kept-there (touches m) t.links l.0 l.1).0; is = sym l.2 })
      | inr learnt ↦ (let of = rows row learnt in record {
        link = of.link;
        there = find-there (λ l. nat_eq l.id.0 row.link.0) t.links of.link of.found;
        is = of.is;
      })
    ]

found-some : (p : LinkSpec → Bool) (links : List LinkSpec) (l : LinkSpec) → Contains links l → p l ≡ true →
    find p links ≡ None → ⊥
found-some p [] l there passes none = contains-none l there
found-some p (m ∷ links) l there passes none = go (p m) refl none (found-some p links l)
  where
    go : (b : Bool) → p m ≡ b → cond b (Some m) (find p links) ≡ None →
        (Contains links l → p l ≡ true → find p links ≡ None → ⊥) → ⊥
    go true e is later = cc is
    go false e is later = elim (contains-cases m l links there) [
      | inl one ↦ (let test : p m ≡ true = subst (λ x. p x ≡ true) (sym one) passes in cc (test, e))
      | inr more ↦ later more passes is
    ]

more-known : (p : LocalNode) (x : NodeState) (row : TeRow) →
    (rows : List TeRow) × (known_rows p (changed x (on_row p x row)) ≡ known_rows p x ++ rows)
more-known p x row =
    if_cases (λ a. (rows : List TeRow) × (known_rows p (changed x a) ≡ known_rows p x ++ rows))
    (has_row (known_rows p x) row.link) nothing (learns row)
    (λ e. ([], sym (append-nil (known_rows p x))))
    (λ e. (row ∷ [], sym (append_assoc (map row_of p.own) x.learnt (row ∷ []))))

learnt-step : (t : Network) (s : Mesh) (n : NodeId) (k : LinkId) →
    (step t s (Learn n k)).nodes n.0 ≡
    changed (s.nodes n.0) (on_link (local_node t n) (s.nodes n.0) (find_link t k))
learnt-step t s n k = rw (self-number n.0) refl

module _ (t : Network) (s : Mesh) (facts : MeshFacts t s) (n : NodeId) (k : LinkId) where
  abbrev After : Mesh
  After = step t s (Learn n k)

  -- rows that a node has of a link
  of-link : (m : NodeId) (x : NodeState) → AreRowsOf t x.learnt → has_row (known_rows (local_node t m) x) k ≡ true →
      (l : LinkSpec) × (l.id ≡ k) × Contains t.links l × Contains (known_rows (local_node t m) x) (row_of l)
  of-link m x rows has =
      let row = any-there (λ r. nat_eq r.link.0 k.0) (known_rows (local_node t m) x) has in
      let of = known-row t m x rows row.0 row.1 in (
        of.link,
        (λ i. (sym of.is i).link) ∙ same_link row.0.link k row.2,
        of.there,
        subst (Contains (known_rows (local_node t m) x)) of.is row.1,
      )

  known-after : MeshFacts t After → (o : Option LinkSpec) → find_link t k ≡ o →
      ((u : NodeId) × (knows t s u k ≡ true)) → KnowsLink t After n k × KnowsMore t s After n
  known-after facts' None is (u, known) =
      let l = of-link u (s.nodes u.0) (facts.learnt u.0) known in
      let test : nat_eq l.0.id.0 k.0 ≡ true = subst (λ (i : LinkId). nat_eq i.0 k.0 ≡ true) (sym l.1) (self-number k.0) in
      absurd (found-some (λ l. nat_eq l.id.0 k.0) t.links l.0 l.2 test is)
  known-after facts' (Some l) is other =
      let there : After.nodes n.0 ≡ changed (s.nodes n.0) (on_row (local_node t n) (s.nodes n.0) (row_of l)) =
      learnt-step t s n k ∙ ap (λ o. changed (s.nodes n.0) (on_link (local_node t n) (s.nodes n.0) o)) is in
      let has : has_row (known_rows (local_node t n) (After.nodes n.0)) k ≡ true =
      subst (λ x. has_row (known_rows (local_node t n) x) k ≡ true) (sym there)
      (subst (λ (i : LinkId).
      has_row (known_rows (local_node t n) (changed (s.nodes n.0) (on_row (local_node t n) (s.nodes n.0) (row_of l)))) i ≡
      true) (found_id k t.links l is) (learnt-known (local_node t n) (s.nodes n.0) (row_of l))) in
      let of = of-link n (After.nodes n.0) (facts'.learnt n.0) has in
      let more = more-known (local_node t n) (s.nodes n.0) (row_of l) in (
        record { link = of.0; number = of.1; there = of.2; known = of.3 },
        (more.0, ap (known_rows (local_node t n)) there ∙ more.1),
      )

-- over every network and every run
pub every_learnt : EveryLearntIsKnown
every_learnt t events run n k may =
    let s = after t start events in
    let facts = facts-hold t events run in
    let l = any-there (λ l. touches n l && knows t s (other_end l n) k) t.links may in
    known-after t s facts n k (facts-step t s (Learn n k) may facts) (find_link t k) refl
    (other_end l.0 n, and-right (touches n l.0) _ l.2)
