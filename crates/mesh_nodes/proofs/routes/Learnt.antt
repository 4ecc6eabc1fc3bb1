-- A row that a node learns.
use Rattle.std.proofs.{Common.{◌≡◌, ◌≢◌, ◌<◌, ◌≤◌, inl, inr, ℕ, Bool, true, false, cond, nat_eq, List, [], ◌∷◌, ◌++◌, filter, get_or, length, map, refl, sym, ap, ◌∙◌, subst, arith, Contains}, lemmas.List.append_assoc, lemmas.List.Elements.{All-append, All-contains, All-from_recursion, Contains-append_cases, Contains-append_left, Contains-append_right, Contains-get_or}, lemmas.List.Quantifiers.all_pairs_push, lemmas.Bool.or_right}
use Rattle.std.specs.Prelude.{All, Some, find}
use Rattle.ason_base.specs.{declared.limits.TheConstants.MOST_METRIC, Network.{IsTopology, Network, find_link, is_link, row_of, touches}, declared.ids.LinkId.LinkId, declared.ids.NodeId.NodeId, declared.network.LinkSpec.LinkSpec, declared.network.TeRow.TeRow}
use Rattle.ason_base.proofs.{Ordered.there-any, Members.{contains-cases, contains-head, there-kept, there-map, contains-none}}
use Rattle.mesh_rules.specs.{Changes.{Answer, changed, learns, learnt_after, nothing}, KnownRows.{has_row, known_rows}, LocalNodes.{LocalNode, local_node}, State.NodeState}
use Rattle.mesh_rules.proofs.Topologies.{each-link, topology_searchable}
use Rattle.mesh_nodes.specs.{Learnt.{LearningFits, LearntIsKnown, LearntStayTrue, MayLearn, NetworkRowsMayBeLearnt, RowsStayFit}, Routes.{AreRowsOf, AreSearchable, IsElsewhere, IsRowOf, RowsFit}, Sent.AnswerFits}
use Rattle.mesh_nodes.proofs.{Cases.if_cases, routes.Nodes.{find-there, known-are, metrics-are, same_number}, routes.Topologies.{both-ends, few-nodes}, routes.Walked.node_test}

-- Rows one by one

each-row : (P : TeRow → Type 0) (rows : List TeRow) → ((row : TeRow) → Contains rows row → P row) → All P rows
each-row P rows holds k d below = holds (get_or rows k d) (Contains-get_or rows k d below)

one-row : (P : TeRow → Type 0) (row : TeRow) → P row → All P (row ∷ [])
one-row P row here = All-from_recursion P (row ∷ []) (here, tt)

-- a row that isn't there has another link than those that are
other-link : (rows : List TeRow) (row : TeRow) → has_row rows row.link ≡ false → (k : ℕ) (d : TeRow) →
    k < length rows → (get_or rows k d).link ≢ row.link
other-link rows row none k d below e =
    let there : has_row rows row.link ≡ true =
    there-any (λ r. nat_eq r.link.0 row.link.0) rows (get_or rows k d) (Contains-get_or rows k d below)
    (same_number (get_or rows k d).link row.link e) in
    absurd (cc (none, there))

-- What is known then

pub after-known : (p : LocalNode) (s : NodeState) (row : TeRow) →
    map row_of p.own ++ (s.learnt ++ row ∷ []) ≡ known_rows p s ++ row ∷ []
after-known p s row = sym (append_assoc (map row_of p.own) s.learnt (row ∷ []))

pub learnt-known : LearntIsKnown
learnt-known p s row =
    if_cases (λ a. has_row (known_rows p (changed s a)) row.link ≡ true) (has_row (known_rows p s) row.link) nothing
    (learns row)
    (λ known. known)
    (λ none. subst (λ rows. has_row rows row.link ≡ true) (sym (after-known p s row))
    (there-any (λ r. nat_eq r.link.0 row.link.0) (known_rows p s ++ row ∷ []) row
    (Contains-append_right (known_rows p s) (row ∷ []) row (contains-head row []))
    (same_number row.link row.link refl)))

pub learning-fits : LearningFits
learning-fits p s row fits =
    if_cases (AnswerFits p s (Unit {0})) (has_row (known_rows p s) row.link) nothing (learns row)
    (λ known. record { kept = fits; near = tt; written = λ w. tt; few = omega arith })
    (λ none. record {
      kept = record { legs = fits.legs; calls = fits.calls; first = fits.first; numbers = fits.numbers };
      near = tt;
      written = λ w. tt;
      few = omega arith;
    })

-- Where nothing is learnt the same rows are known

pub same-rows_fit : (p : LocalNode) (s : NodeState) (a : Answer) → a.rows ≡ [] → RowsFit p s → RowsFit p (changed s a)
same-rows_fit p s a none fit =
    let same : (changed s a).learnt ≡ s.learnt = ap (λ rows. learnt_after rows s.learnt) none in
    record {
      searchable = subst (λ rows. AreSearchable (map row_of p.own ++ rows)) (sym same) fit.searchable;
      others = subst (All (IsElsewhere p.id)) (sym same) fit.others;
    }

pub same-rows_true : (t : Network) (s : NodeState) (a : Answer) → a.rows ≡ [] → AreRowsOf t s.learnt →
    AreRowsOf t (changed s a).learnt
same-rows_true t s a none rows = rw none rows

-- Routes can be asked of it

more-searchable : (p : LocalNode) (s : NodeState) (row : TeRow) → RowsFit p s → MayLearn p s row →
    has_row (known_rows p s) row.link ≡ false → AreSearchable (known_rows p s ++ row ∷ [])
more-searchable p s row fit may none = record {
  ends = may.ends;
  metrics = All-append (λ r. (1 ≤ r.metric) × (r.metric ≤ MOST_METRIC)) (known_rows p s)
      (row ∷ []) fit.searchable.metrics
      (one-row (λ r. (1 ≤ r.metric) × (r.metric ≤ MOST_METRIC)) row may.metric);
  links = all_pairs_push (λ x y. x.link ≢ y.link) (known_rows p s) row fit.searchable.links
      (other-link (known_rows p s) row none);
}

pub rows-stay_fit : RowsStayFit
rows-stay_fit p s row fit may =
    if_cases (λ a. RowsFit p (changed s a)) (has_row (known_rows p s) row.link) nothing (learns row)
    (λ known. record { searchable = fit.searchable; others = fit.others })
    (λ none. record {
      searchable = subst AreSearchable (sym (after-known p s row)) (more-searchable p s row fit may none);
      others = All-append (IsElsewhere p.id) s.learnt (row ∷ []) fit.others
          (one-row (IsElsewhere p.id) row (may.elsewhere none));
    })

-- Rows of a network

found-number : (k : LinkId) (links : List LinkSpec) (l : LinkSpec) → find (λ m. nat_eq m.id.0 k.0) links ≡ Some l →
    l.id.0 ≡ k.0
found-number k [] l e = absurd (cc e)
found-number k (m ∷ links) l e = go (nat_eq m.id.0 k.0) refl e (found-number k links l)
  where
    go : (b : Bool) → nat_eq m.id.0 k.0 ≡ b → cond b (Some m) (find (λ m. nat_eq m.id.0 k.0) links) ≡ Some l →
        (find (λ m. nat_eq m.id.0 k.0) links ≡ Some l → l.id.0 ≡ k.0) → l.id.0 ≡ k.0
    go true same is later =
        let number : m.id.0 ≡ k.0 = grind arith in
        let first : m ≡ l = cc is in
        subst (λ (x : LinkSpec). x.id.0 ≡ k.0) first number
    go false same is later = later is

-- the row of a link that the network has
pub found-row : (t : Network) (k : LinkId) (l : LinkSpec) → find_link t k ≡ Some l → IsRowOf t (row_of l)
found-row t k l e = record {
  link = l;
  found = subst (λ n. find (λ (m : LinkSpec). nat_eq m.id.0 n) t.links ≡ Some l) (sym (found-number k t.links l e)) e;
  is = refl;
}

more-rows : (t : Network) (rows : List TeRow) (row : TeRow) → AreRowsOf t rows → IsRowOf t row →
    AreRowsOf t (rows ++ row ∷ [])
more-rows t rows row are is r there = elim (Contains-append_cases rows (row ∷ []) r there) [
  | inl before ↦ are r before
  | inr here ↦ elim (contains-cases row r [] here) [
    | inl same ↦ subst (IsRowOf t) same is
    | inr none ↦ absurd (contains-none r none)
  ]
]

pub learnt-stay_true : LearntStayTrue
learnt-stay_true t p s row are is =
    if_cases (λ a. AreRowsOf t (changed s a).learnt) (has_row (known_rows p s) row.link) nothing (learns row)
    (λ known. are)
    (λ none. more-rows t s.learnt row are is)

link-there : (t : Network) (row : TeRow) (is : IsRowOf t row) → Contains t.links is.link
link-there t row is = find-there (λ m. nat_eq m.id.0 row.link.0) t.links is.link is.found

row-ends : (t : Network) (row : TeRow) → IsTopology t → IsRowOf t row →
    Contains (map (λ m. m.id) t.nodes) row.low × Contains (map (λ m. m.id) t.nodes) row.high
row-ends t row valid is =
    let link : is_link t.nodes is.link ≡ true =
    All-contains (λ l. is_link t.nodes l ≡ true) t.links is.link
    (All-from_recursion (λ l. is_link t.nodes l ≡ true) t.links (each-link t valid)) (link-there t row is) in
    subst (λ (r : TeRow). Contains (map (λ m. m.id) t.nodes) r.low × Contains (map (λ m. m.id) t.nodes) r.high)
    (sym is.is) (both-ends t.nodes is.link link)

-- a node knows each link of which it is an end
own-known : (t : Network) (n : NodeId) (s : NodeState) (row : TeRow) (is : IsRowOf t row) →
    touches n is.link ≡ true → has_row (known_rows (local_node t n) s) row.link ≡ true
own-known t n s row is touch =
    there-any (λ r. nat_eq r.link.0 row.link.0) (known_rows (local_node t n) s) (row_of is.link)
    (Contains-append_left (map row_of (filter (touches n) t.links)) s.learnt (row_of is.link)
    (there-map row_of (filter (touches n) t.links) is.link
    (there-kept (touches n) t.links is.link (link-there t row is) touch)))
    (same_number (row_of is.link).link row.link (ap (λ (r : TeRow). r.link) (sym is.is)))

elsewhere : (t : Network) (n : NodeId) (s : NodeState) (row : TeRow) → IsRowOf t row →
    has_row (known_rows (local_node t n) s) row.link ≡ false → IsElsewhere n row
elsewhere t n s row is none = (
  λ low. (let same : nat_eq is.link.low.0 n.0 ≡ true =
      node_test is.link.low n (ap (λ (r : TeRow). r.low) (sym is.is) ∙ low) in
      let known = own-known t n s row is (rw same refl) in
      absurd (cc (none, known))),
  λ high. (let same : nat_eq is.link.high.0 n.0 ≡ true =
      node_test is.link.high n (ap (λ (r : TeRow). r.high) (sym is.is) ∙ high) in
      let known = own-known t n s row is (or_right (nat_eq is.link.low.0 n.0) (nat_eq is.link.high.0 n.0) same) in
      absurd (cc (none, known))),
)

pub network-rows-may : NetworkRowsMayBeLearnt
network-rows-may t n s row valid are is =
    let searchable = topology_searchable t valid in
    let known = known-are t n s searchable are in
    let all = more-rows t (known_rows (local_node t n) s) row known is in
    record {
      metric = All-contains (λ r. (1 ≤ r.metric) × (r.metric ≤ MOST_METRIC))
          (known_rows (local_node t n) s ++ row ∷ []) row
          (metrics-are t (known_rows (local_node t n) s ++ row ∷ []) searchable all)
          (Contains-append_right (known_rows (local_node t n) s) (row ∷ []) row (contains-head row []));
      ends = (
        map (λ m. m.id) t.nodes,
        few-nodes t valid,
        each-row (λ r. Contains (map (λ m. m.id) t.nodes) r.low × Contains (map (λ m. m.id) t.nodes) r.high)
            (known_rows (local_node t n) s ++ row ∷ []) (λ r there. row-ends t r valid (all r there)),
      );
      elsewhere = elsewhere t n s row is;
    }
