-- What a search over prefixes keeps: the best pair so far never gets worse, and trees stand for later totals too.
use Rattle.std.proofs.{Common.{◌≡◌, ◌≢◌, ◌≤◌, ◌<◌, ℕ, suc, ◌+◌, List, [], ◌∷◌, ◌++◌, Option, Some, None, length, refl, sym, ap, ◌∙◌, subst, arith, inl, inr, Contains}, lemmas.List.Elements.{All-contains, Contains-append_left, Contains-append_right}}
use Rattle.mesh_rules.specs.declared.limits.TheConstants.{MOST_LINKS_OF_ROUTE}
use Rattle.ason_base.specs.{declared.limits.TheConstants.MOST_METRIC, Walks.{HaveDistinctLinks, IsBackup, NoLink, NoNode}, declared.ids.NodeId.NodeId, declared.network.TeRow.TeRow, declared.steps.Step.Step}
use Rattle.ason_base.proofs.Members.{contains-cases, contains-head, contains-tail, contains-none}
use Rattle.mesh_nodes.proofs.{routes.Shorter.few_links, routes.Walked.one_row}
use Rattle.route_least.proofs.WalkLaws.{walk_push}
use Rattle.pair_search.specs.{Certificates.{AnyRow, IsFar, RowLeadsOn, TreeHolds, bound_at, child_links}, Checks.onward, Pairs.VisitsOnce, Searches.{AreExplored, ChildrenStand, HasGone, IsExplored, IsNoWorse, IsPrefix, IsPairReached, IsSearch, Search, TreeStands, over, total_of, weighed}, declared.cert.Children.{Children, End, More'}, declared.cert.Tree.{Tree, Branch'}, declared.pairs.RoutePair.RoutePair, declared.prefixes.Prefix.Prefix}
use Rattle.pair_search.proofs.{OnwardChecks.{is-leads, leads-is}, Leaves.prefix-cost, Orders.{good-less, reached-later, worse-trans}, Right.{append-step, next-fresh, walk-bounded}, Totals.{IsWeaker, stands-weaker, weaker-any, weaker-less, weaker-same}, Visits.{longer-once, visits-once}}

-- Later

later-weaker : (old new : Option RoutePair) → IsNoWorse old new → IsWeaker (total_of old) (total_of new)
later-weaker None None later = weaker-same None
later-weaker None (Some pair) later = weaker-any pair.total
later-weaker (Some pair) None later = absurd later
later-weaker (Some pair) (Some other) later = weaker-less pair.total other.total later.total

-- a tree that stands for a pair stands for each later one
pub tree-later : (search : Search) (prefix : Prefix) (old new : Option RoutePair) (tree : Tree) → IsNoWorse old new →
    TreeStands search prefix old tree → TreeStands search prefix new tree
tree-later search prefix old new tree later stands =
    stands-weaker search.rows search.from search.to search.goal (total_of old) (total_of new)
    (later-weaker old new later) tree prefix.done prefix.at prefix.cost stands

-- a prefix that is explored stays so
pub explored-later : (search : Search) (prefix : Prefix) (old new : Option RoutePair) → IsNoWorse old new →
    IsExplored search prefix old → IsExplored search prefix new
explored-later search prefix old new later explored rest backup left more walk once partner less =
    reached-later old new (record {
      primary = prefix.done ++ rest;
      backup = backup;
      total = prefix.cost + left + more;
    }) later (explored rest backup left more walk once partner less)

-- what never got worse up to a pair, and then from it on, never got worse
pub gone-on : (search : Search) (a b c : Option RoutePair) → HasGone search a b → HasGone search b c →
    HasGone search a c
gone-on search a b c first second = record {
  sound = second.sound;
  better = worse-trans a b c first.better second.better;
}

-- What is cut off

-- a prefix that is far has no pair that is better
pub far-explored : (search : Search) → IsSearch search → (prefix : Prefix) (best : Option RoutePair) →
    IsFar (total_of best) (bound_at search.goal prefix.at) prefix.cost → IsExplored search prefix best
far-explored search is prefix best far rest backup left more walk once partner less =
    let found = walk-bounded search.rows AnyRow search.to search.goal is.goal rest (λ s row a b there hop comes. tt)
    rest prefix.at left (λ x there. there) walk in
    go best (bound_at search.goal prefix.at) far found.1 found.2
  where
    go : (o : Option RoutePair) (b : Option ℕ) → IsFar (total_of o) b prefix.cost → {p : ℕ} → b ≡ Some p → p ≤ left →
        IsPairReached o (record { primary = prefix.done ++ rest; backup = backup; total = prefix.cost + left + more })
    go o None far e most = absurd (cc e)
    go None (Some b) far e most = absurd far
    go (Some pair) (Some b) far {p} e most =
        good-less (weighed pair)
        (record { primary = prefix.done ++ rest; backup = backup; total = prefix.cost + left + more })
        (let same : b ≡ p = cc e in omega (arith, far, same, most, less))

-- Prefixes that go on

-- a prefix has at most 63 steps
pub prefix-few : (search : Search) → IsSearch search → (prefix : Prefix) → IsPrefix search prefix →
    length prefix.done ≤ MOST_LINKS_OF_ROUTE
prefix-few search is prefix leads = few_links search.rows is.ends search.from prefix.at prefix.done prefix.cost
    leads.walk leads.once

-- with a step over a row that leads on, it is a prefix again
pub prefix-longer : (search : Search) (prefix : Prefix) → IsPrefix search prefix → (row : TeRow) (next : NodeId) →
    RowLeadsOn search.rows prefix.done prefix.at row next → IsPrefix search (over prefix row next)
prefix-longer search prefix is row next leads = record {
  walk = walk_push search.rows NoLink NoNode search.from prefix.at next prefix.done prefix.cost
      (record { node = prefix.at; link = row.link }) row is.walk
      (record {
        known = leads.known;
        sender = refl;
        link = refl;
        joins = leads.joins;
        link_allowed = λ none. none;
        node_allowed = λ none. none;
      });
  once = longer-once prefix.done prefix.at next row.link is.once leads.other leads.fresh;
}

-- the cost with a row more fits
pub row-cost : (search : Search) → IsSearch search → (prefix : Prefix) → IsPrefix search prefix → (row : TeRow)
    (next : NodeId) → RowLeadsOn search.rows prefix.done prefix.at row next → prefix.cost + row.metric < 4294967296
row-cost search is prefix leads row next on =
    let m = All-contains (λ r. (1 ≤ r.metric) × (r.metric ≤ MOST_METRIC)) search.rows row is.network.metrics on.known in
    let most : row.metric ≤ MOST_METRIC = m.1 in
    let small : prefix.cost ≤ 4128705 = prefix-cost search is prefix leads in
    omega (arith, most, small)

-- where the code goes on over a row, the row leads on
pub onward-leads : (search : Search) → IsSearch search → (prefix : Prefix) (row : TeRow) (next : NodeId) →
    Contains search.rows row → onward prefix.done prefix.at row ≡ Some next →
    RowLeadsOn search.rows prefix.done prefix.at row next
onward-leads search is prefix row next known e =
    leads-is search.rows (one_row search.rows is.network.links) prefix.done prefix.at row next known e

leads-onward : (search : Search) → IsSearch search → (prefix : Prefix) (row : TeRow) (next : NodeId) →
    RowLeadsOn search.rows prefix.done prefix.at row next → onward prefix.done prefix.at row ≡ Some next
leads-onward search is prefix row next leads =
    is-leads search.rows (one_row search.rows is.network.links) prefix.done prefix.at row next leads

-- a prefix is explored where all are that go on from it
pub branch-explored : (search : Search) (prefix : Prefix) (best : Option RoutePair) → prefix.at ≢ search.to →
    AreExplored search prefix search.rows best → IsExplored search prefix best
branch-explored search prefix best other each [] backup left more walk once partner less =
    absurd (other walk.0)
branch-explored search prefix best other each (s ∷ rest) backup left more walk once partner less =
    let row = walk.0 in
    let next = walk.1 in
    let step : Step = record { node = prefix.at; link = row.link } in
    let is : s ≡ step = (let a = walk.3.sender in let b = walk.3.link in λ i. record { node = a i; link = b i }) in
    let parted : prefix.done ++ s ∷ rest ≡ (prefix.done ++ step ∷ []) ++ rest =
    ap (λ x. prefix.done ++ x ∷ rest) is ∙ sym (append-step prefix.done step rest) in
    let twice = visits-once search.to (prefix.done ++ s ∷ rest) once in
    let fresh = next-fresh search.rows search.to prefix.done s next rest walk.2 twice walk.4 in
    let leads : RowLeadsOn search.rows prefix.done prefix.at row next = record {
      known = walk.3.known;
      joins = walk.3.joins;
      other = λ e. fresh s (Contains-append_right prefix.done (s ∷ []) s (contains-head s []))
          (walk.3.sender ∙ sym e);
      fresh = λ y there. fresh y (Contains-append_left prefix.done (s ∷ []) y there);
    } in
    let sum : prefix.cost + row.metric + walk.2 ≡ prefix.cost + left =
    (let e : left ≡ row.metric + walk.2 = walk.5 in omega (arith, e)) in
    let cheap : prefix.cost + row.metric + walk.2 ≤ more = omega (arith, sum, less) in
    let reached = each row next walk.3.known leads rest backup walk.2 more walk.4
    (subst (VisitsOnce search.to) parted once)
    (subst (λ r. IsBackup search.rows r search.from search.to backup more) parted partner) cheap in
    subst (λ r. IsPairReached best (record { primary = r; backup = backup; total = prefix.cost + left + more }))
    (sym parted)
    (subst (λ t. IsPairReached best (record {
      primary = (prefix.done ++ step ∷ []) ++ rest;
      backup = backup;
      total = t + more;
    })) sum reached)

-- Rows one by one

-- no row leads on where there is none
pub none-explored-yet : (search : Search) (prefix : Prefix) (best : Option RoutePair) →
    AreExplored search prefix [] best
none-explored-yet search prefix best row next there leads = absurd (contains-none row there)

-- where no row is, no child is due
pub no-children : (search : Search) (prefix : Prefix) (best : Option RoutePair) →
    ChildrenStand search prefix [] best End
no-children search prefix best = record {
  once = tt;
  leads = λ k there. absurd (contains-none k there);
  each = λ row next there leads. absurd (contains-none row there);
}

module _ (search : Search) (is : IsSearch search) (prefix : Prefix) (row : TeRow) (rows : List TeRow) where
  no-way : (other : TeRow) (next : NodeId) → onward prefix.done prefix.at row ≡ None →
      RowLeadsOn search.rows prefix.done prefix.at other next → row ≡ other → ⊥
  no-way other next none leads same =
      let there = leads-onward search is prefix other next leads in
      let here : onward prefix.done prefix.at other ≡ None =
      subst (λ r. onward prefix.done prefix.at r ≡ None) same none in
      cc (there, here)

  -- a row that leads to no node makes no difference to what is explored
  pub skip-explored : (best : Option RoutePair) → onward prefix.done prefix.at row ≡ None →
      AreExplored search prefix rows best → AreExplored search prefix (row ∷ rows) best
  skip-explored best none each other next there leads = elim (contains-cases row other rows there) [
    | inl same ↦ absurd (no-way other next none leads same)
    | inr later ↦ each other next later leads
  ]

  -- a row that leads to no node has no child
  pub skip-children : (best : Option RoutePair) (children : Children) → onward prefix.done prefix.at row ≡ None →
      ChildrenStand search prefix rows best children → ChildrenStand search prefix (row ∷ rows) best children
  skip-children best children none stand = record {
    once = stand.once;
    leads = λ k there. (let h = stand.leads k there in (h.0, h.1, contains-tail row h.0 rows h.2, h.3, h.4));
    each = λ other next there leads. elim (contains-cases row other rows there) [
      | inl same ↦ absurd (no-way other next none leads same)
      | inr later ↦ stand.each other next later leads
    ];
  }

  module _ (next : NodeId) (leads : RowLeadsOn search.rows prefix.done prefix.at row next) where
    same-next : (other : TeRow) (node : NodeId) → RowLeadsOn search.rows prefix.done prefix.at other node →
        row ≡ other →
        next ≡ node
    same-next other node more same =
        let here = leads-onward search is prefix row next leads in
        let there : onward prefix.done prefix.at row ≡ Some node =
        subst (λ r. onward prefix.done prefix.at r ≡ Some node) (sym same)
        (leads-onward search is prefix other node more) in
        (let e : Some next ≡ Some node = sym here ∙ there in let n : next ≡ node = cc e in n)

    -- the first row was gone over, and then the others
    pub more-explored : (best : Option RoutePair) → IsExplored search (over prefix row next) best →
        AreExplored search prefix rows best → AreExplored search prefix (row ∷ rows) best
    more-explored best first each other node there more = elim (contains-cases row other rows there) [
      | inl same ↦ (let at = same-next other node more same in
          subst (λ r. IsExplored search (over prefix r node) best) same
          (subst (λ n. IsExplored search (over prefix row n) best) at first))
      | inr later ↦ each other node later more
    ]

    not-again : HaveDistinctLinks (row ∷ rows) → (other : TeRow) → Contains rows other → other.link ≡ row.link → ⊥
    not-again distinct other there same =
        distinct 0 (suc there.0) other (omega arith) (let w = there.1 in omega (arith, w))
        (sym same ∙ sym (ap (λ (r : TeRow). r.link) there.2))

    -- the tree of the first row is the first child
    pub more-children : (best : Option RoutePair) (tree : Tree) (p : _) (others : Children) →
        HaveDistinctLinks (row ∷ rows) → TreeStands search (over prefix row next) best tree →
        ChildrenStand search prefix rows best others →
        ChildrenStand search prefix (row ∷ rows) best (More' row.link tree p others)
    more-children best tree p others distinct stands stand = record {
      once = (
        (λ again. (let h = stand.leads row.link again in not-again distinct h.0 h.2 h.3)),
        stand.once,
      );
      leads = λ k there. elim (contains-cases row.link k (child_links others) there) [
        | inl same ↦ (row, next, contains-head row rows, same, leads)
        | inr later ↦ (let h = stand.leads k later in (h.0, h.1, contains-tail row h.0 rows h.2, h.3, h.4))
      ];
      each = λ other node there more. elim (contains-cases row other rows there) [
        | inl same ↦ inl (
          ap (λ (r : TeRow). r.link) same,
          (let at = same-next other node more same in
              subst (λ n. TreeHolds search.rows search.from search.to (total_of best) search.goal tree
              (prefix.done ++ record { node = prefix.at; link = row.link } ∷ []) n (prefix.cost + other.metric)) at
              (subst (λ m. TreeHolds search.rows search.from search.to (total_of best) search.goal tree
              (prefix.done ++ record { node = prefix.at; link = row.link } ∷ []) next (prefix.cost + m))
              (ap (λ (r : TeRow). r.metric) same) stands)),
        )
        | inr later ↦ inr (stand.each other node later more)
      ];
    }

-- where all rows have their children, the branch stands
pub branch-stands : (search : Search) (prefix : Prefix) (best : Option RoutePair) (p : _) (children : Children) →
    prefix.at ≢ search.to → ChildrenStand search prefix search.rows best children →
    TreeStands search prefix best (Branch' p children)
branch-stands search prefix best p children other stand = (
  other,
  record {
    once = stand.once;
    leads = λ k there. (let h = stand.leads k there in (h.0, h.1, h.3, h.4));
  },
  (λ row next leads. stand.each row next leads.known leads),
)
