-- What a prefix comes to: the tree that stands there, and the children of its rows one by one.
use Rattle.std.proofs.{Common.{◌≡◌, ◌≢◌, ◌≤◌, ◌<◌, ℕ, suc, ◌+◌, ◌-◌, ◌*◌, true, List, [], ◌∷◌, Option, Some, None, length, take, drop, get_or, refl, sym, ap, ◌∙◌, subst, arith}, Math.Seq.take-length, lemmas.List.length-append}
use Rattle.ason_base.specs.{declared.limits.TheConstants.MOST_NODES, declared.ids.NodeId.NodeId, declared.network.TeRow.TeRow}
use Rattle.mesh_rules.specs.declared.limits.TheConstants.{MOST_LINKS_OF_ROUTE}
use Rattle.ason_base.proofs.Members.{contains-head, contains-tail}
use Rattle.pair_search.specs.{Certificates.bound_at, Checks.{is_far, onward}, Searches.{AreRows, HasChildren, HasTree, IsPrefix, IsSearch, IsSoundPair, Search, over, total_of}, declared.cert.Children.{Children, End, More'}, declared.cert.Tree.{Tree, Far, Branch'}, declared.pairs.RoutePair.RoutePair, declared.prefixes.Prefix.Prefix}
use Rattle.pair_search.proofs.{BoundChecks.far-is, Explored.{branch-explored, branch-stands, explored-later, far-explored, gone-on, more-children, more-explored, no-children, none-explored-yet, onward-leads, prefix-few, prefix-longer, skip-children, skip-explored, tree-later}, Leaves.gone-same}

-- Trees

-- a prefix that is cut off
pub far-tree : (search : Search) → IsSearch search → (prefix : Prefix) (best : Option RoutePair) →
    IsSoundPair search best →
    is_far (total_of best) (bound_at search.goal prefix.at) prefix.cost ≡ true → HasTree search prefix best best Far
far-tree search is prefix best sound e =
    let far = far-is (total_of best) (bound_at search.goal prefix.at) prefix.cost e in
    record {
      tried = record {
        gone = gone-same search best sound;
        explored = far-explored search is prefix best far;
      };
      stands = far;
    }

-- a prefix with all its children
pub branch-tree : (search : Search) (prefix : Prefix) (old new : Option RoutePair) (p : _) (children : Children) →
    prefix.at ≢ search.to → HasChildren search prefix search.rows old new children →
    HasTree search prefix old new (Branch' p children)
branch-tree search prefix old new p children other has = record {
  tried = record {
    gone = has.gone;
    explored = branch-explored search prefix new other has.explored;
  };
  stands = branch-stands search prefix new p children other has.stand;
}

-- Rows one by one

-- a list of rows that is shorter than 1 is empty
pub no-rows : (rows : List TeRow) → length rows < 1 → rows ≡ []
no-rows [] none = refl
no-rows (row ∷ rows) none = absurd (omega (arith, none))

-- the first row, and those after it
pub first-rest : (rows : List TeRow) (row : TeRow) → 1 ≤ length rows → row ≡ get_or rows 0 row →
    rows ≡ row ∷ take (length rows - 1) (drop 1 rows)
first-rest [] row some is = absurd (omega (arith, some))
first-rest (x ∷ rows) row some is =
    let count : length rows ≡ length (x ∷ rows) - 1 = omega arith in
    let whole : take (length (x ∷ rows) - 1) rows ≡ rows =
    subst (λ n. take n rows ≡ rows) count (take-length rows) in
    λ i. sym is i ∷ sym whole i

-- without the first row they are rows of the network still
pub rest-rows : (search : Search) (row : TeRow) (rows : List TeRow) → AreRows search (row ∷ rows) → AreRows search rows
rest-rows search row rows are = record {
  known = λ other there. are.known other (contains-tail row other rows there);
  once = λ i j d before within. are.once (suc i) (suc j) d (omega arith) (omega arith);
  few = (let few : length (row ∷ rows) ≤ 24 = are.few in omega (arith, few));
}

-- the prefix goes on over one of the rows
module _ (search : Search) (is : IsSearch search) (prefix : Prefix) (leads : IsPrefix search prefix) (row : TeRow)
    (rows : List TeRow) (are : AreRows search (row ∷ rows)) (next : NodeId)
    (e : Some next ≡ onward prefix.done prefix.at row) (longer : Prefix) (is' : longer ≡ over prefix row next) where
  -- it is a prefix again
  pub onward-prefix : IsPrefix search longer
  onward-prefix = subst (IsPrefix search) (sym is')
      (prefix-longer search prefix leads row next
      (onward-leads search is prefix row next (are.known row (contains-head row rows)) (sym e)))

  -- so what is left to go gets less
  pub onward-less : (count t : ℕ) → (MOST_NODES - length prefix.done) * 32 + count ≡ t →
      (MOST_NODES - length longer.done) * 32 + 31 < t
  onward-less count t measure =
      let few : length prefix.done ≤ MOST_LINKS_OF_ROUTE = prefix-few search is prefix leads in
      let more : length longer.done ≡ length prefix.done + 1 = ap (λ p. length p.done) is'
      ∙ length-append prefix.done (record { node = prefix.at; link = row.link } ∷ []) in
      omega (arith, few, more, measure)

-- no row is left
pub end-children : (search : Search) (prefix : Prefix) (best : Option RoutePair) → IsSoundPair search best →
    HasChildren search prefix [] best best End
end-children search prefix best sound = record {
  gone = gone-same search best sound;
  explored = none-explored-yet search prefix best;
  stand = no-children search prefix best;
}

-- the first row leads to no node
pub skip-row : (search : Search) → IsSearch search → (prefix : Prefix) (row : TeRow) (rows : List TeRow)
    (old new : Option RoutePair) (children : Children) → onward prefix.done prefix.at row ≡ None →
    HasChildren search prefix rows old new children → HasChildren search prefix (row ∷ rows) old new children
skip-row search is prefix row rows old new children none has = record {
  gone = has.gone;
  explored = skip-explored search is prefix row rows new none has.explored;
  stand = skip-children search is prefix row rows new children none has.stand;
}

-- the first row has a tree, and the others have theirs
pub more-row : (search : Search) → IsSearch search → (prefix : Prefix) (row : TeRow) (rows : List TeRow) →
    AreRows search (row ∷ rows) → (next : NodeId) → onward prefix.done prefix.at row ≡ Some next →
    (old first new : Option RoutePair) (tree : Tree) (p : _) (others : Children) →
    HasTree search (over prefix row next) old first tree → HasChildren search prefix rows first new others →
    HasChildren search prefix (row ∷ rows) old new (More' row.link tree p others)
more-row search is prefix row rows are next e old first new tree p others has rest =
    let leads = onward-leads search is prefix row next (are.known row (contains-head row rows)) e in
    record {
      gone = gone-on search old first new has.tried.gone rest.gone;
      explored = more-explored search is prefix row rows next leads new
          (explored-later search (over prefix row next) first new rest.gone.better has.tried.explored) rest.explored;
      stand = more-children search is prefix row rows next leads new tree p others are.once
          (tree-later search (over prefix row next) first new tree rest.gone.better has.stands) rest.stand;
    }
