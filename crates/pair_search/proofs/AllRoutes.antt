-- A search from the prefix without a step has gone over all routes.
use Rattle.std.proofs.Common.{◌≡◌, ◌≤◌, ℕ, zero, suc, ◌+◌, Bool, false, List, [], Option, Some, None, length, replicate, refl, sym, subst, arith}
use Rattle.std.specs.Prelude.{MatchOption, slice_index_or}
use Rattle.ason_base.specs.{declared.ids.NodeId.NodeId, declared.network.TeRow.TeRow, declared.steps.Step.Step}
use Rattle.route_least.specs.{Network.IsNetworkOf, declared.network.RouteNetwork.RouteNetwork}
use Rattle.pair_search.specs.{Answers.IsSmall, Certificates.AnyRow, Pairs.{HasNoPair, IsAsGood, IsBestPair}, Searches.{AreEndBounds, IsExplored, IsSearch, IsSearched, IsSoundPair, Search, HasTree, weighed}, declared.cert.Tree.Tree, declared.pairs.RoutePair.RoutePair, declared.prefixes.Prefix.Prefix}
use Rattle.pair_search.proofs.{Bounds.end-bounds, EndLists.few-ends}

none-shut : (n k : ℕ) → slice_index_or (replicate n false) k false ≡ false
none-shut zero k = refl
none-shut (suc n) zero = refl
none-shut (suc n) (suc k) = none-shut n k

-- what a search begins with, whose bounds are the least costs where no row is closed
pub is-search : (rows : List TeRow) (network : RouteNetwork) (closed : List Bool) (from to : NodeId)
    (ps : List (NodeId × ℕ)) → IsNetworkOf rows network → IsSmall rows → closed ≡ replicate (length rows) false →
    AreEndBounds rows closed from to ps →
    IsSearch (record { network = network; rows = rows; from = from; to = to; goal = ps })
is-search rows network closed from to ps is small none are = record {
  network = is;
  ends = few-ends rows small;
  few = small.count;
  goal = end-bounds rows closed from to AnyRow
      (λ row known any shut. (let on = shut.4 in
      let off : slice_index_or closed shut.0 false ≡ false =
      subst (λ c. slice_index_or c shut.0 false ≡ false) (sym none) (none-shut (length rows) shut.0) in
      cc (on, off))) ps are;
}

abbrev start : Search → List Step → Prefix
start search done = record { done = done; at = search.from; cost = 0 }

best-found : (search : Search) (best : Option RoutePair) → IsSoundPair search best →
    IsExplored search (start search []) best →
    MatchOption best (HasNoPair search.rows search.from search.to)
    (λ pair. IsBestPair search.rows search.from search.to (weighed pair))
best-found search None sound all = λ primary backup cost more pair.
    all primary backup cost more pair.first pair.first_once pair.second
    (let less : cost ≤ more = pair.less in omega (arith, less))
best-found search (Some found) sound all = record {
  cost = sound.0;
  more = sound.1;
  pair = sound.2;
  sum = sound.3;
  good = λ primary backup c m pair.
      (let sum : 0 + c + m ≡ c + m = omega arith in
      subst (λ t. IsAsGood (weighed found) (record { primary = primary; backup = backup; total = t })) sum
      (all primary backup c m pair.first pair.first_once pair.second
      (let less : c ≤ m = pair.less in omega (arith, less))));
}

-- what was found from the prefix without a step
pub searched : (search : Search) → IsSearch search → (done : List Step) → done ≡ [] → (best : Option RoutePair)
    (tree : Tree) → HasTree search (start search done) None best tree →
    IsSearched search.rows search.from search.to best (record { goal = search.goal; tree = tree })
searched search is done none best tree has =
    let all = subst (λ steps. HasTree search (start search steps) None best tree) none has in
    record {
      sound = best-found search best all.tried.gone.sound all.tried.explored;
      certified = record { goal = is.goal; tree = all.stands };
    }
