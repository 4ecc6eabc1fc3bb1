-- What a search over prefixes of routes has found.
use Rattle.std.specs.{Prelude.{◌≡◌, ◌⊎◌, ◌≤◌, ◌==◌, ◌&&◌, ◌||◌, ◌+◌, ℕ, Bool, true, false, not, nat_le, nat_lt, List, [], ◌∷◌, ◌++◌, fold, map, Option, Some, None, MatchOption, length, if◌then◌else◌}, List.{Contains, list_any}}
use Rattle.ason_base.specs.{Walks.{HaveDistinctLinks, ArePotentials, Certify, HaveFewEnds, IsBackup, IsLeast, IsWalk, NoLink, NoNode}, declared.ids.LinkId.LinkId, declared.ids.NodeId.NodeId, declared.network.TeRow.TeRow, declared.steps.Step.Step}
use Rattle.route_least.specs.{Network.{IsClosed, IsNetworkOf}, declared.network.RouteNetwork.RouteNetwork, declared.answers.Found.Found}
use Rattle.pair_search.specs.{Certificates.{AnyRow, AreBounds, Certifies, AreLinksOnce, ChildStands, IsEnough, RowLeadsOn, MayPartner, TreeHolds, bound_at, child_links}, Pairs.{HasNoPair, IsAsGood, IsBestPair, IsNotBetter, IsPair, VisitsOnce, Weighed}, declared.answers.Best.Best, declared.cert.Cert.Cert, Checks.may_partner, declared.cert.Children.Children, declared.cert.Tree.Tree, declared.pairs.RoutePair.RoutePair, declared.prefixes.Prefix.Prefix}

-- the rows, the two nodes that a pair joins, and bounds of what is left to the second of them
pub record Search : Type 0 where
  pub network : RouteNetwork
  pub rows : List TeRow
  pub from : NodeId
  pub to : NodeId
  pub goal : List (NodeId × ℕ)

pub record IsSearch (search : Search) : Type 0 where
  pub network : IsNetworkOf search.rows search.network
  pub ends : HaveFewEnds search.rows
  pub few : length search.rows ≤ 24
  pub goal : AreBounds search.rows AnyRow search.to search.goal

-- the steps lead there at this cost, and visit no node twice
pub record IsPrefix (search : Search) (prefix : Prefix) : Type 0 where
  pub walk : IsWalk search.rows NoLink NoNode search.from prefix.at prefix.done prefix.cost
  pub once : VisitsOnce prefix.at prefix.done

-- The best pair so far

abbrev pub weighed : RoutePair → Weighed
weighed pair = record { primary = pair.primary; backup = pair.backup; total = pair.total }

abbrev pub total_of : Option RoutePair → Option ℕ
total_of None = None
total_of (Some pair) = Some pair.total

-- the two are a pair of this total
abbrev pub IsPairOf : Search → RoutePair → Type 0
IsPairOf search pair = (cost : ℕ) × (more : ℕ) ×
    IsPair search.rows search.from search.to pair.primary pair.backup cost more × (pair.total ≡ cost + more)

abbrev pub IsSoundPair : Search → Option RoutePair → Type 0
IsSoundPair search None = Unit {0}
IsSoundPair search (Some pair) = IsPairOf search pair

-- a pair so far is as good as this one
abbrev pub IsPairReached : Option RoutePair → Weighed → Type 0
IsPairReached None other = ⊥
IsPairReached (Some pair) other = IsAsGood (weighed pair) other

-- what was found later is as good as what was found before
abbrev pub IsNoWorse : Option RoutePair → Option RoutePair → Type 0
IsNoWorse None now = Unit {0}
IsNoWorse (Some pair) now = IsPairReached now (weighed pair)

-- the best pair is what it was, or this one
abbrev pub IsOneOf : Option RoutePair → RoutePair → Option RoutePair → Type 0
IsOneOf old pair new = (new ≡ old) ⊎ (new ≡ Some pair)

-- the pair now is a pair, and as good as the one before
pub record HasGone (search : Search) (old new : Option RoutePair) : Type 0 where
  pub sound : IsSoundPair search new
  pub better : IsNoWorse old new

-- a pair so far is as good as each pair whose primary route begins with the prefix
abbrev pub IsExplored : Search → Prefix → Option RoutePair → Type 0
IsExplored search prefix best =
    (rest backup : List Step) (left more : ℕ) → IsWalk search.rows NoLink NoNode prefix.at search.to rest left →
    VisitsOnce search.to (prefix.done ++ rest) →
    IsBackup search.rows (prefix.done ++ rest) search.from search.to backup more → prefix.cost + left ≤ more →
    IsPairReached best (record { primary = prefix.done ++ rest; backup = backup; total = prefix.cost + left + more })

-- the prefix goes on over the row
abbrev pub over : Prefix → TeRow → NodeId → Prefix
over prefix row next = record {
  done = prefix.done ++ record { node = prefix.at; link = row.link } ∷ [];
  at = next;
  cost = prefix.cost + row.metric;
}

-- each prefix is explored that goes on over one of these rows
abbrev pub AreExplored : Search → Prefix → List TeRow → Option RoutePair → Type 0
AreExplored search prefix rows best = (row : TeRow) (next : NodeId) → Contains rows row →
    RowLeadsOn search.rows prefix.done prefix.at row next → IsExplored search (over prefix row next) best

-- the best pair never got worse, and the prefix is explored
pub record HasTried (search : Search) (prefix : Prefix) (old new : Option RoutePair) : Type 0 where
  pub gone : HasGone search old new
  pub explored : IsExplored search prefix new

-- Trees

abbrev pub TreeStands : Search → Prefix → Option RoutePair → Tree → Type 0
TreeStands search prefix best tree =
    TreeHolds search.rows search.from search.to (total_of best) search.goal tree prefix.done prefix.at prefix.cost

-- just these rows have a child, where they lead on, and each child stands
pub record ChildrenStand (search : Search) (prefix : Prefix) (rows : List TeRow) (best : Option RoutePair)
    (children : Children) : Type 0 where
  pub once : AreLinksOnce (child_links children)
  pub leads : (k : LinkId) → Contains (child_links children) k → (row : TeRow) × (next : NodeId) ×
      Contains rows row × (row.link ≡ k) × RowLeadsOn search.rows prefix.done prefix.at row next
  pub each : (row : TeRow) (next : NodeId) → Contains rows row →
      RowLeadsOn search.rows prefix.done prefix.at row next →
      ChildStands search.rows search.from search.to (total_of best) search.goal children prefix.done prefix.at
      prefix.cost row next

-- what stands at the prefix, and the best pair of those so far and those whose primary route begins so
pub record HasTree (search : Search) (prefix : Prefix) (old new : Option RoutePair) (tree : Tree) : Type 0 where
  pub tried : HasTried search prefix old new
  pub stands : TreeStands search prefix new tree

-- the same for the prefixes that go on over these rows
pub record HasChildren (search : Search) (prefix : Prefix) (rows : List TeRow) (old new : Option RoutePair)
    (children : Children) : Type 0 where
  pub gone : HasGone search old new
  pub explored : AreExplored search prefix rows new
  pub stand : ChildrenStand search prefix rows new children

-- rows of the network, none of them twice
pub record AreRows (search : Search) (rows : List TeRow) : Type 0 where
  pub known : (row : TeRow) → Contains rows row → Contains search.rows row
  pub once : HaveDistinctLinks rows
  pub few : length rows ≤ 24

-- Partners of a route

-- for each row whether a partner mustn't use it
abbrev pub closed_rows : Search → List Step → List Bool
closed_rows search done = map (λ row. not (may_partner search.rows done search.from search.to row)) search.rows

-- the least route that is risk-disjoint from this one and shares no inner node with it, or none where there is none
abbrev pub IsPartner : Search → List Step → Option Found → Type 0
IsPartner search done None = (route : List Step) (cost : ℕ) →
    ¬ IsBackup search.rows done search.from search.to route cost
IsPartner search done (Some found) =
    IsLeast (IsBackup search.rows done search.from search.to) found.route found.cost

-- the least costs of walks from the end over the rows that aren't closed
pub record AreEndBounds (rows : List TeRow) (closed : List Bool) (from to : NodeId)
    (bounds : List (NodeId × ℕ)) : Type 0 where
  pub potential : ArePotentials (IsWalk rows (IsClosed rows closed) (Contains []) to) bounds
  pub certificate : Certify rows (IsClosed rows closed) (Contains []) to bounds

-- the bounds of partners are valid, and no partner makes a lesser total than the pair so far has
pub record IsWholeAt (search : Search) (prefix : Prefix) (best : Option RoutePair)
    (bounds : List (NodeId × ℕ)) : Type 0 where
  pub are : AreBounds search.rows (MayPartner search.rows prefix.done search.from search.to) search.to bounds
  pub enough : IsEnough (total_of best) (bound_at bounds search.from) prefix.cost

-- the route with its partner: the cheaper one is the primary
abbrev pub pair_of : List Step → ℕ → Found → RoutePair
pair_of route cost partner =
    if nat_le cost partner.cost
    then record { primary = route; backup = partner.route; total = cost + partner.cost }
    else record { primary = partner.route; backup = route; total = cost + partner.cost }

-- the pair so far has a total of at most what the route and each partner cost
abbrev pub IsOffered : Search → Prefix → Option RoutePair → Type 0
IsOffered search prefix best = (backup : List Step) (more : ℕ) →
    IsBackup search.rows prefix.done search.from search.to backup more →
    IsNotBetter (total_of best) prefix.cost more

-- the route was offered with its least partner
pub record HasOffered (search : Search) (prefix : Prefix) (old new : Option RoutePair) : Type 0 where
  pub tried : HasTried search prefix old new
  pub offered : IsOffered search prefix new

-- the prefix, which has come to the end, was taken as a route, with the bounds of its partners
pub record HasWhole (search : Search) (prefix : Prefix) (old new : Option RoutePair)
    (bounds : List (NodeId × ℕ)) : Type 0 where
  pub tried : HasTried search prefix old new
  pub whole : IsWholeAt search prefix new bounds

-- Lists of links in order

abbrev pub at_most : List Step → List Step → Bool
at_most [] ys = true
at_most (x ∷ xs) [] = false
at_most (x ∷ xs) (y ∷ ys) = nat_lt x.link.0 y.link.0 || (x.link.0 == y.link.0 && at_most xs ys)

abbrev pub as_good : Weighed → Weighed → Bool
as_good first second =
    if first.total == second.total
    then at_most first.primary second.primary
    && (not (at_most second.primary first.primary) || at_most first.backup second.backup)
    else nat_lt first.total second.total

-- Ends of rows

abbrev pub with_end_node : List NodeId → NodeId → List NodeId
with_end_node ends n = if list_any (λ m. m.0 == n.0) ends then ends else ends ++ n ∷ []

abbrev pub with_end_nodes : List NodeId → TeRow → List NodeId
with_end_nodes ends row = with_end_node (with_end_node ends row.low) row.high

-- each node once that is an end of a row
abbrev pub ends_of : List TeRow → List NodeId
ends_of rows = fold with_end_nodes [] rows

-- All routes

-- the best pair of all and a certificate of its total, or none and a certificate of that
pub record IsSearched (rows : List TeRow) (from to : NodeId) (best : Option RoutePair) (cert : Cert) : Type 0 where
  pub sound : MatchOption best (HasNoPair rows from to) (λ pair. IsBestPair rows from to (weighed pair))
  pub certified : Certifies rows from to (total_of best) cert

-- the answer is that of the pair and the certificate
pub record IsFoundBest (pair : Option RoutePair) (cert : Cert) (best : Best) : Type 0 where
  pub found : pair ≡ Some (record { primary = best.primary; backup = best.backup; total = best.total })
  pub certified : best.cert ≡ cert
