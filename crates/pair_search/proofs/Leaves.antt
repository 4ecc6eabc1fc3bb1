-- A prefix that has come to the end, with its least partner.
use Rattle.std.proofs.{Common.{◌≡◌, ◌≤◌, ◌<◌, ℕ, ◌+◌, ◌*◌, Bool, true, false, cond, List, [], ◌∷◌, ◌++◌, Option, Some, None, length, refl, sym, ap, ◌∙◌, subst, arith, inl, inr}, lemmas.List.Elements.{All-contains, Contains-append_right}}
use Rattle.std.specs.Prelude.{nat_le}
use Rattle.mesh_rules.specs.declared.limits.TheConstants.{MOST_LINKS_OF_ROUTE}
use Rattle.ason_base.specs.{declared.limits.TheConstants.MOST_METRIC, Walks.{HaveFewEnds, HaveMetrics, IsBackup, IsLeast, IsWalk, NoLink, NoNode, links_of}, declared.ids.NodeId.NodeId, declared.network.TeRow.TeRow, declared.steps.Step.Step}
use Rattle.ason_base.proofs.Members.{contains-head}
use Rattle.mesh_nodes.proofs.routes.Shorter.{few_links, shorten}
use Rattle.route_least.specs.declared.answers.Found.{Found}
use Rattle.pair_search.specs.{Certificates.{IsEnough, bound_at}, Pairs.{IsAsGood, IsNotBetter, VisitsOnce, Weighed}, Searches.{AreEndBounds, HasGone, HasOffered, HasWhole, IsExplored, IsNoWorse, IsOffered, IsOneOf, IsPairOf, IsPartner, IsPrefix, IsPairReached, IsSearch, IsSoundPair, Search, closed_rows, pair_of, total_of, weighed}, declared.pairs.RoutePair.RoutePair, declared.prefixes.Prefix.Prefix}
use Rattle.pair_search.proofs.{Orders.{good-less, most-same, reached-good, worse-same}, PartnerWalks.{partner-bounds, partner-costs}, Visits.visits-once}

-- the least partner visits no node twice
least-once : (rows : List TeRow) → HaveMetrics rows → (done : List Step) (from to : NodeId) (route : List Step)
    (cost : ℕ) → IsLeast (IsBackup rows done from to) route cost → VisitsOnce to route
least-once rows metrics done from to route cost is =
    let q = shorten rows metrics to route from cost is.allowed.walk in
    let part : IsBackup rows done from to q.is.part q.is.less = record {
      walk = q.is.walk;
      risks = λ r mine theirs. is.allowed.risks r
          (mine.0, mine.1, mine.2, q.is.among mine.1 mine.3, mine.4, mine.5) theirs;
      nodes = λ n mine theirs. is.allowed.nodes n (mine.0, q.is.among mine.0 mine.1, mine.2, mine.3, mine.4) theirs;
    } in
    let first : cost ≤ q.is.less = is.least q.is.part q.is.less part in
    let most : q.is.less ≤ cost = q.is.most in
    let same : q.is.less ≡ cost = omega arith in
    subst (VisitsOnce to) (q.same same) q.is.once

-- What a route costs

walk-cost : (rows : List TeRow) → HaveMetrics rows → (to : NodeId) (steps : List Step) (a : NodeId) (cost : ℕ) →
    IsWalk rows NoLink NoNode a to steps cost → cost ≤ MOST_METRIC * length steps
walk-cost rows metrics to [] a cost walk = (let none : cost ≡ 0 = walk.1 in omega (arith, none))
walk-cost rows metrics to (s ∷ steps) a cost walk =
    let m = All-contains (λ r. (1 ≤ r.metric) × (r.metric ≤ MOST_METRIC)) rows walk.0 metrics walk.3.known in
    let most : walk.0.metric ≤ MOST_METRIC = m.1 in
    let rest : walk.2 ≤ MOST_METRIC * length steps = walk-cost rows metrics to steps walk.1 walk.2 walk.4 in
    let sum : cost ≡ walk.0.metric + walk.2 = walk.5 in
    omega (arith, most, rest, sum)

-- a route without a repeated node costs little enough for 32 bits
once-cost : (rows : List TeRow) → HaveFewEnds rows → HaveMetrics rows → (to : NodeId) (steps : List Step)
    (a : NodeId) (cost : ℕ) → IsWalk rows NoLink NoNode a to steps cost → VisitsOnce to steps → cost ≤ 4128705
once-cost rows ends metrics to steps a cost walk once =
    let few : length steps ≤ MOST_LINKS_OF_ROUTE = few_links rows ends a to steps cost walk once in
    let sum : cost ≤ MOST_METRIC * length steps = walk-cost rows metrics to steps a cost walk in
    omega (arith, few, sum)

append-none : (a : List Step) → a ++ [] ≡ a
append-none [] = refl
append-none (x ∷ a) = ap (λ xs. x ∷ xs) (append-none a)

enough-from : (total bound : Option ℕ) (cost : ℕ) → ((b : ℕ) → bound ≡ Some b → IsNotBetter total cost b) →
    IsEnough total bound cost
enough-from total None cost each = tt
enough-from None (Some b) cost each = absurd (each b refl)
enough-from (Some t) (Some b) cost each = each b refl

-- a prefix costs so little too
pub prefix-cost : (search : Search) → IsSearch search → (prefix : Prefix) → IsPrefix search prefix →
    prefix.cost ≤ 4128705
prefix-cost search is prefix leads = once-cost search.rows is.ends is.network.metrics prefix.at prefix.done
    search.from prefix.cost leads.walk leads.once

module _ (search : Search) (is : IsSearch search) (prefix : Prefix) (leads : IsPrefix search prefix)
    (end : prefix.at ≡ search.to) where
  whole-walk : IsWalk search.rows NoLink NoNode search.from search.to prefix.done prefix.cost
  whole-walk = subst (λ n. IsWalk search.rows NoLink NoNode search.from n prefix.done prefix.cost) end leads.walk

  whole-once : VisitsOnce search.to prefix.done
  whole-once = subst (λ n. VisitsOnce n prefix.done) end leads.once

  -- no route goes on from the end
  no-further : (s : Step) (rest : List Step) (left : ℕ) →
      IsWalk search.rows NoLink NoNode prefix.at search.to (s ∷ rest) left →
      VisitsOnce search.to (prefix.done ++ s ∷ rest) → ⊥
  no-further s rest left walk once =
      (visits-once search.to (prefix.done ++ s ∷ rest) once).end s
      (Contains-append_right prefix.done (s ∷ rest) s (contains-head s rest)) (walk.3.sender ∙ end)

  -- Without a partner

  none-explored : IsPartner search prefix.done None → (best : Option RoutePair) → IsExplored search prefix best
  none-explored none best [] backup left more walk once partner less =
      absurd (none backup more (subst (λ r. IsBackup search.rows r search.from search.to backup more)
      (append-none prefix.done) partner))
  none-explored none best (s ∷ rest) backup left more walk once partner less =
      absurd (no-further s rest left walk once)

  none-offered : IsPartner search prefix.done None → (best : Option RoutePair) → IsOffered search prefix best
  none-offered none best backup more partner = absurd (none backup more partner)

  -- With one

  module _ (found : Found) (least : IsPartner search prefix.done (Some found)) where
    found-once : VisitsOnce search.to found.route
    found-once = least-once search.rows is.network.metrics prefix.done search.from search.to found.route found.cost
        least

    -- the least partner costs at most so much
    pub found-cost : found.cost ≤ 4128705
    found-cost = once-cost search.rows is.ends is.network.metrics search.to found.route search.from found.cost
        least.allowed.walk found-once

    -- the two are a pair, whichever is the primary
    offer-is : IsPairOf search (pair_of prefix.done prefix.cost found)
    offer-is = go (nat_le prefix.cost found.cost) refl
      where
        go : (b : Bool) → nat_le prefix.cost found.cost ≡ b → IsPairOf search
            (cond b
            (record { primary = prefix.done; backup = found.route; total = prefix.cost + found.cost })
            (record { primary = found.route; backup = prefix.done; total = prefix.cost + found.cost }))
        go true e = (
          prefix.cost,
          found.cost,
          record {
            first = whole-walk;
            first_once = whole-once;
            second = least.allowed;
            second_once = found-once;
            less = grind arith;
          },
          refl,
        )
        go false e = (
          found.cost,
          prefix.cost,
          record {
            first = least.allowed.walk;
            first_once = found-once;
            second = record {
              walk = whole-walk;
              risks = λ r mine theirs. least.allowed.risks r theirs mine;
              nodes = λ n mine theirs. least.allowed.nodes n theirs mine;
            };
            second_once = whole-once;
            less = grind arith;
          },
          omega arith,
        )

    abbrev offered : Weighed
    offered = weighed (pair_of prefix.done prefix.cost found)

    offer-good : (backup : List Step) (more : ℕ) → IsBackup search.rows prefix.done search.from search.to backup more →
        prefix.cost ≤ more →
        IsAsGood offered (record { primary = prefix.done; backup = backup; total = prefix.cost + more })
    offer-good backup more partner less = go (nat_le prefix.cost found.cost) refl
      where
        most : found.cost ≤ more
        most = least.least backup more partner

        go : (b : Bool) → nat_le prefix.cost found.cost ≡ b → IsAsGood
            (weighed (cond b
            (record { primary = prefix.done; backup = found.route; total = prefix.cost + found.cost })
            (record { primary = found.route; backup = prefix.done; total = prefix.cost + found.cost })))
            (record { primary = prefix.done; backup = backup; total = prefix.cost + more })
        go true e = record {
          total = (let m = most in omega (arith, m));
          primary = λ t. most-same (links_of prefix.done);
          backup = λ t l. least.first backup
              (subst (λ c. IsBackup search.rows prefix.done search.from search.to backup c)
              (let same : prefix.cost + found.cost ≡ prefix.cost + more = t in
              let cost : more ≡ found.cost = omega (arith, same) in cost) partner);
        }
        go false e = good-less
            (record { primary = found.route; backup = prefix.done; total = prefix.cost + found.cost })
            (record { primary = prefix.done; backup = backup; total = prefix.cost + more })
            (let above : found.cost < prefix.cost = grind arith in omega (arith, above, less))

    some-explored : (best : Option RoutePair) → IsPairReached best offered → IsExplored search prefix best
    some-explored best reached [] backup left more walk once partner less =
        let none : left ≡ 0 = walk.1 in
        let whole : prefix.done ++ [] ≡ prefix.done = append-none prefix.done in
        let its : IsBackup search.rows prefix.done search.from search.to backup more =
        subst (λ r. IsBackup search.rows r search.from search.to backup more) whole partner in
        let cheap : prefix.cost ≤ more = omega (arith, none, less) in
        let sum : prefix.cost + more ≡ prefix.cost + left + more = omega (arith, none) in
        let here = reached-good best offered (record {
          primary = prefix.done;
          backup = backup;
          total = prefix.cost + more;
        }) reached (offer-good backup more its cheap) in
        subst (λ r. IsPairReached best (record { primary = r; backup = backup; total = prefix.cost + left + more }))
        (sym whole)
        (subst (λ t. IsPairReached best (record { primary = prefix.done; backup = backup; total = t })) sum here)
    some-explored best reached (s ∷ rest) backup left more walk once partner less =
        absurd (no-further s rest left walk once)

    offer-total : (pair_of prefix.done prefix.cost found).total ≡ prefix.cost + found.cost
    offer-total = go (nat_le prefix.cost found.cost)
      where
        go : (b : Bool) → (weighed (cond b
            (record { primary = prefix.done; backup = found.route; total = prefix.cost + found.cost })
            (record { primary = found.route; backup = prefix.done; total = prefix.cost + found.cost }))).total ≡
            prefix.cost + found.cost
        go true = refl
        go false = refl

    some-offered : (best : Option RoutePair) → IsPairReached best offered → IsOffered search prefix best
    some-offered best reached backup more partner =
        let most : found.cost ≤ more = least.least backup more partner in go best reached most
      where
        go : (b : Option RoutePair) → IsPairReached b offered → found.cost ≤ more →
            IsNotBetter (total_of b) prefix.cost more
        go None r most = absurd r
        go (Some pair) r most =
            (let small : pair.total ≤ (pair_of prefix.done prefix.cost found).total = r.total in
            let is' : (pair_of prefix.done prefix.cost found).total ≡ prefix.cost + found.cost = offer-total in
            omega (arith, small, is', most))

-- The better one is kept

kept-sound : (search : Search) (old : Option RoutePair) (pair : RoutePair) (new : Option RoutePair) →
    IsOneOf old pair new → IsSoundPair search old → IsPairOf search pair → IsSoundPair search new
kept-sound search old pair new (inl is) sound its = subst (IsSoundPair search) (sym is) sound
kept-sound search old pair new (inr is) sound its = subst (IsSoundPair search) (sym is) its

-- the pair stays what it is
pub gone-same : (search : Search) (best : Option RoutePair) → IsSoundPair search best → HasGone search best best
gone-same search best sound = record { sound = sound; better = worse-same best }

-- What offering a route comes to

-- a route without a partner makes no pair
pub offered-none : (search : Search) → IsSearch search → (prefix : Prefix) → IsPrefix search prefix →
    prefix.at ≡ search.to → IsPartner search prefix.done None → (best : Option RoutePair) → IsSoundPair search best →
    HasOffered search prefix best best
offered-none search is prefix leads end none best sound = record {
  tried = record {
    gone = gone-same search best sound;
    explored = none-explored search is prefix leads end none best;
  };
  offered = none-offered search is prefix leads end none best;
}

-- a route with its least partner was offered
pub offered-some : (search : Search) → IsSearch search → (prefix : Prefix) → IsPrefix search prefix →
    prefix.at ≡ search.to → (found : Found) → IsPartner search prefix.done (Some found) → (old new : Option RoutePair) →
    IsSoundPair search old → IsNoWorse old new → IsPairReached new (weighed (pair_of prefix.done prefix.cost found)) →
    IsOneOf old (pair_of prefix.done prefix.cost found) new → HasOffered search prefix old new
offered-some search is prefix leads end found least old new sound kept reached one = record {
  tried = record {
    gone = record {
      sound = kept-sound search old (pair_of prefix.done prefix.cost found) new one sound
          (offer-is search is prefix leads end found least);
      better = kept;
    };
    explored = some-explored search is prefix leads end found least new reached;
  };
  offered = some-offered search is prefix leads end found least new reached;
}

-- a route with the bounds of its partners
pub whole-taken : (search : Search) → IsSearch search → (prefix : Prefix) (old new : Option RoutePair)
    (ps : List (NodeId × ℕ)) → HasOffered search prefix old new →
    AreEndBounds search.rows (closed_rows search prefix.done) search.from search.to ps →
    HasWhole search prefix old new ps
whole-taken search is prefix old new ps offered are = record {
  tried = offered.tried;
  whole = record {
    are = partner-bounds search is.network.links prefix.done ps are;
    enough = enough-from (total_of new) (bound_at ps search.from) prefix.cost
        (λ b e. (let partner = partner-costs search is.network.links prefix.done ps are b e in
        offered.offered partner.0 b partner.1));
  };
}
