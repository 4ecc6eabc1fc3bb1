-- What a pair costs, and that a plan and two names have one text of the best pair.
use Rattle.std.proofs.{Common.{◌≡◌, ◌∙◌, ℕ, ◌+◌, List, [], ◌∷◌, ◌++◌, sym, ap, arith, codes, inl, inr}, lemmas.List.Sums.sum_by-cons}
use Rattle.std.specs.Prelude.{None, Some, Result, Ok, Err, option_map, unwrap_or}
use Rattle.ason_base.specs.{Network.IsTopology, Walks.{HaveDistinctLinks, IsWalk, NoLink, NoNode, links_of}, declared.ids.NodeId.NodeId, declared.network.TeRow.TeRow, declared.steps.Step.Step}
use Rattle.mesh_nodes.proofs.{routes.Walked.{one_walk, one_row}, routes.Topologies.rows-searchable}
use Rattle.pair_search.specs.{Answers.{IsBest, IsSmall}, Certificates.Certifies, Checks.ChecksAreExact, Pairs.{HasNoPair, IsAsGood, IsBestPair, Weighed}, declared.answers.Best.Best, declared.cert.Cert.Cert}
use Rattle.pair_search.proofs.{OnwardChecks.find-row, Orders.most-once}
use Rattle.plan_reader.specs.declared.plan.Plan.{Plan}
use Rattle.table_text.specs.{BestText.{IsBestBetween, IsBestOf, IsBestText, TellsBest, TellsNoPair, certificate_line, checker_line, cost_of, judged_pair, metric_of, pair_lines}, EndsText.ends_of, RouteText.plan_rows, declared.ends.EndsFault.EndsFault}

module _ (rows : List TeRow) (distinct : HaveDistinctLinks rows) where
  -- the metrics of a walk's links add up to its cost
  pub walk-cost : (to : NodeId) (steps : List Step) (from : NodeId) (cost : ℕ) →
      IsWalk rows NoLink NoNode from to steps cost → cost_of rows steps ≡ cost
  walk-cost to [] from cost walk = sym walk.1
  walk-cost to (s ∷ steps) from cost walk =
      let row = walk.0 in
      let found = find-row rows (one_row rows distinct) row walk.3.known in
      let metric : metric_of rows s.link ≡ row.metric = ap (metric_of rows) walk.3.link
      ∙ ap (λ o. unwrap_or (option_map (λ (r : TeRow). r.metric) o) 0) found in
      let rest : cost_of rows steps ≡ walk.2 = walk-cost to steps walk.1 walk.2 walk.4 in
      sum_by-cons (λ (s : Step). metric_of rows s.link) s steps
      ∙ (λ i. metric i + rest i) ∙ sym walk.5

  module _ (from to : NodeId) where
    -- the costs of a best pair
    pub primary-cost : (a : Weighed) (is : IsBestPair rows from to a) → cost_of rows a.primary ≡ is.cost
    primary-cost a is = walk-cost to a.primary from is.cost is.pair.first

    pub backup-cost : (a : Weighed) (is : IsBestPair rows from to a) → cost_of rows a.backup ≡ is.more
    backup-cost a is = walk-cost to a.backup from is.more is.pair.second.walk

    -- of two best pairs each is as good as the other
    as-good : (a b : Weighed) → IsBestPair rows from to a → (other : IsBestPair rows from to b) →
        IsAsGood a (record { primary = b.primary; backup = b.backup; total = other.cost + other.more })
    as-good a b is other = is.good b.primary b.backup other.cost other.more other.pair

    one-pair : (a b : Weighed) (x : IsBestPair rows from to a) (y : IsBestPair rows from to b) →
        pair_lines a x.cost x.more ≡ pair_lines b y.cost y.more
    one-pair a b x y = λ i. pair_lines
        (record { primary = primary i; backup = backup i; total = total i }) (cost i) (more i)
      where
        first : IsAsGood a (record { primary = b.primary; backup = b.backup; total = y.cost + y.more })
        first = as-good a b x y

        second : IsAsGood b (record { primary = a.primary; backup = a.backup; total = x.cost + x.more })
        second = as-good b a y x

        total : a.total ≡ b.total
        total =
            let p = first.total in let q = second.total in let r = x.sum in let s = y.sum in
            omega (arith, p, q, r, s)

        primary : a.primary ≡ b.primary
        primary = one_walk rows distinct to a.primary b.primary from x.cost y.cost x.pair.first y.pair.first
            (most-once (links_of a.primary) (links_of b.primary) (first.primary (total ∙ y.sum))
            (second.primary (sym total ∙ x.sum)))

        backup : a.backup ≡ b.backup
        backup = one_walk rows distinct to a.backup b.backup from x.more y.more x.pair.second.walk y.pair.second.walk
            (most-once (links_of a.backup) (links_of b.backup)
            (first.backup (total ∙ y.sum) (ap links_of primary))
            (second.backup (sym total ∙ x.sum) (ap links_of (sym primary))))

        cost : x.cost ≡ y.cost
        cost = sym (primary-cost a x) ∙ (ap (cost_of rows) primary ∙ primary-cost b y)

        more : x.more ≡ y.more
        more = sym (backup-cost a x) ∙ (ap (cost_of rows) backup ∙ backup-cost b y)

    -- the costs of a best pair that was found add up to its total
    pub found-costs : (found : Best) → IsBest rows from to found →
        cost_of rows found.primary + cost_of rows found.backup ≡ found.total
    found-costs found best =
        let is = best.pair in
        (λ i. primary-cost _ is i + backup-cost _ is i) ∙ sym is.sum

    -- what is told of the best pair and the certificate with which it came
    pub tells-best : ChecksAreExact → IsSmall rows → (found : Best) → IsBest rows from to found → (text : List ℕ) →
        text ≡ judged_pair rows from to found → TellsBest rows from to text
    tells-best exact small found best text told =
        record {
          small = small;
          best = pair;
          pair = best.pair;
          cert = found.cert;
          certified = best.cert;
          accepted = (exact rows from to (Some found.total) found.cert distinct).1 best.cert;
          told = told ∙ (λ i. pair_lines pair (primary-cost pair best.pair i) (backup-cost pair best.pair i)
              ++ checker_line rows from to (Some found.total) found.cert);
        }
      where
        pair : Weighed
        pair = record { primary = found.primary; backup = found.backup; total = found.total }

    -- what is told of a certificate that there is no pair
    pub tells-none : ChecksAreExact → IsSmall rows → HasNoPair rows from to → (cert : Cert) →
        Certifies rows from to None cert → (text : List ℕ) →
        text ≡ codes "no pair\n" ++ checker_line rows from to None cert → TellsNoPair rows from to text
    tells-none exact small none cert certified text told =
        record {
          small = small;
          none = none;
          cert = cert;
          certified = certified;
          accepted = (exact rows from to None cert distinct).1 certified;
          told = told;
        }

    one-between : (a b : List ℕ) → IsBestBetween rows from to a → IsBestBetween rows from to b → a ≡ b
    one-between a b (inl x) (inl y) =
        x.told
        ∙ ((λ i. one-pair x.best y.best x.pair y.pair i ++ certificate_line ((x.accepted ∙ sym y.accepted) i))
        ∙ sym y.told)
    one-between a b (inl x) (inr (inl y)) =
        absurd (y.none x.best.primary x.best.backup x.pair.cost x.pair.more x.pair.pair)
    one-between a b (inl x) (inr (inr y)) = absurd (y.large x.small)
    one-between a b (inr (inl x)) (inl y) =
        absurd (x.none y.best.primary y.best.backup y.pair.cost y.pair.more y.pair.pair)
    one-between a b (inr (inl x)) (inr (inl y)) =
        x.told ∙ ((λ i. codes "no pair\n" ++ certificate_line ((x.accepted ∙ sym y.accepted) i)) ∙ sym y.told)
    one-between a b (inr (inl x)) (inr (inr y)) = absurd (y.large x.small)
    one-between a b (inr (inr x)) (inl y) = absurd (x.large y.small)
    one-between a b (inr (inr x)) (inr (inl y)) = absurd (x.large y.small)
    one-between a b (inr (inr x)) (inr (inr y)) = x.told ∙ sym y.told

-- a plan and two names have one text
pub one_text : (p : Plan) → IsTopology p.topology → (from to a b : List ℕ) → IsBestText p from to a →
    IsBestText p from to b → a ≡ b
one_text p valid from to a b = go (ends_of p from to)
  where
    distinct : HaveDistinctLinks (plan_rows p)
    distinct = (rows-searchable p.topology valid).links

    go : (ends : Result (NodeId × NodeId) EndsFault) → IsBestOf p from to ends a → IsBestOf p from to ends b → a ≡ b
    go (Err fault) x y = x ∙ sym y
    go (Ok ends) x y = one-between (plan_rows p) distinct ends.0 ends.1 a b x y
