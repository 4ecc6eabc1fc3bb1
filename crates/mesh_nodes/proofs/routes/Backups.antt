-- The least backup as a function is the least of all backups.
use Rattle.std.proofs.{Common.{◌≡◌, ◌≢◌, ◌≤◌, ℕ, true, false, not, nat_eq, List, filter, length, refl, sym, ◌∙◌, arith, Contains}, lemmas.Bool.{and_from, not-true}}
use Rattle.std.specs.List.{list_any}
use Rattle.ason_base.specs.{Risks.{AreRiskDisjoint, have_common, route_risks}, Walks.{IsBackup, IsInner, IsWalk, NoLink, NoNode}, declared.ids.NodeId.NodeId, declared.network.TeRow.TeRow, declared.steps.Step.Step}
use Rattle.ason_base.proofs.{Bridges.same_node, Ordered.{any-there, there-any}, RiskOrder.{common-there, there-common}, RiskUnion.route_risks-are, Bools.{not-from, and-left, and-right}, Members.{there-kept, kept-there}}
use Rattle.mesh_rules.specs.{declared.limits.TheConstants.MOST_LINKS_OF_ROUTE, LeastRoutes.{Trip, is_backup_route, shares_inner, trips}}
use Rattle.mesh_nodes.specs.Routes.{AreSearchable, LeastBackupIsLeast, LeastBackupVisitsOnce, NoBackupIsNone}
use Rattle.mesh_nodes.proofs.{routes.Found.first-once, routes.Least.{Represents, chosen-is, least-iff, none-iff}, routes.Shorter.{few_links, shorten}, routes.Walked.{each-leads, each-there, node_test, one_walk}}

-- The test

module _ (rows : List TeRow) (primary : List Step) (from to : NodeId) where
  apart : (route : List Step) → have_common (route_risks rows route) (route_risks rows primary) ≡ false →
      AreRiskDisjoint rows route primary
  apart route none r there here =
      let common = there-common (route_risks rows route) (route_risks rows primary) r
      ((route_risks-are rows route r).1 there) ((route_risks-are rows primary r).1 here) in
      cc (none, common)

  common-not : (route : List Step) → AreRiskDisjoint rows route primary →
      have_common (route_risks rows route) (route_risks rows primary) ≡ true → ⊥
  common-not route disjoint e =
      let c = common-there (route_risks rows route) (route_risks rows primary) e in
      disjoint c.0 ((route_risks-are rows route c.0).0 c.1) ((route_risks-are rows primary c.0).0 c.2)

  -- a node is told by its number
  differs : (a b : NodeId) → a ≢ b → not (nat_eq a.0 b.0) ≡ true
  differs a b apart = not-from (nat_eq a.0 b.0) (λ e. apart (same_node a b e))

  differ : (a b : NodeId) → not (nat_eq a.0 b.0) ≡ true → a ≢ b
  differ a b e same = let t : nat_eq a.0 b.0 ≡ true = node_test a b same in let f =
      not-true (nat_eq a.0 b.0) e in cc (t, f)

  shares : (route : List Step) (n : NodeId) → IsInner from to route n → IsInner from to primary n →
      list_any (shares_inner from to primary) route ≡ true
  shares route n mine theirs =
      let s = mine.0 in
      let q = theirs.0 in
      let is : q.node ≡ s.node = theirs.2 ∙ sym mine.2 in
      let there : list_any (λ x. nat_eq x.node.0 s.node.0) primary ≡ true =
      there-any (λ x. nat_eq x.node.0 s.node.0) primary q theirs.1 (node_test q.node s.node is)
      in
      let test : shares_inner from to primary s ≡ true =
      and_from (not (nat_eq s.node.0 from.0)) _ (differs s.node from (λ e. mine.3 (sym mine.2 ∙ e)))
      (and_from (not (nat_eq s.node.0 to.0)) _ (differs s.node to (λ e. mine.4 (sym mine.2 ∙ e))) there)
      in
      there-any (shares_inner from to primary) route s mine.1 test

  shared : (route : List Step) → list_any (shares_inner from to primary) route ≡ true →
      (n : NodeId) × IsInner from to route n × IsInner from to primary n
  shared route e =
      let s = any-there (shares_inner from to primary) route e in
      let first = and-left (not (nat_eq s.0.node.0 from.0)) _ s.2 in
      let rest = and-right (not (nat_eq s.0.node.0 from.0)) _ s.2 in
      let second = and-left (not (nat_eq s.0.node.0 to.0)) _ rest in
      let third = and-right (not (nat_eq s.0.node.0 to.0)) _ rest in
      let q = any-there (λ x. nat_eq x.node.0 s.0.node.0) primary third in
      let away = differ s.0.node from first in
      let short = differ s.0.node to second in
      (s.0.node, (s.0, s.1, refl, away, short), (q.0, q.1, same_node q.0.node s.0.node q.2, away, short))

  passes-is : (route : List Step) (cost : ℕ) → IsWalk rows NoLink NoNode from to route cost →
      is_backup_route rows primary from to route ≡ true →
      IsBackup rows primary from to route cost
  passes-is route cost walk e =
      let risks = not-true (have_common (route_risks rows route) (route_risks rows primary)) (and-left _ _ e) in
      let inner = not-true (list_any (shares_inner from to primary) route)
      (and-right (not (have_common (route_risks rows route) (route_risks rows primary))) _ e) in
      record {
        walk = walk;
        risks = apart route risks;
        nodes = λ n mine theirs. (let there = shares route n mine theirs in cc (there, inner));
      }

  is-passes : (route : List Step) (cost : ℕ) → IsBackup rows primary from to route cost →
      is_backup_route rows primary from to route ≡ true
  is-passes route cost is =
      and_from (not (have_common (route_risks rows route) (route_risks rows primary))) _
      (not-from (have_common (route_risks rows route) (route_risks rows primary)) (common-not route is.risks))
      (not-from (list_any (shares_inner from to primary) route) (λ e. let s = shared route e in is.nodes s.0 s.1 s.2))

  -- a walk without other steps is a backup too
  part-is : (route part : List Step) (cost less : ℕ) → IsBackup rows primary from to route cost →
      ((s : Step) → Contains part s → Contains route s) → IsWalk rows NoLink NoNode from to part less →
      IsBackup rows primary from to part less
  part-is route part cost less is among walk = record {
    walk = walk;
    risks = λ r mine theirs. is.risks r (mine.0, mine.1, mine.2, among mine.1 mine.3, mine.4, mine.5) theirs;
    nodes = λ n mine theirs. is.nodes n (mine.0, among mine.0 mine.1, mine.2, mine.3, mine.4) theirs;
  }

  -- The list

  abbrev backups : List Trip
  backups = filter (λ r. is_backup_route rows primary from to r.steps) (trips rows MOST_LINKS_OF_ROUTE from to)

  pub backup-is : (r : Trip) → Contains backups r → IsBackup rows primary from to r.steps r.cost
  backup-is r there =
      let kept = kept-there (λ x. is_backup_route rows primary from to x.steps)
      (trips rows MOST_LINKS_OF_ROUTE from to) r there in
      passes-is r.steps r.cost (each-leads rows MOST_LINKS_OF_ROUTE from to r kept.0).0 kept.1

  is-there : (steps : List Step) (cost : ℕ) → IsBackup rows primary from to steps cost →
      length steps ≤ MOST_LINKS_OF_ROUTE →
      Contains backups (record { steps = steps; cost = cost })
  is-there steps cost is few =
      there-kept (λ x. is_backup_route rows primary from to x.steps) (trips rows MOST_LINKS_OF_ROUTE from to)
      (record { steps = steps; cost = cost })
      (each-there rows MOST_LINKS_OF_ROUTE from to steps cost is.walk few) (is-passes steps cost is)

  backups-represent : AreSearchable rows → Represents (IsBackup rows primary from to) backups
  backups-represent searchable = record {
    sound = backup-is;
    good = λ steps cost is.
        (let q = shorten rows searchable.metrics to steps from cost is.walk in
        record {
          trip = record { steps = q.is.part; cost = q.is.less };
          there = is-there q.is.part q.is.less (part-is steps q.is.part cost q.is.less is q.is.among q.is.walk)
              (few_links rows searchable.ends from to q.is.part q.is.less q.is.walk q.is.once);
          most = q.is.most;
          same = q.same;
        });
    one = λ x y c d v w same. one_walk rows searchable.links to x y from c d v.walk w.walk same;
  }

pub least_backup-least : LeastBackupIsLeast
least_backup-least rows primary a b r searchable =
    least-iff (IsBackup rows primary a b) (backups rows primary a b) (backups-represent rows primary a b searchable) r

pub no_backup-none : NoBackupIsNone
no_backup-none rows primary a b searchable =
    none-iff (IsBackup rows primary a b) (backups rows primary a b) (backups-represent rows primary a b searchable)

pub least_backup-once : LeastBackupVisitsOnce
least_backup-once rows primary a b r metrics e =
    let is = chosen-is (backups rows primary a b) r e in
    let kept = kept-there (λ x. is_backup_route rows primary a b x.steps)
    (trips rows MOST_LINKS_OF_ROUTE a b) r is.there in
    let leads = each-leads rows MOST_LINKS_OF_ROUTE a b r kept.0 in
    let short : length r.steps ≤ MOST_LINKS_OF_ROUTE = leads.1 in
    let mine = backup-is rows primary a b r is.there in
    first-once rows metrics a b (backups rows primary a b) r is leads.0
    (λ part less walk shorter among.
    is-there rows primary a b part less (part-is rows primary a b r.steps part r.cost less mine among walk)
    (omega arith))
