-- What a least route in a network is where rows are closed and nodes banned: a primary route, or a backup.
use Rattle.std.proofs.Common.{◌≡◌, ◌↔◌, ℕ, Bool, true, false, List, [], length, replicate, sym, subst}
use Rattle.std.specs.List.{Contains}
use Rattle.ason_base.specs.{Walks.{IsBackup, IsInner, IsWalk, NoLink, NoNode, SharesRisk}, declared.ids.LinkId.LinkId, declared.ids.NodeId.NodeId, declared.network.TeRow.TeRow, declared.steps.Step.Step}
use Rattle.route_least.specs.{Answers.{IsLeastFound, IsRefusal}, Costs.is_place_marked, Network.IsClosed, declared.answers.Found.Found, declared.answers.RouteFault.RouteFault, declared.answers.RouteFault.TheVariants.{NoRoute, OutOfMemory}}
use Rattle.route_least.proofs.{Bans.{same_certify, same_least, same_none, same_potentials, same_walks}, AllMarked.unmarked_all}
use Rattle.route_pair.specs.{Pairs.{AreBans, IsBackupFound, IsFault, IsPrimary, IsUnsharedFault}, declared.bans.Bans.Bans}
use Rattle.route_pair.proofs.WalkBans.{backup_of, none_in, walk_of}

module _ (rows : List TeRow) (from to : NodeId) (closed : List Bool) (banned : List NodeId) (n : ℕ)
    (no_rows : closed ≡ replicate n false) (no_nodes : banned ≡ []) where
  none_closed : (row : TeRow) → Contains rows row → IsClosed rows closed row.link ↔ NoLink row.link
  none_closed row known = (
    (λ shut. (let off = unmarked_all n shut.0 in let on =
        subst (λ marks. is_place_marked marks shut.0 ≡ true) no_rows shut.4 in cc (on, off))),
    (λ h. absurd h),
  )

  pub primary_ok : (found : Found) → IsLeastFound rows closed banned from to found → IsPrimary rows from to found
  primary_ok found f = record {
    route = same_walks rows (IsClosed rows closed) NoLink (Contains banned) NoNode none_closed
        (none_in banned no_nodes) from to found.route found.cost f.route;
    potential = same_potentials rows (IsClosed rows closed) NoLink (Contains banned) NoNode none_closed
        (none_in banned no_nodes) from found.potential f.potential;
    certificate = same_certify rows (IsClosed rows closed) NoLink (Contains banned) NoNode none_closed
        (none_in banned no_nodes) from found.potential f.certificate;
    end = f.end;
  }

  pub primary_err : (fault : RouteFault) → IsRefusal rows (IsClosed rows closed) (Contains banned) from to fault →
      IsFault rows from to fault
  primary_err (NoRoute potential) refusal = same_none rows (IsClosed rows closed) NoLink
      (Contains banned) NoNode none_closed (none_in banned no_nodes) from to potential refusal
  primary_err OutOfMemory refusal = tt

-- the rows and the nodes that a backup is kept off, as the bans were read
pub kept_off : {rows : List TeRow} {primary : List Step} {from to : NodeId} {bans : Bans} {closed : List Bool}
    {nodes : List NodeId} → AreBans rows primary from to bans → closed ≡ bans.closed.items → nodes ≡ bans.nodes →
    ((l : LinkId) → IsClosed rows closed l ↔ SharesRisk rows primary l)
    × ((n : NodeId) → Contains nodes n ↔ IsInner from to primary n)
kept_off {rows} {primary} {from} {to} are marks banned = (
  subst (λ ms. (l : LinkId) → IsClosed rows ms l ↔ SharesRisk rows primary l) (sym marks) are.links,
  subst (λ ns. (n : NodeId) → Contains ns n ↔ IsInner from to primary n) (sym banned) are.nodes,
)

module _ (rows : List TeRow) (primary : List Step) (from to : NodeId) (closed : List Bool) (nodes : List NodeId)
    (links : (l : LinkId) → IsClosed rows closed l ↔ SharesRisk rows primary l)
    (inner : (n : NodeId) → Contains nodes n ↔ IsInner from to primary n) where
  pub backup_ok : (found : Found) → IsLeastFound rows closed nodes from to found →
      IsBackupFound rows primary from to found
  backup_ok found f = record {
    route =
        same_least (IsWalk rows (IsClosed rows closed) (Contains nodes) from to) (IsBackup rows primary from to)
        (backup_of rows primary from to (IsClosed rows closed) (Contains nodes) links inner)
        (walk_of rows primary from to (IsClosed rows closed) (Contains nodes) links inner) found.route found.cost
        f.route;
    potential = same_potentials rows (IsClosed rows closed) (SharesRisk rows primary) (Contains nodes)
        (IsInner from to primary) (λ row known. links row.link) inner from found.potential f.potential;
    certificate = same_certify rows (IsClosed rows closed) (SharesRisk rows primary) (Contains nodes)
        (IsInner from to primary) (λ row known. links row.link) inner from found.potential f.certificate;
    end = f.end;
  }

  pub backup_err : (fault : RouteFault) → IsRefusal rows (IsClosed rows closed) (Contains nodes) from to fault →
      IsUnsharedFault rows primary from to fault
  backup_err (NoRoute potential) none = λ route cost backup. none.none route cost
      (walk_of rows primary from to (IsClosed rows closed) (Contains nodes) links inner route cost backup)
  backup_err OutOfMemory none = tt

-- closed rows that were written back to their vector
pub bans_back : (rows : List TeRow) (primary : List Step) (from to : NodeId) (closed : List Bool) (bans : Bans) →
    bans.closed.items ≡ closed → length closed ≡ length rows →
    ((l : LinkId) → IsClosed rows closed l ↔ SharesRisk rows primary l) →
    ((n : NodeId) → Contains bans.nodes n ↔ IsInner from to primary n) → AreBans rows primary from to bans
bans_back rows primary from to closed bans same len links nodes = record {
  len = subst (λ marks. length marks ≡ length rows) (sym same) len;
  links = subst (λ marks. (l : LinkId) → IsClosed rows marks l ↔ SharesRisk rows primary l) (sym same) links;
  nodes = nodes;
}
