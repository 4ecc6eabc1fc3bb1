-- The route that a search in a prepared network gives is the least one as a function.
use Rattle.std.proofs.Common.{◌≡◌, ◌↔◌, ℕ, Bool, true, false, List, [], length, replicate, sym, ap, subst, Contains}
use Rattle.std.specs.Prelude.{Some, None}
use Rattle.ason_base.specs.{Walks.{NoLink, NoNode}, declared.ids.NodeId.NodeId, declared.network.TeRow.TeRow}
use Rattle.ason_base.proofs.Members.{contains-none}
use Rattle.route_least.specs.{Answers.{IsLeastFound, IsRefusal}, Costs.is_place_marked, Network.IsClosed, declared.answers.Found.Found, declared.answers.RouteFault.RouteFault, declared.answers.RouteFault.TheVariants.NoRoute}
use Rattle.route_least.proofs.{Bans.{same_none, same_walks}, AllMarked.unmarked_all}
use Rattle.mesh_rules.specs.LeastRoutes.{least_trip}
use Rattle.mesh_nodes.specs.Routes.{AreSearchable}
use Rattle.mesh_nodes.proofs.routes.Found.{least_trip-least, no_trip-none}
use Rattle.call_control.specs.Searches.{steps_of}

module _ (rows : List TeRow) (closed : List Bool) (no_rows : closed ≡ replicate (length rows) false) (from to : NodeId)
    (searchable : AreSearchable rows) where
  none_closed : (row : TeRow) → Contains rows row → IsClosed rows closed row.link ↔ NoLink row.link
  none_closed row known = (
    (λ shut.
        (let off = unmarked_all (length rows) shut.0 in
        let on = subst (λ marks. is_place_marked marks shut.0 ≡ true) no_rows shut.4 in
        cc (on, off))),
    (λ h. absurd h),
  )

  no_node : (n : NodeId) → Contains [] n ↔ NoNode n
  no_node n = ((λ there. contains-none n there), (λ h. absurd h))

  pub found-is : (found : Found) → IsLeastFound rows closed [] from to found →
      Some found.route ≡ steps_of (least_trip rows from to)
  found-is found f =
      let least = same_walks rows (IsClosed rows closed) NoLink
      (Contains []) NoNode none_closed no_node from to found.route found.cost f.route in
      sym (ap steps_of ((least_trip-least rows from to
      (record { steps = found.route; cost = found.cost }) searchable).1 least))

  pub missed-is : (fault : RouteFault) (potentials : List (NodeId × ℕ)) → fault ≡ NoRoute potentials →
      IsRefusal rows (IsClosed rows closed) (Contains []) from to fault → None ≡ steps_of (least_trip rows from to)
  missed-is fault potentials is missed =
      let joins = subst (IsRefusal rows (IsClosed rows closed) (Contains []) from to) is missed in
      let none = same_none rows (IsClosed rows closed) NoLink
      (Contains []) NoNode none_closed no_node from to potentials joins in
      sym (ap steps_of ((no_trip-none rows from to searchable).1 none.none))
