-- What becomes of a setup over the route that is found.
use Rattle.std.proofs.Common.{◌≡◌, List, ap, refl, subst}
use Rattle.std.specs.Prelude.{None, Option, Some}
use Rattle.ason_base.specs.{declared.calls.Cause.TheVariants.NoRoute, declared.network.TeRow.TeRow, declared.steps.Step.Step}
use Rattle.mesh_rules.specs.{KnownRows.known_rows, LeastRoutes.{Trip, least_trip}, Setups.{SetupRequest, over_found, refused_setup}}
use Rattle.leg_table.specs.{States.{legs_state, local_of, state_of}, Tables.{CallTable, LegTable}}
use Rattle.call_control.specs.{Rules.{over_here, searched_here}, Searches.{RowsAreKnown, found_route, steps_of}}

module _ (t : LegTable) (c : CallTable) (w : SetupRequest) (known : RowsAreKnown t) where
  abbrev rows : List TeRow
  rows = known_rows (local_of t) (legs_state t)

  found-here : (route : Option (List Step)) → route ≡ found_route t w.egress →
      route ≡ steps_of (least_trip rows (local_of t).id w.egress)
  found-here route e = subst (λ xs. route ≡ steps_of (least_trip xs (local_of t).id w.egress)) known e

  over-found : (o : Option Trip) (route : List Step) → Some route ≡ steps_of o →
      over_here t c w route ≡ over_found (local_of t) (state_of t c) w o
  over-found None route e = absurd (cc e)
  over-found (Some r) route e = let is : route ≡ r.steps = cc e in ap (over_here t c w) is

  pub found_over : (route : List Step) → Some route ≡ found_route t w.egress →
      over_here t c w route ≡ searched_here t c w
  found_over route e = over-found (least_trip rows (local_of t).id w.egress) route (found-here (Some route) e)

  refused-found : (o : Option Trip) → None ≡ steps_of o →
      refused_setup w NoRoute ≡ over_found (local_of t) (state_of t c) w o
  refused-found None e = refl
  refused-found (Some r) e = absurd (cc e)

  pub none_found : None ≡ found_route t w.egress → refused_setup w NoRoute ≡ searched_here t c w
  none_found e = refused-found (least_trip rows (local_of t).id w.egress) (found-here None e)
