-- Setups without fault can be posted.
use Rattle.std.proofs.{Common.{◌≡◌, ℕ, Bool, true, false, ◌&&◌, ◌==◌, not, nat_le, length, List, Ok, refl, ap, ◌∙◌, subst}, lemmas.Bool.not-false}
use Rattle.std.specs.Prelude.{Option, Some, None}
use Rattle.ason_base.specs.{Network.{Network, is_node_id}, declared.commands.Command.Command, declared.ids.CallNo.CallNo, declared.ids.NodeId.NodeId, declared.limits.TheConstants.MOST_CALLS}
use Rattle.mesh_rules.specs.Commands.{has_backup_way, has_way, is_searchable}
use Rattle.plan_reader.specs.{Names.{has_name, is_name, place_of}, declared.forms.SetupForm.SetupForm, declared.setups.RouteIds.RouteIds, declared.setups.Routes.Routes, PlanCalls.CallList, PlanSetups.{new_routes, next_setup, node_at, route_ids, setup_between, setup_of, setup_over, steps_given}, PlanTexts.word_at}
use Rattle.plan_reader.proofs.{Entries.{both_read, passed}, KnownNodes.place_is_known, SetupRoutes.{BacksProtected, backup_way, good_are, steps_back_protected, way}, FittingCalls.{AreFitting, CanPost, call_fits, fresh}}

all_pass :
    (from to same route backup : Bool) → from ≡ true → to ≡ true → same ≡ false → route ≡ true → backup ≡ true
    → (from && to && not same && route && backup) ≡ true
all_pass from to same route backup a b c d e = rw (a, b, c, d, e) refl

over_posts :
    (t : Network) (calls : CallList) (before : List CallNo) (ws : List (List ℕ)) (f : SetupForm) (ids : RouteIds)
    (from to : NodeId) (c : Command) → is_searchable t ≡ true → AreFitting t calls before
    → is_node_id t.nodes from ≡ true → is_node_id t.nodes to ≡ true
    → BacksProtected f.protected (steps_given t from ids.backup) → is_name (word_at ws 1) ≡ true
    → setup_over t calls ws f ids from to ≡ Ok c → CanPost t calls before ws c
over_posts t calls before ws f ids from to c searchable fit from_known to_known backs named h =
    let via = steps_given t from ids.via in
    let backup = steps_given t from ids.backup in
    let routes = both_read (new_routes t calls (word_at ws 1) ids from to) _ c h in
    let other = passed (from.0 == to.0) _ _ _ routes.1 in
    let new = passed (has_name calls.names (word_at ws 1)) _ _ _ other.1 in
    let few = passed (nat_le MOST_CALLS (length calls.names)) _ _ _ new.1 in
    let good = good_are t from to via backup routes.0 few.1 in
    let same : next_setup calls from to f routes.0 ≡ c = cc (routes.2) in
    subst (CanPost t calls before ws) (ap (λ (r : Routes). next_setup calls from to f r) good.same ∙ same) (
      all_pass (is_node_id t.nodes from) (is_node_id t.nodes to) (from.0 == to.0) (has_way t from to via)
          (has_backup_way t from to f.protected via backup) from_known to_known other.0
          (way t from to via searchable good.led)
          (backup_way t from to f.protected via backup searchable backs good.backed),
      fresh (length calls.names) before fit.below,
      call_fits t calls before (word_at ws 1) from from_known named new.0 fit,
    )

-- a setup without fault can be posted
pub setup_posts :
    (t : Network) (names : List (List ℕ)) (calls : CallList) (before : List CallNo) (ws : List (List ℕ))
    (f : SetupForm) (c : Command) → is_searchable t ≡ true → AreFitting t calls before
    → BacksProtected f.protected f.backup → setup_of t names calls ws f ≡ Ok c → CanPost t calls before ws c
setup_posts t names calls before ws f c searchable fit backs h =
    let read = both_read (route_ids ws f) _ c h in
    let ids = read.0 in
    let named = passed (not (is_name (word_at ws 1))) _ _ _ read.2 in
    between ids read.1 (not-false _ named.0) (node_at t names ws 2) (node_at t names ws 3) refl refl named.1
  where
    between :
        (ids : RouteIds) → route_ids ws f ≡ Ok ids → is_name (word_at ws 1) ≡ true → (from to : Option NodeId) →
        node_at t names ws 2 ≡ from
        → node_at t names ws 3 ≡ to → setup_between t calls ws f ids from to ≡ Ok c
        → CanPost t calls before ws c
    between ids i is None to e g k = absurd (cc (k))
    between ids i is (Some from) None e g k = absurd (cc (k))
    between ids i is (Some from) (Some to) e g k =
        over_posts t calls before ws f ids from to c searchable fit
        (place_is_known t.nodes (place_of names (word_at ws 2)) from e)
        (place_is_known t.nodes (place_of names (word_at ws 3)) to g)
        (steps_back_protected t from ws f ids backs i) is k
