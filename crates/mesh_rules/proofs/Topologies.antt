-- The links of a topology: each has a number above those of all earlier ones, and a metric of 1 to 65,535.
use Rattle.std.proofs.{Common.{◌≡◌, ◌<◌, ◌≤◌, ◌-◌, ℕ, true, false, nat_eq, List, [], ◌∷◌, get_or, map, refl, arith}, lemmas.List.Elements.recursion_from_All, lemmas.Option.slice_get-get_or}
use Rattle.std.specs.{Prelude.{slice_get, All, Some}, List.{AllByRecursion, list_all, list_any}}
use Rattle.ason_base.specs.{declared.network.LinkSpec.LinkSpec, declared.network.NodeSpec.NodeSpec, Network.{IsTopology, Network, is_after, is_distinct, is_link, is_link_here}}
use Rattle.ason_base.proofs.{LinkOrder.{LinksRiseAbove, links-rise}, Bools.{and-left, and-right}}
use Rattle.mesh_rules.specs.Commands.{has_metric, is_searchable}

-- Numbers

none_equal : (n m : ℕ) (links : List LinkSpec) → n ≤ m → LinksRiseAbove m links →
    list_any (λ y. nat_eq y n) (map (λ l. l.id.0) links) ≡ false
none_equal n m [] most rise = refl
none_equal n m (l ∷ links) most rise =
    let apart : nat_eq l.id.0 n ≡ false = (let above : m < l.id.0 = rise.0 in grind arith) in
    let later : n ≤ l.id.0 = (let above : m < l.id.0 = rise.0 in omega arith) in
    rw (apart, none_equal n l.id.0 links later rise.1) refl

distinct : (n : ℕ) (links : List LinkSpec) → LinksRiseAbove n links → is_distinct (map (λ l. l.id.0) links) ≡ true
distinct n [] rise = refl
distinct n (l ∷ links) rise = rw (
  none_equal l.id.0 l.id.0 links (omega arith) rise.1,
  distinct l.id.0 links rise.1,
) refl

-- Metrics

pub at-each-place : (t : Network) → IsTopology t → All (λ l. is_link t.nodes l ≡ true) t.links
at-each-place t valid k d below =
    let here : is_link_here t.nodes (slice_get t.links k) ≡ true =
    and-right (is_after t.links k) _ (valid.links k below) in
    let found : slice_get t.links k ≡ Some (get_or t.links k d) = slice_get-get_or t.links k d below in
    rw found at here

pub each-link : (t : Network) → IsTopology t → AllByRecursion (λ l. is_link t.nodes l ≡ true) t.links
each-link t valid = recursion_from_All (λ l. is_link t.nodes l ≡ true) t.links (at-each-place t valid)

pub link-metric : (nodes : List NodeSpec) (l : LinkSpec) → is_link nodes l ≡ true → has_metric l ≡ true
link-metric nodes l link = and-right _ (has_metric l) (and-left _ _ link)

metrics : (nodes : List NodeSpec) (links : List LinkSpec) → AllByRecursion (λ l. is_link nodes l ≡ true) links →
    list_all has_metric links ≡ true
metrics nodes [] all = refl
metrics nodes (l ∷ links) all = rw (link-metric nodes l all.0, metrics nodes links all.1) refl

-- routes can be searched for in every topology
pub topology_searchable : (t : Network) → IsTopology t → is_searchable t ≡ true
topology_searchable t valid = rw (
  distinct 0 t.links (links-rise t valid),
  metrics t.nodes t.links (each-link t valid),
) refl
