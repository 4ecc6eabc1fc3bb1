-- What a search in a prepared network says of the walks over its rows.
use Rattle.std.proofs.{Common.{◌≡◌, ◌↔◌, inl, inr, ℕ, ◌+◌, ◌≤◌, List, [], ◌∷◌, Bool, Option, Some, length, get_or, slice_get, refl, sym, ◌∙◌, ap, subst, arith}, lemmas.List.Elements.{All-contains, Contains-get_or, Contains-push, Contains-push_cases}, lemmas.Option.slice_get-get_or}
use Rattle.std.specs.List.{Contains}
use Rattle.ason_base.specs.{declared.limits.TheConstants.MOST_NODES, Walks.{ArePotentials, Certify, HaveFewEnds, WalkStep, IsLeast, IsWalk}, declared.ids.LinkId.LinkId, declared.ids.NodeId.NodeId, declared.network.TeRow.TeRow, declared.steps.Step.Step}
use Rattle.route_least.specs.{declared.answers.Found.Found, declared.answers.RouteFault.RouteFault, declared.answers.RouteFault.TheVariants.{NoRoute, OutOfMemory}, declared.network.RouteNetwork.RouteNetwork, declared.order.NodePlace.NodePlace, declared.places.Arc.Arc, declared.places.Place.Place, Answers.{IsLeastFound, IsRefusal}, Bans.AreLinksMarked, Costs.{cost_at, AreLeast, Reach}, Costs.Reach.{Start, Onward}, Marking.Crosses, Network.{AreNodesInOrder, ArePlaces, AreSound, Goes, HasNode, IsClosed, IsNetworkOf}, Potentials.AreListed, Searches.{IsFoundAlone, IsFoundFrom, IsMissedAlone, IsMissedFrom, IsReached, IsSearchable}, Trace.{AreEntries, IsTight}}
use Rattle.route_least.proofs.{Bans.{closed_iff, same_certify, same_none, same_potentials, same_walks}, LeastLaws.{entries_certify, entries_potentials, marked_back, trace_least, walk_least}, Ordered.few_places, PlaceLists.{node_within, nothing}, WalkLaws.{sound_network, ways}}

-- What was read of a network

pub least_read : (closed : List Bool) (banned : List NodeId) (start : ℕ) (costs : List (Option ℕ))
    (read places : List Place) → read ≡ places → AreLeast (Goes read closed banned) start costs →
    AreLeast (Goes places closed banned) start costs
least_read closed banned start costs read places same = subst (λ ps. AreLeast (Goes ps closed banned) start costs) same

pub listed_read : (potential : List (NodeId × ℕ)) (read order : List NodePlace) (seen costs : List (Option ℕ)) →
    read ≡ order → seen ≡ costs → AreListed read seen potential → AreListed order costs potential
listed_read potential read order seen costs same known listed =
    subst (λ o. AreListed o costs potential) same (subst (λ t. AreListed read t potential) known listed)

-- Prepared networks

-- at most 64 places
pub few : (rows : List TeRow) (places : List Place) → HaveFewEnds rows → ArePlaces rows (length rows) places →
    length places ≤ MOST_NODES
few rows places ends are =
    let le : length places ≤ length ends.0 = few_places places ends.0 are.once
    (λ p n there.
    (let end = are.ends p n there in
    let both = All-contains (λ row. Contains ends.0 row.low × Contains ends.0 row.high) rows end.0 ends.2 end.1 in
    elim end.2 [ inl low ↦ subst (Contains ends.0) low both.0 | inr high ↦ subst (Contains ends.0) high both.1 ]))
    in
    let most : length ends.0 ≤ MOST_NODES = ends.1 in
    omega arith

pub searchable : (rows : List TeRow) (network : RouteNetwork) (closed : List Bool) → IsNetworkOf rows network →
    length closed ≡ length rows → IsSearchable (length closed) network
searchable rows network closed is len = record {
  sound = subst (λ n. AreSound n network.places.items) (sym len) (sound_network rows network is);
  once = is.places.once;
  rising = is.order.rising;
  within = λ k d h.
      (let e : NodePlace = get_or network.order.items k d in
      node_within network.places.items e.place e.node (is.order.sound e (Contains-get_or network.order.items k d h)));
}

pub entries : (places : List Place) (order : List NodePlace) (costs : List (Option ℕ)) (listed : List (NodeId × ℕ)) →
    AreNodesInOrder places order → AreListed order costs listed → AreEntries places costs listed
entries places order costs listed is are = record {
  rising = are.rising;
  sound = λ n cost known. (let has = are.sound n cost known in (
    has.0.place,
    subst (HasNode places has.0.place) has.2 (is.sound has.0 has.1),
    has.3,
  ));
  complete = λ place n cost there has. are.complete (record { node = n; place = place }) cost
      (is.complete place n there) has;
}

-- Searches

-- a place that costs something is entered along an arc, and so has no banned node
entered : (places : List Place) (closed : List Bool) (banned : List NodeId) (start p cost : ℕ) →
    Reach (Goes places closed banned) start p cost → 1 ≤ cost → (n : NodeId) → HasNode places p n → ¬ Contains banned n
entered places closed banned start _ _ Start positive = λ n there. absurd (omega arith)
entered places closed banned start _ _ (Onward place arc cost goes way) positive = goes.1.node

crosses : (places : List Place) (closed : List Bool) (banned : List NodeId) (p : ℕ) (arc : Arc) →
    Goes places closed banned p arc → Crosses places closed p arc
crosses places closed banned p arc goes = (goes.0, goes.1.row)

-- where the end has a cost, the start is marked
pub reached : (places : List Place) (closed : List Bool) (banned : List NodeId) (costs : List (Option ℕ))
    (start end cost : ℕ) → AreLeast (Goes places closed banned) start costs → cost_at costs end ≡ Some cost →
    IsReached places closed costs start end
reached places closed banned costs start end cost table has marks marked =
    marked_back (Goes places closed banned) (Crosses places closed)
    (crosses places closed banned) start end costs marks table marked end cost
    (table.attained end cost has) has marked.end

module _ (rows : List TeRow) (network : RouteNetwork) (closed : List Bool) (banned : List NodeId)
    (is : IsNetworkOf rows network) (from to : NodeId) where
  module _ (start : ℕ) (starts : HasNode network.places.items start from) where
    pub found_from : (found : Found) → IsFoundFrom network closed banned start to found →
        IsLeastFound rows closed banned from to found
    found_from found f =
        let goes = Goes network.places.items closed banned in
        let table = f.are.least in
        let are = ways rows network is closed banned in
        let listed = entries network.places.items network.order.items f.costs found.potential is.order f.are.listed in
        let metric : (p : ℕ) (arc : Arc) → Crosses network.places.items closed p arc → 1 ≤ arc.metric =
        λ p arc cross. ((sound_network rows network is).within p arc cross.0).positive in
        let back : (p : ℕ) (arc : Arc) → Crosses network.places.items closed p arc → IsTight f.costs p arc →
        goes p arc =
        λ p arc cross tight. (
          cross.0,
          record {
            row = cross.1;
            node = entered network.places.items closed banned start arc.head (tight.cost + arc.metric)
                (table.attained arc.head (tight.cost + arc.metric) tight.head)
                (let m = metric p arc cross in omega arith);
          },
        )
        in
        let least =
        trace_least rows (IsClosed rows closed) (Contains banned) network.places.items goes are from start starts
        f.costs table is.links is.metrics to f.end found.cost f.there f.has
        (Crosses network.places.items closed) (crosses network.places.items closed banned) back f.traced.marks
        f.traced.marked found.route from start 0 f.traced.trace starts table.zero
        in
        let same : least.0 ≡ found.cost = (let e : 0 + least.0 ≡ found.cost = least.1 in omega arith) in
        record {
          route = subst (λ c. IsLeast (IsWalk rows (IsClosed rows closed) (Contains banned) from to) found.route c)
              same least.2;
          potential = entries_potentials rows (IsClosed rows closed)
              (Contains banned) network.places.items goes are from start starts f.costs table found.potential listed;
          certificate = entries_certify rows (IsClosed rows closed)
              (Contains banned) network.places.items goes are from start starts f.costs table found.potential listed;
          end = listed.complete f.end to found.cost f.there f.has;
        }

    pub missed_from : (fault : RouteFault) → IsMissedFrom network closed banned start to fault →
        IsRefusal rows (IsClosed rows closed) (Contains banned) from to fault
    missed_from (NoRoute potential) m =
        let goes = Goes network.places.items closed banned in
        let table = m.are.least in
        let are = ways rows network is closed banned in
        let listed = entries network.places.items network.order.items m.costs potential is.order m.are.listed in
        record {
          none = λ route cost walk.
              (let has = walk_least rows (IsClosed rows closed)
              (Contains banned) network.places.items goes are from start starts m.costs table to route cost
              walk in
              m.none has.0 has.1 has.2 has.3);
          potential = entries_potentials rows (IsClosed rows closed)
              (Contains banned) network.places.items goes are from start starts m.costs table potential listed;
          certificate = entries_certify rows (IsClosed rows closed)
              (Contains banned) network.places.items goes are from start starts m.costs table potential listed;
        }
    missed_from OutOfMemory m = tt

  -- A node without a row

  module _ (absent : (p : ℕ) → ¬ HasNode network.places.items p from) where
    no_hop : (s : Step) (row : TeRow) (next : NodeId) →
        ¬ WalkStep rows (IsClosed rows closed) (Contains banned) from s row next
    no_hop s row next hop =
        let at : slice_get rows hop.known.0 ≡ Some row = slice_get-get_or rows hop.known.0 row hop.known.1 ∙
        ap Some hop.known.2 in
        let has = is.places.complete hop.known.0 row from next hop.known.1 at hop.joins in
        absent has.place has.is.tail

    only_stays : (n : NodeId) (steps : List Step) (cost : ℕ) →
        IsWalk rows (IsClosed rows closed) (Contains banned) from n steps cost → (from ≡ n) × (cost ≡ 0)
    only_stays n [] cost walk = walk
    only_stays n (s ∷ steps) cost walk = absurd (no_hop s walk.0 walk.1 walk.3)

    one_entry : (n : NodeId) (p : ℕ) → Contains {X = NodeId × ℕ} ((from, 0) ∷ []) (n, p) → (from ≡ n) × (0 ≡ p)
    one_entry n p known = elim (Contains-push_cases [] (from, 0) (n, p) known) [
      | inl none ↦ absurd (nothing [] (n, p) refl none)
      | inr same ↦ (ap (λ e. e.0) same, ap (λ e. e.1) same)
    ]

    here : Contains {X = NodeId × ℕ} ((from, 0) ∷ []) (from, 0)
    here = Contains-push [] (from, 0)

    alone_potentials : ArePotentials (IsWalk rows (IsClosed rows closed) (Contains banned) from) ((from, 0) ∷ [])
    alone_potentials = record {
      rising = λ i j d lt within. absurd (omega arith);
      attained = λ n p known. (let e = one_entry n p known in ([], (e.0, sym e.1)));
      least = λ n route cost walk. (let e = only_stays n route cost walk in (
        0,
        subst (λ m. Contains {X = NodeId × ℕ} ((from, 0) ∷ []) (m, 0)) e.0
            here,
        omega arith,
      ));
    }

    alone_certify : Certify rows (IsClosed rows closed) (Contains banned) from ((from, 0) ∷ [])
    alone_certify = record {
      start = here;
      rises = λ a b s row p hop known. absurd (no_hop s row b
          (subst (λ x. WalkStep rows (IsClosed rows closed) (Contains banned) x s row b) (sym (one_entry a p known).0)
          hop));
    }

    pub found_alone : (found : Found) → IsFoundAlone from to found → IsLeastFound rows closed banned from to found
    found_alone found f = record {
      route =
          subst (λ r. IsLeast (IsWalk rows (IsClosed rows closed) (Contains banned) from to) r found.cost) (sym f.route)
          (subst (λ c. IsLeast (IsWalk rows (IsClosed rows closed) (Contains banned) from to) [] c) (sym f.cost)
          (record { allowed = (f.same, refl); least = λ other c walk. omega arith; first = λ other walk. tt }));
      potential = subst (ArePotentials (IsWalk rows (IsClosed rows closed) (Contains banned) from))
          (sym f.potential) alone_potentials;
      certificate = subst (Certify rows (IsClosed rows closed) (Contains banned) from) (sym f.potential) alone_certify;
      end = subst (λ ps. Contains ps (to, found.cost)) (sym f.potential)
          (subst (λ c. Contains {X = NodeId × ℕ} ((from, 0) ∷ []) (to, c)) (sym f.cost)
          (subst (λ n. Contains {X = NodeId × ℕ} ((from, 0) ∷ []) (n, 0)) f.same here));
    }

    pub missed_alone : (fault : RouteFault) → IsMissedAlone from to fault →
        IsRefusal rows (IsClosed rows closed) (Contains banned) from to fault
    missed_alone (NoRoute potential) m = record {
      none = λ route cost walk. m.0 (only_stays to route cost walk).0;
      potential = subst (ArePotentials (IsWalk rows (IsClosed rows closed) (Contains banned) from))
          (sym m.1) alone_potentials;
      certificate = subst (Certify rows (IsClosed rows closed) (Contains banned) from) (sym m.1) alone_certify;
    }
    missed_alone OutOfMemory m = tt

-- Results

-- Bans that are told by lists

-- rows that are closed for some links are closed for the same links, read again
pub rows-are : {rows : List TeRow} {found links : List LinkId} {marks closed : List Bool} → closed ≡ marks →
    found ≡ links → AreLinksMarked rows found marks → AreLinksMarked rows links closed
rows-are {rows} {found} {links} {marks} kept same are =
    subst (AreLinksMarked rows links) (sym kept) (subst (λ ls. AreLinksMarked rows ls marks) same are)

module _ (rows : List TeRow) (links : List LinkId) (closed : List Bool) (banned nodes : List NodeId)
    (are : AreLinksMarked rows links closed) (same : banned ≡ nodes) (from to : NodeId) where
  node_iff : (n : NodeId) → Contains banned n ↔ Contains nodes n
  node_iff n = ((λ h. subst (λ ns. Contains ns n) same h), (λ h. subst (λ ns. Contains ns n) (sym same) h))

  pub least_route : (found : Found) → IsLeastFound rows closed banned from to found →
      IsLeast (IsWalk rows (Contains links) (Contains nodes) from to) found.route found.cost
  least_route found f = same_walks rows (IsClosed rows closed) (Contains links) (Contains banned) (Contains nodes)
      (closed_iff rows links closed are) node_iff from to found.route found.cost f.route

  pub least_potential : (found : Found) → IsLeastFound rows closed banned from to found →
      ArePotentials (IsWalk rows (Contains links) (Contains nodes) from) found.potential
  least_potential found f = same_potentials rows (IsClosed rows closed) (Contains links) (Contains banned)
      (Contains nodes) (closed_iff rows links closed are) node_iff from found.potential f.potential

  pub least_certificate : (found : Found) → IsLeastFound rows closed banned from to found →
      Certify rows (Contains links) (Contains nodes) from found.potential × Contains found.potential (to, found.cost)
  least_certificate found f = (
    same_certify rows (IsClosed rows closed) (Contains links) (Contains banned)
        (Contains nodes) (closed_iff rows links closed are) node_iff from found.potential f.certificate,
    f.end,
  )

  pub least_refusal : (fault : RouteFault) → IsRefusal rows (IsClosed rows closed) (Contains banned) from to fault →
      IsRefusal rows (Contains links) (Contains nodes) from to fault
  least_refusal (NoRoute potential) m = same_none rows (IsClosed rows closed) (Contains links) (Contains banned)
      (Contains nodes) (closed_iff rows links closed are) node_iff from to potential m
  least_refusal OutOfMemory m = tt
