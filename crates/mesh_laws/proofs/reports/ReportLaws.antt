-- The law of reports, over every topology and every run.
use Rattle.std.proofs.{Common.{◌≡◌, ◌<◌, ℕ, zero, suc, Bool, true, false, cond, nat_eq, not, List, [], ◌∷◌, length, refl, sym, ap, ◌∙◌, subst, arith}, lemmas.Option.slice_get_within}
use Rattle.std.specs.{Prelude.{Option, Some, None, find, slice_get}, List.AllByRecursion}
use Rattle.ason_base.specs.{Lsps.has_fibre, Network.{IsTopology, Network, find_link, is_link}, declared.ids.Fibre.Fibre, declared.ids.LinkId.LinkId, declared.ids.Lsp.Lsp, declared.ids.NodeId.NodeId, declared.network.LinkSpec.LinkSpec, declared.network.NodeSpec.NodeSpec, declared.steps.Step.Step, declared.tables.CallRec.CallRec, declared.tables.Leg.Leg}
use Rattle.ason_base.proofs.JoinedEnds.{ends-in_order}
use Rattle.mesh_rules.proofs.Topologies.{each-link}
use Rattle.mesh_rules.specs.{Calls.call_with, Events.{after, route_of}, Legs.is_closing, LocalNodes.fibre_in, Machine.{Mesh, start}}
use Rattle.mesh_nodes.proofs.CallList.{called-found, called-names, not_called}
use Rattle.lsp_laws.specs.{HopLaw.{leg_at, notices_between}, ReportLaw.{EveryReportTellsFailures, PlaceTells, RouteTells, StandsTo, is_reported, is_standing, on_the_way, place_at, reports_of, told, told_over}}
use Rattle.lsp_laws.proofs.{nodes.Facts.MeshFacts, nodes.NodeRuns.{facts-hold, facts-start}, hops.Chain.LegFitsPlan, hops.HopLaws.follows, hops.Planned.{Follows, Planned, Routes}, hops.Plans.{fibre_at, fibre_in_is, found_id, hops, link_at, node_at, plan}, hops.Purposes.Purpose}
use Rattle.mesh_laws.proofs.{reports.GentleWords.{CallOf, RouteTold, StandsUpTo, line_at}, reports.OwnNotices.LowFirst, reports.ReportRuns.told-run}

-- Links

found-all : (nodes : List NodeSpec) (links : List LinkSpec) (k : LinkId) (l : LinkSpec) →
    AllByRecursion (λ x. is_link nodes x ≡ true) links → find (λ m. nat_eq m.id.0 k.0) links ≡ Some l →
    is_link nodes l ≡ true
found-all nodes [] k l all e = absurd (cc e)
found-all nodes (m ∷ links) k l all e = go (nat_eq m.id.0 k.0) e (found-all nodes links k l all.1)
  where
    go : (b : Bool) → cond b (Some m) (find (λ m. nat_eq m.id.0 k.0) links) ≡ Some l →
        (find (λ m. nat_eq m.id.0 k.0) links ≡ Some l → is_link nodes l ≡ true) → is_link nodes l ≡ true
    go true is more = let one : m ≡ l = cc is in subst (λ x. is_link nodes x ≡ true) one all.0
    go false is more = more is

-- in a topology each link's low end has the lesser number
pub low-first : (t : Network) → IsTopology t → LowFirst t
low-first t valid k l found = ends-in_order t.nodes l (found-all t.nodes t.links k l (each-link t valid) found)

-- Places

pub place-is : (route : List Step) (e : NodeId) (i : ℕ) → place_at route e i ≡ node_at (plan route e) i
place-is [] e zero = refl
place-is [] e (suc i) = refl
place-is (hop ∷ route) e zero = refl
place-is (hop ∷ route) e (suc i) = place-is route e i

-- One place

module _ (t : Network) (s : Mesh) (o : Routes) (facts : MeshFacts t s) (l : Lsp) (q : Purpose) (route : List Step)
    (e : NodeId) (pl : Planned t s o l q (plan route e)) (r : RouteTold t s l (plan route e)) where
  stands-to : (i : ℕ) → StandsTo s l route e i → StandsUpTo s l (plan route e) i
  stands-to i stands j most = subst (λ n. is_standing (leg_at s l n) ≡ true) (place-is route e j) (stands j most)

  -- the fibre of a step of the route
  fibre-is : (i : ℕ) (hop : Step) (link : LinkSpec) → slice_get route i ≡ Some hop → find_link t hop.link ≡ Some link →
      fibre_in link (node_at (plan route e) (suc i)) ≡ fibre_at t (plan route e) i
  fibre-is i hop link there found =
      let below : i < length route = slice_get_within route i hop there in
      let over = pl.route.links i below in
      let at : link_at (plan route e) i ≡ hop.link = rw there refl in
      let one : over.link ≡ link =
      (let x = over.found in let y = subst (λ k. find_link t k ≡ Some link) (sym at) found in cc (x, y)) in
      ap (λ x. fibre_in x (node_at (plan route e) (suc i))) (sym one) ∙ fibre_in_is t (plan route e) i over

  link-is : (i : ℕ) (hop : Step) (link : LinkSpec) → slice_get route i ≡ Some hop → find_link t hop.link ≡ Some link →
      link.id ≡ link_at (plan route e) i
  link-is i hop link there found =
      let at : link_at (plan route e) i ≡ hop.link = rw there refl in
      found_id hop.link t.links link found ∙ sym at

  -- the call of an LSP that stands at its ingress
  called : StandsUpTo s l (plan route e) 0 → (c : Option CallRec) → call_with l (s.nodes l.ingress.0).calls ≡ c →
      (d : CallRec) × (call_with l (s.nodes l.ingress.0).calls ≡ Some d)
  called stands (Some c) is = (c, is)
  called stands None is = go (leg_at s l l.ingress) refl
      (subst (λ n. is_standing (leg_at s l n) ≡ true) pl.route.first (stands 0 (omega arith)))
    where
      upright : (b : Bool) → not b ≡ true → b ≡ false
      upright true h = absurd (cc h)
      upright false h = refl

      go : (x : Option Leg) → leg_at s l l.ingress ≡ x → is_standing x ≡ true →
          (d : CallRec) × (call_with l (s.nodes l.ingress.0).calls ≡ Some d)
      go None found h = absurd (cc h)
      go (Some g) found h =
          let has = (facts.node l.ingress.0).has_call l g found refl (upright (is_closing g.phase) h) in
          absurd (not_called l (s.nodes l.ingress.0).calls has.call.call has.call is has.found has.named)

  call-of : (c : CallRec) → call_with l (s.nodes l.ingress.0).calls ≡ Some c → CallOf s l c
  call-of c is = record {
    found = called-found l (s.nodes l.ingress.0).calls c (facts.node l.ingress.0).calls_rise is;
    named = called-names l (s.nodes l.ingress.0).calls c is;
  }

  -- what is told to the ingress of this fibre over this link, and what is known of it
  abbrev Told : ℕ → LinkId → Fibre → Type 0
  Told i k f =
      told (is_reported l f (call_with l (s.nodes l.ingress.0).calls))
      (on_the_way (told_over s l route e (node_at (plan route e) (suc i)) k) (suc i))
      ≡ has_fibre (s.nodes (node_at (plan route e) (suc i)).0).down f

  line-is : (i j : ℕ) → told_over s l route e (node_at (plan route e) (suc i)) (link_at (plan route e) i) j
      ≡ line_at (notices_between s l) (plan route e) i j
  line-is i j = rw (place-is route e (suc j), place-is route e j) refl

  lines : (i : ℕ) → told_over s l route e (node_at (plan route e) (suc i)) (link_at (plan route e) i)
      ≡ line_at (notices_between s l) (plan route e) i
  lines i = λ x j. line-is i j x

  by-call : (i : ℕ) → i < hops (plan route e) → StandsUpTo s l (plan route e) (suc i) → (c : CallRec) →
      call_with l (s.nodes l.ingress.0).calls ≡ Some c → Told i (link_at (plan route e) i) (fibre_at t (plan route e) i)
  by-call i small stands c is =
      ap (λ x. told (is_reported l (fibre_at t (plan route e) i) x)
      (on_the_way (told_over s l route e (node_at (plan route e) (suc i)) (link_at (plan route e) i)) (suc i))) is
      ∙ ap (λ (line : ℕ → List Bool). told (has_fibre (reports_of l c) (fibre_at t (plan route e) i))
      (on_the_way line (suc i))) (lines i)
      ∙ r.tells i small stands c (call-of c is)

  place-told : (i : ℕ) → i < hops (plan route e) → StandsUpTo s l (plan route e) (suc i) → (k : LinkId) (f : Fibre) →
      k ≡ link_at (plan route e) i → f ≡ fibre_at t (plan route e) i → Told i k f
  place-told i small stands k f k-is f-is =
      let c = called (λ j most. stands j (omega arith)) (call_with l (s.nodes l.ingress.0).calls) refl in
      subst (λ x. Told i x f) (sym k-is)
      (subst (Told i (link_at (plan route e) i)) (sym f-is) (by-call i small stands c.0 c.1))

  pub route-tells : RouteTells t s l route e
  route-tells i hop link there found stands =
      subst (PlaceTells s l route e i link) (sym (place-is route e (suc i)))
      (place-told i (slice_get_within route i hop there) (stands-to (suc i) stands) link.id
      (fibre_in link (node_at (plan route e) (suc i))) (link-is i hop link there found)
      (fibre-is i hop link there found))

-- In every state of every run

pub every_report_tells : EveryReportTellsFailures
every_report_tells t events valid run l route g routed here =
    go (route_of t start events l) refl (follows t events run l)
  where
    s : Mesh
    s = after t start events

    go : (c : Option (List Step)) → route_of t start events l ≡ c →
        Follows t (after t start events) (route_of t start events) l c →
        RouteTells t (after t start events) l route g.egress
    go None is f = absurd (cc (is, routed))
    go (Some steps) is (e, q, pl) =
        let one : steps ≡ route = cc (is, routed) in
        let told = told-run t (low-first t valid) start events run (facts-start t) (λ k. None)
        (record {
          follows = λ k. record { legs = λ n. refl; mail = λ a b. refl; notices = λ a b. refl };
          given = λ n k c found. absurd (cc found);
        })
        (λ k r x y none planned. absurd (cc none)) l steps e q is pl in
        let first : leg_at (after t start events) l (node_at (plan steps e) 0) ≡ Some g =
        subst (λ n. leg_at (after t start events) l n ≡ Some g) (sym pl.route.first) here in
        let fits : LegFitsPlan t q l (plan steps e) 0 g = rw first at (pl.chain.fits 0 (omega arith)) in
        subst (λ r. RouteTells t (after t start events) l r g.egress) one
        (subst (λ x. RouteTells t (after t start events) l steps x) (sym fits.egress)
        (route-tells t (after t start events) (route_of t start events) (facts-hold t events run) l q steps e pl told))
