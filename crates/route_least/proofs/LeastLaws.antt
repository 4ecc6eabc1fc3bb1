-- A trace inside the marked places is the least route, and a table of costs is that of the potentials.
use Rattle.std.proofs.{Common.{◌≡◌, inl, inr, ℕ, ◌+◌, ◌<◌, ◌≤◌, List, [], ◌∷◌, Bool, true, Option, Some, refl, sym, ◌∙◌, ap, subst, arith}, lemmas.List.Elements.All-contains}
use Rattle.std.specs.List.{Contains}
use Rattle.ason_base.specs.{declared.limits.TheConstants.MOST_METRIC, Walks.{ArePotentials, Certify, HaveDistinctLinks, HaveMetrics, WalkStep, IsAtMost, IsLeast, IsWalk, Joins, links_of}, declared.ids.LinkId.LinkId, declared.ids.NodeId.NodeId, declared.network.TeRow.TeRow, declared.steps.Step.Step}
use Rattle.ason_base.proofs.{Numbers.less-or-same, JoinedEnds.{far_end, one_row}}
use Rattle.route_least.specs.{declared.places.Arc.Arc, declared.places.Place.Place, Costs.{cost_at, is_place_marked, AreLeast, Reach}, Costs.Reach.{Start, Onward}, Network.{HasNode, IsArc}, Trace.{AreEntries, AreMarked, IsLeastArc, IsTight, IsTrace, ArcLeadsOn}}
use Rattle.route_least.proofs.{PlaceLists.{one_node, some_same}, WalkLaws.{AreWays, IsOpen, hop_over, open_from, reach_on, walk_there}}

-- back along arcs on which the least costs were attained, from a marked place, each place is marked
pub marked_back : (MayGo Crosses : ℕ → Arc → Type 0) → ((p : ℕ) (arc : Arc) → MayGo p arc → Crosses p arc) →
    (start to : ℕ) (costs : List (Option ℕ)) (marks : List Bool) → AreLeast MayGo start costs →
    AreMarked Crosses costs to marks → (place cost : ℕ) → Reach MayGo start place cost →
    cost_at costs place ≡ Some cost → is_place_marked marks place ≡ true → is_place_marked marks start ≡ true
marked_back MayGo Crosses of start to costs marks table are _ _ Start has on = on
marked_back MayGo Crosses of start to costs marks table are _ _ (Onward place arc cost goes way) has on =
    let before = table.least place cost way in
    let over = table.settled place arc goes before.0 before.1 in
    let same : over.0 ≡ cost + arc.metric = some_same (sym over.1 ∙ has) in
    let exact : before.0 ≡ cost = (let a : over.0 ≤ before.0 + arc.metric = over.2 in let b : before.0 ≤ cost =
    before.2 in omega arith) in
    let here : cost_at costs place ≡ Some cost = before.1 ∙ ap Some exact in
    let leads : ArcLeadsOn Crosses costs marks place arc =
    record { goes = of place arc goes; tight = record { cost = cost; tail = here; head = has }; marked = on } in
    marked_back MayGo Crosses of start to costs marks table are place cost way here (are.closed place arc leads)

module _ (rows : List TeRow) (BannedLink : LinkId → Type 0) (BannedNode : NodeId → Type 0) (places : List Place)
    (MayGo : ℕ → Arc → Type 0) (are : AreWays rows BannedLink BannedNode places MayGo) (from : NodeId) (start : ℕ)
    (starts : HasNode places start from) (costs : List (Option ℕ)) (table : AreLeast MayGo start costs) where
  -- what leads to a node
  pub walk_least : (n : NodeId) (steps : List Step) (cost : ℕ) →
      IsWalk rows BannedLink BannedNode from n steps cost → (place : ℕ) × (least : ℕ) × HasNode places place n ×
      (cost_at costs place ≡ Some least) × (least ≤ cost)
  walk_least n steps cost walk =
      let way = reach_on rows BannedLink BannedNode places MayGo are start from n steps cost start 0 walk starts
      Start in
      let has = table.least way.0 (0 + cost) way.2 in
      (way.0, has.0, way.1, has.1, (let le : has.0 ≤ 0 + cost = has.2 in omega arith))

  pub entries_potentials : (entries : List (NodeId × ℕ)) → AreEntries places costs entries →
      ArePotentials (IsWalk rows BannedLink BannedNode from) entries
  entries_potentials entries listed = record {
    rising = listed.rising;
    attained = λ n p known. (let has = listed.sound n p known in walk_there rows BannedLink BannedNode places MayGo
        are start from starts has.0 p (table.attained has.0 p has.2) n has.1);
    least = λ n steps cost walk. (let has = walk_least n steps cost walk in
        (has.1, listed.complete has.0 n has.1 has.2 has.3, has.4));
  }

  pub entries_certify : (entries : List (NodeId × ℕ)) → AreEntries places costs entries →
      Certify rows BannedLink BannedNode from entries
  entries_certify entries listed = record {
    start = listed.complete start from 0 starts table.zero;
    rises = λ a b s row p hop known.
        (let has = listed.sound a p known in
        let arc = are.complete row a b (open_from rows BannedLink BannedNode a b s row hop) in
        let here : has.0 ≡ arc.place = are.once has.0 arc.place a has.1 arc.is.tail in
        let over = table.settled arc.place arc.arc arc.goes p (subst (λ q. cost_at costs q ≡ Some p) here has.2) in (
          over.0,
          listed.complete arc.arc.head b over.0 arc.is.head over.1,
          subst (λ m. over.0 ≤ p + m) arc.is.metric over.2,
        ));
  }

  module _ (distinct : HaveDistinctLinks rows) (metrics : HaveMetrics rows) (to : NodeId) (end total : ℕ)
      (ends : HasNode places end to) (last : cost_at costs end ≡ Some total) where
    -- from a place on no walk leads to the end at less than what is left
    pub at_least : (a : NodeId) (steps : List Step) (cost place before : ℕ) →
        IsWalk rows BannedLink BannedNode a to steps cost → HasNode places place a →
        cost_at costs place ≡ Some before → total ≤ before + cost
    at_least a steps cost place before walk stands has =
        let way = reach_on rows BannedLink BannedNode places MayGo are start a to steps cost place before walk stands
        (table.attained place before has) in
        let here : way.0 ≡ end = are.once way.0 end to way.1 ends in
        let low = table.least way.0 (before + cost) way.2 in
        let same : low.0 ≡ total = some_same (sym low.1 ∙ subst (λ p. cost_at costs p ≡ Some total) (sym here) last) in
        (let le : low.0 ≤ before + cost = low.2 in omega arith)

    one_metric : (row : TeRow) → Contains rows row → 1 ≤ row.metric
    one_metric row known = (All-contains (λ r. (1 ≤ r.metric) × (r.metric ≤ MOST_METRIC)) rows row metrics known).0

    -- the first hop of a walk that costs just what is left is over a tight arc
    record FirstHop (a : NodeId) (place before : ℕ) (row : TeRow) (next : NodeId) (left : ℕ) : Type 0 where
      arc : Arc
      goes : MayGo place arc
      is : IsArc places row arc.row place a next arc
      tight : IsTight costs place arc
      head : cost_at costs arc.head ≡ Some (before + row.metric)

    first_hop : (a : NodeId) (place before cost : ℕ) (s : Step) (row : TeRow) (next : NodeId) (steps : List Step)
        (left : ℕ) → HasNode places place a → cost_at costs place ≡ Some before → before + cost ≡ total →
        WalkStep rows BannedLink BannedNode a s row next → IsWalk rows BannedLink BannedNode next to steps left →
        cost ≡ row.metric + left → FirstHop a place before row next left
    first_hop a place before cost s row next steps left stands has whole hop walk sum =
        let way = are.complete row a next (open_from rows BannedLink BannedNode a next s row hop) in
        let arc = way.arc in
        let here : way.place ≡ place = are.once way.place place a way.is.tail stands in
        let over = table.settled way.place arc way.goes before
        (subst (λ p. cost_at costs p ≡ Some before) (sym here) has) in
        let low = at_least next steps left arc.head over.0 walk way.is.head over.1 in
        let exact : over.0 ≡ before + row.metric =
        (let m : arc.metric ≡ row.metric = way.is.metric in let x : over.0 ≤ before + arc.metric =
        over.2 in let y : total ≤ over.0 + left = low in omega arith)
        in
        let at_head : cost_at costs arc.head ≡ Some (before + row.metric) = over.1 ∙ ap Some exact in
        record {
          arc = arc;
          goes = subst (λ p. MayGo p arc) here way.goes;
          is = subst (λ p. IsArc places row arc.row p a next arc) here way.is;
          tight = record {
            cost = before;
            tail = has;
            head =
                subst (λ m. cost_at costs arc.head ≡ Some (before + m)) (sym way.is.metric) at_head;
          };
          head = at_head;
        }

    module _ (Crosses : ℕ → Arc → Type 0) (of : (p : ℕ) (arc : Arc) → MayGo p arc → Crosses p arc)
        (back : (p : ℕ) (arc : Arc) → Crosses p arc → IsTight costs p arc → MayGo p arc) (marks : List Bool)
        (marked : AreMarked Crosses costs end marks) where
      -- where a walk that costs just what is left begins, the place is marked
      begins : (a : NodeId) (steps : List Step) (cost place before : ℕ) →
          IsWalk rows BannedLink BannedNode a to steps cost → HasNode places place a →
          cost_at costs place ≡ Some before → before + cost ≡ total → is_place_marked marks place ≡ true
      begins a [] cost place before walk stands has whole =
          let here : place ≡ end = are.once place end to (subst (HasNode places place) walk.0 stands) ends in
          subst (λ p. is_place_marked marks p ≡ true) (sym here) marked.end
      begins a (s ∷ steps) cost place before walk stands has whole =
          let hop = first_hop a place before cost s walk.0 walk.1 steps walk.2 stands has whole walk.3 walk.4 walk.5 in
          let rest = begins walk.1 steps walk.2 hop.arc.head (before + walk.0.metric) walk.4 hop.is.head hop.head
          (let e : cost ≡ walk.0.metric + walk.2 = walk.5 in omega arith) in
          marked.closed place hop.arc (record { goes = of place hop.arc hop.goes; tight = hop.tight; marked = rest })

      at_most : (s : Step) (row : TeRow) (route : List Step) (next : NodeId) (left : ℕ) (a : NodeId)
          (place before cost : ℕ) (arc : Arc) → HasNode places place a → cost_at costs place ≡ Some before →
          before + cost ≡ total → IsOpen rows BannedLink BannedNode row a next → s.link ≡ row.link →
          IsArc places row arc.row place a next arc → IsLeastArc Crosses costs marks place arc →
          cost ≡ row.metric + left → IsLeast (IsWalk rows BannedLink BannedNode next to) route left →
          (other : List Step) → IsWalk rows BannedLink BannedNode a to other cost →
          IsAtMost (links_of (s ∷ route)) (links_of other)
      at_most s row route next left a place before cost arc stands has whole goes link is best sum rest [] walk =
          absurd (let m = one_metric row goes.known in let z : cost ≡ 0 = walk.1 in omega arith)
      at_most s row route next left a place before cost arc stands has whole goes link is best sum rest
          (t ∷ other) walk =
          let hop = first_hop a place before cost t walk.0 walk.1 other walk.2 stands has whole walk.3 walk.4 walk.5 in
          let on = begins walk.1 other walk.2 hop.arc.head (before + walk.0.metric) walk.4 hop.is.head hop.head
          (let e : cost ≡ walk.0.metric + walk.2 = walk.5 in omega arith) in
          let le : arc.link.0 ≤ hop.arc.link.0 = best.best hop.arc
          (record { goes = of place hop.arc hop.goes; tight = hop.tight; marked = on }) in
          let mine : s.link ≡ arc.link = link ∙ sym is.link in
          let theirs : t.link ≡ hop.arc.link = walk.3.link ∙ sym hop.is.link in
          elim (less-or-same arc.link.0 hop.arc.link.0 le) [
            | inl less ↦ inl (subst (λ x. x.0 < t.link.0) (sym mine) (subst (λ y. arc.link.0 < y.0) (sym theirs) less))
            | inr tie ↦
                (let links : row.link ≡ walk.0.link = sym is.link ∙ (λ i. record { 0 = tie i }) ∙ hop.is.link in
                let one : row ≡ walk.0 = one_row rows row walk.0 distinct goes.known walk.3.known links in
                let there : walk.1 ≡ next = far_end walk.0 a walk.1 next walk.3.joins
                (subst (λ r. Joins r a next) one goes.joins) in
                let equal : walk.2 ≡ left = (let m : row.metric ≡ walk.0.metric =
                ap (λ r. r.metric) one in let e : cost ≡ walk.0.metric + walk.2 = walk.5 in omega arith) in
                let tail = subst (λ c. IsWalk rows BannedLink BannedNode next to other c) equal
                (subst (λ n. IsWalk rows BannedLink BannedNode n to other walk.2) there walk.4) in
                inr (link ∙ links ∙ sym walk.3.link, rest.first other tail))
          ]

      pub trace_least : (route : List Step) (a : NodeId) (place before : ℕ) →
          IsTrace Crosses costs marks places place end route → HasNode places place a →
          cost_at costs place ≡ Some before → (cost : ℕ) × (before + cost ≡ total) ×
          IsLeast (IsWalk rows BannedLink BannedNode a to) route cost
      trace_least [] a place before trace stands has =
          let there : a ≡ to = one_node places place a to stands (subst (λ p. HasNode places p to) (sym trace) ends) in
          let same : before ≡ total = some_same (sym has ∙
          subst (λ p. cost_at costs p ≡ Some total) (sym trace) last) in (
            0,
            omega arith,
            record {
              allowed = (there, refl);
              least = λ other c walk. omega arith;
              first =
                  λ other walk. tt;
            },
          )
      trace_least (s ∷ route) a place before trace stands has =
          let arc = trace.0 in
          let best = trace.1.best in
          let tight = best.leads.tight in
          let over = are.sound place arc (back place arc best.leads.goes tight) in
          let row = over.row in
          let next = over.head in
          let sender : over.tail ≡ a = one_node places place over.tail a over.is.tail stands in
          let goes : IsOpen rows BannedLink BannedNode row a next =
          subst (λ x. IsOpen rows BannedLink BannedNode row x next) sender over.goes in
          let is : IsArc places row arc.row place a next arc =
          subst (λ x. IsArc places row arc.row place x next arc) sender over.is in
          let named : s.node ≡ a = one_node places place s.node a trace.1.node stands in
          let link : s.link ≡ row.link = trace.1.link ∙ is.link in
          let here : tight.cost ≡ before = some_same (sym tight.tail ∙ has) in
          let metric : arc.metric ≡ row.metric = is.metric in
          let on : tight.cost + arc.metric ≡ before + row.metric = omega arith in
          let rest = trace_least route next arc.head (before + row.metric) trace.2 is.head (tight.head ∙ ap Some on) in
          let cost = row.metric + rest.0 in
          let whole : before + cost ≡ total = (let e : before + row.metric + rest.0 ≡ total =
          rest.1 in omega arith) in (
            cost,
            whole,
            record {
              allowed = (
                row,
                next,
                rest.0,
                hop_over rows BannedLink BannedNode a next s row named link goes,
                rest.2.allowed,
                refl,
              );
              least = λ other c walk. (let low = at_least a other c place before walk stands has in omega arith);
              first = λ other walk. at_most s row route next rest.0 a place before cost arc stands has whole goes
                  link is best refl rest.2 other walk;
            },
          )
