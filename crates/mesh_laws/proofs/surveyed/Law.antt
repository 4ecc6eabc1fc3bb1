-- Where the survey of a state's rows lists no calls that would contend where two groups fail, none would.
use Rattle.std.proofs.Common.{◌≡◌, Bool, true, false, nat_eq, List, ◌++◌, refl, sym, ◌∙◌, subst, arith, inl, inr, Contains}
use Rattle.std.specs.Prelude.{◌⊎◌, ◌&&◌, ℕ, Some}
use Rattle.ason_base.specs.{Network.{IsTopology, Network, receiver_of}, declared.calls.CallRow.CallRow, declared.calls.LegRow.LegRow, declared.commands.Group.Group, declared.ids.Fibre.Fibre, declared.ids.Lsp.Lsp, declared.ids.NodeId.NodeId, declared.tables.Leg.Leg}
use Rattle.mesh_rules.specs.{declared.events.MeshEvent.MeshEvent, Events.{after, route_of, IsRun}, Legs.takes, Machine.{Mesh, start}, Rows.call_row}
use Rattle.lsp_laws.specs.HopLaw.{LspFits, leg_at}
use Rattle.lsp_laws.proofs.{hops.HopLaws.every_hop, nodes.Facts.MeshFacts, nodes.NodeRuns.facts-hold}
use Rattle.mesh_laws.specs.{declared.survey.Contend.Contend as Listed, HeardLaw.primary_of, ContendLaw.Contend, Survey.{contends_between, end_of, groups_of}, SurveyLaw.{ContendsAreListed, NoSurveyedContend, NoneListed, ShowsAll}}
use Rattle.mesh_laws.proofs.{alone.Facts.LspRoutes, contends.Law.no_contend, sent.Run.sound, sent.Sound.standing, sent.Uses.takes-to, surveyed.Listed.{between-has, either-order, group-there}, surveyed.Rows.{label-there, shown-turn}, surveyed.Stands.{comes-into, own-end}, alone.AloneRuns.run-first}

module _ (t : Network) (valid : IsTopology t) (s : Mesh) (o : LspRoutes) (hops : (l : Lsp) → LspFits t s l (o l))
    (facts : MeshFacts t s) (calls : List CallRow) (legs : List LegRow) (shows : ShowsAll t s calls legs)
    (comes : (f : Fibre) (x : ℕ) (l : Lsp) (n : NodeId) (g : Leg) → leg_at s l n ≡ Some g → takes f x g ≡ true →
    receiver_of t f ≡ Some n) where
  -- what the survey lists of two groups, at a place where calls would contend
  listed : (g h : Group) (m : Contend t s g h) → (c : Listed) ×
      Contains (contends_between t calls legs g h) c × (c.first ≡ g) × (c.second ≡ h)
  listed g h m =
      let took = m.one_turns.label in
      let into = comes-into t m.node m.fibre (comes m.fibre m.label took.back m.node took.leg took.there took.label) in
      let forward : Bool = nat_eq into.link.high.0 m.node.0 in
      let end : end_of into.link forward ≡ m.node = own-end into.link m.node into.touches_it in
      let link : m.fibre.link ≡ into.link.id = into.number in
      let one = shown-turn t valid s o hops facts calls legs shows g m.node m.fibre m.label m.one_at m.one
      m.one_turns in
      let two = shown-turn t valid s o hops facts calls legs shows h m.node m.fibre m.label m.two_at m.two
      m.two_turns in
      let label = label-there t valid s o hops facts calls legs shows m.node m.fibre m.label m.one took in
      let a : CallRow = call_row m.one_at (s.nodes m.one_at.0).legs m.one in
      let b : CallRow = call_row m.two_at (s.nodes m.two_at.0).legs m.two in (
        _,
        between-has t calls legs g h into.link forward m.label a b into.there
            (rw (end, ← link) label) one.row_there two.row_there (rw (end, ← link) one.may) (rw (end, ← link) two.may)
            (differ (nat_eq m.one.call.0 m.two.call.0) (nat_eq m.one_at.0 m.two_at.0) refl refl),
        refl,
        refl,
      )
    where
      differ : (x y : Bool) → nat_eq m.one.call.0 m.two.call.0 ≡ x → nat_eq m.one_at.0 m.two_at.0 ≡ y →
          (x && y) ≡ false
      differ false y p q = refl
      differ true false p q = refl
      differ true true p q =
          let number : m.one.call.0 ≡ m.two.call.0 = grind arith in
          let node : m.one_at.0 ≡ m.two_at.0 = grind arith in
          absurd (m.differ (λ i. record { 0 = node i }) (λ i. record { 0 = number i }))

  swapped : (i j : Group) → Contend t s i j → Contend t s j i
  swapped i j m = record {
    node = m.node;
    fibre = m.fibre;
    label = m.label;
    one_at = m.two_at;
    one = m.two;
    two_at = m.one_at;
    two = m.one;
    one_turns = m.two_turns;
    two_turns = m.one_turns;
    differ = λ a b. m.differ (sym a) (sym b);
  }

  -- these two are g and h, in one order or the other
  abbrev AreThese : Group → Group → Group → Group → Type 0
  AreThese g h i j = ((i ≡ g) × (j ≡ h)) ⊎ ((i ≡ h) × (j ≡ g))

  turned : (g h i j : Group) → AreThese g h i j → AreThese g h j i
  turned g h i j (inl both) = inr (both.1, both.0)
  turned g h i j (inr both) = inl (both.1, both.0)

  told : (g h i j : Group) (c : Listed) → AreThese g h i j → c.first ≡ i → c.second ≡ j →
      AreThese g h c.first c.second
  told g h i j c (inl both) p q = inl (p ∙ both.0, q ∙ both.1)
  told g h i j c (inr both) p q = inr (p ∙ both.0, q ∙ both.1)

  none-of : (g h : Group) → NoneListed t calls legs g h → (i j : Group) →
      AreThese g h i j → (i ≡ j → ⊥) → Contend t s i j → ⊥
  none-of g h none i j which apart m =
      let at_i = group-there t i m.one_turns.hit.fibre.link m.one_turns.hit.on_link in
      let at_j = group-there t j m.two_turns.hit.fibre.link m.two_turns.hit.on_link in
      elim (either-order t calls legs (groups_of t) i j at_i at_j apart) [
        | inl f ↦ (let c = listed i j m in none c.0 (f c.0 c.1) (told g h i j c.0 which c.2 c.3))
        | inr f ↦ (let c = listed j i (swapped i j m) in
            none c.0 (f c.0 c.1) (told g h j i c.0 (turned g h i j which) c.2 c.3))
      ]

-- the survey of a state of a run lists all calls that would contend
pub every_contend_listed : (t : Network) (events : List MeshEvent) → IsTopology t → IsRun t start events →
    ContendsAreListed t events
every_contend_listed t events valid run calls legs shows g h differ none =
    let s : Mesh = after t start events in
    let o : LspRoutes = route_of t start events in
    let facts = facts-hold t events run in
    let hops = (every_hop t events run).1 in
    let w : LspRoutes = primary_of t start events in
    let all = sound t events run in
    let comes = takes-to t all.0 w s (standing t all.0 w s all.1) in (
      none-of t valid s o hops facts calls legs shows comes g h none g h (inl (refl, refl)) differ,
      none-of t valid s o hops facts calls legs shows comes g h none h g (inr (refl, refl)) (λ e. differ (sym e)),
    )

-- the law of two groups, by the rows
pub no_surveyed_contend : NoSurveyedContend
no_surveyed_contend t events valid run g h differ two calls legs shows none =
    let parted : IsRun t start (two.before ++ two.since) = subst (IsRun t start) (sym two.parts) run in
    let first = run-first t start two.before two.since parted in
    no_contend t events valid run g h two (every_contend_listed t two.before valid first calls legs shows g h
    differ none)
