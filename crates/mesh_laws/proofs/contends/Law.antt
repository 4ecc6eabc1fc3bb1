-- From a quiet and calm state on, in which no two calls would contend where two groups fail, no activation is refused.
use Rattle.std.proofs.Common.{◌≡◌, ◌≢◌, ℕ, Bool, true, false, List, [], ◌∷◌, ◌++◌, refl, sym, ap, ◌∙◌, subst, inl, inr}
use Rattle.std.specs.Prelude.{◌⊎◌, ◌||◌, Option, Some, None}
use Rattle.ason_base.specs.{Network.{IsTopology, Network, receiver_of, sender_of}, Risks.{has_risk, route_risks}, declared.calls.Role.TheVariants.Back, declared.commands.Group.Group, declared.ids.Fibre.Fibre, declared.ids.Lsp.Lsp, declared.ids.NodeId.NodeId, declared.risks.Risk.Risk, declared.tables.CallRec.CallRec, declared.tables.Leg.Leg}
use Rattle.ason_base.proofs.{RiskOrder.has_risk-contains, Bools.and-left, Members.all-then}
use Rattle.mesh_rules.specs.{declared.events.MeshEvent.MeshEvent, Calls.find_call, Events.{IsRun, after, route_of}, Legs.{sends_label, takes}, Machine.{Mesh, start}, Quiet.IsQuiet}
use Rattle.mesh_rules.proofs.Topologies.{topology_searchable}
use Rattle.mesh_nodes.proofs.LegList.{found-lsp}
use Rattle.lsp_laws.specs.{HopLaw.leg_at, LabelLaw.MayShare, RiskLaw.rows_of}
use Rattle.lsp_laws.proofs.{hops.HopLaws.follows, nodes.Marks.other}
use Rattle.mesh_laws.specs.{AloneLaw.risk_of, ContendLaw.{Contend, GoesOnWith, NoContend, NoneContend}, HeardLaw.primary_of}
use Rattle.mesh_laws.proofs.{alone.Facts.LspRoutes, alone.Groups.{FailsOnlyGroups, has_one}, alone.Law.each-knows, alone.Legs.BackupsApart, alone.AloneRuns.{from-calm, run-first}, kept.Ended.ended, kept.KeptRuns.{fails-only, stay-apart}, contends.MayTurn.may-turn, sent.Run.sound, sent.Sound.{Sound, standing}, sent.Standing.{Standing, backs, ends-of, guarding, taken-of}, sent.Steps.takes_if_there, sent.Uses.uses-alike}

-- a leg that records one of two groups
either : (risks : List Risk) (g h : Group) → has_one risks (g ∷ h ∷ []) ≡ true →
    (has_risk risks (risk_of g) ≡ true) ⊎ (has_risk risks (risk_of h) ≡ true)
either risks g h e = go (has_risk risks (risk_of g)) (has_risk risks (risk_of h)) refl refl e
  where
    go : (a b : Bool) → has_risk risks (risk_of g) ≡ a → has_risk risks (risk_of h) ≡ b → (a || (b || false)) ≡ true →
        (has_risk risks (risk_of g) ≡ true) ⊎ (has_risk risks (risk_of h) ≡ true)
    go true b p q e = inl p
    go false true p q e = inr q
    go false false p q e = absurd (cc e)

module _ (t : Network) (events : List MeshEvent) (g h : Group) (valid : IsTopology t) (run : IsRun t start events)
    (quiet : IsQuiet (after t start events)) (none : NoneContend t (after t start events) g h) where
  abbrev s : Mesh
  s = after t start events

  abbrev o : LspRoutes
  o = route_of t start events

  open ended t events run quiet use {facts, hops, up}

  -- two different backups are of different calls
  differ : (at at' : NodeId) (c d : CallRec) (l m : Lsp) → find_call c.call (s.nodes at.0).calls ≡ Some c →
      find_call d.call (s.nodes at'.0).calls ≡ Some d → c.back ≡ Some l → d.back ≡ Some m → (l ≡ m → ⊥) →
      at ≡ at' → c.call ≡ d.call → ⊥
  differ at at' c d l m there there' is is' apart same same' =
      let here : find_call d.call (s.nodes at.0).calls ≡ Some d =
      subst (λ n. find_call d.call (s.nodes n.0).calls ≡ Some d) (sym same) there' in
      let here' : find_call d.call (s.nodes at.0).calls ≡ Some c =
      subst (λ k. find_call k (s.nodes at.0).calls ≡ Some c) same' there in
      let one : c ≡ d = cc (here, here') in
      let lsp : c.back ≡ d.back = ap (λ (x : CallRec). x.back) one in
      apart (let x : Some l ≡ Some m = sym is ∙ lsp ∙ is' in cc x)

  module _ (n : NodeId) (f : Fibre) (x : ℕ) (l m : Lsp) (a b : Leg) (at_l : leg_at s l n ≡ Some a)
      (at_m : leg_at s m n ≡ Some b) (takes_a : takes f x a ≡ true) (takes_b : takes f x b ≡ true)
      (back_a : a.role ≡ Back) (back_b : b.role ≡ Back) where
    meet : (i j : Group) → (Contend t s i j → ⊥) → has_risk a.risks (risk_of i) ≡ true →
        has_risk b.risks (risk_of j) ≡ true → (l ≡ m → ⊥) → ⊥
    meet i j never p q other =
        let searchable = topology_searchable t valid in
        let distinct = and-left _ _ searchable in
        let each = follows t events run in
        let c = may-turn t s quiet o hops each facts up searchable distinct i l n f x a at_l back_a takes_a p in
        let d = may-turn t s quiet o hops each facts up searchable distinct j m n f x b at_m back_b takes_b q in
        never (record {
          node = n;
          fibre = f;
          label = x;
          one_at = c.0;
          one = c.1;
          two_at = d.0;
          two = d.1;
          one_turns = c.3;
          two_turns = d.3;
          differ = differ c.0 d.0 c.1 d.1 l m c.3.there d.3.there c.2 d.2 other;
        })

    either-way : MayShare a b → has_one a.risks (g ∷ h ∷ []) ≡ true → has_one b.risks (g ∷ h ∷ []) ≡ true →
        (l ≡ m → ⊥) → ⊥
    either-way shares has_a has_b other = elim (either a.risks g h has_a) [
      | inl p ↦ elim (either b.risks g h has_b) [
        | inl q ↦ never g p q
        | inr q ↦ meet g h none.0 p q other
      ]
      | inr p ↦ elim (either b.risks g h has_b) [
        | inl q ↦ meet h g none.1 p q other
        | inr q ↦ never h p q
      ]
    ]
      where
        never : (k : Group) → has_risk a.risks (risk_of k) ≡ true → has_risk b.risks (risk_of k) ≡ true → ⊥
        never k p q =
            shares.apart (risk_of k) (has_risk-contains a.risks (risk_of k) p) (has_risk-contains b.risks (risk_of k) q)

    -- two backups that take one label and record one of the groups each are one
    taken-apart : has_one a.risks (g ∷ h ∷ []) ≡ true → has_one b.risks (g ∷ h ∷ []) ≡ true → (l ≡ m → ⊥) → ⊥
    taken-apart has_a has_b other = elim ((facts.node n.0).labels f x l m a b at_l at_m takes_a takes_b) [
      | inl same ↦ other same
      | inr shares ↦ either-way shares has_a has_b other
    ]

  -- What is sent

  abbrev w : LspRoutes
  w = primary_of t start events

  all : (o' : LspRoutes) × Sound t o' (primary_of t start events) s
  all = sound t events run

  stands : Standing t all.0 w s
  stands = standing t all.0 w s all.1

  -- the legs of a backup record the same risks
  alike : (l : Lsp) (n d : NodeId) (a c : Leg) → leg_at s l n ≡ Some a → leg_at s l d ≡ Some c → a.role ≡ Back →
      (c.role ≡ Back) × (c.risks ≡ a.risks)
  alike l n d a c at_n at_d back =
      let searchable = topology_searchable t valid in
      let one = guarding t all.0 w s stands l n a at_n back in
      let too = backs t all.0 w s stands l d c one.primary at_d one.told in
      let other = guarding t all.0 w s stands l d c at_d too in
      let same : other.primary ≡ one.primary = (let p = other.told in let q = one.told in cc (p, q)) in (
        too,
        other.risks searchable ∙ ap (route_risks (rows_of t)) same ∙ sym (one.risks searchable),
      )

  -- what is sent is taken at the other end
  taken-there : (f : Fibre) (x : ℕ) (l : Lsp) (n d : NodeId) (a : Leg) → n.0 ≢ d.0 → sender_of t f ≡ Some n →
      receiver_of t f ≡ Some d → leg_at s l n ≡ Some a → sends_label f x a ≡ true →
      (c : Leg) × (leg_at s l d ≡ Some c) × (takes f x c ≡ true)
  taken-there f x l n d a apart from to at_n sent =
      go (leg_at s l d) refl ((taken-of t all.0 w s stands).takes f x n d apart from to l
      (rw (quiet.mail d.0 n.0, at_n, sent) refl))
    where
      go : (c : Option Leg) → leg_at s l d ≡ c → takes_if_there f x c ≡ true →
          (c : Leg) × (leg_at s l d ≡ Some c) × (takes f x c ≡ true)
      go None is e = absurd (cc e)
      go (Some c) is e = (c, is, e)

  -- so no two backups send one label and record one of the groups each
  sent-apart : (n : NodeId) (f : Fibre) (x : ℕ) (l m : Lsp) (a b : Leg) → leg_at s l n ≡ Some a →
      leg_at s m n ≡ Some b → sends_label f x a ≡ true → sends_label f x b ≡ true → a.role ≡ Back → b.role ≡ Back →
      has_one a.risks (g ∷ h ∷ []) ≡ true → has_one b.risks (g ∷ h ∷ []) ≡ true → (l ≡ m → ⊥) → ⊥
  sent-apart n f x l m a b at_l at_m sends_a sends_b back_a back_b has_a has_b other =
      let ends = ends-of t all.0 w s stands f x l n a at_l sends_a in
      let d = ends.to in
      let c = taken-there f x l n d a ends.apart ends.sender ends.receiver at_l sends_a in
      let e = taken-there f x m n d b ends.apart ends.sender ends.receiver at_m sends_b in
      let c_is = alike l n d a c.0 at_l c.1 back_a in
      let e_is = alike m n d b e.0 at_m e.1 back_b in
      taken-apart d f x l m c.0 e.0 c.1 e.1 c.2 e.2 c_is.0 e_is.0
      (subst (λ r. has_one r (g ∷ h ∷ []) ≡ true) (sym c_is.1) has_a)
      (subst (λ r. has_one r (g ∷ h ∷ []) ≡ true) (sym e_is.1) has_b) other

  -- where no calls would contend, of the backups that use one label at most one records one of the two groups
  are-apart : (n : ℕ) → BackupsApart (g ∷ h ∷ []) (s.nodes n).legs
  are-apart n l a at_l f x m b differ at_m uses_a uses_b back_a back_b has_a has_b =
      elim (uses-alike t all.0 w s stands f x (record { 0 = n }) l m a b at_l at_m uses_a uses_b) [
        | inl (p, q) ↦ taken-apart (record { 0 = n }) f x l m a b at_l at_m p q back_a back_b has_a has_b two
        | inr (p, q) ↦ sent-apart (record { 0 = n }) f x l m a b at_l at_m p q back_a back_b has_a has_b two
      ]
    where
      two : l ≡ m → ⊥
      two same = other a.lsp m ⊥ differ (found-lsp l (s.nodes n).legs a at_l ∙ same)

-- the law of a mesh
pub no_contend : NoContend
no_contend t events valid run g h two none =
    let distinct = and-left _ _ (topology_searchable t valid) in
    let both : List Group = g ∷ h ∷ [] in
    let before = two.before in
    let since = two.since in
    let parted : IsRun t start (before ++ since) = subst (IsRun t start) (sym two.parts) run in
    let first = run-first t start before since parted in
    let only = all-then (GoesOnWith both) (FailsOnlyGroups both) since (fails-only both) two.only in
    let apart = stay-apart t both before since parted two.only two.quiet
    (ended t before first two.quiet).up (are-apart t before g h valid first two.quiet none) in
    (from-calm t both distinct (each-knows t valid) before since parted only apart two.calm).none_refused
