-- While one group alone fails after a calm state, no activation is refused.
use Rattle.std.proofs.Common.{◌≡◌, true, List, [], ◌∷◌, ◌++◌, map, refl, sym, subst}
use Rattle.ason_base.specs.{Network.{IsTopology, Network, is_distinct}, declared.commands.Group.Group}
use Rattle.ason_base.proofs.{Bools.and-left, Members.all-then}
use Rattle.mesh_rules.specs.{declared.events.MeshEvent.MeshEvent, Events.{IsRun, after, route_of, step}, Machine.{Mesh, start}}
use Rattle.mesh_rules.proofs.Topologies.{topology_searchable}
use Rattle.lsp_laws.proofs.{hops.Beside.every_backup_beside, hops.HopLaws.follows, hops.Recorded.every_backup_records, nodes.NodeRuns.facts-hold}
use Rattle.mesh_laws.specs.AloneLaw.{AllConcern, EveryActivationIsAdmitted, EveryRunStartsCalm, FailsOnly as OneFails}
use Rattle.mesh_laws.proofs.{alone.Groups.FailsOnlyGroups, alone.Known.mesh-knows, alone.Facts.{MeshKnows, LspRoutes}, alone.One.{fails-one, mesh-one, msg-alone, shares-alone}, alone.AloneRuns.{AllApart, EachKnows, StayApart, after-append, append-one, from-calm, run-first}, sent.Run.sound}

-- what the laws of every run tell of each state
pub each-knows : (t : Network) → IsTopology t → EachKnows t
each-knows t valid events run =
    let all = sound t events run in
    mesh-knows t events (facts-hold t events run) (follows t events run) (every_backup_records t events valid run)
    (every_backup_beside t events run) valid all.0 all.1

-- backups that share a label never record one group both
state-apart : (t : Network) (g : Group) (o : LspRoutes) (s : Mesh) → MeshKnows t o s → AllApart (g ∷ []) s
state-apart t g o s told = record {
  legs = λ n l b found. shares-alone g (s.nodes n).legs b ((told.nodes (record { 0 = n })).shares l b found);
  firsts = λ u d m ms was. msg-alone t g (s.nodes d.0) u m (told.firsts u d m ms was);
}

one-apart : (t : Network) (g : Group) → EachKnows t → (before since : List MeshEvent) →
    IsRun t start (before ++ since) → StayApart t (g ∷ []) (after t start before) since
one-apart t g knows before [] run = tt
one-apart t g knows before (e ∷ es) run =
    let told = knows before (run-first t start before (e ∷ es) run) in
    let next : after t start (before ++ e ∷ []) ≡ step t (after t start before) e = after-append t start before (e ∷ [])
    in (
      state-apart t g (route_of t start before) (after t start before) told,
      subst (λ s. StayApart t (g ∷ []) s es) next
          (one-apart t g knows (before ++ e ∷ []) es (subst (IsRun t start) (sym (append-one before e es)) run)),
    )

-- the clause: one group as a list of groups
pub every_activation_admitted : EveryActivationIsAdmitted
every_activation_admitted t events valid run g alone =
    let distinct : is_distinct (map (λ l. l.id.0) t.links) ≡ true = and-left _ _ (topology_searchable t valid) in
    let before = alone.before in
    let since = alone.since in
    let knows = each-knows t valid in
    let parted : IsRun t start (before ++ since) = subst (IsRun t start) (sym alone.parts) run in
    let only = all-then (OneFails g) (FailsOnlyGroups (g ∷ [])) since (fails-one g) alone.only in
    let kept = from-calm t (g ∷ []) distinct knows before since parted only (one-apart t g knows before since parted)
    alone.calm in (
      kept.none_refused,
      subst (λ es. AllConcern t g (after t start es)) alone.parts
          (mesh-one t g (route_of t start (before ++ since)) (after t start (before ++ since)) kept.holds),
    )

-- nothing is there at the start
pub run_starts_calm : EveryRunStartsCalm
run_starts_calm = record {
  failed = refl;
  desks = λ n. tt;
  down = λ n. refl;
  reports = λ n. tt;
  legs = λ n. tt;
  mail = λ u d. tt;
}
