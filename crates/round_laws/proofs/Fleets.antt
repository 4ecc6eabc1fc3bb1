-- Whole rounds after a failure restore the calls that it hits.
use Rattle.std.proofs.{Common.{◌≡◌, ◌≤◌, ℕ, zero, suc, List, [], ◌∷◌, ◌++◌, sym, ap, ◌∙◌, subst, append_assoc, append-nil}, ByRecursion.All-append}
use Rattle.std.specs.{Prelude.{Some, IsTrue}, List.AllByRecursion}
use Rattle.ason_base.specs.{declared.commands.Command.TheVariants.Fail, declared.commands.Disturb.Disturb, declared.commands.Entry.Entry, declared.commands.Event.Event, declared.commands.Event.TheVariants.Post, declared.commands.Group.Group, declared.ids.CallNo.CallNo, declared.tables.CallRec.CallRec, Network.{IsTopology, Network}}
use Rattle.mesh_rules.specs.{declared.events.MeshEvent.MeshEvent, Calls.find_call, Machine.Mesh}
use Rattle.mesh_rules.specs.declared.events.MeshEvent.TheVariants as event
use Rattle.mesh_rules.specs.Events as mesh_runs
use Rattle.mesh_rules.specs.Machine as mesh
use Rattle.mesh_rules.specs.Quiet as mesh_quiet
use Rattle.mesh_laws.specs.{AloneLaw.Calm, RestorationLaw.{is_guarded, is_lsp_hit}, HomeLaw.{EveryRunStaysAtHome, StaysAtHome}, SoonLaw.{EveryHitCallIsRestoredSoon, IsRestoredAt, IsStruck, PostsNothing, struck_at, sweeps_for}, Sweeps.{AreSoMany, IsSweep}}
use Rattle.mesh_laws.proofs.alone.AloneRuns.{after-append}
use Rattle.world_rules.specs.{Images.{image, mesh_events}, WorldLaws.{EveryRunIsShown, IsWithoutMessages, QuietIsShown, TopologiesFindEach}, WorldRuns.{IsWorldRun, world_after, world_step}, Worlds.{World, world_start}}
use Rattle.world_merge.specs.Merges.{events_of}
use Rattle.round_rules.specs.{Records.{Record, world_of}, PossibleRecords.IsRecord}
use Rattle.round_laws.specs.{FleetLaw.{AreWholeRounds, IsPostOf, RestoresSoon}, GoingOn.GoesOn, Rings.RingsHaveAll, WholeRounds.{IsWholeRound, LeadsTo}}
use Rattle.round_laws.proofs.{Runs.{given_both, leads_on}, Keeping.whole-rounds_keep, Quiet.{acknowledged_on, post_goes_on, quiet-has_all}, Sweeping.whole-rounds_are_sweeps}

-- each call that is hit is restored once so many of these sweeps are over as it costs
abbrev pub Restores : Network → (Mesh → List MeshEvent → Type 0) → (List MeshEvent → CallRec → ℕ) → Type 0
Restores t Sweep cost =
    (events : List MeshEvent) → mesh_runs.IsRun t mesh.start events → (g : Group) (struck : IsStruck t events g) (k : ℕ) →
    AreSoMany Sweep t k (mesh_runs.after t mesh.start (struck_at t events g struck)) struck.since → (n : ℕ) (m : CallNo)
    (c : CallRec) → find_call m ((mesh_runs.after t mesh.start struck.before).nodes n).calls ≡ Some c →
    IsTrue (is_guarded ((mesh_runs.after t mesh.start struck.before).nodes n) c) →
    IsTrue (is_lsp_hit t (struck_at t events g struck) c.work) → cost (struck_at t events g struck) c ≤ k →
    IsRestoredAt t events n m

-- so many rounds are a run, at whose end they are restored
abbrev pub AreRestored : Network → (List MeshEvent → CallRec → ℕ) → List Event → Group → ℕ → Record → Record → Type 0
AreRestored t cost es g k old new =
    (later : List Event) × LeadsTo t (es ++ Post (Fail g) ∷ later) (world_of t new)
    × ((n : ℕ) (m : CallNo) (c : CallRec) → find_call m ((world_of t old).nodes n).calls ≡ Some c →
    IsTrue (is_guarded ((world_of t old).nodes n) c) →
    IsTrue (is_lsp_hit t (mesh_events t (world_start t) (es ++ Post (Fail g) ∷ [])) c.work) →
    cost (mesh_events t (world_start t) (es ++ Post (Fail g) ∷ [])) c ≤ k →
    IsRestoredAt t (mesh_events t (world_start t) (es ++ Post (Fail g) ∷ later)) n m)

module _ (t : Network) (valid : IsTopology t) (found : TopologiesFindEach) (shown : EveryRunIsShown)
    (home : EveryRunStaysAtHome) where
  shows : (es : List Event) (w : World) → LeadsTo t es w →
      mesh_runs.after t mesh.start (mesh_events t (world_start t) es) ≡ image w
  shows es w leads = (shown t es (found t valid) leads.run).leads ∙ ap image leads.leads

  pub at_home : (es : List Event) (w : World) → LeadsTo t es w → StaysAtHome t (image w)
  at_home es w leads =
      subst (StaysAtHome t) (shows es w leads)
      (home t (mesh_events t (world_start t) es) valid (shown t es (found t valid) leads.run).run)

  -- the mesh goes from one image to the next
  pub goes : (es fs : List Event) (w v : World) → LeadsTo t es w → LeadsTo t (es ++ fs) v →
      mesh_runs.after t (image w) (mesh_events t w fs) ≡ image v
  goes es fs w v one two =
      ap (λ s. mesh_runs.after t s (mesh_events t w fs)) (sym (shows es w one))
      ∙ sym (after-append t mesh.start (mesh_events t (world_start t) es) (mesh_events t w fs))
      ∙ ap (mesh_runs.after t mesh.start)
      (ap (λ x. mesh_events t (world_start t) es ++ mesh_events t x fs) (sym one.leads)
      ∙ sym (given_both t (world_start t) es fs))
      ∙ shows (es ++ fs) v two

  -- events that lead from the one world to the other, and are such a sweep
  pub record GoesBy (Sweep : Mesh → List MeshEvent → Type 0) (old new : Record) : Type 0 where
    pub events : List Event
    pub run : IsWorldRun t (world_of t old) events
    pub leads : world_after t (world_of t old) events ≡ world_of t new
    pub sweep : Sweep (image (world_of t old)) (mesh_events t (world_of t old) events)
    pub only : AllByRecursion PostsNothing (mesh_events t (world_of t old) events)

  -- so many whole rounds are so many of these
  pub record AreSwept (Sweep : Mesh → List MeshEvent → Type 0) (es : List Event) (k : ℕ) (old new : Record) : Type 0 where
    pub later : List Event
    pub leads : LeadsTo t (es ++ later) (world_of t new)
    pub sweeps : AreSoMany Sweep t k (image (world_of t old)) (mesh_events t (world_of t old) later)
    pub only : AllByRecursion PostsNothing (mesh_events t (world_of t old) later)

  -- Whole rounds, of each of which more is known.
  abbrev pub AreRounds : (Record → Record → Type 0) → ℕ → Record → Record → Type 0
  AreRounds Also zero old new = old ≡ new
  AreRounds Also (suc k) old new =
      (lines : List Disturb) × (mid : Record) × IsWholeRound t lines old mid × Also old mid × IsRecord t mid
      × AreRounds Also k mid new

  pub both_given : (w v : World) (fs later : List Event) → world_after t w fs ≡ v →
      mesh_events t w fs ++ mesh_events t v later ≡ mesh_events t w (fs ++ later)
  both_given w v fs later to =
      ap (λ x. mesh_events t w fs ++ mesh_events t x later) (sym to) ∙ sym (given_both t w fs later)

  module _ (Sweep : Mesh → List MeshEvent → Type 0) (Also : Record → Record → Type 0)
      (once : (lines : List Disturb) (old mid : Record) (es : List Event) → IsRecord t old → IsRecord t mid →
      LeadsTo t es (world_of t old) → IsWholeRound t lines old mid → RingsHaveAll t old → Also old mid →
      GoesBy Sweep old mid) where
    swept : (k : ℕ) (es : List Event) (old new : Record) → IsRecord t old → LeadsTo t es (world_of t old) →
        RingsHaveAll t old → AreRounds Also k old new → AreSwept Sweep es k old new
    swept zero es old new is leads have rounds = record {
      later = [];
      leads = subst (λ xs. LeadsTo t xs (world_of t new)) (sym (append-nil es))
          (subst (λ r. LeadsTo t es (world_of t r)) rounds leads);
      sweeps = tt;
      only = tt;
    }
    swept (suc k) es old new is leads have rounds =
        let mid : Record = rounds.1 in
        let w : World = world_of t old in
        let v : World = world_of t mid in
        let s : GoesBy Sweep old mid = once rounds.0 old mid es is rounds.4 leads rounds.2 have rounds.3 in
        let fs : List Event = s.events in
        let there : LeadsTo t (es ++ fs) v = leads_on t es fs w v leads s.run s.leads in
        let rest = swept k (es ++ fs) mid new rounds.4 there
        (whole-rounds_keep t rounds.0 old mid rounds.4 rounds.2 have) rounds.5 in
        let joined : mesh_events t w fs ++ mesh_events t v rest.later ≡ mesh_events t w (fs ++ rest.later) =
        both_given w v fs rest.later s.leads in
        record {
          later = fs ++ rest.later;
          leads = subst (λ xs. LeadsTo t xs (world_of t new)) (append_assoc es fs rest.later) rest.leads;
          sweeps = (
            mesh_events t w fs,
            mesh_events t v rest.later,
            joined,
            s.sweep,
            subst (λ z. AreSoMany Sweep t k z (mesh_events t v rest.later)) (sym (goes es fs w v leads there))
                rest.sweeps,
          );
          only = subst (AllByRecursion PostsNothing) joined
              (All-append PostsNothing (mesh_events t w fs) (mesh_events t v rest.later) s.only rest.only);
        }

    -- After a failure such rounds restore the calls that it hits, where such sweeps do.
    pub hits-by : (cost : List MeshEvent → CallRec → ℕ) → Restores t Sweep cost → QuietIsShown → (es : List Event)
        (old posted new : Record) (g : Group) (k : ℕ) → IsRecord t old → LeadsTo t es (world_of t old) →
        IsWithoutMessages (world_of t old) → Calm (image (world_of t old)) → IsPostOf t (Fail g) old posted →
        IsRecord t posted → AreRounds Also k posted new → AreRestored t cost es g k old new
    hits-by cost law quiet es old posted new g k is leads none calm post is_posted rounds =
        (sw.later, all_leads, restored)
      where
        w : World
        w = world_of t old

        v : World
        v = world_of t posted

        p : (m : List Entry) × (events_of m ≡ Post (Fail g) ∷ []) × GoesOn t old posted m
        p = post_goes_on t (Fail g) old posted is is_posted post

        to : world_after t w (Post (Fail g) ∷ []) ≡ v
        to = ap (world_after t w) (sym p.1) ∙ p.2.leads

        hit_es : List Event
        hit_es = es ++ Post (Fail g) ∷ []

        there : LeadsTo t hit_es v
        there = leads_on t es (Post (Fail g) ∷ []) w v leads (subst (IsWorldRun t w) p.1 p.2.run) to

        have : RingsHaveAll t posted
        have =
            quiet-has_all t posted hit_es is_posted there
            (acknowledged_on t (Fail g) old posted is is_posted post none.hops)

        sw : AreSwept Sweep hit_es k posted new
        sw = swept k hit_es posted new is_posted there have rounds

        all : List Event
        all = es ++ Post (Fail g) ∷ sw.later

        all_leads : LeadsTo t all (world_of t new)
        all_leads = subst (λ xs. LeadsTo t xs (world_of t new)) (append_assoc es (Post (Fail g) ∷ []) sw.later) sw.leads

        events : List MeshEvent
        events = mesh_events t (world_start t) all

        before : List MeshEvent
        before = mesh_events t (world_start t) es

        since : List MeshEvent
        since = mesh_events t v sw.later

        struck_is : mesh_events t (world_start t) hit_es ≡ before ++ event.Post (Fail g) ∷ []
        struck_is = given_both t (world_start t) es (Post (Fail g) ∷ [])

        parts : before ++ event.Post (Fail g) ∷ since ≡ events
        parts =
            ap (λ x. before ++ event.Post (Fail g) ∷ mesh_events t x sw.later)
            (sym to ∙ ap (λ x. world_step t x (Post (Fail g))) (sym leads.leads))
            ∙ sym (given_both t (world_start t) es (Post (Fail g) ∷ sw.later))

        still : mesh_quiet.IsQuiet (mesh_runs.after t mesh.start before)
        still =
            subst mesh_quiet.IsQuiet (sym (shown t es (found t valid) leads.run).leads)
            (quiet t es leads.run (subst IsWithoutMessages (sym leads.leads) none))

        struck : IsStruck t events g
        struck = record {
          before = before;
          since = since;
          parts = parts;
          calm = subst Calm (sym (shows es w leads)) calm;
          quiet = still;
          only = sw.only;
        }

        restored : (n : ℕ) (m : CallNo) (c : CallRec) → find_call m ((world_of t old).nodes n).calls ≡ Some c →
            IsTrue (is_guarded ((world_of t old).nodes n) c) →
            IsTrue (is_lsp_hit t (mesh_events t (world_start t) (es ++ Post (Fail g) ∷ [])) c.work) →
            cost (mesh_events t (world_start t) (es ++ Post (Fail g) ∷ [])) c ≤ k →
            IsRestoredAt t (mesh_events t (world_start t) (es ++ Post (Fail g) ∷ sw.later)) n m
        restored n m c found_it guarded hit within =
            law events (shown t all (found t valid) all_leads.run).run g struck k
            (subst (λ z. AreSoMany Sweep t k z since)
            (sym (ap (mesh_runs.after t mesh.start) (sym struck_is) ∙ shows hit_es v there)) sw.sweeps) n m c
            (subst (λ (s : Mesh). find_call m (s.nodes n).calls ≡ Some c) (sym (shows es w leads)) found_it)
            (subst (λ (s : Mesh). IsTrue (is_guarded (s.nodes n) c)) (sym (shows es w leads)) guarded)
            (subst (λ xs. IsTrue (is_lsp_hit t xs c.work)) struck_is hit)
            (subst (λ xs. cost xs c ≤ k) struck_is within)

  -- whole rounds, of which no more is known
  plain : (k : ℕ) (old new : Record) → AreWholeRounds t k old new → AreRounds (λ a b. Unit {0}) k old new
  plain zero old new rounds = rounds
  plain (suc k) old new rounds =
      (rounds.0, rounds.1, rounds.2, tt, rounds.3, plain k rounds.1 new rounds.4)

  -- After a failure whole rounds restore the calls that it hits.
  pub hits : EveryHitCallIsRestoredSoon → QuietIsShown → (es : List Event) (old posted new : Record) (g : Group) (k : ℕ) →
      IsRecord t old → LeadsTo t es (world_of t old) → IsWithoutMessages (world_of t old) →
      Calm (image (world_of t old)) → IsPostOf t (Fail g) old posted → IsRecord t posted →
      AreWholeRounds t k posted new → RestoresSoon t es g k old new
  hits law quiet es old posted new g k is leads none calm post is_posted rounds =
      let r = hits-by IsSweep (λ a b. Unit {0}) once (sweeps_for t)
      (λ events run g struck k sweeps n m c. law t events valid run g struck k sweeps n m c) quiet es old posted new g k
      is leads none calm post is_posted (plain k posted new rounds) in
      record { later = r.0; leads = r.1; restored = r.2 }
    where
      once : (lines : List Disturb) (old mid : Record) (es : List Event) → IsRecord t old → IsRecord t mid →
          LeadsTo t es (world_of t old) → IsWholeRound t lines old mid → RingsHaveAll t old → Unit {0} →
          GoesBy IsSweep old mid
      once lines old mid es is is_mid leads whole have also =
          let s = whole-rounds_are_sweeps t lines old mid es valid is is_mid leads whole have
          (at_home es (world_of t old) leads) in
          record {
            events = events_of s.lines;
            run = s.on.run;
            leads = s.on.leads;
            sweep = s.sweep;
            only = s.only;
          }
