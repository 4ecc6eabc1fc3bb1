-- The runs of records have the laws of the mesh.
use Rattle.std.proofs.Common.{◌≡◌, ℕ, List, [], ◌∷◌, ◌++◌, sym, ap, subst, ◌∙◌, append-nil}
use Rattle.ason_base.specs.{declared.commands.Entry.Entry, declared.commands.Event.Event, Network.{IsTopology, Network}}
use Rattle.mesh_rules.specs.Events as mesh_runs
use Rattle.mesh_rules.specs.Machine as mesh
use Rattle.mesh_rules.specs.Machine.{Mesh}
use Rattle.mesh_rules.specs.Quiet as mesh_quiet
use Rattle.lsp_laws.specs.{CallLaw.CallsFit, HopLaw.HasOneLegEach}
use Rattle.mesh_laws.specs.StateLaws.{LawsHold}
use Rattle.world_rules.specs.{Images.{IsQuietWorld, image, mesh_events}, WorldLaws.{EveryImageHasTheLaws, EveryRunIsShown, JoinedKnowTheLinks, JoinedKnowTheSame, QuietIsShown, TopologiesFindEach}, WorldRuns.{IsWorldRun, world_after, world_step}, Worlds.{World, world_start}}
use Rattle.world_merge.specs.{Merges.events_of, Orders.IsMerge, MergedLogs.EveryMergingMerges}
use Rattle.round_rules.specs.{RecordLaws.RecordsAreRuns, Records.{Record, log_at, posts_in, world_of}}
use Rattle.script_rules.specs.{ScriptLaws.RecordsAreLawful, Lawful.{AreRestored, IsLawful, IsLawfulRecord, IsLawfulRun, QuietLawsHold}}
use Rattle.script_rules.proofs.Merges.{has_merge}

-- the laws of worlds
pub record WorldLaws : Type 0 where
  pub topology : TopologiesFindEach
  pub shown : EveryRunIsShown
  pub laws : EveryImageHasTheLaws
  pub quiet : QuietIsShown
  pub same : JoinedKnowTheSame
  pub links : JoinedKnowTheLinks

quiet_laws : WorldLaws → (t : Network) → IsTopology t → (events : List Event) → IsWorldRun t (world_start t) events →
    IsQuietWorld (world_after t (world_start t) events) → QuietLawsHold t events
quiet_laws laws t valid events run quiet = record {
  shown = nothing;
  restored = λ g alone.
      subst (AreRestored t (mesh_events t (world_start t) events)) leads
      (are.restored valid g alone (subst mesh_quiet.IsQuiet (sym leads) nothing));
  same = laws.same t events valid run quiet;
  links = laws.links t events valid run quiet;
}
  where
    nothing : mesh_quiet.IsQuiet (image (world_after t (world_start t) events))
    nothing = laws.quiet t events run (record { desks = quiet.desks; hops = quiet.hops })

    are : LawsHold t (mesh_events t (world_start t) events)
    are = laws.laws t events (laws.topology t valid) run

    leads : mesh_runs.after t mesh.start (mesh_events t (world_start t) events)
        ≡ image (world_after t (world_start t) events)
    leads = (laws.shown t events (laws.topology t valid) run).leads

lawful : WorldLaws → (t : Network) → IsTopology t → (events : List Event) → IsWorldRun t (world_start t) events →
    IsLawful t events
lawful laws t valid events run =
    let each = laws.topology t valid in
    record {
      shown = laws.shown t events each run;
      laws = laws.laws t events each run;
      quiet = quiet_laws laws t valid events run;
    }

-- each first part of a run is a run
first_part : (t : Network) (w : World) (first left : List Event) → IsWorldRun t w (first ++ left) → IsWorldRun t w first
first_part t w [] left run = tt
first_part t w (e ∷ first) left run = (run.0, first_part t (world_step t w e) first left run.1)

pub records_lawful : WorldLaws → RecordsAreRuns → EveryMergingMerges → RecordsAreLawful
records_lawful laws runs merging t r valid is = record {
  possible = is;
  merges = has_merge merging t r valid is;
  runs = lawful_run;
}
  where
    lawful_run : (m : List Entry) → IsMerge (log_at r) (posts_in r) m → IsLawfulRun t r m
    lawful_run m merge = record {
      run = (runs t r m is merge).run;
      leads = (runs t r m is merge).leads;
      laws = λ first left all.
          lawful laws t valid first (first_part t (world_start t) first left
          (subst (IsWorldRun t (world_start t)) (sym all) (runs t r m is merge).run));
    }

-- One table

-- what makes the table of a mesh one
pub record HasOneTable (s : Mesh) : Type 0 where
  pub legs : HasOneLegEach s
  pub calls : (n : ℕ) → CallsFit n (s.nodes n)

-- The laws of a record's run make it one.
pub lawful_table : (t : Network) (r : Record) → IsLawfulRecord t r → HasOneTable (image (world_of t r))
lawful_table t r is = subst HasOneTable leads (record { legs = whole.laws.one_leg; calls = whole.laws.calls })
  where
    events : List Event
    events = events_of is.merges.0

    run : IsLawfulRun t r is.merges.0
    run = is.runs is.merges.0 is.merges.1

    whole : IsLawful t events
    whole = run.laws events [] (append-nil events)

    leads : mesh_runs.after t mesh.start (mesh_events t (world_start t) events) ≡ image (world_of t r)
    leads = whole.shown.leads ∙ ap image run.leads
