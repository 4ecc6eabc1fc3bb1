-- A run in which two groups alone fail since a quiet and calm state in which no two calls would contend: both calls turn,
-- and no activation is refused. The working links lie in one duct, so that the backups, which meet on link 5, have
-- labels of their own there.
use Rattle.std.proofs.Common.{◌≡◌, ◌≢◌, true, List, [], ◌∷◌, ◌++◌, ℕ, ap, arith, refl, subst, Contains}
use Rattle.std.specs.{Prelude.{Some, None}, List.AllByRecursion}
use Rattle.ason_base.specs.Labels as labels
use Rattle.ason_base.specs.{Network.{IsTopology, Network}, declared.calls.CallRow.CallRow, declared.calls.CallState.TheVariants.{Guarded, Turned}, declared.calls.Cause.TheVariants.Unset, declared.calls.LegRow.LegRow, declared.calls.Phase.Phase, declared.calls.Phase.TheVariants.{Held, Live}, declared.commands.Group.Group, declared.commands.Group.TheVariants.{Link, Srlg}}
use Rattle.ason_base.proofs.Members.{contains-head, contains-tail, contains-none}
use Rattle.mesh_rules.specs.{declared.events.MeshEvent.MeshEvent, Events.{IsRun, after}, Machine.{Mesh, start}, Quiet.IsQuiet, Rows.{all_call_rows, all_leg_rows}}
use Rattle.mesh_laws.specs.{AloneLaw.NoneRefused, ContendLaw.{GoesOnWith, NoneContend, TwoAlone}, Survey.contends_of, SurveyLaw.{ShowsAll, is_reserved_row}}
use Rattle.mesh_laws.proofs.{contends.Law.no_contend, surveyed.Calm.calm_shown, surveyed.Law.every_contend_listed}
use Rattle.mesh_examples.proofs.{Ends.{is_still, quiet, runs, topology}, Scene.{only_among, seen_unreported, desk, down_at, fails_link, learns_links, leg, link, step_over, Reaches, seen_reported, Seen, SeenLeg, sets_up, still, takes_each}}
use Rattle.mesh_examples.proofs.Surveyed as surveyed

abbrev network : Network
network = surveyed.network (7 ∷ [])

-- node 3 learns of both working links
abbrev before : List MeshEvent
before =
    learns_links 3 (1 ∷ 2 ∷ [])
    ++ sets_up 1 1 4 (step_over 1 1 ∷ []) (step_over 1 3 ∷ step_over 3 5 ∷ [])
    ∷ desk 1
    ∷ takes_each ((4, 1) ∷ (1, 4) ∷ (3, 1) ∷ (4, 3) ∷ (3, 4) ∷ (1, 3) ∷ [])
    ++ sets_up 2 2 4 (step_over 2 2 ∷ []) (step_over 2 4 ∷ step_over 3 5 ∷ [])
    ∷ desk 2
    ∷ takes_each ((4, 2) ∷ (2, 4) ∷ (3, 2) ∷ (4, 3) ∷ (3, 4) ∷ (2, 3) ∷ [])

-- link 1 fails, and while the first call turns link 2
abbrev since : List MeshEvent
since =
    fails_link 1
    ∷ desk 1
    ∷ desk 4
    ∷ takes_each ((1, 4) ∷ (3, 1) ∷ [])
    ++ fails_link 2
    ∷ desk 2
    ∷ desk 4
    ∷ takes_each ((2, 4) ∷ (3, 2) ∷ (4, 3) ∷ (4, 3) ∷ (3, 4) ∷ (3, 4) ∷ (1, 3) ∷ (2, 3) ∷ [])

abbrev events : List MeshEvent
events = before ++ since

abbrev legs : Phase → List (List SeenLeg)
legs phase =
    (leg 1 1 Live None (Some 1) 0 2 0 ∷ leg 1 2 phase None (Some 1) 0 2 1 ∷ [])
    ∷ (leg 2 1 Live None (Some 1) 0 2 0 ∷ leg 2 2 phase None (Some 2) 0 2 1 ∷ [])
    ∷ (leg 1 2 phase (Some 1) (Some 1) 2 2 0 ∷ leg 2 2 phase (Some 2) (Some 2) 2 2 0 ∷ [])
    ∷ (leg 1 1 Live (Some 1) None 2 0 0
    ∷ leg 1 2 phase (Some 1) None 2 0 0
    ∷ leg 2 1 Live (Some 1) None 2 0 0
    ∷ leg 2 2 phase (Some 2) None 1 0 0 ∷ [])
    ∷ []

abbrev as_before : Seen
as_before = record (still 4 5) {
  legs = legs Held;
  calls = only_among 4 ((1, seen_unreported 1 Guarded Unset ∷ []) ∷ (2, seen_unreported 2 Guarded Unset ∷ []) ∷ []);
  known = 2 ∷ 2 ∷ 5 ∷ 3 ∷ [];
}

abbrev as_reached : Seen
as_reached = record as_before {
  legs = legs Live;
  calls = only_among 4 ((1, seen_reported 1 Turned Unset 1 0 ∷ []) ∷ (2, seen_reported 2 Turned Unset 1 0 ∷ []) ∷ []);
  down = down_at 4 ((1, 1) ∷ (2, 1) ∷ (4, 2) ∷ []);
}

guards : Reaches network before as_before
unfolding labels.numbers_from
guards = record { enabled = refl; reached = refl }

turns : Reaches network events as_reached
unfolding labels.numbers_from
turns = record { enabled = refl; reached = refl }

-- The laws

abbrev one : Group
one = Link (link 1)

abbrev two : Group
two = Link (link 2)

abbrev calm_state : Mesh
calm_state = after network start before

valid : IsTopology network
valid = topology network refl

run_before : IsRun network start before
run_before = runs network start before guards.enabled

run : IsRun network start events
run = runs network start events turns.enabled

nothing_waits : is_still network calm_state ≡ true
unfolding labels.numbers_from
nothing_waits = refl

rests : IsQuiet calm_state
rests = quiet network before valid run_before nothing_waits

abbrev call_rows : List CallRow
call_rows = all_call_rows network calm_state

abbrev leg_rows : List LegRow
leg_rows = all_leg_rows network calm_state

shows : ShowsAll network calm_state call_rows leg_rows
shows = record { calls_there = λ c there. there; legs_there = λ r there. there }

none_failed : calm_state.failed ≡ []
unfolding labels.numbers_from
none_failed = refl

reserved : AllByRecursion (λ r. is_reserved_row r ≡ true) leg_rows
unfolding labels.numbers_from
reserved = assumption (tt, refl)

none_listed : contends_of network call_rows leg_rows ≡ []
unfolding labels.numbers_from
none_listed = refl

apart : one ≢ two
apart e = absurd (let numbers : 1 ≡ 2 = ap number e in omega (arith, numbers))
  where
    number : Group → ℕ
    number (Link k) = k.0
    number (Srlg s) = 0

none_contend : NoneContend network calm_state one two
none_contend =
    every_contend_listed network before valid run_before call_rows leg_rows shows one two apart
    (λ c there of. contains-none c (subst (λ cs. Contains cs c) none_listed there))

goes_on : AllByRecursion (GoesOnWith (one ∷ two ∷ [])) since
goes_on =
    assumption (tt, contains-head one (two ∷ []), contains-tail one two (two ∷ []) (contains-head two []))

two_alone : TwoAlone network events one two
two_alone = record {
  before = before;
  since = since;
  parts = refl;
  quiet = rests;
  calm = calm_shown network before valid run_before call_rows leg_rows shows
      (record { quiet = rests; failed = none_failed; backups = reserved });
  only = goes_on;
}

none_refused : NoneRefused network calm_state since
unfolding two_alone
none_refused = no_contend network events valid run one two two_alone none_contend
