-- After a failure behind which rounds alone are made, calls are restored in rounds.
use Rattle.std.proofs.Common.{◌≡◌, ℕ, zero, suc, Bool, List, [], ◌∷◌, ◌++◌, length, refl, sym, subst}
use Rattle.std.specs.{Prelude.{◌+◌, Option, None, Some}, List.AllByRecursion}
use Rattle.ason_base.specs.{declared.commands.Command.TheVariants.Fail, declared.commands.Disturb.Disturb, declared.ids.NodeId.NodeId, Network.Network}
use Rattle.round_rules.specs.{Records.Record, Unfinished.IsRoundBy, Commands.greatest_clock}
use Rattle.round_laws.specs.{FleetLaw.{AreWholeSince, FleetsRestoreSoon, IsPostOf, IsWholeSince}, RoundsInOrder.{AreByOneSince, OneWorkerRestoresInOrder}}
use Rattle.plan_reader.specs.{declared.lines.Line.Line, declared.lines.Line.TheVariants.{Noise, Post, Settle, Wait, Show}, declared.plan.Plan.Plan}
use Rattle.plan_reader.specs.declared.lines.Line.TheVariants as said
use Rattle.script_rules.specs.{Lawful.IsLawfulRecord, Outputs.{How, Prints}, Restoring.{AreWhole, MakesRounds, failing, with_failure}, ScriptLaws.FailuresAreRestored, Stages.{ComesTo, IsNextRound, LineMakes, Stage, is_settled, is_stopped, last_stage_of, new_stage}}
use Rattle.script_rules.proofs.{Alone.all_from, Rounds.{GoesRounds, settles-go, waits-go}}

-- Rounds

-- each of these stages comes from the one before by a round
abbrev AreRounds : Network → ℕ → Stage → List Stage → Type 0
AreRounds t workers s [] = Unit {0}
AreRounds t workers s (a ∷ more) = IsNextRound t workers s a × AreRounds t workers a more

goes_rounds : (over : Stage → Bool) (t : Network) (workers rounds : ℕ) (s : Stage) (more : List Stage) →
    GoesRounds over t workers rounds s more → AreRounds t workers s more
goes_rounds over t workers zero s [] x = tt
goes_rounds over t workers zero s (a ∷ more) x = absurd x
goes_rounds over t workers (suc rounds) s [] x = tt
goes_rounds over t workers (suc rounds) s (a ∷ more) x = (x.1, goes_rounds over t workers rounds a more x.2)

line_rounds : (t : Network) (workers : ℕ) (line : Line) (s : Stage) (more : List Stage) → MakesRounds line →
    LineMakes t workers line s more → AreRounds t workers s more
line_rounds t workers (Post c) s more only x = absurd only
line_rounds t workers (said.Disturb d) s more only x = absurd only
line_rounds t workers (Noise u d bytes) s more only x = absurd only
line_rounds t workers (Settle rounds) s more only x =
    goes_rounds (is_settled t) t workers rounds s more (settles-go t workers rounds s more x)
line_rounds t workers (Wait rounds) s more only x =
    goes_rounds is_stopped t workers rounds s more (waits-go t workers rounds s more x)
line_rounds t workers Show s more only x = subst (AreRounds t workers s) (sym x) tt

rounds_append : (t : Network) (workers : ℕ) (s : Stage) (xs ys : List Stage) → AreRounds t workers s xs →
    AreRounds t workers (last_stage_of s xs) ys → AreRounds t workers s (xs ++ ys)
rounds_append t workers s [] ys one two = two
rounds_append t workers s (x ∷ xs) ys one two = (one.0, rounds_append t workers x xs ys one.1 two)

first_rounds : (t : Network) (workers : ℕ) (s : Stage) (xs ys : List Stage) → AreRounds t workers s (xs ++ ys) →
    AreRounds t workers s xs
first_rounds t workers s [] ys all = tt
first_rounds t workers s (x ∷ xs) ys all = (all.0, first_rounds t workers x xs ys all.1)

lines_rounds : (p : Plan) (how : How) (lines : List Line) (s : Stage) (more : List Stage) (text : List ℕ) →
    AllByRecursion MakesRounds lines → Prints p how lines s more text → AreRounds p.topology how.workers s more
lines_rounds p how [] s more text only prints = subst (AreRounds p.topology how.workers s) (sym prints.0) tt
lines_rounds p how (line ∷ lines) s more text only prints =
    subst (AreRounds p.topology how.workers s) (sym prints.7)
    (rounds_append p.topology how.workers s prints.0 prints.1
    (line_rounds p.topology how.workers line s prints.0 only.0 prints.4)
    (lines_rounds p how lines (last_stage_of s prints.0) prints.1 prints.3 only.1 prints.6))

-- Whole rounds

is_round : (t : Network) (lines : List Disturb) (workers : ℕ) (before after : Record) (o : Option NodeId) → o ≡ None →
    ComesTo t lines workers before after o → IsRoundBy t lines workers before after
is_round t lines workers before after None is comes = comes
is_round t lines workers before after (Some n) is comes = absurd (cc (is))

-- so many rounds are whole since a record; where there is one worker, they are such rounds with one worker
abbrev AreSince : Network → ℕ → Record → ℕ → Record → Record → Type 0
AreSince t workers since k old new =
    AreWholeSince t since k old new × (workers ≡ 1 → AreByOneSince t since k old new)

are_whole : (t : Network) (workers : ℕ) (since s : Stage) (rounds left : List Stage) → AreRounds t workers s rounds →
    AreWhole t since s rounds → AllByRecursion (λ (a : Stage). IsLawfulRecord t a.made) (rounds ++ left) →
    AreSince t workers since.made (length rounds) s.made (last_stage_of s rounds).made
are_whole t workers since s [] left are whole lawful = (refl, λ one. refl)
are_whole t workers since s (a ∷ rounds) left are whole lawful =
    let later = are_whole t workers since a rounds left are.1 whole.1 lawful.1 in (
      (s.lines, a.made, next, lawful.0.possible, later.0),
      λ one. (s.lines, a.made, next, by one, lawful.0.possible, later.1 one),
    )
  where
    round : IsRoundBy t s.lines workers s.made a.made
    round = is_round t s.lines workers s.made a.made a.stopped whole.0.ended are.0.comes

    next : IsWholeSince t s.lines since.made s.made a.made
    next = record { round = round.round; kept = whole.0.dropped; delivered = whole.0.delivered }

    by : workers ≡ 1 → IsRoundBy t s.lines 1 s.made a.made
    by one = subst (λ w. IsRoundBy t s.lines w s.made a.made) one round

-- After such a failure whole rounds restore what it hits, and with one worker as many as sweeps in order do.
pub failures-are_restored : FleetsRestoreSoon → OneWorkerRestoresInOrder → FailuresAreRestored
failures-are_restored soon in_order p more valid lawful how g f rest rounds left parts whole es leads = record {
  soon = soon p.topology es old failed.made new g (length rounds) valid all.0.possible leads rest.quiet rest.calm
      post all.1.0.possible since.0;
  in_order = λ one. in_order p.topology es old failed.made new g (length rounds) valid all.0.possible leads rest.quiet
      rest.calm post all.1.0.possible (since.1 one);
}
  where
    failed : Stage
    failed = with_failure p.topology g (failing f)

    old : Record
    old = (failing f).made

    new : Record
    new = (last_stage_of failed rounds).made

    post : IsPostOf p.topology (Fail g) old failed.made
    post = record { stamp = greatest_clock p.topology old + 1; doings = λ n. refl; dropped = λ u d. refl }

    -- the stage before the failure, that with it, and the rounds are records
    all : AllByRecursion (λ (a : Stage). IsLawfulRecord p.topology a.made) (failing f ∷ failed ∷ f.rounds)
    all =
        all_from (λ (a : Stage). IsLawfulRecord p.topology a.made) new_stage f.before (failed ∷ f.rounds)
        (subst (λ ss. AllByRecursion (λ (a : Stage). IsLawfulRecord p.topology a.made) (new_stage ∷ ss)) (sym f.parts)
        lawful)

    since : AreSince p.topology how.workers old (length rounds) failed.made new
    since =
        are_whole p.topology how.workers (failing f) failed rounds left
        (first_rounds p.topology how.workers failed rounds left
        (subst (AreRounds p.topology how.workers failed) (sym parts)
        (lines_rounds p how f.behind failed f.rounds f.later f.only f.ended)))
        whole (subst (AllByRecursion (λ (a : Stage). IsLawfulRecord p.topology a.made)) (sym parts) all.1.1)
