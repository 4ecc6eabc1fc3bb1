-- The run of a plan, and what is written of it.
use Rattle.std.proofs.Common.{◌≡◌, ℕ, zero, suc, List, [], ◌∷◌, ◌++◌, inl, inr, refl, sym, ap, ◌∙◌, subst, append-nil}
use Rattle.std.specs.{Prelude.{IfErr, OnOk, Option, None, Some, Result, Ok, Err}, List.AllByRecursion}
use Rattle.ason_base.specs.{declared.ids.CallNo.CallNo, declared.ids.NodeId.NodeId, Network.{IsTopology, Network}}
use Rattle.fleet.specs.Standing.{FleetState, StandsFor}
use Rattle.round_rules.specs.Records.{new_record}
use Rattle.plan_reader.specs.declared.lines.Line.TheVariants as said
use Rattle.plan_reader.specs.{declared.lines.Line.Line, declared.lines.Line.TheVariants.{Noise, Post, Settle, Show, Wait}, declared.plan.Plan.Plan, Plans.{ArePostable, calls_after_line}}
use Rattle.script_rules.specs.{ScriptLaws.AreSame, Lawful.IsLawfulRecord, Outputs.{How, Prints, script_of, settling_script}, Stages.{IsFull, LineMakes, Settles, Stage, WaitsRounds, is_settled, is_stopped, new_stage}}
use Rattle.script_rules.proofs.{Alone.one_list, Follows.lines_follow, Grows.scripts_grow, Stops.stops_full}
use Rattle.ason_main.specs.{RunLaws.RunLaws, declared.runner.run.Ran.Ran, declared.runner.stops.Stop.Stop, Outputs.{HasBeenCut, HasEnded, IsBegun, IsBrokenOff, IsRunCutShort, IsFleetKept, IsOneRun, IsOutput, IsRan, IsTheCut, IsTheOutput, end_stage, ran_of, silent_on}, Running.{AreBegun, AreBrokenOff, AreLed, AreRoundsOf, AreUnderWay, DoesAll, EndsIn, FailsIn, GoesOn, HasStood, HasWritten, HaveBegunRounds, RunState, StandsAtStage, StopsAll, running_at}}
use Rattle.ason_main.proofs.{Printing.{prints_one, silenced}, UnderWay.under_whole}

-- Lines that can be posted

postable_append : (t : Network) (q : List CallNo) (xs ys : List Line) → ArePostable t q xs →
    ((r : List CallNo) → ArePostable t r ys) → ArePostable t q (xs ++ ys)
postable_append t q [] ys first second = second q
postable_append t q (x ∷ xs) ys first second =
    (first.0, postable_append t (calls_after_line q x) xs ys first.1 second)

-- the whole script can be posted where the plan's lines can
pub postable_script : (rounds : ℕ) (p : Plan) → ArePostable p.topology [] p.lines →
    ArePostable p.topology [] (settling_script rounds p)
postable_script rounds p are =
    (tt, postable_append p.topology [] p.lines (Settle rounds ∷ Show ∷ []) are (λ r. (tt, (tt, tt))))

-- The run

-- what stations stood for is lawful
all_lawful : RunLaws → (t : Network) → IsTopology t → (more : List Stage) → AllByRecursion (HasStood t) more →
    AllByRecursion (λ (s : Stage). IsLawfulRecord t s.made) more
all_lawful laws t valid [] all = tt
all_lawful laws t valid (s ∷ more) all = (
  laws.lawful t s.made valid (laws.possible t s.lines all.0.fleet s.made all.0.stands),
  all_lawful laws t valid more all.1,
)

-- the fleet is new
pub record IsFleetNew (p : Plan) (f : FleetState) : Type 0 where
  pub stands : StandsFor p.topology [] f new_record
  pub postable : ArePostable p.topology [] p.lines

starts : (p : Plan) (f : FleetState) → IsFleetNew p f → StandsAtStage p.topology f new_stage
starts p f new = record { stands = new.stands; going = refl }

pub one_run : RunLaws → (p : Plan) (how : How) (f : FleetState) (lines : List Line) (more : List Stage)
    (text : List ℕ) → IsFleetNew p f → Prints p how lines new_stage more text →
    AllByRecursion (HasStood p.topology) more → IsOneRun p more
one_run laws p how f lines more text new prints stood = record {
  topology = new.stands.stations.valid;
  laws = lawful;
  grows = scripts_grow laws.rounds p how lines new_stage more text prints;
  restores = laws.restored p more new.stands.stations.valid lawful;
}
  where
    lawful : AllByRecursion (λ (s : Stage). IsLawfulRecord p.topology s.made) (new_stage ∷ more)
    lawful =
        all_lawful laws p.topology new.stands.stations.valid (new_stage ∷ more)
        (record { fleet = f; stands = new.stands }, stood)

-- One output

pub not_both : (o : Option NodeId) (n : NodeId) → o ≡ None → o ≡ Some n → ⊥
not_both o n none some = absurd (cc (none, some))

pub same_node : (o : Option NodeId) (m n : NodeId) → o ≡ Some m → o ≡ Some n → m ≡ n
same_node o m n a b = cc (a, b)

pub same_end : {xs ys : List Stage} {a b : List ℕ} → AreSame xs ys a b → (end_stage xs).stopped ≡ (end_stage ys).stopped
same_end same = ap (λ ss. (end_stage ss).stopped) same.stages

one_output : (p : Plan) (how : How) (more others : List Stage) (text other : List ℕ) → how.workers ≡ 1 →
    IsOneRun p others → Prints p how (script_of p) new_stage others other →
    Prints p how (script_of p) new_stage more text → AreSame others more other text
one_output p how more others text other one run that this =
    one_list p how (script_of p) new_stage others more other text one run.laws that this

pub the_output : (p : Plan) (how : How) (more : List Stage) (text : List ℕ) → IsOutput p how more text →
    IsTheOutput p how more text
the_output p how more text is = record {
  output = is;
  only = λ one others other that.
      one_output p how more others text other one that.one_run that.printed is.printed;
  never_stopped = λ one n others other that.
      not_both (end_stage more).stopped n is.ended
      (sym (same_end (one_output p how more others text other one that.one_run that.printed is.printed))
      ∙ that.stopped);
}

the_cut : (p : Plan) (how : How) (n : NodeId) (more : List Stage) (text : List ℕ) → IsRunCutShort p how n more text →
    IsTheCut p how n more text
the_cut p how n more text is = record {
  output = is;
  only = λ one m others other that.
      let same = one_output p how more others text other one that.one_run that.printed is.printed in
      (same_node (end_stage others).stopped m n that.stopped (same_end same ∙ is.stopped), same);
  never_ended = λ one others other that.
      not_both (end_stage others).stopped n that.ended
      (same_end (one_output p how more others text other one that.one_run that.printed is.printed) ∙ is.stopped);
}

-- What was written

pub kept : RunLaws → (p : Plan) (new : FleetState) (stop : Option NodeId) (more : List Stage) →
    AreLed p.topology new stop new_stage more → IsFleetKept p new (end_stage more)
kept laws p new stop more led = record {
  stands = led.stands;
  made = laws.made p.topology (end_stage more).lines new (end_stage more).made led.stands;
}

pub run_ended : RunLaws → (p : Plan) (how : How) (a b : RunState) → IsFleetNew p a.fleet →
    DoesAll p how (script_of p) a b None → HasEnded p how b.fleet a.written b.written
run_ended laws p how a b new does =
    let x = does.done new_stage (starts p a.fleet new) (postable_script 1000 p new.postable) in
    record {
      more = x.more;
      text = x.text;
      output = the_output p how x.more x.text (record {
        one_run = one_run laws p how a.fleet (script_of p) x.more x.text new x.printed x.led.stood;
        ended = x.led.stopped;
        printed = x.printed;
      });
      kept = kept laws p b.fleet None x.more x.led;
      written = x.written;
    }

pub run_cut : RunLaws → (p : Plan) (how : How) (n : NodeId) (a b : RunState) → IsFleetNew p a.fleet →
    DoesAll p how (script_of p) a b (Some n) → HasBeenCut p how n b.fleet a.written b.written
run_cut laws p how n a b new does =
    let x = does.done new_stage (starts p a.fleet new) (postable_script 1000 p new.postable) in
    record {
      more = x.more;
      text = x.text;
      output = the_cut p how n x.more x.text (record {
        one_run = one_run laws p how a.fleet (script_of p) x.more x.text new x.printed x.led.stood;
        stopped = x.led.stopped;
        full = subst (IsFull (end_stage x.more).made) x.led.stopped
            (stops_full p how (script_of p) new_stage x.more x.text tt x.printed);
        printed = x.printed;
      });
      kept = kept laws p b.fleet (Some n) x.more x.led;
      written = x.written;
    }

-- Runs that don't come to their end

-- the rounds that are behind the one in which memory was wanting
some_rounds : (t : Network) (workers rounds : ℕ) (s : Stage) (more : List Stage) →
    (HaveBegunRounds (is_settled t) t workers rounds s more → (k : ℕ) × Settles t workers k s more)
    × (HaveBegunRounds is_stopped t workers rounds s more → (k : ℕ) × WaitsRounds t workers k s more)
some_rounds t workers zero s more = (λ x. absurd x, λ x. absurd x)
some_rounds t workers (suc rounds) s [] = (λ x. (zero, tt), λ x. (zero, tt))
some_rounds t workers (suc rounds) s (a ∷ more) =
    let rest = some_rounds t workers rounds a more in (
      λ x. let y = rest.0 x.2 in (suc y.0, (x.0, x.1, y.1)),
      λ x. let y = rest.1 x.2 in (suc y.0, (x.0, x.1, y.1)),
    )

-- a line with fewer rounds makes them
fewer_rounds : (t : Network) (workers : ℕ) (line : Line) (s : Stage) (more : List Stage) →
    AreRoundsOf t workers line s more → (other : Line) × LineMakes t workers other s more
fewer_rounds t workers (Post c) s more x = absurd x
fewer_rounds t workers (said.Disturb d) s more x = absurd x
fewer_rounds t workers (Noise u d bytes) s more x = absurd x
fewer_rounds t workers (Settle rounds) s more x =
    let y = (some_rounds t workers rounds s more).0 x in (Settle y.0, y.1)
fewer_rounds t workers (Wait rounds) s more x =
    let y = (some_rounds t workers rounds s more).1 x in (Wait y.0, y.1)
fewer_rounds t workers Show s more x = absurd x

-- what was done beyond what is told is made by lines too
made_on : (p : Plan) (workers : ℕ) (left : List Line) (f : FleetState) (s : Stage) (more : List Stage) →
    GoesOn p.topology workers left f s more → (lines : List Line) × Prints p (silent_on workers) lines s more []
made_on p workers [] f s more still = ([], (still.0, refl))
made_on p workers (line ∷ lines) f s more (inl still) = ([], (still.0, refl))
made_on p workers (line ∷ lines) f s more (inr (inl made)) =
    (line ∷ [], prints_one p (silent_on workers) line s more [] made.0 refl)
made_on p workers (line ∷ lines) f s more (inr (inr round)) =
    let other = fewer_rounds p.topology workers line s more round.0 in
    (other.0 ∷ [], prints_one p (silent_on workers) other.0 s more [] other.1 refl)

-- where memory was wanting, what the fleet stands for is lawful
begun : RunLaws → (p : Plan) (how : How) (lines : List Line) (f : FleetState) (more since : List Stage)
    (text : List ℕ) → AreUnderWay p how lines f new_stage more since text → IsOneRun p (more ++ since) →
    IsBegun p how lines f text
begun laws p how lines f more since text under run = record {
  more = more;
  since = since;
  under = under;
  one_run = run;
  lawful = λ named r stands. laws.lawful p.topology r run.topology (laws.possible p.topology named f r stands);
  made = λ named r stands. laws.made p.topology named f r stands;
}

-- in a run of these lines
pub begun_run : RunLaws → (p : Plan) (how : How) (lines : List Line) (f new : FleetState) (text : List ℕ) →
    IsFleetNew p f → AreBegun p how lines new new_stage text → IsBegun p how lines new text
begun_run laws p how lines f new text is x =
    let z = x.under.printed in
    let on = made_on p how.workers z.1 new (end_stage x.more) x.since x.under.goes_on in
    begun laws p how lines new x.more x.since text x.under
    (one_run laws p (silent_on how.workers) f (z.0 ++ on.0) (x.more ++ x.since) [] is
    (lines_follow p (silent_on how.workers) z.0 on.0 new_stage x.more x.since [] []
    (silenced p how z.0 new_stage x.more text z.3) on.1) x.stood)

-- or behind all of them
pub begun_whole : RunLaws → (p : Plan) (how : How) (lines : List Line) (f : FleetState) (more : List Stage)
    (text : List ℕ) → IsOneRun p more → Prints p how lines new_stage more text →
    StandsFor p.topology (end_stage more).lines f (end_stage more).made → IsBegun p how lines f text
begun_whole laws p how lines f more text run printed stands =
    begun laws p how lines f more [] text (under_whole p how lines f new_stage more text printed stands)
    (subst (IsOneRun p) (sym (append-nil more)) run)

-- or before any was done
pub begun_none : RunLaws → (p : Plan) (how : How) (f : FleetState) → IsFleetNew p f → IsBegun p how (script_of p) f []
begun_none laws p how f new =
    begun_run laws p how (script_of p) f f [] new (record {
      more = [];
      since = [];
      under = record { printed = ([], script_of p, refl, (refl, refl)); goes_on = inl (refl, new.stands) };
      stood = tt;
    })

-- where the sink failed
broken_run : RunLaws → (p : Plan) (how : How) (f new : FleetState) (text : List ℕ) → IsFleetNew p f →
    AreBrokenOff p how (script_of p) new new_stage text → IsBrokenOff p how new text
broken_run laws p how f new text is x = record {
  broken = x;
  one_run = one_run laws p how f (x.before ++ x.line ∷ []) (x.earlier ++ x.more) (x.told ++ x.whole) is
      (lines_follow p how x.before (x.line ∷ []) new_stage x.earlier x.more x.told x.whole x.begun x.printed)
      x.led.stood;
  kept = kept laws p new None (x.earlier ++ x.more) x.led;
}

run_failed : RunLaws → (p : Plan) (how : How) (a b : RunState) → IsFleetNew p a.fleet →
    FailsIn p how (script_of p) a b → HasWritten a.written b.written (IsBrokenOff p how b.fleet)
run_failed laws p how a b new fails =
    let x = fails.part new_stage (starts p a.fleet new) (postable_script 1000 p new.postable) in
    (x.0, broken_run laws p how a.fleet b.fleet x.0 new x.1, x.2)

run_starved : RunLaws → (p : Plan) (how : How) (a b : RunState) → IsFleetNew p a.fleet →
    EndsIn p how (script_of p) a b → HasWritten a.written b.written (IsBegun p how (script_of p) b.fleet)
run_starved laws p how a b new ends =
    let x = ends.part new_stage (starts p a.fleet new) (postable_script 1000 p new.postable) in
    (x.0, begun_run laws p how (script_of p) a.fleet b.fleet x.0 new x.1, x.2)

-- How a run ended

pub is_ran : {K T : Type 0} (written : K → Option (List ℕ)) (faults : K → ℕ) → RunLaws → (p : Plan) (how : How)
    (f g : FleetState) (old new : K) → IsFleetNew p f → (r : Result T Stop) →
    OnOk r (DoesAll p how (script_of p) (running_at f (written old) (faults old))
    (running_at g (written new) (faults new)) None) →
    IfErr r (StopsAll p how (script_of p) (running_at f (written old) (faults old))
    (running_at g (written new) (faults new))) →
    IsRan written faults p how g old new (ran_of r)
is_ran written faults laws p how f g old new is (Ok x) done stops = (
  done.rises,
  run_ended laws p how (running_at f (written old) (faults old)) (running_at g (written new) (faults new)) is done,
)
is_ran written faults laws p how f g old new is (Err (Stop.AtLimit n)) done stops = (
  stops.rises,
  run_cut laws p how n (running_at f (written old) (faults old)) (running_at g (written new) (faults new)) is stops,
)
is_ran written faults laws p how f g old new is (Err Stop.Failed) done stops = (
  stops.rose,
  run_failed laws p how (running_at f (written old) (faults old)) (running_at g (written new) (faults new)) is stops,
)
is_ran written faults laws p how f g old new is (Err Stop.OutOfMemory) done stops = (
  stops.rises,
  run_starved laws p how (running_at f (written old) (faults old)) (running_at g (written new) (faults new)) is stops,
)

-- what holds of a script that was done
pub if_ended : {T : Type 0} (r : Result T Stop) (V : Type 0) → OnOk r V → ran_of r ≡ Ran.Ended → V
if_ended (Ok x) V holds ended = holds
if_ended (Err (Stop.AtLimit n)) V holds ended = absurd (cc (ended))
if_ended (Err Stop.Failed) V holds ended = absurd (cc (ended))
if_ended (Err Stop.OutOfMemory) V holds ended = absurd (cc (ended))
