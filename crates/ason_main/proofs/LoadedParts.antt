-- The parts of a generated script, one after the other.
use Rattle.std.proofs.{Common.{◌≡◌, ◌∙◌, ℕ, List, [], ◌∷◌, ◌++◌, inl, inr, refl, sym, ap, subst, append-nil, append_assoc, arith}, lemmas.List.Concat.flat_map-append}
use Rattle.std.specs.{Prelude.{Option, None, Some}, List.AllByRecursion}
use Rattle.ason_base.specs.{declared.ids.NodeId.NodeId, declared.calls.TableRows.TableRows}
use Rattle.ason_io.specs.Faults.{Rose}
use Rattle.fleet.specs.Standing.{FleetState, StandsFor}
use Rattle.round_rules.specs.Records.{new_record}
use Rattle.load_plan.specs.{PhaseTexts.phase_text, declared.phases.LoadPhase.LoadPhase}
use Rattle.plan_reader.specs.{declared.lines.Line.Line, declared.plan.Plan.Plan, Plans.ArePostable}
use Rattle.script_rules.specs.{Outputs.{Prints, UnlessStopped}, Stages.{Stage, last_stage_of, new_stage, world_at}}
use Rattle.script_rules.proofs.Follows.{last_append}
use Rattle.ason_main.specs.{declared.runner.stops.Stop.Stop, Loads.{AreLoaded, LoadPart, PartsPrint, PhasePrints, ShowsPhase, StopsLoad, TellsMore, TellsPhase, lines_in_parts, phase_part}, Outputs.silent_on, Running.{AreBegun, DoesAll, HasStood, IsFleetTable, StopsAll, running_at}}
use Rattle.ason_main.proofs.{OneLoad.whole_lines, Printing.prints_nothing, Rounding.{led_at, led_both, led_none}, SurveyRuns.nothing_printed, UnderWay.{begun_early, begun_later, under_whole}}

-- Parts after parts

pub parts_follow : (p : Plan) (xs ys : List LoadPart) (s : Stage) (first others : List Stage) (here later : List ℕ) →
    PartsPrint p xs s first here → PartsPrint p ys (last_stage_of s first) others later →
    PartsPrint p (xs ++ ys) s (first ++ others) (here ++ later)
parts_follow p [] ys s first others here later one two =
    subst (λ (ss : List Stage). PartsPrint p ys s (ss ++ others) (here ++ later)) (sym one.0)
    (subst (λ (text : List ℕ). PartsPrint p ys s others (text ++ later)) (sym one.1)
    (subst (λ (ss : List Stage). PartsPrint p ys (last_stage_of s ss) others later) one.0 two))
parts_follow p (x ∷ xs) ys s first others here later one two = (
  one.0,
  one.1 ++ others,
  one.2,
  one.3 ++ later,
  one.4,
  one.5,
  parts_follow p xs ys (last_stage_of s one.0) one.1 others one.3 later one.6
      (subst (λ (z : Stage). PartsPrint p ys z others later) (ap (last_stage_of s) one.7 ∙ last_append s one.0 one.1)
      two),
  ap (λ (ss : List Stage). ss ++ others) one.7 ∙ append_assoc one.0 one.1 others,
  ap (λ (text : List ℕ). text ++ later) one.8 ∙ append_assoc one.2 one.3 later,
)

part_prints : (p : Plan) (x : LoadPart) (s : Stage) (more : List Stage) (text : List ℕ) →
    Prints p (silent_on 1) x.lines s more [] → PhasePrints p x.phase (last_stage_of s more) text →
    PartsPrint p (x ∷ []) s more text
part_prints p x s more text lines phase =
    (more, [], text, [], lines, phase, (refl, refl), sym (append-nil more), sym (append-nil text))

-- once the run is stopped nothing is printed
phase_nothing : (p : Plan) (phase : Option LoadPhase) (s : Stage) (k : NodeId) → s.stopped ≡ Some k →
    PhasePrints p phase s []
phase_nothing p None s k stopped = refl
phase_nothing p (Some phase) s k stopped =
    subst (λ o. UnlessStopped o (ShowsPhase p phase (world_at p.topology s) []) []) (sym stopped) refl

parts_nothing : (p : Plan) (parts : List LoadPart) (s : Stage) (k : NodeId) → s.stopped ≡ Some k →
    PartsPrint p parts s [] []
parts_nothing p [] s k stopped = (refl, refl)
parts_nothing p (x ∷ parts) s k stopped = (
  [],
  [],
  [],
  [],
  prints_nothing p (silent_on 1) x.lines s k stopped,
  phase_nothing p x.phase s k stopped,
  parts_nothing p parts s k stopped,
  refl,
  refl,
)

-- the rows of the stations, in order, give the line
pub tells_phase : (p : Plan) (phase : LoadPhase) (f : FleetState) (rows : TableRows) (text : List ℕ) →
    IsFleetTable f rows → text ≡ phase_text phase rows.calls → TellsPhase p phase f text
tells_phase p phase f rows text table is = record {
  tells = λ lines r stands. (rows, table p.topology lines r stands, is);
}

-- Parts that are done from the start on

pub loaded_none : (p : Plan) (f : FleetState) (text : List ℕ) → text ≡ [] → StandsFor p.topology [] f new_record →
    AreLoaded p [] f None text
loaded_none p f text is stands = record {
  more = [];
  printed = (refl, is);
  led = led_none p.topology f new_stage (record { stands = stands; going = refl });
}

-- the stage at which the parts end
abbrev pub stage_of : {p : Plan} {parts : List LoadPart} {f : FleetState} {stop : Option NodeId} {text : List ℕ} →
    AreLoaded p parts f stop text → Stage
stage_of x = last_stage_of new_stage x.more

-- lines that can be posted then
abbrev pub CanFollow : (p : Plan) (parts : List LoadPart) (f : FleetState) (text : List ℕ) →
    AreLoaded p parts f None text → List Line → Type 0
CanFollow p parts f text x lines = ArePostable p.topology (world_at p.topology (stage_of x)).posted lines

-- at the start
pub can_begin : (p : Plan) (f : FleetState) (text : List ℕ) (is : text ≡ [])
    (stands : StandsFor p.topology [] f new_record)
    (lines : List Line) → ArePostable p.topology [] lines → CanFollow p [] f text (loaded_none p f text is stands) lines
unfolding loaded_none
can_begin p f text is stands lines can = can

-- memory was wanting when lines were done
begun_lines : (p : Plan) (lines : List Line) (f : FleetState) (s : Stage) (more : List Stage) (text : List ℕ) →
    Prints p (silent_on 1) lines s more text →
    StandsFor p.topology (last_stage_of s more).lines f (last_stage_of s more).made →
    AllByRecursion (HasStood p.topology) more → AreBegun p (silent_on 1) lines f s text
begun_lines p lines f s more text printed stands stood = record {
  more = more;
  since = [];
  under = under_whole p (silent_on 1) lines f s more text printed stands;
  stood = subst (AllByRecursion (HasStood p.topology)) (sym (append-nil more)) stood;
}

-- a part more, up to a stage that is stopped so
module _ (p : Plan) (parts : List LoadPart) (x : LoadPart) (a b : FleetState) (before : List ℕ)
    (so_far : AreLoaded p parts a None before) (can : CanFollow p parts a before so_far x.lines) where
  one_more : (stop : Option NodeId) (line : List ℕ) →
      DoesAll p (silent_on 1) x.lines (running_at a None 0) (running_at b None 0) stop →
      ((s : Stage) → StandsFor p.topology s.lines b s.made → s.stopped ≡ stop → PhasePrints p x.phase s line) →
      AreLoaded p (parts ++ x ∷ []) b stop (before ++ line)
  one_more stop line does prints =
      let z = stage_of so_far in
      let y = does.done z (led_at p.topology a new_stage so_far.more so_far.led) can in
      let none = nothing_printed p 1 x.lines z y.more y.text y.printed in
      record {
        more = so_far.more ++ y.more;
        printed = parts_follow p parts (x ∷ []) new_stage so_far.more y.more before line so_far.printed
            (part_prints p x z y.more line (subst (Prints p (silent_on 1) x.lines z y.more) none y.printed)
            (prints (last_stage_of z y.more) y.led.stands y.led.stopped));
        led = led_both p.topology a b None stop new_stage so_far.more y.more so_far.led y.led;
      }

  -- the run is stopped in its lines
  cut : (n : NodeId) → DoesAll p (silent_on 1) x.lines (running_at a None 0) (running_at b None 0) (Some n) →
      AreLoaded p (parts ++ x ∷ []) b (Some n) before
  cut n does =
      subst (AreLoaded p (parts ++ x ∷ []) b (Some n)) (append-nil before)
      (one_more (Some n) [] does (λ s stands stopped. phase_nothing p x.phase s n stopped))

  not_risen : Rose 0 0 → ⊥
  not_risen (inl less) = absurd (omega (arith, less))
  not_risen (inr last) = absurd (omega (arith, last))

  -- memory was wanting in its lines
  begun_part : (text : List ℕ) → AreBegun p (silent_on 1) x.lines b (stage_of so_far) text →
      AreBegun p (silent_on 1) (lines_in_parts (parts ++ x ∷ [])) b new_stage []
  begun_part text y =
      subst (λ ls. AreBegun p (silent_on 1) ls b new_stage [])
      (sym (flat_map-append (λ (z : LoadPart). z.lines) parts (x ∷ [])))
      (begun_later p (silent_on 1) (lines_in_parts parts) (x.lines ++ []) b new_stage so_far.more [] []
      (whole_lines p parts new_stage so_far.more before so_far.printed) so_far.led.stood
      (begun_early p (silent_on 1) x.lines [] b (stage_of so_far) []
      (subst (AreBegun p (silent_on 1) x.lines b (stage_of so_far))
      (nothing_printed p 1 y.under.printed.0 (stage_of so_far) y.more text y.under.printed.3) y)))

  -- its lines aren't done
  pub stops_part : (e : Stop) → StopsAll p (silent_on 1) x.lines (running_at a None 0) (running_at b None 0) e →
      StopsLoad p (parts ++ x ∷ []) b before e
  stops_part (Stop.AtLimit n) stops = cut n stops
  stops_part Stop.Failed stops = absurd (not_risen stops.rose)
  stops_part Stop.OutOfMemory stops =
      let y = stops.part (stage_of so_far) (led_at p.topology a new_stage so_far.more so_far.led) can in
      begun_part y.0 y.1

  -- they are, and memory is wanting for the line behind them
  pub starved_part : DoesAll p (silent_on 1) x.lines (running_at a None 0) (running_at b None 0) None →
      AreBegun p (silent_on 1) (lines_in_parts (parts ++ x ∷ [])) b new_stage []
  starved_part does =
      let z = stage_of so_far in
      let y = does.done z (led_at p.topology a new_stage so_far.more so_far.led) can in
      begun_part y.text (begun_lines p x.lines b z y.more y.text y.printed y.led.stands y.led.stood)

  -- they are, and no line is behind them
  pub last_part : x.phase ≡ None → DoesAll p (silent_on 1) x.lines (running_at a None 0) (running_at b None 0) None →
      AreLoaded p (parts ++ x ∷ []) b None before
  last_part none does =
      subst (AreLoaded p (parts ++ x ∷ []) b None) (append-nil before)
      (one_more None [] does (λ s stands stopped. subst (λ o. PhasePrints p o s []) (sym none) refl))

-- they are, and the line of the phase is told
pub one_part : (p : Plan) (parts : List LoadPart) (lines : List Line) (phase : LoadPhase) (a b : FleetState)
    (before after : List ℕ) (x : AreLoaded p parts a None before) → CanFollow p parts a before x lines →
    DoesAll p (silent_on 1) lines (running_at a None 0) (running_at b None 0) None → TellsMore p phase b before after →
    AreLoaded p (parts ++ phase_part lines phase ∷ []) b None after
one_part p parts lines phase a b before after x can does told =
    subst (AreLoaded p (parts ++ phase_part lines phase ∷ []) b None) (sym told.behind)
    (one_more p parts (phase_part lines phase) a b before x can None told.line does
    (λ s stands stopped. subst (λ o. UnlessStopped o (ShowsPhase p phase (world_at p.topology s) told.line) told.line)
    (sym stopped) (told.tells.tells s.lines s.made stands)))

-- memory was wanting when they were done
pub loaded_begun : (p : Plan) (parts : List LoadPart) (f : FleetState) (stop : Option NodeId) (text : List ℕ) →
    AreLoaded p parts f stop text → AreBegun p (silent_on 1) (lines_in_parts parts) f new_stage []
loaded_begun p parts f stop text x =
    begun_lines p (lines_in_parts parts) f new_stage x.more [] (whole_lines p parts new_stage x.more text x.printed)
    x.led.stands x.led.stood

-- once the run is stopped the later parts make nothing
pub loaded_stays : (p : Plan) (xs ys : List LoadPart) (f : FleetState) (n : NodeId) (text : List ℕ) →
    AreLoaded p xs f (Some n) text → AreLoaded p (xs ++ ys) f (Some n) text
loaded_stays p xs ys f n text x = record {
  more = x.more;
  printed = subst (λ ss. PartsPrint p (xs ++ ys) new_stage ss text) (append-nil x.more)
      (subst (PartsPrint p (xs ++ ys) new_stage (x.more ++ [])) (append-nil text)
      (parts_follow p xs ys new_stage x.more [] text [] x.printed
      (parts_nothing p ys (stage_of x) n x.led.stopped)));
  led = x.led;
}

pub stops_stays : (p : Plan) (xs ys : List LoadPart) (f : FleetState) (text : List ℕ) (e : Stop) →
    StopsLoad p xs f text e → StopsLoad p (xs ++ ys) f text e
stops_stays p xs ys f text (Stop.AtLimit n) stops = loaded_stays p xs ys f n text stops
stops_stays p xs ys f text Stop.Failed stops = absurd stops
stops_stays p xs ys f text Stop.OutOfMemory stops =
    subst (λ ls. AreBegun p (silent_on 1) ls f new_stage [])
    (sym (flat_map-append (λ (z : LoadPart). z.lines) xs ys))
    (begun_early p (silent_on 1) (lines_in_parts xs) (lines_in_parts ys) f new_stage [] stops)
