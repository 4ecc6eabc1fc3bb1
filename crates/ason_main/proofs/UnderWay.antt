-- Lines that are under way where memory was wanting, or the sink failed.
use Rattle.std.proofs.{Common.{ℕ, List, [], ◌∷◌, ◌++◌, take, inl, refl, sym, ap, ◌∙◌, subst, append-nil, append_assoc}, ByRecursion.All-append}
use Rattle.std.specs.{Prelude.None, List.AllByRecursion}
use Rattle.ason_base.specs.Network.{Network}
use Rattle.fleet.specs.Standing.{FleetState, StandsFor}
use Rattle.plan_reader.specs.{declared.lines.Line.Line, declared.plan.Plan.Plan}
use Rattle.script_rules.specs.{Outputs.{How, Prints}, Stages.{Stage, last_stage_of}}
use Rattle.script_rules.proofs.Follows.{last_append, lines_follow}
use Rattle.ason_main.specs.Running.{AreBegun, AreBrokenOff, AreDone, AreLed, AreUnderWay, GoesOn, HasStood, RunState}
use Rattle.ason_main.proofs.Rounding.{led_both}

-- Want of memory

-- it came when all of the lines were done
pub under_whole : (p : Plan) (how : How) (lines : List Line) (f : FleetState) (s : Stage) (more : List Stage)
    (text : List ℕ) → Prints p how lines s more text →
    StandsFor p.topology (last_stage_of s more).lines f (last_stage_of s more).made →
    AreUnderWay p how lines f s more [] text
under_whole p how lines f s more text printed stands =
    record { printed = (lines, [], append-nil lines, printed); goes_on = (refl, stands) }

-- or in one of the later lines
under_later : (p : Plan) (how : How) (xs ys : List Line) (new : FleetState) (s : Stage) (ss more since : List Stage)
    (here text : List ℕ) → Prints p how xs s ss here →
    AreUnderWay p how ys new (last_stage_of s ss) more since text →
    AreUnderWay p how (xs ++ ys) new s (ss ++ more) since (here ++ text)
under_later p how xs ys new s ss more since here text printed y =
    let z = y.printed in
    record {
      printed = (
        xs ++ z.0,
        z.1,
        append_assoc xs z.0 z.1 ∙ ap (λ ls. xs ++ ls) z.2,
        lines_follow p how xs z.0 s ss more here text printed z.3,
      );
      goes_on = subst (λ (a : Stage). GoesOn p.topology how.workers z.1 new a since) (sym (last_append s ss more))
          y.goes_on;
    }

-- the same where stations stood for each stage
pub begun_later : (p : Plan) (how : How) (xs ys : List Line) (new : FleetState) (s : Stage) (ss : List Stage)
    (here text : List ℕ) → Prints p how xs s ss here → AllByRecursion (HasStood p.topology) ss →
    AreBegun p how ys new (last_stage_of s ss) text → AreBegun p how (xs ++ ys) new s (here ++ text)
begun_later p how xs ys new s ss here text printed stood y = record {
  more = ss ++ y.more;
  since = y.since;
  under = under_later p how xs ys new s ss y.more y.since here text printed y.under;
  stood = subst (AllByRecursion (HasStood p.topology)) (sym (append_assoc ss y.more y.since))
      (All-append (HasStood p.topology) ss (y.more ++ y.since) stood y.stood);
}

-- or of the earlier ones
goes_longer : (t : Network) (workers : ℕ) (left ys : List Line) (f : FleetState) (s : Stage) (more : List Stage) →
    GoesOn t workers left f s more → GoesOn t workers (left ++ ys) f s more
goes_longer t workers [] [] f s more still = still
goes_longer t workers [] (y ∷ ys) f s more still = inl still
goes_longer t workers (line ∷ lines) ys f s more goes = goes

-- the same where stations stood for each stage
pub begun_early : (p : Plan) (how : How) (xs ys : List Line) (new : FleetState) (s : Stage) (text : List ℕ) →
    AreBegun p how xs new s text → AreBegun p how (xs ++ ys) new s text
begun_early p how xs ys new s text x =
    let z = x.under.printed in
    record {
      more = x.more;
      since = x.since;
      under = record {
        printed = (z.0, z.1 ++ ys, sym (append_assoc z.0 z.1 ys) ∙ ap (λ ls. ls ++ ys) z.2, z.3);
        goes_on = goes_longer p.topology how.workers z.1 ys new (last_stage_of s x.more) x.since x.under.goes_on;
      };
      stood = x.stood;
    }

-- A sink that failed

-- in one of the later lines
pub broken_later : (p : Plan) (how : How) (xs ys : List Line) (a b : RunState) (new : FleetState) (s : Stage)
    (text : List ℕ) (x : AreDone p how xs a b None s) → AreBrokenOff p how ys new (last_stage_of s x.more) text →
    AreBrokenOff p how (xs ++ ys) new s (x.text ++ text)
broken_later p how xs ys a b new s text x y = record {
  before = xs ++ y.before;
  line = y.line;
  left = y.left;
  parts = append_assoc xs y.before (y.line ∷ y.left) ∙ ap (λ ls. xs ++ ls) y.parts;
  earlier = x.more ++ y.earlier;
  told = x.text ++ y.told;
  begun = lines_follow p how xs y.before s x.more y.earlier x.text y.told x.printed y.begun;
  more = y.more;
  whole = y.whole;
  printed = subst (λ (z : Stage). Prints p how (y.line ∷ []) z y.more y.whole) (sym (last_append s x.more y.earlier))
      y.printed;
  led = subst (AreLed p.topology new None s) (sym (append_assoc x.more y.earlier y.more))
      (led_both p.topology b.fleet new None None s x.more (y.earlier ++ y.more) x.led y.led);
  part = (
    y.part.0,
    y.part.1,
    ap (λ zs. x.text ++ zs) y.part.2 ∙ sym (append_assoc x.text y.told (take y.part.0 y.whole)),
  );
}

-- or of the earlier ones
pub broken_early : (p : Plan) (how : How) (xs ys : List Line) (new : FleetState) (s : Stage) (text : List ℕ) →
    AreBrokenOff p how xs new s text → AreBrokenOff p how (xs ++ ys) new s text
broken_early p how xs ys new s text x = record {
  before = x.before;
  line = x.line;
  left = x.left ++ ys;
  parts = sym (append_assoc x.before (x.line ∷ x.left) ys) ∙ ap (λ ls. ls ++ ys) x.parts;
  earlier = x.earlier;
  told = x.told;
  begun = x.begun;
  more = x.more;
  whole = x.whole;
  printed = x.printed;
  led = x.led;
  part = x.part;
}
