-- One line of a script that is done, or where it stops.
use Rattle.std.proofs.{Common.{◌≡◌, ◌<◌, ◌≤◌, ℕ, true, false, List, [], ◌∷◌, length, take, inl, inr, refl, arith, le_refl}, KnownBytes.Appends-nil}
use Rattle.std.specs.{Prelude.{◌⊎◌, Option, None}, List.AllByRecursion, Io.KnownBytes.Appends}
use Rattle.ason_io.specs.Faults.{Rose}
use Rattle.fleet.specs.Standing.{FleetState}
use Rattle.plan_reader.specs.{declared.lines.Line.Line, declared.plan.Plan.Plan}
use Rattle.script_rules.specs.{Outputs.How, Stages.{Stage, last_stage_of}}
use Rattle.ason_main.specs.{declared.runner.stops.Stop.Stop, Running.{AreBegun, Does, DoesAll, EndsIn, FailsIn, GoesOn, HasStood, IsInRound, IsLeftAt, IsStill, LineTells, Stops, StopsAll, running_at}}
use Rattle.ason_main.proofs.Printing.{not_shown, prints_one, shown, stopped_shows}

-- Counts of faults

pub rose_later : (a b c : ℕ) → a ≤ b → Rose b c → Rose a c
rose_later a b c rises (inl more) = inl (omega arith)
rose_later a b c rises (inr last) = inr last

pub two_rises : (a b c : ℕ) → a ≤ b → b ≤ c → a ≤ c
two_rises a b c h k = omega arith

-- One line

-- the line is done, and its text was written
pub does_line :
    (p : Plan) (how : How) (line : Line) (f g : FleetState) (a b : Option (List ℕ)) (n m : ℕ) (text : List ℕ) →
    how.tables ≡ true → Does p.topology how.workers line f g None → LineTells p line g text → Appends a b text → n ≤ m →
    DoesAll p how (line ∷ []) (running_at f a n) (running_at g b m) None
does_line p how line f g a b n m text is does tells written rises = record {
  done = λ s stands can.
      let x = does s stands can.0 in
      let z = last_stage_of s x.more in
      record {
        more = x.more;
        text = text;
        printed = prints_one p how line s x.more text x.makes
            (shown how.tables p line z text is x.led.stopped (tells.tells z.lines z.made x.led.stands));
        led = x.led;
        written = written;
      };
  rises = rises;
}

-- where nothing is to be printed
pub does_silently : (p : Plan) (how : How) (line : Line) (f g : FleetState) (a : Option (List ℕ)) (n : ℕ) →
    how.tables ≡ false → Does p.topology how.workers line f g None →
    DoesAll p how (line ∷ []) (running_at f a n) (running_at g a n) None
does_silently p how line f g a n is does = record {
  done = λ s stands can.
      let x = does s stands can.0 in
      record {
        more = x.more;
        text = [];
        printed = prints_one p how line s x.more [] x.makes (not_shown how.tables p line (last_stage_of s x.more) is);
        led = x.led;
        written = Appends-nil a;
      };
  rises = le_refl n;
}

-- the sink failed while it took what the line prints
pub fails_line :
    (p : Plan) (how : How) (line : Line) (f g : FleetState) (a b : Option (List ℕ)) (n m : ℕ) (text : List ℕ) →
    how.tables ≡ true → Does p.topology how.workers line f g None → LineTells p line g text →
    (k : ℕ) × (k < length text) × Appends a b (take k text) → Rose n m →
    FailsIn p how (line ∷ []) (running_at f a n) (running_at g b m)
fails_line p how line f g a b n m text is does tells part rose = record {
  rose = rose;
  part = λ s stands can.
      let x = does s stands can.0 in
      let z = last_stage_of s x.more in (
        take part.0 text,
        record {
          before = [];
          line = line;
          left = [];
          parts = refl;
          earlier = [];
          told = [];
          begun = (refl, refl);
          more = x.more;
          whole = text;
          printed = prints_one p how line s x.more text x.makes
              (shown how.tables p line z text is x.led.stopped (tells.tells z.lines z.made x.led.stands));
          led = x.led;
          part = (part.0, part.1, refl);
        },
        part.2,
      );
}

-- of the line nothing is told
none_told : (p : Plan) (how : How) (line : Line) (f : FleetState) (s : Stage) (more : List Stage) →
    GoesOn p.topology how.workers (line ∷ []) f s more → AllByRecursion (HasStood p.topology) more →
    AreBegun p how (line ∷ []) f s []
none_told p how line f s more goes stood = record {
  more = [];
  since = more;
  under = record { printed = ([], line ∷ [], refl, (refl, refl)); goes_on = goes };
  stood = stood;
}

left_begun : (p : Plan) (how : How) (line : Line) (f : FleetState) (s : Stage) →
    IsLeftAt p.topology how.workers line f s → AreBegun p how (line ∷ []) f s []
left_begun p how line f s x = go x.left
  where
    go : IsStill p.topology f s x.more ⊎ IsInRound p.topology how.workers line f s x.more →
        AreBegun p how (line ∷ []) f s []
    go (inl still) = none_told p how line f s x.more (inl still) x.stood
    go (inr round) = none_told p how line f s x.more (inr (inr round)) x.stood

-- the line isn't done, and nothing was written
pub stops_line : (p : Plan) (how : How) (line : Line) (f g : FleetState) (a : Option (List ℕ)) (n : ℕ) (e : Stop) →
    Stops p.topology how.workers line f g e → StopsAll p how (line ∷ []) (running_at f a n) (running_at g a n) e
stops_line p how line f g a n (Stop.AtLimit k) stops = record {
  done = λ s stands can.
      let x = stops s stands can.0 in
      record {
        more = x.more;
        text = [];
        printed = prints_one p how line s x.more [] x.makes
            (stopped_shows how.tables p line (last_stage_of s x.more) k x.led.stopped);
        led = x.led;
        written = Appends-nil a;
      };
  rises = le_refl n;
}
stops_line p how line f g a n Stop.Failed stops = absurd stops
stops_line p how line f g a n Stop.OutOfMemory stops = record {
  part = λ s stands can. (
    [],
    left_begun p how line g s (stops s stands),
    Appends-nil a,
  );
  rises = le_refl n;
}

-- the line is done, and memory was wanting for its text
pub ends_line : (p : Plan) (how : How) (line : Line) (f g : FleetState) (a : Option (List ℕ)) (n : ℕ) →
    Does p.topology how.workers line f g None → EndsIn p how (line ∷ []) (running_at f a n) (running_at g a n)
ends_line p how line f g a n does = record {
  part = λ s stands can.
      let x = does s stands can.0 in (
        [],
        none_told p how line g s x.more (inr (inl (x.makes, x.led.stands))) x.led.stood,
        Appends-nil a,
      );
  rises = le_refl n;
}
