-- The lines of a script that are done, and where they stop.
use Rattle.std.proofs.{Common.{◌≡◌, ◌<◌, ◌+◌, ℕ, List, [], ◌∷◌, ◌++◌, length, get_or, take, drop, refl, sym, ap, ◌∙◌, subst, append_assoc, le_refl}, KnownBytes.{Appends-nil, Appends-trans}, lemmas.List.{take-append-drop, take_more}}
use Rattle.std.specs.Prelude.{Option, None, Some, is_some}
use Rattle.ason_base.specs.{declared.ids.CallNo.CallNo, declared.ids.NodeId.NodeId, Network.Network}
use Rattle.fleet.specs.Standing.{FleetState}
use Rattle.plan_reader.specs.{declared.lines.Line.Line, declared.lines.Line.TheVariants.{Settle, Show}, declared.plan.Plan.Plan, Plans.{ArePostable, calls_after_line, calls_after_lines}}
use Rattle.script_rules.specs.{ScriptLaws.ScriptRoundLaws, Outputs.{How, settling_script}, Stages.{Stage, last_stage_of, world_at}}
use Rattle.script_rules.proofs.{Posts.posts_follow, Follows.lines_follow}
use Rattle.ason_main.specs.{declared.runner.stops.Stop.Stop, Running.{AreDone, CanDoAll, DoesAll, RunState, StopsAll, running_at}}
use Rattle.ason_main.proofs.{Printing.prints_stopped, Rounding.{led_at, led_both, led_none}, OneLine.{rose_later, two_rises}, UnderWay.{begun_early, begun_later, broken_early, broken_later}}

-- Calls that were posted

postable_first : (t : Network) (q : List CallNo) (xs ys : List Line) → ArePostable t q (xs ++ ys) → ArePostable t q xs
postable_first t q [] ys are = tt
postable_first t q (x ∷ xs) ys are = (are.0, postable_first t (calls_after_line q x) xs ys are.1)

postable_rest : (t : Network) (q : List CallNo) (xs ys : List Line) → ArePostable t q (xs ++ ys) →
    ArePostable t (calls_after_lines q xs) ys
postable_rest t q [] ys are = are
postable_rest t q (x ∷ xs) ys are = postable_rest t (calls_after_line q x) xs ys are.1

-- after the first lines the later ones can be posted
can_later : ScriptRoundLaws → (p : Plan) (how : How) (xs ys : List Line) (a b : RunState) (s : Stage) →
    (x : AreDone p how xs a b None s) → ArePostable p.topology (world_at p.topology s).posted (xs ++ ys) →
    ArePostable p.topology (world_at p.topology (last_stage_of s x.more)).posted ys
can_later laws p how xs ys a b s x can =
    subst (λ q. ArePostable p.topology q ys)
    (sym (posts_follow laws p how xs s x.more x.text x.printed (ap is_some x.led.stopped)))
    (postable_rest p.topology (world_at p.topology s).posted xs ys can)

-- Lines one after the other

pub does_none : (p : Plan) (how : How) (f : FleetState) (a : Option (List ℕ)) (n : ℕ) →
    DoesAll p how [] (running_at f a n) (running_at f a n) None
does_none p how f a n = record {
  done = λ s stands can. record {
    more = [];
    text = [];
    printed = (refl, refl);
    led = led_none p.topology f s stands;
    written = Appends-nil a;
  };
  rises = le_refl n;
}

pub does_both : ScriptRoundLaws → (p : Plan) (how : How) (xs ys : List Line) (a b c : RunState) (stop : Option NodeId) →
    DoesAll p how xs a b None → DoesAll p how ys b c stop → DoesAll p how (xs ++ ys) a c stop
does_both laws p how xs ys a b c stop first second = record {
  done = λ s stands can.
      let t = p.topology in
      let x = first.done s stands (postable_first t (world_at t s).posted xs ys can) in
      let z = last_stage_of s x.more in
      let y = second.done z (led_at t b.fleet s x.more x.led)
      (can_later laws p how xs ys a b s x can) in
      record {
        more = x.more ++ y.more;
        text = x.text ++ y.text;
        printed = lines_follow p how xs ys s x.more y.more x.text y.text x.printed y.printed;
        led = led_both t b.fleet c.fleet None stop s x.more y.more x.led y.led;
        written = Appends-trans a.written b.written c.written x.text y.text x.written y.written;
      };
  rises = two_rises a.faults b.faults c.faults first.rises second.rises;
}

pub stops_early : (p : Plan) (how : How) (xs ys : List Line) (a b : RunState) (e : Stop) → StopsAll p how xs a b e →
    StopsAll p how (xs ++ ys) a b e
stops_early p how xs ys a b (Stop.AtLimit k) stops = record {
  done = λ s stands can.
      let t = p.topology in
      let x = stops.done s stands (postable_first t (world_at t s).posted xs ys can) in
      record {
        more = x.more;
        text = x.text;
        printed = prints_stopped p how xs ys s x.more x.text k x.led.stopped x.printed;
        led = x.led;
        written = x.written;
      };
  rises = stops.rises;
}
stops_early p how xs ys a b Stop.Failed stops = record {
  rose = stops.rose;
  part = λ s stands can.
      let x = stops.part s stands (postable_first p.topology (world_at p.topology s).posted xs ys can) in
      (x.0, broken_early p how xs ys b.fleet s x.0 x.1, x.2);
}
stops_early p how xs ys a b Stop.OutOfMemory stops = record {
  part = λ s stands can.
      let x = stops.part s stands (postable_first p.topology (world_at p.topology s).posted xs ys can) in
      (x.0, begun_early p how xs ys b.fleet s x.0 x.1, x.2);
  rises = stops.rises;
}

pub stops_later : ScriptRoundLaws → (p : Plan) (how : How) (xs ys : List Line) (a b c : RunState) (e : Stop) →
    DoesAll p how xs a b None → StopsAll p how ys b c e → StopsAll p how (xs ++ ys) a c e
stops_later laws p how xs ys a b c (Stop.AtLimit k) first stops =
    does_both laws p how xs ys a b c (Some k) first stops
stops_later laws p how xs ys a b c Stop.Failed first stops = record {
  rose = rose_later a.faults b.faults c.faults first.rises stops.rose;
  part = λ s stands can.
      let t = p.topology in
      let x = first.done s stands (postable_first t (world_at t s).posted xs ys can) in
      let y = stops.part (last_stage_of s x.more) (led_at t b.fleet s x.more x.led)
      (can_later laws p how xs ys a b s x can) in (
        x.text ++ y.0,
        broken_later p how xs ys a b c.fleet s y.0 x y.1,
        Appends-trans a.written b.written c.written x.text y.0 x.written y.2,
      );
}
stops_later laws p how xs ys a b c Stop.OutOfMemory first stops = record {
  part = λ s stands can.
      let t = p.topology in
      let x = first.done s stands (postable_first t (world_at t s).posted xs ys can) in
      let y = stops.part (last_stage_of s x.more) (led_at t b.fleet s x.more x.led)
      (can_later laws p how xs ys a b s x can) in (
        x.text ++ y.0,
        begun_later p how xs ys c.fleet s x.more x.text y.0 x.printed x.led.stood y.1,
        Appends-trans a.written b.written c.written x.text y.0 x.written y.2,
      );
  rises = two_rises a.faults b.faults c.faults first.rises stops.rises;
}

-- after the first lines the later ones can be done
pub can_then : ScriptRoundLaws → (p : Plan) (how : How) (xs ys : List Line) (a b : RunState) →
    DoesAll p how xs a b None →
    CanDoAll p.topology a.fleet (xs ++ ys) → CanDoAll p.topology b.fleet ys
can_then laws p how xs ys a b does can =
    let t = p.topology in
    let s = can.stage in
    let x = does.done s can.stands (postable_first t (world_at t s).posted xs ys can.can) in
    record {
      stage = last_stage_of s x.more;
      stands = led_at t b.fleet s x.more x.led;
      can = can_later laws p how xs ys a b s x can.can;
    }

-- Lines by number

-- the first lines, the next one, and the others
parts : (lines : List Line) (i : ℕ) (d : Line) → i < length lines →
    take i lines ++ (get_or lines i d ∷ drop (i + 1) lines) ≡ lines
parts lines i d below =
    sym (append_assoc (take i lines) (get_or lines i d ∷ []) (drop (i + 1) lines))
    ∙ (ap (λ xs. xs ++ drop (i + 1) lines) (sym (take_more lines i d below)) ∙ take-append-drop (i + 1) lines)

-- the next line can be done
pub can_next : ScriptRoundLaws → (p : Plan) (how : How) (lines : List Line) (i : ℕ) (d : Line) (a b : RunState) →
    i < length lines → DoesAll p how (take i lines) a b None → CanDoAll p.topology a.fleet lines →
    CanDoAll p.topology b.fleet (get_or lines i d ∷ [])
can_next laws p how lines i d a b below does can =
    let rest = can_then laws p how (take i lines) (get_or lines i d ∷ drop (i + 1) lines) a b does
    (subst (CanDoAll p.topology a.fleet) (sym (parts lines i d below)) can) in
    record { stage = rest.stage; stands = rest.stands; can = (rest.can.0, tt) }

pub does_more : ScriptRoundLaws → (p : Plan) (how : How) (lines : List Line) (i : ℕ) (d : Line) (a b c : RunState) →
    i < length lines → DoesAll p how (take i lines) a b None → DoesAll p how (get_or lines i d ∷ []) b c None →
    DoesAll p how (take (i + 1) lines) a c None
does_more laws p how lines i d a b c below first second =
    subst (λ ls. DoesAll p how ls a c None) (sym (take_more lines i d below))
    (does_both laws p how (take i lines) (get_or lines i d ∷ []) a b c None first second)

pub stops_at : ScriptRoundLaws → (p : Plan) (how : How) (lines : List Line) (i : ℕ) (d : Line) (a b c : RunState)
    (e : Stop) → i < length lines → DoesAll p how (take i lines) a b None →
    StopsAll p how (get_or lines i d ∷ []) b c e → StopsAll p how lines a c e
stops_at laws p how lines i d a b c e below first stops =
    subst (λ ls. StopsAll p how ls a c e) (parts lines i d below)
    (stops_later laws p how (take i lines) (get_or lines i d ∷ drop (i + 1) lines) a b c e first
    (stops_early p how (get_or lines i d ∷ []) (drop (i + 1) lines) b c e stops))

-- The whole script

abbrev pub first_lines : ℕ → List Line
first_lines rounds = Settle rounds ∷ []

abbrev pub last_lines : ℕ → List Line
last_lines rounds = Settle rounds ∷ Show ∷ []

pub does_script : ScriptRoundLaws → (p : Plan) (how : How) (rounds : ℕ) (a b c d : RunState) (stop : Option NodeId) →
    DoesAll p how (first_lines rounds) a b None → DoesAll p how p.lines b c None →
    DoesAll p how (last_lines rounds) c d stop → DoesAll p how (settling_script rounds p) a d stop
does_script laws p how rounds a b c d stop first lines last =
    does_both laws p how (first_lines rounds) (p.lines ++ last_lines rounds) a b d stop first
    (does_both laws p how p.lines (last_lines rounds) b c d stop lines last)

pub stops_first : (p : Plan) (how : How) (rounds : ℕ) (a b : RunState) (e : Stop) →
    StopsAll p how (first_lines rounds) a b e → StopsAll p how (settling_script rounds p) a b e
stops_first p how rounds a b e stops =
    stops_early p how (first_lines rounds) (p.lines ++ last_lines rounds) a b e stops

pub stops_lines : ScriptRoundLaws → (p : Plan) (how : How) (rounds : ℕ) (a b c : RunState) (e : Stop) →
    DoesAll p how (first_lines rounds) a b None → StopsAll p how p.lines b c e →
    StopsAll p how (settling_script rounds p) a c e
stops_lines laws p how rounds a b c e first stops =
    stops_later laws p how (first_lines rounds) (p.lines ++ last_lines rounds) a b c e first
    (stops_early p how p.lines (last_lines rounds) b c e stops)

pub stops_last : ScriptRoundLaws → (p : Plan) (how : How) (rounds : ℕ) (a b c d : RunState) (e : Stop) →
    DoesAll p how (first_lines rounds) a b None → DoesAll p how p.lines b c None →
    StopsAll p how (last_lines rounds) c d e → StopsAll p how (settling_script rounds p) a d e
stops_last laws p how rounds a b c d e first lines stops =
    stops_later laws p how (first_lines rounds) (p.lines ++ last_lines rounds) a b d e first
    (stops_later laws p how p.lines (last_lines rounds) b c d e lines stops)
