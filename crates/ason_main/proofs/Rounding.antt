-- Rounds that a line makes, one after the other.
use Rattle.std.proofs.{Common.{◌≡◌, ◌<◌, ◌≤◌, ◌+◌, ◌-◌, ℕ, zero, suc, Bool, true, false, List, [], ◌∷◌, ◌++◌, refl, sym, ap, ◌∙◌, subst, append-nil, append_assoc, arith}, ByRecursion.All-append}
use Rattle.std.specs.{Prelude.{Option, None, Some, Ok, Err}, List.AllByRecursion}
use Rattle.ason_base.specs.{declared.ids.NodeId.NodeId, Network.Network}
use Rattle.fleet.specs.{declared.fleet.RoundFault.RoundFault, Rounds.{Rounds, StarvesRound}, Standing.{FleetState, StandsFor}}
use Rattle.fleet.specs.declared.fleet.RoundFault.TheVariants as round
use Rattle.script_rules.specs.Stages.{IsNextRound, Stage, is_stopped, last_stage_of}
use Rattle.script_rules.proofs.Follows.{last_append}
use Rattle.ason_main.specs.Running.{AreLed, HasStood, StandsAtStage}

-- Stages

-- the last of later stages is the last of all
pub led_both : (t : Network) (now new : FleetState) (o stop : Option NodeId) (s : Stage) (xs ys : List Stage) →
    AreLed t now o s xs → AreLed t new stop (last_stage_of s xs) ys → AreLed t new stop s (xs ++ ys)
led_both t now new o stop s xs ys one two = record {
  stands = subst (λ (z : Stage). StandsFor t z.lines new z.made) (sym (last_append s xs ys)) two.stands;
  stopped = ap (λ (z : Stage). z.stopped) (last_append s xs ys) ∙ two.stopped;
  stood = All-append (HasStood t) xs ys one.stood two.stood;
}

-- the stations stand where they stood
pub led_none : (t : Network) (f : FleetState) (s : Stage) → StandsAtStage t f s → AreLed t f None s []
led_none t f s at = record { stands = at.stands; stopped = at.going; stood = tt }

-- one stage more
pub led_one : (t : Network) (new : FleetState) (s a : Stage) → StandsFor t a.lines new a.made →
    AreLed t new a.stopped s (a ∷ [])
led_one t new s a stands = record {
  stands = stands;
  stopped = refl;
  stood = (record { fleet = new; stands = stands }, tt);
}

pub led_at : (t : Network) (f : FleetState) (s : Stage) (more : List Stage) → AreLed t f None s more →
    StandsAtStage t f (last_stage_of s more)
led_at t f s more led = record { stands = led.stands; going = led.stopped }

-- One line's rounds

pub one_less : (count i : ℕ) → i < count → count - i ≡ suc (count - (i + 1))
one_less count i h = omega arith

-- what a line makes of a stage in so many rounds: all that it makes, or some rounds behind which one more begins
abbrev pub Makings : Type 1
Makings = Bool → ℕ → Stage → List Stage → Type 0

-- These stages were made, and with as many rounds as are left it is all that the line makes, or some of it.
pub record IsMadeSoFar (Makes : Makings) (t : Network) (rounds made : ℕ) (new : FleetState) (s : Stage)
    : Type 0 where
  pub more : List Stage
  pub led : AreLed t new None s more
  pub goes_on : (whole : Bool) (later : List Stage) → Makes whole (rounds - made) (last_stage_of s more) later →
      Makes whole rounds s (more ++ later)

pub record IsMaking (Makes : Makings) (t : Network) (rounds made : ℕ) (old new : FleetState) : Type 0 where
  pub so_far : (s : Stage) → StandsAtStage t old s → IsMadeSoFar Makes t rounds made new s

-- what the line makes of a stage, up to one that is stopped so
pub record IsStageMade (Makes : Makings) (t : Network) (rounds : ℕ) (new : FleetState) (stop : Option NodeId)
    (s : Stage) : Type 0 where
  pub more : List Stage
  pub makes : Makes true rounds s more
  pub led : AreLed t new stop s more

-- some rounds of it, and memory was wanting in the next one
pub record IsRoundStarved (Makes : Makings) (t : Network) (rounds : ℕ) (new : FleetState) (s : Stage)
    : Type 0 where
  pub more : List Stage
  pub begun : Makes false rounds s more
  pub starves : StarvesRound t (last_stage_of s more).lines (last_stage_of s more).made new
  pub stood : AllByRecursion (HasStood t) more

module _ (Makes : Makings) (t : Network) (workers : ℕ) (none : (s : Stage) → Makes true zero s [])
    (stays : (k : ℕ) (s : Stage) → is_stopped s ≡ true → Makes true k s []) where
  pub making_begins : (rounds : ℕ) (f : FleetState) → IsMaking Makes t rounds 0 f f
  making_begins rounds f = record {
    so_far = λ s at. record {
      more = [];
      led = led_none t f s at;
      goes_on = λ whole later x. subst (λ k. Makes whole k s later) all x;
    };
  }
    where
      all : rounds - 0 ≡ rounds
      all = omega arith

  -- all rounds were made
  pub making_ends : (rounds i : ℕ) (old new : FleetState) → rounds ≤ i → IsMaking Makes t rounds i old new →
      (s : Stage) → StandsAtStage t old s → IsStageMade Makes t rounds new None s
  making_ends rounds i old new past is s at =
      let x = is.so_far s at in
      let left : rounds - i ≡ 0 = omega arith in
      record {
        more = x.more ++ [];
        makes = x.goes_on true []
            (subst (λ k. Makes true k (last_stage_of s x.more) []) (sym left) (none (last_stage_of s x.more)));
        led = subst (AreLed t new None s) (sym (append-nil x.more)) x.led;
      }

  -- no more are to be made
  pub making_rests : (rounds i : ℕ) (old new : FleetState) → IsMaking Makes t rounds i old new →
      ((s : Stage) → StandsAtStage t new s → Makes true (rounds - i) s []) →
      (s : Stage) → StandsAtStage t old s → IsStageMade Makes t rounds new None s
  making_rests rounds i old new is rests s at =
      let x = is.so_far s at in
      record {
        more = x.more ++ [];
        makes = x.goes_on true [] (rests (last_stage_of s x.more) (led_at t new s x.more x.led));
        led = subst (AreLed t new None s) (sym (append-nil x.more)) x.led;
      }

  -- of a stage for which the stations stand a round begins, and another stage may follow
  pub record Steps (now : FleetState) : Type 0 where
    pub begins : (k : ℕ) (s : Stage) → StandsAtStage t now s → Makes false (suc k) s []
    pub follows : (whole : Bool) (k : ℕ) (s a : Stage) (later : List Stage) → StandsAtStage t now s →
        IsNextRound t workers s a → Makes whole k a later → Makes whole (suc k) s (a ∷ later)

  -- one round more, to this stage
  one_more : (whole : Bool) (rounds i : ℕ) (now : FleetState) (s : Stage) → i < rounds → Steps now →
      (x : IsMadeSoFar Makes t rounds i now s) (a : Stage) → IsNextRound t workers (last_stage_of s x.more) a →
      (later : List Stage) → Makes whole (rounds - (i + 1)) a later →
      Makes whole rounds s ((x.more ++ a ∷ []) ++ later)
  one_more whole rounds i now s below steps x a next later makes =
      subst (Makes whole rounds s) (sym (append_assoc x.more (a ∷ []) later))
      (x.goes_on whole (a ∷ later)
      (subst (λ k. Makes whole k (last_stage_of s x.more) (a ∷ later)) (sym (one_less rounds i below))
      (steps.follows whole (rounds - (i + 1)) (last_stage_of s x.more) a later (led_at t now s x.more x.led) next
      makes)))

  pub making_next : (rounds i count : ℕ) (old now new : FleetState) → i < rounds → IsMaking Makes t rounds i old now →
      Steps now → Rounds workers now new (Ok count) → IsMaking Makes t rounds (i + 1) old new
  making_next rounds i count old now new below is steps on = record { so_far = go }
    where
      go : (s : Stage) → StandsAtStage t old s → IsMadeSoFar Makes t rounds (i + 1) new s
      go s at =
          let x = is.so_far s at in
          let z = last_stage_of s x.more in
          let made = on t z.lines z.made x.led.stands in
          let a : Stage = record { made = made.after; lines = z.lines; stopped = None } in
          let ends : last_stage_of s (x.more ++ a ∷ []) ≡ a = last_append s x.more (a ∷ []) in
          record {
            more = x.more ++ a ∷ [];
            led = led_both t now new None None s x.more (a ∷ []) x.led (led_one t new z a made.stands);
            goes_on = λ whole later makes.
                one_more whole rounds i now s below steps x a (record { comes = made.round; lines = refl }) later
                (subst (λ (b : Stage). Makes whole (rounds - (i + 1)) b later) ends makes);
          }

  -- or the round isn't made to its end
  abbrev pub StopsMaking : ℕ → FleetState → FleetState → RoundFault → Type 0
  StopsMaking rounds old new (round.AtLimit n) = (s : Stage) → StandsAtStage t old s →
      IsStageMade Makes t rounds new (Some n) s
  StopsMaking rounds old new round.Starved = (s : Stage) → StandsAtStage t old s → IsRoundStarved Makes t rounds new s

  pub making_stops : (rounds i : ℕ) (old now new : FleetState) (e : RoundFault) → i < rounds →
      IsMaking Makes t rounds i old now → Steps now → Rounds workers now new (Err e) → StopsMaking rounds old new e
  making_stops rounds i old now new (round.AtLimit n) below is steps on = λ s at.
      let x = is.so_far s at in
      let z = last_stage_of s x.more in
      let cut = on t z.lines z.made x.led.stands in
      let a : Stage = record { made = cut.after; lines = z.lines; stopped = Some n } in
      record {
        more = (x.more ++ a ∷ []) ++ [];
        makes = one_more true rounds i now s below steps x a
            (record { comes = cut.unfinished; lines = refl }) [] (stays (rounds - (i + 1)) a refl);
        led = subst (AreLed t new (Some n) s) (sym (append-nil (x.more ++ a ∷ [])))
            (led_both t now new None (Some n) s x.more (a ∷ []) x.led (led_one t new z a cut.stands));
      }
  making_stops rounds i old now new round.Starved below is steps on = λ s at.
      let x = is.so_far s at in
      let z = last_stage_of s x.more in
      record {
        more = x.more;
        begun = subst (Makes false rounds s) (append-nil x.more)
            (x.goes_on false [] (subst (λ k. Makes false k z []) (sym (one_less rounds i below))
            (steps.begins (rounds - (i + 1)) z (led_at t now s x.more x.led))));
        starves = on t z.lines z.made x.led.stands;
        stood = x.led.stood;
      }
