-- One event more of a run, and the first that isn't enabled.
use Rattle.std.proofs.{Common.{◌≡◌, ◌+◌, ◌<◌, ℕ, zero, suc, List, [], ◌∷◌, ◌++◌, drop, get_or, length, take, refl, sym, ap, ◌∙◌, subst, arith}, lemmas.List.{length-take-le, take_more}}
use Rattle.ason_base.specs.{declared.commands.Event.Event, Network.Network}
use Rattle.world_core.specs.Replays.{HasStepped, IsDisabled, IsFirstDisabled, StateStandsFor, WorldState}
use Rattle.world_rules.specs.{WorldRuns.{IsEnabled, IsWorldRun, world_after, world_step}, Worlds.{World, world_start}}

-- the events up to the next one
pub next-event : (events : List Event) (i : ℕ) (e : Event) → i < length events → e ≡ get_or events i e →
    take (i + 1) events ≡ take i events ++ e ∷ []
next-event events i e within at = take_more events i e within ∙ ap (λ x. take i events ++ x ∷ []) (sym at)

-- where a run with an event more leads
pub after-more : (t : Network) (es : List Event) (e : Event) (w : World) →
    world_after t w (es ++ e ∷ []) ≡ world_step t (world_after t w es) e
after-more t [] e w = refl
after-more t (x ∷ es) e w = after-more t es e (world_step t w x)

run-more : (t : Network) (es : List Event) (e : Event) (w : World) → IsWorldRun t w es →
    IsEnabled t (world_after t w es) e →
    IsWorldRun t w (es ++ e ∷ [])
run-more t [] e w run on = (on, tt)
run-more t (x ∷ es) e w run on = (run.0, run-more t es e (world_step t w x) run.1 on)

-- these events are a run, and what is kept stands for the world to which they lead
pub record HasRun (t : Network) (events : List Event) (k : WorldState) : Type 0 where
  pub run : IsWorldRun t (world_start t) events
  pub stands : StateStandsFor t k (world_after t (world_start t) events)

pub has-run-more : (t : Network) (events : List Event) (e : Event) (k next : WorldState) → HasRun t events k →
    HasStepped t k e next → HasRun t (events ++ e ∷ []) next
has-run-more t events e k next is stepped =
    let made = stepped (world_after t (world_start t) events) is.stands in
    record {
      run = run-more t events e (world_start t) is.run made.0;
      stands = subst (StateStandsFor t next) (sym (after-more t events e (world_start t))) made.1;
    }

pub run-next : (t : Network) (events : List Event) (i : ℕ) (e : Event) (k next : WorldState) → i < length events →
    e ≡ get_or events i e → HasRun t (take i events) k → HasStepped t k e next → HasRun t (take (i + 1) events) next
run-next t events i e k next within at is stepped =
    subst (λ es. HasRun t es next) (sym (next-event events i e within at))
    (has-run-more t (take i events) e k next is stepped)

-- The first that isn't enabled

parts : (events : List Event) (i : ℕ) (d : Event) → i < length events →
    events ≡ take i events ++ get_or events i d ∷ drop (i + 1) events
parts [] i d within = absurd (omega arith)
parts (x ∷ xs) zero d within = refl
parts (x ∷ xs) (suc i) d within =
    let next : suc i + 1 ≡ suc (i + 1) = omega arith in
    ap (λ ys. x ∷ ys) (parts xs i d (omega arith))
    ∙ sym (ap (λ j. take (suc i) (x ∷ xs) ++ get_or (x ∷ xs) (suc i) d ∷ drop j (x ∷ xs)) next)

pub first-disabled : (t : Network) (events : List Event) (i : ℕ) (e : Event) (k : WorldState) (number : ℕ) →
    i < length events → e ≡ get_or events i e → i + 1 ≡ number → HasRun t (take i events) k → IsDisabled t k e →
    IsFirstDisabled t events number
first-disabled t events i e k number within at counted is disabled = record {
  before = take i events;
  event = e;
  later = drop (i + 1) events;
  all = parts events i e within ∙ ap (λ x. take i events ++ x ∷ drop (i + 1) events) (sym at);
  counted = sym counted ∙ ap (λ n. n + 1) (sym (length-take-le i events (omega arith)));
  run = is.run;
  disabled = disabled (world_after t (world_start t) (take i events)) is.stands;
}

-- of a run each event is enabled
none_disabled : (t : Network) (w : World) (before later : List Event) (e : Event) →
    IsWorldRun t w (before ++ e ∷ later) →
    ¬ IsEnabled t (world_after t w before) e → ⊥
none_disabled t w [] later e run off = off run.0
none_disabled t w (x ∷ before) later e run off = none_disabled t (world_step t w x) before later e run.1 off

-- in a run there is no first event that isn't enabled
pub not_in_run : (t : Network) (es : List Event) (i : ℕ) → IsFirstDisabled t es i → IsWorldRun t (world_start t) es → ⊥
not_in_run t es i is run =
    none_disabled t (world_start t) is.before is.later is.event (subst (IsWorldRun t (world_start t)) is.all run)
    is.disabled
