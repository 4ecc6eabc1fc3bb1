-- The lines that make rounds: until all is quiet, or whether it is or not.
use Rattle.std.proofs.Common.{◌≡◌, ◌<◌, ◌-◌, ℕ, zero, suc, Bool, true, false, List, [], ◌∷◌, inr, sym, ap, ◌∙◌, subst}
use Rattle.std.specs.Prelude.{◌||◌, ◌&&◌, None, is_some}
use Rattle.ason_base.specs.Network.{Network}
use Rattle.fleet.specs.{declared.fleet.RoundFault.RoundFault, Standing.FleetState}
use Rattle.fleet.specs.declared.fleet.RoundFault.TheVariants as round
use Rattle.round_rules.specs.Waiting.{is_world_quiet}
use Rattle.script_rules.specs.Stages.{IsNextRound, Settles, Stage, WaitsRounds, is_settled, is_stopped, world_at}
use Rattle.ason_main.specs.Running.{Does, HaveBegunRounds, StandsAtStage, Stops, rounds_line, stop_of}
use Rattle.ason_main.proofs.Rounding.{IsStageMade, Makings, Steps, StopsMaking, one_less}

-- what a line makes of a stage with so many rounds, until all is quiet or not: all, or some behind which one more begins
abbrev pub LineRounds : Bool → Network → ℕ → Makings
LineRounds true t workers true k s more = Settles t workers k s more
LineRounds true t workers false k s more = HaveBegunRounds (is_settled t) t workers k s more
LineRounds false t workers true k s more = WaitsRounds t workers k s more
LineRounds false t workers false k s more = HaveBegunRounds is_stopped t workers k s more

pub rounds_none : (b : Bool) (t : Network) (workers : ℕ) (s : Stage) → LineRounds b t workers true zero s []
rounds_none true t workers s = tt
rounds_none false t workers s = tt

pub rounds_stay : (b : Bool) (t : Network) (workers k : ℕ) (s : Stage) → is_stopped s ≡ true →
    LineRounds b t workers true k s []
rounds_stay true t workers zero s stop = tt
rounds_stay true t workers (suc k) s stop = ap (λ b. b || is_world_quiet t (world_at t s)) stop
rounds_stay false t workers zero s stop = tt
rounds_stay false t workers (suc k) s stop = stop

-- no more rounds are made, in whatever stage the stations stand; or there are
abbrev pub Rests : Bool → Network → FleetState → Bool → Type 0
Rests b t f rests = (s : Stage) → StandsAtStage t f s → (b && is_world_quiet t (world_at t s)) ≡ rests

settled : (t : Network) (s : Stage) (f : FleetState) (b : Bool) → StandsAtStage t f s →
    is_world_quiet t (world_at t s) ≡ b →
    (is_stopped s || is_world_quiet t (world_at t s)) ≡ b
settled t s f b at quiet = ap (λ o. is_some o || is_world_quiet t (world_at t s)) at.going ∙ quiet

begins : (b : Bool) (t : Network) (workers : ℕ) (now : FleetState) → Rests b t now false → (k : ℕ) (s : Stage) →
    StandsAtStage t now s → LineRounds b t workers false (suc k) s []
begins true t workers now busy k s at = settled t s now false at (busy s at)
begins false t workers now busy k s at = ap is_some at.going

follows : (b : Bool) (t : Network) (workers : ℕ) (now : FleetState) → Rests b t now false → (whole : Bool) (k : ℕ)
    (s a : Stage) (later : List Stage) → StandsAtStage t now s → IsNextRound t workers s a →
    LineRounds b t workers whole k a later → LineRounds b t workers whole (suc k) s (a ∷ later)
follows true t workers now busy true k s a later at next makes = (settled t s now false at (busy s at), next, makes)
follows true t workers now busy false k s a later at next makes = (settled t s now false at (busy s at), next, makes)
follows false t workers now busy true k s a later at next makes = (ap is_some at.going, next, makes)
follows false t workers now busy false k s a later at next makes = (ap is_some at.going, next, makes)

pub rounds_step : (b : Bool) (t : Network) (workers : ℕ) (now : FleetState) → Rests b t now false →
    Steps (LineRounds b t workers) t workers (rounds_none b t workers) (rounds_stay b t workers) now
rounds_step b t workers now busy =
    record { begins = begins b t workers now busy; follows = follows b t workers now busy }

pub rounds_rest : (b : Bool) (t : Network) (workers rounds i : ℕ) (now : FleetState) → i < rounds →
    Rests b t now true → (s : Stage) → StandsAtStage t now s → LineRounds b t workers true (rounds - i) s []
rounds_rest true t workers rounds i now below rests s at =
    subst (λ k. Settles t workers k s []) (sym (one_less rounds i below)) (settled t s now true at (rests s at))
rounds_rest false t workers rounds i now below rests s at =
    let never : false ≡ true = rests s at in absurd (cc (never))

pub rounds_done : (b : Bool) (t : Network) (workers rounds : ℕ) (old new : FleetState) →
    ((s : Stage) → StandsAtStage t old s → IsStageMade (LineRounds b t workers) t rounds new None s) →
    Does t workers (rounds_line b rounds) old new None
rounds_done true t workers rounds old new made s at can =
    let x = made s at in
    record { more = x.more; makes = x.makes; led = x.led }
rounds_done false t workers rounds old new made s at can =
    let x = made s at in
    record { more = x.more; makes = x.makes; led = x.led }

pub rounds_stop : (b : Bool) (t : Network) (workers rounds : ℕ) (old new : FleetState) (e : RoundFault) →
    StopsMaking (LineRounds b t workers) t workers (rounds_none b t workers) (rounds_stay b t workers) rounds old new
    e →
    Stops t workers (rounds_line b rounds) old new (stop_of e)
rounds_stop true t workers rounds old new (round.AtLimit n) stops = λ s at can.
    let x = stops s at in
    record { more = x.more; makes = x.makes; led = x.led }
rounds_stop true t workers rounds old new round.Starved stops = λ s at.
    let x = stops s at in
    record { more = x.more; left = inr (x.begun, x.starves); stood = x.stood }
rounds_stop false t workers rounds old new (round.AtLimit n) stops = λ s at can.
    let x = stops s at in
    record { more = x.more; makes = x.makes; led = x.led }
rounds_stop false t workers rounds old new round.Starved stops = λ s at.
    let x = stops s at in
    record { more = x.more; left = inr (x.begun, x.starves); stood = x.stood }
