-- Rounds until a test of the stage holds: settling and waiting differ only in the test.
use Rattle.std.proofs.Common.{◌≡◌, ℕ, zero, suc, Bool, true, false, List, [], ◌∷◌}
use Rattle.ason_base.specs.Network.{Network}
use Rattle.script_rules.specs.Stages.{IsNextRound, Settles, Stage, WaitsRounds, is_settled, is_stopped}

-- rounds until the test holds, at most so many
abbrev pub GoesRounds : (Stage → Bool) → Network → ℕ → ℕ → Stage → List Stage → Type 0
GoesRounds over t workers zero s [] = Unit {0}
GoesRounds over t workers zero s (a ∷ more) = ⊥
GoesRounds over t workers (suc rounds) s [] = over s ≡ true
GoesRounds over t workers (suc rounds) s (a ∷ more) =
    (over s ≡ false) × IsNextRound t workers s a × GoesRounds over t workers rounds a more

both : (t : Network) (workers rounds : ℕ) (s : Stage) (more : List Stage) →
    (Settles t workers rounds s more → GoesRounds (is_settled t) t workers rounds s more)
    × (WaitsRounds t workers rounds s more → GoesRounds is_stopped t workers rounds s more)
both t workers zero s [] = (λ x. x, λ x. x)
both t workers zero s (a ∷ more) = (λ x. x, λ x. x)
both t workers (suc rounds) s [] = (λ x. x, λ x. x)
both t workers (suc rounds) s (a ∷ more) =
    let rest = both t workers rounds a more in (λ x. (x.0, x.1, rest.0 x.2), λ x. (x.0, x.1, rest.1 x.2))

-- Settling is to go on until the run is stopped or quiet.
pub settles-go : (t : Network) (workers rounds : ℕ) (s : Stage) (more : List Stage) →
    Settles t workers rounds s more → GoesRounds (is_settled t) t workers rounds s more
settles-go t workers rounds s more = (both t workers rounds s more).0

-- Waiting is to go on until it is stopped.
pub waits-go : (t : Network) (workers rounds : ℕ) (s : Stage) (more : List Stage) →
    WaitsRounds t workers rounds s more → GoesRounds is_stopped t workers rounds s more
waits-go t workers rounds s more = (both t workers rounds s more).1
