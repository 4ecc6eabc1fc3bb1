-- What was given of the options of `run` so far.
use Rattle.std.specs.{Prelude.{ℕ, List, [], ◌∷◌, Option, Some, None, IfSome, bytes_eq, codes, is_some, length, map, string_bytes, unwrap_or, if◌then◌else◌, String}, Borrow.Bor, Global.Global}
use Rattle.ason_base.specs.declared.limits.TheConstants.{MOST_TURNS, MOST_WORKERS}
use Rattle.commands.specs.{Numbers.{Between, number_in}, Options.is_trace, declared.options.Given.Given, declared.options.RunOptions.RunOptions, declared.options.Telling.Telling}
use Rattle.commands.specs.declared.options.Telling.TheVariants as told

-- what was given is within its limits
pub record AreGiven (g : Given) : Type 0 where
  pub workers : IfSome g.workers (Between 1 MOST_WORKERS)
  pub stride : IfSome g.stride (Between 1 MOST_TURNS)

abbrev pub run_given : Given → RunOptions
run_given g = record {
  pace = record { workers = unwrap_or g.workers 1; stride = unwrap_or g.stride 1 };
  telling = unwrap_or g.telling told.Tables;
}

abbrev pub with_workers : Given → Option ℕ → Option Given
with_workers g None = None
with_workers g (Some n) = Some (record g { workers = Some n })

abbrev pub with_stride : Given → Option ℕ → Option Given
with_stride g None = None
with_stride g (Some n) = Some (record g { stride = Some n })

abbrev pub with_telling : Given → Telling → Option Given
with_telling g telling = if is_some g.telling then None else Some (record g { telling = Some telling })

-- with an option that has a value, behind which so many words stand
abbrev pub after_value : Given → List ℕ → List ℕ → ℕ → Option Given
after_value g w v behind =
    if bytes_eq w (codes "--workers") then
    (if is_some g.workers then None else with_workers g (number_in 1 MOST_WORKERS v))
    else if bytes_eq w (codes "--stride") then
    (if is_some g.stride then None else with_stride g (number_in 1 MOST_TURNS v))
    else if bytes_eq w (codes "--watch") then with_telling g (told.Watch behind)
    else None

-- what is given then, and the words that are left
abbrev pub NextGiven : Type 0
NextGiven = Given × List (List ℕ)

abbrev pub before_words : List (List ℕ) → Option Given → Option NextGiven
before_words ws None = None
before_words ws (Some g) = Some (g, ws)

-- with the first option of these words
abbrev pub next_given : Given → List (List ℕ) → Option NextGiven
next_given g [] = None
next_given g (w ∷ []) = if is_trace w then before_words [] (with_telling g told.Trace) else None
next_given g (w ∷ v ∷ ws) =
    if is_trace w then before_words (v ∷ ws) (with_telling g told.Trace)
    else before_words ws (after_value g w v (length ws))

-- Views

abbrev pub next_given_now : Given × Bor (List (String Global)) → NextGiven
next_given_now next = (next.0, map string_bytes next.1.now)
