-- The options of `run`.
use Rattle.std.specs.Prelude.{ℕ, Bool, List, [], ◌∷◌, Option, Some, None, bytes_eq, codes, length, option_map, if◌then◌else◌}
use Rattle.ason_base.specs.declared.limits.TheConstants.{MOST_TURNS, MOST_WORKERS}
use Rattle.commands.specs.{Numbers.number_in, declared.options.RunOptions.RunOptions, declared.options.Telling.Telling}
use Rattle.commands.specs.declared.options.Telling.TheVariants as told

pub data RunOption : Type 0 where
  Workers : (workers : ℕ) → RunOption  -- `--workers N`
  Stride : (stride : ℕ) → RunOption  -- `--stride T`
  Tells : (telling : Telling) → RunOption  -- `--trace`, or `--watch NODE`

abbrev pub is_trace : List ℕ → Bool
is_trace w = bytes_eq w (codes "--trace")

-- the option that two words are, behind which so many stand; any word is the name of a node
abbrev pub option_of : List ℕ → List ℕ → ℕ → Option RunOption
option_of w v behind =
    if bytes_eq w (codes "--workers") then option_map Workers (number_in 1 MOST_WORKERS v)
    else if bytes_eq w (codes "--stride") then option_map Stride (number_in 1 MOST_TURNS v)
    else if bytes_eq w (codes "--watch") then Some (Tells (told.Watch behind))
    else None

abbrev pub with_option : Option RunOption → Option (List RunOption) → Option (List RunOption)
with_option None others = None
with_option (Some o) None = None
with_option (Some o) (Some os) = Some (o ∷ os)

-- the options that these words are, one after the other
abbrev pub options_of : List (List ℕ) → Option (List RunOption)
options_of [] = Some []
options_of (w ∷ []) = if is_trace w then Some (Tells told.Trace ∷ []) else None
options_of (w ∷ v ∷ ws) =
    if is_trace w then with_option (Some (Tells told.Trace)) (options_of (v ∷ ws))
    else with_option (option_of w v (length ws)) (options_of ws)

-- What is said of one kind, in order

abbrev pub workers_in : List RunOption → List ℕ
workers_in [] = []
workers_in (Workers n ∷ os) = n ∷ workers_in os
workers_in (Stride n ∷ os) = workers_in os
workers_in (Tells telling ∷ os) = workers_in os

abbrev pub strides_in : List RunOption → List ℕ
strides_in [] = []
strides_in (Workers n ∷ os) = strides_in os
strides_in (Stride n ∷ os) = n ∷ strides_in os
strides_in (Tells telling ∷ os) = strides_in os

abbrev pub tellings_in : List RunOption → List Telling
tellings_in [] = []
tellings_in (Workers n ∷ os) = tellings_in os
tellings_in (Stride n ∷ os) = tellings_in os
tellings_in (Tells telling ∷ os) = telling ∷ tellings_in os

-- what is said at most once, and this where it isn't said
abbrev pub once_or : {A : Type 0} → A → List A → Option A
once_or unsaid [] = Some unsaid
once_or unsaid (a ∷ []) = Some a
once_or unsaid (a ∷ b ∷ others) = None

abbrev pub run_with : Option ℕ → Option ℕ → Option Telling → Option RunOptions
run_with None strides tellings = None
run_with (Some workers) None tellings = None
run_with (Some workers) (Some stride) None = None
run_with (Some workers) (Some stride) (Some telling) =
    Some (record { pace = record { workers = workers; stride = stride }; telling = telling })

abbrev pub run_in : Option (List RunOption) → Option RunOptions
run_in None = None
run_in (Some os) =
    run_with (once_or 1 (workers_in os)) (once_or 1 (strides_in os)) (once_or told.Tables (tellings_in os))

-- the options of `run`, in any order, each at most once, and `--trace` and `--watch` not together: one worker, one turn
-- and the tables where they aren't given
abbrev pub run_of : List (List ℕ) → Option RunOptions
run_of ws = run_in (options_of ws)
