-- What the words of a command ask for.
use Rattle.std.specs.Prelude.{ℕ, Bool, true, false, List, [], ◌∷◌, Option, Some, None, bytes_eq, codes, option_map, if◌then◌else◌}
use Rattle.commands.specs.{Loads.load_of, Options.run_of, Paces.PaceView, declared.options.RunOptions.RunOptions, declared.options.Telling.Telling, declared.tasks.Inquiry.Inquiry, declared.tasks.Question.Question, declared.tasks.Task.Task}
use Rattle.commands.specs.declared.options.Telling.TheVariants as told

abbrev pub told_so : PaceView → Telling → Inquiry
told_so pace told.Tables = Inquiry.Run pace
told_so pace told.Trace = Inquiry.Trace pace
told_so pace (told.Watch behind) = Inquiry.Watch pace behind

-- to run a plan so, and to tell this of it
abbrev pub run_inquiry : RunOptions → Inquiry
run_inquiry said = told_so said.pace said.telling

abbrev pub run_task : List (List ℕ) → Option Task
run_task ws = option_map (λ said. Task.Of (run_inquiry said)) (run_of ws)

abbrev pub load_task : List (List ℕ) → Option Task
load_task ws = option_map Task.Load (load_of ws)

abbrev pub is_empty : List (List ℕ) → Bool
is_empty [] = true
is_empty (w ∷ ws) = false

-- this, where no words are behind
abbrev pub alone : List (List ℕ) → Inquiry → Option Task
alone ws inquiry = if is_empty ws then Some (Task.Of inquiry) else None

-- two names
abbrev pub asked : Question → List (List ℕ) → Option Task
asked question [] = None
asked question (from ∷ []) = None
asked question (from ∷ to ∷ []) = Some (Task.Of (Inquiry.Ask question))
asked question (from ∷ to ∷ w ∷ ws) = None

-- what a command of this first word asks for
abbrev pub command_of : List ℕ → List (List ℕ) → Option Task
command_of w ws =
    if bytes_eq w (codes "run") then run_task ws
    else if bytes_eq w (codes "check") then alone ws Inquiry.Check
    else if bytes_eq w (codes "decode") then alone ws Inquiry.Decode
    else if bytes_eq w (codes "survey") then alone ws Inquiry.Survey
    else if bytes_eq w (codes "route") then asked Question.Route ws
    else if bytes_eq w (codes "best") then asked Question.Best ws
    else if bytes_eq w (codes "load") then load_task ws
    else None

-- what the words ask for; all else has no meaning
abbrev pub task_of : List (List ℕ) → Option Task
task_of [] = None
task_of (w ∷ ws) = command_of w ws
