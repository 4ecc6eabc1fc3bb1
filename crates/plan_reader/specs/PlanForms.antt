-- Which words make a line of a script.
use Rattle.std.specs.Prelude.{◌+◌, ℕ, ◌==◌, ◌&&◌, ◌||◌, Bool, false, true, List, length, codes, Option, Some, None, if◌then◌else◌, not}
use Rattle.ason_base.specs.{declared.commands.DisturbKind.DisturbKind, Numerals.is_numeral}
use Rattle.ason_base.specs.declared.commands.DisturbKind.TheVariants as disturbs
use Rattle.plan_reader.specs.{declared.forms.CommandForm.CommandForm, declared.forms.SetupForm.SetupForm, PlanTexts.{word_at, are_numbers}, Names.same_text}
use Rattle.plan_reader.specs.declared.forms.CommandForm.TheVariants as forms

abbrev pub is_word : List (List ℕ) → ℕ → List ℕ → Bool
is_word ws k text = same_text (word_at ws k) text

-- so many words, of which the first is this
abbrev pub begins : List (List ℕ) → List ℕ → ℕ → Bool
begins ws text n = length ws == n && is_word ws 0 text

abbrev pub is_number_word : List (List ℕ) → ℕ → Bool
is_number_word ws k = is_numeral (word_at ws k)

-- `L,..`
abbrev pub are_numbers_word : List (List ℕ) → ℕ → Bool
are_numbers_word ws k = are_numbers (word_at ws k)

-- Setups

-- whether a setup's call is protected, whether it is two-way, and the places of the words that give its routes
abbrev pub form : Bool → Bool → Option ℕ → Option ℕ → SetupForm
form protected both via backup = record { protected = protected; both = both; via = via; backup = backup }

-- this word, and behind it `L,..`
abbrev pub is_route_word : List (List ℕ) → ℕ → List ℕ → Bool
is_route_word ws k text = is_word ws k text && are_numbers_word ws (k + 1)

-- `[via L,..]` from this place on to the end, or of a protected call `via L,.. backup L,..`
abbrev pub routes_from : List (List ℕ) → ℕ → Bool → Bool → Option SetupForm
routes_from ws k protected both =
    if length ws == k then Some (form protected both None None)
    else if length ws == k + 2 && is_route_word ws k (codes "via")
    then Some (form protected both (Some (k + 1)) None)
    else if protected && (length ws == k + 4
    && (is_route_word ws k (codes "via") && is_route_word ws (k + 2) (codes "backup")))
    then Some (form protected both (Some (k + 1)) (Some (k + 3)))
    else None

-- `[both]` at this place, and then the routes
abbrev pub directions_from : Bool → List (List ℕ) → ℕ → Bool → Option SetupForm
directions_from two_way ws k protected =
    if two_way && is_word ws k (codes "both") then routes_from ws (k + 1) protected true
    else routes_from ws k protected false

-- `setup NAME FROM TO [unprotected] [both] ..`, where calls may be two-way, and else without the word `both`; none of
-- another line
abbrev pub setup_form : Bool → List (List ℕ) → Option SetupForm
setup_form two_way ws =
    if not (is_word ws 0 (codes "setup")) then None
    else if is_word ws 4 (codes "unprotected") then directions_from two_way ws 5 false
    else directions_from two_way ws 4 true

-- Other commands

-- `release NAME`
abbrev pub is_release : List (List ℕ) → Bool
is_release ws = begins ws (codes "release") 2

-- `protect NAME`
abbrev pub is_protect : List (List ℕ) → Bool
is_protect ws = begins ws (codes "protect") 2

-- `retry NAME`
abbrev pub is_retry : List (List ℕ) → Bool
is_retry ws = begins ws (codes "retry") 2

-- `revert NAME`
abbrev pub is_revert : List (List ℕ) → Bool
is_revert ws = begins ws (codes "revert") 2

-- `srlg N` or `link N` behind this word
abbrev pub is_group_line : List (List ℕ) → List ℕ → Bool
is_group_line ws word =
    begins ws word 3 && ((is_word ws 1 (codes "srlg") || is_word ws 1 (codes "link")) && is_number_word ws 2)

-- `fail srlg N`, `fail link N`
abbrev pub is_fail : List (List ℕ) → Bool
is_fail ws = is_group_line ws (codes "fail")

-- `repair srlg N`, `repair link N`
abbrev pub is_repair : List (List ℕ) → Bool
is_repair ws = is_group_line ws (codes "repair")

-- which command other than a setup the line is; none of another line
abbrev pub command_form : List (List ℕ) → Option CommandForm
command_form ws =
    if is_release ws then Some forms.Release
    else if is_protect ws then Some forms.Protect
    else if is_retry ws then Some forms.Retry
    else if is_revert ws then Some forms.Revert
    else if is_fail ws then Some forms.Fail
    else if is_repair ws then Some forms.Repair
    else None

-- Other lines

-- `settle R`
abbrev pub is_settle : List (List ℕ) → Bool
is_settle ws = begins ws (codes "settle") 2 && is_number_word ws 1

-- `wait N`
abbrev pub is_wait : List (List ℕ) → Bool
is_wait ws = begins ws (codes "wait") 2 && is_number_word ws 1

-- `show`
abbrev pub is_show : List (List ℕ) → Bool
is_show ws = begins ws (codes "show") 1

-- Lines of frames

-- `A B K` behind this word
abbrev pub is_disturb : List (List ℕ) → List ℕ → Bool
is_disturb ws word = begins ws word 4 && is_number_word ws 3

-- what the line does to a frame: `lose A B K`, `repeat A B K` or `hold A B K`; none of another line
abbrev pub disturb_form : List (List ℕ) → Option DisturbKind
disturb_form ws =
    if is_disturb ws (codes "lose") then Some disturbs.Lose
    else if is_disturb ws (codes "repeat") then Some disturbs.Repeat
    else if is_disturb ws (codes "hold") then Some disturbs.Hold
    else None

-- `noise A B HEX`, whatever its last word is
abbrev pub is_noise : List (List ℕ) → Bool
is_noise ws = begins ws (codes "noise") 4
