-- The script of a plan: which lines there are, and what each says or its first fault.
use Rattle.std.specs.Prelude.{◌≡◌, ◌⊎◌, ℕ, ◌++◌, List, [], ◌∷◌, Option, Some, None, Result, Ok, Err, if◌then◌else◌, Bool}
use Rattle.toml.specs.Data.{Data}
use Rattle.ason_base.specs.{Network.Network, declared.commands.Command.Command, declared.commands.DisturbKind.DisturbKind}
use Rattle.flood.specs.{Frames.{IsFrame, SpellsNothing}, declared.frames.Content.Content}
use Rattle.plan_reader.specs.{declared.faults.PlanKind.PlanKind, declared.forms.CommandForm.CommandForm, declared.forms.SetupForm.SetupForm, declared.limits.TheConstants.{MOST_ROUNDS, MOST_WAITED}, declared.lines.Line.Line, declared.lines.Line.TheVariants.{Post, Disturb, Noise, Settle, Wait, Show}, declared.script.Script.Script, Entries.and_then, PlanCalls.{CallList, calls_with, no_calls}, PlanCommands.plan_command, PlanForms.{command_form, disturb_form, is_noise, is_settle, is_show, is_wait, setup_form}, PlanFrames.{disturb_of, frame_noise}, PlanSetups.setup_of, PlanTables.text_of, PlanTexts.{positive_at, words_of}}
use Rattle.plan_reader.specs.declared.faults.PlanKind.TheVariants as kinds

-- a settle, or its first fault
abbrev pub settle_of : List (List ℕ) → Result Line PlanKind
settle_of ws = and_then (positive_at 1 MOST_ROUNDS ws) (λ rounds. Ok (Settle rounds))

-- a wait, or its first fault
abbrev pub wait_of : List (List ℕ) → Result Line PlanKind
wait_of ws = and_then (positive_at 1 MOST_WAITED ws) (λ rounds. Ok (Wait rounds))

-- Lines

abbrev pub posted_line : Result Command PlanKind → Result Line PlanKind
posted_line (Ok command) = Ok (Post command)
posted_line (Err kind) = Err kind

-- what a line that neither posts anything nor is about frames says, or its first fault
abbrev pub plain_line : List (List ℕ) → Result Line PlanKind
plain_line ws =
    if is_settle ws then settle_of ws
    else if is_wait ws then wait_of ws
    else if is_show ws then Ok Show
    else Err kinds.Words

abbrev pub unposted_as : Network → List (List ℕ) → List (List ℕ) → Option DisturbKind → Result Line PlanKind
unposted_as t names ws (Some kind) = disturb_of t names ws kind
unposted_as t names ws None = if is_noise ws then frame_noise t names ws else plain_line ws

-- what a line that posts nothing says, or its first fault
abbrev pub unposted_line : Network → List (List ℕ) → List (List ℕ) → Result Line PlanKind
unposted_line t names ws = unposted_as t names ws (disturb_form ws)

abbrev pub other_as :
    Network → List (List ℕ) → CallList → List (List ℕ) → Option CommandForm → Result Line PlanKind
other_as t names calls ws None = unposted_line t names ws
other_as t names calls ws (Some form) = posted_line (plan_command t calls ws form)

-- what a line that is no setup says, or its first fault
abbrev pub other_line : Network → List (List ℕ) → CallList → List (List ℕ) → Result Line PlanKind
other_line t names calls ws = other_as t names calls ws (command_form ws)

abbrev pub line_as :
    Network → List (List ℕ) → CallList → List (List ℕ) → Option SetupForm → Result Line PlanKind
line_as t names calls ws None = other_line t names calls ws
line_as t names calls ws (Some form) = posted_line (setup_of t names calls ws form)

-- what a line says, or its first fault; a setup may be two-way or not
abbrev pub script_line : Bool → Network → List (List ℕ) → CallList → List (List ℕ) → Result Line PlanKind
script_line two_way t names calls ws = line_as t names calls ws (setup_form two_way ws)

abbrev pub no_script : Script
no_script = record { calls = no_calls; lines = [] }

-- the calls after a line of these words
abbrev pub calls_with_line : CallList → List (List ℕ) → Line → CallList
calls_with_line calls ws (Post command) = calls_with calls ws command
calls_with_line calls ws (Disturb d) = calls
calls_with_line calls ws (Noise from to bytes) = calls
calls_with_line calls ws (Settle rounds) = calls
calls_with_line calls ws (Wait rounds) = calls
calls_with_line calls ws Show = calls

abbrev pub line_put_behind : Script → List (List ℕ) → Result Line PlanKind → Result Script PlanKind
line_put_behind before ws (Ok line) =
    Ok (record { calls = calls_with_line before.calls ws line; lines = before.lines ++ line ∷ [] })
line_put_behind before ws (Err kind) = Err kind

-- Frames in noise

-- the bytes of a noise; none of another line
abbrev pub line_bytes : Line → Option (List ℕ)
line_bytes (Post command) = None
line_bytes (Disturb d) = None
line_bytes (Noise from to bytes) = Some bytes
line_bytes (Settle rounds) = None
line_bytes (Wait rounds) = None
line_bytes Show = None

abbrev pub IsReadWith : Option (List ℕ) → Line → Result Line PlanKind → Type 0
IsReadWith None line r = r ≡ Ok line
IsReadWith (Some bytes) line r =
    (SpellsNothing bytes × (r ≡ Ok line)) ⊎ ((c : Content) × IsFrame bytes c × (r ≡ Err kinds.Spells))

-- What is read of a line that has no fault so far: the line itself, unless it is noise. Noise is read where its bytes
-- spell nothing; where they spell a frame, that is its fault.
abbrev pub IsRead : Result Line PlanKind → Result Line PlanKind → Type 0
IsRead (Ok line) r = IsReadWith (line_bytes line) line r
IsRead (Err kind) r = r ≡ Err kind

-- a line of these words behind those before it, or its first fault
abbrev pub AddsWords : Bool → Network → List (List ℕ) → Script → List (List ℕ) → Result Script PlanKind → Type 0
AddsWords two_way t names before ws r =
    (line : Result Line PlanKind) × IsRead (script_line two_way t names before.calls ws) line
    × (r ≡ line_put_behind before ws line)

-- a line behind those before it, or its first fault
abbrev pub AddsLine : Bool → Network → List (List ℕ) → Script → Data → Result Script PlanKind → Type 0
AddsLine two_way t names before d r = AddsWords two_way t names before (words_of (text_of d)) r
