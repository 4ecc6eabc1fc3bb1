-- The lines that tell how many calls are in each state.
use Rattle.std.specs.{Prelude.{ℕ, ◌==◌, Bool, List, [], ◌∷◌, ◌++◌, codes, count_by}, List.flat_map, Fmt.decimal}
use Rattle.ason_base.specs.{declared.calls.CallRow.CallRow, declared.calls.CallState.CallState, declared.calls.CallState.TheVariants.{Asking, Bare, Blocked, Guarded, Pairing, Stuck, Turned, Turning}}
use Rattle.load_plan.specs.{declared.phases.LoadPhase.LoadPhase, declared.phases.LoadPhase.TheVariants.{Built, Failed, Repaired, Reverted}}
use Rattle.table_text.specs.TableText.{state_word}

-- the word of what was done before the line
abbrev pub phase_word : LoadPhase → List ℕ
phase_word Built = codes "built"
phase_word Failed = codes "failed"
phase_word Repaired = codes "repaired"
phase_word Reverted = codes "reverted"

-- the states in the order of the line
abbrev pub states : List CallState
states = Asking ∷ Bare ∷ Pairing ∷ Guarded ∷ Turning ∷ Turned ∷ Stuck ∷ Blocked ∷ []

-- where a state stands there
abbrev pub state_place : CallState → ℕ
state_place Asking = 0
state_place Bare = 1
state_place Pairing = 2
state_place Guarded = 3
state_place Turning = 4
state_place Turned = 5
state_place Stuck = 6
state_place Blocked = 7

-- the call is in this state
abbrev pub is_in : CallState → CallRow → Bool
is_in state row = state_place row.state == state_place state

-- how many of the calls are in this state
abbrev pub calls_in : CallState → List CallRow → ℕ
calls_in state rows = count_by (is_in state) rows

-- ` STATE N`
abbrev pub count_text : List CallRow → CallState → List ℕ
count_text rows state = codes " " ++ state_word state ++ codes " " ++ decimal (calls_in state rows)

-- `PHASE asking A bare B pairing P guarded G turning T turned U stuck S blocked K`
abbrev pub phase_text : LoadPhase → List CallRow → List ℕ
phase_text phase rows = phase_word phase ++ flat_map (count_text rows) states ++ codes "\n"
