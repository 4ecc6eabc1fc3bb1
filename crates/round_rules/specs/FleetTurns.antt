-- All turns that a station makes in one round.
use Rattle.std.specs.Prelude.{ℕ, true}
use Rattle.round_rules.specs.{States.StationState, Turned.HaveMadeTurns, declared.turns.Turn.Turn}

-- a station after its turns, and how they ended
pub record AfterTurns : Type 0 where
  pub station : StationState
  pub end : Turn

abbrev pub HasMadeRound : ℕ → StationState → AfterTurns → Type 0
HasMadeRound stride old new = HaveMadeTurns stride true old new.station new.end
