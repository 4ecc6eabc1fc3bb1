use Rattle.round_rules.proofs.{Composing.turns-make-a-turn, Turning.functions-are-turns}
use Rattle.round_rules.proofs.laws.every_turn.Goals as goal

pub returns : goal.returns
returns c = record { function = functions-are-turns; together = turns-make-a-turn }
