use Rattle.round_rules.proofs.{Composing.turns-make-a-cut-turn, Ending.{halts-are-last, turns-end}, Reaching.turns-halt, RoundParts.stops-leave-what-is-at-hand}
use Rattle.round_rules.proofs.laws.every_limit.Goals as goal

pub returns : goal.returns
returns c = record {
  ends = turns-end;
  halts = turns-halt;
  last = halts-are-last;
  together = turns-make-a-cut-turn;
  stops = stops-leave-what-is-at-hand;
}
