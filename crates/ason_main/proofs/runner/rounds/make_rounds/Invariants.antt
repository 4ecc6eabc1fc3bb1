use Rattle.ason_base.specs.Network.{Network}
use Rattle.ason_main.proofs.{RoundLines.LineRounds, Rounding.IsMaking}
use Rattle.ason_main.specs.Views.{StayInView}
use Rattle.ason_main.proofs.runner.rounds.make_rounds.Given as goal

abbrev pub invariant-loop-made : goal.invariant-loop-made
invariant-loop-made g l =
    ((t : Network) → IsMaking (LineRounds l.until_quiet t l.crew.workers) t l.rounds l._made l.initial.fleet l.fleet)
    × StayInView l.initial.fleet.stations l.fleet.stations
