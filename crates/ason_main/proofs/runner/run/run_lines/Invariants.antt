use Rattle.std.proofs.Common.{None, take}
use Rattle.ason_main.specs.{Running.{DoesAll, running_at}, Views.StayInView}
use Rattle.ason_main.proofs.runner.run.run_lines.Given as goal

abbrev pub invariant-loop-line : goal.invariant-loop-line
invariant-loop-line g l =
    DoesAll l.plan l.crew (take l.line-index l.lines)
    (running_at l.initial.fleet (g.K.Sink.written l.initial.out) (g.K.Sink.faults l.initial.out))
    (running_at l.fleet (g.K.Sink.written l.out) (g.K.Sink.faults l.out)) None
    × StayInView l.initial.fleet.stations l.fleet.stations
