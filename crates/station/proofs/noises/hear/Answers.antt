use Rattle.station.proofs.Hearing.{none-taken}
use Rattle.station.proofs.noises.hear.Goals as goal

pub returns-clause-step : goal.returns-clause-step
returns-clause-step c =
    none-taken c.args.from c.args.bytes.now c.in_ok-heard.heard c.args.controller.now c.step.new.self
    c.in_ok-_none._none c.in_ok-heard.ensures c.requires.nothing c.in_ok-_none.ensures.step
