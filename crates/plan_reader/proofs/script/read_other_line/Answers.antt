use Rattle.plan_reader.proofs.script.read_other_line.Goals as goal

pub returns-in-None-2-clause-calls : goal.returns-in-None-2-clause-calls
returns-in-None-2-clause-calls c = c.read_plain_line.ensures.calls c.args.calls.now
