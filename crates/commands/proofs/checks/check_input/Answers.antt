use Rattle.commands.proofs.checks.check_input.Goals as goal

pub returns-in-Ok : goal.returns-in-Ok
returns-in-Ok g c = c.tell_checked.ensures c.args.bytes.now c.in-Ok.ensures.checks

pub returns-in-Err : goal.returns-in-Err
returns-in-Err g c = c.tell_fault.ensures c.args.bytes.now c.in-Err.ensures.checks
