use Rattle.commands.proofs.telling.tell_usage.Goals as goal

pub returns : goal.returns
returns g c = c.tell.ensures
