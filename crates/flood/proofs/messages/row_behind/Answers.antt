use Rattle.flood.proofs.messages.row_behind.Goals as goal

pub returns-clause-not_message : goal.returns-clause-not_message
returns-clause-not_message c is row spelled = c.read_row.ensures.not_message is row (rw c.split_at.ensures.back spelled)
