use Rattle.commands.proofs.Slices.{few_words, many_words}
use Rattle.commands.proofs.loads.load_of.Goals as goal

pub returns-in-empty : goal.returns-in-empty
returns-in-empty c = few_words c.args.words.now c.in-empty.len_below

pub returns-in-len4-up : goal.returns-in-len4-up
returns-in-len4-up c = many_words c.args.words.now c.in-len4-up.len_at_least
