use Rattle.flood.proofs.AlikeEnds.{both_put_in}
use Rattle.flood.proofs.known.add_ends.Goals as goal

pub returns-clause-alike : goal.returns-clause-alike
returns-clause-alike c =
    both_put_in c.args.ends.now.items c.insert_number.new.numbers.items c.insert_number-2.new.numbers.items
    c.args.row.now (c.insert_number.ensures.has, c.insert_number.ensures.count)
    (c.insert_number-2.ensures.has, c.insert_number-2.ensures.count)
