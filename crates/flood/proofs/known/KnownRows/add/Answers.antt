use Rattle.flood.proofs.AlikeEnds.{indexed_more}
use Rattle.flood.proofs.known.KnownRows.add.Goals as goal

pub invariant_of-self-2 : goal.invariant_of-self-2
invariant_of-self-2 c = rw c.in_ok-push.ensures.items
    (indexed_more c.reserve.new.self.items c.args.row c.reserve-2.new.self.items c.insert_number.new.numbers.items
    c.reserve-3.new.self.items c.add_ends.new.ends.items
    (rw (c.in_ok-reserve.ensures.items, c.in_ok-reserve-2.ensures.items, c.in_ok-reserve-3.ensures.items)
    c.self.invariant)
    c.insert_number.ensures.rising c.insert_number.ensures.has c.add_ends.ensures.rising c.add_ends.ensures.alike)
