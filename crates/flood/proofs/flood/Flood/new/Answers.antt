use Rattle.flood.proofs.Counting.{counted-start, start_is}
use Rattle.flood.proofs.flood.Flood.new.Goals as goal

pub invariant_of-result : goal.invariant_of-result
invariant_of-result c =
    rw (c.new.ensures, c.in_ok-neighbours.ensures.all, c.deref.ensures.value)
    (counted-start c.in_ok-ids.ids.items c.in_ok-ids.ensures.rising
    (rw c.deref.ensures.value at c.in_ok-neighbours.ensures.small))

pub returns : goal.returns
returns c = record {
  numbers = c.in_ok-ids.ids.items;
  rising = c.in_ok-ids.ensures.rising;
  same = c.in_ok-ids.ensures.same;
  is = start_is c.args.me c.new.result c.in_ok-neighbours.neighbours.items c.in_ok-ids.ids.items c.deref.result.now
      c.new.ensures c.deref.ensures.value c.in_ok-neighbours.ensures.all;
}
