use Rattle.ason_main.proofs.Lines.{sorted_table}
use Rattle.ason_main.proofs.tables.table_of.Goals as goal

pub returns : goal.returns
returns c t =
    sorted_table t c.args.fleet.now c.in_ok-unsorted.unsorted c.in_ok-sorted.sorted
    (record { calls = c.in_ok-unsorted.ensures.calls; legs = c.in_ok-unsorted.ensures.legs })
    (record {
      same_calls = c.in_ok-sorted.ensures.same_calls;
      calls = c.in_ok-sorted.ensures.calls;
      same_legs = c.in_ok-sorted.ensures.same_legs;
      legs = c.in_ok-sorted.ensures.legs;
    })
