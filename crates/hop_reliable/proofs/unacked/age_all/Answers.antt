use Rattle.std.proofs.Common.{◌<◌, length, rules}
use Rattle.hop_reliable.proofs.Aged.{aged_more}
use Rattle.hop_reliable.proofs.unacked.age_all.Goals as goal

pub loop-i-preserved : goal.loop-i-preserved
loop-i-preserved c =
    let within : c.loop-i.i < length c.args.unacked.now.items = search rules in
    record {
      aged =
          aged_more c.args.unacked.now.items c.loop-i.unacked.items c.loop-i.i c.older_age-w.result
          c.index_mut-w.result.now within c.loop-i.invariant.aged c.index_mut-w.ensures.value c.older_age-w.ensures;
      len = c.loop-i.invariant.len;
      capacity = c.loop-i.invariant.capacity;
    }
