use Rattle.std.proofs.Common.{get_or, ap}
use Rattle.ason_base.proofs.Results.{on_ok}
use Rattle.fleet.proofs.Pairs.{joined-pair, may-connect, pair-publishers}
use Rattle.fleet.proofs.joining.join.Goals as goal

pub connect-requires : goal.connect-requires
connect-requires c =
    let split = c.split_at_mut-before in
    let a = get_or split.result.0.now c.args.low c.index-before-low.result in
    let b = get_or split.result.1.now 0 c.index-after-0.result in
    let may = may-connect c.args.stations.now _ _ c.args.low c.args.high a b a b c.requires.order c.requires.may
    split.ensures.front split.ensures.back (ap (get_or split.result.0.now c.args.low) c.index-before-low.is)
    (ap (get_or split.result.1.now 0) c.index-after-0.is) in
    record { there = may.near; back = may.near_back; apart = may.apart; apart_back = may.apart_back }

pub returns : goal.returns
returns c =
    let split = c.split_at_mut-before in
    let first = ap (get_or split.result.0.now c.args.low) c.index-before-low.is in
    let last = ap (get_or split.result.1.now 0) c.index-after-0.is in
    record {
      joined =
          on_ok c.connect.result _ _
          (joined-pair c.args.stations.now _ _ c.args.low c.args.high _ _ _ _ c.requires.order c.requires.may
          split.ensures.front split.ensures.back first last) c.connect.ensures.ok;
      publishers =
          pair-publishers c.args.stations.now _ _ c.args.low c.args.high _ _ _ _ c.requires.order c.requires.may
          split.ensures.front split.ensures.back first last c.connect.ensures.publisher
          c.connect.ensures.publisher_back;
    }
