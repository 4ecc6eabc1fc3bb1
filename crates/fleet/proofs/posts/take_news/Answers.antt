use Rattle.std.proofs.Common.{length, arith}
use Rattle.fleet.specs.Posting.{news_for}
use Rattle.fleet.proofs.Taking.{told-clocks, told-takes}
use Rattle.fleet.proofs.posts.take_news.Goals as goal

pub set_clocks-requires : goal.set_clocks-requires
set_clocks-requires c =
    told-clocks (news_for c.args.t.now c.args.before.now c.args.after.now) c.args.stamp (length c.args.stations.now)
    c.args.seats.now c.args.stations.now c.tell_all.new.stations c.requires.count (omega arith) c.tell_all.ensures
    c.requires.clocks

pub returns : goal.returns
returns c =
    told-takes (news_for c.args.t.now c.args.before.now c.args.after.now) c.args.stamp (length c.args.stations.now)
    c.args.seats.now c.args.stations.now c.tell_all.new.stations c.set_clocks.new.stations (omega arith)
    c.tell_all.ensures c.set_clocks.ensures
