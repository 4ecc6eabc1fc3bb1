use Rattle.fleet.proofs.Taking.{put-clocks}
use Rattle.fleet.proofs.posts.take_order.Goals as goal

pub set_clocks-requires : goal.set_clocks-requires
set_clocks-requires c =
    put-clocks c.args.stamp c.args.place c.args.item c.args.stations.now c.put.new.stations c.put.ensures
    c.requires.clocks

pub returns : goal.returns
returns c = record { put = c.put.new.stations; is_put = c.put.ensures; clocks = c.set_clocks.ensures }
