use Rattle.std.proofs.Common.{[], length, refl, ap, arith}
use Rattle.mesh_rules.proofs.LinkNews.{apart-at, news-more}
use Rattle.fleet.proofs.News.{told-both, told-none}
use Rattle.fleet.proofs.telling.tell.Goals as goal

pub tell_of-requires-clause-apart : goal.tell_of-requires-clause-apart
tell_of-requires-clause-apart c =
    apart-at c.args.t.now c.links-link-items.ensures.valid c.links-link-items.result.now c.loop-link.link-index
    c.link-item.result c.links-link-items.ensures.list c.loop-link-test.true c.link-item.is

pub loop-link-preserved : goal.loop-link-preserved
loop-link-preserved c = record {
  told = told-both _ _ _ c.args.station.now c.loop-link.station c.tell_of.new.station
      (news-more c.args.before.now c.args.after.now c.args.node.0 c.links-link-items.result.now c.loop-link.link-index
      c.link-item.result c.loop-link-test.true c.link-item.is []) c.loop-link.invariant.told c.tell_of.ensures.told;
  room = omega (arith, c.loop-link.invariant.room, c.tell_of.ensures.room);
}

pub loop-link-init : goal.loop-link-init
loop-link-init c = record {
  told = told-none [] c.args.station.now refl;
  room = omega (arith, c.requires, ap length c.links-link-items.ensures.list);
}
