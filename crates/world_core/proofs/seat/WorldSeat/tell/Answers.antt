use Rattle.std.proofs.Common.{ap, ◌∙◌}
use Rattle.mesh_rules.proofs.LinkNews.{apart-at, news-more}
use Rattle.world_core.specs.Seats.{SeatState, told_of}
use Rattle.world_core.proofs.seat.WorldSeat.tell.Goals as goal

pub tell_of-requires : goal.tell_of-requires
tell_of-requires c =
    apart-at c.args.t.now c.links-link-items.ensures.valid c.links-link-items.result.now c.loop-link.link-index
    c.link-item.result c.links-link-items.ensures.list c.loop-link-test.true c.link-item.is

pub loop-link-preserved : goal.loop-link-preserved
loop-link-preserved c =
    let s : SeatState = c.args.self.now in
    c.in_ok-tell_of.ensures
    ∙ ap (told_of c.args.before.now c.args.after.now c.link-item.result) c.loop-link.invariant
    ∙ ap (λ items. record s { desk = items })
    (news-more c.args.before.now c.args.after.now s.node.0 c.links-link-items.result.now c.loop-link.link-index
    c.link-item.result c.loop-link-test.true c.link-item.is s.desk)
