use Rattle.std.proofs.Common.{sym, ◌∙◌, arith}
use Rattle.ason_base.proofs.Results.{on_err, on_ok}
use Rattle.fleet.proofs.{KeptSeats.room-stands, Posted.{groups-stand, next-post, order-stands}}
use Rattle.fleet.proofs.fleet.Fleet.post.Goals as goal

pub returns-in-None-clause-on : goal.returns-in-None-clause-on
returns-in-None-clause-on c =
    on_ok c.change.result _ _ (λ done t lines r s on. groups-stand t lines r c.args.command.now _ c.args.self.now _
    (sym c.ingress.ensures ∙ c.in-None.is)
    (next-post c.self.view_is c.deref.ensures.value c.greatest_clock-greatest.ensures
    (omega (arith, c.if-len-ge-MOST_POSTS.false, c.len.ensures, c.self.inside.posts.ok.0))) done s on)
    c.change.ensures.on

pub returns-in-None-clause-err : goal.returns-in-None-clause-err
returns-in-None-clause-err c = on_err c.change.result _ _ (room-stands _ _) c.change.ensures.err

pub returns-in-Some-clause-on : goal.returns-in-Some-clause-on
returns-in-Some-clause-on c =
    on_ok c.order.result _ _ (λ orders t lines r s on. order-stands t lines r c.args.command.now c.in-Some.node _
    c.args.self.now _ (sym c.ingress.ensures ∙ c.in-Some.is)
    (next-post c.self.view_is c.deref.ensures.value c.greatest_clock-greatest.ensures
    (omega (arith, c.if-len-ge-MOST_POSTS.false, c.len.ensures, c.self.inside.posts.ok.0))) orders s on)
    c.order.ensures.on

pub returns-in-Some-clause-err : goal.returns-in-Some-clause-err
returns-in-Some-clause-err c = on_err c.order.result _ _ (room-stands _ _) c.order.ensures.err
