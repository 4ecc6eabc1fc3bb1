use Rattle.std.proofs.Common.{drop, sym, ap}
use Rattle.mgmt_view.proofs.Growing.{grows-by, published-ok}
use Rattle.mgmt_view.proofs.publisher.publish_with.Goals as goal

pub publish_as-requires : goal.publish_as-requires
publish_as-requires g c next is =
    let w = c.append.new.self in
    grows-by _ _ w.desk.shown.value next (drop w.behind w.log.items) is

pub returns-clause-ok : goal.returns-clause-ok
returns-clause-ok g c =
    let w = c.append.new.self in
    let u = c.publish_as.result.0 in
    rw (sym c.in-Ok.ensures.pending)
    (published-ok c.publish_as.result.1 c.args.writer.desk.shown.value w.desk.shown.value u.desk.shown.value
    (drop w.behind w.log.items) (drop u.behind u.log.items) (ap (λ d. d.shown.value) c.in-Ok.ensures.desk)
    c.publish_as.ensures.values)
