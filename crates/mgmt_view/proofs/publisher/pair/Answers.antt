use Rattle.std.proofs.Common.{drop}
use Rattle.mgmt_view.proofs.Growing.{admits, grows-by, keeps-first}
use Rattle.mgmt_view.proofs.publisher.pair.Goals as goal

pub new-requires-clause-rule : goal.new-requires-clause-rule
new-requires-clause-rule g c = keeps-first c.new-one.result

pub publish_as-writer-requires : goal.publish_as-writer-requires
publish_as-writer-requires g c next is =
    let w = c.in_ok-writer.writer in
    grows-by _ _ w.desk.shown.value next (drop w.behind w.log.items) is

pub reader-reader-requires : goal.reader-reader-requires
reader-reader-requires g c = admits
