use Rattle.std.proofs.Common.{sym}
use Rattle.ason_main.proofs.WatchReplies.{unknown_told}
use Rattle.ason_main.proofs.watching.watch_named.Goals as goal

pub watch-requires-clause-node : goal.watch-requires-clause-node
watch-requires-clause-node g c lives bounds = (c.args.name.now, sym c.in-Some.ensures)

pub returns-in-Some : goal.returns-in-Some
returns-in-Some g c bs plan = c.watch.ensures bs c.args.name.now plan (sym c.in-Some.ensures)

pub returns-in-None : goal.returns-in-None
returns-in-None g c bs plan =
    unknown_told g.K.Sink.written g.K.Sink.faults bs c.args.name.now c.args.plan.now c.args.pace c.args.kept.now
    c.args.out.now c.tell_unknown.new.out c.tell_unknown.result plan (sym c.in-None.ensures) c.requires.none
    c.tell_unknown.ensures
