use Rattle.std.proofs.Common.{[], ℕ, List, Option, Ok, Some, ◌≡◌, subst, sym}
use Rattle.fleet.specs.Standing.{FleetState}
use Rattle.plan_reader.specs.Plans.{PlanOf}
use Rattle.round_rules.specs.Records.{new_record}
use Rattle.table_text.specs.EndsText.{plan_node}
use Rattle.commands.specs.Replies.{Watch}
use Rattle.ason_main.specs.Answers.{IsAnswered}
use Rattle.ason_main.proofs.{Replies.no_memory, Viewed.named_node}
use Rattle.ason_main.proofs.watching.watch.Goals as goal

pub watch_node-status-requires-clause-node : goal.watch_node-status-requires-clause-node
watch_node-status-requires-clause-node g c lives bounds =
    named_node c.args.plan.now c.requires.node.0 c.args.node c.in-Ok.fleet [] new_record c.requires.node.1
    c.in-Ok.ensures.stands

pub returns-in-Err : goal.returns-in-Err
returns-in-Err g c bs name plan named =
    no_memory g.K.Sink.written g.K.Sink.faults (Watch c.args.pace name) bs c.args.out.now c.args.kept.now
    c.requires.none

pub returns-in-Ok : goal.returns-in-Ok
returns-in-Ok g c =
    subst (λ (kept : Option FleetState). (bs : List ℕ) (name : List ℕ) → PlanOf bs (Ok c.args.plan.now) →
    plan_node c.args.plan.now name ≡ Some c.args.node →
    IsAnswered g.K.Sink.written g.K.Sink.faults (Watch c.args.pace name) bs c.args.out.now
    c.watch_node-status.new.out kept c.watch_node-status.result)
    (sym c.keep.ensures) c.watch_node-status.ensures
