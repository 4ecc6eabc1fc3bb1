use Rattle.std.proofs.Common.{ℕ, List, Option, Ok, subst, sym}
use Rattle.fleet.specs.Standing.{FleetState}
use Rattle.plan_reader.specs.Plans.{PlanOf}
use Rattle.commands.specs.Replies.{Run}
use Rattle.ason_main.specs.Answers.{IsAnswered}
use Rattle.ason_main.proofs.Replies.{no_memory}
use Rattle.ason_main.proofs.answers.run.Goals as goal

pub returns-in-Err : goal.returns-in-Err
returns-in-Err g c bs plan =
    no_memory g.K.Sink.written g.K.Sink.faults (Run c.args.pace) bs c.args.out.now c.args.kept.now c.requires.none

pub returns-in-Ok : goal.returns-in-Ok
returns-in-Ok g c =
    subst (λ (kept : Option FleetState). (bs : List ℕ) → PlanOf bs (Ok c.args.plan.now) →
    IsAnswered g.K.Sink.written g.K.Sink.faults (Run c.args.pace) bs c.args.out.now c.run_fleet-status.new.out kept
    c.run_fleet-status.result)
    (sym c.keep.ensures) c.run_fleet-status.ensures
