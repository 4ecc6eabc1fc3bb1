use Rattle.std.proofs.Common.{subst, sym}
use Rattle.ason_base.proofs.Results.{passed_on}
use Rattle.plan_reader.specs.declared.lines.Line.TheVariants as said
use Rattle.ason_main.specs.Running.{Stops}
use Rattle.ason_main.proofs.{InView.shown-stay, Lines.{post_does, post_stays}}
use Rattle.ason_main.proofs.runner.lines.post_line.Goals as goal

pub returns-in_err-post-clause-stops : goal.returns-in_err-post-clause-stops
returns-in_err-post-clause-stops c t workers =
    passed_on c.from_residual.result _ _
    (λ e same.
    subst (Stops t workers (said.Post c.args.command.now) c.args.fleet.now c.post.new.self) (sym same)
    (post_stays t workers (said.Post c.args.command.now) c.args.fleet.now c.post.new.self c.in_err-post.ensures.err))
    c.from_residual.ensures.1

pub returns-clause-done : goal.returns-clause-done
returns-clause-done c t workers =
    post_does t workers c.args.command.now c.args.fleet.now c.post.new.self c.in_ok-post.ensures.on

pub returns-clause-views : goal.returns-clause-views
returns-clause-views c =
    shown-stay c.args.fleet.now.stations c.post.new.self.stations c.post.ensures.shown
