use Rattle.std.proofs.Common.{None, Some, ◌∙◌, ap, map, refl, string_bytes, sym}
use Rattle.commands.specs.{declared.tasks.Task.Task, Replies.Usage}
use Rattle.ason_main.proofs.Replies.{task_reply, task_tells}
use Rattle.ason_main.proofs.answers.answer.Goals as goal

pub returns-in_default : goal.returns-in_default
returns-in_default g c = (
  Usage,
  task_reply g.S.Source.left g.S.Source.handed g.S.Source.ended g.S.Source.faults (map string_bytes c.args.words.now)
      c.args.src.now c.args.src.now Usage c.args.kept.now None (sym c.task_of.ensures ∙ c.in_default.is)
      (refl, refl, c.requires),
  c.tell_usage.ensures,
  task_tells (map string_bytes c.args.words.now) Usage c.tell_usage.result None (sym c.task_of.ensures ∙ c.in_default.is) tt,
)

pub returns-in-Load : goal.returns-in-Load
returns-in-Load g c =
    let given = c.load.ensures in (
      given.0,
      task_reply g.S.Source.left g.S.Source.handed g.S.Source.ended g.S.Source.faults
          (map string_bytes c.args.words.now) c.args.src.now c.args.src.now given.0 c.load.new.kept
          (Some (Task.Load c.in-Load.what))
          (sym c.task_of.ensures ∙ (c.in-Some.is ∙ ap Some c.in-Load.is)) (given.1, refl),
      given.2,
      task_tells (map string_bytes c.args.words.now) given.0 c.load.result (Some (Task.Load c.in-Load.what))
          (sym c.task_of.ensures ∙ (c.in-Some.is ∙ ap Some c.in-Load.is)) tt,
    )

pub returns-in-Of : goal.returns-in-Of
returns-in-Of g c =
    let given = c.read.ensures in (
      given.0,
      task_reply g.S.Source.left g.S.Source.handed g.S.Source.ended g.S.Source.faults
          (map string_bytes c.args.words.now) c.args.src.now c.read.new.src given.0 c.read.new.kept
          (Some (Task.Of c.in-Of.inquiry))
          (sym c.task_of.ensures ∙ (c.in-Some.is ∙ ap Some c.in-Of.is)) given.1,
      given.2,
      task_tells (map string_bytes c.args.words.now) given.0 c.read.result (Some (Task.Of c.in-Of.inquiry))
          (sym c.task_of.ensures ∙ (c.in-Some.is ∙ ap Some c.in-Of.is)) given.3,
    )
