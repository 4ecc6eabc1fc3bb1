use Rattle.std.proofs.{Common.{ap, ◌∙◌}, lemmas.Result.IfOk-weaker}
use Rattle.load_plan.specs.PhaseTexts.{phase_text}
use Rattle.ason_main.proofs.LoadedParts.{tells_phase}
use Rattle.ason_main.proofs.loading.phase_line.Goals as goal

pub returns : goal.returns
returns c =
    IfOk-weaker c.phase_text.result _ _
    (λ text told.
    tells_phase c.args.plan.now c.args.phase c.args.fleet.now c.in_ok-rows.rows text.items c.in_ok-rows.ensures
    (told ∙ ap (phase_text c.args.phase) c.items.ensures))
    c.phase_text.ensures
