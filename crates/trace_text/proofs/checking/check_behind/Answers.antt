use Rattle.std.proofs.Common.{◌∙◌, IfErr, IfOk, Option, ap, subst, sym}
use Rattle.std.specs.Option.{option_map}
use Rattle.trace_text.specs.{Checks.{IsFaultBy, IsFoundAfter, IsWrongAfter}, LinesRead.{LinesRead, lines_now}, TraceForms.is_version_2}
use Rattle.trace_text.proofs.checking.check_behind.Goals as goal

pub returns-clause-run : goal.returns-clause-run
returns-clause-run c =
    subst (λ (o : Option LinesRead). IfOk c.check_lines.result
    (IsFoundAfter (is_version_2 c.args.version) c.args.plan.now o))
    (sym (ap (option_map lines_now) c.in-Some.is) ∙ c.in_ok-read.ensures) c.check_lines.ensures.run

pub returns-clause-wrong : goal.returns-clause-wrong
returns-clause-wrong c =
    subst (λ (o : Option LinesRead). IfErr c.check_lines.result
    (IsFaultBy (IsWrongAfter (is_version_2 c.args.version) c.args.plan.now o)))
    (sym (ap (option_map lines_now) c.in-Some.is) ∙ c.in_ok-read.ensures) c.check_lines.ensures.wrong
