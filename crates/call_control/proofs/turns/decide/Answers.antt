use Rattle.std.proofs.{Common.{rules, ap, ◌∙◌}, lemmas.Result.on_ok_weaker}
use Rattle.std.specs.Option.{option_copied}
use Rattle.mesh_rules.specs.{Changes.followed_by, Turns.has_any}
use Rattle.call_control.proofs.{Decided.decides-nothing, turns.decide.Goals.{in_default-via-in-Guarded+else-works, in_default-via-in-Stuck+then-this-3, in_default-via-in-Turned+else-this+else-this-2, in_default-via-in-Turned+then-this, in_default-via-in_default}}
use Rattle.call_control.proofs.turns.decide.Goals as goal

pub returns-in_default : goal.returns-in_default
returns-in_default c = elim c.in_default.branch [
  | in_default-via-in-Guarded+else-works w ↦ search rules
  | in_default-via-in-Turned+then-this w ↦ search rules
  | in_default-via-in-Turned+else-this+else-this-2 w ↦ search rules
  | in_default-via-in-Stuck+then-this-3 w ↦ search rules
  | in_default-via-in_default w ↦
      let call = c.args.call in
      let same = decides-nothing c.args.parts.now.tables.now.legs call (option_copied c.args.back) call.state
      (has_any call.work_reports)
      (has_any call.back_reports) w.in_default.not-Guarded-0 w.in_default.not-Turned-0 w.in_default.not-Stuck-0 in
      on_ok_weaker c.put_call-in_default.result (λ put. put ∙ ap (followed_by c.args.change.now) same)
      c.put_call-in_default.ensures
]
