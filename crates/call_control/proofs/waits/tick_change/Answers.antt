use Rattle.std.proofs.Common.{◌≡◌, ℕ, ap, arith, sym, ◌∙◌}
use Rattle.mesh_rules.specs.{Changes.followed_by, Waits.{all_ticked, call_ticked}}
use Rattle.call_control.proofs.Ticked.{none-wait, ticked-more}
use Rattle.call_control.proofs.waits.tick_change.Goals as goal

pub loop-call-preserved : goal.loop-call-preserved
loop-call-preserved c =
    let t = c.args.tables.now in
    let call = c.call-item.result in
    c.in_ok-tick_call.ensures
    ∙ ap (λ a. followed_by a (call_ticked t.wait t.legs call)) c.loop-call.invariant
    ∙ sym (ticked-more t.wait t.legs c.calls-call-items.result.now c.loop-call.call-index call c.loop-call-test.true
    (sym c.call-item.is))

pub returns-then-wait-eq0 : goal.returns-then-wait-eq0
returns-then-wait-eq0 c =
    let t = c.args.tables.now in
    let none : t.wait ≡ 0 = grind arith in
    c.nothing-change.ensures
    ∙ sym (ap (λ (n : ℕ). all_ticked n t.legs c.args.calls.now.calls) none ∙ none-wait t.legs c.args.calls.now.calls)
