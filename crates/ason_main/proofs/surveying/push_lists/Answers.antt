use Rattle.std.proofs.Common.{◌≡◌, ◌∙◌, ◌+◌, ◌++◌, suc, string_bytes, take, ap, sym, append_assoc, arith}
use Rattle.std.specs.Prelude.{flat_map}
use Rattle.table_text.specs.SurveyText.{contend_line}
use Rattle.ason_main.proofs.SurveyRuns.{one-more-list}
use Rattle.ason_main.proofs.surveying.push_lists.Goals as goal

pub loop-place-preserved : goal.loop-place-preserved
loop-place-preserved c =
    let f = contend_line c.args.plan.now in
    let lists = c.args.contends.now in
    let place = c.loop-place.place in
    let list = c.in_ok-list.list.items in
    let before = flat_map f (flat_map (λ l. l) (take place lists)) in
    let next : suc place ≡ place + 1 = omega arith in
    c.in_ok-push_contends.ensures
    ∙ (λ i. c.loop-place.invariant i ++ flat_map f (c.deref.ensures.value i))
    ∙ append_assoc (string_bytes c.args.text.now) before (flat_map f list)
    ∙ ap (λ t. string_bytes c.args.text.now ++ t)
    (sym (one-more-list f lists place list c.in_ok-list.ensures)
    ∙ ap (λ k. flat_map f (flat_map (λ l. l) (take k lists))) next)
