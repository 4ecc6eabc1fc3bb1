use Rattle.std.proofs.{Common.{◌∙◌, length, ap, sym, arith}, lemmas.Result.IfOk-weaker}
use Rattle.std.specs.Prelude.{slice_get}
use Rattle.survey.specs.Meetings.{meet_lists}
use Rattle.survey.proofs.MeetLists.{lists-count}
use Rattle.survey.proofs.report.Contends.list.Goals as goal

pub contends_at-requires : goal.contends_at-requires
contends_at-requires c =
    let count = lists-count c.self.inside.slots.items c.self.inside.groups.items in
    let same = ap length c.self.view_is in
    let lent = ap length c.deref.ensures.value in
    omega (arith, c.requires, count, same, lent)

pub returns : goal.returns
returns c =
    let same = sym c.self.view_is
    ∙ (λ i. meet_lists (sym c.deref-2.ensures.value i) (sym c.deref.ensures.value i)) in
    IfOk-weaker c.contends_at.result _ _ (λ list is. ap (λ lists. slice_get lists c.args.place) same ∙ is)
    c.contends_at.ensures
