use Rattle.std.proofs.{Common.{◌≡◌, ◌∙◌, ◌+◌, ◌-◌, Some, suc, drop, length, take, ap, sym, arith, length-drop}, lemmas.List.take_all, lemmas.Result.IfOk-weaker}
use Rattle.survey.specs.Meetings.{first_meets}
use Rattle.survey.proofs.MeetLists.{list-at}
use Rattle.survey.proofs.contends.contends_at.Goals as goal

pub returns : goal.returns
returns c =
    let groups = c.args.groups.now in
    let slots = c.args.slots.now in
    let k = c.args.place + 1 in
    let next : suc c.args.place ≡ k = omega arith in
    let rest : take (length groups - k) (drop k groups) ≡ drop k groups =
    take_all (length groups - k) (drop k groups) (omega (arith, length-drop k groups)) in
    IfOk-weaker c.contends_of_first.result _ _
    (λ list is. list-at slots groups c.args.place c.index-groups-place.result c.requires
    ∙ ap Some ((λ i. first_meets slots (sym c.index-groups-place.is i) (drop (next i) groups))
    ∙ ap (first_meets slots c.index-groups-place.result) (sym rest) ∙ sym is))
    c.contends_of_first.ensures
