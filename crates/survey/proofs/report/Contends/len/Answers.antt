use Rattle.std.proofs.Common.{length, ap, arith}
use Rattle.survey.proofs.MeetLists.{lists-count}
use Rattle.survey.proofs.report.Contends.len.Goals as goal

pub returns : goal.returns
returns c =
    let groups = c.self.inside.groups in
    let count = lists-count c.self.inside.slots.items groups.items in
    let same = ap length c.self.view_is in
    omega (arith, count, same, c.len.ensures, groups.ok.0)
