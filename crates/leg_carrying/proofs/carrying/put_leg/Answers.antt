use Rattle.std.proofs.Common.{subst, sym}
use Rattle.link_owner.specs.Marks.{has_fibre_marks}
use Rattle.leg_table.specs.LegClaims.{MarksFit, MayMark}
use Rattle.leg_carrying.proofs.MarkedLegs.{found-its, marks-with, open-of, same-marks, there-of}
use Rattle.leg_carrying.proofs.carrying.put_leg.Goals as goal

pub give_up_lost-requires-clause-its : goal.give_up_lost-requires-clause-its
give_up_lost-requires-clause-its c = found-its c.args.leg.lsp c.args.legs.now.legs _ c.get-before.ensures

pub remark_found-requires-clause-its : goal.remark_found-requires-clause-its
remark_found-requires-clause-its c = found-its c.args.leg.lsp c.args.legs.now.legs _ c.get-before.ensures

pub remark_found-requires-clause-there : goal.remark_found-requires-clause-there
remark_found-requires-clause-there c =
    let g = c.args.leg in
    let legs = c.args.legs.now.legs in
    let given = c.give_up_lost.new.owner in
    let same = c.give_up_lost.ensures.marks in
    there-of g legs given (same-marks legs c.args.owner.now given same c.requires.fit)
    (subst (λ marks. MayMark (has_fibre_marks marks) legs g) (sym same) c.requires.marks)

pub remark_found-requires-clause-free : goal.remark_found-requires-clause-free
remark_found-requires-clause-free c =
    let g = c.args.leg in
    let legs = c.args.legs.now.legs in
    let given = c.give_up_lost.new.owner in
    let same = c.give_up_lost.ensures.marks in
    open-of g legs given (same-marks legs c.args.owner.now given same c.requires.fit)
    (subst (λ marks. MayMark (has_fibre_marks marks) legs g) (sym same) c.requires.marks)

pub returns-clause-fit : goal.returns-clause-fit
returns-clause-fit c =
    let legs = c.args.legs.now.legs in
    let o = c.args.owner.now in
    let given = c.give_up_lost.new.owner in
    let after = c.remark_found.new.owner in
    subst (λ gs. MarksFit gs after) (sym c.put.ensures.legs)
    (marks-with c.args.leg legs given after (same-marks legs o given c.give_up_lost.ensures.marks c.requires.fit)
    c.remark_found.ensures)
