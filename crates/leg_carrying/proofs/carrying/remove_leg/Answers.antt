use Rattle.std.proofs.Common.{◌∙◌, subst, sym}
use Rattle.leg_table.specs.LegClaims.{MarksFit}
use Rattle.leg_carrying.proofs.MarkedLegs.{found-its, marks-without, same-marks}
use Rattle.leg_carrying.proofs.carrying.remove_leg.Goals as goal

pub give_up_lost-requires-clause-its : goal.give_up_lost-requires-clause-its
give_up_lost-requires-clause-its c =
    found-its c.args.lsp c.args.legs.now.legs _ (c.as_ref.ensures.value ∙ c.take-leg.ensures.leg)

pub unmark_found-requires-clause-its : goal.unmark_found-requires-clause-its
unmark_found-requires-clause-its c =
    found-its c.args.lsp c.args.legs.now.legs _ (c.as_ref-2.ensures.value ∙ c.take-leg.ensures.leg)

pub returns-clause-fit : goal.returns-clause-fit
returns-clause-fit c =
    let legs = c.args.legs.now.legs in
    let o = c.args.owner.now in
    let given = c.give_up_lost.new.owner in
    subst (λ gs. MarksFit gs c.unmark_found.new.owner) (sym c.take-leg.ensures.legs)
    (marks-without c.args.lsp legs given c.unmark_found.new.owner
    (same-marks legs o given c.give_up_lost.ensures.marks c.requires.fit) c.unmark_found.ensures)
