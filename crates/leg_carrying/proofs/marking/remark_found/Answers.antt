use Rattle.std.proofs.Common.{Some, ◌∙◌}
use Rattle.leg_table.specs.LegClaims.{is_marked_on}
use Rattle.leg_carrying.proofs.MarkedLegs.{open-after}
use Rattle.leg_carrying.proofs.marking.remark_found.Goals as goal

pub mark-requires-clause-there : goal.mark-requires-clause-there
mark-requires-clause-there c f x e = c.unmark_found.ensures.fibres f ∙ c.requires.there f x e

pub mark-requires-clause-free : goal.mark-requires-clause-free
mark-requires-clause-free c =
    let g = c.args.leg.now in
    let o = c.args.owner.now in
    open-after g.lsp o c.unmark_found.new.owner (λ f x. is_marked_on f x (Some g)) c.unmark_found.ensures
    c.requires.free
