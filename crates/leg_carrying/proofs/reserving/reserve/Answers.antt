use Rattle.std.proofs.Common.{◌∙◌, ap}
use Rattle.link_owner.specs.Owners.{OwnerState, label_freed}
use Rattle.leg_carrying.proofs.Restored.{claimed-comes, claimed-freed}
use Rattle.leg_carrying.proofs.reserving.reserve.Goals as goal

pub free-requires : goal.free-requires
free-requires c =
    rw c.in_ok-claim.ensures.ok (claimed-comes c.args.leg.now c.args.label.now c.args.owner.now c.requires.may.comes_in)

pub returns-in-Err-clause-err : goal.returns-in-Err-clause-err
returns-in-Err-clause-err c =
    let g = c.args.leg.now in
    let t = c.args.label.now in
    let o = c.args.owner.now in
    c.free.ensures
    ∙ ap (λ (s : OwnerState). record s { claims = label_freed t.fibre t.label g.lsp s.claims }) c.in_ok-claim.ensures.ok
    ∙ ap (λ claims. record o { claims = claims }) (claimed-freed g t o c.requires.may.comes_in c.requires.new)
