use Rattle.std.proofs.Common.{sym, subst}
use Rattle.std.specs.Prelude.{IfErr}
use Rattle.link_owner.specs.{Claims.RefusedFor, Owners.claims_of}
use Rattle.leg_table.specs.LegClaims.{bars}
use Rattle.leg_carrying.proofs.reserving.give.Goals as goal

pub returns-in-Work-clause-fault : goal.returns-in-Work-clause-fault
returns-in-Work-clause-fault c =
    let claims = claims_of c.args.label.now.fibre c.args.owner.now.claims in
    subst (λ r. IfErr c.claim.result (RefusedFor (bars r c.args.label.now.label) claims)) (sym c.in-Work.is)
    c.claim.ensures.fault

pub returns-in-Back-clause-fault : goal.returns-in-Back-clause-fault
returns-in-Back-clause-fault c =
    let claims = claims_of c.args.label.now.fibre c.args.owner.now.claims in
    subst (λ r. IfErr c.hold.result (RefusedFor (bars r c.args.label.now.label) claims)) (sym c.in-Back.is)
    c.hold.ensures.fault
