use Rattle.std.proofs.Common.{subst}
use Rattle.link_owner.specs.{Claims.RefusedFor, Owners.claims_of}
use Rattle.leg_table.specs.LegClaims.{bars}
use Rattle.leg_carrying.proofs.ReservedLabels.{none-least}
use Rattle.leg_carrying.proofs.reserving.claim.Goals as goal

pub unreachable-requires : goal.unreachable-requires
unreachable-requires c =
    let claims = claims_of c.args.label.now.fibre c.args.owner.now.claims in
    let bar = bars c.args.leg.now.role c.args.label.now.label in
    none-least bar c.in-Err-Held.field-0-0 claims c.requires.free
    (subst (RefusedFor bar claims) c.in-Err-Held.field-0-is c.in-Err-Held.ensures.fault)
