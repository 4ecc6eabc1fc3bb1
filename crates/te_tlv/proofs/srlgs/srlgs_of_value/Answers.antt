use Rattle.std.proofs.Common.{◌<◌, arith, length, ap}
use Rattle.ason_base.specs.declared.limits.TheConstants.{MOST_SRLGS}
use Rattle.te_tlv.proofs.Rising.{too_many}
use Rattle.te_tlv.proofs.srlgs.srlgs_of_value.Goals as goal

pub returns-then-items-gt-MOST_SRLGS-clause-not_message : goal.returns-then-items-gt-MOST_SRLGS-clause-not_message
returns-then-items-gt-MOST_SRLGS-clause-not_message c is s are =
    let many : MOST_SRLGS < length c.in-Ok.srlgs = omega (arith, ap length c.items.ensures) in
    too_many c.args.value.now c.in-Ok.srlgs s c.in-Ok.ensures.rising c.in-Ok.ensures.same many are
