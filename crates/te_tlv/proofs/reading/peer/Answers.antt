use Rattle.te_tlv.specs.Rows.{HasPeer}
use Rattle.te_tlv.proofs.SubTlvsFound.{none_of}
use Rattle.te_tlv.proofs.reading.peer.Goals as goal

pub returns-in_err-value-clause-none : goal.returns-in_err-value-clause-none
returns-in_err-value-clause-none c =
    none_of _ c.args.found.now (HasPeer c.args.origin)
    (λ subs are n has. c.in_err-value.ensures.none subs are has.0 has.1)
