use Rattle.te_tlv.proofs.Once.{no_fields}
use Rattle.te_tlv.proofs.reading.read_fields.Goals as goal

pub returns-in_err-link-clause-none : goal.returns-in_err-link-clause-none
returns-in_err-link-clause-none c =
    no_fields _ c.args.origin c.args.found.now (λ subs are peer metric link f. c.in_err-link.ensures.none subs are link
    f.has_link)

pub returns-in_err-metric-clause-none : goal.returns-in_err-metric-clause-none
returns-in_err-metric-clause-none c =
    no_fields _ c.args.origin c.args.found.now (λ subs are peer metric link f. c.in_err-metric.ensures.none subs are
    metric f.has_metric)

pub returns-in_err-peer-clause-none : goal.returns-in_err-peer-clause-none
returns-in_err-peer-clause-none c =
    no_fields _ c.args.origin c.args.found.now (λ subs are peer metric link f. c.in_err-peer.ensures.none subs are peer
    f.has_peer)
