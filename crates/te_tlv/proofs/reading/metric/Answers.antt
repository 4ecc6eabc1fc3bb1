use Rattle.std.proofs.Common.{rules}
use Rattle.te_tlv.specs.Rows.{HasMetric}
use Rattle.te_tlv.proofs.SubTlvsFound.{none_of}
use Rattle.te_tlv.proofs.reading.metric.Goals as goal

pub returns-in_err-value-clause-none : goal.returns-in_err-value-clause-none
returns-in_err-value-clause-none c =
    none_of _ c.args.found.now HasMetric (λ subs are n has. c.in_err-value.ensures.none subs are has.0 has.1)

pub returns-else-metric-gt-MOST_METRIC-clause-found : goal.returns-else-metric-gt-MOST_METRIC-clause-found
returns-else-metric-gt-MOST_METRIC-clause-found c = search (rules)
