use Rattle.std.proofs.Common.{sym, ◌∙◌}
use Rattle.te_tlv.proofs.Lengths.{length-srlgs}
use Rattle.te_tlv.proofs.writing.srlgs_len.Goals as goal

pub returns-else-is_empty-clause-len : goal.returns-else-is_empty-clause-len
returns-else-is_empty-clause-len c = sym (length-srlgs c.args.srlgs.now (sym c.is_empty.ensures ∙ c.if-is_empty.false))
