use Rattle.std.proofs.{Common.{not, ap, ◌∙◌}, Math.Bool.not-not}
use Rattle.plan_reader.proofs.Elements.{known_keys}
use Rattle.plan_reader.proofs.values.has_strange_member.Goals as goal

pub returns : goal.returns
returns c = ap not (c.knows_all.ensures ∙ known_keys c.args.shape c.args.table.now.entries) ∙ not-not _
