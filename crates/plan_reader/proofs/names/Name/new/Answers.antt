use Rattle.plan_reader.proofs.NameTexts.{utf8_name}
use Rattle.plan_reader.proofs.names.Name.new.Goals as goal

pub unreachable-requires : goal.unreachable-requires
unreachable-requires c = c.in_default.ensures.cases.0 (utf8_name c.args.text.now c.requires)
