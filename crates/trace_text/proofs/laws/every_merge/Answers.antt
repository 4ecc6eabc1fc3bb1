use Rattle.trace_text.proofs.MergesCome.{merge_comes}
use Rattle.trace_text.proofs.laws.every_merge.Goals as goal

pub returns : goal.returns
returns c = merge_comes
