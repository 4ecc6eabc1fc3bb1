use Rattle.round_rules.proofs.{Records.records-are-runs, Standing.standing-is-left}
use Rattle.round_rules.proofs.laws.every_record.Goals as goal

pub returns : goal.returns
returns c = record { runs = records-are-runs; rings = standing-is-left }
