use Rattle.round_rules.proofs.{Placing.{looks-go-on, looks-had-begun, stations-are-placed}, Stopping.nodes-go-on, Working.{rounds-begin, rounds-end}}
use Rattle.round_rules.proofs.fleet_laws.every_worker.Goals as goal

pub returns : goal.returns
returns c = record {
  begins = rounds-begin;
  placed = stations-are-placed;
  node = nodes-go-on;
  looks = looks-go-on;
  begun = looks-had-begun;
  ends = rounds-end;
}
