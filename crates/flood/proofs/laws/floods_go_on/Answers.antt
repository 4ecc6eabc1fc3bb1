use Rattle.flood.proofs.ReadAgain.{read_is_writable}
use Rattle.flood.proofs.laws.floods_go_on.Goals as goal

pub returns : goal.returns
returns c = read_is_writable
