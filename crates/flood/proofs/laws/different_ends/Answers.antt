use Rattle.flood.proofs.DifferentEnds.{ends_are_listed, ends_stand_once}
use Rattle.flood.proofs.laws.different_ends.Goals as goal

pub returns : goal.returns
returns c = record { listed = ends_are_listed; once = ends_stand_once }
