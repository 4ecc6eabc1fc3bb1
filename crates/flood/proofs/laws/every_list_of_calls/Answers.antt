use Rattle.flood.proofs.{RowsBrought.{known_stays, known_was_brought}, DueLaws.{acknowledged_is_off, due_until_acknowledged, goes_to_the_others, none_afterwards}}
use Rattle.flood.proofs.laws.every_list_of_calls.Goals as goal

pub returns : goal.returns
returns c = record {
  known = known_stays;
  brought = known_was_brought;
  others = goes_to_the_others;
  until = due_until_acknowledged;
  off = acknowledged_is_off;
  never_again = none_afterwards;
}
