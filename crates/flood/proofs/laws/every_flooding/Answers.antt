use Rattle.flood.proofs.NetworkLaws.{due_rises, joined_know_the_links, joined_know_the_same, known_can_be_searched, known_is_true, one_number_is_one_row, sent_is_known, unknown_is_new_there}
use Rattle.flood.proofs.laws.every_flooding.Goals as goal

pub returns : goal.returns
returns c = record {
  truth = known_is_true;
  search = known_can_be_searched;
  sent = sent_is_known;
  new = unknown_is_new_there;
  rising = due_rises;
  numbers = one_number_is_one_row;
  same = joined_know_the_same;
  links = joined_know_the_links;
}
