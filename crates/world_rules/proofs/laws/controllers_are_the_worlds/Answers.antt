use Rattle.world_rules.proofs.{Stepping.{contents-are-taken, deliveries-are-taken, items-are-handled, noise-moves-nothing, ticks-are-ticked}, Untouched.{channels-join-neighbours, others-are-untouched}}
use Rattle.world_rules.proofs.laws.controllers_are_the_worlds.Goals as goal

pub returns : goal.returns
returns c = record {
  contents = contents-are-taken;
  deliveries = deliveries-are-taken;
  noise = noise-moves-nothing;
  items = items-are-handled;
  ticks = ticks-are-ticked;
  others = others-are-untouched;
  neighbours = channels-join-neighbours;
}
