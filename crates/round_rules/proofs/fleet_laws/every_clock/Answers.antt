use Rattle.round_rules.proofs.{Clocks.stamps-are-few, Filling.{deeds-are-few, limits-are-logs, posts-still-follow}}
use Rattle.round_rules.proofs.fleet_laws.every_clock.Goals as goal

pub returns : goal.returns
returns c = record {
  few = stamps-are-few;
  posts = posts-still-follow;
  deeds = deeds-are-few;
  limits = limits-are-logs;
}
