use Rattle.round_rules.proofs.PartStanding.{deliveries-stand, freeing-stands, holding-stands, items-stand, leaving-stands, listening-stands, losing-stands, noise-stands, posts-stand, taking-stands, ticks-stand}
use Rattle.round_rules.proofs.part_laws.every_part.Goals as goal

pub returns : goal.returns
returns c = record {
  tick = ticks-stand;
  item = items-stand;
  listening = listening-stands;
  taking = taking-stands;
  holding = holding-stands;
  freeing = freeing-stands;
  delivering = deliveries-stand;
  losing = losing-stands;
  leaving = leaving-stands;
  noise = noise-stands;
  post = posts-stand;
}
