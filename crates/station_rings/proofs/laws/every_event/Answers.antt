use Rattle.station_rings.proofs.{Besides.{listening-is-no-deed, posts-are-deeds}, Deeds.{logs-are-counted, logs-are-few}, Events.{frames-are-deeds, items-are-deeds, noise-is-a-deed, ticks-are-deeds}}
use Rattle.station_rings.proofs.laws.every_event.Goals as goal

pub returns : goal.returns
returns c = record {
  tick = ticks-are-deeds;
  item = items-are-deeds;
  frame = frames-are-deeds;
  noise = noise-is-a-deed;
  post = posts-are-deeds;
  listening = listening-is-no-deed;
  count = logs-are-counted;
  few = logs-are-few;
}
