use Rattle.round_rules.proofs.{Assembling.{noise-is-a-step, posts-are-steps}, Naming.lines-stand-for, Noising.noise-stands-for, Posting.posts-stand-for, Unposted.{cut-rounds-post-nothing, rounds-post-nothing}}
use Rattle.round_rules.proofs.fleet_laws.every_command.Goals as goal

pub returns : goal.returns
returns c = record {
  posts = posts-stand-for;
  posted = posts-are-steps;
  noise = noise-stands-for;
  noised = noise-is-a-step;
  lines = lines-stand-for;
  rounds = rounds-post-nothing;
  cuts = cut-rounds-post-nothing;
}
