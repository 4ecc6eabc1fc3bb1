use Rattle.ason_base.specs.declared.commands.Command.TheVariants.{Fail}
use Rattle.round_laws.proofs.{Fleets.hits, Since.since-are_whole}
use Rattle.round_laws.proofs.laws.every_failure.Goals as goal

pub returns : goal.returns
returns c = record {
  since = since-are_whole;
  soon = λ t es old posted new g k valid is leads none calm post is_posted rounds.
      hits t valid c.every_world_run.ensures.topology c.every_world_run.ensures.image c.every_run.ensures.home
      c.every_run.ensures.soon c.every_world_run.ensures.quiet es old posted new g k is leads none calm post
      is_posted (since-are_whole t es (Fail g) old posted new k leads none.hops post rounds);
}
