use Rattle.script_rules.proofs.{Alone.{function_end, one_list}, FailLines.fail-lines_fail, Follows.lines_follow, Grows.scripts_grow, Lawful.records_lawful, Posts.posts_follow, Restoring.failures-are_restored, Stops.stops_full}
use Rattle.script_rules.proofs.laws.every_script.Goals as goal

pub returns-clause-lawful : goal.returns-clause-lawful
returns-clause-lawful c =
    records_lawful (record {
      topology = c.every_world_run.ensures.topology;
      shown = c.every_world_run.ensures.image;
      laws = c.every_world_run.ensures.laws;
      quiet = c.every_world_run.ensures.quiet;
      same = c.every_world_run.ensures.same;
      links = c.every_world_run.ensures.links;
    }) c.every_record.ensures.runs c.every_merging.ensures.merges

pub returns-clause-follow : goal.returns-clause-follow
returns-clause-follow c = lines_follow

pub returns-clause-alone : goal.returns-clause-alone
returns-clause-alone c = one_list

pub returns-clause-function : goal.returns-clause-function
returns-clause-function c = function_end

pub returns-clause-grow : goal.returns-clause-grow
returns-clause-grow c = scripts_grow

pub returns-clause-posts : goal.returns-clause-posts
returns-clause-posts c = posts_follow

pub returns-clause-full : goal.returns-clause-full
returns-clause-full c = stops_full

pub returns-clause-restored : goal.returns-clause-restored
returns-clause-restored c =
    failures-are_restored c.every_failure.ensures.soon c.every_round_in_order.ensures.alone

pub returns-clause-fails : goal.returns-clause-fails
returns-clause-fails c = fail-lines_fail
