use Rattle.world_rules.proofs.{Counted.events-are-counted, EveryRun.{FloodLaws, channels-have-the-frames, every-image-has-the-laws, every-run-is-shown, joined-know-the-links, joined-know-the-same, known-is-true, quiet-is-shown}, Flooded.{flooding-is-a-networks, known-is-flooded}, Learnt.topologies-find-each, Shown.{noise-is-not-shown, only-new-rows-are-shown, only-the-next-is-shown}, laws.every_world_run.Goals.After-learnt_rows}
use Rattle.world_rules.proofs.laws.every_world_run.Goals as goal

-- what every flooding has
flood-laws : (c : After-learnt_rows) → FloodLaws
flood-laws c = record {
  links = c.every_start.ensures.topology;
  same = c.every_flooding.ensures.same;
  joined = c.every_flooding.ensures.links;
  others = c.learnt_rows.ensures.others;
}

pub returns-clause-image : goal.returns-clause-image
returns-clause-image c = every-run-is-shown c.every_schedule.ensures.in_order c.learnt_rows.ensures.others

pub returns-clause-topology : goal.returns-clause-topology
returns-clause-topology c = topologies-find-each

pub returns-clause-noise : goal.returns-clause-noise
returns-clause-noise c = noise-is-not-shown

pub returns-clause-unmoved : goal.returns-clause-unmoved
returns-clause-unmoved c = only-the-next-is-shown

pub returns-clause-known : goal.returns-clause-known
returns-clause-known c = only-new-rows-are-shown

pub returns-clause-quiet : goal.returns-clause-quiet
returns-clause-quiet c = quiet-is-shown c.every_schedule.ensures.settled

pub returns-clause-channels : goal.returns-clause-channels
returns-clause-channels c = channels-have-the-frames

pub returns-clause-counts : goal.returns-clause-counts
returns-clause-counts c = events-are-counted

pub returns-clause-laws : goal.returns-clause-laws
returns-clause-laws c = every-image-has-the-laws c.every_schedule.ensures.in_order c.learnt_rows.ensures.others
    c.every_run.ensures.together

pub returns-clause-flooding : goal.returns-clause-flooding
returns-clause-flooding c = flooding-is-a-networks c.learnt_rows.ensures.others

pub returns-clause-rows : goal.returns-clause-rows
returns-clause-rows c = known-is-flooded c.learnt_rows.ensures.others

pub returns-clause-truth : goal.returns-clause-truth
returns-clause-truth c = known-is-true c.learnt_rows.ensures.others

pub returns-clause-same : goal.returns-clause-same
returns-clause-same c = joined-know-the-same (flood-laws (goal.at.returns-clause-same c).After-learnt_rows)

pub returns-clause-links : goal.returns-clause-links
returns-clause-links c = joined-know-the-links (flood-laws (goal.at.returns-clause-links c).After-learnt_rows)
