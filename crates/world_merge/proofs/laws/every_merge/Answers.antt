use Rattle.world_merge.proofs.{MergedRuns.every-merge-is-a-run, Ordering.sorting-merges, Picking.picking-sorts, Posting.posts-tell-the-rest}
use Rattle.world_merge.proofs.laws.every_merge.Goals as goal

pub returns : goal.returns
returns c = record {
  run = every-merge-is-a-run;
  sorted = sorting-merges;
  picked = picking-sorts;
  posts = posts-tell-the-rest;
}
