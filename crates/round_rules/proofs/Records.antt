-- The logs and posts of a record are a run.
use Rattle.std.proofs.Common.{refl}
use Rattle.world_merge.proofs.{MergedRuns.every-merge-is-a-run, Ordering.sorting-merges}
use Rattle.round_rules.specs.{RecordLaws.RecordsAreRuns, Records.{deeds_at, log_at, posts_in}}

pub records-are-runs : RecordsAreRuns
records-are-runs t r m is merged =
    every-merge-is-a-run t (deeds_at r) m is.histories
    (sorting-merges (deeds_at r) (log_at r) (posts_in r) m
    (record { each_log = λ n. refl; all_posts = is.posts; rises = is.rises }) merged)
