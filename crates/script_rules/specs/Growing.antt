-- From stage to stage logs and posts grow at their ends.
use Rattle.std.specs.Prelude.{ℕ, List, [], ◌∷◌}
use mathlib.Core.List.{IsPrefix}
use Rattle.round_rules.specs.Records.{Record, log_at, posts_in}
use Rattle.script_rules.specs.Stages.{Stage}

pub record GrowsTo (before after : Record) : Type 0 where
  pub logs : (n : ℕ) → IsPrefix (log_at before n) (log_at after n)
  pub posts : IsPrefix (posts_in before) (posts_in after)

-- each of these stages has grown from the one before, the first from this one
abbrev pub AreGrowing : Stage → List Stage → Type 0
AreGrowing s [] = Unit {0}
AreGrowing s (a ∷ more) = GrowsTo s.made a.made × AreGrowing a more
