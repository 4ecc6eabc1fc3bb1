use Rattle.std.proofs.{Common.rules, lemmas.Fn.filter_same}
use Rattle.share_check.proofs.guarded.unguard.Goals as goal

pub returns : goal.returns
returns c = filter_same _ _ _ (λ g b f k. search rules) _ _ c.retain.ensures.filtered
