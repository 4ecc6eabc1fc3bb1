use Rattle.std.proofs.{Common.rules, lemmas.Fn.filter_same}
use Rattle.link_owner.proofs.fibres.take_off.Goals as goal

pub returns : goal.returns
returns c = filter_same _ _ _ (λ g b f k. search rules) _ _ c.retain.ensures.filtered
