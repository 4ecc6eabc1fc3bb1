use Rattle.std.proofs.{Common.rules, lemmas.Fn.filter_same}
use Rattle.ason_base.proofs.tables.Fibres.remove.Goals as goal

pub returns : goal.returns
returns c = rw (← c.self.view_is) (filter_same _ _ _ (λ g b f k. search rules) _ _ c.retain.ensures.filtered)
