use Rattle.std.proofs.{Common.{◌≡◌, false, not, subst, sym}, lemmas.List.Kept.AllPairs-filter}
use Rattle.ason_base.specs.Lsps.{same_lsp}
use Rattle.share_check.specs.Guards.{AreRisksInOrder, is_before}
use Rattle.share_check.proofs.labels.LabelGuards.unguard.Goals as goal

pub invariant_of-self : goal.invariant_of-self
invariant_of-self c =
    subst AreRisksInOrder (sym c.unguard.ensures)
    (AllPairs-filter (λ a b. is_before b a ≡ false) (λ p. not (same_lsp p.lsp c.args.lsp))
    c.self.inside.guarded.items c.self.invariant)
