use Rattle.std.proofs.Common.{◌↔◌, ◌∙◌, ℕ, List, Contains, subst}
use Rattle.std.specs.Prelude.{IfOk}
use Rattle.te_tlv.proofs.srlgs.distinct.Goals as goal

pub returns-clause-same : goal.returns-clause-same
returns-clause-same c =
    subst (λ (ns : List ℕ). IfOk c.of.result (λ s. (n : ℕ) → Contains s n ↔ Contains ns n))
    (c.deref.ensures.value ∙ c.in_ok-numbers.ensures) c.of.ensures.same
