-- The order of guarded risks: by risk, and those of one risk by LSP.
use Rattle.std.proofs.Common.{◌≡◌, ◌≤◌, ◌<◌, ℕ, true, false, List, length, get_or, refl, sym, subst, inl, inr}
use Rattle.std.specs.{Prelude.{◌&&◌, insert}, List.Sorted.IsPartitionedBy}
use Rattle.ason_base.specs.{Lsps.{lsp_before, same_lsp}, Risks.{is_below, same_risk}, InOrder.IsKeyOrder}
use Rattle.ason_base.proofs.{Inserted.rises-insert, KeyOrder.{before-third, by_key, by_parts, not-back}, LspOrder.lsp_order, RiskOrder.{risk_key_order, same_risk-refl}, Numbers.less-or-same}
use Rattle.share_check.specs.{declared.guarded.GuardedRisk.GuardedRisk, Guards.{AreRisksInOrder, is_before}}

guard_order : IsKeyOrder (λ a b. same_risk a.risk b.risk && same_lsp a.lsp b.lsp) is_before
guard_order =
    by_key (λ (g : GuardedRisk). (g.risk, g.lsp)) (λ k. record { risk = k.0; lsp = k.1 }) (λ g. refl)
    (by_parts risk_key_order lsp_order)

-- of one risk the LSPs decide
pub by-lsp : (p q : GuardedRisk) → p.risk ≡ q.risk → is_before p q ≡ lsp_before p.lsp q.lsp
by-lsp p q is =
    let below : is_below p.risk q.risk ≡ false =
    subst (λ r. is_below p.risk r ≡ false) is (risk_key_order.never p.risk) in
    let same : same_risk p.risk q.risk ≡ true = subst (λ r. same_risk p.risk r ≡ true) is (same_risk-refl p.risk) in
    rw (below, same) refl

-- those that are before one come first
pub parted : (guarded : List GuardedRisk) (one : GuardedRisk) → AreRisksInOrder guarded →
    IsPartitionedBy (λ x. is_before x one) guarded
parted guarded one ordered i j d le within e = elim (less-or-same i j le) [
  | inl less ↦ before-third guard_order (get_or guarded i d) (get_or guarded j d) one (ordered i j d less within) e
  | inr same ↦ subst (λ n. is_before (get_or guarded n d) one ≡ true) (sym same) e
]

-- a risk is put in after all that are before it, and before all others
pub put-in-order : (guarded : List GuardedRisk) (n : ℕ) (one : GuardedRisk) → n ≤ length guarded →
    AreRisksInOrder guarded →
    ((k : ℕ) (d : GuardedRisk) → k < n → is_before (get_or guarded k d) one ≡ true) →
    ((k : ℕ) (d : GuardedRisk) → n ≤ k → k < length guarded → is_before (get_or guarded k d) one ≡ false) →
    AreRisksInOrder (insert guarded n one)
put-in-order guarded n one within ordered before after =
    rises-insert (λ a b. is_before b a ≡ false) guarded n one within ordered
    (λ k d less. not-back guard_order (get_or guarded k d) one (before k d less))
    (λ k d from below. after k d from below)
