-- LSPs and fibres that are the same, and the order of LSPs.
use Rattle.std.proofs.Common.{◌≡◌, Bool, true, false, nat_eq, refl, eqb-true}
use Rattle.std.specs.Prelude.{◌&&◌}
use Rattle.ason_base.specs.{declared.ids.Fibre.Fibre, declared.ids.Lsp.Lsp, Lsps.{lsp_before, same_bool, same_fibre, same_lsp}, InOrder.IsKeyOrder}
use Rattle.ason_base.proofs.{KeyOrder.{apart, by_key, by_parts, number_order, same-by}, Numbers.self-number}

-- LSPs

-- by ingress, then by tunnel, then by number
pub lsp_order : IsKeyOrder same_lsp lsp_before
lsp_order =
    by_key (λ (l : Lsp). (l.ingress.0, (l.tunnel, l.lsp)))
    (λ k. record { ingress = record { 0 = k.0 }; tunnel = k.1.0; lsp = k.1.1 }) (λ l. refl)
    (by_parts number_order (by_parts number_order number_order))

pub same_lsp-refl : (a : Lsp) → same_lsp a a ≡ true
same_lsp-refl = lsp_order.itself

pub same_lsp-eq : (a b : Lsp) → same_lsp a b ≡ true → a ≡ b
same_lsp-eq = lsp_order.one

-- what is the same as another is the same as what that is the same as
pub same_lsp-by : (a b m : Lsp) → same_lsp a b ≡ true → same_lsp a m ≡ same_lsp b m
same_lsp-by = same-by lsp_order

pub before-self : (a : Lsp) → lsp_before a a ≡ false
before-self = lsp_order.never

pub before-before : (a b c : Lsp) → lsp_before a b ≡ true → lsp_before b c ≡ true → lsp_before a c ≡ true
before-before = lsp_order.through

pub before-apart : (a b : Lsp) → lsp_before a b ≡ true → same_lsp a b ≡ false
before-apart = apart lsp_order

-- Fibres

pub same_bool-refl : (a : Bool) → same_bool a a ≡ true
same_bool-refl true = refl
same_bool-refl false = refl

pub same_bool-eq : (a b : Bool) → same_bool a b ≡ true → a ≡ b
same_bool-eq true true e = refl
same_bool-eq true false e = absurd (cc e)
same_bool-eq false true e = absurd (cc e)
same_bool-eq false false e = refl

pub same_fibre-refl : (f : Fibre) → same_fibre f f ≡ true
same_fibre-refl f = rw (self-number f.link.0) (same_bool-refl f.forward)

pub same_fibre-eq : (f g : Fibre) → same_fibre f g ≡ true → f ≡ g
same_fibre-eq f g e = go (nat_eq f.link.0 g.link.0) refl e
  where
    go : (b : Bool) → nat_eq f.link.0 g.link.0 ≡ b → (b && same_bool f.forward g.forward) ≡ true → f ≡ g
    go true h k =
        let link = eqb-true f.link.0 g.link.0 h in
        let forward = same_bool-eq f.forward g.forward k in
        λ i. record { link = record { 0 = link i }; forward = forward i }
    go false h k = absurd (cc k)
