-- One LSP on one label, and tests of it.
use Rattle.std.proofs.Common.{◌≡◌, ℕ, Bool, true, false, cond, nat_eq, List, [], refl, subst, eqb-true}
use Rattle.std.specs.Prelude.{◌&&◌}
use Rattle.ason_base.specs.{declared.ids.Fibre.Fibre, declared.ids.Lsp.Lsp, Lsps.{same_fibre, same_lsp}}
use Rattle.share_check.specs.Guards.{Guard, GuardsJust, GuardsNone, is_risk_guarded, is_there}
use Rattle.ason_base.proofs.{LspOrder.{same_fibre-eq, same_lsp-eq}, Bools.{and-right, and-left}}

-- Tests

-- One place

-- the LSP on its label is this one on this label
record Same (f g : Fibre) (x y : ℕ) (l m : Lsp) : Type 0 where
  pub fibre : f ≡ g
  pub label : x ≡ y
  pub lsp : l ≡ m

there-same : (f g : Fibre) (x y : ℕ) (l m : Lsp) → is_there f x l g y m ≡ true → Same f g x y l m
there-same f g x y l m h =
    let here : (same_fibre f g && nat_eq x y) ≡ true = and-left (same_fibre f g && nat_eq x y) (same_lsp l m) h in
    record {
      fibre = same_fibre-eq f g (and-left (same_fibre f g) (nat_eq x y) here);
      label = eqb-true x y (and-right (same_fibre f g) (nat_eq x y) here);
      lsp = same_lsp-eq l m (and-right (same_fibre f g && nat_eq x y) (same_lsp l m) h);
    }

moved : (P : Fibre → ℕ → Lsp → Type 0) (f g : Fibre) (x y : ℕ) (l m : Lsp) → Same f g x y l m → P f x l → P g y m
moved P f g x y l m same p =
    subst (λ n. P g y n) same.lsp (subst (λ z. P g z l) same.label (subst (λ h. P h x l) same.fibre p))

-- an LSP that guards nothing on the label guards just nothing there
pub guards-same : (f : Fibre) (x : ℕ) (l : Lsp) (s : List Guard) → GuardsNone s f x l → GuardsJust f x l [] s s
guards-same f x l s none g y m q = go (is_there f x l g y m) refl
  where
    go : (b : Bool) → is_there f x l g y m ≡ b → is_risk_guarded s g y m q ≡ cond b false (is_risk_guarded s g y m q)
    go true e = moved (λ g y m. is_risk_guarded s g y m q ≡ false) f g x y l m (there-same f g x y l m e) (none q)
    go false e = refl
