-- Whether a fibre is known to be down: among fibres with one more, and with one less.
use Rattle.std.proofs.{Common.{◌≡◌, true, not, List, [], ◌∷◌, ◌++◌, sym, ap, ◌∙◌, subst}, Math.Bool.or-false, lemmas.List.Folds.list_any-append, lemmas.Map.Views.any-filter_same}
use Rattle.std.specs.Prelude.{◌||◌, ◌&&◌}
use Rattle.ason_base.specs.{Lsps.{has_fibre, is_other_fibre, same_fibre, without_fibre}, declared.ids.Fibre.Fibre}
use Rattle.ason_base.proofs.{Bools.same-truth, LspOrder.{same_fibre-refl, same_fibre-eq}}

-- One fibre

pub same_fibre-sym : (f g : Fibre) → same_fibre f g ≡ same_fibre g f
same_fibre-sym f g = same-truth (same_fibre f g) (same_fibre g f) (turned f g) (turned g f)
  where
    turned : (f g : Fibre) → same_fibre f g ≡ true → same_fibre g f ≡ true
    turned f g e = subst (λ h. same_fibre h f ≡ true) (same_fibre-eq f g e) (same_fibre-refl f)

-- Fibres

pub has-more : (fibres : List Fibre) (f g : Fibre) →
    has_fibre (fibres ++ g ∷ []) f ≡ (has_fibre fibres f || same_fibre f g)
has-more fibres f g =
    list_any-append (same_fibre f) fibres (g ∷ []) ∙ ap (λ b. has_fibre fibres f || b) (or-false (same_fibre f g))

pub has-less : (fibres : List Fibre) (f g : Fibre) →
    has_fibre (without_fibre g fibres) f ≡ (not (same_fibre f g) && has_fibre fibres f)
has-less fibres f g =
    any-filter_same (same_fibre f) (is_other_fibre g) (not (same_fibre f g))
    (λ k e. ap not (ap (same_fibre g) (sym (same_fibre-eq f k e)) ∙ same_fibre-sym g f)) fibres
