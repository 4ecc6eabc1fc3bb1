-- The set of all labels, as a LABEL_SET is written.
use Rattle.std.proofs.{Common.{◌≡◌, ℕ, suc, List, [], ◌∷◌, length, filter, Bool, true, false, cond, ap, refl, sym, ◌∙◌, arith}, lemmas.List.Sums.{length-filter, count_by-le-length}}
use Rattle.ason_base.specs.{declared.limits.TheConstants.MOST_LABELS, Labels.{has, up_to, numbers_from}}
use Rattle.rsvp_objects.specs.LabelSets.{among, laid}

-- a list of which none is left out
filter-whole : (p : ℕ → Bool) (ns : List ℕ) → length (filter p ns) ≡ length ns → filter p ns ≡ ns
filter-whole p [] h = refl
filter-whole p (n ∷ ns) h =
    elim (p n) as (λ b. length (cond b (n ∷ filter p ns) (filter p ns)) ≡ suc (length ns)
    → cond b (n ∷ filter p ns) (filter p ns) ≡ n ∷ ns) [
      | true ↦ λ len. ap (λ (l : List ℕ). n ∷ l) (filter-whole p ns (omega (arith, len)))
      | false ↦ λ len. absurd (omega (arith, len, length-filter p ns, count_by-le-length p ns))
    ] h

-- A set of 80 labels has all of them.
pub all_laid : (s : List ℕ) → s ≡ among s → length s ≡ MOST_LABELS → laid (up_to MOST_LABELS) 328 ≡ laid (among s) 328
unfolding numbers_from
all_laid s is count =
    ap (λ (ls : List ℕ). laid ls 328) (sym (filter-whole (has s) (up_to MOST_LABELS) (sym (ap length is) ∙ count)))
