-- The words of a slice.
use Rattle.std.proofs.Common.{◌≡◌, ◌∙◌, ◌<◌, ◌≤◌, List, [], ◌∷◌, None, Option, String, arith, length, map, refl, string_bytes, sym, ap}
use Rattle.std.specs.Global.{Global}
use Rattle.commands.proofs.Reading.{after_options, no-more, read_words}
use Rattle.commands.specs.{Given.next_given, Loads.load_of, declared.options.Given.Given, declared.options.RunOptions.RunOptions}

-- words of which the first is no option have no meaning
pub no-option :
    (said : Option RunOptions) (xs : List (String Global)) (g : Given) → 1 ≤ length xs →
    None ≡ next_given g (map string_bytes xs) →
    read_words (after_options (map string_bytes xs) g) ≡ said → None ≡ said
no-option said [] g some none so_far = absurd (omega (arith, some))
no-option said (x ∷ xs) g some none so_far =
    sym (ap read_words (no-more (string_bytes x) (map string_bytes xs) g (sym none))) ∙ so_far

-- neither fewer nor more than three words ask for a load
pub few_words : (xs : List (String Global)) → length xs < 3 → None ≡ load_of (map string_bytes xs)
few_words [] few = refl
few_words (s ∷ []) few = refl
few_words (s ∷ n ∷ []) few = refl
few_words (s ∷ n ∷ c ∷ xs) few = absurd (omega (arith, few))

pub many_words : (xs : List (String Global)) → 4 ≤ length xs → None ≡ load_of (map string_bytes xs)
many_words [] many = absurd (omega (arith, many))
many_words (s ∷ []) many = absurd (omega (arith, many))
many_words (s ∷ n ∷ []) many = absurd (omega (arith, many))
many_words (s ∷ n ∷ c ∷ []) many = absurd (omega (arith, many))
many_words (s ∷ n ∷ c ∷ x ∷ xs) many = refl
