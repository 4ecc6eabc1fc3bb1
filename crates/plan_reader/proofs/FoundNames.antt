-- Names that stand once are found at their places.
use Rattle.std.proofs.{Common.{◌≡◌, ◌<◌, ℕ, Bool, true, false, cond, nat_lt, arith, length, length-append, List, [], ◌∷◌, ◌++◌, refl, ap, sym, subst, ◌∙◌}, lemmas.Option.slice_get_within, lemmas.Slice.Eq.bytes_eq-Decides}
use Rattle.std.specs.Prelude.{Some, None, is_some, slice_get}
use Rattle.ason_base.proofs.Places.{get-last}
use Rattle.plan_reader.specs.{FoundNames.{AreFoundByName, IsFoundAt}, Names.{has_name, is_name, place_of, same_text}}
use Rattle.plan_reader.proofs.{Places.{has_place, position_more}, Rising.get_before}

pub none_found : AreFoundByName []
none_found k text h = absurd (cc (h))

-- a new name is found at the next place, and all others at their own
pub one_more_found : (names : List (List ℕ)) (name : List ℕ) → AreFoundByName names → is_name name ≡ true →
    has_name names name ≡ false → AreFoundByName (names ++ name ∷ [])
one_more_found names name found is absent k text here = go (nat_lt k (length names)) refl
  where
    all : List (List ℕ)
    all = names ++ name ∷ []

    more : (text : List ℕ) → place_of all text
        ≡ cond (has_name names text) (place_of names text) (cond (same_text name text) (Some (length names)) None)
    more text = position_more (λ n. same_text n text) names name

    new : IsFoundAt all (length names) name
    new =
        let same : same_text name name ≡ true = (bytes_eq-Decides name name).1 refl in
        record { name = is; place = more name ∙ rw (absent, same) refl }

    go : (b : Bool) → nat_lt k (length names) ≡ b → IsFoundAt all k text
    go true e =
        let below : k < length names = grind (arith, e) in
        let old : IsFoundAt names k text = found k text (sym (get_before names name k below) ∙ here) in
        let there : has_name names text ≡ true = has_place names text ∙ ap is_some old.place in
        record { name = old.name; place = more text ∙ rw there old.place }
    go false e =
        let within = slice_get_within all k text here in
        let longer = length-append names (name ∷ []) in
        let last : length names ≡ k = grind (arith, e, within, longer) in
        let this : name ≡ text =
        cc (get-last names name, ap (slice_get all) last, here) in
        subst (λ j. IsFoundAt all j text) last (subst (IsFoundAt all (length names)) this new)
