-- What the sets of free labels tell of the claims.
use Rattle.std.proofs.Common.{◌≡◌, ℕ, Bool, true, false, not, nat_eq, List, [], ◌∷◌, ◌≤◌, refl, sym, ap, ◌∙◌, arith}
use Rattle.std.specs.{Prelude.{◌&&◌, ◌||◌, filter}, List.list_any}
use Rattle.ason_base.specs.{declared.limits.TheConstants.MOST_LABELS, Labels.{has as is_in, meet, up_to}}
use Rattle.ason_base.proofs.MaskMembers.{filter-agree, filter-filter, has-bound, has-filter, has-numbers, has-low}
use Rattle.link_owner.specs.{declared.claims.Claim.Claim, declared.claims.ClaimKind.ClaimKind, declared.claims.ClaimKind.TheVariants.{Working, Backup}, Claims.{free_of, has, has_so, is_backup, is_working, unclaimed}}

or_swapped : (a b c d : Bool) → ((a || b) || (c || d)) ≡ ((a || c) || (b || d))
or_swapped true b c d = refl
or_swapped false true true d = refl
or_swapped false true false d = refl
or_swapped false false c d = refl

-- a claim of the one kind or of the other
any-either : (p q r : Claim → Bool) (claims : List Claim) → ((c : Claim) → r c ≡ (p c || q c)) →
    list_any r claims ≡ (list_any p claims || list_any q claims)
any-either p q r [] is = refl
any-either p q r (c ∷ claims) is =
    rw (is c, any-either p q r claims is) (or_swapped (p c) (q c) (list_any p claims) (list_any q claims))

-- each leg has its label as a working leg or as a backup
pub any-has : (claims : List Claim) (x : ℕ) → list_any (has x) claims ≡
    (list_any (has_so is_working x) claims || list_any (has_so is_backup x) claims)
any-has claims x =
    any-either (has_so is_working x) (has_so is_backup x) (has x) claims (λ c. here (nat_eq c.label x) c.kind)
  where
    here : (b : Bool) (k : ClaimKind) → b ≡ ((b && is_working k) || (b && is_backup k))
    here true Working = refl
    here true Backup = refl
    here false k = refl

-- the labels up to a number within 80 are among those up to 80
within : (n y : ℕ) → n ≤ MOST_LABELS → is_in (up_to n) y ≡ true → is_in (up_to MOST_LABELS) y ≡ true
within n y most h = has-numbers MOST_LABELS 1 y (has-low n 1 y h) (omega (arith, most, has-bound n 1 y h))

-- those of the labels up to a number that no leg has so
pub free-upto : (so : ClaimKind → Bool) (claims : List Claim) (n : ℕ) → n ≤ MOST_LABELS →
    meet (up_to n) (free_of so claims) ≡ filter (λ x. not (list_any (has_so so x) claims)) (up_to n)
free-upto so claims n most =
    filter-agree (is_in (free_of so claims)) (λ x. not (list_any (has_so so x) claims)) (up_to n)
    (λ y h. has-filter (λ x. not (list_any (has_so so x) claims)) (up_to MOST_LABELS) y
    ∙ ap (λ b. b && not (list_any (has_so so y) claims)) (within n y most h))

-- those that no leg has at all
pub unclaimed-upto : (claims : List Claim) (n : ℕ) → n ≤ MOST_LABELS →
    meet (meet (up_to n) (free_of is_working claims)) (free_of is_backup claims) ≡ unclaimed n claims
unclaimed-upto claims n most =
    filter-filter (is_in (free_of is_working claims)) (is_in (free_of is_backup claims)) (up_to n)
    ∙ filter-agree (λ y. is_in (free_of is_working claims) y && is_in (free_of is_backup claims) y)
    (λ y. not (list_any (has y) claims)) (up_to n) here
  where
    free : (so : ClaimKind → Bool) (y : ℕ) → is_in (up_to n) y ≡ true →
        is_in (free_of so claims) y ≡ not (list_any (has_so so y) claims)
    free so y h =
        has-filter (λ x. not (list_any (has_so so x) claims)) (up_to MOST_LABELS) y
        ∙ ap (λ b. b && not (list_any (has_so so y) claims)) (within n y most h)

    neither : (a b : Bool) → (not a && not b) ≡ not (a || b)
    neither true b = refl
    neither false b = refl

    here : (y : ℕ) → is_in (up_to n) y ≡ true →
        (is_in (free_of is_working claims) y && is_in (free_of is_backup claims) y) ≡ not (list_any (has y) claims)
    here y h =
        rw (free is_working y h, free is_backup y h)
        (neither (list_any (has_so is_working y) claims) (list_any (has_so is_backup y) claims)
        ∙ ap not (sym (any-has claims y)))
