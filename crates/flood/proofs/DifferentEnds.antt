-- The different ends of rows.
use Rattle.std.proofs.{Common.{◌≡◌, ℕ, ◌==◌, ◌||◌, Bool, true, false, cond, List, [], ◌∷◌, ◌++◌, fold, refl, sym, ap, ◌∙◌, arith}, lemmas.List.Folds.list_any-append, Math.Bool.{or-false, or-true}}
use Rattle.std.specs.List.{list_any}
use Rattle.ason_base.specs.declared.network.TeRow.{TeRow}
use Rattle.flood.specs.{State.{is_end, with_end, with_ends}, Ends.{EndsAreListed, EndsStandOnce, IsApart}}

has : ℕ → List ℕ → Bool
has n ends = list_any (λ m. m == n) ends

or_assoc : (a b c : Bool) → ((a || b) || c) ≡ (a || (b || c))
or_assoc true b c = refl
or_assoc false b c = refl

same_test : (a b n : ℕ) → (a == b) ≡ true → (a == n) ≡ (b == n)
same_test a b n h = let same : a ≡ b = grind arith in ap (λ (k : ℕ). k == n) same

-- what one list has of a number that equals another
has_same : (ends : List ℕ) (node n : ℕ) → list_any (λ m. m == node) ends ≡ true → (node == n) ≡ true → has n ends ≡ true
unfolding has
has_same [] node n there same = absurd (cc)
has_same (e ∷ ends) node n there same = by_head e ends node n there same (has_same ends node n)
  where
    by_head : (f : ℕ) (rest : List ℕ) (k j : ℕ) → ((f == k) || list_any (λ m. m == k) rest) ≡ true → (k == j) ≡ true →
        (list_any (λ m. m == k) rest ≡ true → (k == j) ≡ true → list_any (λ m. m == j) rest ≡ true) →
        ((f == j) || list_any (λ m. m == j) rest) ≡ true
    by_head f rest k j some is later =
        elim (f == k) as (λ b. (f == k) ≡ b → (b || list_any (λ m. m == k) rest) ≡ true →
        ((f == j) || list_any (λ m. m == j) rest) ≡ true) [
          | true ↦ λ first _. rw (same_test f k j first, is) refl
          | false ↦ λ _ others. rw (later others is) (or-true (f == j))
        ] refl some

has-with_end : (ends : List ℕ) (node n : ℕ) → has n (with_end ends node) ≡ (has n ends || (node == n))
unfolding has
has-with_end ends node n =
    elim (list_any (λ m. m == node) ends) as (λ b. list_any (λ m. m == node) ends ≡ b →
    list_any (λ m. m == n) (cond b ends (ends ++ node ∷ [])) ≡ (list_any (λ m. m == n) ends || (node == n))) [
      | true ↦ λ there. elim (node == n) as (λ d. (node == n) ≡ d →
          list_any (λ m. m == n) ends ≡ (list_any (λ m. m == n) ends || d)) [
            | true ↦ λ same. has_same ends node n there same ∙ sym (or-true (list_any (λ m. m == n) ends))
            | false ↦ λ _. sym (or-false (list_any (λ m. m == n) ends))
          ] refl
      | false ↦ λ _. list_any-append (λ m. m == n) ends (node ∷ []) ∙
          ap (λ (d : Bool). list_any (λ m. m == n) ends || d) (or-false (node == n))
    ] refl

-- what stands among numbers with this one
pub with_end_has : (ends : List ℕ) (node n : ℕ) →
    list_any (λ m. m == n) (with_end ends node) ≡ (list_any (λ m. m == n) ends || (node == n))
unfolding has
with_end_has ends node n = has-with_end ends node n

has-with_ends : (ends : List ℕ) (row : TeRow) (n : ℕ) →
    has n (with_ends ends row) ≡ (has n ends || is_end (record { 0 = n }) row)
has-with_ends ends row n =
    has-with_end (with_end ends row.low.0) row.high.0 n
    ∙ ap (λ (d : Bool). d || (row.high.0 == n)) (has-with_end ends row.low.0 n)
    ∙ or_assoc (has n ends) (row.low.0 == n) (row.high.0 == n)

has-fold : (rows : List TeRow) (ends : List ℕ) (n : ℕ) →
    has n (fold with_ends ends rows) ≡ (has n ends || list_any (is_end (record { 0 = n })) rows)
has-fold [] ends n = sym (or-false (has n ends))
has-fold (row ∷ rows) ends n =
    has-fold rows (with_ends ends row) n
    ∙ ap (λ (d : Bool). d || list_any (is_end (record { 0 = n })) rows) (has-with_ends ends row n)
    ∙ or_assoc (has n ends) (is_end (record { 0 = n }) row) (list_any (is_end (record { 0 = n })) rows)

pub ends_are_listed : EndsAreListed
unfolding has
ends_are_listed rows n = has-fold rows [] n

-- Each once.

apart-push : (ends : List ℕ) (node : ℕ) → IsApart ends → list_any (λ m. m == node) ends ≡ false →
    IsApart (ends ++ node ∷ [])
apart-push [] node apart new = (refl, tt)
apart-push (e ∷ ends) node apart new = (
  list_any-append (λ m. m == e) ends (node ∷ []) ∙
      rw apart.0 (or-false (node == e) ∙ flipped e node (list_any (λ m. m == node) ends) new),
  apart-push ends node apart.1 (later (e == node) (list_any (λ m. m == node) ends) new),
)
  where
    flipped : (a b : ℕ) (d : Bool) → ((a == b) || d) ≡ false → (b == a) ≡ false
    flipped a b d h = grind arith

    later : (b d : Bool) → (b || d) ≡ false → d ≡ false
    later true d h = absurd (cc)
    later false d h = h

apart-with_end : (ends : List ℕ) (node : ℕ) → IsApart ends → IsApart (with_end ends node)
apart-with_end ends node apart =
    elim (list_any (λ m. m == node) ends) as (λ b. list_any (λ m. m == node) ends ≡ b →
    IsApart (cond b ends (ends ++ node ∷ []))) [
      | true ↦ λ _. apart
      | false ↦ λ new. apart-push ends node apart new
    ] refl

apart-fold : (rows : List TeRow) (ends : List ℕ) → IsApart ends → IsApart (fold with_ends ends rows)
apart-fold [] ends apart = apart
apart-fold (row ∷ rows) ends apart =
    apart-fold rows (with_ends ends row) (apart-with_end (with_end ends row.low.0) row.high.0
    (apart-with_end ends row.low.0 apart))

pub ends_stand_once : EndsStandOnce
ends_stand_once rows = apart-fold rows [] tt
