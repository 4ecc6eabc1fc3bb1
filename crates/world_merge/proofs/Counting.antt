-- A merge has as many lines as its lists; the line that is picked comes first.
use Rattle.std.proofs.Common.{◌≡◌, ℕ, zero, suc, Bool, true, false, cond, List, [], ◌∷◌, length, refl, ap, ◌∙◌, subst, arith}
use Rattle.std.specs.Prelude.{Option, Some, None, MatchOption}
use Rattle.ason_base.specs.declared.commands.Entry.{Entry}
use Rattle.world_merge.specs.{Counts.EveryLineIsMerged, Picking.{Picked, picked_behind, chosen, is_before, merged_by, merged_of, picked, then_picked, lines_total}}

abbrev Counts : ℕ → Option Picked → Type 0
Counts n o = MatchOption o (n ≡ 0) (λ p. n ≡ suc (lines_total p.left))

counts : (ls : List (List Entry)) → Counts (lines_total ls) (picked ls)
counts [] = refl
counts ([] ∷ ls) = go (picked ls) (counts ls)
  where
    go : (o : Option Picked) → Counts (lines_total ls) o → Counts (lines_total ([] ∷ ls)) (picked_behind [] o)
    go None h = omega (arith, h)
    go (Some p) h = omega (arith, h)
counts ((e ∷ es) ∷ ls) = go (picked ls) (counts ls)
  where
    here : Picked
    here = record { entry = e; left = es ∷ ls }

    at : (b : Bool) (p : Picked) → lines_total ls ≡ suc (lines_total p.left) → Counts (lines_total ((e ∷ es) ∷ ls))
        (cond b (Some here) (Some (record { entry = p.entry; left = (e ∷ es) ∷ p.left })))
    at true p h = omega arith
    at false p h = omega (arith, h)

    go : (o : Option Picked) → Counts (lines_total ls) o → Counts (lines_total ((e ∷ es) ∷ ls)) (chosen e es ls o)
    go None h = omega arith
    go (Some p) h = at (is_before e p.entry) p h

-- what is picked comes first, and then the merge of what is left
pub picked-merged : (ls : List (List Entry)) (p : Picked) → picked ls ≡ Some p →
    merged_of ls ≡ p.entry ∷ merged_of p.left
picked-merged ls p h =
    ap (λ n. merged_by n ls) (subst (Counts (lines_total ls)) h (counts ls))
    ∙ ap (then_picked (merged_by (lines_total p.left))) h

then_counted : (n : ℕ) (go : List (List Entry) → List Entry) (m : ℕ) (o : Option Picked) → m ≡ suc n → Counts m o →
    ((ls : List (List Entry)) → lines_total ls ≡ n → length (go ls) ≡ n) → length (then_picked go o) ≡ suc n
then_counted n go m None e h rest = absurd (omega (arith, h, e))
then_counted n go m (Some p) e h rest = ap suc (rest p.left (omega (arith, h, e)))

counted : (n : ℕ) (ls : List (List Entry)) → lines_total ls ≡ n → length (merged_by n ls) ≡ n
counted zero ls e = refl
counted (suc n) ls e = then_counted n (merged_by n) (lines_total ls) (picked ls) e (counts ls) (counted n)

pub every-line-is-merged : EveryLineIsMerged
every-line-is-merged ls = counted (lines_total ls) ls refl
