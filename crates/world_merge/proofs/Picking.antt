-- Picking the least head again and again sorts the lines of sorted lists.
use Rattle.std.proofs.Common.{◌≡◌, ℕ, zero, suc, Bool, true, false, cond, List, [], ◌∷◌, ◌++◌, filter, refl, sym, ap, ◌∙◌, arith}
use Rattle.std.specs.{Prelude.{Option, Some, None}, List.{AllByRecursion, flat_map}}
use Rattle.ason_base.specs.declared.commands.Entry.{Entry}
use Rattle.world_merge.specs.{Orders.{IsBefore, IsSorted}, Picking.{IsInOne, Picked, PickingSorts, merged_by, picked, then_picked, lines_total}}
use Rattle.world_merge.proofs.Picked.{AllIn, PickedTells, no-filtered, tells-of}

-- so many lines are merged
record IsMerged (k : ℕ) (ls : List (List Entry)) : Type 0 where
  sorted : IsSorted (merged_by k ls)
  after : (e : Entry) → AllIn e ls → AllByRecursion (IsBefore e) (merged_by k ls)
  each : (f : Entry → Bool) → IsInOne f ls → filter f (merged_by k ls) ≡ flat_map (filter f) ls

filter_head : (f : Entry → Bool) (e : Entry) (m : List Entry) →
    filter f (e ∷ m) ≡ filter f (e ∷ []) ++ filter f m
filter_head f e m = go (f e)
  where
    go : (b : Bool) → cond b (e ∷ filter f m) (filter f m) ≡ cond b (e ∷ []) [] ++ filter f m
    go true = refl
    go false = refl

merges : (k : ℕ) (ls : List (List Entry)) → lines_total ls ≡ k → AllByRecursion IsSorted ls → IsMerged k ls
merges zero ls e all = record { sorted = tt; after = λ x h. tt; each = λ f one. sym (no-filtered f ls e) }
merges (suc k) ls e all =
    let r = go (picked ls) (tells-of ls all) (merges k) in
    record { sorted = r.0; after = r.1; each = r.2 }
  where
    go : (o : Option Picked) → PickedTells ls o →
        ((xs : List (List Entry)) → lines_total xs ≡ k → AllByRecursion IsSorted xs → IsMerged k xs) →
        (IsSorted (then_picked (merged_by k) o))
        × ((x : Entry) → AllIn x ls → AllByRecursion (IsBefore x) (then_picked (merged_by k) o))
        × ((f : Entry → Bool) → IsInOne f ls → filter f (then_picked (merged_by k) o) ≡ flat_map (filter f) ls)
    go None h rest = absurd (omega (arith, h, e))
    go (Some p) h rest =
        let r = rest p.left (omega (arith, h.count, e)) h.sorted in (
          (r.after p.entry h.before, r.sorted),
          (λ x a. let q = h.parts x a in (q.0, r.after x q.1)),
          (λ f one. let q = h.kept f one in
              filter_head f p.entry (merged_by k p.left) ∙ ap (λ xs. filter f (p.entry ∷ []) ++ xs) (r.each f q.still)
              ∙ sym q.whole),
        )

pub picking-sorts : PickingSorts
picking-sorts ls all =
    let r = merges (lines_total ls) ls refl all in
    record { sorted = r.sorted; each = r.each }
