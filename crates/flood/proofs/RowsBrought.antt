-- What is known.
use Rattle.std.proofs.{Common.{◌≡◌, ℕ, ◌⊎◌, inl, inr, true, false, cond, Some, List, [], ◌∷◌, ◌++◌, refl, sym, ap, ◌∙◌, append_assoc}, lemmas.List.append-nil}
use Rattle.std.specs.List.{slice_get}
use Rattle.ason_base.specs.declared.network.TeRow.{TeRow}
use Rattle.ason_base.proofs.Places.{get-pushed}
use Rattle.flood.specs.{declared.messages.FloodMsg.TheVariants.{Row, Ack}, State.{FloodState, is_new, with_row}, Calls.{Call, Declares, Receives, Ticks, called, Brings, KnownStays, KnownWasBrought}}

known_once : (s : FloodState) (c : Call) → (more : List TeRow) × (s.rows ++ more ≡ (called s c).rows)
known_once s (Declares row) = (row ∷ [], refl)
known_once s (Receives from (Ack number)) = ([], append-nil s.rows)
known_once s (Receives from (Row number origin row)) =
    elim (is_new s row) as (λ b. (more : List TeRow) ×
    (s.rows ++ more ≡ (cond b (with_row s (Some from) origin (Some 0) row) s).rows)) [
      | true ↦ (row ∷ [], refl)
      | false ↦ ([], append-nil s.rows)
    ]
known_once s Ticks = ([], append-nil s.rows)

pub known_stays : KnownStays
known_stays s [] = ([], append-nil s.rows)
known_stays s (c ∷ cs) =
    let first = known_once s c in
    let rest = known_stays (called s c) cs in (
      first.0 ++ rest.0,
      sym (append_assoc s.rows first.0 rest.0) ∙
          ap (λ (rows : List TeRow). rows ++ rest.0) first.1 ∙ rest.1,
    )

last_or_before : (rows : List TeRow) (new row : TeRow) (k : ℕ) → slice_get (rows ++ new ∷ []) k ≡ Some row →
    ((j : ℕ) × (slice_get rows j ≡ Some row)) ⊎ (new ≡ row)
last_or_before rows new row k there =
    elim (get-pushed rows new k row there) [ inl before ↦ inl (k, before) | inr last ↦ inr last.1 ]

brought_once : (s : FloodState) (c : Call) (k : ℕ) (row : TeRow) → slice_get (called s c).rows k ≡ Some row →
    ((j : ℕ) × (slice_get s.rows j ≡ Some row)) ⊎ Brings row c
brought_once s (Declares new) k row there = last_or_before s.rows new row k there
brought_once s (Receives from (Ack number)) k row there = inl (k, there)
brought_once s (Receives from (Row number origin new)) k row there =
    elim (is_new s new) as (λ b. slice_get (cond b (with_row s (Some from) origin (Some 0) new) s).rows k ≡
    Some row → ((j : ℕ) × (slice_get s.rows j ≡ Some row)) ⊎ (new ≡ row)) [
      | true ↦ λ at. last_or_before s.rows new row k at
      | false ↦ λ at. inl (k, at)
    ] there
brought_once s Ticks k row there = inl (k, there)

pub known_was_brought : KnownWasBrought
known_was_brought s [] k row there = inl (k, there)
known_was_brought s (c ∷ cs) k row there =
    elim (known_was_brought (called s c) cs k row there) [
      | inl found ↦ elim (brought_once s c found.0 row found.1) [ inl before ↦ inl before | inr here ↦ inr (inl here) ]
      | inr later ↦ inr (inr later)
    ]
