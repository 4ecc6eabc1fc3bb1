-- Notifies on their way to the ingress, as one list: those nearest to the ingress first.
use Rattle.std.proofs.{Common.{◌≡◌, ◌≢◌, ◌<◌, ◌≤◌, ℕ, zero, suc, Bool, List, [], ◌∷◌, ◌++◌, refl, sym, ap, ◌∙◌, arith, inl, inr}, lemmas.List.append_assoc}
use Rattle.std.specs.Prelude.{◌⊎◌}
use Rattle.lsp_laws.specs.ReportLaw.{on_the_way, told}
use Rattle.lsp_laws.proofs.hops.Chain.{is_or_not}

pub told-last : (known x : Bool) (xs : List Bool) → told known (xs ++ x ∷ []) ≡ x
told-last known x [] = refl
told-last known x (y ∷ xs) = told-last y x xs

pub told-append : (known : Bool) (xs ys : List Bool) → told known (xs ++ ys) ≡ told (told known xs) ys
told-append known [] ys = refl
told-append known (x ∷ xs) ys = told-append x xs ys

-- lines before a place tell what is on the way from there
pub same_lines : (line line' : ℕ → List Bool) (i : ℕ) → ((j : ℕ) → j < i → line' j ≡ line j) →
    on_the_way line' i ≡ on_the_way line i
same_lines line line' zero same = refl
same_lines line line' (suc i) same =
    rw (same i (omega arith), same_lines line line' i (λ j small. same j (omega arith))) refl

-- a place passes what is first in the line beyond it on to the end of its own line
pub record Passed (line line' : ℕ → List Bool) (j n : ℕ) (xs : List Bool) : Type 0 where
  pub beyond : line (suc j) ≡ xs ++ line' (suc j)
  pub nearer : line' j ≡ line j ++ xs
  pub others : (k : ℕ) → k ≢ j → k ≢ suc j → k < n → line' k ≡ line k

pub passed_on : (line line' : ℕ → List Bool) (j n i : ℕ) (xs : List Bool) → Passed line line' j n xs → suc j < i →
    i ≤ n → on_the_way line' i ≡ on_the_way line i
passed_on line line' j n zero xs passed small most = refl
passed_on line line' j n (suc i) xs passed small most =
    go (is_or_not i (suc j)) (λ less. passed_on line line' j n i xs passed less (omega arith))
  where
    here : (i : ℕ) → i ≡ suc j → on_the_way line' (suc i) ≡ on_the_way line (suc i)
    here i e =
        let below : on_the_way line' j ≡ on_the_way line j =
        same_lines line line' j (λ k less. passed.others k (omega arith) (omega arith) (omega arith)) in
        let new : on_the_way line' (suc (suc j)) ≡ (on_the_way line j ++ (line j ++ xs)) ++ line' (suc j) =
        rw (below, passed.nearer) refl in
        let old : on_the_way line (suc (suc j)) ≡ (on_the_way line j ++ line j) ++ (xs ++ line' (suc j)) =
        rw passed.beyond refl in
        let shift : (on_the_way line j ++ (line j ++ xs)) ++ line' (suc j)
        ≡ (on_the_way line j ++ line j) ++ (xs ++ line' (suc j)) =
        ap (λ t. t ++ line' (suc j)) (sym (append_assoc (on_the_way line j) (line j) xs))
        ∙ append_assoc (on_the_way line j ++ line j) xs (line' (suc j)) in
        rw e (new ∙ shift ∙ sym old)

    go : (i ≡ suc j) ⊎ (i ≢ suc j) → (suc j < i → on_the_way line' i ≡ on_the_way line i) →
        on_the_way line' (suc i) ≡ on_the_way line (suc i)
    go (inl e) further = here i e
    go (inr ne) further = rw (passed.others i (omega arith) ne (omega arith), further (omega arith)) refl

-- the ingress takes what is first in the first line
pub taken_first : (line line' : ℕ → List Bool) (i : ℕ) (xs : List Bool) → line 0 ≡ xs ++ line' 0 →
    ((k : ℕ) → k ≢ 0 → k ≤ i → line' k ≡ line k) → on_the_way line (suc i) ≡ xs ++ on_the_way line' (suc i)
taken_first line line' zero xs first others = first
taken_first line line' (suc i) xs first others =
    rw (
      taken_first line line' i xs first (λ k apart less. others k apart (omega arith)),
      others (suc i) (omega arith) (omega arith),
    ) (append_assoc xs (on_the_way line' (suc i)) (line (suc i)))

-- a place sends something of its own
pub sent_last : (line line' : ℕ → List Bool) (i : ℕ) (xs : List Bool) → line' i ≡ line i ++ xs →
    ((k : ℕ) → k ≢ i → k < suc i → line' k ≡ line k) → on_the_way line' (suc i) ≡ on_the_way line (suc i) ++ xs
sent_last line line' i xs here others =
    let below : on_the_way line' i ≡ on_the_way line i =
    same_lines line line' i (λ k less. others k (omega arith) (omega arith)) in
    rw (below, here) (sym (append_assoc (on_the_way line i) (line i) xs))

-- so what a place tells of its own fibre is what is known in the end
pub sent_told : (line line' : ℕ → List Bool) (i : ℕ) (known down : Bool) → line' i ≡ line i ++ down ∷ [] →
    ((k : ℕ) → k ≢ i → k < suc i → line' k ≡ line k) → told known (on_the_way line' (suc i)) ≡ down
sent_told line line' i known down here others =
    rw (sent_last line line' i (down ∷ []) here others) (told-last known down (on_the_way line (suc i)))
