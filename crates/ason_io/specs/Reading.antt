-- What was read from a source.
use Rattle.std.specs.{Prelude.{◌≡◌, ◌++◌, ℕ, List, [], Option, Some, None, IfSome, length, refl}, Io.KnownBytes.Consumes}
use Rattle.std.proofs.Common.{◌∙◌, ap, sym, append_assoc}

-- these bytes were handed out from the one moment to the other, and those to come, where told, are fewer by them
pub record WasRead {S : Type 0} (left : S → Option (List ℕ)) (handed : S → List ℕ → S → Type 0) (old new : S)
    (bs : List ℕ) : Type 0 where
  pub handed_out : handed old bs new
  pub told : Consumes (left old) (left new) bs

-- bytes were handed out, and P holds of their number
abbrev pub HasRead : {S : Type 0} → (S → Option (List ℕ)) → (S → List ℕ → S → Type 0) → S → S → (ℕ → Type 0) → Type 0
HasRead left handed old new P = (bs : List ℕ) × WasRead left handed old new bs × P (length bs)

-- The source was read to its end, and what was read is bs. Where it tells the bytes to come, these were all of them.
pub record WasReadToEnd {S : Type 0} (left : S → Option (List ℕ)) (handed : S → List ℕ → S → Type 0)
    (ended : S → Type 0) (old new : S) (bs : List ℕ) : Type 0 where
  pub handed_out : handed old bs new
  pub at_end : ended new
  pub told : IfSome (left old) (λ all. (all ≡ bs) × (left new ≡ Some []))

-- no byte is consumed where nothing changes
pub consumes_none : (known : Option (List ℕ)) → Consumes known known []
consumes_none None = tt
consumes_none (Some xs) = refl

-- bytes consumed one after the other
pub consumes_both : (a b c : Option (List ℕ)) (xs ys : List ℕ) → Consumes a b xs → Consumes b c ys →
    Consumes a c (xs ++ ys)
consumes_both None b c xs ys first then = tt
consumes_both (Some all) None c xs ys first then = absurd first
consumes_both (Some all) (Some rest) None xs ys first then = absurd then
consumes_both (Some all) (Some rest) (Some end) xs ys first then =
    first ∙ ap (λ zs. xs ++ zs) then ∙ sym (append_assoc xs ys end)
