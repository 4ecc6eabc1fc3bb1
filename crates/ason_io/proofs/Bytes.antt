-- Bytes that are handed out, and bytes that are appended.
use Rattle.std.proofs.{Common.{◌≡◌, ◌≤◌, ◌+◌, ◌-◌, ℕ, List, [], Option, Some, None, IfSome, ◌++◌, length, take, drop, refl, arith, sym, ◌∙◌, ap, subst, append_assoc}, lemmas.List.{append-nil, take-append-drop}, lemmas.Grind.common_steps, Math.Seq.take-add}
use Rattle.std.specs.Io.KnownBytes.{Appends, Consumes, IsAtEnd, Keeps}
use Rattle.ason_io.specs.Reading.{WasRead, WasReadToEnd}

-- the bytes at the front of the buffer are the first of those to come
pub front_given : (n at : ℕ) (bytes all piece rest : List ℕ) → drop at bytes ≡ all → at ≤ length bytes → n ≤ length all
    → piece ≡ take n (take (length bytes - at) (drop at bytes)) → all ≡ take n (piece ++ rest) ++ drop (at + n) bytes
front_given n at bytes all piece rest view inside within is =
    let whole : take (length bytes - at) (drop at bytes) ≡ drop at bytes = grind (arith, common_steps) in
    let front : take n (piece ++ rest) ≡ take n (drop at bytes) = grind (arith, common_steps) in
    let back : drop (at + n) bytes ≡ drop n (drop at bytes) = grind (arith, common_steps) in
    sym view ∙ sym (take-append-drop n (drop at bytes)) ∙ rw (front, back) refl

pub appends_both : (a b c : Option (List ℕ)) (xs ys : List ℕ) → Appends a b xs → Appends b c ys → Appends a c (xs ++ ys)
appends_both None b c xs ys first then = tt
appends_both (Some all) None c xs ys first then = absurd first
appends_both (Some all) (Some more) None xs ys first then = absurd then
appends_both (Some all) (Some more) (Some end) xs ys first then =
    then ∙ ap (λ zs. zs ++ ys) first ∙ append_assoc all xs ys

-- after d bytes the next n are d + n
next_taken : (d n : ℕ) (bs : List ℕ) → take d bs ++ take n (take (length bs - d) (drop d bs)) ≡ take (d + n) bs
next_taken d n bs = grind (arith, common_steps, take-add)

pub appends_next : (a b c : Option (List ℕ)) (d n : ℕ) (bs : List ℕ) → Appends a b (take d bs)
    → Appends b c (take n (take (length bs - d) (drop d bs))) → Appends a c (take (d + n) bs)
appends_next a b c d n bs first then =
    subst (λ xs. Appends a c xs) (next_taken d n bs) (appends_both a b c _ _ first then)

-- what is known stays after a read that hands out nothing
consumes_keeps : (a b c : Option (List ℕ)) (xs : List ℕ) → Consumes a b xs → Keeps b c → Consumes a c xs
consumes_keeps None b c xs first then = tt
consumes_keeps (Some all) None c xs first then = absurd first
consumes_keeps (Some all) (Some rest) None xs first then = absurd then
consumes_keeps (Some all) (Some rest) (Some end) xs first then = first ∙ ap (λ zs. xs ++ zs) (sym then)

-- all were consumed
consumes_all : (a b c : Option (List ℕ)) (xs : List ℕ) → Consumes a b xs → Consumes b c [] → IsAtEnd c
    → IfSome a (λ all. (all ≡ xs) × (c ≡ Some []))
consumes_all None b c xs first then ends = tt
consumes_all (Some all) None c xs first then ends = absurd first
consumes_all (Some all) (Some rest) None xs first then ends = absurd then
consumes_all (Some all) (Some rest) (Some end) xs first then ends =
    (first ∙ ap (λ zs. xs ++ zs) (then ∙ ends) ∙ append-nil xs, ap (λ zs. Some zs) ends)

-- what one read after another handed out was handed out
abbrev pub GoesOn : {S : Type 0} → (S → List ℕ → S → Type 0) → Type 0
GoesOn {S} handed = (s t u : S) (xs ys : List ℕ) → handed s xs t → handed t ys u → handed s (xs ++ ys) u

-- a read that failed
pub read_still : {S : Type 0} (left : S → Option (List ℕ)) (handed : S → List ℕ → S → Type 0) → GoesOn handed
    → (old now new : S) (bs : List ℕ) → WasRead left handed old now bs → handed now [] new → Keeps (left now) (left new)
    → WasRead left handed old new bs
read_still left handed goes_on old now new bs before more keeps = record {
  handed_out = subst (λ xs. handed old xs new) (append-nil bs) (goes_on old now new bs [] before.handed_out more);
  told = consumes_keeps (left old) (left now) (left new) bs before.told keeps;
}

-- a read that came to the end
pub read_last : {S : Type 0} (left : S → Option (List ℕ)) (handed : S → List ℕ → S → Type 0) (ended : S → Type 0) →
    GoesOn handed
    → (old now new : S) (bs : List ℕ) → WasRead left handed old now bs → handed now [] new → ended new
    → Consumes (left now) (left new) [] → IsAtEnd (left new) → WasReadToEnd left handed ended old new bs
read_last left handed ended goes_on old now new bs before more end consumed ends = record {
  handed_out = subst (λ xs. handed old xs new) (append-nil bs) (goes_on old now new bs [] before.handed_out more);
  at_end = end;
  told = consumes_all (left old) (left now) (left new) bs before.told consumed ends;
}
