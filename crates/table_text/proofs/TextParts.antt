-- Parts appended one after another.
use Rattle.std.proofs.{Common.{◌≡◌, ◌<◌, ◌+◌, ℕ, List, [], ◌∷◌, ◌++◌, append-nil, append_assoc, ap, get_or, length, sym, take, ◌∙◌}, lemmas.Grind.flat_map-append, lemmas.List.take_more}
use Rattle.std.specs.List.{flat_map}

pub three_parts :
    (t t1 t2 t3 a b c : List ℕ) → t1 ≡ t ++ a → t2 ≡ t1 ++ b → t3 ≡ t2 ++ c → t3 ≡ t ++ (a ++ b ++ c)
three_parts t t1 t2 t3 a b c e1 e2 e3 =
    e3 ∙ (ap (λ x. x ++ c) (e2 ∙ (ap (λ x. x ++ b) e1 ∙ append_assoc t a b)) ∙ append_assoc t (a ++ b) c)

pub four_parts :
    (t t1 t2 t3 t4 a b c d : List ℕ) → t1 ≡ t ++ a → t2 ≡ t1 ++ b → t3 ≡ t2 ++ c → t4 ≡ t3 ++ d
    → t4 ≡ t ++ (a ++ b ++ c ++ d)
four_parts t t1 t2 t3 t4 a b c d e1 e2 e3 e4 =
    e4 ∙ (ap (λ x. x ++ d) (three_parts t t1 t2 t3 a b c e1 e2 e3) ∙ append_assoc t (a ++ b ++ c) d)

-- what an item more of a list adds to a text
pub one_more : {X : Type 0} (f : X → List ℕ) (xs : List X) (i : ℕ) (x : X) (init old new : List ℕ) → i < length xs →
    x ≡ get_or xs i x → old ≡ init ++ flat_map f (take i xs) → new ≡ old ++ f x →
    new ≡ init ++ flat_map f (take (i + 1) xs)
one_more f xs i x init old new below there before said =
    said
    ∙ (ap (λ bs. bs ++ f x) before
    ∙ (append_assoc init (flat_map f (take i xs)) (f x) ∙ ap (λ bs. init ++ bs) (sym more)))
  where
    more : flat_map f (take (i + 1) xs) ≡ flat_map f (take i xs) ++ f x
    more =
        ap (flat_map f) (take_more xs i x below)
        ∙ (flat_map-append f (take i xs) (get_or xs i x ∷ [])
        ∙ (ap (λ bs. flat_map f (take i xs) ++ bs) (append-nil (f (get_or xs i x)))
        ∙ ap (λ y. flat_map f (take i xs) ++ f y) (sym there)))
