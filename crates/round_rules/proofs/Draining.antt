-- All that was known to stand in a ring was taken.
use Rattle.std.proofs.{Common.{◌≡◌, ◌≤◌, List, [], ◌∷◌, ◌++◌, drop, length, refl, sym, ap, ◌∙◌, subst, arith, append-nil, append_assoc}, lemmas.List.{append_cancel_left, append_cancel_right}}
use mathlib.Core.List.{IsPrefix}
use Rattle.rtrb.specs.Ring.{received, known_items}
use Rattle.station_rings.specs.{declared.parcel.Parcel.Parcel, LinkStates.LinkState}
use Rattle.round_rules.specs.Moves.{HasMoved, IsDrained}
use Rattle.round_rules.proofs.Moving.{moved-then, prefix-trans}

prefix_front : {X : Type 0} (ws xs ys : List X) → IsPrefix xs ys → IsPrefix (ws ++ xs) (ws ++ ys)
prefix_front ws xs ys a = (a.0, append_assoc ws xs a.0 ∙ ap (λ zs. ws ++ zs) a.1)

-- a beginning that is no longer than the first part is one of it
prefix_short : {X : Type 0} (xs ys zs : List X) → IsPrefix xs (ys ++ zs) → length xs ≤ length ys → IsPrefix xs ys
prefix_short [] ys zs a le = (ys, refl)
prefix_short (x ∷ xs) [] zs a le = absurd (omega (arith, le))
prefix_short (x ∷ xs) (y ∷ ys) zs a le =
    let same : x ≡ y = cc (a.1) in
    let rest = prefix_short xs ys zs (a.0, ap (drop 1) a.1) (omega (arith, le)) in
    (rest.0, λ i. same i ∷ rest.1 i)

abbrev pub stands : LinkState → List Parcel
stands l = l.early ++ known_items l.into

-- what was known is what was taken and what is known still, or its beginning
within : (l m : LinkState) (is : HasMoved l m) → IsPrefix (stands l) (is.takes ++ stands m)
within l m is = (
  is.known.0,
  append_assoc l.early (known_items l.into) is.known.0 ∙ ap (λ ps. l.early ++ ps) more
      ∙ sym (append_assoc l.early is.came (known_items m.into)) ∙ ap (λ ps. ps ++ known_items m.into) is.taken
      ∙ append_assoc is.takes m.early (known_items m.into),
)
  where
    more : known_items l.into ++ is.known.0 ≡ is.came ++ known_items m.into
    more =
        append_cancel_left (received l.into) _ _ (sym (append_assoc (received l.into) (known_items l.into) is.known.0)
        ∙ is.known.1 ∙ ap (λ ps. ps ++ known_items m.into) is.into
        ∙ append_assoc (received l.into) is.came (known_items m.into))

pub drains-more : (l m k : LinkState) (a : HasMoved l m) (b : IsDrained m k) →
    IsPrefix (stands l) (a.takes ++ b.0.takes)
drains-more l m k a b =
    prefix-trans (stands l) (a.takes ++ stands m) (a.takes ++ b.0.takes) (within l m a)
    (prefix_front a.takes (stands m) b.0.takes b.1)

-- what is drained after more was taken is drained
abbrev pub drained-then : (l m k : LinkState) → HasMoved l m → IsDrained m k → IsDrained l k
drained-then l m k a b = (moved-then l m k a b.0, drains-more l m k a b)

-- what was drained stays so
pub drained-on : (l m k : LinkState) → IsDrained l m → HasMoved m k → IsDrained l k
drained-on l m k a b = (
  moved-then l m k a.0 b,
  prefix-trans (stands l) a.0.takes (a.0.takes ++ b.takes) a.1 (b.takes, refl),
)

-- nothing is known to stand there
pub drained-empty : (l m : LinkState) → HasMoved l m → m.early ≡ [] → known_items m.into ≡ [] → IsDrained l m
drained-empty l m is early known = (
  is,
  subst (IsPrefix (stands l)) ((λ i. is.takes ++ (early i ++ known i)) ∙ append-nil is.takes) (within l m is),
)

-- as many were taken as were known
pub drained-all : (l m : LinkState) (is : HasMoved l m) → length (stands l) ≤ length is.takes → IsDrained l m
drained-all l m is le = (is, prefix_short (stands l) is.takes (stands m) (within l m is) le)

-- what was taken is told by what came out of the ring, and by what waits there still
pub takes-same : (l m : LinkState) (a b : HasMoved l m) → a.takes ≡ b.takes
takes-same l m a b =
    append_cancel_right a.takes b.takes m.early (sym a.taken ∙ ap (λ ps. l.early ++ ps) came ∙ b.taken)
  where
    came : a.came ≡ b.came
    came = append_cancel_left (received l.into) a.came b.came (sym a.into ∙ b.into)
