-- Where a fibre stands among those that come in.
use Rattle.std.proofs.Common.{◌≡◌, ◌+◌, ◌<◌, ℕ, Bool, true, false, cond, not, nat_lt, List, [], ◌∷◌, length, get_or, set, refl, sym, ap, subst, ◌∙◌, arith, one-add}
use Rattle.std.specs.{Prelude.{◌||◌, Option, Some, None, position}, List.{list_any, position_or_len}}
use Rattle.ason_base.specs.declared.ids.Fibre.{Fibre}
use Rattle.ason_base.proofs.{Finding.{place-is, place-within}, Options.none-when}
use Rattle.link_owner.specs.{declared.claims.Claim.Claim, Claims.FibreClaims, Marks.FibreMarks, Owners.{OwnerState, claims_of, comes_in, is_fibre, labels_of_fibre, with_claims}}

pub place-found : {X : Type 0} (p : X → Bool) (xs : List X) → list_any p xs ≡ true → position p xs ≡ None → ⊥
place-found p xs h e =
    let far = none-when (nat_lt (position_or_len p xs) (length xs)) (position_or_len p xs) e in
    let near : position_or_len p xs < length xs = place-within p xs h in
    let test : nat_lt (position_or_len p xs) (length xs) ≡ false = far in
    grind arith

set-first : (f : Fibre) (claims : List Claim) (o : List FibreClaims) (d : FibreClaims) →
    set o (position_or_len (is_fibre f) o) (record (get_or o (position_or_len (is_fibre f) o) d) { claims = claims })
    ≡ with_claims f claims o
set-first f claims [] d = refl
set-first f claims (r ∷ o) d = go (is_fibre f r) (set-first f claims o d)
  where
    n : ℕ
    n = position_or_len (is_fibre f) o

    go : (b : Bool) → set o n (record (get_or o n d) { claims = claims }) ≡ with_claims f claims o →
        set (r ∷ o) (cond (not b) (1 + n) 0) (record (get_or (r ∷ o) (cond (not b) (1 + n) 0) d) { claims = claims })
        ≡ cond b (record r { claims = claims } ∷ o) (r ∷ with_claims f claims o)
    go true rest = refl
    go false rest = rw (one-add n) (ap (λ xs. r ∷ xs) rest)

-- what is told of a fibre is what the first that passes tells
first-tells : {Y : Type 0} (f : Fibre) (tells : FibreClaims → Y) (of : List FibreClaims → Y) →
    ((r : FibreClaims) (o : List FibreClaims) → of (r ∷ o) ≡ cond (is_fibre f r) (tells r) (of o)) →
    (o : List FibreClaims) (d : FibreClaims) → comes_in o f ≡ true →
    tells (get_or o (position_or_len (is_fibre f) o) d) ≡ of o
first-tells f tells of each [] d h = absurd (cc h)
first-tells {Y} f tells of each (r ∷ o) d h =
    go (is_fibre f r) h (first-tells f tells of each o d) ∙ sym (each r o)
  where
    n : ℕ
    n = position_or_len (is_fibre f) o

    go : (b : Bool) → (b || list_any (is_fibre f) o) ≡ true → (comes_in o f ≡ true → tells (get_or o n d) ≡ of o) →
        tells (get_or (r ∷ o) (cond (not b) (1 + n) 0) d) ≡ cond b (tells r) (of o)
    go true h later = refl
    go false h later = rw (one-add n) (later h)

-- a fibre that was found, as it was read at its place; the owner has these items and marks
pub record IsRead (f : Fibre) (o : OwnerState) (items : List FibreClaims) (marks : List FibreMarks) (i : ℕ)
    (r : FibreClaims) : Type 0 where
  pub there : comes_in o.claims f ≡ true
  pub first : position (is_fibre f) o.claims ≡ Some i
  pub read : r ≡ get_or items i r
  pub view : record { claims = items; marks = marks } ≡ o

pub is-read : (f : Fibre) (o : OwnerState) (r : FibreClaims) {items : List FibreClaims} {marks : List FibreMarks}
    {i : ℕ} → comes_in o.claims f ≡ true → position (is_fibre f) o.claims ≡ Some i → r ≡ get_or items i r →
    record { claims = items; marks = marks } ≡ o → IsRead f o items marks i r
is-read f o r there first read view = record { there = there; first = first; read = read; view = view }

-- where the first that passes stands, as it was found in what was read
pub first-read : {X : Type 0} (p : X → Bool) {found : Option ℕ} {shown inner now : List X} → found ≡ position p shown →
    shown ≡ inner → inner ≡ now → position p now ≡ found
first-read p found read view = sym (found ∙ ap (position p) read ∙ ap (position p) view)

module _ {f : Fibre} {o : OwnerState} {items : List FibreClaims} {marks : List FibreMarks} {i : ℕ} {r : FibreClaims}
    (h : IsRead f o items marks i r) where
  same : items ≡ o.claims
  same = ap (λ p. p.claims) h.view

  place : position_or_len (is_fibre f) o.claims ≡ i
  place = place-is (is_fibre f) o.claims i h.first

  read-here : r ≡ get_or o.claims i r
  read-here = h.read ∙ ap (λ xs. get_or xs i r) same

  pub read-claims : r.claims ≡ claims_of f o.claims
  read-claims =
      ap (λ s. s.claims) read-here
      ∙ subst (λ j. (get_or o.claims j r).claims ≡ claims_of f o.claims) place
      (first-tells f (λ s. s.claims) (claims_of f) (λ s t. refl) o.claims r h.there)

  pub read-labels : r.labels ≡ labels_of_fibre f o.claims
  read-labels =
      ap (λ s. s.labels) read-here
      ∙ subst (λ j. (get_or o.claims j r).labels ≡ labels_of_fibre f o.claims) place
      (first-tells f (λ s. s.labels) (labels_of_fibre f) (λ s t. refl) o.claims r h.there)

  put-claims : (s : FibreClaims) (change : List Claim → List Claim) → s ≡ record r { claims = change r.claims } →
      set items i s ≡ with_claims f (change (claims_of f o.claims)) o.claims
  put-claims s change e =
      let new : FibreClaims → FibreClaims = λ q. record q { claims = change r.claims } in
      let put : set o.claims i s ≡ set o.claims i (new (get_or o.claims i r)) =
      ap (set o.claims i) (e ∙ ap new read-here) in
      let there : set o.claims i (new (get_or o.claims i r)) ≡ with_claims f (change r.claims) o.claims =
      subst (λ j. set o.claims j (new (get_or o.claims j r)) ≡ with_claims f (change r.claims) o.claims) place
      (set-first f (change r.claims) o.claims r) in
      ap (λ xs. set xs i s) same ∙ put ∙ there ∙ ap (λ claims. with_claims f (change claims) o.claims) read-claims

  -- its claims changed, and put back
  pub put-back : (s : FibreClaims) (change : List Claim → List Claim) → s ≡ record r { claims = change r.claims } →
      record { claims = set items i s; marks = marks }
      ≡ record o { claims = with_claims f (change (claims_of f o.claims)) o.claims }
  put-back s change e =
      let claims = put-claims s change e in
      let kept = ap (λ p. p.marks) h.view in
      λ j. record { claims = claims j; marks = kept j }
