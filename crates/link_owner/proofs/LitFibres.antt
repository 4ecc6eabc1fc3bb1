-- The marks of a node's fibres: which there are, and one of them changed.
use Rattle.std.proofs.{Common.{◌≡◌, ◌+◌, ◌<◌, ℕ, zero, suc, Bool, true, false, cond, nat_eq, not, List, [], ◌∷◌, length, get_or, set, refl, sym, ap, subst, ◌∙◌, arith, one-add}, lemmas.List.Quantifiers.position-Some}
use Rattle.std.specs.{Prelude.{◌&&◌, ◌||◌, Option, Some, None, position}, List.{list_any, position_or_len}}
use Rattle.ason_base.specs.{declared.ids.Fibre.Fibre, declared.ids.Lsp.Lsp, Lsps.{is_lsp, same_fibre}}
use Rattle.ason_base.proofs.{LspOrder.same_fibre-eq, Finding.place-is}
use Rattle.link_owner.specs.{Claims.FibreClaims, Marks.{DarkensLabel, FibreMarks, LightsLabel, has_fibre_marks, is_lit, is_marked_fibre, lit, lit_on}, Owners.{DarkensJust, LightsJust, OwnerState}}
use Rattle.link_owner.proofs.FibrePlaces.{place-found}

-- where one passes, some one does
any-at : {X : Type 0} (p : X → Bool) (xs : List X) (i : ℕ) (d : X) → i < length xs → p (get_or xs i d) ≡ true →
    list_any p xs ≡ true
any-at p [] i d below passes = absurd (omega (arith, below))
any-at p (x ∷ xs) zero d below passes = rw passes refl
any-at p (x ∷ xs) (suc i) d below passes = or_last (p x) (any-at p xs i d (omega (arith, below)) passes)
  where
    or_last : (b : Bool) → list_any p xs ≡ true → (b || list_any p xs) ≡ true
    or_last true later = refl
    or_last false later = later

-- a fibre that has a mark is the node's
pub lit-there : (marks : List FibreMarks) (f : Fibre) (x : ℕ) (l : Lsp) → lit marks f x ≡ Some l →
    has_fibre_marks marks f ≡ true
lit-there [] f x l e = absurd (cc e)
lit-there (m ∷ marks) f x l e = go (is_marked_fibre f m) e (lit-there marks f x l)
  where
    go : (b : Bool) → cond b (lit_on x m) (lit marks f x) ≡ Some l →
        (lit marks f x ≡ Some l → has_fibre_marks marks f ≡ true) → (b || has_fibre_marks marks f) ≡ true
    go true e later = refl
    go false e later = later e

-- no mark is on a fibre that isn't there
none-lit : (marks : List FibreMarks) (f : Fibre) (x : ℕ) → has_fibre_marks marks f ≡ false → lit marks f x ≡ None
none-lit [] f x e = refl
none-lit (m ∷ marks) f x e = go (is_marked_fibre f m) e (none-lit marks f x)
  where
    go : (b : Bool) → (b || has_fibre_marks marks f) ≡ false →
        (has_fibre_marks marks f ≡ false → lit marks f x ≡ None) →
        cond b (lit_on x m) (lit marks f x) ≡ None
    go true e later = absurd (cc e)
    go false e later = later e

pub nowhere-lit : (marks : List FibreMarks) (f : Fibre) (x : ℕ) → position (is_marked_fibre f) marks ≡ None →
    lit marks f x ≡ None
nowhere-lit marks f x e = go (has_fibre_marks marks f) refl
  where
    go : (b : Bool) → has_fibre_marks marks f ≡ b → lit marks f x ≡ None
    go true there = absurd (place-found (is_marked_fibre f) marks there e)
    go false there = none-lit marks f x there

-- the marks of a fibre, read at its place
first-lit : (marks : List FibreMarks) (f : Fibre) (x : ℕ) (d : FibreMarks) → has_fibre_marks marks f ≡ true →
    lit_on x (get_or marks (position_or_len (is_marked_fibre f) marks) d) ≡ lit marks f x
first-lit [] f x d h = absurd (cc h)
first-lit (m ∷ marks) f x d h = go (is_marked_fibre f m) h (first-lit marks f x d)
  where
    n : ℕ
    n = position_or_len (is_marked_fibre f) marks

    go : (b : Bool) → (b || has_fibre_marks marks f) ≡ true →
        (has_fibre_marks marks f ≡ true → lit_on x (get_or marks n d) ≡ lit marks f x) →
        lit_on x (get_or (m ∷ marks) (cond (not b) (1 + n) 0) d) ≡ cond b (lit_on x m) (lit marks f x)
    go true h later = refl
    go false h later = rw (one-add n) (later h)

-- other marks of the same fibre put there
put-lit : (marks : List FibreMarks) (f g : Fibre) (y : ℕ) (s : FibreMarks) → has_fibre_marks marks f ≡ true →
    s.fibre ≡ f →
    lit (set marks (position_or_len (is_marked_fibre f) marks) s) g y
    ≡ cond (same_fibre f g) (lit_on y s) (lit marks g y)
put-lit [] f g y s h is = absurd (cc h)
put-lit (m ∷ marks) f g y s h is = go (is_marked_fibre f m) refl h (put-lit marks f g y s)
  where
    n : ℕ
    n = position_or_len (is_marked_fibre f) marks

    here : (a : Bool) → cond a (lit_on y s) (lit marks g y)
        ≡ cond a (lit_on y s) (cond a (lit_on y m) (lit marks g y))
    here true = refl
    here false = refl

    later-put : is_marked_fibre f m ≡ false → (a b : Bool) → same_fibre m.fibre g ≡ a → same_fibre f g ≡ b →
        cond a (lit_on y m) (cond b (lit_on y s) (lit marks g y))
        ≡ cond b (lit_on y s) (cond a (lit_on y m) (lit marks g y))
    later-put apart true true e k =
        let there : m.fibre ≡ f = same_fibre-eq m.fibre g e ∙ sym (same_fibre-eq f g k) in
        let both_there : same_fibre f g ≡ same_fibre m.fibre f = ap (same_fibre f) (sym (same_fibre-eq f g k))
        ∙ ap (λ h. same_fibre h f) (sym there) in
        absurd (cc (k, both_there, apart))
    later-put apart true false e k = refl
    later-put apart false true e k = refl
    later-put apart false false e k = refl

    go : (b : Bool) → is_marked_fibre f m ≡ b → (b || has_fibre_marks marks f) ≡ true →
        (has_fibre_marks marks f ≡ true → s.fibre ≡ f →
        lit (set marks n s) g y ≡ cond (same_fibre f g) (lit_on y s) (lit marks g y)) →
        lit (set (m ∷ marks) (cond (not b) (1 + n) 0) s) g y
        ≡ cond (same_fibre f g) (lit_on y s) (cond (same_fibre m.fibre g) (lit_on y m) (lit marks g y))
    go true first h later =
        rw (is, same_fibre-eq m.fibre f first) (here (same_fibre f g))
    go false apart h later =
        rw (one-add n, later h is)
        (later-put apart (same_fibre m.fibre g) (same_fibre f g) refl refl)

put-fibre : (marks : List FibreMarks) (f g : Fibre) (s : FibreMarks) → has_fibre_marks marks f ≡ true → s.fibre ≡ f →
    has_fibre_marks (set marks (position_or_len (is_marked_fibre f) marks) s) g ≡ has_fibre_marks marks g
put-fibre [] f g s h is = absurd (cc h)
put-fibre (m ∷ marks) f g s h is = go (is_marked_fibre f m) refl h (put-fibre marks f g s)
  where
    n : ℕ
    n = position_or_len (is_marked_fibre f) marks

    go : (b : Bool) → is_marked_fibre f m ≡ b → (b || has_fibre_marks marks f) ≡ true →
        (has_fibre_marks marks f ≡ true → s.fibre ≡ f → has_fibre_marks (set marks n s) g ≡ has_fibre_marks marks g) →
        has_fibre_marks (set (m ∷ marks) (cond (not b) (1 + n) 0) s) g
        ≡ (same_fibre m.fibre g || has_fibre_marks marks g)
    go true first h later = ap (λ k. same_fibre k g || has_fibre_marks marks g) (is ∙ sym (same_fibre-eq m.fibre f first))
    go false apart h later = rw (one-add n) (ap (λ b. same_fibre m.fibre g || b) (later h is))

-- a fibre that was found, as it was read at its place; the owner has these claims and items
pub record IsLitAt (f : Fibre) (o : OwnerState) (claims : List FibreClaims) (items : List FibreMarks) (i : ℕ)
    (r : FibreMarks) : Type 0 where
  pub first : position (is_marked_fibre f) o.marks ≡ Some i
  pub read : r ≡ get_or items i r
  pub view : record { claims = claims; marks = items } ≡ o

pub is-lit-at : (f : Fibre) (o : OwnerState) (r : FibreMarks) {claims : List FibreClaims} {items : List FibreMarks}
    {i : ℕ} → position (is_marked_fibre f) o.marks ≡ Some i → r ≡ get_or items i r →
    record { claims = claims; marks = items } ≡ o → IsLitAt f o claims items i r
is-lit-at f o r first read view = record { first = first; read = read; view = view }

module _ {f : Fibre} {o : OwnerState} {claims : List FibreClaims} {items : List FibreMarks} {i : ℕ} {r : FibreMarks}
    (h : IsLitAt f o claims items i r) where
  same : items ≡ o.marks
  same = ap (λ p. p.marks) h.view

  here : r ≡ get_or o.marks i r
  here = h.read ∙ ap (λ xs. get_or xs i r) same

  place : position_or_len (is_marked_fibre f) o.marks ≡ i
  place = place-is (is_marked_fibre f) o.marks i h.first

  found : (i < length o.marks) × (is_marked_fibre f (get_or o.marks i r) ≡ true)
  found = let at = position-Some (is_marked_fibre f) o.marks i r h.first in (at.0, at.1)

  there : has_fibre_marks o.marks f ≡ true
  there = any-at (is_marked_fibre f) o.marks i r found.0 found.1

  its-fibre : r.fibre ≡ f
  its-fibre = same_fibre-eq r.fibre f (ap (is_marked_fibre f) here ∙ found.1)

  pub read-lit : (x : ℕ) → lit_on x r ≡ lit o.marks f x
  read-lit x =
      ap (lit_on x) here
      ∙ subst (λ j. lit_on x (get_or o.marks j r) ≡ lit o.marks f x) place (first-lit o.marks f x r there)

  put-fibres : (s : FibreMarks) → s.fibre ≡ r.fibre → (g : Fibre) →
      has_fibre_marks (set items i s) g ≡ has_fibre_marks o.marks g
  put-fibres s is g =
      ap (λ xs. has_fibre_marks (set xs i s) g) same
      ∙ subst (λ j. has_fibre_marks (set o.marks j s) g ≡ has_fibre_marks o.marks g) place
      (put-fibre o.marks f g s there (is ∙ its-fibre))

  put-all : (s : FibreMarks) → s.fibre ≡ r.fibre → (g : Fibre) (y : ℕ) →
      lit (set items i s) g y ≡ cond (same_fibre f g) (lit_on y s) (lit o.marks g y)
  put-all s is g y =
      ap (λ xs. lit (set xs i s) g y) same
      ∙ subst (λ j. lit (set o.marks j s) g y ≡ cond (same_fibre f g) (lit_on y s) (lit o.marks g y)) place
      (put-lit o.marks f g y s there (is ∙ its-fibre))

  -- where a label passes, its mark on the fibre becomes this one; all else is as it was
  put-just : (s : FibreMarks) (test : ℕ → Bool) (k : Option Lsp) → s.fibre ≡ r.fibre →
      ((y : ℕ) → lit_on y s ≡ cond (test y) k (lit_on y r)) → (g : Fibre) (y : ℕ) →
      lit (set items i s) g y ≡ cond (same_fibre f g && test y) k (lit o.marks g y)
  put-just s test k is each g y = put-all s is g y ∙ go (same_fibre f g) refl
    where
      go : (b : Bool) → same_fibre f g ≡ b →
          cond b (lit_on y s) (lit o.marks g y) ≡ cond (b && test y) k (lit o.marks g y)
      go true e =
          each y ∙ ap (λ m. cond (test y) k m) (read-lit y ∙ ap (λ j. lit o.marks j y) (same_fibre-eq f g e))
      go false e = refl

  -- a mark that is set, and put back
  pub lights : (x : ℕ) (l : Lsp) (s : FibreMarks) → LightsLabel x l r s →
      LightsJust f x l o (record { claims = claims; marks = set items i s })
  lights x l s put = record {
    claims = ap (λ p. p.claims) h.view;
    fibres = put-fibres s put.fibre;
    lit = put-just s (λ y. nat_eq x y) (Some l) put.fibre put.lit;
  }

  -- one that is cleared
  pub darkens : (x : ℕ) (l : Lsp) (s : FibreMarks) → DarkensLabel x l r s →
      DarkensJust f x l o (record { claims = claims; marks = set items i s })
  darkens x l s put = record {
    claims = ap (λ p. p.claims) h.view;
    fibres = put-fibres s put.fibre;
    lit =
        put-just s (λ y. nat_eq x y && is_lit o.marks f x l) None put.fibre
        (λ y. put.lit y ∙ ap (λ k. cond (nat_eq x y && is_lsp k l) None (lit_on y r)) (read-lit x));
  }
