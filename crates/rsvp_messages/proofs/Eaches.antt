-- Reading each object of a class.
use Rattle.std.proofs.{Common.{◌≡◌, ℕ, ◌+◌, ◌<◌, ◌≤◌, ◌==◌, Some, List, [], ◌∷◌, ◌++◌, length, take, drop, get_or, refl, ap, sym, subst, ◌∙◌}, lemmas.List.{map-append, take-append-drop, take_all}, lemmas.List.Elements.filter-append}
use Rattle.rsvp_messages.specs.{declared.raw.RawObject.RawObject, Objects.{Object, of_class}, Parts.AreEach, Seen.{all_seen, seen}}
use Rattle.rsvp_messages.proofs.Lookups.{finds}

-- what these objects mean, one for one, and nothing else
pub record ReadEach {X : Type 0} (ctype : ℕ) (Means : List ℕ → X → Type 0) (os : List Object) (xs : List X)
    : Type 0 where
  pub found : AreEach ctype Means os xs
  pub only : (ys : List X) → AreEach ctype Means os ys → xs ≡ ys

one_more : {X : Type 0} (ctype : ℕ) (Means : List ℕ → X → Type 0) (os : List Object) (xs : List X) (o : Object)
    (x : X) → AreEach ctype Means os xs → o.ctype ≡ ctype → Means o.body x →
    AreEach ctype Means (os ++ o ∷ []) (xs ++ x ∷ [])
one_more ctype Means [] [] o x are t m = (t, m, tt)
one_more ctype Means [] (y ∷ ys) o x are t m = absurd are
one_more ctype Means (p ∷ ps) [] o x are t m = absurd are
one_more ctype Means (p ∷ ps) (y ∷ ys) o x are t m = (are.0, are.1, one_more ctype Means ps ys o x are.2 t m)

pub record EndsWith {X : Type 0} (ctype : ℕ) (Means : List ℕ → X → Type 0) (os : List Object) (o : Object) (zs : List X)
    : Type 0 where
  pub front : List X
  pub last : X
  pub is : zs ≡ front ++ last ∷ []
  pub fronts : AreEach ctype Means os front
  pub typed : o.ctype ≡ ctype
  pub means : Means o.body last

splits : {X : Type 0} (ctype : ℕ) (Means : List ℕ → X → Type 0) (os : List Object) (o : Object) (zs : List X) →
    AreEach ctype Means (os ++ o ∷ []) zs → EndsWith ctype Means os o zs
splits ctype Means [] o [] are = absurd are
splits ctype Means [] o (z ∷ []) are =
    record { front = []; last = z; is = refl; fronts = tt; typed = are.0; means = are.1 }
splits ctype Means [] o (z ∷ y ∷ zs) are = absurd are.2
splits ctype Means (p ∷ ps) o [] are = absurd are
splits {X = X} ctype Means (p ∷ ps) o (z ∷ zs) are =
    let s = splits ctype Means ps o zs are.2 in
    record {
      front =
          z ∷ s.front;
      last = s.last;
      is = ap (λ (l : List X). z ∷ l) s.is;
      fronts =
          (are.0, are.1, s.fronts);
      typed = s.typed;
      means = s.means;
    }

same_end : {X : Type 0} (xs ys : List X) (x y : X) → xs ≡ ys → Some x ≡ Some y → xs ++ x ∷ [] ≡ ys ++ y ∷ []
same_end xs ys x y e f = let g : x ≡ y = cc in λ i. e i ++ g i ∷ []

goes_on : {X : Type 0} (ctype : ℕ) (Means : List ℕ → X → Type 0) (os : List Object) (xs : List X) (o : Object) (x : X) →
    o.ctype ≡ ctype → Means o.body x → ((y : X) → Means o.body y → Some x ≡ Some y) → ReadEach ctype Means os xs →
    ReadEach ctype Means (os ++ o ∷ []) (xs ++ x ∷ [])
goes_on ctype Means os xs o x t m once so_far = record {
  found = one_more ctype Means os xs o x so_far.found t m;
  only = λ ys are. let s = splits ctype Means os o ys are in
      same_end xs s.front x s.last (so_far.only s.front s.fronts) (once s.last s.means) ∙ sym s.is;
}

pub takes : {X : Type 0} (class ctype : ℕ) (Means : List ℕ → X → Type 0) (raws : List RawObject) (i : ℕ) (d : RawObject)
    (xs new : List X) (x : X) → i < length raws → (get_or raws i d).class ≡ class → (get_or raws i d).ctype ≡ ctype →
    Means (get_or raws i d).body.now x → ((y : X) → Means (get_or raws i d).body.now y → Some x ≡ Some y) →
    new ≡ xs ++ x ∷ [] →
    ReadEach ctype Means (of_class class (all_seen (take i raws))) xs →
    ReadEach ctype Means (of_class class (all_seen (take (i + 1) raws))) new
takes class ctype Means raws i d xs new x within same t m once pushed so_far =
    subst (λ (os : List Object). ReadEach ctype Means os new) (sym (finds class raws i d within same))
    (subst (ReadEach ctype Means (of_class class (all_seen (take i raws)) ++ seen (get_or raws i d) ∷ [])) (sym pushed)
    (goes_on ctype Means (of_class class (all_seen (take i raws))) xs (seen (get_or raws i d)) x t m once so_far))

pub all : {X : Type 0} (class ctype : ℕ) (Means : List ℕ → X → Type 0) (raws : List RawObject) (i : ℕ) (xs : List X) →
    length raws ≤ i → ReadEach ctype Means (of_class class (all_seen (take i raws))) xs →
    ReadEach ctype Means (of_class class (all_seen raws)) xs
all class ctype Means raws i xs end so_far =
    subst (λ (rs : List RawObject). ReadEach ctype Means (of_class class (all_seen rs)) xs) (take_all i raws end) so_far

front_of : {X : Type 0} (ctype : ℕ) (Means : List ℕ → X → Type 0) (os others : List Object) (zs : List X) →
    AreEach ctype Means (os ++ others) zs → (ys : List X) × AreEach ctype Means os ys
front_of ctype Means [] others zs are = ([], tt)
front_of ctype Means (o ∷ os) others [] are = absurd are
front_of ctype Means (o ∷ os) others (z ∷ zs) are =
    let f = front_of ctype Means os others zs are.2 in (z ∷ f.0, (are.0, are.1, f.1))

-- an object of the class that means nothing
pub breaks : {X : Type 0} (class ctype : ℕ) (Means : List ℕ → X → Type 0) (raws : List RawObject) (i : ℕ)
    (d : RawObject) → i < length raws → (get_or raws i d).class ≡ class →
    ((x : X) → (get_or raws i d).ctype ≡ ctype → Means (get_or raws i d).body.now x → ⊥) → (zs : List X) →
    AreEach ctype Means (of_class class (all_seen raws)) zs → ⊥
breaks class ctype Means raws i d within same none zs are =
    let apart : of_class class (all_seen raws) ≡ (of_class class (all_seen (take i raws)) ++ seen (get_or raws i d)
    ∷ []) ++ of_class class (all_seen (drop (i + 1) raws)) =
    ap (λ (rs : List RawObject). of_class class (all_seen rs)) (sym (take-append-drop (i + 1) raws))
    ∙ ap (of_class class) (map-append seen (take (i + 1) raws) (drop (i + 1) raws))
    ∙ filter-append (λ x. x.class == class) (all_seen (take (i + 1) raws)) (all_seen (drop (i + 1) raws))
    ∙ ap (λ (os : List Object). os ++ of_class class (all_seen (drop (i + 1) raws)))
    (finds class raws i d within same) in
    let front = front_of ctype Means (of_class class (all_seen (take i raws)) ++ seen (get_or raws i d) ∷ [])
    (of_class class (all_seen (drop (i + 1) raws))) zs
    (subst (λ (os : List Object). AreEach ctype Means os zs) apart are) in
    let s = splits ctype Means (of_class class (all_seen (take i raws))) (seen (get_or raws i d)) front.0 front.1 in
    none s.last s.typed s.means

-- the only object means nothing
pub alone_breaks : {X : Type 0} (ctype : ℕ) (Means : List ℕ → X → Type 0) (os : List Object) (o : Object) →
    os ≡ o ∷ [] → ((x : X) → Means o.body x → ⊥) → (zs : List X) → AreEach ctype Means os zs → ⊥
alone_breaks ctype Means os o alone none zs are =
    let s = splits ctype Means [] o zs (subst (λ (l : List Object). AreEach ctype Means l zs) alone are) in
    none s.last s.means
