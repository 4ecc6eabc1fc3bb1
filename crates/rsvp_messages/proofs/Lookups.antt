-- Looking up the objects of a class.
use Rattle.std.proofs.{Common.{◌≡◌, ◌≤◌, ℕ, ◌+◌, ◌<◌, ◌==◌, Bool, true, false, cond, Option, Some, None, List, [], ◌∷◌, ◌++◌, length, take, drop, get_or, refl, ap, sym, subst, ◌∙◌, arith, length-append, Bor}, lemmas.List.{map_more, map-append, take-append-drop}, lemmas.List.Elements.filter-append}
use Rattle.std.specs.Option.{is_some, option_map, option_to_list}
use Rattle.ason_base.proofs.Numbers.{equal-from}
use Rattle.rsvp_messages.specs.{declared.raw.RawObject.RawObject, Objects.{Object, of_class}, Parts.{HasAtMostOne, HasOne}, Seen.{all_seen, seen}}

-- what one object more adds
pub more : (class : ℕ) (raws : List RawObject) (i : ℕ) (d : RawObject) → i < length raws →
    of_class class (all_seen (take (i + 1) raws)) ≡ of_class class (all_seen (take i raws)) ++ cond
    ((get_or raws i d).class == class) (seen (get_or raws i d) ∷ []) []
more class raws i d within =
    ap (of_class class) (map_more seen raws i d within)
    ∙ filter-append (λ x. x.class == class) (all_seen (take i raws)) (seen (get_or raws i d) ∷ [])

pub finds : (class : ℕ) (raws : List RawObject) (i : ℕ) (d : RawObject) → i < length raws →
    (get_or raws i d).class ≡ class →
    of_class class (all_seen (take (i + 1) raws)) ≡ of_class class (all_seen (take i raws)) ++ seen (get_or raws i d)
    ∷ []
finds class raws i d within same =
    more class raws i d within ∙ ap (λ (b : Bool). of_class class (all_seen (take i raws)) ++ cond b
    (seen (get_or raws i d) ∷ []) []) (equal-from (get_or raws i d).class class same)

-- the objects at the front have no more of a class than all
few : (class : ℕ) (raws : List RawObject) (k : ℕ) → length (of_class class (all_seen (take k raws))) ≤ length
    (of_class class (all_seen raws))
few class raws k =
    let apart : of_class class (all_seen raws) ≡ of_class class (all_seen (take k raws)) ++ of_class class
    (all_seen (drop k raws)) =
    ap (λ (rs : List RawObject). of_class class (all_seen rs)) (sym (take-append-drop k raws))
    ∙ ap (of_class class) (map-append seen (take k raws) (drop k raws))
    ∙ filter-append (λ x. x.class == class) (all_seen (take k raws)) (all_seen (drop k raws)) in
    omega (
      arith,
      ap length apart,
      length-append (of_class class (all_seen (take k raws)))
          (of_class class (all_seen (drop k raws))),
    )

-- one was found before, and here is one more
pub many : (class : ℕ) (raws : List RawObject) (i : ℕ) (d : RawObject) (before : Option RawObject) (b : Bool) →
    i < length raws → (get_or raws i d).class ≡ class →
    of_class class (all_seen (take i raws)) ≡ option_to_list (option_map seen before) → b ≡ is_some before → b ≡ true →
    2 ≤ length (of_class class (all_seen raws))
many class raws i d None b within same so_far is test = absurd cc
many class raws i d (Some o) b within same so_far is test =
    let two : of_class class (all_seen (take (i + 1) raws)) ≡ seen o ∷ seen (get_or raws i d)
    ∷ [] = finds class raws i d within same ∙ ap (λ (l : List Object). l ++ seen (get_or raws i d) ∷ []) so_far in
    omega (arith, ap length two, few class raws (i + 1))

-- one object of the class, seen by its fields
pub is_of : (class : ℕ) (os : List Object) (o : Object) → of_class class os ≡ o ∷ [] → o.class ≡ class
is_of class [] o e = absurd cc
is_of class (x ∷ xs) o e =
    elim (x.class == class) as (λ b. (x.class == class) ≡ b →
    cond b (x ∷ of_class class xs) (of_class class xs) ≡ o ∷ [] → o.class ≡ class) [
      | true ↦ λ t f. let same : x ≡ o = cc in subst (λ (y : Object). y.class ≡ class) same (grind arith)
      | false ↦ λ t f. is_of class xs o f
    ] refl e

pub one_with : (class ctype : ℕ) (os : List Object) (found : Option RawObject) (o : RawObject) →
    of_class class os ≡ option_to_list (option_map seen found) → found ≡ Some o → o.ctype ≡ ctype →
    of_class class os ≡ record { class = class; ctype = ctype; body = o.body.now } ∷ []
one_with class ctype os found o e is t =
    let one : of_class class os ≡ seen o ∷ [] = e ∙ ap (λ (f : Option RawObject). option_to_list (option_map seen f))
    is in
    let c : o.class ≡ class = is_of class os (seen o) one in
    one ∙ (λ i. record { class = c i; ctype = t i; body = o.body.now } ∷ [])

front_body : List Object → List ℕ
front_body [] = []
front_body (o ∷ os) = o.body

-- the one object of the class means what each one object of the class means
pub means_here : (class ctype : ℕ) (Means : List ℕ → Type 0) (os : List Object) (body : List ℕ) →
    of_class class os ≡ record { class = class; ctype = ctype; body = body } ∷ [] → HasOne class ctype Means os →
    Means body
unfolding front_body
means_here class ctype Means os body e has =
    let same : has.body ≡ body = ap front_body (sym has.one ∙ e) in subst Means same has.means

front_ctype : List Object → ℕ
front_ctype [] = 0
front_ctype (o ∷ os) = o.ctype

-- of one C-Type, and of no other
pub same_ctype : (class a b : ℕ) (Means : List ℕ → Type 0) (os : List Object) (body : List ℕ) →
    of_class class os ≡ record { class = class; ctype = a; body = body } ∷ [] → HasOne class b Means os → a ≡ b
unfolding front_ctype
same_ctype class a b Means os body e has = ap front_ctype (sym e ∙ has.one)

abbrev pub of_bytes : ℕ → ℕ → Bor (List ℕ) → Object
of_bytes class ctype b = record { class = class; ctype = ctype; body = b.now }

pub optional_at : (class ctype : ℕ) (os : List Object) (found : Option (Bor (List ℕ))) (b : Bor (List ℕ)) →
    of_class class os ≡ option_to_list (option_map (of_bytes class ctype) found) → found ≡ Some b →
    of_class class os ≡ of_bytes class ctype b ∷ []
optional_at class ctype os found b e is =
    e ∙ ap (λ (f : Option (Bor (List ℕ))). option_to_list (option_map (of_bytes class ctype) f)) is

abbrev pub of_list : ℕ → ℕ → List ℕ → Object
of_list class ctype b = record { class = class; ctype = ctype; body = b }

pub no_optional : {X : Type 0} (class ctype : ℕ) (Means : List ℕ → X → Type 0) (os : List Object) →
    ((found : Option (List ℕ)) → of_class class os ≡ option_to_list (option_map (of_list class ctype) found) →
    false ≡ true) → (x : Option X) → HasAtMostOne class ctype Means os x → ⊥
no_optional class ctype Means os none None has = cc (none None has)
no_optional class ctype Means os none (Some x) has = cc (none (Some has.body) has.one)

-- one is there, with this body
pub optional_is : {X : Type 0} (class ctype : ℕ) (Means : List ℕ → X → Type 0) (os : List Object) (body : List ℕ)
    (P : Option X → Type 0) → of_class class os ≡ record { class = class; ctype = ctype; body = body } ∷ [] →
    ((x : X) → Means body x → P (Some x)) →
    (x : Option X) → HasAtMostOne class ctype Means os x → P x
optional_is class ctype Means os body P one only None has = absurd (omega (arith, ap length (sym has ∙ one)))
optional_is class ctype Means os body P one only (Some x) has =
    only x (means_here class ctype (λ b. Means b x) os body one has)
