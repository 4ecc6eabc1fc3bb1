-- The place of a name in a list, found in a map, and one name more.
use Rattle.std.proofs.{Common.{◌≡◌, ℕ, suc, ◌+◌, ◌<◌, ◌||◌, Bool, true, false, cond, not, nat_lt, arith, length, List, [], ◌∷◌, ◌++◌, refl, ap, sym, ◌∙◌, subst}, lemmas.List.Quantifiers.position-Some, lemmas.Slice.Eq.bytes_eq-Decides}
use Rattle.std.specs.{Prelude.{Option, Some, None, String, is_some, option_map, position}, BTreeMap.{BTreeMap, get_by_text}, Global.Global, List.{list_any, position_or_len}}
use Rattle.plan_reader.specs.{Names.{has_name, place_of, same_text}, PlanCalls.ArePlacesOfNames}

-- the place behind an item that may pass
position_behind :
    {X : Type 0} (p : X → Bool) (y : X) (ys : List X)
    → position p (y ∷ ys) ≡ cond (p y) (Some 0) (option_map (λ k. 1 + k) (position p ys))
position_behind p y ys = go (p y)
  where
    place : ℕ
    place = position_or_len p ys

    count : ℕ
    count = length ys

    behind :
        (b : Bool) → nat_lt place count ≡ b
        → cond (nat_lt (1 + place) (suc count)) (Some (1 + place)) None
        ≡ option_map (λ k. 1 + k) (cond (nat_lt place count) (Some place) None)
    behind true e = let more : nat_lt (1 + place) (suc count) ≡ true = grind (arith, e) in rw (e, more) refl
    behind false e = let more : nat_lt (1 + place) (suc count) ≡ false = grind (arith, e) in rw (e, more) refl

    go :
        (b : Bool)
        → cond (nat_lt (cond (not b) (1 + place) 0) (suc count)) (Some (cond (not b) (1 + place) 0)) None
        ≡ cond b (Some 0) (option_map (λ k. 1 + k) (cond (nat_lt place count) (Some place) None))
    go true = let some : nat_lt 0 (suc count) ≡ true = grind arith in rw some refl
    go false = behind (nat_lt place count) refl

-- some item passes just where there is a place
pub any_at : {X : Type 0} (p : X → Bool) (xs : List X) → list_any p xs ≡ is_some (position p xs)
any_at p [] = refl
any_at {X} p (y ∷ ys) = rw (position_behind p y ys, any_at p ys) (go (p y) (position p ys))
  where
    go : (b : Bool) (o : Option ℕ) → (b || is_some o) ≡ is_some (cond b (Some 0) (option_map (λ k. 1 + k) o))
    go true o = refl
    go false None = refl
    go false (Some k) = refl

-- the place in a list with one item more
pub position_more :
    {X : Type 0} (p : X → Bool) (xs : List X) (x : X)
    → position p (xs ++ x ∷ []) ≡ cond (list_any p xs) (position p xs) (cond (p x) (Some (length xs)) None)
position_more p [] x = position_behind p x []
position_more {X} p (y ∷ ys) x =
    rw (position_behind p y (ys ++ x ∷ []), position_behind p y ys, position_more p ys x)
    (go (p y) (list_any p ys) (p x) (position p ys) (length ys))
  where
    go :
        (b any this : Bool) (o : Option ℕ) (n : ℕ)
        → cond b (Some 0) (option_map (λ k. 1 + k) (cond any o (cond this (Some n) None)))
        ≡ cond (b || any) (cond b (Some 0) (option_map (λ k. 1 + k) o)) (cond this (Some (suc n)) None)
    go true any this o n = refl
    go false true this o n = refl
    go false false true o n = ap (λ k. Some k) (omega arith)
    go false false false o n = refl

pub has_place : (names : List (List ℕ)) (name : List ℕ) → has_name names name ≡ is_some (place_of names name)
has_place names name = any_at (λ n. same_text n name) names

pub place_within : (names : List (List ℕ)) (name : List ℕ) (k : ℕ) → place_of names name ≡ Some k → k < length names
place_within names name k h = (position-Some (λ n. same_text n name) names k [] h).0

-- a new name gets the next place, and all others keep theirs
pub places_more :
    (old new : BTreeMap (String Global) ℕ) (names : List (List ℕ)) (name : List ℕ) → has_name names name ≡ false
    → ArePlacesOfNames old names
    → ((bs : List ℕ) → get_by_text new bs ≡ cond (same_text name bs) (Some (length names)) (get_by_text old bs))
    → ArePlacesOfNames new (names ++ name ∷ [])
places_more old new names name absent before after = λ bs.
    after bs ∙ (ap (λ o. cond (same_text name bs) (Some (length names)) o) (before bs)
    ∙ (go bs (same_text name bs) refl ∙ sym (position_more (λ n. same_text n bs) names name)))
  where
    none : (bs : List ℕ) → has_name names bs ≡ false → (o : Option ℕ) → place_of names bs ≡ o → o ≡ None
    none bs h None e = refl
    none bs h (Some k) e = absurd (cc (h, has_place names bs, ap is_some e))

    go :
        (bs : List ℕ) (b : Bool) → same_text name bs ≡ b
        → cond b (Some (length names)) (place_of names bs)
        ≡ cond (has_name names bs) (place_of names bs) (cond b (Some (length names)) None)
    go bs true e =
        let same : name ≡ bs = (bytes_eq-Decides name bs).0 e in
        let new_name : has_name names bs ≡ false = subst (λ n. has_name names n ≡ false) same absent in
        rw new_name refl
    go bs false e = keeps (has_name names bs) refl
      where
        keeps :
            (h : Bool) → has_name names bs ≡ h → place_of names bs ≡ cond h (place_of names bs) None
        keeps true h = refl
        keeps false h = none bs h (place_of names bs) refl
