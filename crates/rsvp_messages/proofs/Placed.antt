-- Where the objects of each class stand.
use Rattle.std.proofs.{Common.{◌≡◌, ◌≢◌, ◌≤◌, ◌<◌, ℕ, zero, suc, ◌+◌, ◌-◌, ◌==◌, Bool, true, false, cond, List, [], ◌∷◌, ◌++◌, length, get_or, replicate, set, take, refl, ap, sym, subst, ◌∙◌, arith}, lemmas.List.{append-nil, get_or-replicate, get_or-set_other, get_or-take, length-append, length-take-le}, lemmas.Grind.get_or-set_at}
use Rattle.rsvp_messages.specs.{declared.object_table.TheConstants.NOTED, declared.raw.RawObject.RawObject, Objects.of_class, Places.{HasPlaces, ObjectStandsAt, noted}, Seen.{all_seen, seen}}
use Rattle.rsvp_messages.proofs.Lookups.{more}
use Rattle.ason_base.proofs.Numbers.{equal-not, equal-from}

-- where there are no objects, no class has any
pub none_stand : (raws : List RawObject) → raws ≡ [] → HasPlaces raws (replicate NOTED 0)
none_stand raws e class d within =
    record {
      none = λ zero. ap (λ (rs : List RawObject). of_class class (all_seen rs)) e;
      one = λ some. absurd (some (get_or-replicate NOTED class 0 d within));
      many = λ is. absurd (omega (arith, is, get_or-replicate NOTED class 0 d within));
    }

pub any_default : (xs : List RawObject) (k : ℕ) (d e : RawObject) → k < length xs → get_or xs k d ≡ get_or xs k e
any_default [] k d e within = absurd (omega arith)
any_default (x ∷ xs) zero d e within = refl
any_default (x ∷ xs) (suc k) d e within = any_default xs k d e (omega arith)

-- an object more

module _ (raws : List RawObject) (i : ℕ) (x : RawObject) (within : i < length raws) (is : x ≡ get_or raws i x) where
  more_of : (class : ℕ) → of_class class (all_seen (take (i + 1) raws)) ≡ of_class class (all_seen (take i raws))
      ++ cond (x.class == class) (seen x ∷ []) []
  more_of class = more class raws i x within ∙ ap (λ (o : RawObject). of_class class (all_seen (take i raws))
      ++ cond (o.class == class) (seen o ∷ []) []) (sym is)

  more_same : (class : ℕ) → x.class ≡ class → of_class class (all_seen (take (i + 1) raws)) ≡
      of_class class (all_seen (take i raws)) ++ seen x ∷ []
  more_same class e = more_of class ∙ ap (λ (b : Bool). of_class class (all_seen (take i raws))
      ++ cond b (seen x ∷ []) []) (equal-from x.class class e)

  more_other : (class : ℕ) → x.class ≢ class → of_class class (all_seen (take (i + 1) raws)) ≡
      of_class class (all_seen (take i raws))
  more_other class ne = more_of class ∙ ap (λ (b : Bool). of_class class (all_seen (take i raws))
      ++ cond b (seen x ∷ []) []) (equal-not x.class class ne)
      ∙ append-nil (of_class class (all_seen (take i raws)))

  longer : length (take (i + 1) raws) ≡ i + 1
  longer = length-take-le (i + 1) raws (omega arith)

  shorter : length (take i raws) ≡ i
  shorter = length-take-le i raws (omega arith)

  other_stands : (class place : ℕ) → x.class ≢ class → ObjectStandsAt class (take i raws) place →
      ObjectStandsAt class (take (i + 1) raws) place
  other_stands class place ne s = record {
    none = λ e. more_other class ne ∙ s.none e;
    one = λ some few.
        let o = s.one some few in
        let before : place - 1 < i = omega (arith, o.within, shorter) in
        record {
          within = omega (arith, longer, before);
          is = λ d. more_other class ne ∙ o.is d ∙ ap (λ (r : RawObject). seen r ∷ [])
              (get_or-take i raws (place - 1) d before
              ∙ sym (get_or-take (i + 1) raws (place - 1) d (omega (arith, before))));
        };
    many = λ e. omega (arith, ap length (more_other class ne), s.many e);
  }

  first_stands : (class place : ℕ) → x.class ≡ class → place ≡ 0 → i + 1 < 65535 →
      ObjectStandsAt class (take i raws) place →
      ObjectStandsAt class (take (i + 1) raws) (i + 1)
  first_stands class place same none few s = record {
    none = λ e. absurd (omega (arith, e));
    one = λ some several. record {
      within = omega (arith, longer);
      is = λ d. more_same class same ∙ ap (λ os. os ++ seen x ∷ []) (s.none none)
          ∙ ap (λ (r : RawObject). seen r ∷ []) (at d);
    };
    many = λ e. absurd (omega (arith, e, few));
  }
    where
      at : (d : RawObject) → x ≡ get_or (take (i + 1) raws) (i + 1 - 1) d
      at d =
          let place : i + 1 - 1 ≡ i = omega arith in
          is ∙ any_default raws i x d within ∙ sym (get_or-take (i + 1) raws i d (omega arith))
          ∙ ap (λ k. get_or (take (i + 1) raws) k d) (sym place)

  again_stands : (class place : ℕ) → x.class ≡ class → place ≢ 0 → ObjectStandsAt class (take i raws) place →
      ObjectStandsAt class (take (i + 1) raws) 65535
  again_stands class place same some s = record {
    none = λ e. absurd (omega (arith, e));
    one = λ _ several. absurd (several refl);
    many = λ e. go (place == 65535) refl;
  }
    where
      longer_by_one : length (of_class class (all_seen (take (i + 1) raws))) ≡
          length (of_class class (all_seen (take i raws))) + 1
      longer_by_one = ap length (more_same class same)
          ∙ length-append (of_class class (all_seen (take i raws))) (seen x ∷ [])

      go : (b : Bool) → (place == 65535) ≡ b → 2 ≤ length (of_class class (all_seen (take (i + 1) raws)))
      go true e = omega (arith, longer_by_one, s.many (grind (arith, e)))
      go false e =
          let o = s.one some (λ all. absurd (grind (arith, e, all))) in
          omega (arith, longer_by_one, ap length (o.is x))

  -- it is noted
  pub noted_stand : (places : List ℕ) (n : ℕ) → HasPlaces (take i raws) places → length places ≡ NOTED →
      x.class < NOTED →
      i + 1 < 65535 → n ≡ noted (get_or places x.class 0) (i + 1) → HasPlaces (take (i + 1) raws) (set places x.class n)
  noted_stand places n has long low few new class d below = by_class (x.class == class) refl
    where
      before : ℕ
      before = get_or places x.class 0

      here : x.class ≡ class → ObjectStandsAt class (take (i + 1) raws) n
      here same = by_place (before == 0) refl
        where
          stands : ObjectStandsAt class (take i raws) before
          stands = subst (λ k. ObjectStandsAt class (take i raws) (get_or places k 0)) (sym same) (has class 0 below)

          by_place : (b : Bool) → (before == 0) ≡ b → ObjectStandsAt class (take (i + 1) raws) n
          by_place true e =
              subst (ObjectStandsAt class (take (i + 1) raws))
              (sym (new ∙ ap (λ (b : Bool). cond b (i + 1) 65535) e))
              (first_stands class before same (grind (arith, e)) few stands)
          by_place false e =
              subst (ObjectStandsAt class (take (i + 1) raws))
              (sym (new ∙ ap (λ (b : Bool). cond b (i + 1) 65535) e))
              (again_stands class before same (λ none. absurd (grind (arith, e, none))) stands)

      by_class : (b : Bool) → (x.class == class) ≡ b →
          ObjectStandsAt class (take (i + 1) raws) (get_or (set places x.class n) class d)
      by_class true e =
          let same : x.class ≡ class = grind (arith, e) in
          subst (ObjectStandsAt class (take (i + 1) raws))
          (sym (get_or-set_at places x.class class n d (sym same) (omega (arith, long, low)))) (here same)
      by_class false e =
          let other : x.class ≢ class = (λ same. absurd (grind (arith, e, same))) in
          subst (ObjectStandsAt class (take (i + 1) raws))
          (sym (get_or-set_other places x.class class n d (λ same. other (sym same))))
          (other_stands class (get_or places class d) other (has class d below))

  -- it isn't, since its class is none of them
  pub passed_stand : (places : List ℕ) → HasPlaces (take i raws) places → NOTED ≤ x.class →
      HasPlaces (take (i + 1) raws) places
  passed_stand places has high class d below =
      other_stands class (get_or places class d) (λ same. absurd (omega (arith, same, high, below))) (has class d below)
