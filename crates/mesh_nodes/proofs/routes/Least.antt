-- The least of a list of walks, where each walk that is allowed is no better than one of them.
use Rattle.std.proofs.Common.{◌≡◌, ◌≤◌, ◌↔◌, inl, inr, ℕ, Bool, true, false, cond, List, [], ◌∷◌, refl, sym, ap, subst, arith, Contains}
use Rattle.std.specs.Prelude.{Option, Some, None}
use Rattle.ason_base.specs.{Walks.{IsLeast, links_of}, declared.steps.Step.Step}
use Rattle.ason_base.proofs.Members.{contains-cases, contains-head, contains-tail, contains-none}
use Rattle.mesh_rules.specs.LeastRoutes.{Trip, is_at_most, least_of_trips, lesser_trip, precedes}
use Rattle.mesh_nodes.proofs.routes.Order.{at_most-test, both_precede, precedes-by, precedes-cost, precedes-links, precedes-self, precedes-total, precedes-trans, test-at_most}

-- The least of a list

pub record IsLeastTrip (xs : List Trip) (r : Trip) : Type 0 where
  pub there : Contains xs r
  pub before : (y : Trip) → Contains xs y → precedes r y ≡ true

abbrev pub IsChoice : List Trip → Option Trip → Type 0
IsChoice xs None = xs ≡ []
IsChoice xs (Some r) = IsLeastTrip xs r

chosen : (x : Trip) (xs : List Trip) (o : Option Trip) → IsChoice xs o → IsLeastTrip (x ∷ xs) (lesser_trip x o)
chosen x xs None none = record {
  there = contains-head x xs;
  before = λ y h. elim (contains-cases x y xs h) [
    | inl e ↦ subst (λ z. precedes x z ≡ true) e (precedes-self x)
    | inr later ↦ absurd (contains-none y (subst (λ zs. Contains zs y) none later))
  ];
}
chosen x xs (Some r) is = by_test (precedes x r) refl
  where
    by_test : (c : Bool) → precedes x r ≡ c → IsLeastTrip (x ∷ xs) (cond c x r)
    by_test true e = record {
      there = contains-head x xs;
      before = λ y h. elim (contains-cases x y xs h) [
        | inl same ↦ subst (λ z. precedes x z ≡ true) same (precedes-self x)
        | inr later ↦ precedes-trans x r y e (is.before y later)
      ];
    }
    by_test false e = record {
      there = contains-tail x r xs is.there;
      before = λ y h. elim (contains-cases x y xs h) [
        | inl same ↦ subst (λ z. precedes r z ≡ true) same (precedes-total x r e)
        | inr later ↦ is.before y later
      ];
    }

pub choice : (xs : List Trip) → IsChoice xs (least_of_trips xs)
choice [] = refl
choice (x ∷ xs) = chosen x xs (least_of_trips xs) (choice xs)

pub chosen-is : (xs : List Trip) (r : Trip) → least_of_trips xs ≡ Some r → IsLeastTrip xs r
chosen-is xs r e = subst (IsChoice xs) e (choice xs)

-- Of all that is allowed

-- one of the list, as good as what was allowed, or the same
pub record IsAsGood (xs : List Trip) (steps : List Step) (cost : ℕ) : Type 0 where
  pub trip : Trip
  pub there : Contains xs trip
  pub most : trip.cost ≤ cost
  pub same : trip.cost ≡ cost → trip.steps ≡ steps

-- what is in the list is allowed; what is allowed has one in the list that is as good; and routes over the same links
-- are one
pub record Represents (Allowed : List Step → ℕ → Type 0) (xs : List Trip) : Type 0 where
  pub sound : (r : Trip) → Contains xs r → Allowed r.steps r.cost
  pub good : (steps : List Step) (cost : ℕ) → Allowed steps cost → IsAsGood xs steps cost
  pub one : (a b : List Step) (c d : ℕ) → Allowed a c → Allowed b d → links_of a ≡ links_of b → a ≡ b

module _ (Allowed : List Step → ℕ → Type 0) (xs : List Trip) (rep : Represents Allowed xs) where
  first-least : (r : Trip) → IsLeastTrip xs r → IsLeast Allowed r.steps r.cost
  first-least r is = record {
    allowed = rep.sound r is.there;
    least = λ other c allowed.
        (let g = rep.good other c allowed in
        let first : r.cost ≤ g.trip.cost = precedes-cost r g.trip (is.before g.trip g.there) in
        let most : g.trip.cost ≤ c = g.most in
        omega arith);
    first = λ other allowed.
        (let g = rep.good other r.cost allowed in
        let before = is.before g.trip g.there in
        let first : r.cost ≤ g.trip.cost = precedes-cost r g.trip before in
        let most : g.trip.cost ≤ r.cost = g.most in
        let same : r.cost ≡ g.trip.cost = omega arith in
        test-at_most r.steps other
        (subst (λ s. is_at_most r.steps s ≡ true) (g.same (sym same)) (precedes-links r g.trip before same)));
  }

  least-first : (r q : Trip) → IsLeast Allowed r.steps r.cost → IsLeastTrip xs q → q ≡ r
  least-first r q is first =
      let g = rep.good r.steps r.cost is.allowed in
      let most : g.trip.cost ≤ r.cost = g.most in
      let least : r.cost ≤ g.trip.cost = is.least g.trip.steps g.trip.cost (rep.sound g.trip g.there) in
      let cost : g.trip.cost ≡ r.cost = omega arith in
      let steps : g.trip.steps ≡ r.steps = g.same cost in
      let itself : g.trip ≡ r = (λ i. record { steps = steps i; cost = cost i }) in
      let allowed : Allowed q.steps q.cost = rep.sound q first.there in
      let before : precedes q r ≡ true = subst (λ x. precedes q x ≡ true) itself (first.before g.trip g.there) in
      let after : precedes r q ≡ true =
      precedes-by r q (is.least q.steps q.cost allowed)
      (λ same. at_most-test r.steps q.steps (is.first q.steps (subst (Allowed q.steps) (sym same) allowed)))
      in
      let alike = both_precede q r before after in
      let one : q.steps ≡ r.steps = rep.one q.steps r.steps q.cost r.cost allowed is.allowed alike.links in
      λ i. record { steps = one i; cost = alike.cost i }

  -- the function gives a route exactly where it is the least
  pub least-iff : (r : Trip) → (least_of_trips xs ≡ Some r) ↔ IsLeast Allowed r.steps r.cost
  least-iff r = ((λ e. first-least r (chosen-is xs r e)), (λ is. back is (least_of_trips xs) (choice xs)))
    where
      back : IsLeast Allowed r.steps r.cost → (o : Option Trip) → IsChoice xs o → o ≡ Some r
      back is None none =
          absurd (let g = rep.good r.steps r.cost is.allowed in contains-none g.trip
          (subst (λ zs. Contains zs g.trip) none g.there))
      back is (Some q) first = ap Some (least-first r q is first)

  -- and none exactly where none is allowed
  pub none-iff : (least_of_trips xs ≡ None) ↔ ((steps : List Step) (cost : ℕ) → ¬ Allowed steps cost)
  none-iff = ((λ e. there (least_of_trips xs) (choice xs) e), (λ none. back none (least_of_trips xs) (choice xs)))
    where
      there : (o : Option Trip) → IsChoice xs o → o ≡ None → (steps : List Step) (cost : ℕ) → ¬ Allowed steps cost
      there None none e steps cost allowed =
          let g = rep.good steps cost allowed in contains-none g.trip (subst (λ zs. Contains zs g.trip) none g.there)
      there (Some r) first e steps cost allowed = cc e

      back : ((steps : List Step) (cost : ℕ) → ¬ Allowed steps cost) → (o : Option Trip) → IsChoice xs o → o ≡ None
      back none None e = refl
      back none (Some r) first = absurd (none r.steps r.cost (rep.sound r first.there))
