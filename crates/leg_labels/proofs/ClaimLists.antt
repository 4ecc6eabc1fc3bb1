-- Lists of claims, and in what way a leg has its label.
use Rattle.std.proofs.{Common.{◌≡◌, ℕ, Bool, true, false, cond, List, [], ◌∷◌, ◌++◌, refl, ◌∙◌}, lemmas.List.Folds.list_any-append, Math.Bool.or-true}
use Rattle.std.specs.{Prelude.{◌||◌, Some, None, filter}, List.{AllByRecursion, list_any}}
use Rattle.ason_base.specs.{declared.ids.Fibre.Fibre, declared.tables.Leg.Leg}
use Rattle.link_owner.specs.declared.claims.ClaimKind.{ClaimKind}
use Rattle.mesh_rules.specs.Legs.{takes}
use Rattle.leg_table.specs.LegClaims.{claim_kind, kind_here}

-- Lists of claims

-- what is true of all is true of those that are left
pub all-left : {X : Type 0} (P Q : X → Type 0) (q : X → Bool) (xs : List X) → ((x : X) → P x → q x ≡ true → Q x) →
    AllByRecursion P xs →
    AllByRecursion Q (filter q xs)
all-left P Q q [] f all = tt
all-left {X} P Q q (x ∷ xs) f all = go (q x) refl (all-left P Q q xs f all.1)
  where
    go : (b : Bool) → q x ≡ b → AllByRecursion Q (filter q xs) →
        AllByRecursion Q (cond b (x ∷ filter q xs) (filter q xs))
    go true e rest = (f x all.0 e, rest)
    go false e rest = rest

-- and of one more that it is true of
pub all-one_more : {X : Type 0} (P : X → Type 0) (xs : List X) (x : X) → AllByRecursion P xs → P x →
    AllByRecursion P (xs ++ x ∷ [])
all-one_more P [] x all here = (here, tt)
all-one_more P (y ∷ xs) x all here = (all.0, all-one_more P xs x all.1 here)

-- one that passes is left where those that pass are kept
pub any-left_in : {X : Type 0} (t q : X → Bool) (xs : List X) → ((x : X) → t x ≡ true → q x ≡ true) → list_any t xs ≡ true →
    list_any t (filter q xs) ≡ true
any-left_in t q [] f h = h
any-left_in {X} t q (x ∷ xs) f h = go (q x) refl (t x) refl h (any-left_in t q xs f)
  where
    go : (b : Bool) → q x ≡ b → (a : Bool) → t x ≡ a → (a || list_any t xs) ≡ true →
        (list_any t xs ≡ true → list_any t (filter q xs) ≡ true) →
        list_any t (cond b (x ∷ filter q xs) (filter q xs)) ≡ true
    go true e true k h later = rw k refl
    go true e false k h later = rw k (later h)
    go false e true k h later = absurd (cc (e, f x k))
    go false e false k h later = later h

-- one of the first list passes
pub any-first : {X : Type 0} (t : X → Bool) (xs ys : List X) → list_any t xs ≡ true → list_any t (xs ++ ys) ≡ true
any-first t xs ys h = list_any-append t xs ys ∙ rw h refl

-- the last one passes
pub any-last : {X : Type 0} (t : X → Bool) (xs : List X) (x : X) → t x ≡ true → list_any t (xs ++ x ∷ []) ≡ true
any-last t xs x h = list_any-append t xs (x ∷ []) ∙ rw h (or-true (list_any t xs))

-- Kinds

-- a leg with a kind of claim on a label takes it
pub kind-of : (f : Fibre) (x : ℕ) (g : Leg) (k : ClaimKind) → kind_here f x (Some g) ≡ Some k → takes f x g ≡ true
kind-of f x g k e = go (takes f x g) refl e
  where
    go : (b : Bool) → takes f x g ≡ b → cond b (Some (claim_kind g.role)) None ≡ Some k → b ≡ true
    go true t e = refl
    go false t e = absurd (cc e)
