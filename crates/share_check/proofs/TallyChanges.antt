-- Labels that are added, and what an LSP guards on a label that it takes or gives up.
use Rattle.std.proofs.{Common.{◌≡◌, ◌+◌, ◌<◌, ℕ, suc, Bool, true, false, cond, not, nat_eq, nat_lt, List, [], ◌∷◌, ◌++◌, length, refl, sym, ap, subst, ◌∙◌, arith, eqb-true}, lemmas.Map.Views.any-filter_same}
use Rattle.std.specs.{Prelude.{◌&&◌, ◌||◌, None, position}, List.{AllByRecursion, list_any, position_or_len}}
use Rattle.ason_base.specs.{declared.ids.Fibre.Fibre, declared.ids.Lsp.Lsp, declared.risks.Risk.Risk, Lsps.{same_fibre, same_lsp}, Risks.{has_risk, same_risk}}
use Rattle.share_check.specs.{declared.guarded.GuardedRisk.GuardedRisk, declared.guarded.Meets.Meets, Guards.{AreTalliesApart, GuardsNone, IsFirstMet, IsLeastMet, LabelTally, NoneMet, guarded_at, guards_of, has_guard, is_at, is_guard, unguarded}}
use Rattle.ason_base.proofs.{LspOrder.{same_fibre-eq, same_fibre-refl, same_lsp-eq, same_lsp-refl}, Finding.place-within, Options.none-when, Numbers.self-number, Bools.{and-left, and-right}}
use Rattle.share_check.proofs.{Tallies.guarded-is, Fitting.NoneGuards}

-- a label without a risk
abbrev pub bare : Fibre → ℕ → LabelTally
bare f x = record { fibre = f; label = x; guarded = [] }

-- where none is found, none passes
pub none-found : {X : Type 0} (p : X → Bool) (xs : List X) → position p xs ≡ None → list_any p xs ≡ false
none-found p xs e = go (list_any p xs) refl
  where
    far : nat_lt (position_or_len p xs) (length xs) ≡ false
    far = none-when (nat_lt (position_or_len p xs) (length xs)) (position_or_len p xs) e

    go : (b : Bool) → list_any p xs ≡ b → b ≡ false
    go true h = let near : position_or_len p xs < length xs = place-within p xs h in absurd (grind arith)
    go false h = refl

-- A label more

-- a label that isn't there has no risks
pub no-risks : (f : Fibre) (x : ℕ) (ts : List LabelTally) → list_any (is_at f x) ts ≡ false → guarded_at f x ts ≡ []
no-risks f x [] none = refl
no-risks f x (t ∷ ts) none = go (is_at f x t) none (no-risks f x ts)
  where
    go : (b : Bool) → (b || list_any (is_at f x) ts) ≡ false →
        (list_any (is_at f x) ts ≡ false → guarded_at f x ts ≡ []) → cond b t.guarded (guarded_at f x ts) ≡ []
    go true h later = absurd (cc h)
    go false h later = later h

-- the new label is the last
pub pushed-place : (f : Fibre) (x : ℕ) (ts : List LabelTally) → list_any (is_at f x) ts ≡ false →
    position_or_len (is_at f x) (ts ++ bare f x ∷ []) ≡ length ts
pushed-place f x [] none = rw (same_fibre-refl f, self-number x) refl
pushed-place f x (t ∷ ts) none = go (is_at f x t) none (pushed-place f x ts)
  where
    go : (b : Bool) → (b || list_any (is_at f x) ts) ≡ false →
        (list_any (is_at f x) ts ≡ false → position_or_len (is_at f x) (ts ++ bare f x ∷ []) ≡ length ts) →
        cond (not b) (1 + position_or_len (is_at f x) (ts ++ bare f x ∷ [])) 0 ≡ suc (length ts)
    go true h later = absurd (cc h)
    go false h later = let rest = later h in omega (arith, rest)

swapped : (f g : Fibre) (x y : ℕ) → (same_fibre f g && nat_eq x y) ≡ false → (same_fibre g f && nat_eq y x) ≡ false
swapped f g x y e = go (same_fibre g f && nat_eq y x) refl
  where
    go : (b : Bool) → (same_fibre g f && nat_eq y x) ≡ b → b ≡ false
    go true h =
        let fibre = same_fibre-eq g f (and-left (same_fibre g f) (nat_eq y x) h) in
        let label = eqb-true y x (and-right (same_fibre g f) (nat_eq y x) h) in
        let here : (same_fibre f g && nat_eq x y) ≡ true =
        subst (λ k. (same_fibre f k && nat_eq x y) ≡ true) (sym fibre)
        (subst (λ z. (same_fibre f f && nat_eq x z) ≡ true) (sym label)
        (rw (same_fibre-refl f) (self-number x))) in
        absurd (cc (here, e))
    go false h = refl

all-pushed : (g : Fibre) (y : ℕ) (ts : List LabelTally) (u : LabelTally) →
    AllByRecursion (λ t. is_at g y t ≡ false) ts → is_at g y u ≡ false →
    AllByRecursion (λ t. is_at g y t ≡ false) (ts ++ u ∷ [])
all-pushed g y [] u all here = (here, tt)
all-pushed g y (t ∷ ts) u all here = (all.0, all-pushed g y ts u all.1 here)

-- each label still stands once
pub pushed-apart : (f : Fibre) (x : ℕ) (ts : List LabelTally) → AreTalliesApart ts → list_any (is_at f x) ts ≡ false →
    AreTalliesApart (ts ++ bare f x ∷ [])
pushed-apart f x [] apart none = (tt, tt)
pushed-apart f x (t ∷ ts) apart none = go (is_at f x t) refl none (pushed-apart f x ts apart.1)
  where
    go : (b : Bool) → is_at f x t ≡ b → (b || list_any (is_at f x) ts) ≡ false →
        (list_any (is_at f x) ts ≡ false → AreTalliesApart (ts ++ bare f x ∷ [])) →
        AreTalliesApart (t ∷ (ts ++ bare f x ∷ []))
    go true e h later = absurd (cc h)
    go false e h later =
        (all-pushed t.fibre t.label ts (bare f x) apart.0 (swapped t.fibre f t.label x e), later h)

-- What an LSP guards

pub same_lsp-sym : (l m : Lsp) → same_lsp l m ≡ same_lsp m l
same_lsp-sym l m = go (same_lsp l m) (same_lsp m l) refl refl
  where
    turned : (a b : Lsp) → same_lsp a b ≡ true → same_lsp b a ≡ true
    turned a b e = subst (λ k. same_lsp k a ≡ true) (same_lsp-eq a b e) (same_lsp-refl a)

    go : (a b : Bool) → same_lsp l m ≡ a → same_lsp m l ≡ b → a ≡ b
    go true b e f = sym (turned l m e) ∙ f
    go false true e f = absurd (cc (e, turned m l f))
    go false false e f = refl

and_true : (b : Bool) → ((b && true) || false) ≡ b
and_true true = refl
and_true false = refl

and_false : (b c : Bool) → ((b && false) || c) ≡ c
and_false true c = refl
and_false false c = refl

-- one that guarded nothing guards these risks
pub lsp-guards : (l : Lsp) (r : List Risk) (before after : List GuardedRisk) →
    ((m : Lsp) (q : Risk) → has_guard m q after ≡ ((has_risk r q && same_lsp l m) || has_guard m q before)) →
    ((q : Risk) → has_guard l q before ≡ false) → (m : Lsp) (q : Risk) →
    has_guard m q after ≡ cond (same_lsp l m) (has_risk r q) (has_guard m q before)
lsp-guards l r before after more none m q = more m q ∙ go (same_lsp l m) refl
  where
    go : (b : Bool) → same_lsp l m ≡ b →
        ((has_risk r q && b) || has_guard m q before) ≡ cond b (has_risk r q) (has_guard m q before)
    go true e =
        let never : has_guard m q before ≡ false =
        subst (λ k. has_guard k q before ≡ false) (same_lsp-eq l m e) (none q) in
        ap (λ b. (has_risk r q && true) || b) never ∙ and_true (has_risk r q)
    go false e = and_false (has_risk r q) (has_guard m q before)

-- one that gives up the label guards nothing
pub lsp-guards-none : (l : Lsp) (before : List GuardedRisk) (m : Lsp) (q : Risk) →
    has_guard m q (unguarded l before) ≡ cond (same_lsp l m) false (has_guard m q before)
lsp-guards-none l before m q =
    any-filter_same (is_guard m q) (λ p. not (same_lsp p.lsp l)) (not (same_lsp l m)) told before
    ∙ go (same_lsp l m)
  where
    told : (p : GuardedRisk) → is_guard m q p ≡ true → not (same_lsp p.lsp l) ≡ not (same_lsp l m)
    told p h =
        let is : p.lsp ≡ m = same_lsp-eq p.lsp m (and-right (same_risk q p.risk) (same_lsp p.lsp m) h) in
        ap (λ k. not (same_lsp k l)) is ∙ ap not (same_lsp-sym m l)

    go : (b : Bool) → (not b && has_guard m q before) ≡ cond b false (has_guard m q before)
    go true = refl
    go false = refl

-- what the LSP guarded on the label, where it guarded nothing
pub none-before : (f : Fibre) (x : ℕ) (l : Lsp) (ts : List LabelTally) → AreTalliesApart ts →
    GuardsNone (guards_of ts) f x l →
    (q : Risk) → has_guard l q (guarded_at f x ts) ≡ false
none-before f x l ts apart none q = sym (guarded-is ts f x l q apart) ∙ none q

-- What is met on a label

-- none of the label's risks is asked, so no LSP guards one there
pub none-guards : (f : Fibre) (x : ℕ) (r : List Risk) (ts : List LabelTally) → AreTalliesApart ts →
    NoneMet (guarded_at f x ts) r → NoneGuards (guards_of ts) f r x
none-guards f x r ts apart none l q asked = guarded-is ts f x l q apart ∙ none l q asked

-- the first that is met is the least of all guards
pub first-least : (f : Fibre) (x : ℕ) (r : List Risk) (ts : List LabelTally) (m : Meets) → AreTalliesApart ts →
    IsFirstMet (guarded_at f x ts) r m → IsLeastMet (guards_of ts) f x r m
first-least f x r ts m apart first = record {
  asked = first.asked;
  least_risk = λ q l there below. guarded-is ts f x l q apart ∙ first.least_risk q l there below;
  least_lsp = record {
    guarded = guarded-is ts f x m.lsp m.risk apart ∙ first.guards;
    least = λ l before. guarded-is ts f x l m.risk apart ∙ first.least_lsp l before;
  };
}
