-- The labels that LABEL_SETs allow, one by one.
use Rattle.std.proofs.Common.{◌≡◌, ℕ, ◌+◌, ◌≤◌, ◌<◌, ◌&&◌, ◌||◌, ltb, eqb, cond, Bool, true, false, List, [], ◌∷◌, filter, refl, ap, sym, subst, ◌∙◌, arith, length, get_or}
use Rattle.ason_base.specs.{declared.limits.TheConstants.MOST_LABELS, Labels.{has, numbers_from, up_to, with_label}}
use Rattle.rsvp_objects.specs.{declared.label_set.LabelSetObject.LabelSetObject, LabelSets.among}
use Rattle.rsvp_messages.specs.Messages.{allows}
use Rattle.ason_base.proofs.{MaskMembers.{has-filter, filter-agree, has-bound}, Numbers.equal-not}

-- those below n that pass
abbrev pub below : (ℕ → Bool) → ℕ → List ℕ
below p n = filter (λ x. ltb x n && p x) (up_to MOST_LABELS)

pub below_first : (p : ℕ → Bool) → [] ≡ below p 1
unfolding numbers_from
below_first p = refl

one_above : (a : Bool) (x n : ℕ) → (x ≡ n → a ≡ true) → (eqb x n || (ltb x n && a)) ≡ (ltb x (n + 1) && a)
one_above true x n h = grind arith
one_above false x n h = let other : eqb x n ≡ false = equal-not x n (λ e. cc (h e)) in grind arith

none_above : (a : Bool) (x n : ℕ) → (x ≡ n → a ≡ false) → (ltb x n && a) ≡ (ltb x (n + 1) && a)
none_above true x n h = let other : x ≡ n → ⊥ = (λ e. cc (h e)) in grind arith
none_above false x n h = grind arith

with_next : (p : ℕ → Bool) (n : ℕ) (s : List ℕ) → s ≡ below p n → p n ≡ true → with_label s n ≡ below p (n + 1)
with_next p n s e passes = filter-agree (λ x. eqb x n || has s x) (λ x. ltb x (n + 1) && p x) (up_to MOST_LABELS)
    (λ x h.
    ap (λ (b : Bool). eqb x n || b)
    (ap (λ (t : List ℕ). has t x) e ∙ has-filter (λ y. ltb y n && p y) (up_to MOST_LABELS) x
    ∙ ap (λ (b : Bool). b && (ltb x n && p x)) h)
    ∙ one_above (p x) x n (λ same. ap p same ∙ passes))

without_next : (p : ℕ → Bool) (n : ℕ) (s : List ℕ) → s ≡ below p n → p n ≡ false → s ≡ below p (n + 1)
without_next p n s e fails =
    e ∙ filter-agree (λ x. ltb x n && p x) (λ x. ltb x (n + 1) && p x) (up_to MOST_LABELS)
    (λ x h. none_above (p x) x n (λ same. ap p same ∙ fails))

pub next : (p : ℕ → Bool) (n : ℕ) (s new : List ℕ) → s ≡ below p n → new ≡ cond (p n) (with_label s n) s →
    new ≡ below p (n + 1)
next p n s new e is =
    is ∙ (elim (p n) as (λ b. p n ≡ b → cond b (with_label s n) s ≡ below p (n + 1))
    [ true ↦ with_next p n s e | false ↦ without_next p n s e ] refl)

pub whole : (p : ℕ → Bool) (n : ℕ) (s : List ℕ) → MOST_LABELS + 1 ≤ n → s ≡ below p n → s ≡ filter p (up_to MOST_LABELS)
whole p n s end e =
    e ∙ filter-agree (λ x. ltb x n && p x) p (up_to MOST_LABELS)
    (λ x h. let top = has-bound MOST_LABELS 1 x h in let inside : ltb x n ≡ true = grind arith in
    ap (λ (b : Bool). b && p x) inside)

or_false : (b : Bool) → ((b || false) && true) ≡ b
or_false true = refl
or_false false = refl

-- one LABEL_SET that includes allows just its labels
pub one_allows : (x : LabelSetObject) → x.include ≡ true → x.labels ≡ among x.labels →
    x.labels ≡ filter (allows (x ∷ [])) (up_to MOST_LABELS)
one_allows x includes rises =
    rises ∙ filter-agree (has x.labels) (allows (x ∷ [])) (up_to MOST_LABELS)
    (λ l h. rw includes (sym (or_false (has x.labels l))))

pub alone_allows : (sets : List LabelSetObject) (x : LabelSetObject) → 1 ≤ length sets → length sets < 2 →
    x ≡ get_or sets 0 x → x.include ≡ true → x.labels ≡ among x.labels →
    x.labels ≡ filter (allows sets) (up_to MOST_LABELS)
alone_allows [] x some few is includes rises = absurd (omega arith)
alone_allows (y ∷ []) x some few is includes rises =
    subst (λ (z : LabelSetObject). x.labels ≡ filter (allows (z ∷ [])) (up_to MOST_LABELS)) is
    (one_allows x includes rises)
alone_allows (y ∷ z ∷ sets) x some few is includes rises = absurd (omega arith)
