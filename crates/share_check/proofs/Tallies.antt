-- The guards of all labels, label by label.
use Rattle.std.proofs.{Common.{◌≡◌, ◌+◌, ◌<◌, ℕ, suc, Bool, true, false, cond, not, nat_eq, List, [], ◌∷◌, length, get_or, set, refl, sym, ap, subst, ◌∙◌, arith, one-add, eqb-true}, lemmas.List.Folds.list_any-append, lemmas.List.Quantifiers.position-Some, Math.Bool.or-false}
use Rattle.std.specs.{Prelude.{◌&&◌, ◌||◌, Some, map, position}, List.{AllByRecursion, list_any, position_or_len}}
use Rattle.ason_base.specs.{declared.ids.Fibre.Fibre, declared.ids.Lsp.Lsp, declared.risks.Risk.Risk, Lsps.{same_fibre, same_lsp}, Risks.has_risk}
use Rattle.share_check.specs.{declared.guarded.GuardedRisk.GuardedRisk, Guards.{AreTalliesApart, Guard, GuardsJust, LabelTally, guard_on, guarded_at, guards_of, guards_on, has_guard, has_on, is_at, is_risk_guarded, with_guarded}}
use Rattle.ason_base.proofs.{LspOrder.same_fibre-eq, Options.some-when, Bools.{and-left, and-right}}

-- The guards of one label

-- the LSP guards the risk on the label
abbrev has_same : (f : Fibre) (x : ℕ) (l : Lsp) (q : Risk) → Guard → Bool
has_same f x l q g = has_on f x q g && same_lsp g.lsp l

-- what a label's guards tell of a label: of itself what its risks tell, and of another nothing
on-label : (b : Bool) (f g : Fibre) (x y : ℕ) (l : Lsp) (q : Risk) (guarded : List GuardedRisk) →
    (same_fibre g f && nat_eq y x) ≡ b →
    list_any (has_same f x l q) (map (guard_on g y) guarded) ≡ (b && has_guard l q guarded)
on-label true f g x y l q [] e = refl
on-label false f g x y l q [] e = refl
on-label true f g x y l q (p ∷ guarded) e = rw (e, on-label true f g x y l q guarded e) refl
on-label false f g x y l q (p ∷ guarded) e = rw (e, on-label false f g x y l q guarded e) refl

-- All labels

apart_at : (f g : Fibre) (x y : ℕ) (u : LabelTally) → (same_fibre g f && nat_eq y x) ≡ true → is_at g y u ≡ false →
    is_at f x u ≡ false
apart_at f g x y u here apart =
    let fibre = same_fibre-eq g f (and-left (same_fibre g f) (nat_eq y x) here) in
    let label = eqb-true y x (and-right (same_fibre g f) (nat_eq y x) here) in
    subst (λ h. is_at h x u ≡ false) fibre (subst (λ z. is_at g z u ≡ false) label apart)

none-later : (f g : Fibre) (x y : ℕ) (l : Lsp) (q : Risk) (ts : List LabelTally) →
    (same_fibre g f && nat_eq y x) ≡ true → AllByRecursion (λ u. is_at g y u ≡ false) ts →
    list_any (has_same f x l q) (guards_of ts) ≡ false
none-later f g x y l q [] here apart = refl
none-later f g x y l q (u ∷ ts) here apart =
    list_any-append (has_same f x l q) (guards_on u) (guards_of ts)
    ∙ rw (on-label false f u.fibre x u.label l q u.guarded (apart_at f g x y u here apart.0))
    (none-later f g x y l q ts here apart.1)

-- the LSP guards the risk on the label where it is among those of the label
pub guarded-is : (ts : List LabelTally) (f : Fibre) (x : ℕ) (l : Lsp) (q : Risk) → AreTalliesApart ts →
    is_risk_guarded (guards_of ts) f x l q ≡ has_guard l q (guarded_at f x ts)
guarded-is [] f x l q apart = refl
guarded-is (t ∷ ts) f x l q apart =
    list_any-append (has_same f x l q) (guards_on t) (guards_of ts)
    ∙ go (is_at f x t) refl (guarded-is ts f x l q apart.1)
  where
    go : (b : Bool) → is_at f x t ≡ b → is_risk_guarded (guards_of ts) f x l q ≡ has_guard l q (guarded_at f x ts) →
        (list_any (has_same f x l q) (guards_on t) || list_any (has_same f x l q) (guards_of ts)) ≡
        has_guard l q (cond b t.guarded (guarded_at f x ts))
    go true e rest =
        rw (on-label true f t.fibre x t.label l q t.guarded e, none-later f t.fibre x t.label l q ts e apart.0)
        (or-false (has_guard l q t.guarded))
    go false e rest = rw (on-label false f t.fibre x t.label l q t.guarded e) rest

-- The place of a label

-- the place that is found
pub place-is : (f : Fibre) (x : ℕ) (ts : List LabelTally) (i : ℕ) → position (is_at f x) ts ≡ Some i →
    position_or_len (is_at f x) ts ≡ i
place-is f x ts i e = some-when _ (position_or_len (is_at f x) ts) i e

set-first : (f : Fibre) (x : ℕ) (guarded : List GuardedRisk) (ts : List LabelTally) (d : LabelTally) →
    set ts (position_or_len (is_at f x) ts)
    (record (get_or ts (position_or_len (is_at f x) ts) d) { guarded = guarded }) ≡ with_guarded f x guarded ts
set-first f x guarded [] d = refl
set-first f x guarded (t ∷ ts) d = go (is_at f x t) (set-first f x guarded ts d)
  where
    n : ℕ
    n = position_or_len (is_at f x) ts

    go : (b : Bool) → set ts n (record (get_or ts n d) { guarded = guarded }) ≡ with_guarded f x guarded ts →
        set (t ∷ ts) (cond (not b) (1 + n) 0)
        (record (get_or (t ∷ ts) (cond (not b) (1 + n) 0) d) { guarded = guarded })
        ≡ cond b (record t { guarded = guarded } ∷ ts) (t ∷ with_guarded f x guarded ts)
    go true rest = refl
    go false rest = rw (one-add n) (ap (λ us. t ∷ us) rest)

guarded-first : (f : Fibre) (x : ℕ) (ts : List LabelTally) (d : LabelTally) →
    position_or_len (is_at f x) ts < length ts →
    (get_or ts (position_or_len (is_at f x) ts) d).guarded ≡ guarded_at f x ts
guarded-first f x [] d h = absurd (omega (arith, h))
guarded-first f x (t ∷ ts) d h = go (is_at f x t) h (guarded-first f x ts d)
  where
    n : ℕ
    n = position_or_len (is_at f x) ts

    go : (b : Bool) → cond (not b) (1 + n) 0 < suc (length ts) →
        (n < length ts → (get_or ts n d).guarded ≡ guarded_at f x ts) →
        (get_or (t ∷ ts) (cond (not b) (1 + n) 0) d).guarded ≡ cond b t.guarded (guarded_at f x ts)
    go true h later = refl
    go false h later = rw (one-add n) (later (omega (arith, h)))

-- a label as it is read at its place
pub record IsTallyRead (f : Fibre) (x : ℕ) (ts : List LabelTally) (i : ℕ) (t : LabelTally) : Type 0 where
  pub place : position_or_len (is_at f x) ts ≡ i
  pub within : i < length ts
  pub read : t ≡ get_or ts i t

-- read at the place where it was found
pub is-read : (f : Fibre) (x : ℕ) (ts : List LabelTally) (n : ℕ) (t : LabelTally) →
    position (is_at f x) ts ≡ Some n → t ≡ get_or ts n t → IsTallyRead f x ts n t
is-read f x ts n t found read = record {
  place = place-is f x ts n found;
  within = (position-Some (is_at f x) ts n t found).0;
  read = read;
}

-- its risks are those of the label
pub read-guarded : (f : Fibre) (x : ℕ) (ts : List LabelTally) (i : ℕ) (t : LabelTally) → IsTallyRead f x ts i t →
    t.guarded ≡ guarded_at f x ts
read-guarded f x ts i t h =
    ap (λ u. u.guarded) h.read
    ∙ subst (λ j. (get_or ts j t).guarded ≡ guarded_at f x ts) h.place
    (guarded-first f x ts t (subst (λ j. j < length ts) (sym h.place) h.within))

-- its risks changed, and put back
pub put-back : (f : Fibre) (x : ℕ) (ts : List LabelTally) (i : ℕ) (t u : LabelTally) → IsTallyRead f x ts i t →
    u ≡ record t { guarded = u.guarded } → set ts i u ≡ with_guarded f x u.guarded ts
put-back f x ts i t u h e =
    ap (set ts i) (e ∙ ap (λ (s : LabelTally). record s { guarded = u.guarded }) h.read)
    ∙ subst (λ j. set ts j (record (get_or ts j t) { guarded = u.guarded }) ≡ with_guarded f x u.guarded ts) h.place
    (set-first f x u.guarded ts t)

-- The label with other risks

all-with : (g : Fibre) (y : ℕ) (f : Fibre) (x : ℕ) (guarded : List GuardedRisk) (ts : List LabelTally) →
    AllByRecursion (λ u. is_at g y u ≡ false) ts →
    AllByRecursion (λ u. is_at g y u ≡ false) (with_guarded f x guarded ts)
all-with g y f x guarded [] all = tt
all-with g y f x guarded (t ∷ ts) all = go (is_at f x t) (all-with g y f x guarded ts all.1)
  where
    go : (b : Bool) → AllByRecursion (λ u. is_at g y u ≡ false) (with_guarded f x guarded ts) →
        AllByRecursion (λ u. is_at g y u ≡ false)
        (cond b (record t { guarded = guarded } ∷ ts) (t ∷ with_guarded f x guarded ts))
    go true rest = (all.0, all.1)
    go false rest = (all.0, rest)

-- each label still stands once
pub apart-with : (f : Fibre) (x : ℕ) (guarded : List GuardedRisk) (ts : List LabelTally) → AreTalliesApart ts →
    AreTalliesApart (with_guarded f x guarded ts)
apart-with f x guarded [] apart = tt
apart-with f x guarded (t ∷ ts) apart = go (is_at f x t) (apart-with f x guarded ts apart.1)
  where
    go : (b : Bool) → AreTalliesApart (with_guarded f x guarded ts) →
        AreTalliesApart (cond b (record t { guarded = guarded } ∷ ts) (t ∷ with_guarded f x guarded ts))
    go true rest = (apart.0, apart.1)
    go false rest = (all-with t.fibre t.label f x guarded ts apart.0, rest)

put-there : (f : Fibre) (x : ℕ) (guarded : List GuardedRisk) (ts : List LabelTally) →
    position_or_len (is_at f x) ts < length ts → guarded_at f x (with_guarded f x guarded ts) ≡ guarded
put-there f x guarded [] h = absurd (omega (arith, h))
put-there f x guarded (t ∷ ts) h = go (is_at f x t) refl h (put-there f x guarded ts)
  where
    n : ℕ
    n = position_or_len (is_at f x) ts

    go : (b : Bool) → is_at f x t ≡ b → cond (not b) (1 + n) 0 < suc (length ts) →
        (n < length ts → guarded_at f x (with_guarded f x guarded ts) ≡ guarded) →
        guarded_at f x (cond b (record t { guarded = guarded } ∷ ts) (t ∷ with_guarded f x guarded ts)) ≡ guarded
    go true e h later = rw e refl
    go false e h later = rw e (later (omega (arith, h)))

put-elsewhere : (f g : Fibre) (x y : ℕ) (guarded : List GuardedRisk) (ts : List LabelTally) →
    (same_fibre f g && nat_eq x y) ≡ false → guarded_at g y (with_guarded f x guarded ts) ≡ guarded_at g y ts
put-elsewhere f g x y guarded [] apart = refl
put-elsewhere f g x y guarded (t ∷ ts) apart =
    go (is_at f x t) refl (put-elsewhere f g x y guarded ts apart)
  where
    other : is_at f x t ≡ true → is_at g y t ≡ false
    other e =
        let fibre = same_fibre-eq t.fibre f (and-left (same_fibre t.fibre f) (nat_eq t.label x) e) in
        let label = eqb-true t.label x (and-right (same_fibre t.fibre f) (nat_eq t.label x) e) in
        subst (λ h. (same_fibre h g && nat_eq t.label y) ≡ false) (sym fibre)
        (subst (λ z. (same_fibre f g && nat_eq z y) ≡ false) (sym label) apart)

    go : (b : Bool) → is_at f x t ≡ b → guarded_at g y (with_guarded f x guarded ts) ≡ guarded_at g y ts →
        guarded_at g y (cond b (record t { guarded = guarded } ∷ ts) (t ∷ with_guarded f x guarded ts)) ≡
        guarded_at g y (t ∷ ts)
    go true e rest = rw (other e) refl
    go false e rest = ap (λ gs. cond (is_at g y t) t.guarded gs) rest

-- what is guarded on the label is told, and all else is as it was
pub just-there : (f : Fibre) (x : ℕ) (l : Lsp) (r : List Risk) (guarded : List GuardedRisk) (ts : List LabelTally) →
    AreTalliesApart ts → position_or_len (is_at f x) ts < length ts →
    ((m : Lsp) (q : Risk) → has_guard m q guarded ≡
    cond (same_lsp l m) (has_risk r q) (has_guard m q (guarded_at f x ts))) →
    GuardsJust f x l r (guards_of ts) (guards_of (with_guarded f x guarded ts))
just-there f x l r guarded ts apart within told g y m q =
    guarded-is (with_guarded f x guarded ts) g y m q (apart-with f x guarded ts apart)
    ∙ go (same_fibre f g && nat_eq x y) refl
  where
    go : (b : Bool) → (same_fibre f g && nat_eq x y) ≡ b →
        has_guard m q (guarded_at g y (with_guarded f x guarded ts)) ≡
        cond (b && same_lsp l m) (has_risk r q) (is_risk_guarded (guards_of ts) g y m q)
    go true e =
        let fibre = same_fibre-eq f g (and-left (same_fibre f g) (nat_eq x y) e) in
        let label = eqb-true x y (and-right (same_fibre f g) (nat_eq x y) e) in
        subst (λ h. has_guard m q (guarded_at h y (with_guarded f x guarded ts)) ≡
        cond (same_lsp l m) (has_risk r q) (is_risk_guarded (guards_of ts) h y m q)) fibre
        (subst (λ z. has_guard m q (guarded_at f z (with_guarded f x guarded ts)) ≡
        cond (same_lsp l m) (has_risk r q) (is_risk_guarded (guards_of ts) f z m q)) label
        (ap (has_guard m q) (put-there f x guarded ts within)
        ∙ told m q
        ∙ ap (cond (same_lsp l m) (has_risk r q)) (sym (guarded-is ts f x m q apart))))
    go false e =
        ap (has_guard m q) (put-elsewhere f g x y guarded ts e)
        ∙ sym (guarded-is ts g y m q apart)
