-- What is picked of sorted lists comes before all that is left.
use Rattle.std.proofs.Common.{◌≡◌, suc, Bool, true, false, cond, List, [], ◌∷◌, ◌++◌, filter, refl, sym, ap, ◌∙◌, arith, inl, inr}
use Rattle.std.specs.{Prelude.{Option, Some, None}, List.{AllByRecursion, flat_map}}
use Rattle.ason_base.specs.declared.commands.Entry.{Entry}
use Rattle.world_merge.specs.{Orders.{IsBefore, IsSorted}, Picking.{HasNoLine, IsInOne, Picked, picked_behind, chosen, is_before, picked, lines_total}}
use Rattle.world_merge.proofs.Before.{all-later, before-false, before-true}

abbrev pub AllIn : Entry → List (List Entry) → Type 0
AllIn e ls = AllByRecursion (λ (l : List Entry). AllByRecursion (IsBefore e) l) ls

-- of the lines that pass a test, the lists have what was picked and what is left
pub record IsKept (f : Entry → Bool) (ls : List (List Entry)) (p : Picked) : Type 0 where
  pub whole : flat_map (filter f) ls ≡ filter f (p.entry ∷ []) ++ flat_map (filter f) p.left
  pub still : IsInOne f p.left

record IsNone (f : Entry → Bool) (p : Picked) : Type 0 where
  entry : f p.entry ≡ false
  left : HasNoLine f p.left

-- It comes before all that is left, and the lists are it and what is left.
pub record IsLeast (ls : List (List Entry)) (p : Picked) : Type 0 where
  pub sorted : AllByRecursion IsSorted p.left
  pub before : AllIn p.entry p.left
  pub count : lines_total ls ≡ suc (lines_total p.left)
  pub whole : (e : Entry) → IsBefore e p.entry → AllIn e p.left → AllIn e ls
  pub parts : (e : Entry) → AllIn e ls → IsBefore e p.entry × AllIn e p.left
  pub kept : (f : Entry → Bool) → IsInOne f ls → IsKept f ls p
  none : (f : Entry → Bool) → HasNoLine f ls → IsNone f p

abbrev pub PickedTells : List (List Entry) → Option Picked → Type 0
PickedTells ls None = lines_total ls ≡ 0
PickedTells ls (Some p) = IsLeast ls p

-- lists without a line that passes
pub none-of : (f : Entry → Bool) (ls : List (List Entry)) → HasNoLine f ls → flat_map (filter f) ls ≡ []
none-of f [] all = refl
none-of f (l ∷ ls) all = ap (λ xs. xs ++ flat_map (filter f) ls) all.0 ∙ none-of f ls all.1

all_before : (e f : Entry) (ls : List (List Entry)) → IsBefore e f → AllIn f ls → AllIn e ls
all_before e f [] b all = tt
all_before e f (l ∷ ls) b all = (all-later e f l b all.0, all_before e f ls b all.1)

-- a list whose head doesn't pass
head_none : (f : Entry → Bool) (e : Entry) (es : List Entry) → filter f (e ∷ es) ≡ [] →
    (f e ≡ false) × (filter f es ≡ [])
head_none f e es h = go (f e) refl h
  where
    go : (b : Bool) → f e ≡ b → cond b (e ∷ filter f es) (filter f es) ≡ [] → (f e ≡ false) × (filter f es ≡ [])
    go true i h = absurd (cc (h))
    go false i h = (i, h)

head_more : (f : Entry → Bool) (e : Entry) (es xs : List Entry) →
    filter f (e ∷ es) ++ xs ≡ filter f (e ∷ []) ++ (filter f es ++ xs)
head_more f e es xs = go (f e)
  where
    go : (b : Bool) → cond b (e ∷ filter f es) (filter f es) ++ xs ≡ cond b (e ∷ []) [] ++ (filter f es ++ xs)
    go true = refl
    go false = refl

no_head : (f : Entry → Bool) (e : Entry) → f e ≡ false → filter f (e ∷ []) ≡ []
no_head f e h = ap (λ b. cond b (e ∷ []) []) h

-- the head of the first list comes first
takes_head : (e : Entry) (es : List Entry) (ls : List (List Entry)) → IsSorted (e ∷ es) → AllByRecursion IsSorted ls →
    AllIn e ls → IsLeast ((e ∷ es) ∷ ls) (record { entry = e; left = es ∷ ls })
takes_head e es ls here there all = record {
  sorted = (here.1, there);
  before = (here.0, all);
  count = omega arith;
  whole = λ x b rest. ((b, rest.0), rest.1);
  parts = λ x rest. (rest.0.0, (rest.0.1, rest.1));
  kept = λ f one. record { whole = head_more f e es (flat_map (filter f) ls); still = still f one };
  none = λ f h. let r = head_none f e es h.0 in record { entry = r.0; left = (r.1, h.1) };
}
  where
    still : (f : Entry → Bool) → IsInOne f ((e ∷ es) ∷ ls) → IsInOne f (es ∷ ls)
    still f one = elim one [ inl h ↦ inl ((head_none f e es h.0).1, h.1) | inr h ↦ inr h ]

-- what is picked of the others comes first
passes : (l : List Entry) (ls : List (List Entry)) (p : Picked) → IsSorted l → AllByRecursion (IsBefore p.entry) l →
    IsLeast ls p → IsLeast (l ∷ ls) (record { entry = p.entry; left = l ∷ p.left })
passes l ls p here all is = record {
  sorted = (here, is.sorted);
  before = (all, is.before);
  count = omega (arith, is.count);
  whole = λ x b rest. (rest.0, is.whole x b rest.1);
  parts = λ x rest. let r = is.parts x rest.1 in (r.0, (rest.0, r.1));
  kept = λ f one. elim one [ inl h ↦ elsewhere f h | inr h ↦ here_alone f h ];
  none = λ f h. let r = is.none f h.1 in record { entry = r.entry; left = (h.0, r.left) };
}
  where
    q : Picked
    q = record { entry = p.entry; left = l ∷ p.left }

    elsewhere : (f : Entry → Bool) → (filter f l ≡ []) × IsInOne f ls → IsKept f (l ∷ ls) q
    elsewhere f h = let r = is.kept f h.1 in record {
      whole =
          ap (λ xs. xs ++ flat_map (filter f) ls) h.0 ∙ r.whole
          ∙ sym (ap (λ xs. filter f (p.entry ∷ []) ++ (xs ++ flat_map (filter f) p.left)) h.0);
      still = inl (h.0, r.still);
    }

    here_alone : (f : Entry → Bool) → HasNoLine f ls → IsKept f (l ∷ ls) q
    here_alone f h = let r = is.none f h in record {
      whole =
          ap (λ xs. filter f l ++ xs) (none-of f ls h)
          ∙ sym (ap (λ xs. xs ++ (filter f l ++ flat_map (filter f) p.left)) (no_head f p.entry r.entry)
          ∙ ap (λ xs. filter f l ++ xs) (none-of f p.left r.left));
      still = inr r.left;
    }

no_entries : (ls : List (List Entry)) (e : Entry) → lines_total ls ≡ 0 → AllIn e ls
no_entries [] e none = tt
no_entries ([] ∷ ls) e none = (tt, no_entries ls e (omega (arith, none)))
no_entries ((x ∷ xs) ∷ ls) e none = absurd (omega (arith, none))

-- lists without a line
pub no-filtered : (f : Entry → Bool) (ls : List (List Entry)) → lines_total ls ≡ 0 → flat_map (filter f) ls ≡ []
no-filtered f [] none = refl
no-filtered f ([] ∷ ls) none = no-filtered f ls (omega (arith, none))
no-filtered f ((x ∷ xs) ∷ ls) none = absurd (omega (arith, none))

behind_none : (ls : List (List Entry)) (o : Option Picked) → PickedTells ls o →
    PickedTells ([] ∷ ls) (picked_behind [] o)
behind_none ls None h = omega (arith, h)
behind_none ls (Some p) h = passes [] ls p tt tt h

chosen_of : (e : Entry) (es : List Entry) (ls : List (List Entry)) (o : Option Picked) → IsSorted (e ∷ es) →
    AllByRecursion IsSorted ls → PickedTells ls o → PickedTells ((e ∷ es) ∷ ls) (chosen e es ls o)
chosen_of e es ls None here there h = takes_head e es ls here there (no_entries ls e h)
chosen_of e es ls (Some p) here there h = go (is_before e p.entry) refl
  where
    go : (b : Bool) → is_before e p.entry ≡ b → PickedTells ((e ∷ es) ∷ ls)
        (cond b (Some (record { entry = e; left = es ∷ ls }))
        (Some (record { entry = p.entry; left = (e ∷ es) ∷ p.left })))
    go true i =
        let b : IsBefore e p.entry = before-true e p.entry i in
        takes_head e es ls here there (h.whole e b (all_before e p.entry p.left b h.before))
    go false i =
        let b : IsBefore p.entry e = before-false e p.entry i in
        passes (e ∷ es) ls p here (b, all-later p.entry e es b here.0) h

-- what is picked of sorted lists is the least of their lines, and nothing is just where there is none
pub tells-of : (ls : List (List Entry)) → AllByRecursion IsSorted ls → PickedTells ls (picked ls)
tells-of [] all = refl
tells-of ([] ∷ ls) all = behind_none ls (picked ls) (tells-of ls all.1)
tells-of ((e ∷ es) ∷ ls) all = chosen_of e es ls (picked ls) all.0 all.1 (tells-of ls all.1)
