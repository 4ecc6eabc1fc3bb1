-- Entries one after the other: in the program's loops, and what holds of what was read.
use Rattle.std.proofs.Common.{◌≡◌, ℕ, ◌+◌, ◌<◌, arith, Bool, true, false, cond, List, [], ◌∷◌, drop, get_or, length, Result, Ok, Err, refl, ap, sym, subst, ◌∙◌}
use Rattle.toml.specs.{Data.Data, View.view, declared.value.Value.Value}
use Rattle.plan_reader.specs.{Entries.{AndThen, AreRead, TellsFirst, TellsKind, and_then, at_entry, error_at, read_all}, PlanTables.views, declared.faults.EntryError.EntryError, declared.faults.EntryError.TheVariants.{Fault, OutOfMemory}, declared.faults.PlanEntry.PlanEntry, declared.faults.PlanFault.PlanFault, declared.faults.PlanKind.PlanKind}
use Rattle.plan_reader.specs.declared.faults.PlanError.TheVariants as errors
use Rattle.plan_reader.proofs.Elements.{views_here}

-- what a loop comes to is what is there so far, with the values that are left
abbrev pub EntriesGoOn :
    {S : Type 0} → (ℕ → PlanEntry) → (S → Data → Result S PlanKind) → Result S PlanFault → ℕ → S → List Value
    → Type 0
EntriesGoOn entry read all i so_far values = all ≡ read_all entry read (i + 1) so_far (drop i (views values))

-- one value more
pub one_read :
    {S : Type 0} (entry : ℕ → PlanEntry) (read : S → Data → Result S PlanKind) (all : Result S PlanFault) (i : ℕ)
    (before after : S) (values : List Value) (v : Value) → i < length values → v ≡ get_or values i v
    → read before (view v) ≡ Ok after → EntriesGoOn entry read all i before values
    → EntriesGoOn entry read all (i + 1) after values
one_read entry read all i before after values v below here ok so_far =
    so_far ∙ rw (views_here values i v below here, ok) refl

-- a value with a fault
pub one_faulty :
    {S : Type 0} (entry : ℕ → PlanEntry) (read : S → Data → Result S PlanKind) (all : Result S PlanFault) (i : ℕ)
    (before : S) (values : List Value) (v : Value) (e : EntryError) → i < length values → v ≡ get_or values i v
    → TellsKind e (read before (view v)) → EntriesGoOn entry read all i before values
    → TellsFirst (error_at (entry (i + 1)) e) all
one_faulty entry read all i before values v (Fault k) below here tells so_far =
    λ f same.
    let fault : record { entry = entry (i + 1); kind = k } ≡ f = cc (same) in
    so_far ∙ rw (views_here values i v below here, tells k refl, fault) refl
one_faulty entry read all i before values v OutOfMemory below here tells so_far = λ f same. absurd (cc (same))

-- what each entry keeps holds at the end
pub kept :
    {S D : Type 0} (Holds : S → Type 0) (entry : ℕ → PlanEntry) (read : S → D → Result S PlanKind)
    → ((before after : S) (d : D) → read before d ≡ Ok after → Holds before → Holds after)
    → (n : ℕ) (before : S) (ds : List D) (end : S) → read_all entry read n before ds ≡ Ok end → Holds before
    → Holds end
kept Holds entry read keeps n before [] end h holds = let same : before ≡ end = cc (h) in subst Holds same holds
kept {S} {D} Holds entry read keeps n before (d ∷ ds) end h holds =
    go (λ after. kept Holds entry read keeps (n + 1) after ds end) (read before d) refl h
  where
    go :
        ((after : S) → read_all entry read (n + 1) after ds ≡ Ok end → Holds after → Holds end)
        → (r : Result S PlanKind) → read before d ≡ r
        → and_then (at_entry (entry n) r) (λ after. read_all entry read (n + 1) after ds) ≡ Ok end → Holds end
    go later (Ok after) e more = later after more (keeps before after d e holds)
    go later (Err kind) e more = absurd (cc (more))

-- where each entry counts for one, there are as many as there are entries
pub as_many :
    {S D : Type 0} (count : S → ℕ) (entry : ℕ → PlanEntry) (read : S → D → Result S PlanKind)
    → ((before after : S) (d : D) → read before d ≡ Ok after → count after ≡ count before + 1)
    → (n : ℕ) (before : S) (ds : List D) (end : S) → read_all entry read n before ds ≡ Ok end
    → count end ≡ count before + length ds
as_many count entry read one n before [] end h =
    let same : before ≡ end = cc (h) in
    subst (λ s. count s ≡ count before + 0) same (omega arith)
as_many {S} {D} count entry read one n before (d ∷ ds) end h =
    go (λ after. as_many count entry read one (n + 1) after ds end) (read before d) refl h
  where
    go :
        ((after : S) → read_all entry read (n + 1) after ds ≡ Ok end → count end ≡ count after + length ds)
        → (r : Result S PlanKind) → read before d ≡ r
        → and_then (at_entry (entry n) r) (λ after. read_all entry read (n + 1) after ds) ≡ Ok end
        → count end ≡ count before + length (d ∷ ds)
    go later (Ok after) e more =
        let others = later after more in
        let this = one before after d e in
        omega (arith, others, this)
    go later (Err kind) e more = absurd (cc (more))

-- a test that comes first and finds no fault
pub passed :
    {A E : Type 0} (test : Bool) (e : E) (rest : Result A E) (a : A) → cond test (Err e) rest ≡ Ok a
    → (test ≡ false) × (rest ≡ Ok a)
passed true e rest a h = absurd (cc (h))
passed false e rest a h = (refl, h)

-- two readings without fault
pub both_read :
    {A B E : Type 0} (first : Result A E) (next : A → Result B E) (b : B) → and_then first next ≡ Ok b
    → (a : A) × (first ≡ Ok a) × (next a ≡ Ok b)
both_read (Ok a) next b h = (a, refl, h)
both_read (Err e) next b h = absurd (cc (h))

-- Entries of which it is said what is read

-- whatever this is of the values that are left, it is of all
abbrev pub EntriesLeadOn :
    {S : Type 0} → (ℕ → PlanEntry) → (S → Data → Result S PlanKind → Type 0) → (Result S PlanFault → Type 0) → ℕ → S
    → List Value → Type 0
EntriesLeadOn {S} entry Reads All i so_far values =
    (r : Result S PlanFault) → AreRead entry Reads (i + 1) so_far (drop i (views values)) r → All r

-- one value more
pub one_said :
    {S : Type 0} (entry : ℕ → PlanEntry) (Reads : S → Data → Result S PlanKind → Type 0)
    (All : Result S PlanFault → Type 0) (i : ℕ) (before after : S) (values : List Value) (v : Value) → i < length
    values → v ≡ get_or values i v
    → Reads before (view v) (Ok after) → EntriesLeadOn entry Reads All i before values
    → EntriesLeadOn entry Reads All (i + 1) after values
one_said entry Reads All i before after values v below here ok so_far =
    λ r more.
    so_far r (rw (views_here values i v below here) (Ok after, ok, more))

-- a value with a fault
pub one_at_fault :
    {S : Type 0} (entry : ℕ → PlanEntry) (Reads : S → Data → Result S PlanKind → Type 0)
    (All : Result S PlanFault → Type 0) (i : ℕ) (before : S) (values : List Value) (v : Value) (e : EntryError) → i
    < length values → v ≡ get_or values i v
    → ((k : PlanKind) → e ≡ Fault k → Reads before (view v) (Err k)) → EntriesLeadOn entry Reads All i before values
    → (f : PlanFault) → error_at (entry (i + 1)) e ≡ errors.Fault f → All (Err f)
one_at_fault entry Reads All i before values v (Fault k) below here says so_far =
    λ f same.
    let fault : record { entry = entry (i + 1); kind = k } ≡ f = cc (same) in
    so_far (Err f)
    (rw (views_here values i v below here) (Err k, says k refl, ap (λ (g : PlanFault). Err g) (sym fault)))
one_at_fault entry Reads All i before values v OutOfMemory below here says so_far = λ f same. absurd (cc (same))

-- what each entry keeps holds at the end
pub kept_as :
    {S D : Type 0} (Holds : S → Type 0) (entry : ℕ → PlanEntry) (Reads : S → D → Result S PlanKind → Type 0)
    → ((before after : S) (d : D) → Reads before d (Ok after) → Holds before → Holds after)
    → (n : ℕ) (before : S) (ds : List D) (end : S) → AreRead entry Reads n before ds (Ok end) → Holds before
    → Holds end
kept_as Holds entry Reads keeps n before [] end h holds = let same : before ≡ end = cc (h) in subst Holds same holds
kept_as {S} {D} Holds entry Reads keeps n before (d ∷ ds) end h holds =
    go (λ after. kept_as Holds entry Reads keeps (n + 1) after ds end) h.0 h.1 h.2
  where
    go :
        ((after : S) → AreRead entry Reads (n + 1) after ds (Ok end) → Holds after → Holds end)
        → (one : Result S PlanKind) → Reads before d one
        → AndThen (at_entry (entry n) one) (λ after. AreRead entry Reads (n + 1) after ds) (Ok end) → Holds end
    go later (Ok after) is more = later after more (keeps before after d is holds)
    go later (Err k) is more = absurd (cc (more))

-- where one thing alone is read of each entry, it is so of all
pub read_alone :
    {S D : Type 0} (entry : ℕ → PlanEntry) (Reads : S → D → Result S PlanKind → Type 0)
    → ((before : S) (d : D) (a b : Result S PlanKind) → Reads before d a → Reads before d b → a ≡ b)
    → (n : ℕ) (before : S) (ds : List D) (r s : Result S PlanFault) → AreRead entry Reads n before ds r
    → AreRead entry Reads n before ds s → r ≡ s
read_alone entry Reads alone n before [] r s x y = x ∙ sym y
read_alone {S} {D} entry Reads alone n before (d ∷ ds) r s x y =
    go (λ after. read_alone entry Reads alone (n + 1) after ds r s) x.0 x.2
    (subst (λ (one : Result S PlanKind). Next one s) (alone before d y.0 x.0 y.1 x.1) y.2)
  where
    Next : Result S PlanKind → Result S PlanFault → Type 0
    Next one q = AndThen (at_entry (entry n) one) (λ after. AreRead entry Reads (n + 1) after ds) q

    go :
        ((after : S) → AreRead entry Reads (n + 1) after ds r → AreRead entry Reads (n + 1) after ds s → r ≡ s)
        → (one : Result S PlanKind) → Next one r → Next one s → r ≡ s
    go later (Ok after) more again = later after more again
    go later (Err k) more again = more ∙ sym again

-- what comes next, where the first was read without fault
pub then_next :
    {A B : Type 0} (first : Result A PlanFault) (Next : A → Result B PlanFault → Type 0) (b : B)
    → AndThen first Next (Ok b) → (a : A) × (first ≡ Ok a) × Next a (Ok b)
then_next (Ok a) Next b h = (a, refl, h)
then_next (Err f) Next b h = absurd (cc (h))
