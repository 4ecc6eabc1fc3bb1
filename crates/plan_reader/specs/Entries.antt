-- The entries of a plan are read one after the other, up to the first fault.
use Rattle.std.specs.Prelude.{◌≡◌, ℕ, ◌+◌, List, [], ◌∷◌, Result, Ok, Err, IfErr}
use Rattle.plan_reader.specs.{declared.faults.EntryError.EntryError, declared.faults.PlanEntry.PlanEntry, declared.faults.PlanError.PlanError, declared.faults.PlanFault.PlanFault, declared.faults.PlanKind.PlanKind}

-- the next reading of what one gave, where it gave no fault
abbrev pub and_then : {A B E : Type 0} → Result A E → (A → Result B E) → Result B E
and_then (Ok a) next = next a
and_then (Err e) next = Err e

-- a fault of this entry
abbrev pub at_entry : {A : Type 0} → PlanEntry → Result A PlanKind → Result A PlanFault
at_entry entry (Ok a) = Ok a
at_entry entry (Err kind) = Err (record { entry = entry; kind = kind })

-- what is there after entries of which the first is number n, each read onto what is there before it, or the first
-- fault
abbrev pub read_all :
    {S D : Type 0} → (ℕ → PlanEntry) → (S → D → Result S PlanKind) → ℕ → S → List D → Result S PlanFault
read_all entry read n before [] = Ok before
read_all entry read n before (d ∷ ds) =
    and_then (at_entry (entry n) (read before d)) (λ after. read_all entry read (n + 1) after ds)

-- where there was no fault, this holds of what comes next; a fault stays
abbrev pub AndThen :
    {A B : Type 0} → Result A PlanFault → (A → Result B PlanFault → Type 0) → Result B PlanFault → Type 0
AndThen (Ok a) Next r = Next a r
AndThen (Err f) Next r = r ≡ Err f

-- what is there after entries of which the first is number n, or the first fault, where a property says what each is
-- read as
abbrev pub AreRead :
    {S D : Type 0} → (ℕ → PlanEntry) → (S → D → Result S PlanKind → Type 0) → ℕ → S → List D →
    Result S PlanFault → Type 0
AreRead entry Reads n before [] r = r ≡ Ok before
AreRead {S} entry Reads n before (d ∷ ds) r =
    (one : Result S PlanKind) × Reads before d one
    × AndThen (at_entry (entry n) one) (λ after. AreRead entry Reads (n + 1) after ds) r

-- an error that tells a fault tells this one
abbrev pub TellsFirst : {A : Type 0} → PlanError → Result A PlanFault → Type 0
TellsFirst e says = (f : PlanFault) → e ≡ PlanError.Fault f → says ≡ Err f

-- an error that tells a fault of an entry tells this one
abbrev pub TellsKind : {A : Type 0} → EntryError → Result A PlanKind → Type 0
TellsKind e says = (k : PlanKind) → e ≡ EntryError.Fault k → says ≡ Err k

-- where a reading of an entry fails, its error tells the fault
abbrev pub FailsBy : {A B : Type 0} → Result A EntryError → Result B PlanKind → Type 0
FailsBy result says = IfErr result (λ e. TellsKind e says)

-- where a reading of the plan fails, its error tells the first fault
abbrev pub FailsFirst : {A B : Type 0} → Result A PlanError → Result B PlanFault → Type 0
FailsFirst result says = IfErr result (λ e. TellsFirst e says)

-- where a reading of the plan fails, this holds of its first fault
abbrev pub FailsAs : {A : Type 0} → Result A PlanError → (PlanFault → Type 0) → Type 0
FailsAs result Is = IfErr result (λ e. (f : PlanFault) → e ≡ PlanError.Fault f → Is f)

-- where a reading of an entry fails, this holds of its fault
abbrev pub FailsWith : {A : Type 0} → Result A EntryError → (PlanKind → Type 0) → Type 0
FailsWith result Is = IfErr result (λ e. (k : PlanKind) → e ≡ EntryError.Fault k → Is k)

-- the same error, of this entry
abbrev pub error_at : PlanEntry → EntryError → PlanError
error_at entry (EntryError.Fault k) = PlanError.Fault (record { entry = entry; kind = k })
error_at entry EntryError.OutOfMemory = PlanError.OutOfMemory
