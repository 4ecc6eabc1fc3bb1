-- What the bytes of a trace are read as.
use Rattle.std.specs.Prelude.{◌≡◌, ◌⊎◌, ℕ, List, Some, None, Result, Ok, Err}
use Rattle.plan_reader.specs.{declared.faults.PlanError.PlanError, declared.faults.PlanFault.PlanFault, declared.plan.Plan.Plan, Plans.IsSpelled}
use Rattle.plan_reader.specs.declared.faults.PlanError.TheVariants as plan_errors
use Rattle.trace_text.specs.{TraceForms.{TraceHead, form_of, head_of, is_version_2}, declared.read.Trace.Trace, declared.read.TraceFault.TraceFault, declared.read.TraceFault.TheVariants.{NotRun, Plan as RefusedPlan, OutOfMemory}}

-- the bytes are this plan of a trace of this version, or its first fault; in version 1 no setup is two-way
abbrev pub IsPlanIn : ℕ → List ℕ → Result Plan PlanFault → Type 0
IsPlanIn version bytes r = IsSpelled (is_version_2 version) bytes r

-- The bytes are of the form of a trace of this version and this plan with these entries and this table.
pub record IsTraceOf (bytes : List ℕ) (trace : Trace) : Type 0 where
  pub rest : List ℕ
  pub head : head_of bytes ≡ Some (record { version = trace.version; plan = trace.plan_bytes; rest = rest })
  pub plan : IsPlanIn trace.version trace.plan_bytes (Ok trace.plan)
  pub form : form_of trace.plan rest ≡ Ok (trace.entries, trace.table)

-- Behind the head of a plan without fault this index is the first that is wrong.
pub record IsWrongBehind (bytes : List ℕ) (i : ℕ) : Type 0 where
  pub head : TraceHead
  pub plan : Plan
  pub begun : head_of bytes ≡ Some head
  pub spelled : IsPlanIn head.version head.plan (Ok plan)
  pub form : form_of plan head.rest ≡ Err i

-- This index is the first that is wrong: 0 where there is no head.
abbrev pub IsFirstWrong : List ℕ → ℕ → Type 0
IsFirstWrong bytes i = ((head_of bytes ≡ None) × (i ≡ 0)) ⊎ IsWrongBehind bytes i

-- There is a head, and this is the first fault of the plan in it.
pub record IsRefused (bytes : List ℕ) (fault : PlanFault) : Type 0 where
  pub head : TraceHead
  pub begun : head_of bytes ≡ Some head
  pub spelled : IsPlanIn head.version head.plan (Err fault)

-- what `read_trace` answers; want of memory may come at any time
abbrev pub ReadsAs : List ℕ → Result Trace TraceFault → Type 0
ReadsAs bytes (Ok trace) = IsTraceOf bytes trace
ReadsAs bytes (Err (NotRun i)) = IsFirstWrong bytes i
ReadsAs bytes (Err (RefusedPlan fault)) = IsRefused bytes fault
ReadsAs bytes (Err OutOfMemory) = Unit {0}

-- a plan's error as that of a trace
abbrev pub trace_fault : PlanError → TraceFault
trace_fault (plan_errors.Fault f) = RefusedPlan f
trace_fault plan_errors.OutOfMemory = OutOfMemory

-- bytes are read as one thing alone, want of memory aside
abbrev pub EveryReadingIsOne : Type 0
EveryReadingIsOne =
    (bytes : List ℕ) (r s : Result Trace TraceFault) → ReadsAs bytes r → ReadsAs bytes s →
    (r ≡ Err OutOfMemory) ⊎ ((s ≡ Err OutOfMemory) ⊎ (r ≡ s))
