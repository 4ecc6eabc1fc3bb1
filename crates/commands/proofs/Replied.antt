-- What is answered where no fleet is needed, of what was written.
use Rattle.std.proofs.{Common.{ℕ, List, [], inl, inr, refl}, KnownBytes.Appends-nil}
use Rattle.std.specs.Prelude.{Option}
use Rattle.plan_reader.specs.declared.faults.PlanFault.{PlanFault}
use Rattle.table_text.specs.FaultText.{refused_text}
use Rattle.trace_text.specs.TraceRead.{IsRefused as IsRefusedTrace}
use Rattle.commands.specs.{declared.status.Status.Status, Replies.{GivesReply, IsCheckAnswered, PlanRefused, Reply, Unfinished, WasToldOrNothing}}

-- memory was wanting, and nothing was written
pub starved : {K : Type 0} (written : K → Option (List ℕ)) (faults : K → ℕ) (is : Reply → Type 0) (out : K) →
    is (Unfinished []) → GivesReply written faults is out out Status.OutOfMemory
starved written faults is out nothing = (Unfinished [], nothing, inl (refl, Appends-nil (written out)))

-- the fault of the plan of what is no trace is told
pub refused_trace : {K : Type 0} (written : K → Option (List ℕ)) (faults : K → ℕ) (bs : List ℕ) (f : PlanFault)
    (old new : K) (s : Status) → IsRefusedTrace bs f →
    WasToldOrNothing written faults old new (refused_text f) Status.PlanRefused s →
    IsCheckAnswered written faults bs old new s
refused_trace written faults bs f old new s fault (inl told) = (PlanRefused (refused_text f), (f, fault, refl), told)
refused_trace written faults bs f old new s fault (inr nothing) = (Unfinished [], refl, inl nothing)
