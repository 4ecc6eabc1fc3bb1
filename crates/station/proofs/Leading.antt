-- Parts of a turn, one after the other.
use Rattle.std.proofs.Common.{Bool, true, false, List}
use Rattle.std.specs.Prelude.{Result, Ok, Err}
use Rattle.ason_base.specs.{declared.ids.NodeId.NodeId, Network.Network}
use Rattle.round_rules.specs.{Doings.Doing, Phases.Phase, States.{IsStationOf, StationState}}
use Rattle.round_rules.proofs.PartEnding.{Across}
use Rattle.station.specs.{declared.halts.Halt.Halt, Leads.{StationGoesOn, StationLeads}}
use Rattle.station.specs.declared.halts.Halt.TheVariants as halt

-- what a part leads to, and those after it
pub leads-across : (R S : Phase) (old mid end : StationState) (r : Result (Unit {0}) Halt) →
    ((t : Network) (n : NodeId) (ds : List Doing) → IsStationOf t n ds old → Across R S old mid end t n ds) →
    StationLeads r R mid end → StationLeads r S old end
leads-across R S old mid end (Ok x) f go =
    λ t n ds is. let a = f t n ds is in a.on false (go t n a.done a.stands)
leads-across R S old mid end (Err halt.AtLimit) f go =
    λ t n ds is. let a = f t n ds is in a.on true (go t n a.done a.stands)
leads-across R S old mid end (Err halt.OutOfMemory) f go =
    λ t n ds is. let a = f t n ds is in a.starves (go t n a.done a.stands)

-- one of many like it
pub goes-across : (R : Phase) (old mid : StationState) →
    ((end : StationState) (t : Network) (n : NodeId) (ds : List Doing) → IsStationOf t n ds old →
    Across R R old mid end t n ds) → StationGoesOn (Ok tt) R old mid
goes-across R old mid f = λ r end go. leads-across R R old mid end r (f end) go

-- a part that is a part of another
pub leads-as : (R S : Phase) (old new : StationState) (r : Result (Unit {0}) Halt) →
    ((t : Network) (n : NodeId) (ds : List Doing) (halted : Bool) → R.ends old new t n ds halted →
    S.ends old new t n ds halted) →
    ((t : Network) (n : NodeId) (ds : List Doing) → IsStationOf t n ds old → R.starves old new t n ds →
    S.starves old new t n ds) → StationLeads r R old new → StationLeads r S old new
leads-as R S old new (Ok x) f g go = λ t n ds is. f t n ds false (go t n ds is)
leads-as R S old new (Err halt.AtLimit) f g go = λ t n ds is. f t n ds true (go t n ds is)
leads-as R S old new (Err halt.OutOfMemory) f g go = λ t n ds is. g t n ds is (go t n ds is)

-- a part that doesn't come to its end
pub leads-stop : (R S : Phase) (old new : StationState) (e : Halt) →
    ((t : Network) (n : NodeId) (ds : List Doing) → IsStationOf t n ds old → R.ends old new t n ds true →
    S.ends old new t n ds true) →
    ((t : Network) (n : NodeId) (ds : List Doing) → IsStationOf t n ds old → R.starves old new t n ds →
    S.starves old new t n ds) → StationLeads (Err e) R old new → StationLeads (Err e) S old new
leads-stop R S old new halt.AtLimit f g go = λ t n ds is. f t n ds is (go t n ds is)
leads-stop R S old new halt.OutOfMemory f g go = λ t n ds is. g t n ds is (go t n ds is)
