-- The parts of a turn together, and what they move.
use Rattle.std.proofs.Common.{◌≡◌, Bool, cond, List, [], ◌∷◌, map, ◌∙◌, arith}
use Rattle.std.specs.{Prelude.{Result, Ok, Err, OnOk}, List.AllZip}
use Rattle.station_rings.specs.LinkStates.{LinkState}
use Rattle.round_rules.specs.{Moves.IsDrained, Phases.{desk_phase, due_phase, from_desk, from_dues, rings_phase, tick_phase, turn_phase}, Stands.parcel_ticked, States.StationState}
use Rattle.round_rules.proofs.{Draining.drained-then, Places.{NoneTaken, all-moved-then, nones-moved}, PartTurning.{across-desk, across-due, across-tick, starves-desk, starves-due, starves-tick, stop-desk, stop-due, stop-tick}}
use Rattle.station.specs.{declared.halts.Halt.Halt, Leads.{IsMoving, IsSending, StationLeads}}
use Rattle.station.proofs.Leading.{leads-across, leads-stop}

-- What moves

pub sending-moves : (old new : StationState) → IsSending old new → IsMoving old new
sending-moves old new f =
    record { links = nones-moved old.links new.links f.links; lines = f.lines; grows = f.grows }

pub moving-then : (a b c : StationState) → IsMoving a b → IsMoving b c → IsMoving a c
moving-then a b c f g = record {
  links = all-moved-then a.links b.links c.links f.links g.links;
  lines = g.lines ∙ f.lines;
  grows = omega (arith, f.grows, g.grows);
}

drained_after : (xs ys zs : List LinkState) → NoneTaken xs ys → AllZip IsDrained ys zs → AllZip IsDrained xs zs
drained_after [] [] [] a b = tt
drained_after [] [] (z ∷ zs) a b = absurd b
drained_after [] (y ∷ ys) zs a b = absurd a
drained_after (x ∷ xs) [] zs a b = absurd a
drained_after (x ∷ xs) (y ∷ ys) [] a b = absurd b
drained_after (x ∷ xs) (y ∷ ys) (z ∷ zs) a b = (drained-then x y z a.0.0 b.0, drained_after xs ys zs a.1 b.1)

-- frames that are sent before leave as many to be taken
pub drained-after : (r : Result (Unit {0}) Halt) (xs ys zs : List LinkState) → NoneTaken xs ys →
    OnOk r (AllZip IsDrained ys zs) → OnOk r (AllZip IsDrained xs zs)
drained-after (Ok x) xs ys zs a b = drained_after xs ys zs a b
drained-after (Err e) xs ys zs a b = tt

-- What comes before the rings

-- the desk
pub desk-then : (old mid end : StationState) (r : Result (Unit {0}) Halt) → StationLeads (Ok tt) desk_phase old mid →
    IsSending old mid → StationLeads r (rings_phase 0) mid end → StationLeads r from_desk old end
desk-then old mid end r go sends rings =
    leads-across (rings_phase 0) from_desk old mid end r
    (λ t n ds is. across-desk t n ds old mid end (go t n ds is) sends.links sends.lines) rings

pub desk-stops : (old new : StationState) (e : Halt) → StationLeads (Err e) desk_phase old new → IsSending old new →
    StationLeads (Err e) from_desk old new
desk-stops old new e go sends =
    leads-stop desk_phase from_desk old new e (λ t n ds is ended. stop-desk t n ds old new sends.links ended)
    (λ t n ds is. starves-desk t n ds old new) go

-- the frames that are due
pub due-then : (old mid end : StationState) (r : Result (Unit {0}) Halt) → StationLeads (Ok tt) due_phase old mid →
    IsSending old mid → StationLeads r from_desk mid end → StationLeads r from_dues old end
due-then old mid end r go sends desk =
    leads-across from_desk from_dues old mid end r
    (λ t n ds is. across-due t n ds old mid end (go t n ds is) sends.links sends.lines is) desk

pub due-stops : (old new : StationState) (e : Halt) → StationLeads (Err e) due_phase old new → IsSending old new →
    StationLeads (Err e) from_dues old new
due-stops old new e go sends =
    leads-stop due_phase from_dues old new e (λ t n ds is ended. stop-due t n ds old new sends.links ended)
    (λ t n ds is. starves-due t n ds old new is) go

-- the tick
pub tick-then : (tick : Bool) (old mid end : StationState) (r : Result (Unit {0}) Halt) →
    StationLeads (Ok tt) (tick_phase tick) old mid → IsSending old mid →
    mid.held ≡ cond tick (map parcel_ticked old.held) old.held → StationLeads r from_dues mid end →
    StationLeads r (turn_phase tick) old end
tick-then tick old mid end r go sends held due =
    leads-across from_dues (turn_phase tick) old mid end r
    (λ t n ds is. across-tick t n ds old tick mid end (go t n ds is) sends.links sends.lines held) due

pub tick-stops : (tick : Bool) (old new : StationState) (e : Halt) → StationLeads (Err e) (tick_phase tick) old new →
    IsSending old new → StationLeads (Err e) (turn_phase tick) old new
tick-stops tick old new e go sends =
    leads-stop (tick_phase tick) (turn_phase tick) old new e
    (λ t n ds is ended. stop-tick t n ds old tick new is sends.links ended)
    (λ t n ds is. starves-tick t n ds old new tick) go
