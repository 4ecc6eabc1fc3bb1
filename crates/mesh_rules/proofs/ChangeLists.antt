-- Changes of two lists are carried out one list after the other.
use Rattle.std.proofs.Common.{◌≡◌, List, [], ◌∷◌, ◌++◌, refl}
use Rattle.ason_base.specs.{declared.tables.CallRec.CallRec, declared.tables.Leg.Leg}
use Rattle.mesh_rules.specs.{declared.changes.CallChange.CallChange, declared.changes.LegChange.LegChange, Calls.{call_changed, calls_changed}, Legs.{leg_changed, legs_changed}}

pub legs-then : (cs ds : List LegChange) (legs : List Leg) →
    legs_changed (cs ++ ds) legs ≡ legs_changed ds (legs_changed cs legs)
legs-then [] ds legs = refl
legs-then (c ∷ cs) ds legs = legs-then cs ds (leg_changed c legs)

pub calls-then : (cs ds : List CallChange) (calls : List CallRec) →
    calls_changed (cs ++ ds) calls ≡ calls_changed ds (calls_changed cs calls)
calls-then [] ds calls = refl
calls-then (c ∷ cs) ds calls = calls-then cs ds (call_changed c calls)
