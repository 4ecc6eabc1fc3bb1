-- Two ways to say that the calls stand in order of number, and how many they can be.
use Rattle.std.proofs.Common.{◌≡◌, ◌≤◌, ◌<◌, ℕ, zero, suc, List, length, get_or, ap, arith, ltb-true}
use Rattle.ason_base.specs.declared.tables.CallRec.{CallRec}
use Rattle.mesh_nodes.specs.Order as order
use Rattle.ason_base.proofs.KeyedLists.{pairs-rise}
use Rattle.leg_table.specs.CallTables.{AreCallsRising}

pub calls-to : (calls : List CallRec) → AreCallsRising calls → order.CallsRise calls
calls-to calls rise =
    pairs-rise (λ c d. c.call.0 < d.call.0) calls
    (λ i j d less within. ltb-true (get_or calls i d).call.0 (get_or calls j d).call.0 (rise i j d less within))

-- no call's number is less than its place
number-at : (calls : List CallRec) → AreCallsRising calls → (i : ℕ) (d : CallRec) → i < length calls →
    i ≤ (get_or calls i d).call.0
number-at calls rise zero d within = omega arith
number-at calls rise (suc i) d within =
    let before : i ≤ (get_or calls i d).call.0 = number-at calls rise i d (omega arith) in
    let above = ltb-true (get_or calls i d).call.0 (get_or calls (suc i) d).call.0
    (rise i (suc i) d (omega arith) within) in
    omega arith

-- calls that rise are as many as the last one's number allows
pub few-calls : (calls : List CallRec) → AreCallsRising calls → (i : ℕ) (d last : CallRec) → length calls ≡ suc i →
    get_or calls i d ≡ last → last.call.0 < 65536 → length calls ≤ 65536
few-calls calls rise i d last count is small =
    let at = number-at calls rise i d (omega arith) in
    let number : (get_or calls i d).call.0 ≡ last.call.0 = ap (λ c. c.call.0) is in
    omega arith
