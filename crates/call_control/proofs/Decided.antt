-- Where a decision changes nothing.
use Rattle.std.proofs.Common.{◌≡◌, Bool, List, refl}
use Rattle.std.specs.Prelude.{Option}
use Rattle.ason_base.specs.{declared.calls.CallState.CallState, declared.calls.CallState.TheVariants.{Asking, Bare, Blocked, Guarded, Pairing, Stuck, Turned, Turning}, declared.tables.CallRec.CallRec, declared.tables.Leg.Leg}
use Rattle.mesh_rules.specs.Turns.{call_put, decided}

-- a call that is neither guarded nor turned nor stuck
pub decides-nothing : (legs : List Leg) (c : CallRec) (o : Option Leg) (q : CallState) (works backs : Bool) →
    (q ≡ Guarded → ⊥) → (q ≡ Turned → ⊥) → (q ≡ Stuck → ⊥) → call_put c ≡ decided legs c o q works backs
decides-nothing legs c o Asking works backs g t s = refl
decides-nothing legs c o Bare works backs g t s = refl
decides-nothing legs c o Pairing works backs g t s = refl
decides-nothing legs c o Guarded works backs g t s = absurd (g refl)
decides-nothing legs c o Turning works backs g t s = refl
decides-nothing legs c o Turned works backs g t s = absurd (t refl)
decides-nothing legs c o Stuck works backs g t s = absurd (s refl)
decides-nothing legs c o Blocked works backs g t s = refl
