-- The phases of the legs that a call names.
use Rattle.std.proofs.Common.{◌≡◌, ℕ, Bool, true, false, List, refl}
use Rattle.std.specs.Prelude.{Option, Some, IfSome}
use Rattle.ason_base.specs.{declared.ids.NodeId.NodeId, declared.ids.Lsp.Lsp, declared.calls.Phase.Phase, declared.calls.Role.Role, declared.tables.Leg.Leg}
use Rattle.mesh_rules.specs.Legs.{find_leg, is_closing, leg_of}
use Rattle.lsp_laws.specs.CallLaw.{IsNamed, phase_of}

-- A call and its LSPs

-- the phase of a leg that a call names
pub named_phase : (n next : ℕ) (legs : List Leg) (r : Role) (egress : NodeId) (named : Option Lsp) (l : Lsp) (g : Leg) →
    named ≡ Some l → find_leg l legs ≡ Some g → phase_of (leg_of named legs) ≡ Some g.phase
named_phase n next legs r egress named l g is here = rw (is, here) refl

pub named_is : (n next : ℕ) (legs : List Leg) (r : Role) (egress : NodeId) (named : Option Lsp) (l : Lsp) →
    IfSome named (IsNamed n next legs r egress) → named ≡ Some l → IsNamed n next legs r egress l
named_is n next legs r egress named l fits is =
    let fits' : IfSome (Some l) (IsNamed n next legs r egress) = rw is at fits in fits'

pub not_torn : (f : Phase) → (is_closing f ≡ true → ⊥) → is_closing f ≡ false
not_torn f never = go (is_closing f) never
  where
    go : (b : Bool) → (b ≡ true → ⊥) → b ≡ false
    go true never = absurd (never refl)
    go false never = refl
