-- The kinds of a leg by its phase: closing, reserved, beyond it.
use Rattle.std.proofs.Common.{◌≡◌, true, false, refl}
use Rattle.std.specs.Prelude.{Option, Some, None}
use Rattle.ason_base.specs.{Lsps.same_lsp, declared.ids.Lsp.Lsp, declared.calls.Phase.Phase, declared.calls.Phase.TheVariants.{Asked, Held, Armed, Live, Closing, Falling}, declared.calls.Role.Role, declared.tables.Leg.Leg}
use Rattle.ason_base.specs.declared.calls.Role.TheVariants as role
use Rattle.mesh_rules.specs.Legs.{closing_phase, is_armed, is_asked, is_beyond_asked, is_closing, reserved}
use Rattle.lsp_laws.specs.HopShapes.{NoLeg, HeldLeg, LiveLeg, IsTorn, leg_kind, phase_kind}
use Rattle.mesh_nodes.proofs.LegList.{same_lsp-refl}
use Rattle.lsp_laws.proofs.hops.RowStates.{KindStands, AskedStands, HeldStands, ArmedStands, LiveStands, is_reserved, reserved_leg, torn_leg}

pub same_of : (k l : Lsp) → k ≡ l → same_lsp k l ≡ true
same_of k l is = rw is (same_lsp-refl l)

-- Kinds

pub gone_none : (o : Option Leg) → leg_kind o ≡ NoLeg → o ≡ None
gone_none None h = refl
gone_none (Some g) h = go g.phase h
  where
    go : (f : Phase) → phase_kind f ≡ NoLeg → Some g ≡ None
    go Asked h = cc
    go _ h = cc

-- a leg's kind tells its phase
pub same_phase : (f g : Phase) → phase_kind f ≡ phase_kind g → f ≡ g
same_phase Asked Asked e = refl
same_phase Held Held e = refl
same_phase Armed Armed e = refl
same_phase Live Live e = refl
same_phase Closing Closing e = refl
same_phase Falling Falling e = refl
same_phase _ _ e = absurd (cc e)

-- there is a Held leg where the kind says so
pub held_leg : (o : Option Leg) → leg_kind o ≡ HeldLeg → (g : Leg) × (o ≡ Some g) × (g.phase ≡ Held)
held_leg None e = absurd cc
held_leg (Some g) e = (g, refl, same_phase g.phase Held e)

-- there is a Live leg where the kind says so
pub live_leg : (o : Option Leg) → leg_kind o ≡ LiveLeg → (g : Leg) × (o ≡ Some g) × (g.phase ≡ Live)
live_leg None e = absurd cc
live_leg (Some g) e = (g, refl, same_phase g.phase Live e)

pub beyond_reserved : (f : Phase) → is_beyond_asked f ≡ true → is_reserved (phase_kind f) ≡ true
beyond_reserved Held e = refl
beyond_reserved Armed e = refl
beyond_reserved Live e = refl
beyond_reserved _ e = cc

-- there is a leg beyond Asked where the kind says so
pub reserved_there : (o : Option Leg) → is_reserved (leg_kind o) ≡ true →
    (g : Leg) × (o ≡ Some g) × (is_beyond_asked g.phase ≡ true)
reserved_there None e = absurd (cc e)
reserved_there (Some g) e = (g, refl, go g.phase e)
  where
    go : (f : Phase) → is_reserved (phase_kind f) ≡ true → is_beyond_asked f ≡ true
    go Held e = refl
    go Armed e = refl
    go Live e = refl
    go _ e = absurd (cc e)

pub phase_stands : (f : Phase) → is_closing f ≡ false → KindStands (phase_kind f)
phase_stands Asked e = AskedStands
phase_stands Held e = HeldStands
phase_stands Armed e = ArmedStands
phase_stands Live e = LiveStands
phase_stands Closing e = absurd cc
phase_stands Falling e = absurd cc

-- a torn leg is in one of two phases
pub torn_is_closing : (r : Role) (f : Phase) → IsTorn r (phase_kind f) → is_closing f ≡ true
torn_is_closing r Closing torn = refl
torn_is_closing r Falling torn = refl
torn_is_closing r _ torn = elim torn [ ]

pub torn_not_asked : (r : Role) (f : Phase) → IsTorn r (phase_kind f) → is_asked f ≡ false
torn_not_asked r Asked torn = elim torn [ ]
torn_not_asked r _ torn = refl

pub torn_not_armed : (r : Role) (f : Phase) → IsTorn r (phase_kind f) → is_armed f ≡ false
torn_not_armed r Armed torn = elim torn [ ]
torn_not_armed r _ torn = refl

-- the phase that a leg gets with its label
pub reserved_kind : (r : Role) → phase_kind (reserved r) ≡ reserved_leg r
reserved_kind role.Work = refl
reserved_kind role.Back = refl

pub closing_kind : (f : Phase) (r : Role) → phase_kind (closing_phase f r) ≡ torn_leg r (phase_kind f)
closing_kind Armed role.Back = refl
closing_kind Live role.Back = refl
closing_kind Armed role.Work = refl
closing_kind _ role.Back = refl
closing_kind _ role.Work = refl
