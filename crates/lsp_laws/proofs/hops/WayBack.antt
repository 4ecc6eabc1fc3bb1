-- What becomes of the labels for the way back over a hop where a leg closes, or goes.
use Rattle.std.proofs.Common.{◌≡◌, ℕ, true, false, List, [], ◌∷◌, refl, sym, ◌∙◌}
use Rattle.std.specs.Prelude.{Option, Some, None}
use Rattle.ason_base.specs.{declared.calls.Phase.Phase, declared.calls.Phase.TheVariants.{Asked, Held, Armed, Live, Closing, Falling}, declared.calls.Role.Role, declared.messages.Msg.Msg, declared.messages.Msg.TheVariants.{Path, Resv, PathTear, PathErr, Notify}, declared.tables.Leg.Leg}
use Rattle.mesh_rules.specs.Legs.{is_closing}
use Rattle.lsp_laws.specs.HopShapes.{AskedLeg, HeldLeg, ArmedLeg, LiveLeg, HasLetGo, leg_kind, phase_kind}
use Rattle.lsp_laws.proofs.{hops.RowStates.{AskedStands, HeldStands, ArmedStands, LiveStands, is_reserved, not_let_go}, hops.Purposes.{BackMeets, Each, HasUpstream, has_path}}

-- where no Path is, none brings a label
pub no_upstream : (b c : Option ℕ) (ms : List Msg) → has_path ms ≡ false → Each (HasUpstream b) ms →
    Each (HasUpstream c) ms
no_upstream b c [] h each = tt
no_upstream b c (Path l e k route set up r ∷ ms) h each = absurd cc
no_upstream b c (Resv l e k x ∷ ms) h each = absurd each.0
no_upstream b c (PathTear l e k ∷ ms) h each = (tt, no_upstream b c ms h each.1)
no_upstream b c (PathErr l e at gone code ∷ ms) h each = (tt, no_upstream b c ms h each.1)
no_upstream b c (Notify l e at k code ∷ ms) h each = (tt, no_upstream b c ms h each.1)

-- a leg that has let go is torn
pub kind_torn : (r : Role) (f : Phase) → HasLetGo r (phase_kind f) → is_closing f ≡ true
kind_torn r Asked gone = absurd (not_let_go r AskedLeg AskedStands gone)
kind_torn r Held gone = absurd (not_let_go r HeldLeg HeldStands gone)
kind_torn r Armed gone = absurd (not_let_go r ArmedLeg ArmedStands gone)
kind_torn r Live gone = absurd (not_let_go r LiveLeg LiveStands gone)
kind_torn r Closing gone = refl
kind_torn r Falling gone = refl

-- so its label for the way back says nothing
pub let_go_back : (r : Role) (u d : Option Leg) → HasLetGo r (leg_kind d) → BackMeets u d
let_go_back r u None gone = tt
let_go_back r u (Some h) gone = λ stands. (let torn = kind_torn r h.phase gone in absurd (cc (torn, stands)))

-- u keeps its label
pub back_kept : (g g' : Leg) (d : Option Leg) → g'.back_in ≡ g.back_in → BackMeets (Some g) d → BackMeets (Some g') d
back_kept g g' None is h = tt
back_kept g g' (Some d) is h = λ stands. h stands ∙ sym is

-- a leg that has its label in isn't torn
pub reserved_open : (f : Phase) → is_reserved (phase_kind f) ≡ true → is_closing f ≡ false
reserved_open Closing e = absurd (cc e)
reserved_open Falling e = absurd (cc e)
reserved_open _ e = refl
