-- What the legs of a call tell of its state, and its state of them.
use Rattle.std.proofs.{Common.{◌≡◌, Bool, true, false, not, List, refl, subst}, lemmas.Bool.not-true}
use Rattle.std.specs.Prelude.{Option, Some, None}
use Rattle.ason_base.specs.{declared.calls.CallState.CallState, declared.calls.CallState.TheVariants.{Asking, Bare, Blocked, Guarded, Pairing, Stuck, Turned, Turning}, declared.calls.Phase.Phase, declared.calls.Phase.TheVariants.{Asked, Held, Armed, Live}, declared.ids.Lsp.Lsp, declared.tables.Leg.Leg}
use Rattle.mesh_rules.specs.Legs.{find_leg, is_beyond_asked, leg_of}
use Rattle.lsp_laws.specs.{CallLaw.{phases_fit, fits_reports, phase_of}, StandLaw.has_backup}

-- the legs of a call that has its backup
pub record PhasesAre (w b : Option Phase) : Type 0 where
  pub work : w ≡ Some Live
  pub phase : Phase
  pub back : b ≡ Some phase
  pub beyond : is_beyond_asked phase ≡ true

-- so they are
pub backed-phases : (f : CallState) (w b : Option Phase) → phases_fit f w b ≡ true → has_backup f ≡ true → PhasesAre w b
backed-phases Guarded (Some Live) (Some Held) e h = record { work = refl; phase = Held; back = refl; beyond = refl }
backed-phases Turning (Some Live) (Some Armed) e h = record { work = refl; phase = Armed; back = refl; beyond = refl }
backed-phases Turned (Some Live) (Some Live) e h = record { work = refl; phase = Live; back = refl; beyond = refl }
backed-phases Stuck (Some Live) (Some Held) e h = record { work = refl; phase = Held; back = refl; beyond = refl }
backed-phases Asking w b e h = absurd (cc h)
backed-phases Bare w b e h = absurd (cc h)
backed-phases Pairing w b e h = absurd (cc h)
backed-phases Blocked w b e h = absurd (cc h)
backed-phases f w b e h = absurd (cc e)

-- a call whose backup is Armed is turning
pub armed-turning : (f : CallState) (w b : Option Phase) → phases_fit f w b ≡ true → b ≡ Some Armed → f ≡ Turning
armed-turning Turning (Some Live) (Some Armed) e is = refl
armed-turning Guarded (Some Live) (Some Held) e is = absurd (cc is)
armed-turning Turned (Some Live) (Some Live) e is = absurd (cc is)
armed-turning Stuck (Some Live) (Some Held) e is = absurd (cc is)
armed-turning Pairing (Some Live) (Some Asked) e is = absurd (cc is)
armed-turning Asking (Some Asked) None e is = absurd (cc is)
armed-turning Bare (Some Live) None e is = absurd (cc is)
armed-turning Blocked None None e is = absurd (cc is)
armed-turning f w b e is = absurd (cc e)

-- the backup of a call that is turning is Armed
pub turning-armed : (f : CallState) (w b : Option Phase) → phases_fit f w b ≡ true → f ≡ Turning → b ≡ Some Armed
turning-armed Turning (Some Live) (Some Armed) e is = refl
turning-armed Guarded (Some Live) (Some Held) e is = absurd (cc is)
turning-armed Turned (Some Live) (Some Live) e is = absurd (cc is)
turning-armed Stuck (Some Live) (Some Held) e is = absurd (cc is)
turning-armed Pairing (Some Live) (Some Asked) e is = absurd (cc is)
turning-armed Asking (Some Asked) None e is = absurd (cc is)
turning-armed Bare (Some Live) None e is = absurd (cc is)
turning-armed Blocked None None e is = absurd (cc is)
turning-armed f w b e is = absurd (cc e)

-- of the working LSP of a guarded call nothing is reported
pub guarded-unhit : (f : CallState) (works backs : Bool) → fits_reports f works backs ≡ true → f ≡ Guarded →
    works ≡ false
guarded-unhit f works backs e is =
    let reports : not works ≡ true = subst (λ x. fits_reports x works backs ≡ true) is e in not-true works reports

-- the phases of the legs that are found fit the state
pub fits-of : (f : CallState) (legs : List Leg) (wo bo : Option Lsp) (w b : Lsp) (gw gb : Leg) → wo ≡ Some w →
    bo ≡ Some b → find_leg w legs ≡ Some gw → find_leg b legs ≡ Some gb →
    phases_fit f (phase_of (leg_of wo legs)) (phase_of (leg_of bo legs)) ≡ true →
    phases_fit f (Some gw.phase) (Some gb.phase) ≡ true
fits-of f legs wo bo w b gw gb is_w is_b at_w at_b e = rw (is_w, is_b, at_w, at_b) at e

-- the working LSP of a guarded call is Live at its ingress, its backup Held
pub guarded-phases : (f : CallState) (w b : Option Phase) → phases_fit f w b ≡ true → f ≡ Guarded →
    (w ≡ Some Live) × (b ≡ Some Held)
guarded-phases Guarded (Some Live) (Some Held) e is = (refl, refl)
guarded-phases Stuck (Some Live) (Some Held) e is = (refl, refl)
guarded-phases Turning (Some Live) (Some Armed) e is = absurd (cc is)
guarded-phases Turned (Some Live) (Some Live) e is = absurd (cc is)
guarded-phases Pairing (Some Live) (Some Asked) e is = absurd (cc is)
guarded-phases Bare (Some Live) None e is = absurd (cc is)
guarded-phases Asking (Some Asked) None e is = absurd (cc is)
guarded-phases Blocked None None e is = absurd (cc is)
guarded-phases f w b e is = absurd (cc e)

-- the phase of the leg that is found
pub phase-is : (o : Option Lsp) (l : Lsp) (legs : List Leg) (g : Leg) (x : Phase) → o ≡ Some l → find_leg l legs ≡ Some g →
    phase_of (leg_of o legs) ≡ Some x → g.phase ≡ x
phase-is o l legs g x is here e = (let one : Some g.phase ≡ Some x = rw (is, here) at e in cc one)
