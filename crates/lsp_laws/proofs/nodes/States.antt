-- What the state of a call tells of the phases of its legs, and of its reports.
use Rattle.std.proofs.Common.{◌≡◌, Bool, true, refl}
use Rattle.std.specs.Prelude.{Option, Some, None}
use Rattle.ason_base.specs.{declared.calls.CallState.CallState, declared.calls.CallState.TheVariants.{Asking, Bare, Pairing, Guarded, Turning, Turned, Stuck, Blocked}, declared.calls.Phase.Phase, declared.calls.Phase.TheVariants.{Asked, Held, Armed, Live}}
use Rattle.mesh_rules.specs.Legs.{is_closing}
use Rattle.lsp_laws.specs.CallLaw.{phases_fit, fits_reports}

-- the rows of the table of states
pub data Row : CallState → Option Phase → Option Phase → Type 0 where
  AskingRow : Row Asking (Some Asked) None
  BareRow : Row Bare (Some Live) None
  PairingRow : Row Pairing (Some Live) (Some Asked)
  GuardedRow : Row Guarded (Some Live) (Some Held)
  TurningRow : Row Turning (Some Live) (Some Armed)
  TurnedRow : Row Turned (Some Live) (Some Live)
  StuckRow : Row Stuck (Some Live) (Some Held)
  BlockedRow : Row Blocked None None

pub row : (state : CallState) (w b : Option Phase) → phases_fit state w b ≡ true → Row state w b
row Asking (Some Asked) None e = AskingRow
row Bare (Some Live) None e = BareRow
row Pairing (Some Live) (Some Asked) e = PairingRow
row Guarded (Some Live) (Some Held) e = GuardedRow
row Turning (Some Live) (Some Armed) e = TurningRow
row Turned (Some Live) (Some Live) e = TurnedRow
row Stuck (Some Live) (Some Held) e = StuckRow
row Blocked None None e = BlockedRow
row state w b e = absurd (cc e)

-- no leg of a call is torn

pub work-stands : (state : CallState) (f : Phase) (b : Option Phase) → Row state (Some f) b → is_closing f ≡ true → ⊥
work-stands _ _ _ AskingRow torn = cc torn
work-stands _ _ _ _ torn = cc torn

pub back-stands : (state : CallState) (w : Option Phase) (f : Phase) → Row state w (Some f) → is_closing f ≡ true → ⊥
back-stands _ _ _ PairingRow torn = cc torn
back-stands _ _ _ _ torn = cc torn

-- where the working leg is Asked, the call waits for it and has no backup's leg
pub asked-work : (state : CallState) (b : Option Phase) → Row state (Some Asked) b → (state ≡ Asking) × (b ≡ None)
asked-work _ _ AskingRow = (refl, refl)

-- where the backup's leg is Asked, the call waits for it and its working leg is Live
pub asked-back : (state : CallState) (w : Option Phase) → Row state w (Some Asked) → (state ≡ Pairing) × (w ≡ Some Live)
asked-back _ _ PairingRow = (refl, refl)

-- where the backup's leg is Armed, the call turns and its working leg is Live
pub armed-back : (state : CallState) (w : Option Phase) → Row state w (Some Armed) → (state ≡ Turning) × (w ≡ Some Live)
armed-back _ _ TurningRow = (refl, refl)

-- beside a backup's leg the working leg is Live
pub live-work : (state : CallState) (w : Option Phase) (f : Phase) → Row state w (Some f) → w ≡ Some Live
live-work _ _ _ PairingRow = refl
live-work _ _ _ _ = refl

-- a bare call's working leg is Live, and it has no backup's leg
pub bare-legs : (w b : Option Phase) → Row Bare w b → (w ≡ Some Live) × (b ≡ None)
bare-legs _ _ BareRow = (refl, refl)

-- a guarded call's working leg is Live, and its backup's leg is Held
pub guarded-legs : (w b : Option Phase) → Row Guarded w b → (w ≡ Some Live) × (b ≡ Some Held)
guarded-legs _ _ GuardedRow = (refl, refl)

-- a turned call's legs are Live
pub turned-legs : (w b : Option Phase) → Row Turned w b → (w ≡ Some Live) × (b ≡ Some Live)
turned-legs _ _ TurnedRow = (refl, refl)

-- a stuck call's working leg is Live, and its backup's leg is Held
pub stuck-legs : (w b : Option Phase) → Row Stuck w b → (w ≡ Some Live) × (b ≡ Some Held)
stuck-legs _ _ StuckRow = (refl, refl)

-- a call whose backup's leg stands in this phase
pub back-fits : (state : CallState) (w : Option Phase) (f : Phase) → Row state w (Some f) →
    phases_fit state (Some Live) (Some f) ≡ true
back-fits _ _ _ PairingRow = refl
back-fits _ _ _ _ = refl

-- Reports

-- a call without a backup may have any report of its working LSP
pub alone-reported : (state : CallState) (f : Phase) (b : Option Phase) (works works' backs : Bool) →
    Row state (Some f) b → b ≡ None → fits_reports state works backs ≡ true → fits_reports state works' backs ≡ true
alone-reported _ _ _ works works' backs AskingRow none e = e
alone-reported _ _ _ works works' backs BareRow none e = e
alone-reported _ _ _ works works' backs _ none e = absurd (cc none)

-- the row of a guarded call is that of a stuck one

pub guarded-back : (f : Phase) → phases_fit Guarded (Some Live) (Some f) ≡ true → f ≡ Held
guarded-back f e = let is = (guarded-legs (Some Live) (Some f) (row Guarded (Some Live) (Some f) e)).1 in cc is

pub guarded-stuck : (f : Phase) → phases_fit Guarded (Some Live) (Some f) ≡ true →
    phases_fit Stuck (Some Live) (Some f) ≡ true
guarded-stuck f e = rw (guarded-back f e) refl

pub stuck-guarded : (f : Phase) → phases_fit Stuck (Some Live) (Some f) ≡ true →
    phases_fit Guarded (Some Live) (Some f) ≡ true
stuck-guarded f e =
    let is = (stuck-legs (Some Live) (Some f) (row Stuck (Some Live) (Some f) e)).1 in
    let held : f ≡ Held = cc is in
    rw held refl

-- where a call is turned, its backup's leg is Live
pub turned-back : (f : Phase) → phases_fit Turned (Some Live) (Some f) ≡ true → f ≡ Live
turned-back f e = let is = (turned-legs (Some Live) (Some f) (row Turned (Some Live) (Some f) e)).1 in cc is
