-- What a rule makes of a call: as it was ordered, in a state that the table allows, with fewer ticks than the wait, and
-- with the cause BackDown only where both LSPs are reported.
use Rattle.std.proofs.Common.{◌≡◌, ◌⊎◌, inl, inr, ◌<◌, ◌+◌, ℕ, Bool, true, false, cond, nat_le, refl, sym, ap, ◌∙◌, arith}
use Rattle.ason_base.specs.{declared.calls.CallState.CallState, declared.calls.CallState.TheVariants.{Asking, Bare, Blocked, Guarded, Pairing, Stuck, Turned, Turning}, declared.calls.Cause.Cause, declared.calls.Cause.TheVariants.{BackDown, Unset}, declared.ids.Lsp.Lsp, declared.tables.CallRec.CallRec}
use Rattle.mesh_rules.specs.Calls.{bare, blocked, is_asking, is_bare, is_pairing, is_turning, pairing, unbacked}
use Rattle.mesh_laws.specs.{MovesLaw.{IsDownTwice, may_move}, WaitLaw.IsBelow}

-- The table

-- the backup is down too
abbrev pub is_down : Cause → Bool
is_down BackDown = true
is_down cause = false

not-down : (cause : Cause) → is_down cause ≡ false → cause ≡ BackDown → ⊥
not-down cause other is = let test = ap is_down is in cc (other, test)

-- a call may stay in its state
pub stays-in : (f : CallState) → may_move f f ≡ true
stays-in Asking = refl
stays-in Bare = refl
stays-in Pairing = refl
stays-in Guarded = refl
stays-in Turning = refl
stays-in Turned = refl
stays-in Stuck = refl
stays-in Blocked = refl

abbrev is_open : CallState → Bool
is_open Blocked = false
is_open f = true

open-from : (a f : CallState) → may_move a f ≡ true → is_open f ≡ true → a ≡ Blocked → ⊥
open-from a f may opens is = go f opens (sym (ap (λ x. may_move x f) is) ∙ may)
  where
    go : (f : CallState) → is_open f ≡ true → may_move Blocked f ≡ true → ⊥
    go Blocked opens may = cc opens
    go Asking opens may = cc may
    go Bare opens may = cc may
    go Pairing opens may = cc may
    go Guarded opens may = cc may
    go Turning opens may = cc may
    go Turned opens may = cc may
    go Stuck opens may = cc may

-- a backup may be asked for, or may be done without
abbrev pub MayAskBackup : CallRec → Type 0
MayAskBackup c = (may_move c.state Bare ≡ true) × (may_move c.state Pairing ≡ true)

-- the backup may be activated, or found in use
abbrev pub MayTurnState : CallState → Type 0
MayTurnState a = (may_move a Turning ≡ true) × (may_move a Stuck ≡ true)

-- from the first state, before the event, where it is decided in the second one
abbrev pub MayDecide : CallState → CallState → Type 0
MayDecide a Guarded = MayTurnState a
MayDecide a Turned = may_move a Guarded ≡ true
MayDecide a Stuck = (may_move a Guarded ≡ true) × MayTurnState a
MayDecide a f = Unit {0}

-- before anything came it may decide
pub decides-in : (f : CallState) → MayDecide f f
decides-in Guarded = (refl, refl)
decides-in Turned = refl
decides-in Stuck = (refl, (refl, refl))
decides-in Asking = tt
decides-in Bare = tt
decides-in Pairing = tt
decides-in Turning = tt
decides-in Blocked = tt

-- a call that asks for its working LSP has no backup yet
pub asking-lone : (f : CallState) → is_asking f ≡ true → (may_move f Bare ≡ true) × (may_move f Pairing ≡ true)
asking-lone Asking e = (refl, refl)
asking-lone _ e = absurd (cc e)

-- nor has a bare one
pub bare-lone : (f : CallState) → is_bare f ≡ true → (may_move f Bare ≡ true) × (may_move f Pairing ≡ true)
bare-lone Bare e = (refl, refl)
bare-lone _ e = absurd (cc e)

-- and one whose backup is asked for may lose it
pub pairing-lone : (f : CallState) → is_pairing f ≡ true → (may_move f Bare ≡ true) × (may_move f Pairing ≡ true)
pairing-lone Pairing e = (refl, refl)
pairing-lone _ e = absurd (cc e)

asking-blocks : (f : CallState) → is_asking f ≡ true → (may_move f Blocked ≡ true) × (f ≡ Blocked → ⊥)
asking-blocks Asking e = (refl, λ is. cc is)
asking-blocks _ e = absurd (cc e)

-- what may become of a call whose backup is asked for
pub pairing-may : (f : CallState) → is_pairing f ≡ true → (may_move f Guarded ≡ true) × MayTurnState f
pairing-may Pairing e = (refl, (refl, refl))
pairing-may _ e = absurd (cc e)

-- and of one that turns
pub turning-may : (f : CallState) → is_turning f ≡ true → (may_move f Turned ≡ true) × (may_move f Stuck ≡ true)
    × (may_move f Guarded ≡ true)
turning-may Turning e = (refl, refl, refl)
turning-may _ e = absurd (cc e)

-- Ticks

-- no tick is fewer than the wait
pub none-below : (wait : ℕ) → IsBelow wait 0
none-below wait = record { none = λ e. refl; below = λ some. omega (arith, some) }

one-more : (wait ticks : ℕ) → nat_le wait (ticks + 1) ≡ false → IsBelow wait (ticks + 1)
one-more wait ticks e =
    let less : ticks + 1 < wait = grind arith in
    record { none = λ none. absurd (omega (arith, less, none)); below = λ some. less }

-- the count goes on or begins anew
pub kept-below : (wait ticks : ℕ) (any : Bool) → IsBelow wait ticks → IsBelow wait (cond any 0 ticks)
kept-below wait ticks true below = none-below wait
kept-below wait ticks false below = below

-- Calls

module _ (wait : ℕ) where
  -- d is the call c, moved
  pub record IsMovedCall (c d : CallRec) : Type 0 where
    pub number : d.call ≡ c.call
    pub egress : d.egress ≡ c.egress
    pub protected : d.protected ≡ c.protected
    pub backup : d.backup ≡ c.backup
    pub moves : may_move c.state d.state ≡ true
    pub blocked : c.state ≡ Blocked → d.cause ≡ c.cause
    pub ticks : IsBelow wait c.ticks → IsBelow wait d.ticks
    pub down : d.cause ≡ BackDown → (c.cause ≡ BackDown) ⊎ IsDownTwice d

  -- it stays as it is
  pub moves-none : (c : CallRec) → IsMovedCall c c
  moves-none c = record {
    number = refl;
    egress = refl;
    protected = refl;
    backup = refl;
    moves = stays-in c.state;
    blocked = λ e. refl;
    ticks = λ h. h;
    down = λ e. inl e;
  }

  -- into another state, as a call that isn't blocked
  pub becomes : (c d : CallRec) → IsMovedCall c d → (f : CallState) (cause : Cause) → may_move c.state f ≡ true →
      is_open f ≡ true → (cause ≡ BackDown → IsDownTwice d) →
      IsMovedCall c (record d { state = f; cause = cause; ticks = 0 })
  becomes c d same f cause may opens down = record {
    number = same.number;
    egress = same.egress;
    protected = same.protected;
    backup = same.backup;
    moves = may;
    blocked = λ e. absurd (open-from c.state f may opens e);
    ticks = λ h. none-below wait;
    down = λ e. inr (down e);
  }

  -- it has no backup
  pub to-bare : (c : CallRec) → MayAskBackup c → IsMovedCall c (bare c)
  to-bare c lone = becomes c c (moves-none c) Bare Unset lone.0 refl (λ e. absurd (cc e))

  -- for a cause
  pub to-unbacked : (c : CallRec) (cause : Cause) → is_down cause ≡ false → MayAskBackup c →
      IsMovedCall c (unbacked c cause)
  to-unbacked c cause other lone = record {
    number = refl;
    egress = refl;
    protected = refl;
    backup = refl;
    moves = lone.0;
    blocked = λ e. absurd (open-from c.state Bare lone.0 refl e);
    ticks = λ h. none-below wait;
    down = λ e. absurd (not-down cause other e);
  }

  -- a backup is asked for
  pub to-pairing : (c : CallRec) (l : Lsp) → MayAskBackup c → IsMovedCall c (pairing c l)
  to-pairing c l lone = record {
    number = refl;
    egress = refl;
    protected = refl;
    backup = refl;
    moves = lone.1;
    blocked = λ e. absurd (open-from c.state Pairing lone.1 refl e);
    ticks = λ h. none-below wait;
    down = λ e. absurd (cc e);
  }

  -- its working LSP is refused
  pub to-blocked : (c : CallRec) (cause : Cause) → is_down cause ≡ false → is_asking c.state ≡ true →
      IsMovedCall c (blocked c cause)
  to-blocked c cause other asking = record {
    number = refl;
    egress = refl;
    protected = refl;
    backup = refl;
    moves = (asking-blocks c.state asking).0;
    blocked = λ e. absurd ((asking-blocks c.state asking).1 e);
    ticks = λ h. none-below wait;
    down = λ e. absurd (not-down cause other e);
  }

  -- it waits a tick more
  pub waits-more : (c : CallRec) → nat_le wait (c.ticks + 1) ≡ false → IsMovedCall c (record c { ticks = c.ticks + 1 })
  waits-more c less = record {
    number = refl;
    egress = refl;
    protected = refl;
    backup = refl;
    moves = stays-in c.state;
    blocked = λ e. refl;
    ticks = λ h. one-more wait c.ticks less;
    down = λ e. inl e;
  }
