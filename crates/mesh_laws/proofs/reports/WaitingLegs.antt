-- A leg that waits for its answer: what its messages are.
use Rattle.std.proofs.Common.{◌≡◌, ◌<◌, ℕ, zero, suc, Bool, true, false, not, List, [], ◌∷◌, refl, arith}
use Rattle.std.specs.Prelude.{Option, Some, None}
use Rattle.ason_base.specs.{declared.calls.Phase.Phase, declared.calls.Phase.TheVariants.{Asked, Closing}, declared.messages.Msg.Msg, declared.messages.Msg.TheVariants.{Path, Resv, PathTear, PathErr, Notify}, declared.tables.Leg.Leg}
use Rattle.mesh_rules.specs.Legs.{is_asked, is_closing}
use Rattle.lsp_laws.specs.{HopShapes.{AskedLeg, ClosingLeg, leg_kind, phase_kind}, ReportLaw.{is_standing, on_the_way}}
use Rattle.lsp_laws.proofs.hops.Purposes.{has_path}
use Rattle.mesh_laws.proofs.reports.GentleWords.{has_plain, is_waiting}

-- where no line tells anything, nothing is on the way
pub silent-way : (line : ℕ → List Bool) (i : ℕ) → ((j : ℕ) → j < i → line j ≡ []) → on_the_way line i ≡ []
silent-way line zero none = refl
silent-way line (suc i) none =
    rw (silent-way line i (λ j less. none j (omega arith)), none i (omega arith)) refl

-- an Asked leg waits, and a torn one doesn't stand

pub asked-waits : (o : Option Leg) → leg_kind o ≡ AskedLeg → is_waiting o ≡ true
asked-waits None e = absurd (cc e)
asked-waits (Some g) e = go g.phase e
  where
    go : (f : Phase) → phase_kind f ≡ AskedLeg → is_asked f ≡ true
    go Asked e = refl
    go _ e = absurd (cc e)

pub closing-torn : (o : Option Leg) → leg_kind o ≡ ClosingLeg → is_standing o ≡ false
closing-torn None e = absurd (cc e)
closing-torn (Some g) e = go g.phase e
  where
    go : (f : Phase) → phase_kind f ≡ ClosingLeg → not (is_closing f) ≡ false
    go Closing e = refl
    go _ e = absurd (cc e)

-- a plain Path is a Path
pub plain-path : (ms : List Msg) → has_plain ms ≡ true → has_path ms ≡ true
plain-path [] h = h
plain-path (Path l e k route set up r ∷ ms) h = refl
plain-path (Resv l e k x ∷ ms) h = plain-path ms h
plain-path (PathTear l e k ∷ ms) h = plain-path ms h
plain-path (PathErr l e at gone code ∷ ms) h = plain-path ms h
plain-path (Notify l e at k code ∷ ms) h = plain-path ms h
