-- A release closes each leg of its call.
use Rattle.std.proofs.Common.{◌≡◌, Bool, true, false, cond, List, [], ◌∷◌, ◌++◌, refl, sym, ap, ◌∙◌, subst, inl, inr}
use Rattle.std.specs.Prelude.{◌⊎◌, Option, Some, None}
use Rattle.ason_base.specs.{Lsps.same_lsp, declared.calls.Phase.Phase, declared.calls.Phase.TheVariants.{Asked, Held, Armed, Live, Closing, Falling}, declared.calls.Role.Role, declared.ids.CallNo.CallNo, declared.ids.Lsp.Lsp, declared.tables.Leg.Leg}
use Rattle.ason_base.specs.declared.calls.Role.TheVariants as role
use Rattle.mesh_rules.specs.declared.changes.CallChange.TheVariants as call
use Rattle.mesh_rules.specs.{Legs.{closed, closing_phase, find_leg, legs_changed, with_leg}, Releases.tears}
use Rattle.mesh_nodes.proofs.LegList.{find-with_leg, found-lsp, same_lsp-refl}
use Rattle.mesh_laws.specs.ActsLaw.{IsTornPhase}

-- a leg that closes is torn
closing-torn : (q : Phase) (r : Role) → IsTornPhase (closing_phase q r)
closing-torn Armed role.Back = inr refl
closing-torn Live role.Back = inr refl
closing-torn Armed role.Work = inl refl
closing-torn Live role.Work = inl refl
closing-torn Asked r = inl refl
closing-torn Held r = inl refl
closing-torn Closing r = inl refl
closing-torn Falling r = inl refl

-- the leg of this LSP is torn, if there is one
abbrev pub IsTornAt : Lsp → List Leg → Type 0
IsTornAt l legs = (g : Leg) → find_leg l legs ≡ Some g → IsTornPhase g.phase

-- after a leg closes those of all LSPs that were torn are, and its own is
closed-torn : (legs : List Leg) (h : Leg) (l : Lsp) → (same_lsp h.lsp l ≡ false → IsTornAt l legs) →
    IsTornAt l (with_leg (closed h) legs)
closed-torn legs h l before g found = go (same_lsp h.lsp l) refl (sym (find-with_leg (closed h) legs l) ∙ found)
  where
    go : (b : Bool) → same_lsp h.lsp l ≡ b → cond b (Some (closed h)) (find_leg l legs) ≡ Some g → IsTornPhase g.phase
    go true e is = (let one : closed h ≡ g = cc is in subst (λ x. IsTornPhase x.phase) one (closing-torn h.phase h.role))
    go false e is = before e g is

-- the leg of an LSP that closes is torn, and one that was torn stays so
pub tears-torn : (o : Option Leg) (legs : List Leg) (l : Lsp) → IsTornAt l legs ⊎ (o ≡ find_leg l legs) →
    IsTornAt l (legs_changed (tears o).legs legs)
tears-torn None legs l (inl torn) = torn
tears-torn None legs l (inr none) = λ g found. absurd (cc (none, found))
tears-torn (Some h) legs l (inl torn) = closed-torn legs h l (λ other. torn)
tears-torn (Some h) legs l (inr is) =
    let own : h.lsp ≡ l = found-lsp l legs h (sym is) in
    closed-torn legs h l (λ other.
    absurd (let test : same_lsp h.lsp l ≡ true = subst (λ k. same_lsp h.lsp k ≡ true) own (same_lsp-refl h.lsp) in
    cc (other, test)))

-- the leg of another LSP, or one that is torn too, after a leg closes
pub then-torn : (o : Option Leg) (legs : List Leg) (l : Lsp) (found : Option Leg) → find_leg l legs ≡ found →
    IsTornAt l (legs_changed (tears o).legs legs) ⊎ (find_leg l (legs_changed (tears o).legs legs) ≡ found)
then-torn None legs l found is = inr is
then-torn (Some h) legs l found is = go (same_lsp h.lsp l) refl
  where
    go : (b : Bool) → same_lsp h.lsp l ≡ b → IsTornAt l (with_leg (closed h) legs) ⊎
        (find_leg l (with_leg (closed h) legs) ≡ found)
    go true e = inl (closed-torn legs h l (λ other. absurd (cc (other, e))))
    go false e = inr (find-with_leg (closed h) legs l ∙ ap (λ b. cond b (Some (closed h)) (find_leg l legs)) e ∙ is)

-- what a release does to the legs: it closes that of the working LSP, then that of the backup
pub two-tears : (w b : Option Leg) (legs : List Leg) →
    legs_changed ((tears w).legs ++ ((tears b).legs ++ [])) legs ≡
    legs_changed (tears b).legs (legs_changed (tears w).legs legs)
two-tears None None legs = refl
two-tears None (Some b) legs = refl
two-tears (Some w) None legs = refl
two-tears (Some w) (Some b) legs = refl

-- what it does to the calls
pub calls-then : (w b : Option Leg) (k : CallNo) →
    ((tears w).calls ++ ((tears b).calls ++ call.Goes k ∷ [])) ≡ call.Goes k ∷ []
calls-then None None k = refl
calls-then None (Some b) k = refl
calls-then (Some w) None k = refl
calls-then (Some w) (Some b) k = refl
