-- A leg that stands and gets another phase may stand: an activation passes it, is confirmed or is refused.
use Rattle.std.proofs.Common.{◌≡◌, ℕ, true, false, not, List, refl, sym, subst, ◌∙◌, arith}
use Rattle.std.specs.Prelude.{◌||◌, Some}
use Rattle.ason_base.specs.{declared.calls.Phase.Phase, declared.calls.Phase.TheVariants.{Held, Armed, Live}, declared.calls.Role.TheVariants.Back, declared.ids.Lsp.Lsp, declared.tables.Leg.Leg, Lsps.same_lsp}
use Rattle.ason_base.proofs.Bools.{and-right}
use Rattle.mesh_rules.specs.Legs.{find_leg, is_armed, is_beyond_asked, is_contended, is_held, is_marking, is_work, with_phase}
use Rattle.lsp_laws.proofs.{nodes.BackLabels.{back-kept, beyond-stands}, nodes.Facts.{FitsPhase, HasItsLabels, LegFacts}, nodes.LegParts.{altered-facts, LegPart, MayStand}, nodes.Marks.{may-arm, may-keep}}

-- Phases

labels-of : (f : Phase) (g : Leg) → FitsPhase f g → is_beyond_asked f ≡ true → HasItsLabels g
labels-of Held g fits e = fits
labels-of Armed g fits e = fits
labels-of Live g fits e = fits
labels-of _ g fits e = absurd (cc e)

fits-phase : (f : Phase) (g : Leg) → HasItsLabels g → is_beyond_asked f ≡ true → FitsPhase f g
fits-phase Held g labels e = labels
fits-phase Armed g labels e = labels
fits-phase Live g labels e = labels
fits-phase _ g labels e = absurd (cc e)

-- a Held or an Armed leg is a backup's
pub held-back : (n next : ℕ) (g : Leg) → LegFacts n next g → g.phase ≡ Held → g.role ≡ Back
held-back n next g facts is = facts.held (subst (λ f. (is_held f || is_armed f) ≡ true) (sym is) refl)

pub armed-back : (n next : ℕ) (g : Leg) → LegFacts n next g → g.phase ≡ Armed → g.role ≡ Back
armed-back n next g facts is = facts.held (subst (λ f. (is_held f || is_armed f) ≡ true) (sym is) refl)

-- The leg of a backup that has its labels, at a node with these legs, in the phase f

pub phase-facts : (n next : ℕ) (f : Phase) (g : Leg) → LegFacts n next g → is_beyond_asked g.phase ≡ true →
    is_beyond_asked f ≡ true → g.role ≡ Back → LegFacts n next (with_phase f g)
phase-facts n next f g facts beyond later back =
    altered-facts n next next g f g.in_label g.out_label g.back_out (omega arith) facts (λ e. back)
    (fits-phase f (with_phase f g) (labels-of g.phase g facts.phase beyond) later) facts.offered facts.sent
    (back-kept g (with_phase f g) refl refl refl refl (beyond-stands g.phase beyond ∙ sym (beyond-stands f later))
    facts.back)

module _ (n next : ℕ) (legs : List Leg) (f : Phase) (g : Leg) (part : LegPart n next legs)
    (found : find_leg g.lsp legs ≡ Some g) (beyond : is_beyond_asked g.phase ≡ true)
    (later : is_beyond_asked f ≡ true) (back : g.role ≡ Back) where
  facts : LegFacts n next (with_phase f g)
  facts = phase-facts n next f g (part.leg g.lsp g found) beyond later back

  -- it is marked only where it was before
  pub stands-unmarked : (is_marking f ≡ true → is_marking g.phase ≡ true) → MayStand n next legs (with_phase f g)
  stands-unmarked before =
      may-keep n next legs part g (with_phase f g) facts found refl refl (λ k x e. e) (λ k x e. e)
      (λ mark. let passed = before (and-right (not (is_work g.role)) (is_marking f) mark) in rw (back, passed) refl)

  -- it isn't contended among the legs that a rule read, of which those of other LSPs stand as they did
  pub stands-alone : (read : List Leg) →
      ((m : Lsp) (h : Leg) → same_lsp g.lsp m ≡ false → find_leg m legs ≡ Some h → find_leg m read ≡ Some h) →
      is_contended read g ≡ false → MayStand n next legs (with_phase f g)
  stands-alone read stood free =
      may-arm n next legs part g (with_phase f g) facts found refl refl (λ k x e. e) read stood free
