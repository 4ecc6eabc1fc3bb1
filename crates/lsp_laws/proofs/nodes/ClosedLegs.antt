-- A torn leg may stand in the place of the leg that it was: it takes and sends no more, and is marked only where that
-- was.
use Rattle.std.proofs.{Common.{◌≡◌, ℕ, true, not, List, refl, arith}}
use Rattle.std.specs.Prelude.{◌&&◌, ◌||◌, Some, None, IsTrue, is_some}
use Rattle.ason_base.specs.{declared.calls.Phase.Phase, declared.calls.Phase.TheVariants.{Asked, Held, Armed, Live, Closing, Falling}, declared.calls.Role.Role, declared.calls.Role.TheVariants.{Work, Back}, declared.tables.Leg.Leg}
use Rattle.mesh_rules.specs.Legs.{closed, closing_phase, find_leg, is_armed, is_held, is_marked, is_marking, is_work}
use Rattle.mesh_nodes.proofs.{Phases.of-closing, ClosedLegs.{closed-takes, closed-uses}}
use Rattle.lsp_laws.proofs.{nodes.BackLabels.back-closed, nodes.Facts.{FitsPhase, LegFacts}, nodes.LegParts.{altered-facts, LegPart, MayStand}, nodes.Marks.may-keep}

phase_closed : (f : Phase) (r : Role) (g : Leg) → IsTrue (is_some g.next) → FitsPhase (closing_phase f r) (closed g)
phase_closed f r g next = of-closing (λ q. FitsPhase q (closed g)) (refl, next) (refl, next) f r

closed-idle : (f : Phase) (r : Role) → (is_held (closing_phase f r) || is_armed (closing_phase f r)) ≡ true → ⊥
closed-idle f r = of-closing (λ q. (is_held q || is_armed q) ≡ true → ⊥) (λ e. cc e) (λ e. cc e) f r

closed-facts : (n next : ℕ) (g : Leg) → IsTrue (is_some g.next) → LegFacts n next g → LegFacts n next (closed g)
closed-facts n next g goes_on facts =
    altered-facts n next next g (closing_phase g.phase g.role) None g.out_label None (omega arith) facts
    (λ e. absurd (closed-idle g.phase g.role e)) (phase_closed g.phase g.role g goes_on) tt facts.sent
    (back-closed g facts.back)

pub closed-marked : (g : Leg) → is_marked (closed g) ≡ true → is_marked g ≡ true
closed-marked g mark = go g.phase g.role mark
  where
    go : (f : Phase) (r : Role) → (not (is_work r) && is_marking (closing_phase f r)) ≡ true →
        (not (is_work r) && is_marking f) ≡ true
    go f Work e = absurd (cc e)
    go Asked Back e = absurd (cc e)
    go Held Back e = absurd (cc e)
    go Armed Back e = refl
    go Live Back e = refl
    go Closing Back e = absurd (cc e)
    go Falling Back e = refl

pub closed-stands : (n next : ℕ) (legs : List Leg) (g : Leg) → LegPart n next legs →
    find_leg g.lsp legs ≡ Some g → IsTrue (is_some g.next) → MayStand n next legs (closed g)
closed-stands n next legs g part found goes_on =
    may-keep n next legs part g (closed g) (closed-facts n next g goes_on (part.leg g.lsp g found)) found refl refl
    (closed-takes g) (closed-uses g) (closed-marked g)
