-- Which legs may be put as to their marks: those that aren't marked, those that keep their mark, and those that get it
-- where no label of theirs is in use.
use Rattle.std.proofs.{Common.{◌≡◌, ◌∙◌, Bool, true, false, not, List, inl, inr, refl, ap}, Math.Bool.and-false}
use Rattle.std.specs.Prelude.{◌&&◌, Some}
use Rattle.ason_base.specs.{declared.calls.Phase.Phase, declared.calls.Role.Role, declared.calls.Role.TheVariants.{Work, Back}, declared.ids.Fibre.Fibre, declared.tables.Leg.Leg}
use Rattle.ason_base.specs.declared.calls.Phase.TheVariants as phase
use Rattle.mesh_rules.specs.Legs.{closed, closing_phase, find_leg, is_armed, is_contended, is_marked, is_marking, is_work, uses, with_phase}
use Rattle.mesh_nodes.proofs.ClosedLegs.{closed-uses}
use Rattle.leg_table.specs.LegClaims.{MayMark, UsesOver}

-- Legs that aren't marked

-- in such a phase
pub plain : (g : Leg) → is_marking g.phase ≡ false → is_marked g ≡ false
plain g e = ap (λ b. not (is_work g.role) && b) e ∙ and-false (not (is_work g.role))

pub dark : (own : Fibre → Bool) (legs : List Leg) (g : Leg) → is_marked g ≡ false → MayMark own legs g
dark own legs g e mark = absurd (cc (e, mark))

-- Legs that keep their mark

closed-marked : (q : Phase) (r : Role) → (not (is_work r) && is_marking (closing_phase q r)) ≡ true →
    (not (is_work r) && is_marking q) ≡ true
closed-marked phase.Armed Back e = refl
closed-marked phase.Live Back e = refl
closed-marked phase.Falling Back e = refl
closed-marked phase.Asked Back e = absurd (cc e)
closed-marked phase.Held Back e = absurd (cc e)
closed-marked phase.Closing Back e = absurd (cc e)
closed-marked q Work e = absurd (cc e)

pub closed-marks : (own : Fibre → Bool) (legs : List Leg) (g : Leg) → find_leg g.lsp legs ≡ Some g →
    MayMark own legs (closed g)
closed-marks own legs g there mark = inl (record {
  before = g;
  there = there;
  marked = closed-marked g.phase g.role mark;
  uses = closed-uses g;
})

-- so too where the leg was torn just before
pub again-marks : (own : Fibre → Bool) (legs : List Leg) (g : Leg) → find_leg g.lsp legs ≡ Some g → MayMark own legs g
again-marks own legs g there mark =
    inl (record { before = g; there = there; marked = mark; uses = λ f x e. e })

-- an Armed leg that gets Live
pub live-marks : (own : Fibre → Bool) (legs : List Leg) (g : Leg) → find_leg g.lsp legs ≡ Some g →
    is_armed g.phase ≡ true → MayMark own legs (with_phase phase.Live g)
live-marks own legs g there armed mark = inl (record {
  before = g;
  there = there;
  marked = still (is_work g.role) g.phase armed mark;
  uses = λ f x e. e;
})
  where
    still : (b : Bool) (q : Phase) → is_armed q ≡ true → (not b && true) ≡ true → (not b && is_marking q) ≡ true
    still true q armed mark = mark
    still false phase.Armed armed mark = refl
    still false phase.Asked armed mark = absurd (cc armed)
    still false phase.Held armed mark = absurd (cc armed)
    still false phase.Live armed mark = absurd (cc armed)
    still false phase.Closing armed mark = absurd (cc armed)
    still false phase.Falling armed mark = absurd (cc armed)

-- Legs that get it

pub alone-marks : (own : Fibre → Bool) (legs : List Leg) (g : Leg) (q : Phase) → UsesOver own g →
    is_contended legs g ≡ false → MayMark own legs (with_phase q g)
alone-marks own legs g q over alone mark = inr (record { over = over; alone = alone })
