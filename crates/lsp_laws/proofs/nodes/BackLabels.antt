-- The labels for the way back of a leg that changes: they stay as they are; a torn leg gives up its back label out.
use Rattle.std.proofs.{Common.{◌≡◌, true, false, not, refl, ap, subst, ◌∙◌}, Math.Bool.and-false, option.Match.None-if_not_some}
use Rattle.std.specs.Prelude.{◌&&◌, None, is_some}
use Rattle.ason_base.specs.{declared.calls.Phase.Phase, declared.calls.Phase.TheVariants.{Held, Armed, Live}, declared.calls.Role.Role, declared.calls.Role.TheVariants.{Work, Back}, declared.tables.Leg.Leg}
use Rattle.mesh_rules.specs.Legs.{closed, closing_phase, is_beyond_asked, is_closing, reserved}
use Rattle.mesh_nodes.proofs.Phases.{of-closing}
use Rattle.lsp_laws.specs.LabelLaw.{HasBackLabels}

-- Phases

pub beyond-stands : (f : Phase) → is_beyond_asked f ≡ true → is_closing f ≡ false
beyond-stands Held e = refl
beyond-stands Armed e = refl
beyond-stands Live e = refl
beyond-stands _ e = absurd (cc e)

pub reserved-stands : (r : Role) → is_closing (reserved r) ≡ false
reserved-stands Work = refl
reserved-stands Back = refl

pub closed-closing : (f : Phase) (r : Role) → is_closing (closing_phase f r) ≡ true
closed-closing f r = of-closing (λ q. is_closing q ≡ true) refl refl f r

-- Back labels

-- a leg with the same fibres and back labels, torn where it was torn
pub back-kept : (g h : Leg) → g.in_fibre ≡ h.in_fibre → g.out_fibre ≡ h.out_fibre → g.back_in ≡ h.back_in →
    g.back_out ≡ h.back_out → is_closing g.phase ≡ is_closing h.phase → HasBackLabels g → HasBackLabels h
back-kept g h in_fibre out_fibre back_in back_out torn has = (
  has.0,
  record {
    enters = subst (λ o. is_some h.back_in ≡ (has.0 && is_some o)) out_fibre
        (subst (λ o. is_some o ≡ (has.0 && is_some g.out_fibre)) back_in has.1.enters);
    leaves = subst (λ b. is_some h.back_out ≡ (has.0 && (is_some h.in_fibre && not b))) torn
        (subst (λ o. is_some h.back_out ≡ (has.0 && (is_some o && not (is_closing g.phase)))) in_fibre
        (subst (λ o. is_some o ≡ (has.0 && (is_some g.in_fibre && not (is_closing g.phase)))) back_out has.1.leaves));
  },
)

pub back-closed : (g : Leg) → HasBackLabels g → HasBackLabels (closed g)
back-closed g has = (
  has.0,
  record {
    enters = has.1.enters;
    leaves = rw (closed-closing g.phase g.role, and-false (is_some g.in_fibre), and-false has.0) refl;
  },
)

-- a torn leg has no back label out
pub torn-back_out : (g : Leg) → HasBackLabels g → is_closing g.phase ≡ true → g.back_out ≡ None
torn-back_out g has torn =
    None-if_not_some g.back_out
    (has.1.leaves ∙ ap (λ b. has.0 && (is_some g.in_fibre && not b)) torn ∙ ap (λ b. has.0 && b) (and-false _)
    ∙ and-false has.0)
