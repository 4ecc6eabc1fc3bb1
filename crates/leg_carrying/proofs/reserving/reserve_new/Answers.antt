use Rattle.std.proofs.Common.{◌≡◌, Some, IfSome, OnOk, subst, sym}
use Rattle.ason_base.proofs.Results.{on_both, on_ok_both}
use Rattle.mesh_rules.specs.Legs.{find_leg}
use Rattle.leg_table.specs.LegClaims.{SameFibres}
use Rattle.leg_carrying.specs.LegHolds.{AreHeld, MayClaim, MayClaimNew, held_of, new_label, holds_with_label, with_new}
use Rattle.leg_carrying.proofs.{GivenLegs.fibres-refl, HeldLabels.bare-held, NewLabels.new-fresh, ReservedLabels.{claimed-fibres, more-held, none-guarded, none-had}}
use Rattle.leg_carrying.proofs.reserving.reserve_new.Goals as goal

pub reserve-requires-clause-new : goal.reserve-requires-clause-new
reserve-requires-clause-new c =
    let g = c.in-Some.leg.now in
    let t = c.in-Some-new_label.label in
    let legs = c.args.legs.now.legs in
    let before = find_leg g.lsp legs in
    none-had (held_of legs) c.args.owner.now.claims t.fibre t.label g.lsp c.requires.held.claims
    (bare-held t.fibre t.label before (new-fresh before g t (sym c.in-Some-new_label.ensures)))

pub reserve-requires-clause-none : goal.reserve-requires-clause-none
reserve-requires-clause-none c =
    let g = c.in-Some.leg.now in
    let t = c.in-Some-new_label.label in
    let legs = c.args.legs.now.legs in
    let before = find_leg g.lsp legs in
    none-guarded (held_of legs) c.args.shares.now t.fibre t.label g.lsp c.requires.held.guards
    (bare-held t.fibre t.label before (new-fresh before g t (sym c.in-Some-new_label.ensures)))

pub returns-clause-held : goal.returns-clause-held
returns-clause-held c =
    let g = c.in-Some.leg.now in
    let t = c.in-Some-new_label.label in
    let legs = c.args.legs.now.legs in
    let o = c.args.owner.now in
    let s = c.args.shares.now in
    let after = c.reserve.new.owner in
    let more = c.reserve.new.shares in
    let before = find_leg g.lsp legs in
    let new : new_label before g ≡ Some t = sym c.in-Some-new_label.ensures in
    let claim = subst (λ k. MayClaimNew o legs k) (sym c.in-Some.ensures) c.requires.may in
    let may = subst (λ k. IfSome k (MayClaim o g)) new claim in
    subst (λ k. OnOk c.reserve.result (AreHeld (with_new legs k (held_of legs)) after more)) c.in-Some.ensures
    (subst (λ k. OnOk c.reserve.result (AreHeld (holds_with_label g k (held_of legs)) after more)) (sym new)
    (on_ok_both c.reserve.result _ _ _
    (λ is guards. more-held g t (held_of legs) o after s more c.requires.held
    (bare-held t.fibre t.label before (new-fresh before g t new)) may is guards)
    c.reserve.ensures.ok c.reserve.ensures.guards))

pub returns-clause-fibres : goal.returns-clause-fibres
returns-clause-fibres c =
    let o = c.args.owner.now in
    on_both c.reserve.result _ _ _
    (λ is. subst (SameFibres o) (sym is) (claimed-fibres c.in-Some.leg.now c.in-Some-new_label.label o))
    (λ is. subst (SameFibres o) (sym is) (fibres-refl o)) c.reserve.ensures.ok c.reserve.ensures.err
