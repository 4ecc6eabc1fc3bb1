use Rattle.std.proofs.{Common.{◌≡◌, [], ◌∷◌, ◌∙◌, ap, sym, subst, arith}, lemmas.List.nil_from_length}
use Rattle.std.specs.Vec.Iter.{into_iter_items}
use Rattle.link_owner.specs.Marks.{has_fibre_marks}
use Rattle.mesh_rules.specs.Legs.{legs_changed}
use Rattle.leg_table.specs.LegClaims.{MayAllMark}
use Rattle.leg_carrying.specs.LegHolds.{AreLeft, lsp_changed}
use Rattle.leg_carrying.proofs.{GivenLegs.fibres-then, HeldLabels.fit-of, LeftSteps.{change-left, left-may}}
use Rattle.leg_carrying.proofs.carrying.change_legs.Goals as goal

pub change_leg-requires-clause-may : goal.change_leg-requires-clause-may
change_leg-requires-clause-may c =
    let read = c.args.legs.now.legs in
    let legs = c.loop-change.legs.legs in
    let o = c.loop-change.owner in
    let s = c.loop-change.shares in
    left-may read legs c.in-Some.change (into_iter_items c.next.new.self) o s (lsp_changed c.in-Some.change)
    (subst (λ cs. AreLeft read legs cs o s) c.in-Some.ensures.steps.0 c.loop-change.invariant.left)

pub loop-change-preserved : goal.loop-change-preserved
loop-change-preserved c =
    let d = c.in-Some.change in
    let rest = into_iter_items c.next.new.self in
    let read = c.args.legs.now.legs in
    let legs = c.loop-change.legs.legs in
    let o = c.loop-change.owner in
    let s = c.loop-change.shares in
    let after = c.change_leg.new.owner in
    let left = c.change_leg.new.shares in
    let own = has_fibre_marks c.args.owner.now.marks in
    let made = c.change_leg.ensures in
    let kept = c.loop-change.invariant in
    let items : into_iter_items c.loop-change.change-iterator ≡ d ∷ rest = c.in-Some.ensures.steps.0 in
    let fewer = c.in-Some.ensures.steps.1 in
    let less = made.room in
    let room = kept.room in
    record {
      legs = ap (legs_changed rest) made.legs ∙ ap (λ cs. legs_changed cs legs) (sym items) ∙ kept.legs;
      room = omega arith;
      left = subst (λ gs. AreLeft read gs rest after left) (sym made.legs)
          (change-left read legs d rest o after s left (subst (λ cs. AreLeft read legs cs o s) items kept.left)
          made.labels made.fibres);
      fit = made.fit;
      marks = subst (λ gs. MayAllMark own gs rest) (sym made.legs) (subst (MayAllMark own legs) items kept.marks).1;
      fibres = fibres-then c.args.owner.now o after kept.fibres made.fibres;
    }

pub returns-clause-fit : goal.returns-clause-fit
returns-clause-fit c =
    let read = c.args.legs.now.legs in
    let legs = c.loop-change.legs.legs in
    let o = c.loop-change.owner in
    let s = c.loop-change.shares in
    let none : into_iter_items c.loop-change.change-iterator ≡ [] =
    nil_from_length (into_iter_items c.loop-change.change-iterator)
    (sym c.loop-change.change-iterator.rest.ok.0 ∙ c.in-None.ensures.steps.0) in
    let left = subst (λ cs. AreLeft read legs cs o s) none c.loop-change.invariant.left in
    fit-of legs o s left.held c.loop-change.invariant.fit
