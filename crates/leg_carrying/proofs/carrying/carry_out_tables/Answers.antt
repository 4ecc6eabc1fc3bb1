use Rattle.std.proofs.Common.{◌≡◌, ◌∙◌, ap, subst, sym}
use Rattle.std.specs.Option.{option_to_list}
use Rattle.mesh_rules.specs.Changes.{learnt_after}
use Rattle.link_owner.specs.Marks.{has_fibre_marks}
use Rattle.leg_table.specs.{LegClaims.{AreOfOneNode, MayAllMark, is_own_fibre}, States.local_of, Tables.LegTable}
use Rattle.leg_table.proofs.{LegOrder.legs-to, OwnFibres.marks-over}
use Rattle.leg_carrying.specs.LegHolds.{AreHeld, AreLeft, MayClaimNew, held_of, last_put, with_new}
use Rattle.leg_carrying.proofs.{GivenLegs.fibres-then, HeldLabels.held-of, KeptLegs.node-after, LeftSteps.{may-claim, start-left}}
use Rattle.leg_carrying.proofs.carrying.carry_out_tables.Goals as goal

pub reserve_new-requires-clause-held : goal.reserve_new-requires-clause-held
reserve_new-requires-clause-held c =
    let t = c.args.tables.now in
    let o = c.args.owner.now in
    let s = c.args.shares.now in
    let legs : c.tables.inside.legs.legs ≡ t.legs = ap (λ (u : LegTable). u.legs) c.tables.view_is in
    let is : c.reserve.new.self.legs ≡ t.legs = c.reserve.ensures.same ∙ legs in
    subst (λ gs. AreHeld (held_of gs) o s) (sym is) (held-of t.legs o s c.requires.node.labels)

pub reserve_new-requires-clause-may : goal.reserve_new-requires-clause-may
reserve_new-requires-clause-may c =
    let t = c.args.tables.now in
    let o = c.args.owner.now in
    let legs : c.tables.inside.legs.legs ≡ t.legs = ap (λ (u : LegTable). u.legs) c.tables.view_is in
    let rise = legs-to t.legs c.rises.ensures.rising in
    let is : c.reserve.new.self.legs ≡ t.legs = c.reserve.ensures.same ∙ legs in
    subst (λ cs. MayClaimNew o c.reserve.new.self.legs (last_put cs)) (sym c.deref.ensures.value)
    (subst (λ gs. MayClaimNew o gs (last_put c.args.changes.items)) (sym is)
    (may-claim (local_of t) t.legs o c.args.shares.now c.args.changes.items rise c.requires.node.labels
    c.requires.node.fibres c.requires.may))

pub change_legs-requires-clause-left : goal.change_legs-requires-clause-left
change_legs-requires-clause-left c =
    let t = c.args.tables.now in
    let after = c.reserve_new.new.owner in
    let more = c.reserve_new.new.shares in
    let changes = c.args.changes.items in
    let legs : c.tables.inside.legs.legs ≡ t.legs = ap (λ (u : LegTable). u.legs) c.tables.view_is in
    let room : c.reserve.new.self.legs ≡ t.legs = c.reserve.ensures.same ∙ legs in
    subst (λ gs. AreLeft gs gs changes after more) (sym room)
    (start-left (local_of t) t.legs changes after more c.requires.may
    (subst (λ gs. AreHeld (with_new gs (last_put changes) (held_of gs)) after more) room
    (subst (λ cs. AreHeld (with_new c.reserve.new.self.legs (last_put cs) (held_of c.reserve.new.self.legs)) after more)
    c.deref.ensures.value c.in_ok-reserve_new.ensures.held)))

pub change_legs-requires-clause-marks : goal.change_legs-requires-clause-marks
change_legs-requires-clause-marks c =
    let t = c.args.tables.now in
    let o = c.args.owner.now in
    let legs : c.tables.inside.legs.legs ≡ t.legs = ap (λ (u : LegTable). u.legs) c.tables.view_is in
    subst (λ gs. MayAllMark (has_fibre_marks c.reserve_new.new.owner.marks) gs c.args.changes.items)
    (sym (c.reserve.ensures.same ∙ legs))
    (marks-over (is_own_fibre (local_of t)) (has_fibre_marks c.reserve_new.new.owner.marks) t.legs c.args.changes.items
    (λ f own. ap (λ marks. has_fibre_marks marks f) c.reserve_new.ensures.marks ∙ c.requires.node.fibres.marked f ∙ own)
    c.requires.marks)

pub returns-clause-node : goal.returns-clause-node
returns-clause-node c =
    let t = c.args.tables.now in
    let o = c.args.owner.now in
    let after = c.change_legs.new.owner in
    let left = c.change_legs.new.shares in
    let legs = c.change_legs.new.legs.legs in
    let row = option_to_list c.args.row in
    let kept = c.tables.inside in
    let before : LegTable = record {
      node = kept.node;
      wait = kept.wait;
      own = kept.own.items;
      rows = kept.rows.items;
      down = kept.down;
      legs = kept.legs.legs;
    } in
    let rows : learnt_after row kept.rows.items ≡ c.put_row.new.rows.items =
    ap (learnt_after row) (sym c.make_room.ensures.same) ∙ sym c.put_row.ensures in
    subst (λ u. AreOfOneNode u after left)
    (ap (λ (u : LegTable). record u { legs = legs; rows = learnt_after row u.rows }) (sym c.tables.view_is)
    ∙ ap (λ rs. record before { legs = legs; rows = rs }) rows)
    (node-after t row legs o after c.args.shares.now left c.requires.node c.change_legs.ensures.fit
    (fibres-then o c.reserve_new.new.owner after c.reserve_new.ensures.fibres c.change_legs.ensures.fibres))
