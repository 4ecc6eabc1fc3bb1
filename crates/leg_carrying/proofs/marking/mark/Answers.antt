use Rattle.std.proofs.Common.{◌≡◌, true, sym, ◌∙◌}
use Rattle.mesh_rules.specs.Legs.{is_marked}
use Rattle.leg_carrying.proofs.{MarkChanges.lights-four, MarkedLegs.marked-just}
use Rattle.leg_carrying.proofs.marking.mark.Goals as goal

pub returns-then-is_marked : goal.returns-then-is_marked
returns-then-is_marked c =
    let g = c.args.leg.now in
    let o = c.args.owner.now in
    let after = c.light-then-is_marked-3.new.owner in
    let so : is_marked g ≡ true = sym c.is_marked.ensures ∙ c.if-is_marked.true in
    marked-just g o after so c.requires.none c.requires.free
    (lights-four g.lsp g c.reverse_of.result c.reverse_of-then-is_marked.result o c.light.new.owner
    c.light-then-is_marked.new.owner c.light-then-is_marked-2.new.owner after c.reverse_of.ensures
    c.reverse_of-then-is_marked.ensures c.light.ensures c.light-then-is_marked.ensures
    c.light-then-is_marked-2.ensures c.light-then-is_marked-3.ensures)
