use Rattle.std.proofs.Common.{◌≡◌, true, sym, ◌∙◌}
use Rattle.mesh_rules.specs.Legs.{is_marked}
use Rattle.leg_carrying.proofs.{MarkChanges.{back_in-used, back_out-used, darkens-four, in-used, out-used}, MarkedLegs.{cleared-just, there-marked}}
use Rattle.leg_carrying.proofs.marking.unmark.Goals as goal

pub darken-requires : goal.darken-requires
darken-requires c f x e =
    let g = c.args.leg.now in
    let so : is_marked g ≡ true = sym c.is_marked.ensures ∙ c.if-is_marked.true in
    there-marked g g.lsp c.args.owner.now so c.requires f x (in-used g f x e)

pub darken-requires-then-is_marked : goal.darken-requires-then-is_marked
darken-requires-then-is_marked c f x e =
    let g = c.args.leg.now in
    let so : is_marked g ≡ true = sym c.is_marked.ensures ∙ c.if-is_marked.true in
    c.darken.ensures.fibres f
    ∙ there-marked g g.lsp c.args.owner.now so c.requires f x
    (back_in-used g c.reverse_of.result c.reverse_of.ensures f x e)

pub darken-requires-then-is_marked-2 : goal.darken-requires-then-is_marked-2
darken-requires-then-is_marked-2 c f x e =
    let g = c.args.leg.now in
    let so : is_marked g ≡ true = sym c.is_marked.ensures ∙ c.if-is_marked.true in
    c.darken-then-is_marked.ensures.fibres f
    ∙ c.darken.ensures.fibres f
    ∙ there-marked g g.lsp c.args.owner.now so c.requires f x (out-used g f x e)

pub darken-requires-then-is_marked-3 : goal.darken-requires-then-is_marked-3
darken-requires-then-is_marked-3 c f x e =
    let g = c.args.leg.now in
    let so : is_marked g ≡ true = sym c.is_marked.ensures ∙ c.if-is_marked.true in
    c.darken-then-is_marked-2.ensures.fibres f
    ∙ c.darken-then-is_marked.ensures.fibres f
    ∙ c.darken.ensures.fibres f
    ∙ there-marked g g.lsp c.args.owner.now so c.requires f x
    (back_out-used g c.reverse_of-then-is_marked.result c.reverse_of-then-is_marked.ensures f x e)

pub returns-then-is_marked : goal.returns-then-is_marked
returns-then-is_marked c =
    let g = c.args.leg.now in
    let o = c.args.owner.now in
    let after = c.darken-then-is_marked-3.new.owner in
    let so : is_marked g ≡ true = sym c.is_marked.ensures ∙ c.if-is_marked.true in
    cleared-just g g.lsp o after so c.requires
    (darkens-four g.lsp g c.reverse_of.result c.reverse_of-then-is_marked.result o c.darken.new.owner
    c.darken-then-is_marked.new.owner c.darken-then-is_marked-2.new.owner after c.reverse_of.ensures
    c.reverse_of-then-is_marked.ensures c.darken.ensures c.darken-then-is_marked.ensures
    c.darken-then-is_marked-2.ensures c.darken-then-is_marked-3.ensures)
