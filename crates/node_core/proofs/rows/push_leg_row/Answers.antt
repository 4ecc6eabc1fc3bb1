use Rattle.std.proofs.{Common.{◌∷◌, ◌++◌, [], sym, ◌∙◌, ap}, lemmas.Result.on_ok_weaker}
use Rattle.mesh_rules.specs.Rows.{leg_row}
use Rattle.node_core.proofs.LegRows.{map-more, one-within}
use Rattle.node_core.proofs.rows.push_leg_row.Goals as goal

pub unreachable-requires : goal.unreachable-requires
unreachable-requires c = one-within c.args.tables.now.legs c.args.place (sym c.in-None.ensures) c.requires.within

pub returns : goal.returns
returns c =
    let n = c.args.n in
    let legs = c.args.tables.now.legs in
    on_ok_weaker c.push.result
    (λ e. e ∙ ap (λ row. c.args.rows.now ++ row ∷ []) c.leg_row.ensures
    ∙ ap (λ rows. rows ++ leg_row n c.in-Some.leg.now ∷ []) c.requires.before
    ∙ sym (map-more (leg_row n) legs c.args.place c.in-Some.leg.now (sym c.in-Some.ensures)))
    c.push.ensures.ok
