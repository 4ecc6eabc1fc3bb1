use Rattle.std.proofs.Common.{◌∙◌, ap, subst, sym}
use Rattle.indexmap.specs.IndexMap.{get_by}
use Rattle.ason_base.specs.{InOrder.put_by, Lsps.{lsp_before, same_lsp}, declared.ids.Lsp.Lsp}
use Rattle.mesh_rules.specs.Legs.{with_leg}
use Rattle.leg_table.specs.{Keyed.KeysRise, LegMaps.{LegMapFits, LegSet, legs_in, lsp_at}}
use Rattle.leg_table.proofs.LegEdits.{put-fits, put-legs, set-fits, set-legs, under}
use Rattle.leg_table.proofs.leg_map.LegMap.put.Goals as goal

pub invariant_of-self : goal.invariant_of-self
invariant_of-self c =
    let listed = c.put_item.ensures.items
    ∙ ap (λ (l : Lsp). put_by same_lsp lsp_before lsp_at l c.self.inside.order.items) c.of-key.ensures in
    subst (LegMapFits _) (sym listed)
    (put-fits _ _ c.args.leg (under _ _ _ c.args.leg.lsp _ c.of-key.ensures c.in-Ok-None.ensures.updates.0) _
    c.self.invariant (subst (KeysRise lsp_before lsp_at) listed c.put_item.ensures.rising))

pub invariant_of-self-in-Ok-Some : goal.invariant_of-self-in-Ok-Some
invariant_of-self-in-Ok-Some c =
    set-fits _ _ c.args.leg (under _ _ _ c.args.leg.lsp _ c.of-key.ensures c.in-Ok-Some.ensures.updates.0)
    c.in-Ok-Some._old _ c.self.invariant
    (sym c.in-Ok-Some.field-0-is ∙ c.in-Ok-Some.ensures.old
    ∙ ap (λ (l : Lsp). get_by (same_lsp l) c.self.inside.map) c.of-key.ensures)

pub returns-in-Ok-None-clause-legs : goal.returns-in-Ok-None-clause-legs
returns-in-Ok-None-clause-legs c =
    ap (legs_in _) (c.put_item.ensures.items
    ∙ ap (λ (l : Lsp). put_by same_lsp lsp_before lsp_at l c.self.inside.order.items) c.of-key.ensures)
    ∙ put-legs _ _ c.args.leg (under _ _ _ c.args.leg.lsp _ c.of-key.ensures c.in-Ok-None.ensures.updates.0) _
    c.self.invariant
    ∙ ap (λ (v : LegSet). with_leg c.args.leg v.legs) c.self.view_is

pub returns-in-Ok-Some-clause-legs : goal.returns-in-Ok-Some-clause-legs
returns-in-Ok-Some-clause-legs c =
    set-legs _ _ c.args.leg (under _ _ _ c.args.leg.lsp _ c.of-key.ensures c.in-Ok-Some.ensures.updates.0)
    c.in-Ok-Some._old _ c.self.invariant
    (sym c.in-Ok-Some.field-0-is ∙ c.in-Ok-Some.ensures.old
    ∙ ap (λ (l : Lsp). get_by (same_lsp l) c.self.inside.map) c.of-key.ensures)
    ∙ ap (λ (v : LegSet). with_leg c.args.leg v.legs) c.self.view_is
