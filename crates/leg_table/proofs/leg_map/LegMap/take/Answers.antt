use Rattle.std.proofs.Common.{◌∙◌, ap, filter, not, subst, sym}
use Rattle.indexmap.specs.IndexMap.{get_by}
use Rattle.ason_base.specs.{Lsps.same_lsp, declared.ids.Lsp.Lsp}
use Rattle.mesh_rules.specs.Legs.{find_leg, without_leg}
use Rattle.leg_table.specs.{Keyed.has_key, LegMaps.{LegMapFits, LegSet, legs_in, lsp_at}}
use Rattle.leg_table.proofs.{LegMaps.find-legs, LegEdits.{take-fits, take-legs, under}}
use Rattle.leg_table.proofs.leg_map.LegMap.take.Goals as goal

pub invariant_of-self : goal.invariant_of-self
invariant_of-self c =
    subst (LegMapFits _)
    (sym (c.take_item-listed.ensures.left
    ∙ ap (λ (l : Lsp). filter (λ x. not (has_key same_lsp lsp_at l x)) c.self.inside.order.items) c.of-key.ensures))
    (take-fits _ _ c.args.lsp (under _ _ _ c.args.lsp _ c.of-key.ensures c.swap_remove.ensures.updates.0) _
    c.self.invariant)

pub returns-clause-leg : goal.returns-clause-leg
returns-clause-leg c =
    c.swap_remove.ensures.value ∙ ap (λ (l : Lsp). get_by (same_lsp l) c.self.inside.map) c.of-key.ensures
    ∙ sym (find-legs _ _ c.args.lsp c.self.invariant)
    ∙ ap (λ (v : LegSet). find_leg c.args.lsp v.legs) c.self.view_is

pub returns-clause-legs : goal.returns-clause-legs
returns-clause-legs c =
    ap (legs_in _) (c.take_item-listed.ensures.left
    ∙ ap (λ (l : Lsp). filter (λ x. not (has_key same_lsp lsp_at l x)) c.self.inside.order.items) c.of-key.ensures)
    ∙ take-legs _ _ c.args.lsp (under _ _ _ c.args.lsp _ c.of-key.ensures c.swap_remove.ensures.updates.0) _
    c.self.invariant
    ∙ ap (λ (v : LegSet). without_leg c.args.lsp v.legs) c.self.view_is
