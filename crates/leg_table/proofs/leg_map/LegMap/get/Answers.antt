use Rattle.std.proofs.Common.{◌∙◌, ap, sym}
use Rattle.indexmap.specs.IndexMap.{get_by}
use Rattle.ason_base.specs.{Lsps.same_lsp, declared.ids.Lsp.Lsp}
use Rattle.mesh_rules.specs.Legs.{find_leg}
use Rattle.leg_table.specs.LegMaps.{LegSet}
use Rattle.leg_table.proofs.LegMaps.{find-legs}
use Rattle.leg_table.proofs.leg_map.LegMap.get.Goals as goal

pub returns : goal.returns
returns c =
    c.get.ensures.value ∙ ap (λ (l : Lsp). get_by (same_lsp l) c.self.inside.map) c.of.ensures
    ∙ sym (find-legs _ _ c.args.lsp c.self.invariant)
    ∙ ap (λ (v : LegSet). find_leg c.args.lsp v.legs) c.self.view_is
