use Rattle.std.proofs.Common.{◌≡◌, ◌∙◌, ap, length, rules}
use Rattle.leg_table.specs.LegMaps.{LegSet}
use Rattle.leg_table.proofs.LegMaps.{count-legs, each-there}
use Rattle.leg_table.proofs.leg_map.LegMap.count.Goals as goal

pub returns : goal.returns
returns c =
    let n : c.len.result ≡ length c.self.inside.order.items = search rules in
    n ∙ count-legs _ _ (each-there _ _ c.self.invariant) ∙ ap (λ (v : LegSet). length v.legs) c.self.view_is
