use Rattle.std.proofs.Common.{◌∙◌, ap, slice_get, sym}
use Rattle.leg_table.specs.LegMaps.{LegSet}
use Rattle.leg_table.proofs.LegMaps.{each-there, leg-at, no-leg-at}
use Rattle.leg_table.proofs.leg_map.LegMap.leg_at.Goals as goal

pub returns-in-None : goal.returns-in-None
returns-in-None c =
    no-leg-at _ _ c.args.place (each-there _ _ c.self.invariant)
    (ap (λ xs. slice_get xs c.args.place) (sym c.deref.ensures.value) ∙ sym c.in-None.ensures)
    ∙ ap (λ (v : LegSet). slice_get v.legs c.args.place) c.self.view_is

pub returns-in-Some : goal.returns-in-Some
returns-in-Some c =
    c.get.ensures.value
    ∙ leg-at _ _ c.args.place (each-there _ _ c.self.invariant) c.in-Some.key.now
    (ap (λ xs. slice_get xs c.args.place) (sym c.deref.ensures.value) ∙ sym c.in-Some.ensures)
    ∙ ap (λ (v : LegSet). slice_get v.legs c.args.place) c.self.view_is
