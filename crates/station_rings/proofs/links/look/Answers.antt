use Rattle.std.proofs.Common.{◌≤◌, ◌+◌, length, sym, subst}
use Rattle.ason_base.specs.declared.limits.TheConstants.{MOST_FRAMES}
use Rattle.rtrb.specs.Ring.{received}
use Rattle.station_rings.specs.LinkStates.{LinkState, gone_of}
use Rattle.station_rings.proofs.links.look.Goals as goal

pub hand_over-requires-clause-few : goal.hand_over-requires-clause-few
hand_over-requires-clause-few c =
    subst
    (λ (l : LinkState). length c.b.inside.early + length (gone_of l) ≤ MOST_FRAMES + length (received c.b.inside.into))
    (sym c.a.view_is)
    (subst (λ (l : LinkState). length l.early + length (gone_of c.args.a.now) ≤ MOST_FRAMES + length (received l.into))
    (sym c.b.view_is) c.requires.few.there)
