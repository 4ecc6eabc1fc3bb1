use Rattle.std.proofs.Common.{subst}
use Rattle.fleet.specs.Views.{AreUnwatched}
use Rattle.fleet.proofs.Unwatched.{unwatched-but}
use Rattle.fleet.proofs.joining.unmake_all.Goals as goal

pub unmake-requires : goal.unmake-requires
unmake-requires c =
    (unwatched-but c.pop.new.self.items c.in-Some.station (subst AreUnwatched c.in-Some.ensures.items
    c.loop-station.invariant)).1

pub loop-station-preserved : goal.loop-station-preserved
loop-station-preserved c =
    (unwatched-but c.pop.new.self.items c.in-Some.station (subst AreUnwatched c.in-Some.ensures.items
    c.loop-station.invariant)).0
