use Rattle.std.proofs.Common.{subst}
use Rattle.fleet.specs.Joining.{AreNew}
use Rattle.fleet.proofs.Unwatched.{back-unwatched, back-whole}
use Rattle.fleet.proofs.joining.new_stations.Goals as goal

pub unmake_all-requires : goal.unmake_all-requires
unmake_all-requires c =
    back-unwatched c.join_all.new.stations c.join_all.ensures.publishers c.deref_mut.ensures.value
    c.in_ok-stations.stations.ok.0 c.in_ok-stations.ensures.unwatched

pub returns-in-Ok-clause-new : goal.returns-in-Ok-clause-new
returns-in-Ok-clause-new c =
    subst (AreNew c.args.t.now) (back-whole c.join_all.new.stations c.join_all.ensures.publishers
    c.deref_mut.ensures.value c.in_ok-stations.stations.ok.0) c.in-Ok.ensures.new

pub returns-in-Ok-clause-unwatched : goal.returns-in-Ok-clause-unwatched
returns-in-Ok-clause-unwatched c =
    back-unwatched c.join_all.new.stations c.join_all.ensures.publishers c.deref_mut.ensures.value
    c.in_ok-stations.stations.ok.0 c.in_ok-stations.ensures.unwatched
