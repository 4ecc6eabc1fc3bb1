use Rattle.fleet.proofs.{NewFleet.{looks-back, new-lent, new-stands, settled-new}, Unwatched.{back-unwatched, back-whole}}
use Rattle.fleet.proofs.fleet.Fleet.new.Goals as goal

pub look_all-requires : goal.look_all-requires
look_all-requires c =
    new-lent c.args.t.now c.deref-in-Ok.result.now c.in-Ok.seats.items c.deref_mut.result.now
    c.in_ok-stations.stations.items c.deref-in-Ok.ensures.value c.deref_mut.ensures.value c.in-Ok.ensures
    c.in_ok-stations.ensures.new

pub returns-in-Ok-clause-stands : goal.returns-in-Ok-clause-stands
returns-in-Ok-clause-stands c =
    new-stands c.every_start.ensures c.every_look.ensures.stands c.every_look.ensures.tells c.every_look.ensures.begun
    c.args.t.now _ c.in_ok-stations.stations.items c.in-Ok.ensures c.in_ok-stations.ensures.new
    (looks-back c.deref-in-Ok.result.now c.in-Ok.seats.items c.deref_mut.result.now c.in_ok-stations.stations.items
    c.look_all.new.stations _ c.deref-in-Ok.ensures.value c.deref_mut.ensures.value
    (back-whole c.look_all.new.stations c.look_all.ensures.publishers c.deref_mut.ensures.value
    c.in_ok-stations.stations.ok.0) c.look_all.ensures.looks) c.new.ensures.items c.in_ok-network.ensures
    c.new-in-Ok.ensures.items

pub returns-in-Ok-clause-unwatched : goal.returns-in-Ok-clause-unwatched
returns-in-Ok-clause-unwatched c =
    back-unwatched c.look_all.new.stations c.look_all.ensures.publishers c.deref_mut.ensures.value
    c.in_ok-stations.stations.ok.0 c.in_ok-stations.ensures.unwatched

pub invariant_of-result : goal.invariant_of-result
invariant_of-result c =
    settled-new c.deref-in-Ok.result.now c.in-Ok.seats.items c.look_all.new.stations _ c.deref-in-Ok.ensures.value
    (back-whole c.look_all.new.stations c.look_all.ensures.publishers c.deref_mut.ensures.value
    c.in_ok-stations.stations.ok.0) c.look_all.ensures.settled
