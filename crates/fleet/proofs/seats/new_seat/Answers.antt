use Rattle.std.proofs.Common.{◌+◌, Global, Vec, ap, arith, subst, sym, ◌∙◌}
use Rattle.fleet.specs.declared.seats.End.{End}
use Rattle.fleet.proofs.{NewSeats.{AreEndsOf, end-found, end-none, new-seat}, seats.new_seat.Goals.{in-Some+in_ok-push, in_default}}
use Rattle.fleet.proofs.seats.new_seat.Goals as goal

pub loop-station-preserved : goal.loop-station-preserved
loop-station-preserved c = record {
  within = omega (arith, c.loop-station-test.true);
  ends = λ t new.
      let place = c.loop-station.station in
      let was = c.loop-station.invariant.ends t new in
      elim c.match-link_to.branch [
        | in-Some+in_ok-push w ↦
            subst (AreEndsOf t (place + 1) c.args.id)
            (sym (ap (λ (v : Vec End Global). v.items) w.ends-is ∙ w.in_ok-push.ensures.items))
            (end-found t c.args.stations.now c.loop-station.ends.items place w.in-Some.link c.args.id
            c.index-stations-station.result new c.loop-station-test.true c.index-stations-station.is
            (sym c.link_to.ensures ∙ w.in-Some.is) was)
        | in_default w ↦
            subst (AreEndsOf t (place + 1) c.args.id) (sym (ap (λ (v : Vec End Global). v.items) w.ends-is))
            (end-none t c.args.stations.now c.loop-station.ends.items place c.args.id
            c.index-stations-station.result new
            c.loop-station-test.true c.index-stations-station.is (sym c.link_to.ensures ∙ w.in_default.is) was)
      ];
}

pub returns-clause-seat : goal.returns-clause-seat
returns-clause-seat c t new =
    new-seat t c.args.stations.now c.loop-station.station _ new
    (omega (arith, c.loop-station-test.false, c.loop-station.invariant.within)) (c.loop-station.invariant.ends t new)
