use Rattle.std.proofs.Common.{sym, ◌∙◌, subst, arith, rules, add-one}
use Rattle.std.specs.Prelude.{Ok}
use Rattle.round_rules.proofs.Places.{all-moved}
use Rattle.round_rules.specs.Phases.{rings_phase}
use Rattle.station.specs.{Fits.station_state, Leads.StationLeads}
use Rattle.station.proofs.{Fetching.{moved-many, none-leads}, Ringing.{DrainedBelow, drained-each, drained-next}, Stepping.sending-none, Working.{moving-then, sending-moves}}
use Rattle.station.proofs.rings.take_rings.Goals as goal

pub loop-place-init : goal.loop-place-init
loop-place-init g c = record {
  within = omega arith;
  many = search (rules, c.len-count.ensures);
  fit = c.requires.fit;
  on = λ r end leads. leads;
  moves = sending-moves _ _ (sending-none (station_state c.args.parts.now));
  drained = all-moved c.args.parts.now.links.items;
}

pub loop-place-preserved : goal.loop-place-preserved
loop-place-preserved g c =
    let xs = c.args.parts.now.links.items in
    let ys = c.loop-place.parts.links.items in
    let m = station_state c.take_ring.new.parts in
    let i = c.loop-place.place in
    record {
      within = omega arith;
      many =
          c.loop-place.invariant.many ∙ sym (moved-many ys m.links c.take_ring.ensures.moves.links);
      fit = c.take_ring.ensures.fit;
      on = λ r end leads.
          c.loop-place.invariant.on r end
          (c.in_ok-take_ring.ensures.on r end (subst (λ k. StationLeads r (rings_phase k) m end) (add-one i) leads));
      moves =
          moving-then (station_state c.args.parts.now) (station_state c.loop-place.parts) m c.loop-place.invariant.moves
          c.take_ring.ensures.moves;
      drained =
          subst (λ k. DrainedBelow k xs m.links) (sym (add-one i))
          (drained-next i xs ys m.links c.loop-place.invariant.drained c.take_ring.ensures.moves.links
          c.in_ok-take_ring.ensures.drained);
    }

pub returns-clause-on : goal.returns-clause-on
returns-clause-on g c =
    let m = station_state c.loop-place.parts in
    c.loop-place.invariant.on (Ok tt) m
    (none-leads m c.loop-place.place (omega (arith, c.loop-place.invariant.many, c.loop-place-test.false)))

pub returns-clause-drained : goal.returns-clause-drained
returns-clause-drained g c =
    let xs = c.args.parts.now.links.items in
    let ys = c.loop-place.parts.links.items in
    drained-each c.loop-place.place xs ys
    (omega (
      arith,
      moved-many xs ys c.loop-place.invariant.moves.links,
      c.loop-place.invariant.many,
      c.loop-place-test.false,
    )) c.loop-place.invariant.drained

pub returns-in_err-take_ring-clause-moves : goal.returns-in_err-take_ring-clause-moves
returns-in_err-take_ring-clause-moves g c =
    moving-then (station_state c.args.parts.now) (station_state c.loop-place.parts)
    (station_state c.take_ring.new.parts)
    c.loop-place.invariant.moves c.take_ring.ensures.moves
