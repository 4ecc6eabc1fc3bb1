use Rattle.std.proofs.Common.{arith}
use Rattle.std.specs.Prelude.{Err, Ok}
use Rattle.round_rules.specs.Phases.{desk_phase}
use Rattle.station.specs.Fits.{station_state}
use Rattle.station.proofs.Stepping.{desk-ends, none-of, passed-leads, sending-none, sending-then}
use Rattle.station.proofs.items.handle_desk.Goals as goal

pub items-init : goal.items-init
items-init g c = record {
  fit = c.requires.fit;
  on = λ r end leads. leads;
  sends = sending-none (station_state c.args.parts.now);
}

pub items-preserved : goal.items-preserved
items-preserved g c = record {
  fit = c.handle_first.ensures.fit;
  on = λ r end leads. c.items.invariant.on r end (c.in_ok-handle_first.ensures.on r end leads);
  sends =
      sending-then (station_state c.args.parts.now) (station_state c.items.parts)
      (station_state c.handle_first.new.parts)
      c.items.invariant.sends c.handle_first.ensures.sends;
}

pub returns-clause-on : goal.returns-clause-on
returns-clause-on g c =
    c.items.invariant.on (Ok tt) (station_state c.items.parts)
    (desk-ends (station_state c.items.parts)
    (none-of c.items.parts.desk.items (omega (arith, c.len.ensures, c.items-test.false))))

pub returns-in_err-handle_first-clause-on : goal.returns-in_err-handle_first-clause-on
returns-in_err-handle_first-clause-on g c =
    let s = station_state c.args.parts.now in
    let m = station_state c.handle_first.new.parts in
    passed-leads c.from_residual.result _ desk_phase s m c.from_residual.ensures.1
    (c.items.invariant.on (Err _) m c.in_err-handle_first.ensures.on)

pub returns-in_err-handle_first-clause-sends : goal.returns-in_err-handle_first-clause-sends
returns-in_err-handle_first-clause-sends g c =
    sending-then (station_state c.args.parts.now) (station_state c.items.parts) (station_state c.handle_first.new.parts)
    c.items.invariant.sends c.handle_first.ensures.sends
