use Rattle.std.proofs.Common.{sym, ap, ◌∙◌}
use Rattle.std.specs.Prelude.{Err, Ok}
use Rattle.round_rules.specs.Phases.{due_phase}
use Rattle.station.specs.{Dues.is_first_due, Fits.station_state}
use Rattle.station.proofs.{Freeing.due-ends, Stepping.{passed-leads, sending-none, sending-then}}
use Rattle.station.proofs.dues.free_due.Goals as goal

pub dues-init : goal.dues-init
dues-init g c = record {
  fit = c.requires.fit;
  on = λ r end leads. leads;
  sends = sending-none (station_state c.args.parts.now);
}

pub dues-preserved : goal.dues-preserved
dues-preserved g c = record {
  fit = c.free_first.ensures.fit;
  on = λ r end leads. c.dues.invariant.on r end (c.in_ok-free_first.ensures.on r end leads);
  sends =
      sending-then (station_state c.args.parts.now) (station_state c.dues.parts) (station_state c.free_first.new.parts)
      c.dues.invariant.sends c.free_first.ensures.sends;
}

pub returns-clause-on : goal.returns-clause-on
returns-clause-on g c =
    c.dues.invariant.on (Ok tt) (station_state c.dues.parts)
    (due-ends (station_state c.dues.parts)
    (ap is_first_due (sym c.deref.ensures.value) ∙ sym c.is_first_due.ensures ∙ c.dues-test.false))

pub returns-in_err-free_first-clause-on : goal.returns-in_err-free_first-clause-on
returns-in_err-free_first-clause-on g c =
    let s = station_state c.args.parts.now in
    let m = station_state c.free_first.new.parts in
    passed-leads c.from_residual.result _ due_phase s m c.from_residual.ensures.1
    (c.dues.invariant.on (Err _) m c.in_err-free_first.ensures.on)

pub returns-in_err-free_first-clause-sends : goal.returns-in_err-free_first-clause-sends
returns-in_err-free_first-clause-sends g c =
    sending-then (station_state c.args.parts.now) (station_state c.dues.parts) (station_state c.free_first.new.parts)
    c.dues.invariant.sends c.free_first.ensures.sends
