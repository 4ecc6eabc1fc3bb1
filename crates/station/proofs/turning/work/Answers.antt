use Rattle.std.specs.Prelude.{Err, Result}
use Rattle.round_rules.specs.{Phases.{from_desk, turn_phase}, States.StationState}
use Rattle.station.specs.{declared.halts.Halt.Halt, Fits.station_state, Leads.{IsSending, StationLeads}}
use Rattle.station.proofs.{Stepping.{passed-leads, sending-then}, Working.{desk-stops, desk-then, drained-after, due-stops, due-then, moving-then, sending-moves, tick-stops, tick-then}, turning.work.Goals.After-handle_desk}
use Rattle.station.proofs.turning.work.Given as given
use Rattle.station.proofs.turning.work.Goals as goal

-- where the desk and the rings lead is where the turn leads
desk-on : (g : given.Over) (c : After-handle_desk g) (r : Result (Unit {0}) Halt) (end : StationState) →
    StationLeads r from_desk (station_state c.free_due.new.parts) end →
    StationLeads r (turn_phase c.args.tick) (station_state c.args.parts.now) end
desk-on g c r end leads =
    let ticked = station_state c.tick.new.parts in
    tick-then c.args.tick (station_state c.args.parts.now) ticked end r c.in_ok-tick.ensures.on c.tick.ensures.sends
    c.in_ok-tick.ensures.held
    (due-then ticked (station_state c.free_due.new.parts) end r c.in_ok-free_due.ensures.on c.free_due.ensures.sends
    leads)

pub returns-clause-on : goal.returns-clause-on
returns-clause-on g c =
    let m = station_state c.take_rings.new.parts in
    let r = c.take_rings.result in
    desk-on g (goal.at.returns-clause-on g c).After-handle_desk r m
    (desk-then (station_state c.free_due.new.parts) (station_state c.handle_desk.new.parts) m r
    c.in_ok-handle_desk.ensures.on
    c.handle_desk.ensures.sends c.take_rings.ensures.on)

-- what was sent before the rings were emptied
sent : (g : given.Over) (c : After-handle_desk g) →
    IsSending (station_state c.args.parts.now) (station_state c.handle_desk.new.parts)
sent g c =
    let handled = station_state c.handle_desk.new.parts in
    sending-then (station_state c.args.parts.now) (station_state c.tick.new.parts) handled c.tick.ensures.sends
    (sending-then (station_state c.tick.new.parts) (station_state c.free_due.new.parts) handled c.free_due.ensures.sends
    c.handle_desk.ensures.sends)

pub returns-clause-drained : goal.returns-clause-drained
returns-clause-drained g c =
    drained-after c.take_rings.result c.args.parts.now.links.items c.handle_desk.new.parts.links.items
    c.take_rings.new.parts.links.items (sent g (goal.at.returns-clause-drained g c).After-handle_desk).links
    c.take_rings.ensures.drained

pub returns-clause-moves : goal.returns-clause-moves
returns-clause-moves g c =
    let s = station_state c.args.parts.now in
    let handled = station_state c.handle_desk.new.parts in
    moving-then s handled (station_state c.take_rings.new.parts)
    (sending-moves s handled (sent g (goal.at.returns-clause-moves g c).After-handle_desk)) c.take_rings.ensures.moves

pub returns-in_err-tick-clause-on : goal.returns-in_err-tick-clause-on
returns-in_err-tick-clause-on g c =
    let s = station_state c.args.parts.now in
    let m = station_state c.tick.new.parts in
    passed-leads c.from_residual.result _ (turn_phase c.args.tick) s m c.from_residual.ensures.1
    (tick-stops c.args.tick s m _ c.in_err-tick.ensures.on c.tick.ensures.sends)

pub returns-in_err-tick-clause-moves : goal.returns-in_err-tick-clause-moves
returns-in_err-tick-clause-moves g c =
    sending-moves (station_state c.args.parts.now) (station_state c.tick.new.parts) c.tick.ensures.sends

pub returns-in_err-free_due-clause-on : goal.returns-in_err-free_due-clause-on
returns-in_err-free_due-clause-on g c =
    let s = station_state c.args.parts.now in
    let ticked = station_state c.tick.new.parts in
    let m = station_state c.free_due.new.parts in
    passed-leads c.from_residual-in_err-free_due.result _ (turn_phase c.args.tick) s m
    c.from_residual-in_err-free_due.ensures.1
    (tick-then c.args.tick s ticked m (Err _) c.in_ok-tick.ensures.on c.tick.ensures.sends c.in_ok-tick.ensures.held
    (due-stops ticked m _ c.in_err-free_due.ensures.on c.free_due.ensures.sends))

pub returns-in_err-free_due-clause-moves : goal.returns-in_err-free_due-clause-moves
returns-in_err-free_due-clause-moves g c =
    let s = station_state c.args.parts.now in
    let ticked = station_state c.tick.new.parts in
    let m = station_state c.free_due.new.parts in
    sending-moves s m (sending-then s ticked m c.tick.ensures.sends c.free_due.ensures.sends)

pub returns-in_err-handle_desk-clause-on : goal.returns-in_err-handle_desk-clause-on
returns-in_err-handle_desk-clause-on g c =
    let m = station_state c.handle_desk.new.parts in
    passed-leads c.from_residual-in_err-handle_desk.result _ (turn_phase c.args.tick) (station_state c.args.parts.now) m
    c.from_residual-in_err-handle_desk.ensures.1
    (desk-on g (goal.at.returns-in_err-handle_desk-clause-on g c).After-handle_desk (Err _) m
    (desk-stops (station_state c.free_due.new.parts) m _ c.in_err-handle_desk.ensures.on c.handle_desk.ensures.sends))

pub returns-in_err-handle_desk-clause-moves : goal.returns-in_err-handle_desk-clause-moves
returns-in_err-handle_desk-clause-moves g c =
    sending-moves (station_state c.args.parts.now) (station_state c.handle_desk.new.parts)
    (sent g (goal.at.returns-in_err-handle_desk-clause-moves g c).After-handle_desk)
