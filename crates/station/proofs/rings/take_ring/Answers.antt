use Rattle.std.proofs.{Common.{sym, refl, ap, ◌∙◌, subst, arith}, lemmas.Result.err_from_is_err_and}
use Rattle.std.specs.Prelude.{Err, slice_get}
use Rattle.round_rules.proofs.Places.{moved-peers}
use Rattle.station.specs.{Fits.station_state, Leads.GoesPast}
use Rattle.station.proofs.{Fetching.{drained-last, fetched-goes, fetched-moves, fetched-parts, moved-within, place-within, ring-done, ring-starts, with_station_links}, Ringing.{drained-many, drained-none, moved-fetch, moved-take}, Stepping.sending-none, Working.{moving-then, sending-moves}}
use Rattle.station.proofs.rings.take_ring.Goals as goal

-- nothing is known to stand there

pub returns-then-eq-clause-drained : goal.returns-then-eq-clause-drained
returns-then-eq-clause-drained g c =
    let links = c.args.parts.now.links.items in
    drained-many c.args.place 0 links links (moved-within c.args.place links c.requires.place)
    (λ l at. let known = c.known_at-known.ensures l at in omega (arith, known, c.if-known-eq0.true))

pub returns-then-eq-clause-on : goal.returns-then-eq-clause-on
unfolding returns-then-eq-clause-drained
returns-then-eq-clause-on g c =
    let s = station_state c.args.parts.now in
    ring-done c.args.place s s (returns-then-eq-clause-drained g c) (λ first r end leads. leads)

pub returns-then-eq-clause-moves : goal.returns-then-eq-clause-moves
returns-then-eq-clause-moves g c = sending-moves _ _ (sending-none (station_state c.args.parts.now))

-- the frames

pub loop-frame-init : goal.loop-frame-init
loop-frame-init g c = record {
  within = omega arith;
  fit = c.requires.fit;
  on = λ first r end leads. leads;
  moves = sending-moves _ _ (sending-none (station_state c.args.parts.now));
  taken = moved-within c.args.place c.args.parts.now.links.items c.requires.place;
  from = c.peer_at-from.ensures;
}

pub head_at-requires : goal.head_at-requires
head_at-requires g c =
    let t = c.loop-frame.invariant.taken in
    place-within c.args.place c.loop-frame.parts.links.items t.new t.is

pub returns-in-None-clause-drained : goal.returns-in-None-clause-drained
returns-in-None-clause-drained g c =
    drained-none c.args.place _ c.args.parts.now.links.items c.head_at.new.links.items
    (moved-fetch c.args.place _ c.args.parts.now.links.items c.loop-frame.parts.links.items c.head_at.new.links.items
    c.loop-frame.invariant.taken c.head_at.ensures.fetched) c.in-None.ensures.head

pub returns-in-None-clause-on : goal.returns-in-None-clause-on
unfolding returns-in-None-clause-drained
returns-in-None-clause-on g c =
    let s = station_state c.loop-frame.parts in
    let m = with_station_links s c.head_at.new.links.items in
    ring-done c.args.place (station_state c.args.parts.now) m (returns-in-None-clause-drained g c)
    (λ first r end leads.
    c.loop-frame.invariant.on first r end
    (fetched-goes s c.args.place c.head_at.new.links.items c.head_at.ensures.fetched first r end leads))

pub returns-in-None-clause-moves : goal.returns-in-None-clause-moves
returns-in-None-clause-moves g c =
    moving-then (station_state c.args.parts.now) (station_state c.loop-frame.parts) _ c.loop-frame.invariant.moves
    (fetched-moves (station_state c.loop-frame.parts) c.args.place c.head_at.new.links.items c.head_at.ensures.fetched)

pub returns-in-None-clause-fit : goal.returns-in-None-clause-fit
returns-in-None-clause-fit g c =
    fetched-parts c.loop-frame.parts _ c.args.place c.head_at.ensures.fetched refl refl c.loop-frame.invariant.fit

pub take_frame-requires-clause-fit : goal.take_frame-requires-clause-fit
take_frame-requires-clause-fit g c κs within =
    fetched-parts c.loop-frame.parts _ c.args.place c.head_at.ensures.fetched refl refl c.loop-frame.invariant.fit

pub take_frame-requires-clause-ahead : goal.take_frame-requires-clause-ahead
take_frame-requires-clause-ahead g c κs within =
    let s = station_state c.loop-frame.parts in
    let m = fetched-moves s c.args.place c.head_at.new.links.items c.head_at.ensures.fetched in
    record {
      head = c.in-Some.ensures.head;
      from =
          ap (λ ns. slice_get ns c.args.place) (moved-peers s.links c.head_at.new.links.items m.links)
          ∙ c.loop-frame.invariant.from;
    }

pub returns-in_err-take_frame-in-Some-clause-on : goal.returns-in_err-take_frame-in-Some-clause-on
returns-in_err-take_frame-in-Some-clause-on g c =
    let s = station_state c.args.parts.now in
    let m = station_state c.take_frame.new.parts in
    let p = err_from_is_err_and c.from_residual.result c.from_residual.ensures.1 in
    let t = c.loop-frame.invariant.taken in
    subst (λ r. GoesPast r c.args.place s m) (sym (p.1 ∙ ap Err p.2))
    (ring-starts c.args.place t.old (Err _) s m t.was
    (c.loop-frame.invariant.on t.old (Err _) m
    (fetched-goes (station_state c.loop-frame.parts) c.args.place c.head_at.new.links.items c.head_at.ensures.fetched
    t.old
    (Err _) m (c.in_err-take_frame-in-Some.ensures.on t.old))))

pub returns-in_err-take_frame-in-Some-clause-moves :
    goal.returns-in_err-take_frame-in-Some-clause-moves
returns-in_err-take_frame-in-Some-clause-moves g c =
    let s = station_state c.loop-frame.parts in
    let mid = with_station_links s c.head_at.new.links.items in
    moving-then (station_state c.args.parts.now) s (station_state c.take_frame.new.parts) c.loop-frame.invariant.moves
    (moving-then s mid (station_state c.take_frame.new.parts)
    (fetched-moves s c.args.place c.head_at.new.links.items c.head_at.ensures.fetched) c.take_frame.ensures.moves)

pub loop-frame-preserved : goal.loop-frame-preserved
loop-frame-preserved g c =
    let first = c.args.parts.now.links.items in
    let s = station_state c.loop-frame.parts in
    let links = c.head_at.new.links.items in
    let mid = with_station_links s links in
    let m = station_state c.take_frame.new.parts in
    let fetched = fetched-moves s c.args.place links c.head_at.ensures.fetched in
    record {
      within = omega arith;
      fit = c.take_frame.ensures.fit;
      on = λ before r end leads.
          c.loop-frame.invariant.on before r end
          (fetched-goes s c.args.place links c.head_at.ensures.fetched before r end
          (c.in_ok-take_frame-in-Some.ensures.on before r end leads));
      moves =
          moving-then (station_state c.args.parts.now) s m c.loop-frame.invariant.moves
          (moving-then s mid m fetched c.take_frame.ensures.moves);
      taken =
          moved-take c.args.place c.loop-frame._frame first links m.links
          (moved-fetch c.args.place c.loop-frame._frame first s.links links c.loop-frame.invariant.taken
          c.head_at.ensures.fetched) c.in_ok-take_frame-in-Some.ensures.taken;
      from =
          ap (λ ns. slice_get ns c.args.place)
          (moved-peers links m.links c.take_frame.ensures.moves.links
          ∙ moved-peers s.links links fetched.links)
          ∙ c.loop-frame.invariant.from;
    }

pub returns-clause-drained : goal.returns-clause-drained
returns-clause-drained g c =
    drained-last c.args.place c.known_at-known.result _ c.max-count.result c.loop-frame._frame
    c.args.parts.now.links.items c.loop-frame.parts.links.items c.loop-frame.invariant.taken c.known_at-known.ensures
    c.max-count.ensures
    (omega (arith, c.loop-frame-test.false))

pub returns-clause-on : goal.returns-clause-on
unfolding returns-clause-drained
returns-clause-on g c =
    ring-done c.args.place (station_state c.args.parts.now) (station_state c.loop-frame.parts)
    (returns-clause-drained g c)
    c.loop-frame.invariant.on
