use Rattle.std.proofs.{Common.{◌≡◌, ◌+◌, length, map, sym, ap, ◌∙◌, subst, arith}, lemmas.List.with_items_is, lemmas.Option.slice_get_within}
use Rattle.std.specs.{Prelude.{None, position}, Vec.with_items}
use Rattle.ason_base.specs.Network.{Network}
use Rattle.ason_base.proofs.Results.{on_both, on_err, on_ok}
use Rattle.world_rules.specs.WorldRuns.{is_world_channel}
use Rattle.round_rules.proofs.Nodes.{joins-nodes}
use Rattle.fleet.specs.{Commands.is_seat, Noises.{HasLine, sent_on}, Standing.FleetState, Views.shown_by}
use Rattle.fleet.proofs.{Channels.sent-is-count, Finding.{IsFirstFound, first-at, seat-lost}, KeptSeats.{lent-same, line-links, station_links, rest-kept, seats-count, settled-back}, Lines.line-stands}
use Rattle.fleet.proofs.fleet.Fleet.disturb.Goals as goal

pub sent_on-sent-requires : goal.sent_on-sent-requires
sent_on-sent-requires c =
    ap length c.deref-2.ensures.value
    ∙ seats-count c.self.inside.seats.items c.self.inside.stations.items c.self.invariant
    ∙ sym (ap length c.deref.ensures.value)

pub put_line-requires : goal.put_line-requires
put_line-requires c =
    let seats = c.deref-3.result.now in
    let place = c.in-Some-Some.place in
    let first : IsFirstFound (is_seat c.args.line.now.to) seats place =
    first-at (is_seat c.args.line.now.to) seats place (sym c.place_of.ensures ∙ c.in-Some-Some.is-1) in
    omega (
      arith,
      slice_get_within seats place first.item first.there,
      ap length c.deref-3.ensures.value,
      seats-count c.self.inside.seats.items c.self.inside.stations.items c.self.invariant,
      ap length c.deref_mut.ensures.value,
    )

pub invariant_of-self : goal.invariant_of-self
invariant_of-self c =
    let new = c.put_line.new.stations in
    settled-back c.self.inside.seats.items c.self.inside.stations.items c.deref_mut.result.now new
    (with_items c.self.inside.stations new).items c.self.invariant c.deref_mut.ensures.value
    (on_both c.put_line.result _ _ (map station_links new ≡ map station_links c.deref_mut.result.now)
    (line-links _ c.in-Some-Some.place c.deref_mut.result.now new) (λ same. ap (map station_links) same)
    c.put_line.ensures.ok c.put_line.ensures.err)
    (with_items_is c.self.inside.stations new (omega (arith, c.put_line.auto.stations, c.deref_mut.ensures.len)))

pub returns-in-Some-Some-clause-on : goal.returns-in-Some-Some-clause-on
returns-in-Some-Some-clause-on c =
    let f = c.args.self.now in
    let line = c.args.line.now in
    let sent = c.in-Some-Some.sent in
    let place = c.in-Some-Some.place in
    let new = c.put_line.new.stations in
    let seats = ap (λ (x : FleetState). x.seats) c.self.view_is in
    let stations = ap (λ (x : FleetState). x.stations) c.self.view_is in
    let there = c.deref.ensures.value ∙ seats in
    let them = c.deref-2.ensures.value ∙ stations in
    on_ok c.put_line.result _ _
    (λ has t lines r s. line-stands t lines line r f _ sent place s
    (ap (λ (k : Network). is_world_channel k line.from line.to) (sym s.network) ∙ c.requires.near)
    ((λ i. sent_on (sym there i) (sym them i) line.from line.to) ∙ sym c.sent_on-sent.ensures.sent
    ∙ c.in-Some-Some.is-0)
    (ap (position (is_seat line.to)) (sym (c.deref-3.ensures.value ∙ seats)) ∙ sym c.place_of.ensures
    ∙ c.in-Some-Some.is-1)
    (subst (λ xs. HasLine (record line { k = sent + line.k }) place f.stations xs)
    (sym (with_items_is c.self.inside.stations new (omega (arith, c.put_line.auto.stations, c.deref_mut.ensures.len))))
    (subst (λ xs. HasLine (record line { k = sent + line.k }) place xs new) (c.deref_mut.ensures.value ∙ stations)
    has)) seats (rest-kept c.self.view_is)) c.put_line.ensures.ok

pub returns-in-Some-Some-clause-err : goal.returns-in-Some-Some-clause-err
returns-in-Some-Some-clause-err c =
    on_err c.put_line.result _ _ (λ same. lent-same c.self.view_is
    (with_items_is c.self.inside.stations c.put_line.new.stations (omega
    (arith, c.put_line.auto.stations, c.deref_mut.ensures.len)) ∙ same ∙ c.deref_mut.ensures.value))
    c.put_line.ensures.err

pub returns-in_default-clause-on : goal.returns-in_default-clause-on
returns-in_default-clause-on c t lines r s =
    let line = c.args.line.now in
    absurd (seat-lost t c.args.self.now.seats line.to s.seats
    (ap (position (is_seat line.to)) (sym (c.deref-3.ensures.value ∙ ap (λ (x : FleetState). x.seats) c.self.view_is))
    ∙ sym c.place_of.ensures ∙ c.in_default.is-1)
    (joins-nodes t line.from line.to (ap (λ (k : Network). is_world_channel k line.from line.to) (sym s.network)
    ∙ c.requires.near)).to)

pub returns-in_default-2-clause-on : goal.returns-in_default-2-clause-on
returns-in_default-2-clause-on c t lines r s =
    let line = c.args.line.now in
    let there = c.deref.ensures.value ∙ ap (λ (x : FleetState). x.seats) c.self.view_is in
    let them = c.deref-2.ensures.value ∙ ap (λ (x : FleetState). x.stations) c.self.view_is in
    let none : sent_on c.args.self.now.seats c.args.self.now.stations line.from line.to ≡ None =
    (λ i. sent_on (sym there i) (sym them i) line.from line.to) ∙ sym c.sent_on-sent.ensures.sent
    ∙ c.in_default.is-0 in
    absurd (cc (
      none,
      sent-is-count t lines c.args.self.now r s line.from line.to
          (ap (λ (k : Network). is_world_channel k line.from line.to) (sym s.network) ∙ c.requires.near),
    ))

pub returns-in-Some-Some-clause-shown : goal.returns-in-Some-Some-clause-shown
returns-in-Some-Some-clause-shown c =
    let new = c.put_line.new.stations in
    ap shown_by (with_items_is c.self.inside.stations new (omega
    (arith, c.put_line.auto.stations, c.deref_mut.ensures.len)))
    ∙ c.put_line.ensures.shown ∙ ap shown_by c.deref_mut.ensures.value
    ∙ ap (λ (x : FleetState). shown_by x.stations) c.self.view_is
