use Rattle.std.proofs.{Common.{◌≡◌, ◌≤◌, ◌∷◌, ◌++◌, [], length, map, sym, ap, ◌∙◌, subst, arith}, lemmas.List.with_items_is, lemmas.Option.slice_get_within}
use Rattle.std.specs.{Prelude.position, List.AllByRecursion, Vec.with_items}
use Rattle.ason_base.specs.{declared.commands.Command.Command, declared.commands.DeskItem.TheVariants.Order}
use Rattle.ason_base.proofs.Results.{on_err_always}
use Rattle.round_rules.specs.States.{StationState}
use Rattle.fleet.specs.{Commands.{but_room, is_seat}, Posting.{HaveRoom, TakesOrder, order_for, post_of}, Standing.FleetState, Views.shown_by}
use Rattle.fleet.proofs.{Finding.{IsFirstFound, first-at, seat-lost}, KeptSeats.{order-links, roomed-same, seats-count, settled-back, settled-roomed}, Posted.groups-left, Taking.{order-takes, room-clocks, stamp-above, take-roomed}, Unwatched.{order-shown, room-shown}}
use Rattle.fleet.proofs.fleet.Fleet.order.Goals as goal

pub invariant_of-self : goal.invariant_of-self
invariant_of-self c =
    settled-roomed c.self.inside.seats.items c.self.inside.stations.items c.deref_mut.result.now c.list_post.new.stations
    (with_items c.self.inside.stations c.list_post.new.stations).items c.self.invariant c.deref_mut.ensures.value
    c.list_post.ensures.same (with_items_is c.self.inside.stations c.list_post.new.stations
    (omega (arith, c.list_post.auto.stations, c.deref_mut.ensures.len)))

pub take_order-requires : goal.take_order-requires
take_order-requires c =
    let mid = c.list_post.new.stations in
    let is : c.deref_mut-in-Some.result.now ≡ mid =
    c.deref_mut-in-Some.ensures.value
    ∙ with_items_is c.self.inside.stations mid (omega (arith, c.list_post.auto.stations, c.deref_mut.ensures.len)) in
    let first : IsFirstFound (is_seat c.args.ingress) c.deref.result.now c.in-Some.place =
    first-at (is_seat c.args.ingress) c.deref.result.now c.in-Some.place (sym c.in-Some.ensures) in
    record {
      within = omega (
        arith,
        ap length is,
        c.list_post.auto.stations,
        c.deref_mut.ensures.len,
        c.self.inside.stations.ok.0,
        seats-count c.self.inside.seats.items c.self.inside.stations.items c.self.invariant,
        ap length c.deref.ensures.value,
        slice_get_within c.deref.result.now c.in-Some.place first.item first.there,
      );
      room = subst (HaveRoom 1) (sym is) c.in_ok-list_post-in-Some.ensures.room;
      clocks =
          subst (AllByRecursion (λ (s : StationState). s.clock ≤ c.args.stamp)) (sym is)
          (room-clocks c.args.stamp c.deref_mut.result.now mid c.list_post.ensures.same
          (stamp-above c.args.stamp c.deref_mut.result.now c.args.self.now.stations
          (c.deref_mut.ensures.value ∙ ap (λ (f : FleetState). f.stations) c.self.view_is) c.requires.stamp));
    }

pub invariant_of-self-in-Some : goal.invariant_of-self-in-Some
invariant_of-self-in-Some c =
    let mid = c.list_post.new.stations in
    let vec = with_items c.self.inside.stations mid in
    let new = c.take_order.new.stations in
    let is : vec.items ≡ mid =
    with_items_is c.self.inside.stations mid (omega (arith, c.list_post.auto.stations, c.deref_mut.ensures.len)) in
    settled-back c.self.inside.seats.items vec.items c.deref_mut-in-Some.result.now new (with_items vec new).items
    (settled-roomed c.self.inside.seats.items c.self.inside.stations.items c.deref_mut.result.now mid vec.items
    c.self.invariant c.deref_mut.ensures.value c.list_post.ensures.same is)
    c.deref_mut-in-Some.ensures.value
    (order-links c.in-Some.place (Order c.in_ok-copy-in-Some.field-0) c.args.stamp c.deref_mut-in-Some.result.now new
    c.take_order.ensures)
    (with_items_is vec new (omega (arith, c.take_order.auto.stations, c.deref_mut-in-Some.ensures.len)))

pub returns-in-None-clause-on : goal.returns-in-None-clause-on
returns-in-None-clause-on c t valid are known =
    absurd (seat-lost t c.args.self.now.seats c.args.ingress are
    (ap (position (is_seat c.args.ingress)) (sym (ap (λ (f : FleetState). f.seats) c.self.view_is)
    ∙ sym c.deref.ensures.value) ∙ sym c.in-None.ensures) known)

pub returns-in_ok-list_post-in-Some-clause-on : goal.returns-in_ok-list_post-in-Some-clause-on
returns-in_ok-list_post-in-Some-clause-on c t valid are known =
    let f = c.args.self.now in
    let n = c.args.ingress in
    let command = c.args.command.now in
    let place = c.in-Some.place in
    let mid = c.list_post.new.stations in
    let vec = with_items c.self.inside.stations mid in
    let new = c.take_order.new.stations in
    let is : c.deref_mut-in-Some.result.now ≡ mid =
    c.deref_mut-in-Some.ensures.value
    ∙ with_items_is c.self.inside.stations mid (omega (arith, c.list_post.auto.stations, c.deref_mut.ensures.len)) in
    let last : (with_items vec new).items ≡ new =
    with_items_is vec new (omega (arith, c.take_order.auto.stations, c.deref_mut-in-Some.ensures.len)) in
    let seats : c.deref.result.now ≡ f.seats =
    c.deref.ensures.value ∙ ap (λ (x : FleetState). x.seats) c.self.view_is in
    let first : IsFirstFound (is_seat n) f.seats place =
    first-at (is_seat n) f.seats place (ap (position (is_seat n)) (sym seats) ∙ sym c.in-Some.ensures) in
    let take : TakesOrder place (Order command) c.args.stamp mid new =
    subst (λ (k : Command). TakesOrder place (Order k) c.args.stamp mid new) c.in_ok-copy-in-Some.ensures
    (subst (λ xs. TakesOrder place (Order c.in_ok-copy-in-Some.field-0) c.args.stamp xs new) is c.take_order.ensures) in
    record {
      stations =
          take-roomed (order_for n command) c.args.stamp f.seats f.stations mid (with_items vec new).items
          (c.list_post.ensures.same ∙ ap (map but_room) (c.deref_mut.ensures.value
          ∙ ap (λ (x : FleetState). x.stations) c.self.view_is))
          (order-takes t valid f.seats are n command c.args.stamp place first.item first.there first.passes mid take.put
          (with_items vec new).items take.is_put (last ∙ take.clocks));
      seats = ap (λ (x : FleetState). x.seats) c.self.view_is;
      posts =
          c.in_ok-list_post-in-Some.ensures.posts
          ∙ ap (λ (x : FleetState). x.posts ++ post_of c.args.stamp command ∷ []) c.self.view_is;
      network = ap (λ (x : FleetState). x.network) c.self.view_is;
      failed = ap (λ (x : FleetState). x.failed) c.self.view_is ∙ sym (groups-left command n f.failed c.requires.call);
    }

pub returns-in_err-list_post-in-Some-clause-shown : goal.returns-in_err-list_post-in-Some-clause-shown
returns-in_err-list_post-in-Some-clause-shown c =
    let mid = c.list_post.new.stations in
    ap shown_by (with_items_is c.self.inside.stations mid (omega
    (arith, c.list_post.auto.stations, c.deref_mut.ensures.len)))
    ∙ room-shown c.deref_mut.result.now mid c.list_post.ensures.same ∙ ap shown_by c.deref_mut.ensures.value
    ∙ ap (λ (x : FleetState). shown_by x.stations) c.self.view_is

pub returns-in_ok-list_post-in-Some-clause-shown : goal.returns-in_ok-list_post-in-Some-clause-shown
returns-in_ok-list_post-in-Some-clause-shown c =
    let mid = c.list_post.new.stations in
    let vec = with_items c.self.inside.stations mid in
    let new = c.take_order.new.stations in
    let is : vec.items ≡ mid =
    with_items_is c.self.inside.stations mid (omega (arith, c.list_post.auto.stations, c.deref_mut.ensures.len)) in
    ap shown_by (with_items_is vec new (omega
    (arith, c.take_order.auto.stations, c.deref_mut-in-Some.ensures.len)))
    ∙ order-shown c.in-Some.place (Order c.in_ok-copy-in-Some.field-0) c.args.stamp c.deref_mut-in-Some.result.now
    new c.take_order.ensures
    ∙ ap shown_by (c.deref_mut-in-Some.ensures.value ∙ is)
    ∙ room-shown c.deref_mut.result.now mid c.list_post.ensures.same
    ∙ ap shown_by c.deref_mut.ensures.value ∙ ap (λ (x : FleetState). shown_by x.stations) c.self.view_is

pub returns-in_err-list_post-in-Some-clause-err : goal.returns-in_err-list_post-in-Some-clause-err
returns-in_err-list_post-in-Some-clause-err c =
    on_err_always c.from_residual-in_err-list_post-in-Some.result _ (roomed-same c.self.view_is
    (ap (map but_room) (with_items_is c.self.inside.stations c.list_post.new.stations (omega
    (arith, c.list_post.auto.stations, c.deref_mut.ensures.len))) ∙ c.list_post.ensures.same
    ∙ ap (map but_room) c.deref_mut.ensures.value) c.in_err-list_post-in-Some.ensures.err)
