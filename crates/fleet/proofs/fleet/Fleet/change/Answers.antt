use Rattle.std.proofs.{Common.{◌≡◌, ◌≤◌, ◌∷◌, ◌++◌, [], length, map, sym, ap, ◌∙◌, subst, arith}, lemmas.List.with_items_is}
use Rattle.std.specs.{List.AllByRecursion, Vec.with_items}
use Rattle.ason_base.proofs.Results.{on_err_always}
use Rattle.mesh_rules.specs.Failures.{failed_after}
use Rattle.round_rules.specs.States.{StationState}
use Rattle.fleet.specs.{Commands.but_room, Posting.{HaveRoom, news_for, post_of}, Standing.FleetState, Views.shown_by}
use Rattle.fleet.proofs.{KeptSeats.{items-links, roomed-count, roomed-same, settled-back, settled-roomed}, Taking.{room-clocks, stamp-above, take-roomed, take-same}, Unwatched.{items-shown, room-shown}}
use Rattle.fleet.proofs.fleet.Fleet.change.Goals as goal

pub invariant_of-self : goal.invariant_of-self
invariant_of-self c =
    settled-roomed c.self.inside.seats.items c.self.inside.stations.items c.deref_mut.result.now c.list_post.new.stations
    (with_items c.self.inside.stations c.list_post.new.stations).items c.self.invariant c.deref_mut.ensures.value
    c.list_post.ensures.same (with_items_is c.self.inside.stations c.list_post.new.stations
    (omega (arith, c.list_post.auto.stations, c.deref_mut.ensures.len)))

pub take_news-requires : goal.take_news-requires
take_news-requires c =
    let mid = c.list_post.new.stations in
    let is : c.deref_mut-2.result.now ≡ mid =
    c.deref_mut-2.ensures.value
    ∙ with_items_is c.self.inside.stations mid (omega (arith, c.list_post.auto.stations, c.deref_mut.ensures.len)) in
    record {
      count =
          roomed-count c.self.invariant c.deref-2.ensures.value c.deref_mut.ensures.value c.list_post.ensures.same is;
      room =
          subst (λ k. HaveRoom k c.deref_mut-2.result.now) (ap length c.links-items.ensures.list)
          (subst (HaveRoom (length c.links-items.result.now)) (sym is) c.in_ok-list_post.ensures.room);
      clocks =
          subst (AllByRecursion (λ (s : StationState). s.clock ≤ c.args.stamp)) (sym is)
          (room-clocks c.args.stamp c.deref_mut.result.now mid c.list_post.ensures.same
          (stamp-above c.args.stamp c.deref_mut.result.now c.args.self.now.stations
          (c.deref_mut.ensures.value ∙ ap (λ (f : FleetState). f.stations) c.self.view_is) c.requires));
    }

pub invariant_of-self-2 : goal.invariant_of-self-2
invariant_of-self-2 c =
    let vec = with_items c.self.inside.stations c.list_post.new.stations in
    let is = with_items_is c.self.inside.stations c.list_post.new.stations (omega
    (arith, c.list_post.auto.stations, c.deref_mut.ensures.len)) in
    settled-back c.self.inside.seats.items vec.items _ c.take_news.new.stations _
    (settled-roomed _ c.self.inside.stations.items _ _ _ c.self.invariant c.deref_mut.ensures.value
    c.list_post.ensures.same is) c.deref_mut-2.ensures.value
    (items-links _ c.args.stamp _ _ c.take_news.new.stations (roomed-count c.self.invariant c.deref-2.ensures.value
    c.deref_mut.ensures.value c.list_post.ensures.same (c.deref_mut-2.ensures.value ∙ is)) c.take_news.ensures)
    (with_items_is vec c.take_news.new.stations (omega (arith, c.take_news.auto.stations, c.deref_mut-2.ensures.len)))

pub returns-clause-on : goal.returns-clause-on
returns-clause-on c =
    let f = c.args.self.now in
    let mid = c.list_post.new.stations in
    let vec = with_items c.self.inside.stations mid in
    let new = c.take_news.new.stations in
    let is : vec.items ≡ mid =
    with_items_is c.self.inside.stations mid (omega (arith, c.list_post.auto.stations, c.deref_mut.ensures.len)) in
    let before : c.deref-3.result.now ≡ f.failed =
    c.deref-3.ensures.value ∙ ap (λ (x : FleetState). x.failed) c.self.view_is in
    let groups : c.in_ok-failed.failed.items ≡ failed_after c.args.command.now f.failed =
    c.in_ok-failed.ensures ∙ ap (failed_after c.args.command.now) (c.deref.ensures.value
    ∙ ap (λ (x : FleetState). x.failed) c.self.view_is) in
    let network = ap (λ (x : FleetState). x.network) c.self.view_is in
    let after = c.deref-4.ensures.value ∙ groups in
    record {
      stations =
          take-roomed (news_for f.network f.failed (failed_after c.args.command.now f.failed)) c.args.stamp f.seats
          f.stations mid (with_items vec new).items
          (c.list_post.ensures.same ∙ ap (map but_room) (c.deref_mut.ensures.value
          ∙ ap (λ (x : FleetState). x.stations) c.self.view_is))
          (take-same (news_for c.self.inside.network c.deref-3.result.now c.deref-4.result.now)
          (news_for f.network f.failed (failed_after c.args.command.now f.failed)) c.args.stamp c.deref-2.result.now
          f.seats c.deref_mut-2.result.now mid new (with_items vec new).items
          (λ i. news_for (network i) (before i) (after i))
          (c.deref-2.ensures.value ∙ ap (λ (x : FleetState). x.seats) c.self.view_is)
          (c.deref_mut-2.ensures.value ∙ is)
          (sym (with_items_is vec new (omega (arith, c.take_news.auto.stations, c.deref_mut-2.ensures.len))))
          c.take_news.ensures);
      seats = ap (λ (x : FleetState). x.seats) c.self.view_is;
      posts =
          c.in_ok-list_post.ensures.posts
          ∙ ap (λ (x : FleetState). x.posts ++ post_of c.args.stamp c.args.command.now ∷ []) c.self.view_is;
      network = network;
      failed = groups;
    }

pub returns-in_err-list_post-clause-shown : goal.returns-in_err-list_post-clause-shown
returns-in_err-list_post-clause-shown c =
    let mid = c.list_post.new.stations in
    ap shown_by (with_items_is c.self.inside.stations mid (omega
    (arith, c.list_post.auto.stations, c.deref_mut.ensures.len)))
    ∙ room-shown c.deref_mut.result.now mid c.list_post.ensures.same ∙ ap shown_by c.deref_mut.ensures.value
    ∙ ap (λ (x : FleetState). shown_by x.stations) c.self.view_is

pub returns-clause-shown : goal.returns-clause-shown
returns-clause-shown c =
    let lent = c.deref_mut-2.ensures.value ∙ with_items_is c.self.inside.stations c.list_post.new.stations (omega
    (arith, c.list_post.auto.stations, c.deref_mut.ensures.len)) in
    ap shown_by (with_items_is (with_items c.self.inside.stations c.list_post.new.stations) c.take_news.new.stations
    (omega (arith, c.take_news.auto.stations, c.deref_mut-2.ensures.len)))
    ∙ items-shown _ c.args.stamp _ _ c.take_news.new.stations (roomed-count c.self.invariant c.deref-2.ensures.value
    c.deref_mut.ensures.value c.list_post.ensures.same lent) c.take_news.ensures
    ∙ ap shown_by lent ∙ room-shown _ c.list_post.new.stations c.list_post.ensures.same
    ∙ ap shown_by c.deref_mut.ensures.value ∙ ap (λ (x : FleetState). shown_by x.stations) c.self.view_is

pub returns-in_err-list_post-clause-err : goal.returns-in_err-list_post-clause-err
returns-in_err-list_post-clause-err c =
    on_err_always c.from_residual-in_err-list_post.result _ (roomed-same c.self.view_is
    (ap (map but_room) (with_items_is c.self.inside.stations c.list_post.new.stations (omega
    (arith, c.list_post.auto.stations, c.deref_mut.ensures.len))) ∙ c.list_post.ensures.same
    ∙ ap (map but_room) c.deref_mut.ensures.value) c.in_err-list_post.ensures.err)
