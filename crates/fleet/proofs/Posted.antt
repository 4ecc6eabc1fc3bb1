-- After a post a fleet stands for the record with that post.
use Rattle.std.proofs.{Common.{◌≡◌, ◌≤◌, ◌<◌, ◌+◌, ◌^◌, ℕ, Bool, true, false, cond, nat_eq, List, [], ◌∷◌, ◌++◌, length, refl, sym, ap, ◌∙◌, subst, arith, append-nil}, lemmas.List.length-append}
use Rattle.std.specs.{Prelude.{◌&&◌, not, max, fold, Some, None, slice_get}, List.AllZip}
use Rattle.ason_base.specs.{declared.ids.NodeId.NodeId, declared.commands.Command.Command, declared.commands.Command.TheVariants.{Setup, Release, Protect, Retry, Revert, Fail, Repair}, declared.commands.DeskItem.DeskItem, declared.commands.DeskItem.TheVariants.Order, declared.commands.Disturb.Disturb, declared.commands.Event.TheVariants.Post, declared.commands.Group.Group, Network.{Network, is_node_id}}
use Rattle.ason_base.proofs.Bools.{and-left}
use Rattle.mesh_rules.specs.{Commands.{has_backup_way, has_way, is_again, is_searchable, is_valid}, Failures.failed_after}
use Rattle.world_core.specs.Replays.{ingress_of}
use Rattle.world_core.proofs.Posting.{failed-posted}
use Rattle.world_rules.specs.{WorldRuns.{IsEnabled, world_step}, Worlds.World}
use Rattle.world_merge.specs.Deeds.{alone}
use Rattle.round_rules.specs.{Functions.clock_of, OneWorker.ids_of, Records.{Record, deeds_at, world_of}, States.StationState, Commands.{TakePosts, TakesPost, greatest_clock, record_posted}, Fleets.{IsStationAt, Wires}}
use Rattle.round_rules.proofs.{Assembling.posts-are-steps, Posting.{posts-in-now, posts-stand-for}, SamePosts.same-posts}
use Rattle.fleet.specs.{declared.seats.Seat.Seat, Posting.{HasPosted, Orders, TakesItems, greatest_of, news_for, order_for, post_of}, Standing.{AreSeats, FleetState, StandsFor}}
use Rattle.fleet.proofs.Places.{map-get, zip-at}

-- What a post puts on a desk

abbrev Desks : (NodeId → List DeskItem) → Network → World → Command → Type 0
Desks items t w c = (n : NodeId) → (world_step t w (Post c)).desks n.0 ≡ w.desks n.0 ++ items n

with_item : (w : World) (from n : NodeId) (item : DeskItem) →
    cond (nat_eq n.0 from.0) (w.desks n.0 ++ item ∷ []) (w.desks n.0) ≡
    w.desks n.0 ++ cond (nat_eq from.0 n.0) (item ∷ []) []
with_item w from n item = go (nat_eq n.0 from.0) (nat_eq from.0 n.0) (turned n.0 from.0)
  where
    turned : (a b : ℕ) → nat_eq b a ≡ nat_eq a b
    turned a b = grind arith

    go : (a b : Bool) → b ≡ a → cond a (w.desks n.0 ++ item ∷ []) (w.desks n.0) ≡
        w.desks n.0 ++ cond b (item ∷ []) []
    go true true e = refl
    go false false e = sym (append-nil (w.desks n.0))
    go true false e = absurd (cc (e))
    go false true e = absurd (cc (e))

-- the item stands on the desk of the ingress, whatever it is called
at_ingress : (t : Network) (w : World) (c : Command) (from n m : NodeId) → Some from ≡ Some n →
    (world_step t w (Post c)).desks m.0 ≡ w.desks m.0 ++ order_for from c m →
    (world_step t w (Post c)).desks m.0 ≡ w.desks m.0 ++ order_for n c m
at_ingress t w c from n m e is =
    let same : from ≡ n = cc (e) in
    subst (λ (x : NodeId). (world_step t w (Post c)).desks m.0 ≡ w.desks m.0 ++ order_for x c m) same is

-- a command of a call goes to the desk of its ingress
pub order-desks : (t : Network) (w : World) (c : Command) (n : NodeId) → ingress_of c ≡ Some n →
    Desks (order_for n c) t w c
order-desks t w (Setup k from to protected both via backup) n e m =
    at_ingress t w _ from n m e (with_item w from m (Order (Setup k from to protected both via backup)))
order-desks t w (Release k from) n e m = at_ingress t w _ from n m e (with_item w from m (Order (Release k from)))
order-desks t w (Protect k from) n e m = at_ingress t w _ from n m e (with_item w from m (Order (Protect k from)))
order-desks t w (Retry k from) n e m = at_ingress t w _ from n m e (with_item w from m (Order (Retry k from)))
order-desks t w (Revert k from) n e m = at_ingress t w _ from n m e (with_item w from m (Order (Revert k from)))
order-desks t w (Fail g) n e m = absurd (cc (e))
order-desks t w (Repair g) n e m = absurd (cc (e))

-- of a group each node is told
pub news-desks : (t : Network) (w : World) (c : Command) → ingress_of c ≡ None →
    Desks (news_for t w.failed (failed_after c w.failed)) t w c
news-desks t w (Setup k from to protected both via backup) e n = absurd (cc (e))
news-desks t w (Release k from) e n = absurd (cc (e))
news-desks t w (Protect k from) e n = absurd (cc (e))
news-desks t w (Retry k from) e n = absurd (cc (e))
news-desks t w (Revert k from) e n = absurd (cc (e))
news-desks t w (Fail g) e n = refl
news-desks t w (Repair g) e n = refl

-- a call's command leaves the groups that have failed
pub groups-left : (c : Command) (n : NodeId) (groups : List Group) → ingress_of c ≡ Some n →
    failed_after c groups ≡ groups
groups-left (Setup k from to protected both via backup) n groups e = refl
groups-left (Release k from) n groups e = refl
groups-left (Protect k from) n groups e = refl
groups-left (Retry k from) n groups e = refl
groups-left (Revert k from) n groups e = refl
groups-left (Fail g) n groups e = absurd (cc (e))
groups-left (Repair g) n groups e = absurd (cc (e))

-- Valid commands

-- the ingress of a command that may be posted is a node
pub valid-ingress : (t : Network) (w : World) (c : Command) (n : NodeId) → ingress_of c ≡ Some n →
    IsEnabled t w (Post c) → is_node_id t.nodes n ≡ true
valid-ingress t w c n e on = valid c e (and-left (is_valid t c) (not (is_again w.posted c)) on)
  where
    valid : (d : Command) → ingress_of d ≡ Some n → is_valid t d ≡ true → is_node_id t.nodes n ≡ true
    valid (Setup k from to protected both via backup) f h =
        let same : from ≡ n = cc (f) in
        subst (λ (x : NodeId). is_node_id t.nodes x ≡ true) same
        (and-left (is_node_id t.nodes from) (is_node_id t.nodes to)
        (and-left (is_node_id t.nodes from && is_node_id t.nodes to) (not (nat_eq from.0 to.0))
        (and-left (is_node_id t.nodes from && is_node_id t.nodes to && not (nat_eq from.0 to.0))
        (has_way t from to via)
        (and-left
        (is_node_id t.nodes from && is_node_id t.nodes to && not (nat_eq from.0 to.0) && has_way t from to via)
        (has_backup_way t from to protected via backup) h))))
    valid (Release k from) f h =
        let same : from ≡ n = cc (f) in subst (λ (x : NodeId). is_node_id t.nodes x ≡ true) same h
    valid (Protect k from) f h =
        let same : from ≡ n = cc (f) in
        subst (λ (x : NodeId). is_node_id t.nodes x ≡ true) same
        (and-left (is_node_id t.nodes from) (is_searchable t) h)
    valid (Retry k from) f h =
        let same : from ≡ n = cc (f) in subst (λ (x : NodeId). is_node_id t.nodes x ≡ true) same h
    valid (Revert k from) f h =
        let same : from ≡ n = cc (f) in subst (λ (x : NodeId). is_node_id t.nodes x ≡ true) same h
    valid (Fail g) f h = absurd (cc (f))
    valid (Repair g) f h = absurd (cc (f))

-- The fleet

greatest_same : (t : Network) (lines : List Disturb) (r : Record) (w : Wires) (k : ℕ) (ns : List NodeId)
    (xs : List StationState) → AllZip (IsStationAt t lines r w) ns xs →
    fold (λ (j : ℕ) (s : StationState). max j s.clock) k xs ≡
    fold (λ (j : ℕ) (n : NodeId). max j (clock_of (r.doings n.0))) k ns
greatest_same t lines r w k [] [] all = refl
greatest_same t lines r w k [] (x ∷ xs) all = absurd all
greatest_same t lines r w k (n ∷ ns) [] all = absurd all
greatest_same t lines r w k (n ∷ ns) (x ∷ xs) all =
    ap (λ j. fold (λ (i : ℕ) (s : StationState). max i s.clock) (max k j) xs) all.0.station.stands.clock
    ∙ greatest_same t lines r w (max k (clock_of (r.doings n.0))) ns xs all.1

module _ (t : Network) (lines : List Disturb) (r : Record) (items : NodeId → List DeskItem) (c : Command) (stamp : ℕ)
    (old new : FleetState) (s : StandsFor t lines old r) (on : IsEnabled t (world_of t r) (Post c))
    (is_stamp : stamp ≡ greatest_of old.stations + 1) (done : HasPosted items c stamp old new)
    (desks : (w : World) → w.failed ≡ old.failed → Desks items t w c) where
  stamp_is : stamp ≡ greatest_clock t r + 1
  stamp_is =
      is_stamp ∙ ap (λ k. k + 1) (greatest_same t lines r s.wires 0 (ids_of t) old.stations s.stations.each)

  takes_one : (place : ℕ) (n : NodeId) (x y : StationState) → slice_get (ids_of t) place ≡ Some n →
      slice_get old.stations place ≡ Some x → slice_get new.stations place ≡ Some y → TakesPost t r c n x y
  takes_one place n x y node was is = record {
    controller = ap (λ (k : StationState). k.controller) take.station;
    desk =
        ap (λ (k : StationState). k.desk) take.station ∙ ap (λ ds. ds ++ items n) before.station.stands.sound.node.desk
        ∙ sym (desks (alone t n (deeds_at r n.0)) failed n);
    links = ap (λ (k : StationState). k.links) take.station;
    clock = ap (λ (k : StationState). k.clock) take.station ∙ stamp_is;
    log = ap (λ (k : StationState). k.log) take.station;
    held = ap (λ (k : StationState). k.held) take.station;
    lines = ap (λ (k : StationState). k.lines) take.station;
  }
    where
      seat : (m : Seat) × (slice_get old.seats place ≡ Some m) × (m.id ≡ n)
      seat =
          map-get (λ (m : Seat). m.id) old.seats place n (ap (λ ns. slice_get ns place) s.seats.ids ∙ node)

      take : TakesItems (items n) stamp x y
      take =
          subst (λ (m : NodeId). TakesItems (items m) stamp x y) seat.2
          (done.stations.each place seat.0 x y seat.1 was is)

      before : IsStationAt t lines r s.wires n x
      before = zip-at (IsStationAt t lines r s.wires) (ids_of t) old.stations place n x s.stations.each node was

      failed : (alone t n (deeds_at r n.0)).failed ≡ old.failed
      failed = (same-posts t lines r s.wires old.stations s.stations n.0 0).failed ∙ sym s.failed

  takes : TakePosts t r c old.stations new.stations
  takes = record { count = done.stations.count; each = takes_one }

  -- The fleet stands for the record with the post.
  pub post-stands : length old.posts < 2 ^ 32 → StandsFor t lines new (record_posted t c r)
  post-stands room =
      let all = posts-stand-for t lines c r s.wires old.stations new.stations s.stations s.follow on takes in
      record {
        seats = subst (AreSeats t) (sym done.seats) s.seats;
        wires = s.wires;
        stations = all.stands;
        begun = s.begun;
        posts =
            done.posts ∙ ap (λ k. old.posts ++ post_of k c ∷ []) stamp_is
            ∙ ap (λ es. es ++ post_of (greatest_clock t r + 1) c ∷ []) s.posts
            ∙ sym (posts-in-now t lines c r s.wires old.stations s.stations s.follow on);
        follow = all.follow;
        few =
            subst (λ k. k ≤ 2 ^ 32) (sym (ap length done.posts ∙ length-append old.posts (post_of stamp c ∷ [])))
            (omega (arith, room));
        network = done.network ∙ s.network;
        failed =
            done.failed ∙ ap (failed_after c) s.failed ∙ sym (failed-posted t (world_of t r) c)
            ∙ sym (ap (λ (w : World). w.failed) (posts-are-steps t c r
            (same-posts t lines r s.wires old.stations s.stations)));
      }

-- there is room for a post more, and this is its stamp
pub record IsNext (stamp : ℕ) (old : FleetState) : Type 0 where
  pub room : length old.posts < 2 ^ 32
  pub is : stamp ≡ greatest_of old.stations + 1

-- What the parts of a fleet show of its posts and clocks holds of the fleet.
pub next-post : {parts value : FleetState} {lent : List StationState} {greatest : ℕ} → parts ≡ value →
    lent ≡ parts.stations → greatest ≡ greatest_of lent → length parts.posts < 2 ^ 32 → IsNext (greatest + 1) value
next-post is same top room = record {
  room = subst (λ (f : FleetState). length f.posts < 2 ^ 32) is room;
  is = ap (λ k. k + 1) (top ∙ ap greatest_of (same ∙ ap (λ (f : FleetState). f.stations) is));
}

-- a command of a group
pub groups-stand : (t : Network) (lines : List Disturb) (r : Record) (c : Command) (stamp : ℕ) (old new : FleetState) →
    ingress_of c ≡ None → IsNext stamp old →
    HasPosted (news_for old.network old.failed (failed_after c old.failed)) c stamp old new →
    StandsFor t lines old r → IsEnabled t (world_of t r) (Post c) → StandsFor t lines new (record_posted t c r)
groups-stand t lines r c stamp old new none next done s on =
    post-stands t lines r (news_for old.network old.failed (failed_after c old.failed)) c stamp old new s on
    next.is done
    (λ w failed. subst (λ gs. Desks (news_for old.network gs (failed_after c gs)) t w c) failed
    (subst (λ (k : Network). Desks (news_for k w.failed (failed_after c w.failed)) t w c) (sym s.network)
    (news-desks t w c none))) next.room

-- a command of a call
pub order-stands : (t : Network) (lines : List Disturb) (r : Record) (c : Command) (n : NodeId) (stamp : ℕ)
    (old new : FleetState) → ingress_of c ≡ Some n → IsNext stamp old → Orders n c stamp old new →
    StandsFor t lines old r → IsEnabled t (world_of t r) (Post c) → StandsFor t lines new (record_posted t c r)
order-stands t lines r c n stamp old new call next orders s on =
    post-stands t lines r (order_for n c) c stamp old new s on next.is
    (orders t s.stations.valid s.seats (valid-ingress t (world_of t r) c n call on))
    (λ w failed. order-desks t w c n call) next.room
