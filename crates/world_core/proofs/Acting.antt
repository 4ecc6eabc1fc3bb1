-- What a replay keeps stands for the world after an event of a node.
use Rattle.std.proofs.{Common.{◌≡◌, ◌<◌, ℕ, Bool, true, false, nat_eq, nat_lt, List, map, set, refl, sym, ap, ◌∙◌, subst, arith, eqb-true}, lemmas.Bool.and_parts}
use Rattle.std.specs.{Prelude.{◌&&◌, Option, Some, None, find, is_some, position, slice_get}, List.AllByRecursion}
use Rattle.ason_base.specs.{declared.limits.TheConstants.MOST_EVENTS, declared.ids.NodeId.NodeId, declared.commands.Event.Event, Network.{Network, is_distinct, is_node_id}}
use Rattle.ason_base.specs.declared.commands.Event.TheVariants as world
use Rattle.mesh_nodes.specs.LocalNodes.{is_neighbour}
use Rattle.mesh_rules.specs.{Events.has_first, LocalNodes.{LocalNode, local_node}}
use Rattle.flood.specs.Frames.{SpellsNothing}
use Rattle.world_core.specs.{declared.acts.Act.Act, Replays.{HasActed, HasStepped, IsDisabled, IsUnable, StateStandsFor, WorldState}, Seats.{HasDoneAt, SeatStands, SeatState, can_do, frame_there, is_able, is_seat_at, is_channel_there}}
use Rattle.world_core.specs.declared.acts.Act.TheVariants as act
use Rattle.world_rules.specs.{WorldRuns.{is_world_channel, is_event_of, may_act, world_step}, Worlds.{World, frame_at}}
use Rattle.world_core.proofs.{Finding.{IsFirst, also-found, found-has, is-first, item-found}, Places.{all-set, nodes-set, numbers-set, seat-there}, Seating.{frame-stands, handle-stands, noise-stands, still-stands, tick-stands}, Left.{IsLeft, others-left, posts-left, not_of, still-nowhere}, FramesThere.{IsFrameSent, channel-there, was-sent, never-sent}}
use Rattle.world_rules.proofs.Untouched.{channels-join-neighbours, others-are-untouched}
use Rattle.ason_base.proofs.{Bools.and-right, Places.all-at, Finding.found-nowhere, Numbers.self-number}

-- Desks and numbers of events that an event leaves

-- The node that acts

pub record IsActing (t : Network) (w : World) (n : NodeId) (s : SeatState) : Type 0 where
  pub node : s.node ≡ n
  pub stands : SeatStands t w s
  pub there : is_node_id t.nodes n ≡ true
  pub may : may_act t w n ≡ true

pub acting : (t : Network) (k : WorldState) (w : World) (n : NodeId) (i : ℕ) (s : SeatState) → StateStandsFor t k w →
    position (is_able n.0) k.seats ≡ Some i → slice_get k.seats i ≡ Some s → IsActing t w n s
acting t k w n i s stands at there = record {
  node = node;
  stands = seat;
  there = is_node;
  may = rw is_node (ap (λ c. nat_lt c MOST_EVENTS) (sym made) ∙ able.1);
}
  where
    first : IsFirst (is_able n.0) k.seats i
    first = is-first (is_able n.0) k.seats i at

    same : first.item ≡ s
    same = cc (first.there, there)

    able : (nat_eq s.node.0 n.0 ≡ true) × (nat_lt s.controller.steps MOST_EVENTS ≡ true)
    able = and_parts (nat_eq s.node.0 n.0) _ (ap (is_able n.0) (sym same) ∙ first.passes)

    node : s.node ≡ n
    node = ap (λ x. record { 0 = x }) (eqb-true s.node.0 n.0 able.0)

    seat : SeatStands t w s
    seat = all-at (SeatStands t w) k.seats i s stands.seats there

    is_node : is_node_id t.nodes n ≡ true
    is_node = sym (seat-there k.seats t.nodes n stands.nodes) ∙ item-found (is_seat_at n.0) k.seats i s there able.0

    made : s.controller.steps ≡ w.made n.0
    made = seat.made ∙ ap (λ (m : NodeId). w.made m.0) node

-- none may act where none is found that is able to
pub cannot-act : (t : Network) (k : WorldState) (w : World) (n : NodeId) → StateStandsFor t k w →
    position (is_able n.0) k.seats ≡ None → may_act t w n ≡ false
cannot-act t k w n stands none = go (may_act t w n) refl
  where
    found : is_node_id t.nodes n ≡ true → nat_lt (w.made n.0) MOST_EVENTS ≡ true → ⊥
    found there below = by (find (is_seat_at n.0) k.seats) refl
        (seat-there k.seats t.nodes n stands.nodes ∙ there)
      where
        by : (o : Option SeatState) → find (is_seat_at n.0) k.seats ≡ o → is_some o ≡ true → ⊥
        by None e h = absurd (cc (h))
        by (Some s) e h =
            let is = found-has (is_seat_at n.0) (SeatStands t w) k.seats s stands.seats e in
            let made : s.controller.steps ≡ w.made n.0 = is.1.made ∙ ap w.made (eqb-true s.node.0 n.0 is.0) in
            also-found (is_seat_at n.0) (is_able n.0) k.seats s e
            (rw is.0 (ap (λ c. nat_lt c MOST_EVENTS) made ∙ below)) (found-nowhere (is_able n.0) k.seats none)

    go : (b : Bool) → may_act t w n ≡ b → b ≡ false
    go true h =
        let parts = and_parts (is_node_id t.nodes n) (nat_lt (w.made n.0) MOST_EVENTS) h in
        absurd (found parts.0 parts.1)
    go false h = refl

-- an event of a node, whose seat stands for the node after it
acted-stands : (t : Network) (k after : WorldState) (w : World) (e : Event) (n : NodeId) (i : ℕ) (s new : SeatState) →
    StateStandsFor t k w → is_event_of n.0 e ≡ true → IsActing t w n s → slice_get k.seats i ≡ Some s →
    new.node ≡ s.node →
    SeatStands t (world_step t w e) new → after.seats ≡ set k.seats i new → after.posted ≡ k.posted →
    after.failed ≡ k.failed → StateStandsFor t after (world_step t w e)
acted-stands t k after w e n i s new stands of is at node seat seats posted failed = record {
  nodes = ap (map (λ (x : SeatState). x.node)) seats ∙ nodes-set k.seats i s new at node ∙ stands.nodes;
  apart = ap (λ (xs : List SeatState). is_distinct (map (λ (x : SeatState). x.node.0) xs)) seats
      ∙ ap is_distinct (numbers-set k.seats i s new at node) ∙ stands.apart;
  seats = subst (AllByRecursion (SeatStands t (world_step t w e))) (sym seats)
      (all-set (SeatStands t w) (SeatStands t (world_step t w e)) k.seats i s new at stands.apart stands.seats other
      seat);
  nowhere = λ m none. still-nowhere t w e n m of is.there none (stands.nowhere m none);
  posted = posted ∙ stands.posted ∙ sym (posts-left t w e n.0 of).posted;
  failed = failed ∙ stands.failed ∙ sym (posts-left t w e n.0 of).failed;
}
  where
    other : (x : SeatState) → nat_eq x.node.0 s.node.0 ≡ false → SeatStands t w x → SeatStands t (world_step t w e) x
    other x apart sits =
        let differs : nat_eq x.node.0 n.0 ≡ false = ap (λ (m : NodeId). nat_eq x.node.0 m.0) (sym is.node) ∙ apart in
        let left : IsLeft w (world_step t w e) x.node.0 = others-left t w e n.0 x.node.0 of differs in
        still-stands t w (world_step t w e) x (others-are-untouched t w e x.node.0 (not_of e n.0 x.node.0 of differs))
        left.desk left.made sits

-- a node that acts makes its event
acts : (t : Network) (k after : WorldState) (w : World) (n : NodeId) (a : Act) (e : NodeId → Event) →
    is_event_of n.0 (e n) ≡ true → (acted : HasActed k n a after) → StateStandsFor t k w → IsActing t w n acted.seat →
    acted.done.new.node ≡ acted.seat.node → SeatStands t (world_step t w (e acted.seat.node)) acted.done.new →
    StateStandsFor t after (world_step t w (e n))
acts t k after w n a e of acted stands is node seat =
    acted-stands t k after w (e n) n acted.place acted.seat acted.done.new stands of is acted.there node
    (subst (λ (m : NodeId). SeatStands t (world_step t w (e m)) acted.done.new) is.node seat)
    acted.done.seats acted.posted acted.failed

-- A frame that was sent

-- What is refused

three : (a b c : Bool) → a ≡ true → b ≡ true → c ≡ true → (a && b && c) ≡ true
three a b c p q r = grind arith

first_false : (a b c : Bool) → a ≡ false → (a && b && c) ≡ true → ⊥
first_false a b c p h = absurd (grind arith)

last_false : (a b c : Bool) → (b && c) ≡ false → (a && b && c) ≡ true → ⊥
last_false a b c p h = absurd (grind arith)

-- a node that may act is refused where it can't do this
refused : (t : Network) (k : WorldState) (w : World) (n : NodeId) (a : Act) → StateStandsFor t k w → IsUnable k n a →
    ((s : SeatState) → IsActing t w n s → can_do s a ≡ true) → may_act t w n ≡ false
refused t k w n a stands unable can = go (position (is_able n.0) k.seats) refl
  where
    go : (o : Option ℕ) → position (is_able n.0) k.seats ≡ o → may_act t w n ≡ false
    go None at = cannot-act t k w n stands at
    go (Some i) at =
        let first = is-first (is_able n.0) k.seats i at in
        absurd (cc (
          can first.item (acting t k w n i first.item stands at first.there),
          unable i first.item at first.there,
        ))

near : (t : Network) (w : World) (u d : NodeId) (s : SeatState) (bytes : List ℕ) → is_world_channel t u d ≡ true →
    IsActing t w d s → can_do s (act.Take u bytes) ≡ true
near t w u d s bytes on is =
    ap (λ (p : LocalNode). is_neighbour p u) (is.stands.place ∙ ap (local_node t) is.node)
    ∙ channels-join-neighbours t u d on

-- Deliveries

pub delivered-steps : (t : Network) (k after : WorldState) (d u : NodeId) (number : ℕ) (bytes : List ℕ) →
    frame_there k.seats u d number ≡ Some bytes → HasActed k d (act.Take u bytes) after →
    HasStepped t k (world.Deliver d u number) after
delivered-steps t k after d u number bytes e acted w stands =
    let sent : IsFrameSent t w u d number bytes = was-sent t k w u d number bytes stands e in
    let is : IsActing t w d acted.seat = acting t k w d acted.place acted.seat stands acted.found acted.there in (
      three (may_act t w d) (is_world_channel t u d) (is_some (frame_at w u d number)) is.may sent.channel
          (ap is_some sent.frame.there),
      acts t k after w d (act.Take u bytes) (λ (n : NodeId). world.Deliver n u number) (self-number d.0) acted stands is
          acted.done.done.0.node
          (frame-stands t w acted.seat acted.done.new u number bytes sent.frame.content
          (subst (λ (n : NodeId). frame_at w u n number ≡ Some sent.frame.content) (sym is.node) sent.frame.there)
          sent.frame.bears is.stands acted.done.done),
    )

pub undelivered : (t : Network) (k : WorldState) (d u : NodeId) (number : ℕ) → frame_there k.seats u d number ≡ None →
    IsDisabled t k (world.Deliver d u number)
undelivered t k d u number none w stands on =
    last_false (may_act t w d) (is_world_channel t u d) (is_some (frame_at w u d number))
    (never-sent t k w u d number stands none) on

pub not-taken : (t : Network) (k : WorldState) (d u : NodeId) (number : ℕ) (bytes : List ℕ) →
    frame_there k.seats u d number ≡ Some bytes → IsUnable k d (act.Take u bytes) →
    IsDisabled t k (world.Deliver d u number)
not-taken t k d u number bytes e unable w stands on =
    let sent : IsFrameSent t w u d number bytes = was-sent t k w u d number bytes stands e in
    first_false (may_act t w d) (is_world_channel t u d) (is_some (frame_at w u d number))
    (refused t k w d (act.Take u bytes) stands unable (λ s is. near t w u d s bytes sent.channel is)) on

-- Noise

pub noise-steps : (t : Network) (k after : WorldState) (d u : NodeId) (bytes : List ℕ) →
    is_channel_there k.seats u d ≡ true → SpellsNothing bytes → HasActed k d (act.Take u bytes) after →
    HasStepped t k (world.Noise d u bytes) after
noise-steps t k after d u bytes on nothing acted w stands =
    let is : IsActing t w d acted.seat = acting t k w d acted.place acted.seat stands acted.found acted.there in (
      (rw is.may (sym (channel-there t k w u d stands) ∙ on), nothing),
      acts t k after w d (act.Take u bytes) (λ (n : NodeId). world.Noise n u bytes) (self-number d.0) acted stands is
          acted.done.done.0.node
          (noise-stands t w acted.seat acted.done.new u bytes nothing is.stands acted.done.done),
    )

pub no-channel : (t : Network) (k : WorldState) (d u : NodeId) (bytes : List ℕ) → is_channel_there k.seats u d ≡ false →
    IsDisabled t k (world.Noise d u bytes)
no-channel t k d u bytes none w stands on =
    absurd (cc (none, channel-there t k w u d stands, and-right (may_act t w d) (is_world_channel t u d) on.0))

pub no-noise : (t : Network) (k : WorldState) (d u : NodeId) (bytes : List ℕ) → ¬ SpellsNothing bytes →
    IsDisabled t k (world.Noise d u bytes)
no-noise t k d u bytes spells w stands on = spells on.1

pub not-heard : (t : Network) (k : WorldState) (d u : NodeId) (bytes : List ℕ) → is_channel_there k.seats u d ≡ true →
    IsUnable k d (act.Take u bytes) → IsDisabled t k (world.Noise d u bytes)
not-heard t k d u bytes on unable w stands enabled =
    let channel : is_world_channel t u d ≡ true = sym (channel-there t k w u d stands) ∙ on in
    let none : may_act t w d ≡ false =
    refused t k w d (act.Take u bytes) stands unable (λ s is. near t w u d s bytes channel is) in
    absurd (cc (none, first_true (may_act t w d) (is_world_channel t u d) enabled.0))
  where
    first_true : (a b : Bool) → (a && b) ≡ true → a ≡ true
    first_true a b h = grind arith

-- Ticks

pub ticked-steps : (t : Network) (k after : WorldState) (n : NodeId) → HasActed k n act.Tick after →
    HasStepped t k (world.Tick n) after
ticked-steps t k after n acted w stands =
    let is : IsActing t w n acted.seat = acting t k w n acted.place acted.seat stands acted.found acted.there in (
      is.may,
      acts t k after w n act.Tick (λ (m : NodeId). world.Tick m) (self-number n.0) acted stands is
          acted.done.done.0.node (tick-stands t w acted.seat acted.done.new is.stands acted.done.done),
    )

pub not-ticked : (t : Network) (k : WorldState) (n : NodeId) → IsUnable k n act.Tick → IsDisabled t k (world.Tick n)
not-ticked t k n unable w stands on = absurd (cc (on, refused t k w n act.Tick stands unable (λ s is. refl)))

-- Items

pub handled-steps : (t : Network) (k after : WorldState) (n : NodeId) → HasActed k n act.Handle after →
    HasStepped t k (world.Desk n) after
handled-steps t k after n acted w stands =
    let is : IsActing t w n acted.seat = acting t k w n acted.place acted.seat stands acted.found acted.there in
    let items = sym acted.done.done.1 ∙ is.stands.desk ∙ ap (λ (m : NodeId). w.desks m.0) is.node in (
      rw is.may (sym (ap has_first items)),
      acts t k after w n act.Handle (λ (m : NodeId). world.Desk m) (self-number n.0) acted stands is
          acted.done.done.2.node (handle-stands t w acted.seat acted.done.new is.stands acted.done.done),
    )

pub not-handled : (t : Network) (k : WorldState) (n : NodeId) → IsUnable k n act.Handle → IsDisabled t k (world.Desk n)
not-handled t k n unable w stands on =
    absurd (cc (
      parts.0,
      refused t k w n act.Handle stands unable
          (λ s is. ap has_first (is.stands.desk ∙ ap (λ (m : NodeId). w.desks m.0) is.node) ∙ parts.1),
    ))
  where
    parts : (may_act t w n ≡ true) × (has_first (w.desks n.0) ≡ true)
    parts = and_parts (may_act t w n) (has_first (w.desks n.0)) on

-- The place of the node that acts

pub able-few : (n : ℕ) (seats : List SeatState) (i : ℕ) (s : SeatState) → position (is_able n) seats ≡ Some i →
    slice_get seats i ≡ Some s → s.controller.steps < MOST_EVENTS
able-few n seats i s at there =
    let first = is-first (is_able n) seats i at in
    let same : first.item ≡ s = cc (first.there, there) in
    less s.controller.steps
    (and_parts (nat_eq s.node.0 n) (nat_lt s.controller.steps MOST_EVENTS) (ap (is_able n) (sym same) ∙ first.passes)).1
  where
    less : (a : ℕ) → nat_lt a MOST_EVENTS ≡ true → a < MOST_EVENTS
    less a h = grind arith

pub has-acted : (k after : WorldState) (n : NodeId) (a : Act) (i : ℕ) → position (is_able n.0) k.seats ≡ Some i →
    after.posted ≡ k.posted → after.failed ≡ k.failed →
    ((s : SeatState) → slice_get k.seats i ≡ Some s → HasDoneAt k.seats i s a after.seats) → HasActed k n a after
has-acted k after n a i at posted failed does =
    let first = is-first (is_able n.0) k.seats i at in
    record {
      place = i;
      seat = first.item;
      found = at;
      there = first.there;
      done = does first.item first.there;
      posted = posted;
      failed = failed;
    }
