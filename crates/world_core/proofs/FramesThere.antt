-- Whether a frame was sent on a channel, as a replay finds it.
use Rattle.std.proofs.Common.{◌≡◌, ℕ, Bool, true, false, nat_eq, List, refl, sym, ap, ◌∙◌, subst, eqb-true}
use Rattle.std.specs.{Prelude.{◌&&◌, Option, Some, None, find, is_some, not}, List.list_any}
use Rattle.ason_base.specs.{declared.ids.NodeId.NodeId, Network.{Network, are_ends, is_node_id}}
use Rattle.world_core.specs.{Channels.{ChannelState, channel_to, frame_on}, Replays.{StateStandsFor, WorldState}, Seats.{SeatStands, SeatState, seat_channel, frame_there, is_seat_at, is_channel_there}}
use Rattle.world_rules.specs.{WorldRuns.is_world_channel, Worlds.{World, frame_at, numbered_at}}
use Rattle.world_core.proofs.{Finding.found-has, Places.seat-there, Sending.{IsNumberedFrame, is-numbered, not-numbered}}

pub record IsFrameSent (t : Network) (w : World) (u d : NodeId) (k : ℕ) (bytes : List ℕ) : Type 0 where
  pub channel : is_world_channel t u d ≡ true
  pub frame : IsNumberedFrame (w.channels u.0 d.0) k bytes

channel_false : (t : Network) (u d : NodeId) → is_node_id t.nodes u ≡ false → is_world_channel t u d ≡ false
channel_false t u d h =
    go (is_node_id t.nodes u) (is_node_id t.nodes d) (not (nat_eq u.0 d.0))
    (list_any (λ l. are_ends l.low l.high u d) t.links) h
  where
    go : (a b c f : Bool) → a ≡ false → (a && b && c && f) ≡ false
    go true b c f h = absurd (cc (h))
    go false b c f h = refl

-- what is known of the seat of a node
seat_of : (t : Network) (k : WorldState) (w : World) (u : NodeId) (s : SeatState) → StateStandsFor t k w →
    find (is_seat_at u.0) k.seats ≡ Some s → (s.node ≡ u) × SeatStands t w s
seat_of t k w u s stands e =
    let is = found-has (is_seat_at u.0) (SeatStands t w) k.seats s stands.seats e in
    (ap (λ x. record { 0 = x }) (eqb-true s.node.0 u.0 is.0), is.1)

no_seat : (t : Network) (k : WorldState) (w : World) (u : NodeId) → StateStandsFor t k w →
    find (is_seat_at u.0) k.seats ≡ None →
    is_node_id t.nodes u ≡ false
no_seat t k w u stands e = sym (seat-there k.seats t.nodes u stands.nodes) ∙ ap is_some e

pub channel-there : (t : Network) (k : WorldState) (w : World) (u d : NodeId) → StateStandsFor t k w →
    is_channel_there k.seats u d ≡ is_world_channel t u d
channel-there t k w u d stands = go (find (is_seat_at u.0) k.seats) refl
  where
    go : (o : Option SeatState) → find (is_seat_at u.0) k.seats ≡ o →
        is_some (seat_channel o d.0) ≡ is_world_channel t u d
    go None e = sym (channel_false t u d (no_seat t k w u stands e))
    go (Some s) e =
        let is = seat_of t k w u s stands e in
        is.1.channels d ∙ ap (λ (n : NodeId). is_world_channel t n d) is.0

pub was-sent : (t : Network) (k : WorldState) (w : World) (u d : NodeId) (number : ℕ) (bytes : List ℕ) →
    StateStandsFor t k w →
    frame_there k.seats u d number ≡ Some bytes → IsFrameSent t w u d number bytes
was-sent t k w u d number bytes stands e = go (find (is_seat_at u.0) k.seats) refl e
  where
    on_channel : (s : SeatState) → (s.node ≡ u) × SeatStands t w s → (o : Option ChannelState) →
        channel_to s.channels d.0 ≡ o →
        frame_on o number ≡ Some bytes → IsFrameSent t w u d number bytes
    on_channel s is None e h = absurd (cc (h))
    on_channel s is (Some c) e h = record {
      channel = ap (λ (n : NodeId). is_world_channel t n d) (sym is.0) ∙ sym (is.1.channels d) ∙ ap is_some e;
      frame = subst (λ (n : NodeId). IsNumberedFrame (w.channels n.0 d.0) number bytes) is.0
          (is-numbered s.node (w.channels s.node.0 d.0) c.frames number bytes (is.1.frames d c e) h);
    }

    go : (o : Option SeatState) → find (is_seat_at u.0) k.seats ≡ o →
        frame_on (seat_channel o d.0) number ≡ Some bytes →
        IsFrameSent t w u d number bytes
    go None e h = absurd (cc (h))
    go (Some s) e h = on_channel s (seat_of t k w u s stands e) (channel_to s.channels d.0) refl h

pub never-sent : (t : Network) (k : WorldState) (w : World) (u d : NodeId) (number : ℕ) → StateStandsFor t k w →
    frame_there k.seats u d number ≡ None → (is_world_channel t u d && is_some (frame_at w u d number)) ≡ false
never-sent t k w u d number stands e = go (find (is_seat_at u.0) k.seats) refl e
  where
    left : (a b : Bool) → a ≡ false → (a && b) ≡ false
    left true b h = absurd (cc (h))
    left false b h = refl

    right : (a b : Bool) → b ≡ false → (a && b) ≡ false
    right true b h = h
    right false b h = refl

    on_channel : (s : SeatState) → (s.node ≡ u) × SeatStands t w s → (o : Option ChannelState) →
        channel_to s.channels d.0 ≡ o →
        frame_on o number ≡ None → (is_world_channel t u d && is_some (frame_at w u d number)) ≡ false
    on_channel s is None e h =
        left (is_world_channel t u d) (is_some (frame_at w u d number))
        (ap (λ (n : NodeId). is_world_channel t n d) (sym is.0) ∙ sym (is.1.channels d) ∙ ap is_some e)
    on_channel s is (Some c) e h =
        right (is_world_channel t u d) (is_some (frame_at w u d number))
        (subst (λ (n : NodeId). is_some (numbered_at (w.channels n.0 d.0) number) ≡ false) is.0
        (not-numbered s.node (w.channels s.node.0 d.0) c.frames number (is.1.frames d c e) h))

    go : (o : Option SeatState) → find (is_seat_at u.0) k.seats ≡ o → frame_on (seat_channel o d.0) number ≡ None →
        (is_world_channel t u d && is_some (frame_at w u d number)) ≡ false
    go None e h =
        left (is_world_channel t u d) (is_some (frame_at w u d number)) (channel_false t u d (no_seat t k w u stands e))
    go (Some s) e h = on_channel s (seat_of t k w u s stands e) (channel_to s.channels d.0) refl h
