-- Frames that were sent before a quiet moment are old ever after.
use Rattle.std.proofs.{Common.{◌≡◌, ◌≤◌, ◌<◌, ◌⊎◌, ◌+◌, inl, inr, ℕ, zero, suc, Bool, true, false, cond, not, nat_eq, nat_lt, nat_le, List, [], ◌∷◌, ◌++◌, length, refl, sym, ap, ◌∙◌, append_assoc, append-nil, arith}, lemmas.Option.slice_get_within}
use Rattle.std.specs.Prelude.{◌||◌, Option, Some, None}
use Rattle.ason_base.specs.{declared.ids.NodeId.NodeId, declared.commands.Command.Command, declared.commands.Disturb.Disturb, declared.commands.Event.Event, declared.messages.Msg.Msg, declared.messages.MsgId.MsgId, declared.messages.Packet.Packet, Network.Network}
use Rattle.ason_base.proofs.Places.{all-at}
use Rattle.flood.specs.{declared.frames.Content.Content, declared.frames.Content.TheVariants.{Message, Flood}}
use Rattle.hop_reliable.specs.{declared.heard.Heard.TheVariants.{Ahead, Next, Repeat}, Hop.{handed_up_after, heard_body, heard_number}}
use Rattle.hop_reliable.proofs.Flow.{Flow, IsNumbered, IsOwnFrame}
use Rattle.world_rules.specs.{Worlds.{World, numbered_at}, WorldRuns.is_world_channel}
use Rattle.world_rules.proofs.{Channels.{IsPacketMade, is-made}, Reached.AreReached}
use Rattle.world_merge.specs.Deeds.{Posted}
use Rattle.round_rules.specs.{Doings.{Did, Doing, deeds_in}, Lines.says, Records.{Record, world_of}, Rings.count_of, Rounds.IsRound, Takings.IsDelivered}
use Rattle.round_rules.proofs.RoundParts.{round-part}
use Rattle.round_laws.specs.{FleetLaw.{AllAcknowledged, AreWholeRounds, AreWholeSince, IsPostOf, IsWholeSince, SinceAreWhole}, Rings.{channel_of, climb_one, handed_up_at}, WholeRounds.{IsOldMessage, IsWholeRound, LeadsTo}}
use Rattle.round_laws.proofs.{Climbing.climbs_all, Hearing.heard_from, Standing.{hears-on, receiver-is, sender-is, sends-on}, Quiet.{all_up, reached-by}, Sweeping.flows}

-- Records since

pub record IsLaterOn (t : Network) (since r : Record) (u d : NodeId) : Type 0 where
  more : List Content
  whole : channel_of t r u d ≡ channel_of t since u d ++ more
  up : handed_up_at t since d u ≤ handed_up_at t r d u

abbrev pub IsLater : Network → Record → Record → Type 0
IsLater t since r = (u d : NodeId) → is_world_channel t u d ≡ true → IsLaterOn t since r u d

on_later : (t : Network) (since old new : Record) (u d : NodeId) (from to : List Doing) →
    new.doings u.0 ≡ old.doings u.0 ++ from → new.doings d.0 ≡ old.doings d.0 ++ to → IsLaterOn t since old u d →
    IsLaterOn t since new u d
on_later t since old new u d from to sent taken is =
    let brings = sends-on t u d old new from sent in
    let hears = hears-on t u d old new to taken in
    record {
      more = is.more ++ brings.more;
      whole = brings.whole ∙ ap (λ cs. cs ++ brings.more) is.whole
          ∙ append_assoc (channel_of t since u d) is.more brings.more;
      up = below _ _ _ _ is.up (climbs_all (handed_up_at t old d u) (heard_from u.0 (deeds_in to))) hears;
    }
  where
    below : (a b c e : ℕ) → a ≤ b → b ≤ c → e ≡ c → a ≤ e
    below a b c e f g h = omega (arith, f, g, h)

-- a record is later than itself
pub later_self : (t : Network) (r : Record) → IsLater t r r
later_self t r u d on = record { more = []; whole = sym (append-nil (channel_of t r u d)); up = omega arith }

-- and what a round makes of a later one is later
pub later_round : (t : Network) (lines : List Disturb) (since old new : Record) → IsRound t lines old new →
    IsLater t since old → IsLater t since new
later_round t lines since old new is later u d on =
    let from = round-part t lines old new u (is.nodes u (sender-is t u d on)) in
    let to = round-part t lines old new d (is.nodes d (receiver-is t u d on)) in
    on_later t since old new u d from.added to.added from.all to.all (later u d on)

-- and so is what a post makes
pub later_post : (t : Network) (c : Command) (since old new : Record) → IsPostOf t c old new → IsLater t since old →
    IsLater t since new
later_post t c since old new is later u d on =
    on_later t since old new u d (Did (Posted is.stamp c) ∷ []) (Did (Posted is.stamp c) ∷ []) (is.doings u.0)
    (is.doings d.0) (later u d on)

-- Old frames

-- what was sent stands where it stood
pub front : (cs more : List Content) (k : ℕ) → k ≤ length cs → numbered_at (cs ++ more) k ≡ numbered_at cs k
front cs more zero le = refl
front [] more (suc k) le = absurd (omega (arith, le))
front (c ∷ cs) more (suc zero) le = refl
front (c ∷ cs) more (suc (suc k)) le = front cs more (suc k) (omega (arith, le))

-- no frame has a number above that of the last one
not_sent : (cs : List Content) (k : ℕ) (x : Content) → length cs < k → numbered_at cs k ≡ Some x → ⊥
not_sent cs zero x above is = absurd (omega (arith, above))
not_sent [] (suc k) x above is = absurd (cc (is))
not_sent (c ∷ cs) (suc zero) x above is = absurd (omega (arith, above))
not_sent (c ∷ cs) (suc (suc k)) x above is = not_sent cs (suc k) x (omega (arith, above)) is

no_next : (h : ℕ) (id : MsgId) → id.number ≤ h → handed_up_after h (heard_number h id) ≡ h
no_next h id le =
    let low : nat_le id.number h ≡ true = grind (arith, le) in
    ap (λ b. handed_up_after h (cond (not (nat_eq id.epoch 1) || nat_lt (h + 1) id.number) Ahead (cond b Repeat Next)))
    low
    ∙ go (not (nat_eq id.epoch 1) || nat_lt (h + 1) id.number)
  where
    go : (b : Bool) → handed_up_after h (cond b Ahead Repeat) ≡ h
    go true = refl
    go false = refl

old_packet : (given : List Msg) (p : Packet) (h : ℕ) → IsOwnFrame given p → length given ≤ h →
    climb_one h (Message p) ≡ h
old_packet given p h own le = by_body p.body refl p.id refl
  where
    by_body : (o : Option Msg) → p.body ≡ o → (i : Option MsgId) → p.id ≡ i →
        handed_up_after h (heard_body h i o) ≡ h
    by_body None is i id = refl
    by_body (Some m) is None id = refl
    by_body (Some m) is (Some x) id =
        let n : IsNumbered given x.number m = own.own x m id is in
        let within : n.place < length given = slice_get_within given n.place m n.message in
        let number = n.number in
        no_next h x (omega (arith, within, number, le))

old_frame : (w : World) → AreReached w → (u d : ℕ) → nat_eq u d ≡ false → (w.ends u d).hop.unacked ≡ [] → (k : ℕ)
    (x : Content) → numbered_at (w.channels u d) k ≡ Some x → (h : ℕ) → (w.ends d u).hop.handed_up ≤ h →
    climb_one h x ≡ h
old_frame w r u d other none k (Flood m) is h le = refl
old_frame w r u d other none k (Message p) is h le =
    let made : IsPacketMade (w.ends u d) p = is-made (w.channels u d) (w.ends u d) k p (r.channels u d) is in
    let f : Flow (w.ends u d) (w.ends d u) = flows w r u d other in
    let own : IsOwnFrame (w.ends u d).given p =
    all-at (IsOwnFrame (w.ends u d).given) (w.ends u d).frames made.place p f.own made.there in
    let count = f.count in
    let up = all_up w r u d other none in
    old_packet (w.ends u d).given p h own (omega (arith, count, up, le))

-- Whole rounds

-- a round that is whole since a quiet record is whole
pub is_whole : (t : Network) (lines : List Disturb) (es : List Event) (since old new : Record) →
    LeadsTo t es (world_of t since) → AllAcknowledged t since → IsLater t since old → IsLater t since new →
    IsWholeSince t lines since old new → IsWholeRound t lines old new
is_whole t lines es since old new leads none later_old later_new is = record {
  round = is.round;
  kept = is.kept;
  delivered = λ u d k on.
      go u d k on (nat_lt (count_of t since u d) k) refl (nat_le k (count_of t new u d)) refl;
}
  where
    go : (u d : NodeId) (k : ℕ) → is_world_channel t u d ≡ true → (b : Bool) → nat_lt (count_of t since u d) k ≡ b →
        (c : Bool) → nat_le k (count_of t new u d) ≡ c → IsDelivered (says lines u d k) ⊎ IsOldMessage t old new u d k
    go u d k on true e true f = inl (is.delivered u d k (grind (arith, e)) (grind (arith, f)))
    go u d k on true e false f = inr (λ x there h le.
        absurd (not_sent (channel_of t new u d) k x (grind (arith, f)) there))
    go u d k on false e c f = inr (λ x there h le.
        let low : k ≤ count_of t since u d = grind (arith, e) in
        let other : nat_eq u.0 d.0 ≡ false = grind (arith, on) in
        let l = later_new u d on in
        let at_since : numbered_at (channel_of t since u d) k ≡ Some x =
        sym (ap (λ cs. numbered_at cs k) l.whole ∙ front (channel_of t since u d) l.more k low) ∙ there in
        let up = (later_old u d on).up in
        old_frame (world_of t since) (reached-by t es (world_of t since) leads) u.0 d.0 other (none u.0 d.0) k x at_since
        h (omega (arith, up, le)))

all_whole : (t : Network) (es : List Event) (since : Record) → LeadsTo t es (world_of t since) →
    AllAcknowledged t since → (k : ℕ) (old new : Record) → IsLater t since old → AreWholeSince t since k old new →
    AreWholeRounds t k old new
all_whole t es since leads none zero old new later rounds = rounds
all_whole t es since leads none (suc k) old new later rounds =
    let next : IsLater t since rounds.1 = later_round t rounds.0 since old rounds.1 rounds.2.round later in (
      rounds.0,
      rounds.1,
      is_whole t rounds.0 es since old rounds.1 leads none later next rounds.2,
      rounds.3,
      all_whole t es since leads none k rounds.1 new next rounds.4,
    )

-- Rounds that are whole since a quiet record are whole.
pub since-are_whole : SinceAreWhole
since-are_whole t es c since old new k leads none post rounds =
    all_whole t es since leads none k old new (later_post t c since since old post (later_self t since)) rounds
