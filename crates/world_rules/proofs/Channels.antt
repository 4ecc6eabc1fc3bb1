-- A channel has the packets that its sender's end of the hop made.
use Rattle.std.proofs.Common.{◌≡◌, ℕ, zero, suc, ◌+◌, Bool, true, false, cond, List, [], ◌∷◌, ◌++◌, map, refl, sym, ap, ◌∙◌, append_assoc, append-nil}
use Rattle.std.specs.{Prelude.Some, List.slice_get}
use Rattle.ason_base.specs.{declared.messages.Msg.Msg, declared.messages.Packet.Packet}
use Rattle.flood.specs.{declared.frames.Content.Content, declared.frames.Content.TheVariants.{Message, Flood}, declared.messages.FloodMsg.FloodMsg}
use Rattle.hop_reliable.specs.{Hop.{answers_to, heard_as, numbered, resent}, Schedules.{HopEnd, end_sends, end_takes, end_ticks}}
use Rattle.world_rules.specs.{Frames.{floods_of, packets_of}, Worlds.{numbered_after, numbered_at, sends_all, with_floods, with_packets}}

pub packets-added : (cs : List Content) (ps : List Packet) → packets_of (with_packets cs ps) ≡ packets_of cs ++ ps
packets-added [] ps = those ps
  where
    those : (ps : List Packet) → packets_of (map Message ps) ≡ ps
    those [] = refl
    those (p ∷ ps) = ap (λ qs. p ∷ qs) (those ps)
packets-added (Message q ∷ cs) ps = ap (λ qs. q ∷ qs) (packets-added cs ps)
packets-added (Flood m ∷ cs) ps = packets-added cs ps

-- what is flooded adds no packet
pub packets-flooded : (cs : List Content) (ms : List FloodMsg) → packets_of (with_floods cs ms) ≡ packets_of cs
packets-flooded [] ms = none ms
  where
    none : (ms : List FloodMsg) → packets_of (map Flood ms) ≡ []
    none [] = refl
    none (m ∷ ms) = none ms
packets-flooded (Message q ∷ cs) ms = ap (λ qs. q ∷ qs) (packets-flooded cs ms)
packets-flooded (Flood m ∷ cs) ms = packets-flooded cs ms

pub floods-added : (cs : List Content) (ms : List FloodMsg) → floods_of (with_floods cs ms) ≡ floods_of cs ++ ms
floods-added [] ms = those ms
  where
    those : (ms : List FloodMsg) → floods_of (map Flood ms) ≡ ms
    those [] = refl
    those (m ∷ ms) = ap (λ ns. m ∷ ns) (those ms)
floods-added (Message q ∷ cs) ms = floods-added cs ms
floods-added (Flood m ∷ cs) ms = ap (λ ns. m ∷ ns) (floods-added cs ms)

-- packets add nothing that is flooded
pub floods-stay : (cs : List Content) (ps : List Packet) → floods_of (with_packets cs ps) ≡ floods_of cs
floods-stay [] ps = none ps
  where
    none : (ps : List Packet) → floods_of (map Message ps) ≡ []
    none [] = refl
    none (p ∷ ps) = none ps
floods-stay (Message q ∷ cs) ps = floods-stay cs ps
floods-stay (Flood m ∷ cs) ps = ap (λ ns. m ∷ ns) (floods-stay cs ps)

pub frames-sends : (ms : List Msg) (x : HopEnd) → (sends_all ms x).frames ≡ x.frames ++ numbered_after x.hop.sent ms
frames-sends [] x = sym (append-nil x.frames)
frames-sends (m ∷ ms) x =
    frames-sends ms (end_sends m x) ∙ append_assoc x.frames (numbered (x.hop.sent + 1) m ∷ [])
    (numbered_after (x.hop.sent + 1) ms)

-- the channel has just the packets that were made at this end
abbrev pub HasPackets : List Content → HopEnd → Type 0
HasPackets cs x = packets_of cs ≡ x.frames

pub has-sent : (b : Bool) (ms : List Msg) (cs : List Content) (x : HopEnd) → HasPackets cs x →
    HasPackets (cond b (with_packets cs (numbered_after x.hop.sent ms)) cs) (cond b (sends_all ms x) x)
has-sent true ms cs x h =
    packets-added cs (numbered_after x.hop.sent ms) ∙ ap (λ ps. ps ++ numbered_after x.hop.sent ms) h ∙
    sym (frames-sends ms x)
has-sent false ms cs x h = h

pub has-ticked : (b : Bool) (cs : List Content) (x : HopEnd) → HasPackets cs x →
    HasPackets (cond b (with_packets cs (resent x.hop)) cs) (cond b (end_ticks x) x)
has-ticked true cs x h = packets-added cs (resent x.hop) ∙ ap (λ ps. ps ++ resent x.hop) h
has-ticked false cs x h = h

pub has-taken : (b : Bool) (p : Packet) (cs : List Content) (x : HopEnd) → HasPackets cs x →
    HasPackets (cond b (with_packets cs (answers_to (heard_as x.hop p) p)) cs) (cond b (end_takes (Some p) x) x)
has-taken true p cs x h =
    packets-added cs (answers_to (heard_as x.hop p) p) ∙ ap (λ ps. ps ++ answers_to (heard_as x.hop p) p) h
has-taken false p cs x h = h

pub has-flooded : (b : Bool) (ms : List FloodMsg) (cs : List Content) (x : HopEnd) → HasPackets cs x →
    HasPackets (cond b (with_floods cs ms) cs) x
has-flooded true ms cs x h = packets-flooded cs ms ∙ h
has-flooded false ms cs x h = h

-- A packet of the channel was made at this end.

pub record IsPacketMade (x : HopEnd) (p : Packet) : Type 0 where
  pub place : ℕ
  pub there : slice_get x.frames place ≡ Some p

record IsAmong (ps : List Packet) (p : Packet) : Type 0 where
  place : ℕ
  there : slice_get ps place ≡ Some p

among : (cs : List Content) (k : ℕ) (p : Packet) → slice_get cs k ≡ Some (Message p) → IsAmong (packets_of cs) p
among [] k p e = absurd (cc (e))
among (Message q ∷ cs) zero p e = record { place = 0; there = cc }
among (Message q ∷ cs) (suc k) p e =
    let later = among cs k p e in record { place = suc later.place; there = later.there }
among (Flood m ∷ cs) zero p e = absurd (cc (e))
among (Flood m ∷ cs) (suc k) p e = among cs k p e

-- a flood message of the channel is among those that were flooded
pub flood-among : (cs : List Content) (k : ℕ) (m : FloodMsg) → slice_get cs k ≡ Some (Flood m) →
    (j : ℕ) × (slice_get (floods_of cs) j ≡ Some m)
flood-among [] k m e = absurd (cc (e))
flood-among (Message q ∷ cs) zero m e = absurd (cc (e))
flood-among (Message q ∷ cs) (suc k) m e = flood-among cs k m e
flood-among (Flood n ∷ cs) zero m e = (0, cc)
flood-among (Flood n ∷ cs) (suc k) m e = let later = flood-among cs k m e in (suc later.0, later.1)

pub flood-sent : (cs : List Content) (k : ℕ) (m : FloodMsg) → numbered_at cs k ≡ Some (Flood m) →
    (j : ℕ) × (slice_get (floods_of cs) j ≡ Some m)
flood-sent cs zero m e = absurd (cc (e))
flood-sent cs (suc k) m e = flood-among cs k m e

pub is-made : (cs : List Content) (x : HopEnd) (k : ℕ) (p : Packet) → HasPackets cs x →
    numbered_at cs k ≡ Some (Message p) → IsPacketMade x p
is-made cs x zero p h e = absurd (cc (e))
is-made cs x (suc k) p h e =
    let f = among cs k p e in record { place = f.place; there = ap (λ ps. slice_get ps f.place) (sym h) ∙ f.there }
