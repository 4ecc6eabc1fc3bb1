-- The unacknowledged messages stand in order of number.
use Rattle.std.proofs.{Common.{◌≡◌, ℕ, ◌+◌, ◌<◌, ◌≤◌, zero, suc, not, Option, Some, None, List, [], ◌∷◌, ◌++◌, length, map, get_or, refl, subst, arith, append_assoc, append-nil}, lemmas.List.length-map, lemmas.List.Elements.{All-push, All-filter}, lemmas.List.Kept.AllPairs-filter, lemmas.List.Quantifiers.all_pairs_push}
use Rattle.std.specs.List.{slice_get}
use Rattle.ason_base.specs.{declared.messages.Msg.Msg, declared.messages.MsgId.MsgId, declared.messages.Packet.Packet}
use Rattle.hop_reliable.specs.{declared.unacked.Unacked.Unacked, Hop.{older, is_acked, still_unacked}, Order.{AreNumberedAfter, AreSentInOrder}, Schedules.{HopEnd, HopPair, idle, pair_start, Happening, West, East, Sends, Ticks, Takes, end_sends, end_ticks, end_takes, happens, after_schedule, UnackedRise}}

-- one more message is sent
pub sent-more : (sent : ℕ) (ws : List Unacked) (w : Unacked) → w.number ≡ sent + 1 → AreSentInOrder sent ws →
    AreSentInOrder (sent + 1) (ws ++ w ∷ [])
sent-more sent ws w next f = record {
  rising = all_pairs_push (λ u v. u.number < v.number) ws w f.rising
      (λ k d within. let old : (get_or ws k d).number ≤ sent = f.most k d within in omega arith);
  most = All-push (λ v. v.number ≤ sent + 1) ws w
      (λ k d within. let old : (get_or ws k d).number ≤ sent = f.most k d within in omega arith)
      (omega arith);
}

number-older : (ws : List Unacked) (k : ℕ) (d : Unacked) → (get_or (map older ws) k d).number ≡ (get_or ws k d).number
number-older [] k d = refl
number-older (w ∷ ws) zero d = refl
number-older (w ∷ ws) (suc k) d = number-older ws k d

-- each message is a tick older
pub aged-in_order : (sent : ℕ) (ws now : List Unacked) → now ≡ map older ws → AreSentInOrder sent ws →
    AreSentInOrder sent now
aged-in_order sent ws now aged f =
    let same_length : length (map older ws) ≡ length ws = length-map ws older in
    rw aged record {
      rising = λ i j d before within.
          rw (number-older ws i d, number-older ws j d) (f.rising i j d before (omega arith));
      most = λ k d within. rw (number-older ws k d) (f.most k d (omega arith));
    }

-- some messages are acknowledged
pub left-in_order : (sent : ℕ) (acks : List MsgId) (ws : List Unacked) → AreSentInOrder sent ws →
    AreSentInOrder sent (still_unacked acks ws)
left-in_order sent acks ws f = record {
  rising = AllPairs-filter (λ v w. v.number < w.number) (λ w. not (is_acked acks w)) ws f.rising;
  most = All-filter (λ w. not (is_acked acks w)) (λ w. w.number ≤ sent) ws f.most;
}

-- the messages with the next numbers are sent
pub all-sent : (sent : ℕ) (ws next : List Unacked) → AreSentInOrder sent ws → AreNumberedAfter sent next →
    AreSentInOrder (sent + length next) (ws ++ next)
all-sent sent ws [] f numbered = rw append-nil (subst (λ n. AreSentInOrder n ws) (omega arith) f)
all-sent sent ws (w ∷ next) f numbered =
    subst (λ vs. AreSentInOrder (sent + suc (length next)) vs) (append_assoc ws (w ∷ []) next)
    (subst (λ n. AreSentInOrder n ((ws ++ w ∷ []) ++ next)) (omega arith)
    (all-sent (sent + 1) (ws ++ w ∷ []) next (sent-more sent ws w numbered.0 f) numbered.1))

-- one more message is prepared
pub next-more : (n : ℕ) (ws : List Unacked) (w : Unacked) → w.number ≡ n + length ws + 1 → AreNumberedAfter n ws →
    AreNumberedAfter n (ws ++ w ∷ [])
next-more n [] w is numbered = (omega arith, tt)
next-more n (v ∷ ws) w is numbered = (numbered.0, next-more (n + 1) ws w (omega arith) numbered.1)

Ordered : HopEnd → Type 0
Ordered e = AreSentInOrder e.hop.sent e.hop.unacked

ordered-sends : (m : Msg) (e : HopEnd) → Ordered e → Ordered (end_sends m e)
unfolding Ordered
ordered-sends m e f =
    sent-more e.hop.sent e.hop.unacked (record { number = e.hop.sent + 1; age = 0; msg = m }) refl f

ordered-ticks : (e : HopEnd) → Ordered e → Ordered (end_ticks e)
unfolding Ordered
ordered-ticks e f = aged-in_order e.hop.sent e.hop.unacked (map older e.hop.unacked) refl f

ordered-takes : (o : Option Packet) (e : HopEnd) → Ordered e → Ordered (end_takes o e)
unfolding Ordered
ordered-takes None e f = f
ordered-takes (Some p) e f = left-in_order e.hop.sent p.acks e.hop.unacked f

record BothOrdered (s : HopPair) : Type 0 where
  pub west : Ordered s.west
  pub east : Ordered s.east

ordered-happens : (s : HopPair) (e : Happening) → BothOrdered s → BothOrdered (happens s e)
ordered-happens s (Sends West m) f = record { west = ordered-sends m s.west f.west; east = f.east }
ordered-happens s (Sends East m) f = record { west = f.west; east = ordered-sends m s.east f.east }
ordered-happens s (Ticks West) f = record { west = ordered-ticks s.west f.west; east = f.east }
ordered-happens s (Ticks East) f = record { west = f.west; east = ordered-ticks s.east f.east }
ordered-happens s (Takes West k) f = record {
  west = ordered-takes (slice_get s.east.frames k) s.west f.west;
  east =
      f.east;
}
ordered-happens s (Takes East k) f = record {
  west = f.west;
  east =
      ordered-takes (slice_get s.west.frames k) s.east f.east;
}

ordered-after : (s : HopPair) (es : List Happening) → BothOrdered s → BothOrdered (after_schedule s es)
ordered-after s [] f = f
ordered-after s (e ∷ es) f = ordered-after (happens s e) es (ordered-happens s e f)

ordered-idle : Ordered idle
unfolding Ordered
ordered-idle = record {
  rising = λ i j d before within. absurd (omega arith);
  most =
      λ k d within. absurd (omega arith);
}

pub unacked_rise : UnackedRise
unfolding Ordered
unacked_rise es =
    let f : BothOrdered (after_schedule pair_start es) = ordered-after pair_start es
    (record { west = ordered-idle; east = ordered-idle }) in
    (f.west.rising, f.east.rising)
