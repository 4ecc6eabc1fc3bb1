-- Pairs of ends to which a schedule of the hop leads.
use Rattle.std.proofs.Common.{◌≡◌, ℕ, Bool, true, false, cond, List, [], ◌∷◌, ◌++◌, map, refl, ap, ◌∙◌}
use Rattle.std.specs.{Prelude.Some, List.slice_get}
use Rattle.ason_base.specs.{declared.messages.Msg.Msg, declared.messages.Packet.Packet}
use Rattle.hop_reliable.specs.Schedules.{West, East, HopEnd, HopPair, pair_start, Happening, Sends, Ticks, Takes, end_sends, end_ticks, end_takes, happens, after_schedule}
use Rattle.world_rules.specs.Worlds.{sends_all}

-- the two ends of one hop
abbrev pub hop_pair : HopEnd → HopEnd → HopPair
hop_pair x y = record { west = x; east = y }

pub record IsHopReached (s : HopPair) : Type 0 where
  pub schedule : List Happening
  pub leads : after_schedule pair_start schedule ≡ s

after_both : (s : HopPair) (es fs : List Happening) →
    after_schedule s (es ++ fs) ≡ after_schedule (after_schedule s es) fs
after_both s [] fs = refl
after_both s (e ∷ es) fs = after_both (happens s e) es fs

-- whatever happens next leads to such a pair again
reached_next : (s s' : HopPair) (fs : List Happening) → after_schedule s fs ≡ s' → IsHopReached s → IsHopReached s'
reached_next s s' fs leads r = record {
  schedule = r.schedule ++ fs;
  leads = after_both pair_start r.schedule fs ∙ ap (λ z. after_schedule z fs) r.leads ∙ leads;
}

pub reached-start : IsHopReached pair_start
reached-start = record { schedule = []; leads = refl }

-- One end or both send, or tick

sends_west : (ms : List Msg) (x y : HopEnd) →
    after_schedule (hop_pair x y) (map (Sends West) ms) ≡ hop_pair (sends_all ms x) y
sends_west [] x y = refl
sends_west (m ∷ ms) x y = sends_west ms (end_sends m x) y

sends_east : (ms : List Msg) (x y : HopEnd) →
    after_schedule (hop_pair x y) (map (Sends East) ms) ≡ hop_pair x (sends_all ms y)
sends_east [] x y = refl
sends_east (m ∷ ms) x y = sends_east ms x (end_sends m y)

pub reached-sends : (b c : Bool) (ms ns : List Msg) (x y : HopEnd) → IsHopReached (hop_pair x y) →
    IsHopReached (hop_pair (cond b (sends_all ms x) x) (cond c (sends_all ns y) y))
reached-sends b c ms ns x y r = east c (cond b (sends_all ms x) x) (west b)
  where
    west : (b : Bool) → IsHopReached (hop_pair (cond b (sends_all ms x) x) y)
    west true = reached_next (hop_pair x y) (hop_pair (sends_all ms x) y) (map (Sends West) ms) (sends_west ms x y) r
    west false = r

    east : (c : Bool) (z : HopEnd) → IsHopReached (hop_pair z y) → IsHopReached (hop_pair z (cond c (sends_all ns y) y))
    east true z f = reached_next (hop_pair z y) (hop_pair z (sends_all ns y)) (map (Sends East) ns) (sends_east ns z y) f
    east false z f = f

pub reached-ticks : (b c : Bool) (x y : HopEnd) → IsHopReached (hop_pair x y) →
    IsHopReached (hop_pair (cond b (end_ticks x) x) (cond c (end_ticks y) y))
reached-ticks b c x y r = east c (cond b (end_ticks x) x) (west b)
  where
    west : (b : Bool) → IsHopReached (hop_pair (cond b (end_ticks x) x) y)
    west true = reached_next (hop_pair x y) (hop_pair (end_ticks x) y) (Ticks West ∷ []) refl r
    west false = r

    east : (c : Bool) (z : HopEnd) → IsHopReached (hop_pair z y) → IsHopReached (hop_pair z (cond c (end_ticks y) y))
    east true z f = reached_next (hop_pair z y) (hop_pair z (end_ticks y)) (Ticks East ∷ []) refl f
    east false z f = f

-- One end takes a packet that the other made

pub reached-west : (x y : HopEnd) (k : ℕ) (p : Packet) → slice_get y.frames k ≡ Some p → IsHopReached (hop_pair x y) →
    IsHopReached (hop_pair (end_takes (Some p) x) y)
reached-west x y k p there r =
    reached_next (hop_pair x y) (hop_pair (end_takes (Some p) x) y) (Takes West k ∷ [])
    (ap (λ o. hop_pair (end_takes o x) y) there) r

pub reached-east : (x y : HopEnd) (k : ℕ) (p : Packet) → slice_get x.frames k ≡ Some p → IsHopReached (hop_pair x y) →
    IsHopReached (hop_pair x (end_takes (Some p) y))
reached-east x y k p there r =
    reached_next (hop_pair x y) (hop_pair x (end_takes (Some p) y)) (Takes East k ∷ [])
    (ap (λ o. hop_pair x (end_takes o y)) there) r
