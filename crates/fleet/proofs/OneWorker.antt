-- A round with one worker, of whatever fleet has these seats and stations.
use Rattle.std.proofs.Common.{◌≡◌, ◌≤◌, ◌+◌, ◌-◌, ℕ, suc, true, List, length, refl, sym, ap, ◌∙◌, subst, arith}
use Rattle.std.specs.Prelude.{None, Some, Ok, Err, Option, slice_set}
use Rattle.ason_base.specs.{declared.commands.Disturb.Disturb, Network.Network}
use Rattle.round_rules.specs.{States.StationState, Records.Record}
use Rattle.fleet.specs.{declared.fleet.RoundFault.RoundFault, declared.seats.Seat.Seat, Connections.{AreConnected, AreSettled}, Looks.{HaveLooked, IsAround}, RoundLaws.RoundLaws, Rounds.EndsRound, Standing.{FleetState, StandsFor}, Turning.{RoundsOf, TurnsAt, line_count}}
use Rattle.fleet.proofs.{Around.seats-count, Counted.{count-more, kept-count}, LooksTwice.looked-connected, Ordered.{IsUnder, came-to-end, under-end, under-fault, under-next, under-none}, Places.zip-set, Rewired.turn-connected, Turning.turns-grow}

-- the stations at the first so many places made their turns
pub record AreUnder (seats : List Seat) (old : List StationState) (count : ℕ) (now : List StationState) : Type 0 where
  pub under : (f : FleetState) → f.seats ≡ seats → f.stations ≡ old → (t : Network) (lines : List Disturb)
      (r : Record) → StandsFor t lines f r → IsUnder t lines r count now
  pub more : line_count old ≤ line_count now

pub are-none : (seats : List Seat) (xs : List StationState) → RoundLaws → AreUnder seats xs 0 xs
are-none seats xs laws = record {
  under = λ f p q t lines r s. subst (IsUnder t lines r 0) q (under-none t lines f r laws s);
  more = same (line_count xs);
}
  where
    same : (k : ℕ) → k ≤ k
    same k = omega arith

-- the same station's turns in another fleet with these seats
turns_of : (seats ss : List Seat) (place stride : ℕ) (ys zs : List StationState) (answer : Option RoundFault) →
    ss ≡ seats → TurnsAt seats place stride ys zs answer → TurnsAt ss place stride ys zs answer
turns_of seats ss place stride ys zs answer same is =
    subst (λ xs. TurnsAt xs place stride ys zs answer) (sym same) is

self_more : (s : StationState) → length s.log ≤ length s.log
self_more s = omega arith

turn_more : (seats : List Seat) (place stride : ℕ) (ys zs : List StationState) → AreSettled seats ys →
    TurnsAt seats place stride ys zs None → line_count ys ≤ line_count zs
turn_more seats place stride ys zs all is =
    subst (λ k. k ≤ line_count zs) (kept-count ys is.looked one.kept)
    (subst (λ k. line_count is.looked ≤ k) (sym (kept-count (slice_set is.looked place is.after) zs two.kept))
    (count-more is.looked (slice_set is.looked place is.after)
    (zip-set (λ (x y : StationState). length x.log ≤ length y.log) self_more is.looked place is.before is.after is.there
    (turns-grow stride true is.before is.after is.after.answer is.turns
    (came-to-end is.after.answer is.seat.id is.answers)))))
  where
    one : HaveLooked all.0 all.1.wires ys is.looked (IsAround place all.0)
    one = is.first all.0 all.1.connected all.1.wires all.1.links

    now : AreConnected all.0 seats (slice_set is.looked place is.after)
    now =
        turn-connected all.0 seats is.looked place stride is.before is.after
        (looked-connected all.0 seats ys is.looked (IsAround place) all.1.connected is.first) is.there is.turns

    two : HaveLooked all.0 now.wires (slice_set is.looked place is.after) zs (IsAround place all.0)
    two = is.second all.0 now now.wires now.wired.links

pub are-next : (seats : List Seat) (xs ys zs : List StationState) (place stride : ℕ) → RoundLaws → AreSettled seats ys →
    AreUnder seats xs place ys → TurnsAt seats place stride ys zs None → AreUnder seats xs (place + 1) zs
are-next seats xs ys zs place stride laws all under is = record {
  under = λ f p q t lines r s.
      subst (λ k. IsUnder t lines r k zs) (one_more place)
      (under-next t lines f r place stride ys zs None laws s (under.under f p q t lines r s)
      (turns_of seats f.seats place stride ys zs None p is) refl);
  more = trans (line_count xs) (line_count ys) (line_count zs) under.more (turn_more seats place stride ys zs all is);
}
  where
    one_more : (k : ℕ) → suc k ≡ k + 1
    one_more k = omega arith

    trans : (a b c : ℕ) → a ≤ b → b ≤ c → a ≤ c
    trans a b c p q = omega (arith, p, q)

pub are-cut : (seats : List Seat) (xs ys zs : List StationState) (place stride : ℕ) (e : RoundFault) → RoundLaws →
    AreUnder seats xs place ys → TurnsAt seats place stride ys zs (Some e) → RoundsOf 1 seats xs zs (Err e)
are-cut seats xs ys zs place stride e laws under is f p q t lines r s =
    under-fault t lines f r place stride ys zs (Some e) laws s (under.under f p q t lines r s)
    (turns_of seats f.seats place stride ys zs (Some e) p is) e refl

pub are-all : (seats : List Seat) (xs zs : List StationState) (count : ℕ) → RoundLaws → AreUnder seats xs count zs →
    count ≡ length seats → (a b : ℕ) → a ≡ line_count zs → b ≡ line_count xs → RoundsOf 1 seats xs zs (Ok (a - b))
are-all seats xs zs count laws under whole a b p q f seated stations t lines r s =
    subst (λ k. EndsRound t lines 1 r (record f { stations = zs }) (Ok k))
    (sym (ap (λ k. k - b) p ∙ ap (λ k. line_count zs - k) (q ∙ ap line_count (sym stations))))
    (under-end t lines f r zs count laws s (under.under f seated stations t lines r s)
    (whole ∙ ap length (sym seated) ∙ seats-count t f.seats s.seats)
    (subst (λ ss. line_count ss ≤ line_count zs) (sym stations) under.more))
