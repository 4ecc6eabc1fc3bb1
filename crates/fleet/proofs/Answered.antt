-- What a round on threads answers.
use Rattle.std.proofs.{Common.{◌≡◌, ◌≤◌, ◌<◌, ◌+◌, ◌-◌, ℕ, Bool, true, false, List, length, refl, sym, ap, ◌∙◌, subst, arith}, lemmas.Option.slice_get_within}
use Rattle.std.specs.{Prelude.{Some, None, Option, Ok, Err, position, slice_get}, List.{AllByRecursion, list_any}}
use Rattle.ason_base.specs.{declared.commands.Disturb.Disturb, Network.Network}
use Rattle.ason_base.proofs.Places.{there-at}
use Rattle.round_rules.specs.{States.StationState, OneWorker.ids_of, Records.Record}
use Rattle.fleet.specs.{declared.fleet.RoundFault.RoundFault, declared.seats.Seat.Seat, RoundLaws.RoundLaws, Rounds.{CutsRound, EndsRound}, Standing.{AreSeats, FleetState, StandsFor}, Turning.{fault_by, fault_of, limit_at, limit_of, line_count, was_at_limit, was_starved}}
use Rattle.fleet.specs.declared.fleet.RoundFault.TheVariants as fault
use Rattle.fleet.proofs.{Counted.lines-counted, Ended.{round-cut, round-ended}, Firsts.{first-at, none-any, none-passes}, Following.{few-posts, follows}, OnThreads.AreRounded, Places.get-map}

-- no station ended its turns before their end
pub record HaveEnded (ys : List StationState) : Type 0 where
  pub fed : AllByRecursion (λ s. was_starved s ≡ false) ys
  pub free : AllByRecursion (λ s. was_at_limit s ≡ false) ys

-- Each place of a seat is that of its node.
pub seat-id : (t : Network) (seats : List Seat) (k : ℕ) (s : Seat) → AreSeats t seats → slice_get seats k ≡ Some s →
    slice_get (ids_of t) k ≡ Some s.id
seat-id t seats k s are at =
    ap (λ ids. slice_get ids k) (sym are.ids) ∙ get-map (λ (x : Seat). x.id) seats k s at

module _ (t : Network) (lines : List Disturb) (f : FleetState) (r : Record) (stride workers : ℕ)
    (ys zs : List StationState) (laws : RoundLaws) (s : StandsFor t lines f r)
    (is : AreRounded t lines r stride ys zs) (many : 2 ≤ workers) where
  abbrev new : FleetState
  new = record f { stations = zs }

  pub now-stands : StandsFor t lines (record f { stations = zs }) is.made.after
  now-stands =
      follows t lines f r is.made.after is.wires_now zs laws.posts laws.follow s is.made.grown is.stand is.begun

  limit : (k : ℕ) (x : Seat) → list_any was_starved ys ≡ false → position was_at_limit ys ≡ Some k →
      slice_get f.seats k ≡ Some x → CutsRound t lines workers r new x.id
  limit k x fed at seat = record {
    after = is.made.after;
    stands = now-stands;
    unfinished =
        round-cut t lines r stride ys zs is workers many
        (laws.limits t lines is.made.after is.made.wires_after ys is.turned_stand is.turned_begun
        (laws.follow t r is.made.after is.made.grown s.follow) (few-posts t lines f r is.made.after s is.made.grown))
        (none-any was_starved ys fed) k x.id (seat-id t f.seats k x s.seats seat) (first-at was_at_limit ys k at);
  }

  at_limit : (e : RoundFault) (k : ℕ) → list_any was_starved ys ≡ false → position was_at_limit ys ≡ Some k →
      (o : Option Seat) → slice_get f.seats k ≡ o → Some e ≡ limit_of o → EndsRound t lines workers r new (Err e)
  at_limit e k fed at (Some x) seat same =
      let is_limit : fault.AtLimit x.id ≡ e = cc (same) in
      subst (λ d. EndsRound t lines workers r new (Err d)) is_limit (limit k x fed at seat)
  at_limit e k fed at None seat same = absurd (cc (same))

  not_starved : (e : RoundFault) → list_any was_starved ys ≡ false → (o : Option ℕ) →
      position was_at_limit ys ≡ o → Some e ≡ limit_at f.seats o → EndsRound t lines workers r new (Err e)
  not_starved e fed None at same = absurd (cc (same))
  not_starved e fed (Some k) at same = at_limit e k fed at (slice_get f.seats k) refl same

  pub answers-fault : (e : RoundFault) → Some e ≡ fault_of f.seats ys →
      EndsRound t lines workers r (record f { stations = zs }) (Err e)
  answers-fault e same = go (list_any was_starved ys) refl same
    where
      go : (b : Bool) → list_any was_starved ys ≡ b →
          Some e ≡ fault_by b (limit_at f.seats (position was_at_limit ys)) →
          EndsRound t lines workers r new (Err e)
      go true starved h =
          let is_starved : fault.Starved ≡ e = cc (h) in
          subst (λ d. EndsRound t lines workers r new (Err d)) is_starved
          (record { after = is.made.after; stands = now-stands; grown = is.made.grown })
      go false fed h = not_starved e fed (position was_at_limit ys) refl h

  pub answers-count : HaveEnded ys → line_count f.stations ≤ line_count zs →
      EndsRound t lines workers r (record f { stations = zs }) (Ok (line_count zs - line_count f.stations))
  answers-count ended more = record {
    after = is.made.after;
    stands = now-stands;
    round = round-ended t lines r stride workers ys zs many is ended.fed ended.free;
    written =
        numbers _ _ _ _ (lines-counted t lines r s.wires f.stations s.stations)
        (lines-counted t lines is.made.after is.wires_now zs is.stand) more;
  }
    where
      numbers : (a b x y : ℕ) → a ≡ x → b ≡ y → a ≤ b → y ≡ x + (b - a)
      numbers a b x y p q h = omega (arith, p, q, h)

-- where no fault is told each came to its end
pub no-fault : (t : Network) (seats : List Seat) (ys : List StationState) → AreSeats t seats →
    length ys ≡ length seats → None ≡ fault_of seats ys → HaveEnded ys
no-fault t seats ys are count none = go (list_any was_starved ys) refl none
  where
    seated : (k : ℕ) → position was_at_limit ys ≡ Some k → (o : Option Seat) → slice_get seats k ≡ o →
        None ≡ limit_of o →
        HaveEnded ys
    seated k at (Some x) seat h = absurd (cc (h))
    seated k at None seat h =
        let first = first-at was_at_limit ys k at in
        let there = there-at seats k (subst (λ m. k < m) count (slice_get_within ys k first.item first.is)) in
        absurd (cc (seat, there.1))

    fed_all : list_any was_starved ys ≡ false → (o : Option ℕ) → position was_at_limit ys ≡ o →
        None ≡ limit_at seats o → HaveEnded ys
    fed_all fed None at h = record { fed = none-any was_starved ys fed; free = none-passes was_at_limit ys at }
    fed_all fed (Some k) at h = seated k at (slice_get seats k) refl h

    go : (b : Bool) → list_any was_starved ys ≡ b → None ≡ fault_by b (limit_at seats (position was_at_limit ys)) →
        HaveEnded ys
    go true starved h = absurd (cc (h))
    go false fed h = fed_all fed (position was_at_limit ys) refl h
