-- A round with one worker, while it is under way, and how it ends.
use Rattle.std.proofs.Common.{◌≡◌, ◌≤◌, ◌+◌, ◌-◌, ℕ, suc, true, List, [], ◌∷◌, length, take, refl, sym, ap, ◌∙◌, subst, arith, append-nil}
use Rattle.std.specs.Prelude.{Some, None, Option, Ok, Err}
use Rattle.ason_base.specs.{declared.limits.TheConstants.MOST_EVENTS, declared.ids.NodeId.NodeId, declared.commands.Disturb.Disturb, Network.Network}
use Rattle.round_rules.specs.{PartLimits.IsAtLimit, States.StationState, Turned.{comes_to_end, is_at_limit, is_starved}, declared.turns.Turn.Turn, OneWorker.ids_of, Records.Record, Fleets.{HasGrown, Wires}, FleetOneWorker.IsUnderWay}
use Rattle.round_rules.specs.declared.turns.Turn.TheVariants as turn
use Rattle.fleet.specs.{declared.fleet.RoundFault.RoundFault, RoundLaws.RoundLaws, Rounds.EndsRound, Standing.{FleetState, StandsFor}, Turning.{TurnsAt, fault_after, line_count}}
use Rattle.fleet.specs.declared.fleet.RoundFault.TheVariants as fault
use Rattle.fleet.proofs.{Counted.lines-counted, Following.{few-posts, follows}, InOrder.{alone, begun-now, begun-turned, goes-on, grown-twice, stands-now, station-before, two}, Places.set-there, Turning.turns-limit}
use Rattle.ason_base.proofs.Places.{all-at}

-- the nodes at the first so many places made their turns
pub record IsUnder (t : Network) (lines : List Disturb) (r : Record) (count : ℕ) (xs : List StationState) : Type 0 where
  pub made : Record
  pub wires : Wires
  pub way : IsUnderWay t lines r (take count (ids_of t)) made wires xs
  pub grown : (m : ℕ) → HasGrown r made m

pub under-none : (t : Network) (lines : List Disturb) (f : FleetState) (r : Record) → RoundLaws →
    StandsFor t lines f r →
    IsUnder t lines r 0 f.stations
under-none t lines f r laws s = record {
  made = r;
  wires = s.wires;
  way = subst (λ ns. IsUnderWay t lines r ns r s.wires f.stations) (none (ids_of t))
      (laws.begins t lines r s.wires f.stations s.stations s.begun);
  grown = λ m. record { added = []; all = sym (append-nil (r.doings m)); no_post = refl };
}
  where
    none : (ns : List NodeId) → [] ≡ take 0 ns
    none [] = refl
    none (n ∷ ns) = refl

pub came-to-end : (e : Turn) (n : NodeId) → None ≡ fault_after e n → comes_to_end e ≡ true
came-to-end (turn.Worked k) n none = refl
came-to-end turn.Idle n none = refl
came-to-end turn.AtLimit n none = absurd (cc (none))
came-to-end turn.Starved n none = absurd (cc (none))

-- One station's turns

module _ (t : Network) (lines : List Disturb) (f : FleetState) (r : Record) (place stride : ℕ)
    (xs zs : List StationState) (answer : Option RoundFault) (laws : RoundLaws) (s : StandsFor t lines f r)
    (under : IsUnder t lines r place xs) (is : TurnsAt f.seats place stride xs zs answer) where
  abbrev now : (m : ℕ) → HasGrown under.made (alone t lines f.seats r place stride xs zs answer laws s.seats under.made
      under.wires under.way is).after m
  now m = (alone t lines f.seats r place stride xs zs answer laws s.seats under.made under.wires under.way is).grown m

  after : Record
  after = (alone t lines f.seats r place stride xs zs answer laws s.seats under.made under.wires under.way is).after

  grown : (m : ℕ) → HasGrown r after m
  unfolding after
  grown m = grown-twice r under.made after m (under.grown m) (now m)

  stands : StandsFor t lines (record f { stations = zs }) after
  unfolding after
  stands =
      follows t lines f r after
      (two t lines f.seats r place stride xs zs answer laws s.seats under.made under.wires under.way is).wires_now zs
      laws.posts laws.follow s grown
      (stands-now t lines f.seats r place stride xs zs answer laws s.seats under.made under.wires under.way is)
      (begun-now t lines f.seats r place stride xs zs answer laws s.seats under.made under.wires under.way is)

  pub under-next : None ≡ answer → IsUnder t lines r (suc place) zs
  unfolding after
  under-next none = record {
    made = after;
    wires = (two t lines f.seats r place stride xs zs answer laws s.seats under.made under.wires under.way
        is).wires_now;
    way = goes-on t lines f.seats r place stride xs zs answer laws s.seats under.made under.wires under.way is
        (came-to-end is.after.answer is.seat.id (none ∙ is.answers));
    grown = grown;
  }

  -- at the limit the log is full
  full : is_at_limit is.after.answer ≡ true → length is.after.log ≡ MOST_EVENTS
  unfolding after
  full limit =
      all-at (λ (x : StationState). IsAtLimit x → length x.log ≡ MOST_EVENTS) _ place is.after
      (laws.limits t lines after _ _
      (alone t lines f.seats r place stride xs zs answer laws s.seats under.made under.wires under.way is).stands
      (begun-turned t lines f.seats r place stride xs zs answer laws s.seats under.made under.wires under.way is)
      (laws.follow t r after grown s.follow) (few-posts t lines f r after s grown))
      (set-there is.looked place is.before is.after is.there)
      (turns-limit stride true is.before is.after is.after.answer is.turns limit t is.seat.id
      (under.made.doings is.seat.id.0)
      (station-before t lines f.seats r place stride xs zs answer laws s.seats under.made under.wires under.way
      is).station)

  pub under-fault : (e : RoundFault) → Some e ≡ answer → EndsRound t lines 1 r (record f { stations = zs }) (Err e)
  unfolding after
  under-fault e same = go is.after.answer refl (same ∙ is.answers)
    where
      go : (end : Turn) → is.after.answer ≡ end → Some e ≡ fault_after end is.seat.id →
          EndsRound t lines 1 r (record f { stations = zs }) (Err e)
      go (turn.Worked k) at h = absurd (cc (h))
      go turn.Idle at h = absurd (cc (h))
      go turn.AtLimit at h =
          let limit : fault.AtLimit is.seat.id ≡ e = cc (h) in
          subst (λ d. EndsRound t lines 1 r (record f { stations = zs }) (Err d)) limit (record {
            after = after;
            stands = stands;
            unfinished =
                (alone t lines f.seats r place stride xs zs answer laws s.seats under.made under.wires under.way
                is).ends
                (λ u channel. begun-turned t lines f.seats r place stride xs zs answer laws s.seats under.made
                under.wires under.way is u is.seat.id channel)
                (record { fed = ap is_starved at; full = full }) (ap is_at_limit at);
          })
      go turn.Starved at h =
          let starved : fault.Starved ≡ e = cc (h) in
          subst (λ d. EndsRound t lines 1 r (record f { stations = zs }) (Err d)) starved
          (record { after = after; stands = stands; grown = grown })

-- All stations

all_taken : (ns : List NodeId) → take (length ns) ns ≡ ns
all_taken [] = refl
all_taken (n ∷ ns) = ap (λ ks. n ∷ ks) (all_taken ns)

pub under-end : (t : Network) (lines : List Disturb) (f : FleetState) (r : Record) (zs : List StationState)
    (count : ℕ) →
    RoundLaws → StandsFor t lines f r → IsUnder t lines r count zs → count ≡ length (ids_of t) →
    line_count f.stations ≤ line_count zs →
    EndsRound t lines 1 r (record f { stations = zs }) (Ok (line_count zs - line_count f.stations))
under-end t lines f r zs count laws s under whole more = record {
  after = under.made;
  stands = follows t lines f r under.made under.wires zs laws.posts laws.follow s under.grown way.stands way.begun;
  round = laws.ends t lines r under.made under.wires zs way;
  written =
      numbers _ _ _ _ (lines-counted t lines r s.wires f.stations s.stations)
      (lines-counted t lines under.made under.wires zs way.stands) more;
}
  where
    way : IsUnderWay t lines r (ids_of t) under.made under.wires zs
    way = subst (λ ns. IsUnderWay t lines r ns under.made under.wires zs)
        (ap (λ k. take k (ids_of t)) whole ∙ all_taken (ids_of t)) under.way

    numbers : (a b x y : ℕ) → a ≡ x → b ≡ y → a ≤ b → y ≡ x + (b - a)
    numbers a b x y p q h = omega (arith, p, q, h)
