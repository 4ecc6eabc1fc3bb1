-- Turns of all stations, between looks at all rings, are a round.
use Rattle.std.proofs.Common.{◌≡◌, ℕ, List, [], ◌∷◌, map, refl, ap, subst}
use Rattle.ason_base.specs.{declared.commands.Disturb.Disturb, Network.Network}
use Rattle.round_rules.specs.{States.StationState, Records.Record, Fleets.{AreKnown, AreStanding, Wires, AllBegun}, Rounding.AreRoundsMade, FleetTurns.{AfterTurns, HasMadeRound}}
use Rattle.round_rules.proofs.Choosing.{zip-mapped}
use Rattle.fleet.specs.{Connections.AreConnected, Looks.{HaveLooked, IsAny, LooksOver}, RoundLaws.RoundLaws, Standing.{FleetState, StandsFor}, Turning.HaveTurned}
use Rattle.fleet.proofs.{Connected.{standing-connected, standing-links}, LooksTwice.looked-connected, Rewired.turned-connected}

-- a station after its turns
abbrev pub after-turns : StationState → AfterTurns
after-turns s = record { station = s; end = s.answer }

stations_are : (ys : List StationState) → map (λ (y : AfterTurns). y.station) (map after-turns ys) ≡ ys
stations_are [] = refl
stations_are (y ∷ ys) = ap (λ zs. y ∷ zs) (stations_are ys)

-- The stations once they looked, made their turns and looked again: they stand for a record, and all is known.
pub record AreRounded (t : Network) (lines : List Disturb) (r : Record) (stride : ℕ)
    (ys zs : List StationState) : Type 0
  where
    pub before : List StationState
    pub wires_before : Wires
    pub stood : AreStanding t lines r wires_before before
    pub turned : HaveTurned stride before ys
    pub made : AreRoundsMade t lines r (map after-turns ys)
    pub turned_stand : AreStanding t lines made.after made.wires_after ys
    pub turned_begun : AllBegun t made.wires_after
    pub wires_now : Wires
    pub stand : AreStanding t lines made.after wires_now zs
    pub known : AreKnown t wires_now
    pub begun : AllBegun t wires_now

pub rounded : (t : Network) (lines : List Disturb) (f : FleetState) (r : Record) (stride : ℕ)
    (xs ys zs : List StationState) → RoundLaws → StandsFor t lines f r → LooksOver f.seats IsAny f.stations xs →
    HaveTurned stride xs ys → LooksOver f.seats IsAny ys zs → AreRounded t lines r stride ys zs
rounded t lines f r stride xs ys zs laws s first turns second = record {
  before = xs;
  wires_before = one.wires_now;
  stood = stood;
  turned = turns;
  made = made;
  turned_stand = turned_stand;
  turned_begun = λ u d channel. laws.had_begun made.wires_after two.wires_now u d (two.seen u d channel channel);
  wires_now = two.wires_now;
  stand =
      laws.stands t lines made.after made.wires_after two.wires_now ys zs turned_stand two.kept two.links two.ways;
  known = λ u d channel. laws.tells made.wires_after two.wires_now u d (two.seen u d channel channel);
  begun = λ u d channel. laws.begun two.wires_now u d
      (laws.tells made.wires_after two.wires_now u d (two.seen u d channel channel));
}
  where
    all : AreConnected t f.seats f.stations
    all = standing-connected t lines f.seats r s.wires f.stations s.seats s.stations

    one : HaveLooked t s.wires f.stations xs (IsAny t)
    one = first t all s.wires (standing-links t lines r s.wires f.stations s.stations)

    stood : AreStanding t lines r one.wires_now xs
    stood = laws.stands t lines r s.wires one.wires_now f.stations xs s.stations one.kept one.links one.ways

    made : AreRoundsMade t lines r (map after-turns ys)
    made = laws.round t lines r one.wires_now stride xs (map after-turns ys) stood
        (λ u d channel. laws.tells s.wires one.wires_now u d (one.seen u d channel channel))
        (zip-mapped (HasMadeRound stride) after-turns xs ys turns)

    turned_stand : AreStanding t lines made.after made.wires_after ys
    turned_stand = subst (AreStanding t lines made.after made.wires_after) (stations_are ys) made.stands

    now : AreConnected t f.seats ys
    now = turned-connected t f.seats stride xs ys (looked-connected t f.seats f.stations xs IsAny all first) turns

    two : HaveLooked t made.wires_after ys zs (IsAny t)
    two = second t now made.wires_after (standing-links t lines made.after made.wires_after ys turned_stand)
