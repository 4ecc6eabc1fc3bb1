-- The stations of a fleet after a round, as the fleet has them.
use Rattle.std.proofs.Common.{◌≡◌, ℕ, List, ◌++◌, length, take, drop, sym, ap, ◌∙◌, subst}
use Rattle.std.specs.Prelude.{Result}
use Rattle.round_rules.specs.States.{StationState}
use Rattle.fleet.specs.{declared.fleet.RoundFault.RoundFault, declared.seats.Seat.Seat, Connections.AreSettled, Rounds.{EndsRound, Rounds}, Standing.{FleetState, StandsFor}, Turning.RoundsOf}
use Rattle.fleet.proofs.{KeptSeats.seats-count, Splitting.whole}

-- as many stations stand in their place
pub filled : (ss seats : List Seat) (old now : List StationState) (count : ℕ) → ss ≡ seats → AreSettled seats old →
    AreSettled ss now → count ≡ length old → now ≡ take count (now ++ drop (length now) old)
filled ss seats old now count same was is counted =
    whole now old count (seats-count ss now is ∙ ap length same ∙ sym (seats-count seats old was) ∙ sym counted)

pub filled-settled : (ss seats : List Seat) (old now : List StationState) (count : ℕ) → ss ≡ seats →
    AreSettled seats old → AreSettled ss now → count ≡ length old →
    AreSettled seats (take count (now ++ drop (length now) old))
filled-settled ss seats old now count same was is counted =
    subst (AreSettled seats) (filled ss seats old now count same was is counted)
    (subst (λ xs. AreSettled xs now) same is)

pub fleet-rounds : (f old : FleetState) (ss : List Seat) (xs zs ys : List StationState) (k workers : ℕ)
    (answer : Result ℕ RoundFault) → f ≡ old → ss ≡ f.seats → xs ≡ f.stations → k ≡ workers → zs ≡ ys →
    RoundsOf k ss xs zs answer → Rounds workers old (record f { stations = ys }) answer
fleet-rounds f old ss xs zs ys k workers answer same seats stations many are rounds t lines r s =
    subst (λ j. EndsRound t lines j r (record f { stations = ys }) answer) many
    (subst (λ ks. EndsRound t lines k r (record f { stations = ks }) answer) are
    (rounds f (sym seats) (sym stations) t lines r (subst (λ g. StandsFor t lines g r) (sym same) s)))
