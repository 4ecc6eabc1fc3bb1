-- A round on threads, of whatever fleet has these seats and stations.
use Rattle.std.proofs.Common.{◌≡◌, ◌≤◌, ◌-◌, ℕ, List, sym, ap, ◌∙◌, subst}
use Rattle.std.specs.Prelude.{None, Some, Ok, Err}
use Rattle.ason_base.specs.{declared.commands.Disturb.Disturb, Network.Network}
use Rattle.round_rules.specs.{States.StationState, Records.Record}
use Rattle.fleet.specs.{declared.fleet.RoundFault.RoundFault, declared.seats.Seat.Seat, Connections.{AreConnected, AreSettled}, Looks.{IsAny, LooksOver}, RoundLaws.RoundLaws, Rounds.EndsRound, Standing.{FleetState, StandsFor}, Turning.{HaveTurned, RoundsOf, fault_of, line_count}}
use Rattle.fleet.proofs.{Answered.{HaveEnded, answers-count, answers-fault, no-fault}, Counted.{count-more, kept-count, turned-more}, Ended.all-end, KeptSeats.connected-count, OnThreads.{AreRounded, rounded}, Rewired.turned-connected, Settled.over-settled}

module _ (seats : List Seat) (xs ys zs : List StationState) (stride : ℕ) (laws : RoundLaws)
    (all : AreSettled seats xs) (turned : HaveTurned stride xs ys) (looks : LooksOver seats IsAny ys zs) where
  -- looks at the rings of the same fleet
  looks_of : (f : FleetState) → f.seats ≡ seats → (a b : List StationState) → LooksOver seats IsAny a b →
      LooksOver f.seats IsAny a b
  looks_of f same a b over = subst (λ ss. LooksOver ss IsAny a b) (sym same) over

  is_round : (f : FleetState) → f.seats ≡ seats → f.stations ≡ xs → (t : Network) (lines : List Disturb) (r : Record) →
      StandsFor t lines f r → AreRounded t lines r stride ys zs
  is_round f p q t lines r s =
      rounded t lines f r stride xs ys zs laws s
      (subst (λ ss. LooksOver f.seats IsAny ss xs) (sym q) (looks_of f p xs xs (over-settled seats xs all IsAny)))
      turned (looks_of f p ys zs looks)

  pub rounds-fault : (workers : ℕ) → 2 ≤ workers → (e : RoundFault) → Some e ≡ fault_of seats ys →
      RoundsOf workers seats xs zs (Err e)
  rounds-fault workers many e same f p q t lines r s =
      answers-fault t lines f r stride workers ys zs laws s (is_round f p q t lines r s) many e
      (same ∙ ap (λ ss. fault_of ss ys) (sym p))

  now : AreConnected all.0 seats ys
  now = turned-connected all.0 seats stride xs ys all.1.connected turned

  ended : None ≡ fault_of seats ys → HaveEnded ys
  ended none = no-fault all.0 seats ys now.seated (connected-count all.0 seats ys now) none

  pub rounds-more : None ≡ fault_of seats ys → line_count xs ≤ line_count zs
  rounds-more none =
      let is = ended none in
      subst (λ k. line_count xs ≤ k) (sym (kept-count ys zs (looks all.0 now now.wires now.wired.links).kept))
      (count-more xs ys (turned-more stride xs ys turned (all-end ys is.fed is.free)))

  pub rounds-count : (workers : ℕ) → 2 ≤ workers → None ≡ fault_of seats ys → (a b : ℕ) → a ≡ line_count zs →
      b ≡ line_count xs → RoundsOf workers seats xs zs (Ok (a - b))
  rounds-count workers many none a b p q f seated stations t lines r s =
      subst (λ k. EndsRound t lines workers r (record f { stations = zs }) (Ok k))
      (sym (ap (λ k. k - b) p ∙ ap (λ k. line_count zs - k) (q ∙ ap line_count (sym stations))))
      (answers-count t lines f r stride workers ys zs laws s (is_round f seated stations t lines r s) many
      (ended none) (subst (λ ss. line_count ss ≤ line_count zs) (sym stations) (rounds-more none)))
