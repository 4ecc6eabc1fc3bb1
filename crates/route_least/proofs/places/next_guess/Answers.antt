use Rattle.std.proofs.Common.{◌≡◌, ◌≤◌, ◌%◌, length, slice_index_or, sym, subst, arith}
use Rattle.route_least.specs.{declared.places.TheConstants.GUESSES, Network.HasSeated}
use Rattle.route_least.proofs.{Guesses.{guessed, unguessed}, places.next_guess.Goals.{then-guesses-remainder+in_ok-place, else-guesses-remainder+in_ok-place-2}}
use Rattle.route_least.proofs.places.next_guess.Goals as goal

pub new_seat-requires-clause-absent : goal.new_seat-requires-clause-absent
new_seat-requires-clause-absent c =
    let len : length c.args.places.now.items ≡ c.len.result = omega arith in
    unguessed c.args.places.now.items c.args.guesses.now c.args.node c.requires.guesses
    (subst (λ n. n ≤ slice_index_or c.args.guesses.now (c.args.node.0 % GUESSES) 0)
    (sym len) c.if-guesses-remainder.false)

pub returns-clause-seated : goal.returns-clause-seated
returns-clause-seated c =
    let old = c.args.places.now.items in
    elim c.if-guesses-remainder.branch [
      | then-guesses-remainder+in_ok-place w ↦
          subst (λ v. HasSeated old v.items c.args.node c.if-guesses-remainder.place) (sym w.places-is)
          (subst (HasSeated old w.seat.new.places.items c.args.node) (sym w.place-is) w.in_ok-place.ensures)
      | else-guesses-remainder+in_ok-place-2 w ↦
          subst (λ v. HasSeated old v.items c.args.node c.if-guesses-remainder.place) (sym w.places-is)
          (subst (HasSeated old w.new_seat.new.places.items c.args.node) (sym w.place-is) w.in_ok-place-2.ensures)
    ]

pub returns-clause-guesses : goal.returns-clause-guesses
returns-clause-guesses c =
    guessed c.args.places.now.items c.if-guesses-remainder.places.items c.args.guesses.now c.args.node
    c.if-guesses-remainder.place c.requires.guesses (returns-clause-seated c)
