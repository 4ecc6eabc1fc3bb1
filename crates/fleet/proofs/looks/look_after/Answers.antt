use Rattle.std.proofs.{Common.{◌<◌, get_or, sym, ◌∙◌, subst}, lemmas.Option.slice_get-get_or}
use Rattle.fleet.specs.Looks.{IsAround}
use Rattle.fleet.proofs.{KeptSeats.connected-count, Settled.over-settled}
use Rattle.fleet.proofs.looks.look_after.Goals as goal

pub bounds-stations-place : goal.bounds-stations-place
bounds-stations-place c =
    let xs = c.args.stations.now in
    let count = connected-count c.requires.seats.0 c.args.seats.now xs c.requires.seats.1 in
    subst (λ k. c.args.place < k) (sym count) c.requires.within

pub returns-else-has_used_link-clause-looks : goal.returns-else-has_used_link-clause-looks
returns-else-has_used_link-clause-looks c =
    let xs = c.args.stations.now in
    let count = connected-count c.requires.seats.0 c.args.seats.now xs c.requires.seats.1 in
    let s = get_or xs c.args.place c.index-stations-place.result in
    let there = slice_get-get_or xs c.args.place c.index-stations-place.result
    (subst (λ k. c.args.place < k) (sym count) c.requires.within) in
    let unused = sym c.has_used_link.ensures ∙ c.if-has_used_link.false in
    over-settled c.args.seats.now xs (c.requires.settled s there unused) (IsAround c.args.place)
