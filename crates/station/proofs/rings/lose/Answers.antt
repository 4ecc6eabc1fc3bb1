use Rattle.std.proofs.Common.{◌≡◌, Some, refl, subst, arith}
use Rattle.ason_base.specs.declared.commands.DisturbKind.TheVariants.{Lose}
use Rattle.round_rules.specs.Lines.{says}
use Rattle.round_rules.proofs.Places.{takes-at}
use Rattle.station.specs.{Fits.station_state, Rings.HasTaken}
use Rattle.station.proofs.{Frames.lose-goes, Taking.{has-taken, taken-at, taken-moves, taken-parts}, rings.lose.Goals.After-take_at-lost}
use Rattle.station.proofs.rings.lose.Goals as goal

-- the frame was taken
taken : (c : After-take_at-lost) → HasTaken c.args.ahead c.take_at-lost.result (station_state c.args.parts.now)
    c.take_at-lost.new.links.items
taken c = has-taken c.args.ahead _ _ _ c.requires.ahead c.take_at-lost.ensures

pub returns-clause-on : goal.returns-clause-on
returns-clause-on c =
    let s = station_state c.args.parts.now in
    let a = c.args.ahead in
    lose-goes a _ s _ c.requires.fit.station.apart (taken (goal.at.returns-clause-on c).After-take_at-lost)
    (subst (λ n. says s.lines a.from n a.head.number ≡ Some Lose) c.requires.fit.me c.requires.says)

pub returns-clause-taken : goal.returns-clause-taken
returns-clause-taken c = taken-at _ _ _ _ (taken (goal.at.returns-clause-taken c).After-take_at-lost)

pub returns-clause-moves : goal.returns-clause-moves
returns-clause-moves c =
    taken-moves c.args.ahead.from c.take_at-lost.result c.args.ahead.place (station_state c.args.parts.now)
    (record (station_state c.args.parts.now) { links = c.take_at-lost.new.links.items })
    (takes-at c.args.ahead.from c.take_at-lost.result c.args.ahead.place c.args.parts.now.links.items
    c.take_at-lost.new.links.items (taken (goal.at.returns-clause-moves c).After-take_at-lost).taken) refl (omega arith)

pub returns-clause-fit : goal.returns-clause-fit
returns-clause-fit c =
    taken-parts c.take_at-lost.result c.args.ahead.place c.args.parts.now _ c.take_at-lost.new.links.items
    c.take_at-lost.ensures refl refl c.requires.fit
