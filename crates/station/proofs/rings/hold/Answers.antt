use Rattle.std.proofs.Common.{◌≡◌, ◌++◌, ◌∷◌, [], Ok, Some, refl, sym, ap, ◌∙◌, subst, arith}
use Rattle.ason_base.specs.declared.commands.DisturbKind.TheVariants.{Hold}
use Rattle.round_rules.specs.Lines.{says}
use Rattle.round_rules.proofs.Places.{takes-at}
use Rattle.station.specs.{Fits.station_state, Leads.GoesOnAt, Rings.HasTaken}
use Rattle.station.proofs.{Frames.hold-goes, Taking.{ahead-below, has-taken, hold-parts, moving-none, taken-at, taken-moves}, Stepping.rings-starve, rings.hold.Goals.{After-keep, After-take_at-parcel}}
use Rattle.station.proofs.rings.hold.Goals as goal

pub returns-then-is_err-clause-on : goal.returns-then-is_err-clause-on
returns-then-is_err-clause-on c =
    let s = station_state c.args.parts.now in
    λ first.
    rings-starve s (record s { held = c.reserve.new.self.items }) first c.args.ahead.place
    (ap (λ hs. record s { held = hs }) c.reserve.ensures.items)

pub returns-then-is_err-clause-moves : goal.returns-then-is_err-clause-moves
returns-then-is_err-clause-moves c =
    let m = moving-none (station_state c.args.parts.now) in record { links = m.links; lines = m.lines; grows = m.grows }

pub take_at-parcel-requires-clause-place : goal.take_at-parcel-requires-clause-place
take_at-parcel-requires-clause-place c = ahead-below c.args.ahead c.args.parts.now.links.items c.requires.ahead

-- the frame was taken
taken : (c : After-take_at-parcel) → HasTaken c.args.ahead c.take_at-parcel.result (station_state c.args.parts.now)
    c.take_at-parcel.new.links.items
taken c =
    has-taken c.args.ahead c.take_at-parcel.result (station_state c.args.parts.now) c.take_at-parcel.new.links.items
    c.requires.ahead c.take_at-parcel.ensures

-- and stands behind all that are held
held : (c : After-keep) → c.keep.new.held.items ≡
    c.args.parts.now.held.items
    ++ record { from = c.args.ahead.from; parcel = c.take_at-parcel.result; ticks = 0 } ∷ []
held c =
    c.keep.ensures
    ∙ ap (λ hs. hs ++ record { from = c.args.ahead.from; parcel = c.take_at-parcel.result; ticks = 0 } ∷ [])
    c.reserve.ensures.items

pub returns-clause-on : goal.returns-clause-on
returns-clause-on c =
    let s = station_state c.args.parts.now in
    let a = c.args.ahead in
    let links = c.take_at-parcel.new.links.items in
    subst (λ hs. GoesOnAt (Ok tt) a.place s (record s { links = links; held = hs }))
    (sym (held (goal.at.returns-clause-on c).After-keep))
    (hold-goes a c.take_at-parcel.result s links c.requires.fit.station.apart
    (taken (goal.at.returns-clause-on c).After-take_at-parcel)
    (subst (λ n. says s.lines a.from n a.head.number ≡ Some Hold) c.requires.fit.me c.requires.says))

pub returns-clause-taken : goal.returns-clause-taken
returns-clause-taken c =
    taken-at c.args.ahead c.take_at-parcel.result (station_state c.args.parts.now) c.take_at-parcel.new.links.items
    (taken (goal.at.returns-clause-taken c).After-take_at-parcel)

pub returns-clause-moves : goal.returns-clause-moves
returns-clause-moves c =
    let s = station_state c.args.parts.now in
    let a = c.args.ahead in
    let q = c.take_at-parcel.result in
    let links = c.take_at-parcel.new.links.items in
    taken-moves a.from q a.place s (record s { links = links; held = c.keep.new.held.items })
    (takes-at a.from q a.place s.links links (taken (goal.at.returns-clause-moves c).After-take_at-parcel).taken) refl
    (omega arith)

pub returns-clause-fit : goal.returns-clause-fit
returns-clause-fit c =
    let s = station_state c.args.parts.now in
    let links = c.take_at-parcel.new.links.items in
    hold-parts c.args.ahead c.take_at-parcel.result c.args.parts.now _ links c.requires.ahead
    c.take_at-parcel.ensures
    (ap (λ hs. record s { links = links; held = hs }) (held (goal.at.returns-clause-fit c).After-keep)) refl
    c.requires.fit
