use Rattle.std.proofs.Common.{◌≡◌, ◌∷◌, inl, get_or, refl, sym, ap, ◌∙◌, subst}
use Rattle.std.specs.List.{AllByRecursion}
use Rattle.round_rules.specs.declared.held.HeldParcel.{HeldParcel}
use Rattle.station.specs.{Dues.is_first_due, Entering.is_able_for, Fits.{HeldKeeps, station_state}}
use Rattle.station.proofs.{Ageing.held-parts, Freeing.{due-full, due-given, first-due, given-fewer, removed, some-due}, Stepping.{given-sends, sending-none}, dues.free_first.Goals.After-remove-parcel}
use Rattle.station.proofs.dues.free_first.Given as given
use Rattle.station.proofs.dues.free_first.Goals as goal

pub returns-then-not-is_able_for-clause-on : goal.returns-then-not-is_able_for-clause-on
returns-then-not-is_able_for-clause-on g c =
    let s = station_state c.args.parts.now in
    let f = first-due c.args.parts.now.held.items c.requires.due in
    let first : c.index.result.now ≡ f.first =
    c.index.ensures ∙ ap (λ ys. get_or ys 0 c.index.result.now) f.is in
    due-full s f.first f.rest f.is f.due
    (ap (λ (h : HeldParcel). is_able_for h.parcel.stamp s) (sym first) ∙ sym c.is_able_for.ensures
    ∙ c.if-not-is_able_for.true)

pub returns-then-not-is_able_for-clause-sends : goal.returns-then-not-is_able_for-clause-sends
returns-then-not-is_able_for-clause-sends g c = sending-none (station_state c.args.parts.now)

-- the first parcel was taken off the others
first-taken : (g : given.Over) (c : After-remove-parcel g) →
    c.args.parts.now.held.items ≡ c.remove-parcel.result ∷ c.remove-parcel.new.self.items
first-taken g c =
    removed c.args.parts.now.held.items c.remove-parcel.new.self.items c.remove-parcel.result
    (some-due c.args.parts.now.held.items c.requires.due) c.remove-parcel.ensures.value c.remove-parcel.ensures.items

-- and what is known of those that are held is known of it
first-keeps : (g : given.Over) (c : After-remove-parcel g) →
    HeldKeeps c.args.parts.now.controller.node.place c.args.parts.now.controller.steps c.remove-parcel.result
first-keeps g c =
    (subst (AllByRecursion (HeldKeeps c.args.parts.now.controller.node.place c.args.parts.now.controller.steps))
    (first-taken g c) c.requires.fit.station.held).0

pub enter_frame-requires-clause-fit : goal.enter_frame-requires-clause-fit
enter_frame-requires-clause-fit g c =
    λ κs le.
    held-parts c.args.parts.now _ c.remove-parcel.result c.remove-parcel.new.self.items
    (first-taken g (goal.at.enter_frame-requires-clause-fit g c).After-remove-parcel) refl refl c.requires.fit

pub enter_frame-requires-clause-from : goal.enter_frame-requires-clause-from
enter_frame-requires-clause-from g c =
    λ κs le. (first-keeps g (goal.at.enter_frame-requires-clause-from g c).After-remove-parcel).near

pub enter_frame-requires-clause-read : goal.enter_frame-requires-clause-read
enter_frame-requires-clause-read g c =
    λ κs le. inl (first-keeps g (goal.at.enter_frame-requires-clause-read g c).After-remove-parcel).bears

pub enter_frame-requires-clause-able : goal.enter_frame-requires-clause-able
enter_frame-requires-clause-able g c =
    λ κs le.
    let s = station_state c.args.parts.now in
    let h = c.remove-parcel.result in
    let first : c.index.result.now ≡ h =
    c.index.ensures ∙ ap (λ ys. get_or ys 0 c.index.result.now)
    (first-taken g (goal.at.enter_frame-requires-clause-able g c).After-remove-parcel) in
    ap (λ (k : HeldParcel). is_able_for k.parcel.stamp s) (sym first) ∙ sym c.is_able_for.ensures
    ∙ c.if-not-is_able_for.false

pub returns-clause-on : goal.returns-clause-on
returns-clause-on g c =
    let s = station_state c.args.parts.now in
    let h = c.remove-parcel.result in
    let rest = c.remove-parcel.new.self.items in
    let whole = first-taken g (goal.at.returns-clause-on g c).After-remove-parcel in
    let first : c.index.result.now ≡ h = c.index.ensures ∙ ap (λ ys. get_or ys 0 c.index.result.now) whole in
    due-given c.enter_frame.result s (station_state c.enter_frame.new.parts) h rest whole
    (ap is_first_due (sym whole) ∙ c.requires.due)
    (ap (λ (k : HeldParcel). is_able_for k.parcel.stamp s) (sym first) ∙ sym c.is_able_for.ensures
    ∙ c.if-not-is_able_for.false) c.enter_frame.ensures.gives

pub returns-clause-fewer : goal.returns-clause-fewer
returns-clause-fewer g c =
    given-fewer c.enter_frame.result _ _ _
    (record (station_state c.args.parts.now) { held = c.remove-parcel.new.self.items })
    (station_state c.enter_frame.new.parts) c.args.parts.now.held.items c.remove-parcel.result
    (first-taken g (goal.at.returns-clause-fewer g c).After-remove-parcel) c.enter_frame.ensures.gives

pub returns-clause-sends : goal.returns-clause-sends
returns-clause-sends g c =
    let f =
    given-sends c.enter_frame.result _ _ _
    (record (station_state c.args.parts.now) { held = c.remove-parcel.new.self.items })
    (station_state c.enter_frame.new.parts) c.enter_frame.ensures.gives in
    record { links = f.links; lines = f.lines; grows = f.grows }
