use Rattle.std.proofs.{Common.{not, sym, ◌∙◌, ap, subst}, lemmas.List.Quantifiers.position-Some, lemmas.Option.slice_get-get_or}
use Rattle.std.specs.Prelude.{Some, position}
use Rattle.ason_base.proofs.Finding.{found-nowhere}
use Rattle.leg_table.specs.Keyed.{KeysRise, has_key}
use Rattle.leg_table.proofs.{Halved.{filter-at, filter-nowhere, find-place}, KeyedPlaces.{key_in_order, left_rises}}
use Rattle.leg_table.proofs.keyed.take_item.Goals as goal

pub returns-in-None-clause-item : goal.returns-in-None-clause-item
returns-in-None-clause-item g c =
    let same = has_key g.T.Keyed.same g.T.Keyed.key_of c.args.key in
    let none = sym (c.in-None.ensures ∙ ap (position same) c.deref.ensures.value) in
    sym (found-nowhere same c.args.items.now.items none)

pub returns-in-None-clause-left : goal.returns-in-None-clause-left
returns-in-None-clause-left g c =
    let same = has_key g.T.Keyed.same g.T.Keyed.key_of c.args.key in
    let none = sym (c.in-None.ensures ∙ ap (position same) c.deref.ensures.value) in
    sym (filter-nowhere same c.args.items.now.items none)

pub returns-in-Some-clause-item : goal.returns-in-Some-clause-item
returns-in-Some-clause-item g c =
    let same = has_key g.T.Keyed.same g.T.Keyed.key_of c.args.key in
    let xs = c.args.items.now.items in
    let i = c.in-Some.place in
    let place = sym (c.in-Some.ensures ∙ ap (position same) c.deref.ensures.value) in
    let below = (position-Some same xs i c.remove.result place).0 in
    ap Some c.remove.ensures.value ∙ sym (slice_get-get_or xs i c.remove.result below)
    ∙ sym (find-place same xs i place)

pub returns-in-Some-clause-left : goal.returns-in-Some-clause-left
returns-in-Some-clause-left g c =
    let same = has_key g.T.Keyed.same g.T.Keyed.key_of c.args.key in
    let xs = c.args.items.now.items in
    let place = sym (c.in-Some.ensures ∙ ap (position same) c.deref.ensures.value) in
    c.remove.ensures.items ∙ sym (filter-at same xs c.in-Some.place c.remove.result
    (key_in_order g.met.T.Keyed.order g.T.Keyed.key_of c.args.key xs c.requires) place)

pub returns-in-Some-clause-rising : goal.returns-in-Some-clause-rising
returns-in-Some-clause-rising g c =
    let t = g.T.Keyed in
    subst (KeysRise t.before t.key_of) (sym (returns-in-Some-clause-left g c))
    (left_rises t.before t.key_of (λ x. not (has_key t.same t.key_of c.args.key x)) c.args.items.now.items c.requires)
