use Rattle.std.proofs.{Common.{sym, ◌∙◌, ap}, lemmas.Option.slice_get-get_or}
use Rattle.leg_table.specs.Keyed.{has_key, is_from, passes_there}
use Rattle.leg_table.proofs.{Halved.{absent-at, found-at, passes-first}, KeyedPlaces.key_in_order}
use Rattle.leg_table.proofs.keyed.find_place.Goals as goal

pub returns-then-is_at : goal.returns-then-is_at
returns-then-is_at g c =
    let t = g.T.Keyed in
    let same = has_key t.same t.key_of c.args.key in
    let xs = c.args.items.now in
    let n = c.place_of-place.result in
    let below = c.is_at.ensures.within c.if-is_at.true in
    sym (found-at same (is_from t.before t.key_of c.args.key) xs n
    (key_in_order g.met.T.Keyed.order t.key_of c.args.key xs c.requires) c.place_of-place.ensures.place below
    (λ d. ap (passes_there same) (sym (slice_get-get_or xs n d below)) ∙ sym c.is_at.ensures.there ∙ c.if-is_at.true))

pub returns-else-is_at : goal.returns-else-is_at
returns-else-is_at g c =
    let t = g.T.Keyed in
    let same = has_key t.same t.key_of c.args.key in
    let from = is_from t.before t.key_of c.args.key in
    let xs = c.args.items.now in
    let n = c.place_of-place.result in
    sym (absent-at same from xs n (key_in_order g.met.T.Keyed.order t.key_of c.args.key xs c.requires)
    c.place_of-place.ensures.place
    (λ d below. ap (passes_there same) (sym (slice_get-get_or xs n d below)) ∙ sym c.is_at.ensures.there
    ∙ c.if-is_at.false)
    (λ d below. passes-first from xs n d c.place_of-place.ensures.place below))
