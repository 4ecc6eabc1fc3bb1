use Rattle.std.proofs.Common.{true, false, sym, subst}
use Rattle.leg_table.specs.Keyed.{KeysRise}
use Rattle.leg_table.proofs.KeyedPlaces.{put-found, put_rises}
use Rattle.leg_table.proofs.keyed.put_item.Goals as goal

pub returns-then-is_at-clause-items : goal.returns-then-is_at-clause-items
returns-then-is_at-clause-items g c =
    put-found g.met.T.Keyed.order g.T.Keyed.key_of c.args.item c.args.items.now.items c.deref.result.now
    c.deref-2.result.now c.key-key.result c.place_of-place.result true c.is_at.result _ c.key-key.ensures
    c.deref.ensures.value c.deref-2.ensures.value c.place_of-place.ensures.place c.is_at.ensures.there c.if-is_at.true
    c.replace_here.ensures.items

pub returns-then-is_at-clause-rising : goal.returns-then-is_at-clause-rising
returns-then-is_at-clause-rising g c =
    subst (KeysRise g.T.Keyed.before g.T.Keyed.key_of) (sym (returns-then-is_at-clause-items g c))
    (put_rises g.met.T.Keyed.order g.T.Keyed.key_of c.args.item c.args.items.now.items c.requires.rising)

pub returns-else-is_at-clause-items : goal.returns-else-is_at-clause-items
returns-else-is_at-clause-items g c =
    put-found g.met.T.Keyed.order g.T.Keyed.key_of c.args.item c.args.items.now.items c.deref.result.now
    c.deref-2.result.now c.key-key.result c.place_of-place.result false c.is_at.result _ c.key-key.ensures
    c.deref.ensures.value c.deref-2.ensures.value c.place_of-place.ensures.place c.is_at.ensures.there c.if-is_at.false
    c.insert_here.ensures.items

pub returns-else-is_at-clause-rising : goal.returns-else-is_at-clause-rising
returns-else-is_at-clause-rising g c =
    subst (KeysRise g.T.Keyed.before g.T.Keyed.key_of) (sym (returns-else-is_at-clause-items g c))
    (put_rises g.met.T.Keyed.order g.T.Keyed.key_of c.args.item c.args.items.now.items c.requires.rising)
