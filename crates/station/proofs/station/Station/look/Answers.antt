use Rattle.std.proofs.{Common.{◌≡◌, ◌<◌, length, refl, sym, ap, ◌∙◌, subst}, lemmas.Option.slice_get_read}
use Rattle.std.specs.Prelude.{Some, slice_get}
use Rattle.round_rules.specs.States.{StationState}
use Rattle.station.specs.Joined.{with_link_at}
use Rattle.station.proofs.{Joining.looked-parts, station.Station.look.Goals.{After-index_mut, After-index_mut-2}}
use Rattle.station.proofs.station.Station.look.Goals as goal

-- the one link stands at its place
first-at : (c : After-index_mut) →
    slice_get c.a.inside.parts.links.items c.args.place ≡ Some c.index_mut.result.now
first-at c =
    let here = c.a.inside.parts.links.items in
    slice_get_read here (length here) c.args.place c.index_mut.result.now refl
    (subst (λ (s : StationState). c.args.place < length s.links) (sym c.a.view_is) c.requires.place)
    c.index_mut.ensures.value

-- and so does the other
second-at : (c : After-index_mut-2) →
    slice_get c.b.inside.parts.links.items c.args.back ≡ Some c.index_mut-2.result.now
second-at c =
    slice_get_read _ (length c.b.inside.parts.links.items) c.args.back c.index_mut-2.result.now refl
    (subst (λ (s : StationState). c.args.back < length s.links) (sym c.b.view_is) c.requires.back)
    c.index_mut-2.ensures.value

first-was : (c : After-index_mut) → slice_get c.args.a.now.links c.args.place ≡ Some c.index_mut.result.now
first-was c = ap (λ (s : StationState). slice_get s.links c.args.place) (sym c.a.view_is) ∙ first-at c

second-was : (c : After-index_mut-2) → slice_get c.args.b.now.links c.args.back ≡ Some c.index_mut-2.result.now
second-was c = ap (λ (s : StationState). slice_get s.links c.args.back) (sym c.b.view_is) ∙ second-at c

pub look-requires : goal.look-requires
look-requires c =
    let are = c.requires.ends c.index_mut.result.now c.index_mut-2.result.now
    (first-was (goal.at.look-requires c).After-index_mut) (second-was (goal.at.look-requires c).After-index_mut-2) in
    record { ends = are.0; few = are.1 }

pub invariant_of-a : goal.invariant_of-a
invariant_of-a c =
    looked-parts c.a.inside.parts _ c.args.place c.index_mut.result.now c.look.new.a c.index_mut-2.result.now
    c.look.new.b (first-at (goal.at.invariant_of-a c).After-index_mut) c.look.ensures.there refl refl c.a.invariant

pub invariant_of-b : goal.invariant_of-b
invariant_of-b c =
    looked-parts c.b.inside.parts _ c.args.back c.index_mut-2.result.now c.look.new.b c.index_mut.result.now
    c.look.new.a (second-at (goal.at.invariant_of-b c).After-index_mut-2) c.look.ensures.back refl refl c.b.invariant

pub returns : goal.returns
returns c = record {
  old = c.index_mut.result.now;
  old_back = c.index_mut-2.result.now;
  was = first-was (goal.at.returns c).After-index_mut;
  was_back = second-was (goal.at.returns c).After-index_mut-2;
  new = c.look.new.a;
  new_back = c.look.new.b;
  here = ap (λ s. with_link_at s c.args.place c.look.new.a) c.a.view_is;
  there = ap (λ s. with_link_at s c.args.back c.look.new.b) c.b.view_is;
  ends = c.look.ensures.ends;
  looked = c.look.ensures.there;
  looked_back = c.look.ensures.back;
}
