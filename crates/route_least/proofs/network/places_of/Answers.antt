use Rattle.std.proofs.Common.{◌≡◌, ◌≤◌, ◌∙◌, length, sym, subst, arith}
use Rattle.route_least.specs.{declared.places.TheConstants.GUESSES, Network.{AreGuesses, ArePlaces, HasAdded}}
use Rattle.route_least.proofs.{Added.{none_yet, places_more}, Guesses.no_guesses, Passed.written_back}
use Rattle.route_least.proofs.network.places_of.Goals as goal

pub loop-index-init : goal.loop-index-init
loop-index-init c = record {
  places = none_yet c.args.rows.now c.in_ok-places.places.items c.in_ok-places.ensures.items;
  guesses = no_guesses c.in_ok-places.places.items c.in_ok-guesses.guesses.items c.in_ok-places.ensures.items
      (let z = c.in_ok-guesses.ensures.len in let e : length c.in_ok-guesses.guesses.items ≡ GUESSES =
      omega (arith, z) in e);
}

pub add_row-requires-clause-guesses : goal.add_row-requires-clause-guesses
add_row-requires-clause-guesses c =
    subst (AreGuesses c.loop-index.places.items) (sym c.deref_mut.ensures.value) c.loop-index.invariant.guesses

pub loop-index-preserved : goal.loop-index-preserved
loop-index-preserved c = record {
  places = places_more c.args.rows.now c.loop-index.index c.index-rows-index.result c.loop-index.places.items
      c.add_row.new.places.items c.loop-index-test.true c.loop-index.invariant.places
      (subst (λ row. HasAdded c.loop-index.places.items c.add_row.new.places.items row c.loop-index.index)
      c.index-rows-index.is c.in_ok-add_row.ensures.added);
  guesses =
      subst (AreGuesses c.add_row.new.places.items)
      (sym (written_back c.loop-index.guesses.len c.add_row.new.guesses c.loop-index.guesses.items
      (c.add_row.auto.guesses ∙ c.deref_mut.ensures.len)))
      c.in_ok-add_row.ensures.guesses;
}

pub returns : goal.returns
returns c =
    let past : length c.args.rows.now ≤ c.loop-index.index = c.loop-index-test.false in
    let inside : c.loop-index.index ≤ length c.args.rows.now = c.loop-index.auto.index-end in
    let all : c.loop-index.index ≡ length c.args.rows.now = omega arith in
    subst (λ n. ArePlaces c.args.rows.now n c.loop-index.places.items) all c.loop-index.invariant.places
