use Rattle.route_least.specs.Network.{AreGuesses, ArePlaces}
use Rattle.route_least.proofs.network.places_of.Given as goal

abbrev pub invariant-loop-index : goal.invariant-loop-index
invariant-loop-index l = record {
  places : ArePlaces l.rows l.index l.places.items;
  guesses : AreGuesses l.places.items l.guesses.items;
}
