use Rattle.std.proofs.Common.{subst}
use Rattle.round_rules.specs.Turned.{HasMadeTurn}
use Rattle.station.specs.{Fits.station_state, Watched.with_publisher}
use Rattle.station.proofs.Watched.{made-watched}
use Rattle.station.proofs.station.Station.turn_beside.Goals as goal

pub returns-clause-made : goal.returns-clause-made
returns-clause-made g c =
    let before = station_state c.self.inside.parts in
    let after = station_state c.turn.new.parts in
    subst (λ s. HasMadeTurn c.args.tick s (with_publisher after c.self.inside.publisher) c.turn.result) c.self.view_is
    (made-watched c.self.inside.publisher c.args.tick before after c.turn.result c.turn.ensures.made)
