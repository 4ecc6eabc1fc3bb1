use Rattle.std.proofs.Common.{subst}
use Rattle.ason_base.proofs.Results.{on_ok}
use Rattle.station.specs.{Fits.station_state, Noise.HasHeard, Watched.with_publisher}
use Rattle.station.proofs.Watched.{heard-watched}
use Rattle.station.proofs.station.Station.noise.Goals as goal

pub returns-clause-ok : goal.returns-clause-ok
returns-clause-ok c =
    let before = station_state c.self.inside.parts in
    let after = station_state c.noise.new.parts in
    on_ok c.noise.result _ _
    (λ heard. subst (λ s. HasHeard c.args.from c.args.bytes.now s (with_publisher after c.self.inside.publisher))
    c.self.view_is
    (heard-watched c.self.inside.publisher c.args.from c.args.bytes.now before after heard)) c.noise.ensures.ok
