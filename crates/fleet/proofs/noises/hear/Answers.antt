use Rattle.ason_base.proofs.Results.{on_both}
use Rattle.station.specs.Watched.{ShowsNoiseMore}
use Rattle.fleet.proofs.Heard.{shows-heard, shows-same}
use Rattle.fleet.proofs.noises.hear.Goals as goal

pub returns-in-Some-clause-shown : goal.returns-in-Some-clause-shown
returns-in-Some-clause-shown c =
    on_both c.noise.result _ _ (ShowsNoiseMore c.args.station.now c.noise.new.self)
    (shows-heard c.args.from c.args.bytes.now c.args.station.now c.noise.new.self c.noise.ensures.publisher)
    (shows-same c.args.station.now c.noise.new.self) c.noise.ensures.ok c.noise.ensures.err
