-- What is shown of a station that hears bytes that spell nothing.
use Rattle.std.proofs.Common.{◌≡◌, List, [], ◌∷◌, refl, sym, append-nil, subst}
use Rattle.ason_base.specs.declared.ids.NodeId.{NodeId}
use Rattle.round_rules.specs.States.{StationState}
use Rattle.station.specs.{Noise.HasHeard, Watched.ShowsNoiseMore}

-- a station that stays as it is
pub shows-self : (s : StationState) → ShowsNoiseMore s s
shows-self s = record { node = refl; publisher = refl; heard = []; noise = tt; log = sym (append-nil s.log) }

pub shows-same : (old new : StationState) → new ≡ old → ShowsNoiseMore old new
shows-same old new same = subst (ShowsNoiseMore old) (sym same) (shows-self old)

-- one that heard them
pub shows-heard : (u : NodeId) (bytes : List _) (old new : StationState) → new.publisher ≡ old.publisher →
    HasHeard u bytes old new → ShowsNoiseMore old new
shows-heard u bytes old new publisher heard = record {
  node = heard.node;
  publisher = publisher;
  heard = heard.log.0 ∷ [];
  noise = (heard.log.1, tt);
  log = heard.log.2;
}
