use Rattle.std.proofs.Common.{◌≡◌, map, take}
use Rattle.std.specs.Prelude.{filter}
use Rattle.ason_base.specs.Network.{other_end, touches}
use Rattle.control_channels.proofs.peers.other_ends.Given as goal

abbrev pub invariant-loop-link : goal.invariant-loop-link
invariant-loop-link l = l.ends.items ≡ map (λ k. other_end k l.n) (filter (touches l.n) (take l.link-index l.links))
