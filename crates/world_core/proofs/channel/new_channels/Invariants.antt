use Rattle.std.proofs.Common.{◌≡◌, map, take}
use Rattle.std.specs.Prelude.{filter}
use Rattle.ason_base.specs.declared.network.NodeSpec.{NodeSpec}
use Rattle.world_core.specs.Channels.{new_channel}
use Rattle.world_rules.specs.WorldRuns.{is_world_channel}
use Rattle.world_core.proofs.channel.new_channels.Given as goal

abbrev pub invariant-loop-m : goal.invariant-loop-m
invariant-loop-m l = l.channels.items ≡ map new_channel (map (λ (k : NodeSpec). k.id)
    (filter (λ (k : NodeSpec). is_world_channel l.t l.n k.id) (take l.m-index l.m-items)))
