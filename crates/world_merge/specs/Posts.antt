-- What is posted is the same at every node.
use Rattle.std.specs.Prelude.{◌≡◌, List, filter}
use Rattle.ason_base.specs.{declared.ids.NodeId.NodeId, Network.Network}
use Rattle.world_rules.specs.Worlds.{World}
use Rattle.world_merge.specs.{Deeds.{Deed, alone}, Logs.is_posted}

pub record HasSamePosts (w v : World) : Type 0 where
  pub posted : w.posted ≡ v.posted
  pub failed : w.failed ≡ v.failed

-- Two nodes that were alone and had the same posts have the same posted numbers and failed groups, whatever else they
-- did. So what may be posted at one node may be posted at all.
abbrev pub PostsTellTheRest : Type 0
PostsTellTheRest =
    (t : Network) (n m : NodeId) (ds es : List Deed) → filter is_posted ds ≡ filter is_posted es →
    HasSamePosts (alone t n ds) (alone t m es)
