-- A post changes desks alone, and an item of a desk changes no message.
use Rattle.std.proofs.Common.{refl, arith}
use Rattle.ason_base.specs.{Network.Network, declared.ids.Lsp.Lsp, declared.ids.NodeId.NodeId, declared.commands.Command.Command, declared.commands.Command.TheVariants.Setup}
use Rattle.mesh_rules.specs.{Changes.Answer, Machine.{Mesh, commit, without_item}, Events.posted}
use Rattle.lsp_laws.proofs.hops.Planned.{SameOf}

-- Every event

pub posted_same : (t : Network) (s : Mesh) (c : Command) (l : Lsp) → SameOf s (posted t s c) l
posted_same t s (Setup k from to protected both via backup) l = record {
  still = record { legs = λ n. refl; mail = λ a b. refl; next = omega arith };
  notices = λ a b. refl;
}
posted_same t s _ l = record {
  still = record { legs = λ n. refl; mail = λ a b. refl; next = omega arith };
  notices = λ a b. refl;
}

-- an item less on a desk leaves the legs and messages
pub desk_same : (t : Network) (s : Mesh) (n : NodeId) (a : Answer) (l : Lsp) →
    SameOf (commit s n.0 a) (commit (without_item s n.0) n.0 a) l
desk_same t s n a l = record {
  still = record { legs = λ m. refl; mail = λ x b. refl; next = omega arith };
  notices = λ x b. refl;
}
