-- What a message costs that is taken: what the leg of its LSP sends, and what the call at its ingress may send.
use Rattle.std.proofs.Common.{◌<◌, ℕ, ◌+◌, arith}
use Rattle.ason_base.specs.{Network.Network, declared.ids.NodeId.NodeId, declared.messages.Msg.Msg}
use Rattle.mesh_rules.specs.{Changes.Answer, LocalNodes.local_node, Machine.Mesh}
use Rattle.lsp_laws.proofs.{hops.InParts.leg_part, hops.TakenSteps.after_leg}
use Rattle.mesh_laws.specs.Weights.{FirstRoutes, weight}
use Rattle.mesh_laws.proofs.{rest.Committed.sent_weight, rest.Expanded.Expands}

module _ (t : Network) (s : Mesh) (o : FirstRoutes) (d u : NodeId) (m : Msg) where
  -- What the leg's part of the message sends.
  abbrev pub leg_sends : ℕ
  leg_sends = sent_weight (weight o (after_leg t s d u m) d.0) (leg_part (local_node t d) (s.nodes d.0) u m).sent

  -- The call's part costs less than what the leg's part leaves of the message.
  pub record CallLess (a : Answer) : Type 0 where
    pub more : ℕ
    pub expands : Expands (after_leg t s d u m) d o more a
    pub less : leg_sends + more < weight o s u.0 d.0 m

  -- A call's part that sends nothing costs less where the leg's part does.
  pub less-free : leg_sends < weight o s u.0 d.0 m → (a : Answer) →
      Expands (after_leg t s d u m) d o 0 a → CallLess a
  less-free pays a e = record { more = 0; expands = e; less = omega arith }
