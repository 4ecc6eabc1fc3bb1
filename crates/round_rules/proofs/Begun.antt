-- What came out of the rings of one station is still a first part of what was handed to them.
use Rattle.std.proofs.Common.{◌≡◌, ℕ, Bool, true, false, cond, nat_eq, List, ◌++◌, refl, sym, ap, ◌∙◌, subst, append_assoc}
use Rattle.std.specs.List.{Contains}
use mathlib.Core.List.{IsPrefix}
use Rattle.rtrb.specs.Ring.{received}
use Rattle.ason_base.specs.{declared.ids.NodeId.NodeId, declared.commands.Disturb.Disturb, Network.Network}
use Rattle.ason_base.proofs.{Numbers.self-number, Bridges.same_node}
use Rattle.world_rules.specs.WorldRuns.{is_world_channel, neighbours_of}
use Rattle.station_rings.specs.LinkStates.{gone_of}
use Rattle.round_rules.specs.{Records.Record, Moves.HasMoved, Fleets.{HasBegun, Wires}}
use Rattle.round_rules.proofs.{KnownTurns.{KnownTurns, turns-made}, Nodes.{channel-back, joins-nodes, near-there}}

module _ (t : Network) (lines : List Disturb) (r : Record) (w : Wires) (k : KnownTurns t lines r w) where
  open k use {alone, begun, after_begun}
  open alone use {n, node}
  open turns-made t lines r w alone use {turned, wires, links}

  -- the node's links are those of its part
  pub wires-here : (u : ℕ) → wires n.0 u ≡ links u
  wires-here u = ap (λ b. cond b links (w n.0) u) (self-number n.0)

  wires_else : (u : NodeId) → is_world_channel t u n ≡ true → (d : ℕ) → wires u.0 d ≡ w u.0 d
  wires_else u joined d = ap (λ b. cond b links (w u.0) d) (joins-nodes t u n joined).other

  -- The record after has what was sent

  moved_row : (d : NodeId) → Contains (neighbours_of t n) d → HasMoved (w n.0 d.0) (links d.0)
  moved_row d near = turned.moved d near

  begun_now : (u d : NodeId) → is_world_channel t u d ≡ true → (a b : Bool) → nat_eq u.0 n.0 ≡ a → nat_eq d.0 n.0 ≡ b →
      HasBegun wires u d
  begun_now u d joined a true e f =
      let same : d ≡ n = same_node d n f in
      let to_n : is_world_channel t u n ≡ true = subst (λ (v : NodeId). is_world_channel t u v ≡ true) same joined in
      subst (λ (v : NodeId). HasBegun wires u v) (sym same)
      (subst (λ l. IsPrefix (received (wires n.0 u.0).into) (gone_of l)) (sym (wires_else u to_n n.0))
      (after_begun u to_n))
  begun_now u d joined true false e f =
      let same : u ≡ n = same_node u n e in
      let from_n : is_world_channel t n d ≡ true = subst (λ (v : NodeId). is_world_channel t v d ≡ true) same joined in
      let m = moved_row d (near-there t n d (channel-back t n d from_n)) in
      let was = begun n d from_n in
      subst (λ (v : NodeId). HasBegun wires v d) (sym same)
      (subst (λ l. IsPrefix (received (wires d.0 n.0).into) (gone_of l)) (sym (wires-here d.0))
      (subst (λ l. IsPrefix (received l.into) (gone_of (links d.0)))
      (sym (wires_else d (channel-back t n d from_n) n.0)) (
        was.0 ++ m.sends,
        sym (append_assoc (received (w d.0 n.0).into) was.0 m.sends) ∙ ap (λ ps. ps ++ m.sends) was.1 ∙ sym m.gone,
      )))
  begun_now u d joined false false e f =
      subst (λ l. IsPrefix (received (wires d.0 u.0).into) (gone_of l))
      (sym (ap (λ b. cond b links (w u.0) d.0) e))
      (subst (λ l. IsPrefix (received l.into) (gone_of (w u.0 d.0))) (sym (ap (λ b. cond b links (w d.0) u.0) f))
      (begun u d joined))

  -- What came out of each ring is still a first part of what was handed to it.
  pub all-begun : (u d : NodeId) → is_world_channel t u d ≡ true → HasBegun wires u d
  all-begun u d joined = begun_now u d joined (nat_eq u.0 n.0) (nat_eq d.0 n.0) refl refl
