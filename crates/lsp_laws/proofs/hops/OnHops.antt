-- Where a message that is first in its list is: it goes down a hop of its LSP's route, or up one.
use Rattle.std.proofs.Common.{◌≡◌, ◌<◌, ℕ, suc, true, List, [], ◌∷◌, subst, inl, inr}
use Rattle.std.specs.Prelude.{◌⊎◌, Option, Some, None}
use Rattle.ason_base.specs.{Network.Network, declared.ids.Lsp.Lsp, declared.ids.NodeId.NodeId, declared.messages.Msg.Msg, declared.steps.Step.Step}
use Rattle.ason_base.proofs.JoinedEnds.{same-node}
use Rattle.mesh_rules.specs.Machine.{Mesh}
use Rattle.lsp_laws.specs.HopLaw.{is_message_of, mail_between, messages_of}
use Rattle.lsp_laws.proofs.{hops.Chain.OnRoute, hops.Planned.{EachFollows, Follows, Planned, Routes}, hops.Plans.{Plan, hops, node_at, plan}, hops.Purposes.Purpose, hops.Taken.mine}

-- these messages of the LSP are under way from one node of a hop to the other
pub data OnHop (t : Network) (s : Mesh) (o : Routes) (l : Lsp) (u d : NodeId) (ms : List Msg) : Type 0 where
  Down : (q : Purpose) (p : Plan) → Planned t s o l q p → (i : ℕ) → i < hops p →
      u ≡ node_at p i → d ≡ node_at p (suc i) → mail_between s l (node_at p i) (node_at p (suc i)) ≡ ms →
      OnHop t s o l u d ms
  Up : (q : Purpose) (p : Plan) → Planned t s o l q p → (i : ℕ) → i < hops p →
      u ≡ node_at p (suc i) → d ≡ node_at p i → mail_between s l (node_at p (suc i)) (node_at p i) ≡ ms →
      OnHop t s o l u d ms

module _ (t : Network) (s : Mesh) (o : Routes) (l : Lsp) (u d : NodeId) (m : Msg) (rest : List Msg)
    (first : s.mail u.0 d.0 ≡ m ∷ rest) (own : is_message_of l m ≡ true) where
  abbrev ms : List Msg
  ms = m ∷ messages_of l rest

  under_way : mail_between s l u d ≡ ms
  under_way = mine s l u d m rest first own

  moved : (v w : NodeId) → u ≡ v → d ≡ w → mail_between s l v w ≡ ms
  moved v w u_is d_is =
      subst (λ n. mail_between s l v n ≡ ms) d_is (subst (λ n. mail_between s l n d ≡ ms) u_is under_way)

  on_route : (q : Purpose) (p : Plan) → Planned t s o l q p → (mail_between s l u d ≡ []) ⊎ OnRoute p u d →
      OnHop t s o l u d ms
  on_route q p planned (inl none) = absurd (cc (none, under_way))
  on_route q p planned (inr (i, small, inl (at_u, at_d))) =
      let u_is : u ≡ node_at p i = same-node u (node_at p i) at_u in
      let d_is : d ≡ node_at p (suc i) = same-node d (node_at p (suc i)) at_d in
      Down q p planned i small u_is d_is (moved (node_at p i) (node_at p (suc i)) u_is d_is)
  on_route q p planned (inr (i, small, inr (at_u, at_d))) =
      let u_is : u ≡ node_at p (suc i) = same-node u (node_at p (suc i)) at_u in
      let d_is : d ≡ node_at p i = same-node d (node_at p i) at_d in
      Up q p planned i small u_is d_is (moved (node_at p (suc i)) (node_at p i) u_is d_is)

  -- the LSP was sent, and the message is on a hop of its route
  pub on_hop : EachFollows t s o → OnHop t s o l u d ms
  on_hop follows = go (o l) (follows l)
    where
      go : (c : Option (List Step)) → Follows t s o l c → OnHop t s o l u d ms
      go None f = absurd (let none = f.mail u d in cc (none, under_way))
      go (Some route) (e, q, planned) = on_route q (plan route e) planned (planned.chain.ways u d)
