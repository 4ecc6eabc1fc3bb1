-- What lasts in a network of floods, whatever happens in it.
use Rattle.std.proofs.{Common.{◌≡◌, inl, inr, ℕ, ◌==◌, Bool, true, false, cond, List, [], ◌++◌, refl, sym, subst, arith, Contains}, lemmas.List.Elements.Contains-append_cases}
use Rattle.ason_base.specs.{declared.ids.NodeId.NodeId, declared.network.TeRow.TeRow}
use Rattle.ason_base.proofs.{Bools.not-both, Numbers.equal-is, Members.contains-none}
use Rattle.flood.specs.{declared.messages.FloodMsg.FloodMsg, declared.messages.FloodMsg.TheVariants.{Row, Ack}, State.{FloodState, flood_received, sent_at_tick, ticked_flood}, Networks.{FloodNetwork, sent_to_node, with_node}}
use Rattle.flood.proofs.{SentMessages.sent_in_tick, NodeFacts.{KnowsOwn, FloodNodeFacts, facts_received, facts_ticked}, ChannelFacts.{FloodFlow, GivenRows, IsHeard, IsNumberedRow, again_numbered, flow_acked, flow_again, flow_far, flow_ticked}}

pub record FlowOf (x y : FloodState) (d : ℕ) (sent back : List FloodMsg) : Type 0 where
  pub given : GivenRows
  pub flow : FloodFlow x y d sent back given

pub record Lasts (rows : List TeRow) (w : FloodNetwork) : Type 0 where
  pub node : (n : ℕ) → FloodNodeFacts rows n (w.nodes n)
  pub own : (n : ℕ) → KnowsOwn rows n (w.nodes n)
  pub silent : (n : ℕ) (m : FloodMsg) → Contains (w.channels n n) m → ⊥
  pub flow : (u d : ℕ) → (u == d) ≡ false → FlowOf (w.nodes u) (w.nodes d) d (w.channels u d) (w.channels d u)

-- A node n becomes s, and sends this.

pub record FollowsNetwork (rows : List TeRow) (w : FloodNetwork) (n : ℕ) (s : FloodState)
    (sends : List (NodeId × FloodMsg)) : Type 0 where
  pub node : FloodNodeFacts rows n s
  pub own : KnowsOwn rows n s
  pub silent : (m : FloodMsg) → Contains (sent_to_node n sends) m → ⊥
  pub near : (b : ℕ) → (n == b) ≡ false → FlowOf s (w.nodes b) b (w.channels n b ++ sent_to_node b sends)
      (w.channels b n)
  pub far : (a : ℕ) → (a == n) ≡ false → FlowOf (w.nodes a) s n (w.channels a n)
      (w.channels n a ++ sent_to_node a sends)

clash : (u d n : ℕ) → (u == d) ≡ false → (u == n) ≡ true → (d == n) ≡ true → ⊥
clash u d n p q r = absurd (grind arith)

-- then all lasts
pub lasts_with : (rows : List TeRow) (w : FloodNetwork) (n : ℕ) (s : FloodState) (sends : List (NodeId × FloodMsg))
    → Lasts rows w
    → FollowsNetwork rows w n s sends → Lasts rows (with_node w n s sends)
lasts_with rows w n s sends all f = record {
  node = λ m. node m (m == n) refl;
  own = λ m. own m (m == n) refl;
  silent = λ m msg. silent m msg (m == n) refl;
  flow = λ u d other. flow u d other (u == n) refl (d == n) refl;
}
  where
    node : (m : ℕ) (b : Bool) → (m == n) ≡ b → FloodNodeFacts rows m (cond b s (w.nodes m))
    node m true e = subst (λ k. FloodNodeFacts rows k s) (sym (equal-is m n e)) f.node
    node m false e = all.node m

    own : (m : ℕ) (b : Bool) → (m == n) ≡ b → KnowsOwn rows m (cond b s (w.nodes m))
    own m true e = subst (λ k. KnowsOwn rows k s) (sym (equal-is m n e)) f.own
    own m false e = all.own m

    silent : (m : ℕ) (msg : FloodMsg) (b : Bool) → (m == n) ≡ b
        → Contains (cond b (w.channels m m ++ sent_to_node m sends) (w.channels m m)) msg → ⊥
    silent m msg true e there = elim (Contains-append_cases (w.channels m m) (sent_to_node m sends) msg there) [
      | inl before ↦ all.silent m msg before
      | inr now ↦ f.silent msg (subst (λ k. Contains (sent_to_node k sends) msg) (equal-is m n e) now)
    ]
    silent m msg false e there = all.silent m msg there

    flow : (u d : ℕ) → (u == d) ≡ false → (b : Bool) → (u == n) ≡ b → (c : Bool) → (d == n) ≡ c
        → FlowOf (cond b s (w.nodes u)) (cond c s (w.nodes d)) d
        (cond b (w.channels u d ++ sent_to_node d sends) (w.channels u d))
        (cond c (w.channels d u ++ sent_to_node u sends) (w.channels d u))
    flow u d other true e true h = absurd (clash u d n other e h)
    flow u d other true e false h =
        let is : n ≡ u = sym (equal-is u n e) in
        subst (λ k. FlowOf s (w.nodes d) d (w.channels k d ++ sent_to_node d sends) (w.channels d k)) is
        (f.near d (subst (λ k. (k == d) ≡ false) (sym is) other))
    flow u d other false e true h =
        let is : n ≡ d = sym (equal-is d n h) in
        subst (λ k. FlowOf (w.nodes u) s k (w.channels u k) (w.channels k u ++ sent_to_node u sends)) is
        (f.far u (subst (λ k. (u == k) ≡ false) (sym is) other))
    flow u d other false e false h = all.flow u d other

-- A tick

pub ticks_follow : (rows : List TeRow) (w : FloodNetwork) (n : ℕ) → Lasts rows w
    → FollowsNetwork rows w n (ticked_flood (w.nodes n)) (sent_at_tick (w.nodes n))
ticks_follow rows w n all = record {
  node = facts_ticked rows n (w.nodes n) (all.node n);
  own = record { own = (all.own n).own };
  silent = λ m there.
      let sent = sent_in_tick (w.nodes n) n m there in
      not-both (sent.line.id.0 == n) sent.to ((all.node n).lines sent.line sent.neighbour).other;
  near = λ b other. near b (all.flow n b other);
  far = λ a other. far a (all.flow a n other);
}
  where
    near : (b : ℕ) → FlowOf (w.nodes n) (w.nodes b) b (w.channels n b) (w.channels b n)
        → FlowOf (ticked_flood (w.nodes n)) (w.nodes b) b (w.channels n b ++ sent_to_node b (sent_at_tick (w.nodes n)))
        (w.channels b n)
    near b f = record {
      given = f.given;
      flow = flow_ticked (w.nodes n) (w.nodes b) b (w.channels n b ++ sent_to_node b (sent_at_tick (w.nodes n)))
          (w.channels b n) f.given
          (flow_again (w.nodes n) (w.nodes b) b (w.channels n b) (w.channels b n)
          (sent_to_node b (sent_at_tick (w.nodes n))) f.given numbered f.flow);
    }
      where
        numbered : (k : ℕ) (o : NodeId) (r : TeRow)
            → Contains (sent_to_node b (sent_at_tick (w.nodes n))) (Row k o r) → IsNumberedRow f.given k o r
        numbered k o r there =
            let sent = sent_in_tick (w.nodes n) b (Row k o r) there in
            again_numbered f.given (w.nodes b) sent.line sent.due k o r
            (f.flow.lines sent.line sent.neighbour sent.to) sent.there sent.is

    far : (a : ℕ) → FlowOf (w.nodes a) (w.nodes n) n (w.channels a n) (w.channels n a)
        → FlowOf (w.nodes a) (ticked_flood (w.nodes n)) n (w.channels a n)
        (w.channels n a ++ sent_to_node a (sent_at_tick (w.nodes n)))
    far a f = record {
      given = f.given;
      flow = flow_far (w.nodes a) (w.nodes n) (ticked_flood (w.nodes n)) n (w.channels a n) (w.channels n a)
          (sent_to_node a (sent_at_tick (w.nodes n))) f.given
          (λ r known. known)
          (λ k there. (let sent = sent_in_tick (w.nodes n) a (Ack k) there in absurd (cc (sent.is))))
          f.flow;
    }

-- An acknowledgement is taken.

pub acks_follow : (rows : List TeRow) (w : FloodNetwork) (n : ℕ) (u : NodeId) (number : ℕ) → Lasts rows w
    → Contains (w.channels u.0 n) (Ack number) → FollowsNetwork rows w n (flood_received (w.nodes n) u (Ack number)) []
acks_follow rows w n u number all there = record {
  node = facts_received rows n (w.nodes n) u (Ack number) (λ k o r is. absurd (cc (is))) (all.node n);
  own = record { own = (all.own n).own };
  silent = λ m none. contains-none m none;
  near = λ b other. near b other (all.flow n b other);
  far = λ a other. far a (all.flow a n other);
}
  where
    near : (b : ℕ) → (n == b) ≡ false → FlowOf (w.nodes n) (w.nodes b) b (w.channels n b) (w.channels b n)
        → FlowOf (flood_received (w.nodes n) u (Ack number)) (w.nodes b) b (w.channels n b ++ []) (w.channels b n)
    near b other f = record {
      given = f.given;
      flow = flow_again (flood_received (w.nodes n) u (Ack number)) (w.nodes b) b (w.channels n b) (w.channels b n) []
          f.given
          (λ k o r none. absurd (contains-none (Row k o r) none))
          (flow_acked (w.nodes n) (w.nodes b) b (w.channels n b) (w.channels b n) f.given u number heard f.flow);
    }
      where
        heard : (u.0 == b) ≡ true → IsHeard f.given (w.nodes b) number
        heard e = f.flow.acks number (subst (λ k. Contains (w.channels k n) (Ack number)) (equal-is u.0 b e) there)

    far : (a : ℕ) → FlowOf (w.nodes a) (w.nodes n) n (w.channels a n) (w.channels n a)
        → FlowOf (w.nodes a) (flood_received (w.nodes n) u (Ack number)) n (w.channels a n) (w.channels n a ++ [])
    far a f = record {
      given = f.given;
      flow = flow_far (w.nodes a) (w.nodes n) (flood_received (w.nodes n) u (Ack number)) n (w.channels a n)
          (w.channels n a) [] f.given (λ r known. known)
          (λ k none. absurd (contains-none (Ack k) none))
          f.flow;
    }
