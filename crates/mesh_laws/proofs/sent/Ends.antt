-- The ends of the fibres of a route, in both directions.
use Rattle.std.proofs.{Common.{◌≡◌, ◌≢◌, ℕ, suc, Bool, true, false, not, nat_eq, refl, sym, ap, subst, ◌∙◌, arith}, lemmas.Option.same_Some}
use Rattle.std.specs.Prelude.{◌&&◌, ◌||◌, Some}
use Rattle.ason_base.specs.{Network.{Network, far_end, find_link, receiver_of, sender_of}, declared.ids.Fibre.Fibre, declared.ids.NodeId.NodeId, declared.network.LinkSpec.LinkSpec}
use Rattle.ason_base.proofs.JoinedEnds.{same-node}
use Rattle.mesh_rules.specs.{LocalNodes.leads, Legs.reverse}
use Rattle.lsp_laws.proofs.hops.Plans.{Plan, LinkLeads, fibre_at, joined, link_at, node_at}

-- of a link that leads from u to d: the end to which d is high, and the other one
both-ends : (link : LinkSpec) (u d : NodeId) → u.0 ≢ d.0 → leads (Some link) u d ≡ true →
    (far_end (Some link) (nat_eq link.high.0 d.0) ≡ Some d) ×
    (far_end (Some link) (not (nat_eq link.high.0 d.0)) ≡ Some u)
both-ends link u d apart joins = go (nat_eq link.high.0 d.0) (nat_eq link.low.0 u.0) (nat_eq link.low.0 d.0)
    (nat_eq link.high.0 u.0) refl refl refl refl joins
  where
    go : (a b c e : Bool) → nat_eq link.high.0 d.0 ≡ a → nat_eq link.low.0 u.0 ≡ b → nat_eq link.low.0 d.0 ≡ c →
        nat_eq link.high.0 u.0 ≡ e → ((b && a) || (c && e)) ≡ true →
        (far_end (Some link) a ≡ Some d) × (far_end (Some link) (not a) ≡ Some u)
    go true true c e ha hb hc he h =
        let high : link.high.0 ≡ d.0 = grind arith in let low : link.low.0 ≡ u.0 = grind arith in
        (ap Some (same-node link.high d high), ap Some (same-node link.low u low))
    go true false true true ha hb hc he h =
        let high : link.high.0 ≡ d.0 = grind arith in let also : link.high.0 ≡ u.0 = grind arith in
        absurd (apart (sym also ∙ high))
    go true false true false ha hb hc he h = absurd (cc h)
    go true false false e ha hb hc he h = absurd (cc h)
    go false true true true ha hb hc he h =
        let low : link.low.0 ≡ d.0 = grind arith in let high : link.high.0 ≡ u.0 = grind arith in
        (ap Some (same-node link.low d low), ap Some (same-node link.high u high))
    go false false true true ha hb hc he h =
        let low : link.low.0 ≡ d.0 = grind arith in let high : link.high.0 ≡ u.0 = grind arith in
        (ap Some (same-node link.low d low), ap Some (same-node link.high u high))
    go false true true false ha hb hc he h = absurd (cc h)
    go false true false e ha hb hc he h = absurd (cc h)
    go false false true false ha hb hc he h = absurd (cc h)
    go false false false e ha hb hc he h = absurd (cc h)

module _ (t : Network) (p : Plan) (i : ℕ) (apart : (node_at p i).0 ≢ (node_at p (suc i)).0)
    (over : LinkLeads t (link_at p i) (node_at p i) (node_at p (suc i))) where
  ends : (far_end (Some over.link) (nat_eq over.link.high.0 (node_at p (suc i)).0) ≡ Some (node_at p (suc i))) ×
      (far_end (Some over.link) (not (nat_eq over.link.high.0 (node_at p (suc i)).0)) ≡ Some (node_at p i))
  ends = both-ends over.link (node_at p i) (node_at p (suc i)) apart
      (joined t (link_at p i) (node_at p i) (node_at p (suc i)) apart over).leads

  -- the ends of the fibre of a place's hop
  pub receiver-at : receiver_of t (fibre_at t p i) ≡ Some (node_at p (suc i))
  receiver-at = rw over.found ends.0

  pub sender-at : sender_of t (fibre_at t p i) ≡ Some (node_at p i)
  sender-at = rw over.found ends.1

  -- and of the other direction
  pub receiver-back : receiver_of t (reverse (fibre_at t p i)) ≡ Some (node_at p i)
  receiver-back = sender-at

  pub sender-back : sender_of t (reverse (fibre_at t p i)) ≡ Some (node_at p (suc i))
  sender-back = ap (far_end (find_link t (link_at p i))) (twice (fibre_at t p i).forward) ∙ receiver-at
    where
      twice : (b : Bool) → not (not b) ≡ b
      twice true = refl
      twice false = refl

-- a fibre is known by its link and its ends
pub one-fibre : (t : Network) (f g : Fibre) (u d : NodeId) → u.0 ≢ d.0 → f.link.0 ≡ g.link.0 →
    receiver_of t f ≡ Some d → sender_of t f ≡ Some u → receiver_of t g ≡ Some d → f ≡ g
one-fibre t f g u d apart link to from to' = go f.forward g.forward refl refl
  where
    links : f.link ≡ g.link
    links = λ i. record { 0 = link i }

    -- they aren't the two directions of the link
    against : (b : Bool) → f.forward ≡ b → g.forward ≡ not b → ⊥
    against b e h =
        let at_u : far_end (find_link t f.link) (not b) ≡ Some u =
        subst (λ c. far_end (find_link t f.link) (not c) ≡ Some u) e from in
        let at_d : far_end (find_link t f.link) (not b) ≡ Some d =
        subst (λ k. far_end (find_link t k) (not b) ≡ Some d) (sym links)
        (subst (λ c. far_end (find_link t g.link) c ≡ Some d) h to') in
        apart (ap (λ n. n.0) (same_Some u d (sym at_u ∙ at_d)))

    go : (a b : Bool) → f.forward ≡ a → g.forward ≡ b → f ≡ g
    go true true e h = λ i. record { link = links i; forward = (e ∙ sym h) i }
    go false false e h = λ i. record { link = links i; forward = (e ∙ sym h) i }
    go true false e h = absurd (against true e h)
    go false true e h = absurd (against false e h)
