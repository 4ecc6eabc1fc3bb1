-- Each step at a node keeps it: of two backups that cross on a link with one label, at most one is Armed or Live where
-- their Paths come over the link.
use Rattle.std.proofs.Common.{◌≡◌, ◌≢◌, true, refl, sym, ap, subst, ◌∙◌, arith, inl, inr}
use Rattle.std.specs.Prelude.{◌⊎◌, Some, is_some}
use Rattle.ason_base.specs.{Network.{Network, sender_of}, declared.calls.Phase.Phase, declared.calls.Phase.TheVariants.{Armed, Live}, declared.calls.Role.TheVariants.Back, declared.ids.Fibre.Fibre, declared.ids.Lsp.Lsp, declared.ids.NodeId.NodeId, declared.messages.PathRole.PathRole, declared.tables.Leg.Leg}
use Rattle.ason_base.proofs.JoinedEnds.{same-node}
use Rattle.mesh_rules.specs.{Legs.{is_held, is_in_use, is_marking, reverse}, LocalNodes.local_node, Machine.Mesh, Paths.is_active}
use Rattle.lsp_laws.specs.{HopLaw.leg_at, LabelLaw.HaveOneLabel}
use Rattle.lsp_laws.proofs.{hops.Chain.is_or_not, hops.Planned.Routes, nodes.Facts.LegFacts}
use Rattle.mesh_laws.proofs.{crossing.Meets.{flip-label, never-cross}, crossing.Upstream.{Upstream, mark-of}, sent.May.{Activated, Arms, Given, InUse, SameIn, WasInUse}, sent.Standing.{Standing, comes-by}, reports.StoodLegs.held-stands}
use Rattle.mesh_rules.proofs.AnswerParts.{turned-twice}

-- a backup's leg that is Armed or Live, whose Path comes by this fibre
pub record Entered (s : Mesh) (l : Lsp) (n : NodeId) (f : Fibre) (g : Leg) : Type 0 where
  pub found : leg_at s l n ≡ Some g
  pub backup : g.role ≡ Back
  pub in_use : is_in_use g.phase ≡ true
  pub fibre : g.in_fibre ≡ Some f

-- no two of them cross
abbrev pub NoneCrosses : Mesh → Type 0
NoneCrosses s =
    (f : Fibre) (n k : NodeId) (l m : Lsp) (g h : Leg) → (l ≡ m → ⊥) → Entered s l n f g →
    Entered s m k (reverse f) h → HaveOneLabel g h → ⊥

-- A step at the node n: legs elsewhere stay; away from its ingress a backup's leg there is Armed or Live as before, or
-- the message that is taken activates it, and then the leg before it is marked.
pub record ArmStep (t : Network) (s s' : Mesh) (n : NodeId) (Q : Given) : Type 0 where
  pub legs : (l : Lsp) (k : NodeId) → k.0 ≢ n.0 → leg_at s' l k ≡ leg_at s l k
  pub arms : (l : Lsp) (g : Leg) → leg_at s' l n ≡ Some g → Arms (local_node t n) (s.nodes n.0) Q g
  pub own : (l : Lsp) (g : Leg) → leg_at s' l n ≡ Some g → g.lsp ≡ l
  pub upstream : (l : Lsp) (r : PathRole) (v : Leg) (f : Fibre) (u : NodeId) → Q.roles l r → is_active r ≡ true →
      leg_at s l n ≡ Some v → is_held v.phase ≡ true → v.in_fibre ≡ Some f → sender_of t f ≡ Some u →
      Upstream s l u f v

used-marking : (f : Phase) → is_in_use f ≡ true → is_marking f ≡ true
used-marking Armed e = refl
used-marking Live e = refl
used-marking _ e = absurd (cc e)

same-label : (v g h : Leg) → SameIn v g → HaveOneLabel g h → HaveOneLabel v h
same-label v g h same (x, inl both) = (x, inl (same.label ∙ both.0, both.1))
same-label v g h same (x, inr both) = (x, inr (same.back ∙ both.0, both.1))

module _ (t : Network) (o w o' w' : Routes) (s s' : Mesh) (now : Standing t o w s) (after : Standing t o' w' s')
    (n : NodeId) (Q : Given) (step : ArmStep t s s' n Q) (none : NoneCrosses s) where
  -- a leg with a fibre in is away from its ingress
  away : (l : Lsp) (f : Fibre) (g : Leg) → leg_at s' l n ≡ Some g → g.in_fibre ≡ Some f → g.lsp.ingress ≡ n → ⊥
  away l f g found enters here =
      let facts : LegFacts n.0 (s'.nodes n.0).lsp g = (after.facts.node n.0).leg l g found in
      let some : is_some g.prev ≡ true = sym facts.in_fibre ∙ ap is_some enters in
      let test = facts.prev in
      let same : g.lsp.ingress.0 ≡ n.0 = ap (λ k. k.0) here in grind arith

  stays : (l : Lsp) (k : NodeId) (f : Fibre) (g : Leg) → k.0 ≢ n.0 → Entered s' l k f g → Entered s l k f g
  stays l k f g apart at_g = record {
    found = sym (step.legs l k apart) ∙ at_g.found;
    backup = at_g.backup;
    in_use = at_g.in_use;
    fibre = at_g.fibre;
  }

  -- the leg at n is g; the other one, at another node, stays
  arrives : (f : Fibre) (k : NodeId) (l m : Lsp) (g h : Leg) → k.0 ≢ n.0 → (l ≡ m → ⊥) → Entered s' l n f g →
      Entered s' m k (reverse f) h → HaveOneLabel g h → ⊥
  arrives f k l m g h apart other at_g at_h label =
      go (step.arms l g at_g.found at_g.backup at_g.in_use (away l f g at_g.found at_g.fibre))
    where
      there : Entered s m k (reverse f) h
      there = stays m k (reverse f) h apart at_h

      mine : g.lsp ≡ l
      mine = step.own l g at_g.found

      -- the fibre leads from h's node
      from : sender_of t f ≡ Some k
      from = (comes-by t o w s now (reverse f) m k h there.found there.fibre).receiver

      go : InUse (s.nodes n.0) Q g → ⊥
      go (WasInUse v found used same) =
          none f n k l m v h other
          (record {
            found = subst (λ j. leg_at s j n ≡ Some v) mine found;
            backup = same.role ∙ at_g.backup;
            in_use = used;
            fibre = same.fibre ∙ at_g.fibre;
          })
          there (same-label v g h same label)
      go (Activated v r found held same given active) =
          let here : leg_at s l n ≡ Some v = subst (λ j. leg_at s j n ≡ Some v) mine found in
          let up : Upstream s l k f v = step.upstream l r v f k (subst (λ j. Q.roles j r) mine given) active here held
          (same.fibre ∙ at_g.fibre) from in
          never-cross (s.nodes k.0).legs l m f up.label up.leg v h (now.facts.node k.0).marks up.found there.found other
          up.marked (mark-of h at_h.backup (used-marking h.phase at_h.in_use)) up.fibre at_h.fibre up.out up.meets
          up.back (held-stands v.phase held) (same-label v g h same label)

  pub none-crosses : NoneCrosses s'
  none-crosses f a b l m g h other at_g at_h label = go (is_or_not a.0 n.0) (is_or_not b.0 n.0)
    where
      -- the two stand at different nodes
      apart : b.0 ≢ a.0
      apart same =
          let enters = comes-by t o' w' s' after f l a g at_g.found at_g.fibre in
          let back = comes-by t o' w' s' after (reverse f) m b h at_h.found at_h.fibre in
          let ends : Some enters.from ≡ Some b = sym enters.sender ∙ back.receiver in
          let from : enters.from ≡ b = cc ends in enters.apart (ap (λ k. k.0) from ∙ same)

      go : (a.0 ≡ n.0) ⊎ (a.0 ≢ n.0) → (b.0 ≡ n.0) ⊎ (b.0 ≢ n.0) → ⊥
      go (inl at_a) _ =
          let is : a ≡ n = same-node a n at_a in
          arrives f b l m g h (λ e. apart (e ∙ sym at_a)) other (subst (λ k. Entered s' l k f g) is at_g) at_h label
      go (inr far) (inl at_b) =
          let is : b ≡ n = same-node b n at_b in
          arrives (reverse f) a m l h g far (λ e. other (sym e)) (subst (λ k. Entered s' m k (reverse f) h) is at_h)
          (subst (λ k. Entered s' l a k g) (sym (turned-twice f)) at_g) (flip-label g h label)
      go (inr far) (inr far') =
          none f a b l m g h other (stays l a f g far at_g) (stays m b (reverse f) h far' at_h) label
