-- No wavelength of a fibre is cross-connected for two LSPs.
use Rattle.std.proofs.{Common.{◌≡◌, ℕ, Bool, true, false, refl, sym, subst, ◌∙◌, inl, inr}, lemmas.Bool.{or_cases, or_right}}
use Rattle.std.specs.Prelude.{◌⊎◌, Option, Some, None}
use Rattle.ason_base.specs.{Network.{Network, receiver_of, sender_of}, Lsps.same_lsp, declared.calls.Phase.TheVariants.Live, declared.calls.Role.TheVariants.Back, declared.ids.Fibre.Fibre, declared.ids.Lsp.Lsp, declared.ids.NodeId.NodeId, declared.tables.Leg.Leg}
use Rattle.mesh_rules.specs.{Events.after, Legs.{is_at, is_marked, reverse, reverse_of, sends_label, takes}, Machine.{Mesh, start}}
use Rattle.mesh_nodes.proofs.{LabelPlaces.at-is, LegList.{same_lsp-eq, same_lsp-refl}}
use Rattle.lsp_laws.specs.HopLaw.{HasOneLegEach, leg_at}
use Rattle.lsp_laws.proofs.{hops.HopLaws.one_leg_each, hops.Planned.Routes, nodes.LegParts.taken-used}
use Rattle.mesh_laws.specs.SafeLaw.{EveryRunIsSafe, LegStandsAt}
use Rattle.mesh_laws.proofs.{crossing.Upstream.mark-of, safe.Hops.{Beyond, beyond, returning}, sent.Law.sent-shared, sent.Run.sound, sent.Sound.{Sound, standing}}

lsp_is : (l m : Lsp) → (l ≡ m) ⊎ (l ≡ m → ⊥)
lsp_is l m = go (same_lsp l m) refl
  where
    go : (b : Bool) → same_lsp l m ≡ b → (l ≡ m) ⊎ (l ≡ m → ⊥)
    go true e = inl (same_lsp-eq l m e)
    go false e = inr (λ is. (let test : same_lsp l m ≡ true = subst (λ k. same_lsp l k ≡ true) is (same_lsp-refl l) in
        cc (test, e)))

module _ (t : Network) (o w : Routes) (s : Mesh) (now : Sound t o w s) (f : Fibre) (x : ℕ) where
  -- a Live leg of the LSP at this node
  record LiveAt (l : Lsp) (n : NodeId) (g : Leg) : Type 0 where
    found : leg_at s l n ≡ Some g
    live : g.phase ≡ Live

  marked : (l : Lsp) (n : NodeId) (g : Leg) → LiveAt l n g → g.role ≡ Back → is_marked g ≡ true
  marked l n g at_g back = mark-of g back (rw at_g.live refl)

  both-take : (n : NodeId) (l m : Lsp) (g h : Leg) → LiveAt l n g → LiveAt m n h → takes f x g ≡ true →
      takes f x h ≡ true → l ≡ m
  both-take n l m g h at_g at_h this that =
      elim ((now.facts.node n.0).labels f x l m g h at_g.found at_h.found this that) [
        | inl same ↦ same
        | inr may ↦ (now.facts.node n.0).marks f x l m g h at_g.found at_h.found (taken-used f x g this)
            (taken-used f x h that) (marked l n g at_g may.backups.0) (marked m n h at_h may.backups.1)
      ]

  both-send : (n : NodeId) (l m : Lsp) (g h : Leg) → LiveAt l n g → LiveAt m n h → sends_label f x g ≡ true →
      sends_label f x h ≡ true → l ≡ m
  both-send n l m g h at_g at_h this that = go (lsp_is l m)
    where
      go : (l ≡ m) ⊎ (l ≡ m → ⊥) → l ≡ m
      go (inl same) = same
      go (inr other) =
          let may = sent-shared t o w s now n l m g h at_g.found at_h.found other f x this that in
          (now.facts.node n.0).marks f x l m g h at_g.found at_h.found (or_right (takes f x g) (sends_label f x g) this)
          (or_right (takes f x h) (sends_label f x h) that) (marked l n g at_g may.backups.0)
          (marked m n h at_h may.backups.1)

  -- the one leg sends it at u, the other takes it at d
  across : (u d : NodeId) (l m : Lsp) (g h : Leg) → sender_of t f ≡ Some u → receiver_of t f ≡ Some d →
      LiveAt l u g → LiveAt m d h → sends_label f x g ≡ true → takes f x h ≡ true → l ≡ m
  across u d l m g h from to at_g at_h this that =
      elim ((now.facts.node d.0).labels f x l m next.leg h next.found at_h.found next.taken that) [
        | inl same ↦ same
        | inr may ↦ go next.how (sym next.role ∙ may.backups.0) may.backups.1
            (or_cases (is_at h.in_fibre h.in_label f x) (is_at (reverse_of h.out_fibre) h.back_in f x) that)
      ]
    where
      next : Beyond t o w s (standing t o w s now) f x l d g
      next = beyond t o w s (standing t o w s now) f x l u g at_g.found at_g.live d to this

      go : (next.leg.phase ≡ Live) ⊎ ((g.in_fibre ≡ Some (reverse f)) × (g.back_out ≡ Some x)) → g.role ≡ Back →
          h.role ≡ Back →
          (is_at h.in_fibre h.in_label f x ≡ true) ⊎ (is_at (reverse_of h.out_fibre) h.back_in f x ≡ true) → l ≡ m
      go (inl live) back_g back_h on =
          both-take d l m next.leg h (record { found = next.found; live = live }) at_h next.taken that
      -- they cross
      go (inr back) back_g back_h (inl on) = decide (lsp_is l m)
        where
          decide : (l ≡ m) ⊎ (l ≡ m → ⊥) → l ≡ m
          decide (inl same) = same
          decide (inr other) =
              let enters = at-is h.in_fibre h.in_label f x on in
              absurd (now.crossing f d u m l h g (λ e. other (sym e))
              (record { found = at_h.found; backup = back_h; in_use = rw at_h.live refl; fibre = enters.0 })
              (record { found = at_g.found; backup = back_g; in_use = rw at_g.live refl; fibre = back.0 })
              (x, inl (enters.1, back.1)))
      go (inr back) back_g back_h (inr on) =
          let leaves = at-is (reverse_of h.out_fibre) h.back_in f x on in
          let v = returning t o w s (standing t o w s now) f x m d h at_h.found at_h.live u from leaves.0 leaves.1 in
          both-send u l m g v.0 at_g (record { found = v.1; live = v.2 }) this v.3

  -- a Live leg that has the label at one of the fibre's ends, these being its receiver and its sender
  abbrev HasLabel : Option NodeId → Option NodeId → Leg → Type 0
  HasLabel d u g = (LegStandsAt s d g × (takes f x g ≡ true)) ⊎ (LegStandsAt s u g × (sends_label f x g ≡ true))

  each : HasOneLegEach s
  each = one_leg_each t s now.facts

  one-lsp : (d u : Option NodeId) (g h : Leg) → receiver_of t f ≡ d → sender_of t f ≡ u → g.phase ≡ Live →
      h.phase ≡ Live → HasLabel d u g → HasLabel d u h → g.lsp ≡ h.lsp
  one-lsp None u g h to from live_g live_h (inl a) b = absurd a.0
  one-lsp None u g h to from live_g live_h (inr a) (inl b) = absurd b.0
  one-lsp d None g h to from live_g live_h (inr a) b = absurd a.0
  one-lsp (Some d) None g h to from live_g live_h (inl a) (inr b) = absurd b.0
  one-lsp (Some d) u g h to from live_g live_h (inl a) (inl b) =
      both-take d g.lsp h.lsp g h (record { found = each d g a.0; live = live_g })
      (record { found = each d h b.0; live = live_h }) a.1 b.1
  one-lsp d (Some u) g h to from live_g live_h (inr a) (inr b) =
      both-send u g.lsp h.lsp g h (record { found = each u g a.0; live = live_g })
      (record { found = each u h b.0; live = live_h }) a.1 b.1
  one-lsp (Some d) (Some u) g h to from live_g live_h (inr a) (inl b) =
      across u d g.lsp h.lsp g h from to (record { found = each u g a.0; live = live_g })
      (record { found = each d h b.0; live = live_h }) a.1 b.1
  one-lsp (Some d) (Some u) g h to from live_g live_h (inl a) (inr b) =
      sym (across u d h.lsp g.lsp h g from to (record { found = each u h b.0; live = live_h })
      (record { found = each d g a.0; live = live_g }) b.1 a.1)

-- the clause safe
pub every_run_safe : EveryRunIsSafe
every_run_safe t events run f x g h this that =
    let all = sound t events run in
    one-lsp t all.0 _ (after t start events) all.1 f x (receiver_of t f) (sender_of t f) g h refl refl this.live
    that.live this.at_an_end that.at_an_end
