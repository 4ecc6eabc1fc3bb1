-- What the activation of a backup, and its taking back, leave of the hop before a node and of the hop after it.
use Rattle.std.proofs.{Common.{◌≡◌, ℕ, true, false, List, [], ◌∷◌, ◌++◌, refl, inl, inr, append-nil}, lemmas.List.map-append}
use Rattle.std.specs.Prelude.{◌⊎◌, map, Option, Some, None}
use Rattle.ason_base.specs.{Labels.has, declared.codes.ErrCode.ErrCode, declared.ids.Lsp.Lsp, declared.ids.NodeId.NodeId, declared.ids.LinkId.LinkId, declared.calls.Phase.Phase, declared.calls.Phase.TheVariants.{Held, Armed, Live}, declared.calls.Role.Role, declared.calls.Role.TheVariants.Back, declared.messages.Msg.Msg, declared.messages.Msg.TheVariants.{Resv, PathErr}, declared.tables.Leg.Leg}
use Rattle.mesh_rules.specs.Legs.{with_phase}
use Rattle.lsp_laws.specs.HopShapes.{LegKind, NoLeg, HeldLeg, ArmedLeg, LiveLeg, FallingLeg, MsgKind, PlainPath, ActivePath, Label, Contention, IsTorn, Shape, Standby, leg_kind, msg_kind}
use Rattle.lsp_laws.proofs.{hops.Plans.{Plan, link_at}, hops.RowStates.is_reserved, hops.PathTaken.{ActiveTaken, active_taken, plain_taken}, hops.AnswersTaken.{resv_armed, armed_answers, ContentionTaken, HeldAgain, Ignored, contention_taken}, hops.Rows.{activates, deactivates}, hops.Purposes.{Purpose, Rest, DownFits, HasUpstream, LabelsMeet, SentOn, SetSent, purpose_role, is_path, out_label_of}, hops.Rest.{down_taken, down_sent, up_taken, up_sent, downstream_keeps, upstream_keeps}, hops.Chain.ChainHop}

-- the upstream leg of an activation has its label out, which was sent on: Armed and Falling legs have one
abbrev pub OutWasSent : Option Leg → Type 0
OutWasSent None = Unit {0}
OutWasSent (Some g) = (x : ℕ) × (g.out_label ≡ Some x) × (has g.sent x ≡ true)

abbrev pub UsedHasOut : Option Leg → Type 0
UsedHasOut u = (leg_kind u ≡ ArmedLeg) ⊎ (leg_kind u ≡ FallingLeg) → OutWasSent u

-- so a label that the downstream leg has was sent on
was_sent : (u : Option Leg) (y : ℕ) (into : Option ℕ) → OutWasSent u → into ≡ Some y →
    LabelsMeet (out_label_of u) into → SentOn u y
was_sent None y into out is meets = tt
was_sent (Some g) y into out is meets = let one : out.0 ≡ y = rw (out.1, is) at meets in rw (← one) out.2

module _ (q : Purpose) (p : Plan) (i : ℕ) where
  -- An active Path is taken by a Held leg

  module _ (u : Option Leg) (g : Leg) (m : Msg) (down up : List Msg) (held : g.phase ≡ Held)
      (active : msg_kind m ≡ ActivePath) (h : ChainHop q p i u (Some g) (m ∷ down) up) where
    taken : ActiveTaken (purpose_role q) (leg_kind u) HeldLeg (map msg_kind down) (map msg_kind up)
    taken = active_taken (purpose_role q) (leg_kind u) HeldLeg (map msg_kind down) (map msg_kind up)
        (rw (held, active) at h.shape)

    moved : (f : Phase) → is_reserved (leg_kind (Some (with_phase f g))) ≡ true →
        Rest q p i u (Some (with_phase f g)) down up
    moved f has_it =
        downstream_keeps q p i u g (with_phase f g) down up refl refl (rw held refl) has_it
        (down_taken q p i u (Some g) m down up h.rest)

    pub arms : ChainHop q p i u (Some (with_phase Armed g)) down up
    arms = record { shape = rw taken.quiet taken.armed; rest = moved Armed refl }

    -- it is refused
    pub contends : (l : Lsp) (e at : NodeId) (code : ErrCode) →
        ChainHop q p i u (Some g) down (up ++ PathErr l e at false code ∷ [])
    contends l e at code = record {
      shape = rw (held, map-append, taken.quiet) taken.contended;
      rest = up_sent q p i u (Some g) (PathErr l e at false code) down up tt tt
          (down_taken q p i u (Some g) m down up h.rest);
    }

    -- at the egress its label goes back
    pub connects : (l : Lsp) (e : NodeId) (k : LinkId) (y : ℕ) → k ≡ link_at p i → g.in_label ≡ Some y →
        UsedHasOut u → ChainHop q p i u (Some (with_phase Live g)) down (up ++ Resv l e k y ∷ [])
    connects l e k y over here out =
        let sent : SentOn u y = was_sent u y g.in_label (out taken.marked) here h.rest.labels in
        record {
          shape = rw (map-append, taken.quiet) taken.activated;
          rest = up_sent q p i u (Some (with_phase Live g)) (Resv l e k y) down up over (λ has_it. (here, sent))
              (moved Live refl);
        }

  -- and goes on
  pub arms_on : (g : Leg) (d : Option Leg) (m : Msg) (down up : List Msg) → g.phase ≡ Held →
      msg_kind m ≡ ActivePath → DownFits q p i m → SetSent (Some g) m → HasUpstream g.back_in m →
      (leg_kind d ≡ NoLeg → is_path m ≡ false) →
      ChainHop q p i (Some g) d down up → ChainHop q p i (Some (with_phase Armed g)) d (down ++ m ∷ []) up
  arms_on g d m down up held active fits set label later h = record {
    shape = rw (map-append, active)
        (activates (purpose_role q) (leg_kind d) (map msg_kind down) (map msg_kind up) (rw held at h.shape));
    rest = upstream_keeps q p i g (with_phase Armed g) d (down ++ m ∷ []) up refl refl refl
        (down_sent q p i (Some g) d m down up fits set label later h.rest);
  }

  -- A Resv is taken by an Armed leg
  pub goes_live : (g : Leg) (d : Option Leg) (m : Msg) (down up : List Msg) → g.phase ≡ Armed → msg_kind m ≡ Label →
      ChainHop q p i (Some g) d down (m ∷ up) → ChainHop q p i (Some (with_phase Live g)) d (down ++ []) up
  goes_live g d m down up armed label h =
      let t = resv_armed (purpose_role q) (leg_kind d) (map msg_kind down) (map msg_kind up)
      (rw (armed, label) at h.shape) in
      rw append-nil (record {
        shape = rw (t.none, t.last) t.connected;
        rest = upstream_keeps q p i g (with_phase Live g) d down up refl refl refl
            (up_taken q p i (Some g) d m down up h.rest);
      })

  -- and one goes back
  pub live_answers : (u : Option Leg) (g : Leg) (l : Lsp) (e : NodeId) (k : LinkId) (y : ℕ) (down up : List Msg) →
      g.phase ≡ Armed → k ≡ link_at p i → g.in_label ≡ Some y → UsedHasOut u → ChainHop q p i u (Some g) down up →
      ChainHop q p i u (Some (with_phase Live g)) down (up ++ Resv l e k y ∷ [])
  live_answers u g l e k y down up armed over here out h =
      let t = armed_answers (purpose_role q) (leg_kind u) (map msg_kind down) (map msg_kind up) (rw armed at h.shape) in
      let sent : SentOn u y = was_sent u y g.in_label (out t.marked) here h.rest.labels in
      let kept : Rest q p i u (Some (with_phase Live g)) down up =
      downstream_keeps q p i u g (with_phase Live g) down up refl refl (rw armed refl) refl h.rest in
      record {
        shape = rw (map-append, t.quiet) t.activated;
        rest = up_sent q p i u (Some (with_phase Live g)) (Resv l e k y) down up over (λ has_it. (here, sent)) kept;
      }

  -- A PathErr that removes nothing is taken by an Armed leg, which is Held again
  held_again : (r : Role) (u d : LegKind) (down up : List MsgKind) → u ≡ ArmedLeg → ContentionTaken r u d down up →
      Shape r HeldLeg d down up
  held_again _ _ _ _ _ is HeldAgain = Standby
  held_again r u d down up is (Ignored t) = let torn : IsTorn r ArmedLeg = rw is at t in elim torn [ ]

  pub disarms : (g : Leg) (d : Option Leg) (m : Msg) (down up : List Msg) → g.phase ≡ Armed →
      msg_kind m ≡ Contention → ChainHop q p i (Some g) d down (m ∷ up) →
      ChainHop q p i (Some (with_phase Held g)) d (down ++ []) up
  disarms g d m down up armed contention h = rw append-nil (record {
    shape = held_again (purpose_role q) ArmedLeg (leg_kind d) (map msg_kind down) (map msg_kind up) refl
        (contention_taken (purpose_role q) ArmedLeg (leg_kind d) (map msg_kind down) (map msg_kind up)
        (rw (armed, contention) at h.shape));
    rest = upstream_keeps q p i g (with_phase Held g) d down up refl refl refl
        (up_taken q p i (Some g) d m down up h.rest);
  })

  -- and is passed back
  pub contention_passes : (u : Option Leg) (g : Leg) (l : Lsp) (e at : NodeId) (code : ErrCode) (down up : List Msg) →
      g.phase ≡ Armed → ChainHop q p i u (Some g) down up →
      ChainHop q p i u (Some (with_phase Held g)) down (up ++ PathErr l e at false code ∷ [])
  contention_passes u g l e at code down up armed h =
      let t = armed_answers (purpose_role q) (leg_kind u) (map msg_kind down) (map msg_kind up) (rw armed at h.shape) in
      let kept : Rest q p i u (Some (with_phase Held g)) down up =
      downstream_keeps q p i u g (with_phase Held g) down up refl refl (rw armed refl) refl h.rest in
      record {
        shape = rw (map-append, t.quiet) t.contended;
        rest = up_sent q p i u (Some (with_phase Held g)) (PathErr l e at false code) down up tt tt kept;
      }

  -- A Path that takes back is taken by a Live leg, which is Held again

  held_back : (u : LegKind) (down up : List MsgKind) →
      Shape (purpose_role q) u LiveLeg (PlainPath ∷ down) up → Shape (purpose_role q) u HeldLeg down up
  held_back u down up shape =
      elim (plain_taken (purpose_role q) u LiveLeg down up shape) [
        | inl gone ↦ absurd (cc gone)
        | inr taken ↦
            taken.held
      ]

  pub takes_back : (u : Option Leg) (g : Leg) (m : Msg) (down up : List Msg) → g.phase ≡ Live →
      msg_kind m ≡ PlainPath → ChainHop q p i u (Some g) (m ∷ down) up →
      ChainHop q p i u (Some (with_phase Held g)) down up
  takes_back u g m down up live plain h = record {
    shape = held_back (leg_kind u) (map msg_kind down) (map msg_kind up) (rw (live, plain) at h.shape);
    rest = downstream_keeps q p i u g (with_phase Held g) down up refl refl (rw live refl) refl
        (down_taken q p i u (Some g) m down up h.rest);
  }

  -- and goes on
  pub takes_back_on : (g : Leg) (d : Option Leg) (m : Msg) (down up : List Msg) → purpose_role q ≡ Back →
      g.phase ≡ Live →
      msg_kind m ≡ PlainPath → DownFits q p i m → SetSent (Some g) m → HasUpstream g.back_in m →
      (leg_kind d ≡ NoLeg → is_path m ≡ false) →
      ChainHop q p i (Some g) d down up → ChainHop q p i (Some (with_phase Held g)) d (down ++ m ∷ []) up
  takes_back_on g d m down up back live plain fits set label later h = record {
    shape = rw (back, map-append, plain)
        (deactivates (leg_kind d) (map msg_kind down) (map msg_kind up) (rw (back, live) at h.shape));
    rest = upstream_keeps q p i g (with_phase Held g) d (down ++ m ∷ []) up refl refl refl
        (down_sent q p i (Some g) d m down up fits set label later h.rest);
  }
