-- What a hop is after a step at its upstream node: how its row follows, and the changes beside it.
use Rattle.std.proofs.{Common.{◌≡◌, ℕ, true, false, List, [], ◌∷◌, ◌++◌, refl, append-nil}, lemmas.List.map-append}
use Rattle.std.specs.Prelude.{map, Option, Some, None}
use Rattle.ason_base.specs.{Labels.has, declared.codes.ErrCode.ErrCode, declared.ids.Lsp.Lsp, declared.ids.NodeId.NodeId, declared.ids.LinkId.LinkId, declared.calls.Phase.TheVariants.Asked, declared.messages.PathRole.PathRole, declared.messages.Msg.Msg, declared.messages.Msg.TheVariants.{Path, Resv, PathTear, PathErr}, declared.steps.Step.Step, declared.tables.Leg.Leg}
use Rattle.lsp_laws.specs.HopShapes.{PlainPath, ClosingLeg, IsTorn, Idle, Asking, leg_kind, msg_kind, path_kind}
use Rattle.lsp_laws.proofs.{hops.Plans.{Plan, link_at}, hops.RowStates.{is_reserved, reserved_leg, reserved_is, torn_leg, KindStands}, hops.AnswersTaken.{ResvTaken, resv_asked, resv_torn, removal_taken, contention_torn}, hops.Rows.tears, hops.Purposes.{Purpose, purpose_role, DownFits}, hops.IdleHops.no_path_down, hops.Rest.{up_taken, down_sent, upstream_keeps, upstream_connects, upstream_goes}, hops.Chain.ChainHop}

module _ (q : Purpose) (p : Plan) (i : ℕ) where
  -- nothing is there
  pub hop_idle : ChainHop q p i None None [] []
  hop_idle = record {
    shape = Idle;
    rest =
        record {
          going_down =
              tt;
          going_up = tt;
          labels = tt;
          answers = tt;
          offer = tt;
          sets = tt;
          bare = λ pending. refl;
          back = tt;
          upstream = tt;
        };
  }

  -- a leg is Asked, and its Path goes on
  pub hop_asks : (g : Leg) (l : Lsp) (e : NodeId) (k : LinkId) (r : List Step) (set : List ℕ) (label : Option ℕ)
      (s : PathRole) →
      path_kind s ≡ PlainPath → g.phase ≡ Asked → g.out_label ≡ None → set ≡ g.sent → label ≡ g.back_in →
      DownFits q p i (Path l e k r set label s) → ChainHop q p i (Some g) None (Path l e k r set label s ∷ []) []
  hop_asks g l e k r set label s plain asked bare is back fits = record {
    shape = rw (asked, plain) Asking;
    rest = record {
      going_down = (fits, tt);
      going_up = tt;
      labels = rw bare tt;
      answers = tt;
      offer = tt;
      sets = (is, tt);
      bare = λ pending. bare;
      back = tt;
      upstream = (back, tt);
    };
  }

  module _ (d : Option Leg) (down up : List Msg) (g : Leg) where
    -- A Resv is taken by an Asked leg

    module _ (l : Lsp) (e : NodeId) (k : LinkId) (x : ℕ) (asked : g.phase ≡ Asked)
        (h : ChainHop q p i (Some g) d down (Resv l e k x ∷ up)) where
      taken : ResvTaken (purpose_role q) (leg_kind d) (map msg_kind down) (map msg_kind up)
      taken = resv_asked (purpose_role q) (leg_kind d) (map msg_kind down) (map msg_kind up) (rw asked at h.shape)

      next_reserved : is_reserved (leg_kind d) ≡ true
      next_reserved = rw taken.far (reserved_is (purpose_role q))

      -- the label was sent on
      pub resv_sent : has g.sent x ≡ true
      resv_sent = (h.rest.answers.0 next_reserved).1

      -- it has its label
      pub resv_connects : (g' : Leg) → leg_kind (Some g') ≡ reserved_leg (purpose_role q) → g'.out_label ≡ Some x →
          g'.sent ≡ g.sent → g'.back_in ≡ g.back_in →
          ChainHop q p i (Some g') d (down ++ []) up
      resv_connects g' kind out sent back = rw append-nil (record {
        shape = rw (kind, taken.none, taken.last) taken.connected;
        rest = upstream_connects q p i g g' d down up x out (h.rest.answers.0 next_reserved).0 sent back next_reserved
            (up_taken q p i (Some g) d (Resv l e k x) down up h.rest);
      })

      -- it closes, and a PathTear goes on
      pub resv_closes : (g' : Leg) (l' : Lsp) (e' : NodeId) (k' : LinkId) → leg_kind (Some g') ≡ ClosingLeg →
          g'.out_label ≡ g.out_label → g'.sent ≡ g.sent → g'.back_in ≡ g.back_in → k' ≡ link_at p i →
          ChainHop q p i (Some g') d (down ++ PathTear l' e' k' ∷ []) up
      resv_closes g' l' e' k' kind out sent back over = record {
        shape = rw (kind, map-append, taken.none, taken.last) taken.torn;
        rest = down_sent q p i (Some g') d (PathTear l' e' k') down up over tt tt (λ _. refl)
            (upstream_keeps q p i g g' d down up out sent back
            (up_taken q p i (Some g) d (Resv l e k x) down up h.rest));
      }

    -- by a torn one, which stays as it is
    pub resv_kept : (l : Lsp) (e : NodeId) (k : LinkId) (x : ℕ) → IsTorn (purpose_role q) (leg_kind (Some g)) →
        ChainHop q p i (Some g) d down (Resv l e k x ∷ up) → ChainHop q p i (Some g) d (down ++ []) up
    resv_kept l e k x torn h = rw append-nil (record {
      shape = resv_torn (purpose_role q) _ _ _ _ torn h.shape;
      rest = up_taken q p i (Some g) d (Resv l e k x) down up h.rest;
    })

    -- A PathErr that removes nothing is taken by a torn leg, which stays as it is
    pub contention_kept : (l : Lsp) (e at : NodeId) (code : ErrCode) → IsTorn (purpose_role q) (leg_kind (Some g)) →
        ChainHop q p i (Some g) d down (PathErr l e at false code ∷ up) → ChainHop q p i (Some g) d (down ++ []) up
    contention_kept l e at code torn h = rw append-nil (record {
      shape = contention_torn (purpose_role q) _ _ _ _ torn h.shape;
      rest = up_taken q p i (Some g) d (PathErr l e at false code) down up h.rest;
    })

    -- A PathErr that removes is taken: the leg goes
    pub removal_leaves : (l : Lsp) (e at : NodeId) (code : ErrCode) →
        ChainHop q p i (Some g) d down (PathErr l e at true code ∷ up) →
        ChainHop q p i None d (down ++ []) up
    removal_leaves l e at code h =
        let t = removal_taken (purpose_role q) _ _ _ _ h.shape in
        rw append-nil (record {
          shape = t.gone;
          rest = upstream_goes q p i g d down up t.let_go (no_path_down down t.down_is)
              (up_taken q p i (Some g) d (PathErr l e at true code) down up h.rest);
        })

    -- A leg that stands closes, and a PathTear goes on
    pub leg_closes : (g' : Leg) (l : Lsp) (e : NodeId) (k : LinkId) → KindStands (leg_kind (Some g)) →
        leg_kind (Some g') ≡ torn_leg (purpose_role q) (leg_kind (Some g)) → g'.out_label ≡ g.out_label →
        g'.sent ≡ g.sent →
        g'.back_in ≡ g.back_in → k ≡ link_at p i → ChainHop q p i (Some g) d down up →
        ChainHop q p i (Some g') d (down ++ PathTear l e k ∷ []) up
    leg_closes g' l e k stands kind out sent back over h = record {
      shape = rw (kind, map-append) (tears (purpose_role q) _ _ _ _ stands h.shape);
      rest =
          down_sent q p i (Some g') d (PathTear l e k) down up over tt tt (λ _. refl)
          (upstream_keeps q p i g g' d down up out sent back h.rest);
    }
