-- What a hop is after a step at its downstream node: how its row follows, and the changes beside it.
use Rattle.std.proofs.{Common.{◌≡◌, ℕ, true, false, List, [], ◌∷◌, ◌++◌, refl, ◌∙◌, inl, inr, append-nil}, lemmas.List.map-append}
use Rattle.std.specs.Prelude.{map, Option, Some, None}
use Rattle.ason_base.specs.{Labels.has, declared.codes.ErrCode.ErrCode, declared.ids.Lsp.Lsp, declared.ids.NodeId.NodeId, declared.ids.LinkId.LinkId, declared.calls.Phase.TheVariants.Asked, declared.messages.PathRole.PathRole, declared.messages.Msg.Msg, declared.messages.Msg.TheVariants.{Path, Resv, PathTear, PathErr}, declared.steps.Step.Step, declared.tables.Leg.Leg}
use Rattle.lsp_laws.specs.HopShapes.{PlainPath, IsTorn, HasLetGo, NothingLeft, leg_kind, msg_kind, path_kind}
use Rattle.lsp_laws.proofs.{hops.Plans.{Plan, link_at}, hops.RowStates.{is_reserved, reserved_leg, reserved_is, KindStands}, hops.PathTaken.{FirstTaken, first_taken, tear_taken, tear_late}, hops.AnswersTaken.{AskedAnswers, asked_answers, torn_leaves}, hops.Purposes.{Purpose, purpose_role, Rest, has_path, in_label_of, out_label_of}, hops.IdleHops.{no_kinds, no_path_down}, hops.Rest.{down_taken, up_sent, downstream_lets_go, downstream_takes, downstream_asked, offer_path, sent_path, sent_offer}, hops.Chain.ChainHop}

module _ (q : Purpose) (p : Plan) (i : ℕ) (u : Option Leg) where
  -- a leg of this kind has its label
  reserved_kind : (g : Leg) → leg_kind (Some g) ≡ reserved_leg (purpose_role q) → is_reserved (leg_kind (Some g)) ≡ true
  reserved_kind g kind = rw kind (reserved_is (purpose_role q))

  -- The first Path is taken

  module _ (l : Lsp) (e : NodeId) (k : LinkId) (r : List Step) (set : List ℕ) (label : Option ℕ) (s : PathRole)
      (rest up : List Msg) (plain : path_kind s ≡ PlainPath)
      (h : ChainHop q p i u None (Path l e k r set label s ∷ rest) up) where
    taken : FirstTaken (purpose_role q) (leg_kind u) (map msg_kind rest) (map msg_kind up)
    taken = first_taken (purpose_role q) (leg_kind u) (map msg_kind rest) (map msg_kind up) (rw plain at h.shape)

    path_quiet : up ≡ []
    path_quiet = no_kinds up taken.quiet

    -- no Path comes after it
    pub path_last : has_path rest ≡ false
    path_last = no_path_down rest taken.last

    bare : out_label_of u ≡ None
    bare = h.rest.bare (inl (refl, refl))

    left : Rest q p i u None rest []
    left = rw path_quiet at (down_taken q p i u None (Path l e k r set label s) rest up h.rest)

    pub path_passed : (g : Leg) → g.phase ≡ Asked → g.back_out ≡ label →
        ((x : ℕ) → has g.offered x ≡ true → has set x ≡ true) →
        ChainHop q p i u (Some g) rest (up ++ [])
    path_passed g asked back within = rw path_quiet (record {
      shape = rw asked taken.passed;
      rest = downstream_asked q p i u None g rest bare path_last
          (offer_path u g set (Path l e k r set label s) (λ sent is. is) h.rest.sets.0 within)
          (λ stands. back ∙ h.rest.upstream.0) left;
    })

    pub path_answered : (g : Leg) (e' : NodeId) (k' : LinkId) (x : ℕ) →
        leg_kind (Some g) ≡ reserved_leg (purpose_role q) →
        g.back_out ≡ label → g.in_label ≡ Some x → has set x ≡ true → k' ≡ link_at p i →
        ChainHop q p i u (Some g) rest (up ++ Resv l e' k' x ∷ [])
    path_answered g e' k' x kind back here within over = rw path_quiet (record {
      shape = rw kind taken.answered;
      rest = up_sent q p i u (Some g) (Resv l e' k' x) rest [] over
          (λ reserved. (here, sent_path u set x (Path l e k r set label s) (λ sent is. is) h.rest.sets.0 within))
          (downstream_takes q p i u None g rest bare path_last (reserved_kind g kind)
          (λ stands. back ∙ h.rest.upstream.0) left);
    })

    pub path_refused : (e' at : NodeId) (code : ErrCode) →
        ChainHop q p i u None rest (up ++ PathErr l e' at true code ∷ [])
    path_refused e' at code = rw path_quiet (record {
      shape = taken.refused;
      rest = up_sent q p i u None (PathErr l e' at true code) rest [] tt tt left;
    })

  -- A PathTear is taken

  module _ (l : Lsp) (e : NodeId) (k : LinkId) (rest up : List Msg) where
    -- by a leg that stands: it goes, or closes
    pub tear_lets_go : (g : Leg) (d : Option Leg) (l' : Lsp) (e' at : NodeId) (code : ErrCode) →
        KindStands (leg_kind (Some g)) →
        HasLetGo (purpose_role q) (leg_kind d) → in_label_of d ≡ None →
        ChainHop q p i u (Some g) (PathTear l e k ∷ rest) up →
        ChainHop q p i u d rest (up ++ PathErr l' e' at true code ∷ [])
    tear_lets_go g d l' e' at code stands gone none h =
        let t = tear_taken (purpose_role q) _ _ _ (map msg_kind up) stands h.shape in
        let empty : rest ≡ [] = no_kinds rest t.last in
        let after : Rest q p i u (Some g) [] up =
        rw empty at (down_taken q p i u (Some g) (PathTear l e k) rest up h.rest) in
        rw empty (record {
          shape = rw map-append (t.let_go (leg_kind d) gone);
          rest = up_sent q p i u d (PathErr l' e' at true code) [] up tt tt
              (downstream_lets_go q p i u (Some g) d [] up gone none refl after);
        })

    -- where the node has let go
    pub tear_kept : (d : Option Leg) → HasLetGo (purpose_role q) (leg_kind d) →
        ChainHop q p i u d (PathTear l e k ∷ rest) up →
        ChainHop q p i u d rest (up ++ [])
    tear_kept d gone h =
        let late = tear_late (purpose_role q) _ _ _ (map msg_kind up) gone h.shape in
        let empty : rest ≡ [] = no_kinds rest late.0 in
        rw (empty, append-nil) (record {
          shape = late.1;
          rest = rw empty at (down_taken q p i u d (PathTear l e k) rest up h.rest);
        })

  -- An Asked leg answers or lets go; a torn one goes

  module _ (down up : List Msg) (g : Leg) (h : ChainHop q p i u (Some g) down up) where
    answers_of : g.phase ≡ Asked → AskedAnswers (purpose_role q) (leg_kind u) (map msg_kind down) (map msg_kind up)
    answers_of asked =
        asked_answers (purpose_role q) (leg_kind u) (map msg_kind down) (map msg_kind up) (rw asked at h.shape)

    pub asked_reserved : (g' : Leg) (l : Lsp) (e : NodeId) (k : LinkId) (y : ℕ) → g.phase ≡ Asked →
        leg_kind (Some g') ≡ reserved_leg (purpose_role q) → g'.back_out ≡ g.back_out → g'.in_label ≡ Some y →
        has g.offered y ≡ true → k ≡ link_at p i →
        ChainHop q p i u (Some g') down (up ++ Resv l e k y ∷ [])
    asked_reserved g' l e k y asked kind back here offered over =
        let a = answers_of asked in
        let empty : up ≡ [] = no_kinds up a.quiet in
        let before : Rest q p i u (Some g) down [] = rw empty at h.rest in
        rw empty (record {
          shape = rw kind a.answered;
          rest = up_sent q p i u (Some g') (Resv l e k y) down [] over
              (λ reserved. (here, sent_offer u g y asked h.rest.offer offered))
              (downstream_takes q p i u (Some g) g' down
              (h.rest.bare (inr (rw asked refl))) (no_path_down down a.down_is) (reserved_kind g' kind)
              (λ stands. back ∙ h.rest.back (rw asked refl)) before);
        })

    pub asked_lets_go : (d : Option Leg) (l : Lsp) (e at : NodeId) (code : ErrCode) → g.phase ≡ Asked →
        HasLetGo (purpose_role q) (leg_kind d) → in_label_of d ≡ None →
        ChainHop q p i u d down (up ++ PathErr l e at true code ∷ [])
    asked_lets_go d l e at code asked gone none =
        let a = answers_of asked in
        record {
          shape = rw (map-append, a.quiet) (a.let_go (leg_kind d) gone);
          rest = up_sent q p i u d (PathErr l e at true code) down up tt tt
              (downstream_lets_go q p i u (Some g) d down up gone none (no_path_down down a.down_is) h.rest);
        }

    pub torn_goes : IsTorn (purpose_role q) (leg_kind (Some g)) → ChainHop q p i u None down (up ++ [])
    torn_goes torn =
        let t = torn_leaves (purpose_role q) _ _ _ _ torn h.shape in
        rw append-nil (record {
          shape = t.gone;
          rest =
              downstream_lets_go q p i u (Some g) None down up NothingLeft refl (no_path_down down t.down_is) h.rest;
        })
