-- A Path that doesn't activate is taken at a node of its route: a first one, or one that takes back the activation of a
-- backup.
use Rattle.std.proofs.{Common.{◌≡◌, ◌<◌, ◌≤◌, ℕ, suc, true, false, List, [], ◌∷◌, refl, sym, ◌∙◌, subst, arith, inl, inr, append-nil, drop}, lemmas.Bool.cases_lt}
use Rattle.std.specs.Prelude.{◌⊎◌, Option, Some}
use Rattle.ason_base.specs.{Lsps.same_lsp, Network.Network, declared.ids.Lsp.Lsp, declared.ids.NodeId.NodeId, declared.ids.LinkId.LinkId, declared.steps.Step.Step, declared.calls.Phase.TheVariants.{Held, Live}, declared.messages.PathRole.PathRole, declared.messages.PathRole.TheVariants.{Work, Back}, declared.messages.Msg.Msg, declared.messages.Msg.TheVariants.Path, declared.tables.Leg.Leg}
use Rattle.ason_base.specs.declared.calls.Role.TheVariants as role
use Rattle.ason_base.proofs.Numbers.{self-number}
use Rattle.mesh_rules.specs.{Activations.taken_back, Changes.{puts, to_node}, LocalNodes.local_node, Legs.with_phase, Machine.Mesh, Messages.on_message, Paths.path_with}
use Rattle.lsp_laws.specs.{HopShapes.{NoLeg, LiveLeg, PlainPath, leg_kind, path_kind}, HopLaw.{messages_of, leg_at, mail_between}}
use Rattle.mesh_nodes.specs.Routes.{AreRowsOf}
use Rattle.mesh_nodes.proofs.LegList.{same_lsp-refl}
use Rattle.lsp_laws.proofs.{hops.Activation.{takes_back, takes_back_on}, hops.Chain.{Chain, ChainHop, LegFitsPlan}, hops.LegKinds.{gone_none, live_leg, same_of}, hops.LegChanges.{following_is, following_none, live_held_fits, previous_is}, hops.PathRule.path_keeps, hops.Plans.{Plan, hops, node_at, link_at, IsPlanRoute}, hops.Purposes.{Purpose, Tells, purpose_role, tells_role}, hops.PathTaken.plain_taken, hops.Rows.leg_downstream, hops.Sending.{sends_none, sends_on}, hops.PathComes.path-comes, hops.Taken.{ahead, KeepsDown, down_hop, down_taken}}

module _ (t : Network) (q : Purpose) (s : Mesh) (l : Lsp) (p : Plan) (i : ℕ) (route : IsPlanRoute t l.ingress p)
    (chain : Chain t q l p (leg_at s l) (mail_between s l)) (below : i < hops p)
    (e : NodeId) (k : LinkId) (r : List Step) (set : List ℕ) (label : Option ℕ) (rest : List Msg) where
  open ahead t s p i use {u, d, next, place, state}

  -- One that takes back

  module _ (work : ℕ) (primary : List Step)
      (was : s.mail (node_at p i).0 (node_at p (suc i)).0 ≡ Path l e k r set label (Back false work primary) ∷ rest)
    where
      abbrev purpose : PathRole
      purpose = Back false work primary

      abbrev message : Msg
      message = Path l e k r set label (Back false work primary)

      open path-comes t q s l p i route chain below e k r set label purpose rest was use
          {asks, own, Keeps, hop, over, left, tells}

      -- the LSP is a backup
      backup : purpose_role q ≡ role.Back
      backup = sym (tells_role q purpose tells)

      module _ (g : Leg) (here : leg_at s l (node_at p (suc i)) ≡ Some g) (fits : LegFitsPlan t q l p (suc i) g)
          (live : g.phase ≡ Live) where
        mine : same_lsp g.lsp l ≡ true
        mine = same_of g.lsp l fits.own

        hop_out : suc i < hops p → ChainHop q p (suc i) (Some g) (leg_at s l next) (mail_between s l d next)
            (mail_between s l next d)
        hop_out small = rw here at (chain.each (suc i) small)

        held : LegFitsPlan t q l p (suc i) (with_phase Held g)
        held = live_held_fits t q l p (suc i) g fits live backup

        before : ChainHop q p i (leg_at s l u) (Some (with_phase Held g)) (messages_of l rest) (mail_between s l d u)
        before = takes_back q p i (leg_at s l u) g message (messages_of l rest) _ live refl (rw here at hop)

        -- at the egress
        ends : hops p ≤ suc i → Keeps (puts (with_phase Held g) [])
        ends end =
            down_taken t q s l p i route chain below message rest was own
            (puts (with_phase Held g) []) (Some (with_phase Held g)) [] []
            (rw mine refl) (sends_none l p (suc i)) held (rw append-nil before)
            (λ small. absurd (omega arith))
            (λ none. absurd cc)
            (λ small. absurd (omega arith))

        -- elsewhere the Path goes on
        goes_on : suc i < hops p →
            Keeps (puts (with_phase Held g) (to_node next
            (Path g.lsp g.egress (link_at p (suc i)) (drop 1 r) g.sent g.back_in purpose) ∷ []))
        goes_on small =
            let m : Msg = Path g.lsp g.egress (link_at p (suc i)) (drop 1 r) g.sent g.back_in
            (Back false work primary) in
            down_taken t q s l p i route chain below message rest was own
            (puts (with_phase Held g) (to_node next m ∷ [])) (Some (with_phase Held g)) [] (m ∷ [])
            (rw mine refl) (sends_on t l l.ingress p route (suc i) m small mine) held (rw append-nil before)
            (λ _. takes_back_on q p (suc i) g (leg_at s l next) m _ _ backup live refl (fits.egress, refl, left, tells)
            refl refl (λ gone. absurd (never gone)) (hop_out small))
            (λ none. absurd cc)
            (λ _ gone. absurd (never (rw gone refl)))
          where
            never : leg_kind (leg_at s l (node_at p (suc (suc i)))) ≡ NoLeg → ⊥
            never gone = leg_downstream (purpose_role q) _ _ _ _ (hop_out small).shape (rw live refl) gone

        onward : (suc i < hops p) ⊎ (hops p ≤ suc i) → Keeps (taken_back g (drop 1 r) purpose)
        onward (inl small) = rw (following_is t q l p (suc i) g fits small) (goes_on small)
        onward (inr end) = rw (following_none t q l p (suc i) g fits end) (ends end)

        follows : path_with place state asks (Some g) ≡ taken_back g (drop 1 r) purpose
        follows =
            let before = previous_is t q l p i g fits in
            rw (fits.role ∙ backup, live, before, over, self-number (node_at p i).0, self-number (link_at p i).0) refl

        taken : Keeps (path_with place state asks (Some g))
        taken = subst (λ a. Keeps a) (sym follows) (onward (cases_lt (suc i) (hops p)))

      back_keeps : leg_kind (leg_at s l (node_at p (suc i))) ≡ LiveLeg → Keeps (on_message place state u message)
      back_keeps is =
          let leg = live_leg (leg_at s l (node_at p (suc i))) is in
          rw (leg.1) (taken leg.0 leg.1 (rw (leg.1) at (chain.fits (suc i) below)) leg.2)

  -- Each of them

  pub plain_keeps : (purpose : PathRole)
      (was : s.mail (node_at p i).0 (node_at p (suc i)).0 ≡ Path l e k r set label purpose ∷ rest) →
      AreRowsOf t (s.nodes (node_at p (suc i)).0).learnt → path_kind purpose ≡ PlainPath →
      KeepsDown t q s l p i route chain below (Path l e k r set label purpose) rest was (same_lsp-refl l)
      (on_message (local_node t (node_at p (suc i))) (s.nodes (node_at p (suc i)).0) (node_at p i)
      (Path l e k r set label purpose))
  plain_keeps purpose was learnt plain =
      elim (plain_taken (purpose_role q) _ _ _ _ (rw plain at hop.shape)) [
        | inl gone ↦
            path_keeps t q s l p i route chain below e k r set label purpose rest was learnt plain
            (gone_none (leg_at s l d) gone)
        | inr back ↦ of_backup purpose was plain hop.rest.going_down.0.3 back.backup back.live
      ]
    where
      hop : ChainHop q p i (leg_at s l u) (leg_at s l d) (Path l e k r set label purpose ∷ messages_of l rest)
          (mail_between s l d u)
      hop = down_hop t q s l p i route chain below (Path l e k r set label purpose) rest was (same_lsp-refl l)

      -- that of a working LSP takes nothing back
      of_backup : (purpose : PathRole)
          (was : s.mail u.0 d.0 ≡ Path l e k r set label purpose ∷ rest) → path_kind purpose ≡ PlainPath →
          Tells q purpose → purpose_role q ≡ role.Back → leg_kind (leg_at s l d) ≡ LiveLeg →
          KeepsDown t q s l p i route chain below (Path l e k r set label purpose) rest was (same_lsp-refl l)
          (on_message place state u (Path l e k r set label purpose))
      of_backup (Work guard) was plain tells back live =
          let work : role.Work ≡ purpose_role q = tells_role q (Work guard) tells in absurd (cc (work, back))
      of_backup (Back true work primary) was plain tells back live = absurd (cc plain)
      of_backup (Back false work primary) was plain tells back live = back_keeps work primary was live
