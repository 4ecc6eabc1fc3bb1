-- While an active Path comes to a Held leg, the leg before it on its LSP's route is activated, or falls.
use Rattle.std.proofs.Common.{◌≡◌, ◌<◌, ℕ, suc, true, false, List, ◌∷◌, refl, sym, ap, subst, ◌∙◌, arith, inl, inr}
use Rattle.std.specs.Prelude.{◌⊎◌, map, Option, Some, None}
use Rattle.ason_base.specs.{Network.{Network, sender_of}, declared.calls.Phase.Phase, declared.calls.Phase.TheVariants.{Asked, Held, Armed, Live, Closing, Falling}, declared.calls.Role.Role, declared.calls.Role.TheVariants.Back, declared.ids.Fibre.Fibre, declared.ids.Lsp.Lsp, declared.ids.NodeId.NodeId, declared.messages.Msg.Msg, declared.messages.Msg.TheVariants.{Path, Resv, PathTear, PathErr, Notify}, declared.messages.PathRole.PathRole, declared.tables.Leg.Leg}
use Rattle.ason_base.specs.declared.messages.PathRole.TheVariants as path
use Rattle.mesh_rules.specs.{Legs.{is_held, is_marked, is_marking}, Machine.Mesh, Paths.is_active}
use Rattle.mesh_nodes.proofs.LegList.{same_lsp-refl}
use Rattle.lsp_laws.specs.{HopLaw.{is_message_of, is_notice, leg_at, mail_between, messages_of}, HopShapes.{LegKind, HeldLeg, ArmedLeg, FallingLeg, ActivePath, MsgKind, Shape, Activating, TornActivating, leg_kind, msg_kind, phase_kind}}
use Rattle.lsp_laws.proofs.{hops.Chain.{Chain, HopAt, LegFitsPlan, PhaseFits}, hops.OnHops.{Down, OnHop, Up, on_hop}, hops.Planned.Routes, hops.Plans.{Plan, distinct, fibre_at, hops, lt_true, node_at}, hops.Purposes.{BackMeets, Carries, Guards, LabelsMeet, Purpose, purpose_role}, hops.Rows.no_active_up}
use Rattle.mesh_laws.proofs.{sent.Ends.sender-at, sent.May.gift, sent.Standing.Standing}

-- the leg at the node that the fibre leaves: marked, with a label out, and its labels meet g's
pub record Upstream (s : Mesh) (l : Lsp) (u : NodeId) (f : Fibre) (g : Leg) : Type 0 where
  pub leg : Leg
  pub found : leg_at s l u ≡ Some leg
  pub marked : is_marked leg ≡ true
  pub fibre : leg.out_fibre ≡ Some f
  pub label : ℕ
  pub out : leg.out_label ≡ Some label
  pub meets : LabelsMeet leg.out_label g.in_label
  pub back : BackMeets (Some leg) (Some g)

pub mark-of : (g : Leg) → g.role ≡ Back → is_marking g.phase ≡ true → is_marked g ≡ true
mark-of g back marking = rw (back, marking) refl

-- Rows

marked-upstream : (r : Role) (u : LegKind) (down up : List MsgKind) → Shape r u HeldLeg (ActivePath ∷ down) up →
    (r ≡ Back) × ((u ≡ ArmedLeg) ⊎ (u ≡ FallingLeg))
marked-upstream _ _ _ _ Activating = (refl, inl refl)
marked-upstream _ _ _ _ TornActivating = (refl, inr refl)

-- a leg that is Armed or Falling
record Marking (o : Option Leg) : Type 0 where
  leg : Leg
  is : o ≡ Some leg
  marking : is_marking leg.phase ≡ true
  phase : (leg.phase ≡ Armed) ⊎ (leg.phase ≡ Falling)

kind-leg : (o : Option Leg) → (leg_kind o ≡ ArmedLeg) ⊎ (leg_kind o ≡ FallingLeg) → Marking o
kind-leg None (inl e) = absurd (cc e)
kind-leg None (inr e) = absurd (cc e)
kind-leg (Some v) which = go v.phase refl which
  where
    go : (f : Phase) → v.phase ≡ f → (phase_kind f ≡ ArmedLeg) ⊎ (phase_kind f ≡ FallingLeg) → Marking (Some v)
    go Asked e (inl k) = absurd (cc k)
    go Asked e (inr k) = absurd (cc k)
    go Held e (inl k) = absurd (cc k)
    go Held e (inr k) = absurd (cc k)
    go Armed e k = record { leg = v; is = refl; marking = rw e refl; phase = inl e }
    go Live e (inl k) = absurd (cc k)
    go Live e (inr k) = absurd (cc k)
    go Closing e (inl k) = absurd (cc k)
    go Closing e (inr k) = absurd (cc k)
    go Falling e k = record { leg = v; is = refl; marking = rw e refl; phase = inr e }

-- it has a label out before the egress
label-out : (q : Purpose) (f : Phase) (i n : ℕ) (enter leave : Option ℕ) → PhaseFits q f i n enter leave → i < n →
    (f ≡ Armed) ⊎ (f ≡ Falling) → (x : ℕ) × (leave ≡ Some x)
label-out Carries Armed i n enter leave fits small which = absurd fits
label-out (Guards w r) Armed i n enter leave fits small which = fits.2 small
label-out Carries Falling i n enter leave fits small which = absurd fits
label-out (Guards w r) Falling i n enter leave fits small which = fits.2 small
label-out q Asked i n enter leave fits small (inl e) = absurd (cc e)
label-out q Asked i n enter leave fits small (inr e) = absurd (cc e)
label-out q Held i n enter leave fits small (inl e) = absurd (cc e)
label-out q Held i n enter leave fits small (inr e) = absurd (cc e)
label-out q Live i n enter leave fits small (inl e) = absurd (cc e)
label-out q Live i n enter leave fits small (inr e) = absurd (cc e)
label-out q Closing i n enter leave fits small (inl e) = absurd (cc e)
label-out q Closing i n enter leave fits small (inr e) = absurd (cc e)

held-kind : (f : Phase) → is_held f ≡ true → phase_kind f ≡ HeldLeg
held-kind Held e = refl
held-kind _ e = absurd (cc e)

-- where the first message down a hop is an active Path
upstream-at : (t : Network) (q : Purpose) (s : Mesh) (l : Lsp) (p : Plan) (mail : NodeId → NodeId → List Msg)
    (chain : Chain t q l p (leg_at s l) mail) (i : ℕ) (small : i < hops p) (m : Msg) (rest : List Msg) (v : Leg) →
    mail (node_at p i) (node_at p (suc i)) ≡ m ∷ rest → msg_kind m ≡ ActivePath →
    leg_at s l (node_at p (suc i)) ≡ Some v → is_held v.phase ≡ true →
    Upstream s l (node_at p i) (fibre_at t p i) v
upstream-at t q s l p mail chain i small m rest v first active there held =
    before (kind-leg (leg_at s l (node_at p i)) row.1)
  where
    hop : HopAt q p (leg_at s l) mail i
    hop = chain.each i small

    row : (purpose_role q ≡ Back) ×
        ((leg_kind (leg_at s l (node_at p i)) ≡ ArmedLeg) ⊎ (leg_kind (leg_at s l (node_at p i)) ≡ FallingLeg))
    row =
        marked-upstream (purpose_role q) _ (map msg_kind rest) _
        (rw (first, active, there, held-kind v.phase held) at hop.shape)

    before : Marking (leg_at s l (node_at p i)) → Upstream s l (node_at p i) (fibre_at t p i) v
    before w =
        let fits : LegFitsPlan t q l p i w.leg = rw (w.is) at (chain.fits i (omega arith)) in
        let label = label-out q w.leg.phase i (hops p) w.leg.in_label w.leg.out_label fits.phase small w.phase in
        record {
          leg = w.leg;
          found = w.is;
          marked = mark-of w.leg (fits.role ∙ row.0) w.marking;
          fibre = fits.out_fibre ∙ rw (lt_true small) refl;
          label = label.0;
          out = label.1;
          meets = rw (w.is, there) at hop.rest.labels;
          back = rw (w.is, there) at hop.rest.back;
        }

-- The first message of a list

active-kind : (m : Msg) (l : Lsp) (r : PathRole) → (gift m).roles l r → is_active r ≡ true → msg_kind m ≡ ActivePath
active-kind (Path l' e k route set up (path.Work guard)) l r (own, told) active =
    let is : path.Work guard ≡ r = cc told in absurd (let never : false ≡ true = rw (← is) at active in cc never)
active-kind (Path l' e k route set up (path.Back true work primary)) l r told active = refl
active-kind (Path l' e k route set up (path.Back false work primary)) l r (own, told) active =
    let is : path.Back false work primary ≡ r = cc told in
    absurd (let never : false ≡ true = rw (← is) at active in cc never)
active-kind (Resv l' e k x) l r (own, told) active = absurd (cc told)
active-kind (PathTear l' e k) l r (own, told) active = absurd (cc told)
active-kind (PathErr l' e at gone code) l r (own, told) active = absurd (cc told)
active-kind (Notify l' e at k code) l r (own, told) active = absurd (cc told)

not-notice : (m : Msg) → msg_kind m ≡ ActivePath → is_notice m ≡ false
not-notice (Path l e k route set up r) h = refl
not-notice (Resv l e k x) h = refl
not-notice (PathTear l e k) h = refl
not-notice (PathErr l e at gone code) h = refl
not-notice (Notify l e at k code) h = absurd (cc h)

-- The message activates a Held leg, whose Path comes by the fibre f, from a.
module _ (t : Network) (o w : Routes) (s : Mesh) (now : Standing t o w s) (u d : NodeId) (m : Msg) (rest : List Msg)
    (first : s.mail u.0 d.0 ≡ m ∷ rest) where
  pub upstream-of : (l : Lsp) (r : PathRole) (v : Leg) (f : Fibre) (a : NodeId) → (gift m).roles l r →
      is_active r ≡ true → leg_at s l d ≡ Some v → is_held v.phase ≡ true → v.in_fibre ≡ Some f →
      sender_of t f ≡ Some a → Upstream s l a f v
  upstream-of l r v f a given active found held into from =
      go (on_hop t s o l u d m rest first own now.follows)
    where
      kind : msg_kind m ≡ ActivePath
      kind = active-kind m l r given active

      own : is_message_of l m ≡ true
      own = rw (not-notice m kind, given.0) (same_lsp-refl l)

      go : OnHop t s o l u d (m ∷ messages_of l rest) → Upstream s l a f v
      go (Down q p pl i small u_is d_is list) =
          let there : leg_at s l (node_at p (suc i)) ≡ Some v = subst (λ n. leg_at s l n ≡ Some v) d_is found in
          let fits : LegFitsPlan t q l p (suc i) v = rw there at (pl.chain.fits (suc i) small) in
          let same : Some (fibre_at t p i) ≡ Some f = sym fits.in_fibre ∙ into in
          let fibre : fibre_at t p i ≡ f = cc same in
          let near = distinct t l.ingress p pl.route i (suc i) (omega arith) (omega arith) (omega arith) in
          let ends : Some a ≡ Some (node_at p i) =
          sym from ∙ ap (sender_of t) (sym fibre) ∙ sender-at t p i near (pl.route.links i small) in
          let a_is : a ≡ node_at p i = cc ends in
          subst (λ n. Upstream s l n f v) (sym a_is)
          (subst (λ k. Upstream s l (node_at p i) k v) fibre
          (upstream-at t q s l p (mail_between s l) pl.chain i small m (messages_of l rest) v list kind there held))
      go (Up q p pl i small u_is d_is list) =
          absurd (no_active_up _ _ _ _ (map msg_kind (messages_of l rest))
          (rw (list, kind) at (pl.chain.each i small).shape))
