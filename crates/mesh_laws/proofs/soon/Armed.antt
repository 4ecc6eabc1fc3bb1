-- While the backup's leg at the ingress is Armed, its activation is under way: the Path or the Resv is on some hop.
use Rattle.std.proofs.Common.{◌≡◌, ◌≤◌, ◌<◌, ◌⊎◌, ℕ, zero, suc, ◌+◌, ◌-◌, Bool, true, false, cond, List, [], ◌∷◌, refl, ap, arith, inl, inr}
use Rattle.std.specs.Prelude.{Option, Some, None, map}
use Rattle.ason_base.specs.{Network.Network, declared.calls.Phase.TheVariants.Armed, declared.calls.Role.Role, declared.ids.CallNo.CallNo, declared.ids.Lsp.Lsp, declared.ids.NodeId.NodeId, declared.messages.Msg.Msg, declared.messages.Msg.TheVariants.{Path, Resv, PathTear, PathErr, Notify}, declared.messages.PathRole.TheVariants.{Work, Back}, declared.tables.Leg.Leg}
use Rattle.mesh_rules.specs.Machine.{Mesh}
use Rattle.mesh_nodes.proofs.LegList.{same_lsp-eq}
use Rattle.lsp_laws.specs.{HopLaw.{is_message_of, leg_at, lsp_of, mail_between, messages_of}, HopShapes.{Activated, Activating, ActivePath, ArmedLeg, BothArmed, Contended, Closes, Contention, Falls, IsTorn, Label, LegKind, LetGo, MsgKind, Reactivating, Shape, TornConnected, TornStandby, WasConnected, WorkCloses, BackFalls, leg_kind, msg_kind}}
use Rattle.lsp_laws.proofs.{hops.Chain.{Chain, LegFitsPlan, PhaseFits}, hops.LegKinds.same_phase, hops.Plans.{Plan, hops, node_at}, hops.Purposes.{Carries, Guards, Purpose, purpose_role}}
use Rattle.mesh_laws.proofs.{soon.Activating.turning_goal, soon.OneHop.{Activates, IsResvOf}, soon.Delays.{AreDelays, back-straight, down-grows, down-straight, down_to, there_and_back, up_from}, soon.Soon.{ByMail, Within}, soon.Swept.StandsIn}

-- Kinds

-- this is one of these kinds
abbrev pub HasKind : MsgKind → List MsgKind → Type 0
HasKind x [] = ⊥
HasKind x (y ∷ ys) = (y ≡ x) ⊎ HasKind x ys

-- downstream of an Armed leg
data BesideArmed (d : LegKind) (down up : List MsgKind) : Type 0 where
  OnItsWay : HasKind ActivePath down → BesideArmed d down up
  Answered : HasKind Label up → BesideArmed d down up
  Refused : HasKind Contention up → BesideArmed d down up
  Farther : d ≡ ArmedLeg → BesideArmed d down up

was-armed : (r : Role) (u : LegKind) → WasConnected r u → u ≡ ArmedLeg → ⊥
was-armed _ _ WorkCloses e = cc e
was-armed _ _ BackFalls e = cc e

not-torn : (r : Role) (u : LegKind) → IsTorn r u → u ≡ ArmedLeg → ⊥
not-torn r _ Closes e = cc e
not-torn _ _ Falls e = cc e

armed-row : (r : Role) (d : LegKind) (down up : List MsgKind) → Shape r ArmedLeg d down up → BesideArmed d down up
armed-row _ _ _ _ Activating = OnItsWay (inl refl)
armed-row _ _ _ _ BothArmed = Farther refl
armed-row _ _ _ _ Activated = Answered (inl refl)
armed-row _ _ _ _ Contended = Refused (inl refl)
armed-row _ _ _ _ Reactivating = OnItsWay (inr (inl refl))
armed-row r _ _ up (TornConnected was may) = absurd (was-armed r ArmedLeg was refl)
armed-row _ _ _ up (TornStandby torn may) = absurd (elim torn [ ])
armed-row r d _ up (LetGo torn gone confirms) = absurd (not-torn r ArmedLeg torn refl)

-- a message of the LSP, of this kind, in a list
pub record FoundKind (l : Lsp) (x : MsgKind) (ms : List Msg) : Type 0 where
  pub msg : Msg
  pub own : is_message_of l msg ≡ true
  pub kind : msg_kind msg ≡ x
  pub before : List Msg
  pub stands : StandsIn ms msg before

-- it is found there
pub find-kind : (l : Lsp) (x : MsgKind) (ms : List Msg) → HasKind x (map msg_kind (messages_of l ms)) → FoundKind l x ms
find-kind l x [] has = absurd has
find-kind l x (m ∷ ms) has = go (is_message_of l m) refl has (λ later. find-kind l x ms later)
  where
    behind : FoundKind l x ms → FoundKind l x (m ∷ ms)
    behind f = record {
      msg = f.msg;
      own = f.own;
      kind = f.kind;
      before = m ∷ f.before;
      stands = record { later = f.stands.later; all = ap (λ xs. m ∷ xs) f.stands.all };
    }

    go : (b : Bool) → is_message_of l m ≡ b →
        HasKind x (map msg_kind (cond b (m ∷ messages_of l ms) (messages_of l ms))) →
        (HasKind x (map msg_kind (messages_of l ms)) → FoundKind l x ms) → FoundKind l x (m ∷ ms)
    go true own (inl is) again = record {
      msg = m;
      own = own;
      kind = is;
      before = [];
      stands = record { later = ms; all = refl };
    }
    go true own (inr later) again = behind (again later)
    go false own later again = behind (again later)

own-lsp : (l : Lsp) (m : Msg) → is_message_of l m ≡ true → lsp_of m ≡ l
own-lsp l (Path k e link route set up r) own = same_lsp-eq k l own
own-lsp l (Resv k e link x) own = same_lsp-eq k l own
own-lsp l (PathTear k e link) own = same_lsp-eq k l own
own-lsp l (PathErr k e at gone code) own = same_lsp-eq k l own
own-lsp l (Notify k e at link code) own = absurd (cc own)

activates-of : (l : Lsp) (m : Msg) → lsp_of m ≡ l → msg_kind m ≡ ActivePath → Activates l m
activates-of l (Path k e link route set up (Back true work primary)) is kind = record {
  egress = e;
  link = link;
  route = route;
  set = set;
  back = up;
  work = work;
  primary = primary;
  is = ap (λ x. Path x e link route set up (Back true work primary)) is;
}
activates-of l (Path k e link route set up (Back false work primary)) is kind = absurd (cc kind)
activates-of l (Path k e link route set up (Work guard)) is kind = absurd (cc kind)
activates-of l (Resv k e link x) is kind = absurd (cc kind)
activates-of l (PathTear k e link) is kind = absurd (cc kind)
activates-of l (PathErr k e at true code) is kind = absurd (cc kind)
activates-of l (PathErr k e at false code) is kind = absurd (cc kind)
activates-of l (Notify k e at link code) is kind = absurd (cc kind)

answers-of : (l : Lsp) (m : Msg) → lsp_of m ≡ l → msg_kind m ≡ Label → IsResvOf l m
answers-of l (Path k e link route set up (Back true work primary)) is kind = absurd (cc kind)
answers-of l (Path k e link route set up (Back false work primary)) is kind = absurd (cc kind)
answers-of l (Path k e link route set up (Work guard)) is kind = absurd (cc kind)
answers-of l (Resv k e link x) is kind =
    record { egress = e; link = link; label = x; is = ap (λ y. Resv y e link x) is }
answers-of l (PathTear k e link) is kind = absurd (cc kind)
answers-of l (PathErr k e at true code) is kind = absurd (cc kind)
answers-of l (PathErr k e at false code) is kind = absurd (cc kind)
answers-of l (Notify k e at link code) is kind = absurd (cc kind)

-- Along the route

module _ (t : Network) (delay : ℕ → ℕ → ℕ) (delays : AreDelays delay) (q : Purpose) (p : Plan) (b : Lsp) (n : NodeId)
    (k : CallNo) (s : Mesh) (chain : Chain t q b p (leg_at s b) (mail_between s b))
    (none : (u d : NodeId) → HasKind Contention (map msg_kind (mail_between s b u d)) → ⊥) where
  abbrev Near : Type 0
  Near = Within (turning_goal t delay q p b n k) (delay (node_at p 0).0) (there_and_back delay p) s

  armed-leg : (i : ℕ) → leg_kind (leg_at s b (node_at p i)) ≡ ArmedLeg → (o : Option Leg) →
      leg_at s b (node_at p i) ≡ o → (g : Leg) × (leg_at s b (node_at p i) ≡ Some g) × (g.phase ≡ Armed)
  armed-leg i kind None is = absurd (let never : leg_kind None ≡ ArmedLeg = rw is at kind in cc never)
  armed-leg i kind (Some g) is = (g, is, same_phase g.phase Armed (rw is at kind))

  on-way : (i : ℕ) → i < hops p →
      FoundKind b ActivePath (s.mail (node_at p i).0 (node_at p (suc i)).0) → Near
  on-way i below f =
      let far = down-grows delay p (suc i) (hops p) below in
      let straight = down-straight delay p delays i in
      ByMail (there_and_back delay p - down_to delay p (suc i)) (node_at p i).0 (node_at p (suc i)).0 f.msg f.before
      (omega (arith, far, straight))
      (inl (record {
        place = i;
        below = below;
        tells = activates-of b f.msg (own-lsp b f.msg f.own) f.kind;
        from = refl;
        to = refl;
        left = omega (arith, far);
      }))
      f.stands

  answered : (i : ℕ) → i < hops p →
      FoundKind b Label (s.mail (node_at p (suc i)).0 (node_at p i).0) → Near
  answered i below f =
      ByMail (up_from delay p i) (node_at p (suc i)).0 (node_at p i).0 f.msg f.before
      (back-straight delay p delays i (hops p) below)
      (inr (record {
        place = i;
        below = below;
        tells = answers-of b f.msg (own-lsp b f.msg f.own) f.kind;
        from = refl;
        to = refl;
        left = refl;
      }))
      f.stands

  inside : (q' : Purpose) (i m : ℕ) (enter leave : Option ℕ) → PhaseFits q' Armed i m enter leave → i < m
  inside Carries i m enter leave fits = absurd fits
  inside (Guards w r) i m enter leave fits = fits.0

  -- at an Armed leg it is on the next hop, or the next leg is Armed too
  at-armed : (i : ℕ) → i ≤ hops p → leg_kind (leg_at s b (node_at p i)) ≡ ArmedLeg →
      (i < hops p → leg_kind (leg_at s b (node_at p (suc i))) ≡ ArmedLeg → Near) → Near
  at-armed i most armed further =
      let g = armed-leg i armed (leg_at s b (node_at p i)) refl in
      let fits : LegFitsPlan t q b p i g.0 = rw (g.1) at (chain.fits i most) in
      let below : i < hops p = inside q i (hops p) g.0.in_label g.0.out_label
      (let phase = fits.phase in rw (g.2) at phase) in
      beside below (armed-row (purpose_role q) _ _ _ (rw armed at (chain.each i below).shape))
    where
      beside : i < hops p → BesideArmed (leg_kind (leg_at s b (node_at p (suc i))))
          (map msg_kind (mail_between s b (node_at p i) (node_at p (suc i))))
          (map msg_kind (mail_between s b (node_at p (suc i)) (node_at p i))) → Near
      beside below (OnItsWay has) =
          on-way i below (find-kind b ActivePath (s.mail (node_at p i).0 (node_at p (suc i)).0) has)
      beside below (Answered has) =
          answered i below (find-kind b Label (s.mail (node_at p (suc i)).0 (node_at p i).0) has)
      beside below (Refused has) = absurd (none (node_at p (suc i)) (node_at p i) has)
      beside below (Farther is) = further below is

  -- from an Armed leg at place i, with so many hops left
  from-place : (left i : ℕ) → left + i ≡ hops p → leg_kind (leg_at s b (node_at p i)) ≡ ArmedLeg → Near
  from-place zero i whole armed = at-armed i (omega (arith, whole)) armed (λ below is. absurd (omega (arith, whole, below)))
  from-place (suc left) i whole armed =
      at-armed i (omega (arith, whole)) armed (λ below is. from-place left (suc i) (omega (arith, whole)) is)

  -- While the leg at the ingress is Armed, the call has turned within as many sweeps as messages wait, there and back.
  pub armed-soon : leg_kind (leg_at s b (node_at p 0)) ≡ ArmedLeg → Near
  armed-soon armed = from-place (hops p) 0 (omega arith) armed
