-- What the LSP of each leg is for is what its leg at the ingress told first in the run.
use Rattle.std.proofs.Common.{◌≡◌, ◌≢◌, ◌<◌, ◌≤◌, ℕ, true, false, List, ◌∷◌, refl, sym, ap, subst, ◌∙◌, arith, inl, inr}
use Rattle.std.specs.Prelude.{◌⊎◌, Option, Some, None}
use Rattle.ason_base.specs.{Network.Network, declared.ids.LinkId.LinkId, declared.ids.Lsp.Lsp, declared.ids.NodeId.NodeId, declared.messages.Msg.Msg, declared.messages.Msg.TheVariants.{Path, Resv, PathTear, PathErr, Notify}, declared.messages.PathRole.PathRole, declared.messages.PathRole.TheVariants.{Work, Back}, declared.steps.Step.Step, declared.calls.Role.Role, declared.tables.Leg.Leg}
use Rattle.ason_base.proofs.JoinedEnds.{same-node}
use Rattle.mesh_rules.specs.{Events.or_route, LocalNodes.local_node, Machine.Mesh}
use Rattle.mesh_nodes.proofs.LegList.{same_lsp-refl}
use Rattle.lsp_laws.specs.{HopLaw.{leg_at, messages_of}, HopShapes.{ActivePath, LegKind, MsgKind, NoLeg, PlainPath, Shape, leg_kind, path_kind}}
use Rattle.lsp_laws.proofs.{hops.Chain.{IsPlace, LegFitsPlan, is_or_not}, hops.OnHops.{Down, OnHop, Up, on_hop}, hops.Planned.{EachFollows, Follows, Planned, Routes}, hops.Plans.{Plan, hops, node_at, plan}, hops.Purposes.{Carries, Guards, Purpose, Tells, purpose_role}, hops.Rows.{no_active_up, no_path_up}}
use Rattle.mesh_laws.specs.HeardLaw.{primary_at, primary_in, primary_told}
use Rattle.mesh_laws.proofs.sent.May.{Given, SaidBefore, SaidFirst, SaidNow, SaysRole, gift}

-- Each leg tells its LSP's primary; and an LSP that was never sent has none.
pub record Told (o w : Routes) (s : Mesh) : Type 0 where
  pub legs : (l : Lsp) (n : NodeId) (g : Leg) → leg_at s l n ≡ Some g → w l ≡ primary_in g.path_role
  pub begun : (l : Lsp) → o l ≡ None → w l ≡ None

-- Purposes

abbrev primary_for : Purpose → Option (List Step)
primary_for Carries = None
primary_for (Guards work route) = Some route

tells-primary : (q : Purpose) (r : PathRole) → Tells q r → primary_in r ≡ primary_for q
tells-primary Carries (Work guard) tells = refl
tells-primary Carries (Back active work primary) tells = absurd tells
tells-primary (Guards w route) (Work guard) tells = absurd tells
tells-primary (Guards w route) (Back active work primary) tells = ap Some tells.1

-- an LSP with a leg has a route, to whose purpose the leg fits
pub record HasPurpose (t : Network) (s : Mesh) (o : Routes) (l : Lsp) (n : NodeId) (g : Leg) : Type 0 where
  pub purpose : Purpose
  pub plan : Plan
  pub place : ℕ
  pub planned : Planned t s o l purpose plan
  pub small : place ≤ hops plan
  pub here : n ≡ node_at plan place
  pub fits : LegFitsPlan t purpose l plan place g

-- where a leg stands on its LSP's route
record Placed (t : Network) (q : Purpose) (l : Lsp) (p : Plan) (n : NodeId) (g : Leg) : Type 0 where
  place : ℕ
  small : place ≤ hops p
  here : n ≡ node_at p place
  fits : LegFitsPlan t q l p place g

placed : (t : Network) (s : Mesh) (o : Routes) (l : Lsp) (q : Purpose) (p : Plan) → Planned t s o l q p → (n : NodeId)
    (g : Leg) → leg_at s l n ≡ Some g → Placed t q l p n g
placed t s o l q p pl n g here = on (pl.chain.legs n)
  where
    on : (leg_at s l n ≡ None) ⊎ IsPlace p n → Placed t q l p n g
    on (inl none) = absurd (cc (none, here))
    on (inr (i, small, at_n)) =
        let is = same-node n (node_at p i) at_n in
        let there : leg_at s l (node_at p i) ≡ Some g = rw (← is) here in
        record { place = i; small = small; here = is; fits = rw there at (pl.chain.fits i small) }

-- each leg has one
pub purpose-of : (t : Network) (s : Mesh) (o : Routes) (l : Lsp) (n : NodeId) (g : Leg) (c : Option (List Step)) →
    Follows t s o l c → leg_at s l n ≡ Some g → HasPurpose t s o l n g
purpose-of t s o l n g None f here = absurd (let none = f.legs n in cc (none, here))
purpose-of t s o l n g (Some route) (e, q, pl) here =
    let at = placed t s o l q (plan route e) pl n g here in
    record {
      purpose = q;
      plan = plan route e;
      place = at.place;
      planned = pl;
      small = at.small;
      here = at.here;
      fits = at.fits;
    }

-- its legs tell one primary
one-primary : (t : Network) (s : Mesh) (o : Routes) (l : Lsp) (n k : NodeId) (g h : Leg) (c : Option (List Step)) →
    Follows t s o l c → leg_at s l n ≡ Some g → leg_at s l k ≡ Some h →
    primary_in g.path_role ≡ primary_in h.path_role
one-primary t s o l n k g h None f at_n at_k = absurd (let none = f.legs n in cc (none, at_n))
one-primary t s o l n k g h (Some route) (e, q, pl) at_n at_k =
    let one = placed t s o l q (plan route e) pl n g at_n in
    let other = placed t s o l q (plan route e) pl k h at_k in
    tells-primary q g.path_role one.fits.tells ∙ sym (tells-primary q h.path_role other.fits.tells)

-- What a Path tells

-- a Path on a hop was sent by a leg
no_plain : (r : Role) (d : LegKind) (down up : List MsgKind) → Shape r NoLeg d (PlainPath ∷ down) up → ⊥
no_plain r d down up h = elim h [ ]

no_active : (r : Role) (d : LegKind) (down up : List MsgKind) → Shape r NoLeg d (ActivePath ∷ down) up → ⊥
no_active r d down up h = elim h [ ]

no_path_alone : (q : Role) (r : PathRole) (d : LegKind) (down up : List MsgKind) →
    Shape q NoLeg d (path_kind r ∷ down) up → ⊥
no_path_alone q (Work guard) d down up h = no_plain q d down up h
no_path_alone q (Back true work primary) d down up h = no_active q d down up h
no_path_alone q (Back false work primary) d down up h = no_plain q d down up h

-- and none goes up
none_up : (q : Role) (r : PathRole) (u d : LegKind) (down up : List MsgKind) → Shape q u d down (path_kind r ∷ up) → ⊥
none_up q (Work guard) u d down up h = no_path_up q u d down up h
none_up q (Back true work primary) u d down up h = no_active_up q u d down up h
none_up q (Back false work primary) u d down up h = no_path_up q u d down up h

-- What the first Path of a list tells is what the LSP's legs tell.
module _ (t : Network) (s : Mesh) (o w : Routes) (follows : EachFollows t s o) (told : Told o w s) (u d : NodeId)
    (l : Lsp) (e : NodeId) (k : LinkId) (route : List Step) (set : List ℕ) (up : Option ℕ) (r : PathRole)
    (rest : List Msg) (first : s.mail u.0 d.0 ≡ Path l e k route set up r ∷ rest) where
  abbrev path : Msg
  path = Path l e k route set up r

  -- and that is what was told
  pub path-tells : w l ≡ primary_in r
  path-tells = go (on_hop t s o l u d path rest first (same_lsp-refl l) follows)
    where
      sender : (q : Purpose) (p : Plan) → Planned t s o l q p → (i : ℕ) → i < hops p → (v : Option Leg) →
          leg_at s l (node_at p i) ≡ v → (d : LegKind) (downs ups : List MsgKind) →
          Shape (purpose_role q) (leg_kind v) d (path_kind r ∷ downs) ups → Tells q r → w l ≡ primary_in r
      sender q p pl i small None is d downs ups shape tells =
          absurd (no_path_alone (purpose_role q) r d downs ups shape)
      sender q p pl i small (Some h) is d downs ups shape tells =
          let fits : LegFitsPlan t q l p i h = rw is at (pl.chain.fits i (omega arith)) in
          told.legs l (node_at p i) h is ∙ tells-primary q h.path_role fits.tells ∙ sym (tells-primary q r tells)

      go : OnHop t s o l u d (path ∷ messages_of l rest) → w l ≡ primary_in r
      go (Down q p pl i small u_is d_is list) =
          let downs = rw list at (pl.chain.each i small).rest.going_down in
          sender q p pl i small (leg_at s l (node_at p i)) refl _ _ _ (rw list at (pl.chain.each i small).shape)
          downs.0.3
      go (Up q p pl i small u_is d_is list) =
          absurd (none_up (purpose_role q) r _ _ _ _ (rw list at (pl.chain.each i small).shape))

-- and so what a message that is first in its list gives
pub gift-tells : (t : Network) (s : Mesh) (o w : Routes) → EachFollows t s o → Told o w s → (u d : NodeId) (m : Msg)
    (rest : List Msg) → s.mail u.0 d.0 ≡ m ∷ rest → (l : Lsp) (r : PathRole) → (gift m).roles l r → w l ≡ primary_in r
gift-tells t s o w follows told u d (Path l e k route set up r) rest first k' r' (is, tells) =
    let role : r ≡ r' = cc tells in
    subst (λ v. w v ≡ primary_in r') is
    (subst (λ v. w l ≡ primary_in v) role (path-tells t s o w follows told u d l e k route set up r rest first))
gift-tells t s o w follows told u d (Resv l e k x) rest first k' r' (is, tells) = absurd (cc tells)
gift-tells t s o w follows told u d (PathTear l e k) rest first k' r' (is, tells) = absurd (cc tells)
gift-tells t s o w follows told u d (PathErr l e at gone code) rest first k' r' (is, tells) = absurd (cc tells)
gift-tells t s o w follows told u d (Notify l e at k code) rest first k' r' (is, tells) = absurd (cc tells)

-- A step

-- what was told, or is told first by the leg at the ingress now
abbrev pub told_now : Mesh → Routes → Routes
told_now s w l = or_route (w l) (primary_at s l)

pub or-none : (a b : Option (List Step)) → or_route a b ≡ None → a ≡ None
or-none None b e = refl
or-none (Some x) b e = absurd (cc e)

module _ (t : Network) (s s' : Mesh) (o o' w : Routes) (follows : EachFollows t s o) (after : EachFollows t s' o')
    (grow : (l : Lsp) → o' l ≡ None → o l ≡ None) (told : Told o w s) where
  begun_now : (l : Lsp) → o' l ≡ None → told_now s' w l ≡ None
  begun_now l none =
      let before : w l ≡ None = told.begun l (grow l none) in
      let f : Follows t s' o' l None = subst (Follows t s' o' l) none (after l) in
      rw (before, f.legs l.ingress) refl

  -- where a leg tells what was told before, no leg tells otherwise now
  told_before : (l : Lsp) (k : NodeId) (g : Leg) → leg_at s' l k ≡ Some g → w l ≡ primary_in g.path_role →
      told_now s' w l ≡ primary_in g.path_role
  told_before l k g here is = go (w l) is
    where
      first : (v : Option Leg) → leg_at s' l l.ingress ≡ v → None ≡ primary_in g.path_role →
          primary_told v ≡ primary_in g.path_role
      first None at_v e = e
      first (Some h) at_v e = one-primary t s' o' l l.ingress k h g (o' l) (after l) at_v here

      go : (v : Option (List Step)) → v ≡ primary_in g.path_role → or_route v (primary_at s' l) ≡ primary_in g.path_role
      go None e = first (leg_at s' l l.ingress) refl e
      go (Some x) e = e

  -- a step that leaves what legs tell
  pub still-told : ((l : Lsp) (k : NodeId) (g : Leg) → leg_at s' l k ≡ Some g → w l ≡ primary_in g.path_role) →
      Told o' (told_now s' w) s'
  still-told legs = record { legs = λ l k g here. told_before l k g here (legs l k g here); begun = begun_now }

  -- a step at the node n
  module _ (n : NodeId) (Q : Given) (given : (l : Lsp) (r : PathRole) → Q.roles l r → w l ≡ primary_in r)
      (else_where : (l : Lsp) (k : NodeId) → k.0 ≢ n.0 → leg_at s' l k ≡ leg_at s l k)
      (says : (l : Lsp) (g : Leg) → leg_at s' l n ≡ Some g →
      SaysRole (local_node t n) (s.nodes n.0) Q l g.path_role) where
    -- an LSP that begins here was never sent
    fresh : (l : Lsp) → l.ingress ≡ n → (s.nodes n.0).lsp ≤ l.lsp → w l ≡ None
    fresh l at_n new = told.begun l (go (o l) (follows l))
      where
        go : (c : Option (List Step)) → Follows t s o l c → c ≡ None
        go None f = refl
        go (Some route) (e, q, pl) =
            let number : l.lsp < (s.nodes n.0).lsp = subst (λ k. l.lsp < (s.nodes k.0).lsp) at_n pl.number in
            absurd (omega arith)

    one_leg : (l : Lsp) (g : Leg) → leg_at s' l n ≡ Some g →
        SaysRole (local_node t n) (s.nodes n.0) Q l g.path_role → told_now s' w l ≡ primary_in g.path_role
    one_leg l g here (SaidBefore h found is) =
        told_before l n g here (told.legs l n h found ∙ ap primary_in is)
    one_leg l g here (SaidNow gives) = told_before l n g here (given l g.path_role gives)
    one_leg l g here (SaidFirst at_n new) =
        let none : w l ≡ None = fresh l at_n new in
        let first : leg_at s' l l.ingress ≡ Some g = subst (λ k. leg_at s' l k ≡ Some g) (sym at_n) here in
        rw (none, first) refl

    pub told-step : Told o' (told_now s' w) s'
    told-step = record {
      legs = λ l k g here. go l k g here (is_or_not k.0 n.0);
      begun = begun_now;
    }
      where
        go : (l : Lsp) (k : NodeId) (g : Leg) → leg_at s' l k ≡ Some g → (k.0 ≡ n.0) ⊎ (k.0 ≢ n.0) →
            told_now s' w l ≡ primary_in g.path_role
        go l k g here (inl e) =
            let at_n : leg_at s' l n ≡ Some g = subst (λ v. leg_at s' l v ≡ Some g) (same-node k n e) here in
            one_leg l g at_n (says l g at_n)
        go l k g here (inr apart) = told_before l k g here (told.legs l k g (sym (else_where l k apart) ∙ here))
