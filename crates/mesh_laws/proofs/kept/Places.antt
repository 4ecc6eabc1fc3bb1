-- Where each leg is Held, Armed or Live, a Path comes where a leg of its LSP stands; and where nothing is under way
-- each leg is one of these.
use Rattle.std.proofs.{Common.{◌≡◌, ◌<◌, ◌≤◌, ◌+◌, ℕ, zero, suc, Bool, true, false, List, ◌∷◌, length, refl, ap, ◌∙◌, subst, arith, inl, inr}, lemmas.Option.slice_get_within}
use Rattle.std.specs.Prelude.{◌⊎◌, Option, Some, None, map}
use Rattle.ason_base.specs.{Network.{Network, other_end}, declared.ids.LinkId.LinkId, declared.ids.Lsp.Lsp, declared.ids.NodeId.NodeId, declared.calls.Phase.Phase, declared.calls.Phase.TheVariants.{Asked, Live, Closing, Falling}, declared.calls.Role.Role, declared.messages.Msg.Msg, declared.messages.Msg.TheVariants.Path, declared.messages.PathRole.PathRole, declared.messages.PathRole.TheVariants.{Work, Back}, declared.steps.Step.Step, declared.tables.Leg.Leg}
use Rattle.ason_base.specs.declared.calls.Role.TheVariants as role
use Rattle.mesh_rules.specs.{Legs.{find_leg, is_beyond_asked, reserved}, Machine.Mesh, Quiet.IsQuiet}
use Rattle.mesh_nodes.specs.Order.{LegsRise}
use Rattle.mesh_nodes.proofs.LegList.{all-found, found-all, same_lsp-refl}
use Rattle.lsp_laws.specs.{HopLaw.{HasShape, IsHopOfRoute, LspFits, RouteFits, StepFits, leg_at, mail_between, messages_of}, HopShapes.{ActivePath, Activating, AskedLeg, ClosingLeg, Deactivating, FallingLeg, LegKind, MsgKind, NoLeg, PlainPath, Reactivating, Shape, TornActivating, leg_kind, msg_kind, path_kind, phase_kind}, ReportLaw.place_at}
use Rattle.lsp_laws.proofs.{hops.Rows.{BothStand, NoneThere, OnlyTorn, Settled, no_active_up, no_path_up}, hops.Taken.mine}
use Rattle.mesh_laws.proofs.{alone.Facts.LspRoutes, restoration.Settled.{kind_on_route, one-hop}, restoration.Steps.{ends-at, goes-on}, kept.Phases.{IsUp, LegsUp}}

-- of a leg, where there is one: Held, Armed or Live
abbrev pub is_up : LegKind → Bool
is_up AskedLeg = false
is_up ClosingLeg = false
is_up FallingLeg = false
is_up _ = true

-- a leg that is up, or none, is of such a kind
pub up-kind : (l : Lsp) (legs : List Leg) → LegsUp legs → is_up (leg_kind (find_leg l legs)) ≡ true
up-kind l legs up = go (find_leg l legs) refl
  where
    phase : (q : Phase) → is_beyond_asked q ≡ true → is_up (phase_kind q) ≡ true
    phase Asked e = absurd (cc e)
    phase Closing e = absurd (cc e)
    phase Falling e = absurd (cc e)
    phase _ e = refl

    go : (b : Option Leg) → find_leg l legs ≡ b → is_up (leg_kind b) ≡ true
    go None is = refl
    go (Some b) is = phase b.phase (found-all IsUp l legs b is up)

-- and a leg of such a kind is up
pub kind-up : (b : Leg) → is_up (leg_kind (Some b)) ≡ true → IsUp b
kind-up b e = go b.phase e
  where
    go : (q : Phase) → is_up (phase_kind q) ≡ true → is_beyond_asked q ≡ true
    go Asked e = absurd (cc e)
    go Closing e = absurd (cc e)
    go Falling e = absurd (cc e)
    go _ e = refl

-- A Path on its way down

plain-down : (r : Role) (u d : LegKind) (down up : List MsgKind) → is_up u ≡ true → Shape r u d (PlainPath ∷ down) up →
    d ≡ NoLeg → ⊥
plain-down r _ _ _ _ up Deactivating none = cc none
plain-down r _ _ _ _ up Reactivating none = cc none
plain-down r _ _ _ _ up _ none = cc up

active-down : (r : Role) (u d : LegKind) (down up : List MsgKind) → is_up u ≡ true →
    Shape r u d (ActivePath ∷ down) up → d ≡ NoLeg → ⊥
active-down r _ _ _ _ up Activating none = cc none
active-down r _ _ _ _ up TornActivating none = cc up

path-down : (r : Role) (u d : LegKind) (q : PathRole) (down up : List MsgKind) → is_up u ≡ true →
    Shape r u d (path_kind q ∷ down) up → d ≡ NoLeg → ⊥
path-down r u d (Work guard) down up is shape none = plain-down r u d down up is shape none
path-down r u d (Back true work primary) down up is shape none = active-down r u d down up is shape none
path-down r u d (Back false work primary) down up is shape none = plain-down r u d down up is shape none

path-not_up : (r : Role) (u d : LegKind) (q : PathRole) (down up : List MsgKind) →
    Shape r u d down (path_kind q ∷ up) → ⊥
path-not_up r u d (Work guard) down up shape = no_path_up r u d down up shape
path-not_up r u d (Back true work primary) down up shape = no_active_up r u d down up shape
path-not_up r u d (Back false work primary) down up shape = no_path_up r u d down up shape

module _ (t : Network) (s : Mesh) (o : LspRoutes) (hops : (l : Lsp) → LspFits t s l (o l))
    (up : (n : ℕ) → LegsUp (s.nodes n).legs) where
  module _ (l : Lsp) (e : NodeId) (k : LinkId) (steps : List Step) (set : List ℕ) (back : Option ℕ) (q : PathRole)
      (rest : List Msg) (u d : NodeId) (was : s.mail u.0 d.0 ≡ Path l e k steps set back q ∷ rest)
      (none : leg_at s l d ≡ None) where
    abbrev first : mail_between s l u d ≡ Path l e k steps set back q ∷ messages_of l rest
    first = mine s l u d (Path l e k steps set back q) rest was (same_lsp-refl l)

    on_hop : (r : Role) (route : List Step) (end : NodeId) → RouteFits t s r l route end → IsHopOfRoute t route u d → ⊥
    on_hop r route end fits hop =
        let its : StepFits t s r l hop.hop = fits.hops hop.place hop.hop hop.there in
        let one : its.link ≡ hop.link = (let x = its.found in let y = hop.found in cc (x, y)) in
        let shape : HasShape s r l hop.hop.node (other_end hop.link hop.hop.node) =
        subst (λ x. HasShape s r l hop.hop.node (other_end x hop.hop.node)) one its.fits.shape in
        elim hop.ends [
          | inl ends ↦ (let here : HasShape s r l u d = rw (ends.0, ends.1) shape in
              let downs : Shape r (leg_kind (leg_at s l u)) (leg_kind (leg_at s l d))
              (path_kind q ∷ map msg_kind (messages_of l rest)) (map msg_kind (mail_between s l d u)) =
              rw first at here in
              path-down r (leg_kind (leg_at s l u)) (leg_kind (leg_at s l d)) q _ _
              (up-kind l (s.nodes u.0).legs (up u.0)) downs (ap leg_kind none))
          | inr ends ↦ (let here : HasShape s r l d u = rw (ends.0, ends.1) shape in
              let ups : Shape r (leg_kind (leg_at s l d)) (leg_kind (leg_at s l u))
              (map msg_kind (mail_between s l d u)) (path_kind q ∷ map msg_kind (messages_of l rest)) =
              rw first at here in
              path-not_up r (leg_kind (leg_at s l d)) (leg_kind (leg_at s l u)) q _ _ ups)
        ]

    -- no Path comes where its LSP has no leg
    pub path-there : ⊥
    path-there = go (o l) (hops l)
      where
        go : (c : Option (List Step)) → LspFits t s l c → ⊥
        go None blank = (let is = blank.mail u d in cc (is, first))
        go (Some route) (r, end, fits) = elim (fits.mail u d) [
          | inl is ↦ cc (is, first)
          | inr hop ↦ on_hop r route end fits hop
        ]

-- Where nothing is under way

settled-up : (r : Role) (u d : LegKind) → Settled r u d → is_up d ≡ true → is_up u ≡ true
settled-up r _ _ NoneThere e = refl
settled-up r _ d (OnlyTorn torn) e = refl
settled-up r _ _ (BothStand stands) e = e

end-up : (r : Role) (b : Option Leg) → ((g : Leg) → b ≡ Some g → (g.phase ≡ reserved r) ⊎ (g.phase ≡ Live)) →
    is_up (leg_kind b) ≡ true
end-up r None each = refl
end-up role.Work (Some g) each = elim (each g refl) [ inl is ↦ rw is refl | inr is ↦ rw is refl ]
end-up role.Back (Some g) each = elim (each g refl) [ inl is ↦ rw is refl | inr is ↦ rw is refl ]

module _ (t : Network) (s : Mesh) (quiet : IsQuiet s) where
  module _ (r : Role) (l : Lsp) (route : List Step) (e : NodeId) (fits : RouteFits t s r l route e) where
    abbrev kind : ℕ → LegKind
    kind i = kind_on_route s l route e i

    from-end : (k i : ℕ) → i + k ≡ length route → is_up (kind i) ≡ true
    from-end zero i is =
        let last : i ≡ length route = omega arith in
        let end : place_at route e i ≡ e = ap (place_at route e) last ∙ ends-at route e in
        rw end (end-up r (leg_at s l e) fits.egress)
    from-end (suc k) i is =
        settled-up r (kind i) (kind (suc i)) (one-hop t s quiet r l route e fits i (omega arith))
        (from-end k (suc i) (omega arith))

    -- up to each place of the route
    pub at_place : (i : ℕ) → i ≤ length route → is_up (kind i) ≡ true
    at_place i small = (let k : (k : ℕ) × (i + k ≡ length route) = rest i (length route) small in from-end k.0 i k.1)
      where
        rest : (i n : ℕ) → i ≤ n → (k : ℕ) × (i + k ≡ n)
        rest zero n small = (n, omega arith)
        rest (suc i) zero small = absurd (omega arith)
        rest (suc i) (suc n) small = (let k = rest i n (omega arith) in (k.0, (let e = k.1 in omega arith)))

    leg-up : (n : NodeId) (g : Leg) → leg_at s l n ≡ Some g → IsUp g
    leg-up n g here = elim (fits.legs n g here) [
      | inl end ↦ (let up = at_place (length route) (omega arith) in
          kind-up g (rw (ends-at route e, ← end, here) at up))
      | inr (i, hop, there, is) ↦ (let below : i < length route = slice_get_within route i hop there in
          let its : StepFits t s r l hop = fits.hops i hop there in
          let on = goes-on t l.ingress e route fits.leads i hop its.link there its.found in
          let up = at_place i (omega arith) in
          kind-up g (rw (on.near, ← is, here) at up))
    ]

  -- each leg of each node
  pub legs-are-up : (o : LspRoutes) → ((l : Lsp) → LspFits t s l (o l)) → (n : ℕ) → LegsRise (s.nodes n).legs →
      LegsUp (s.nodes n).legs
  legs-are-up o hops n rise =
      all-found IsUp (s.nodes n).legs rise (λ l g here. go l g (record { 0 = n }) here (o l) (hops l))
    where
      go : (l : Lsp) (g : Leg) (n : NodeId) → leg_at s l n ≡ Some g → (c : Option (List Step)) → LspFits t s l c →
          IsUp g
      go l g n here None blank = (let none = blank.legs n in absurd (cc (none, here)))
      go l g n here (Some route) (r, e, fits) = leg-up r l route e fits n g here
