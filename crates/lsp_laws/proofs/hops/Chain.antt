-- The legs and messages of one LSP along its route: what is carried from state to state.
use Rattle.std.proofs.Common.{◌≡◌, ◌≢◌, ◌<◌, ◌≤◌, ℕ, zero, suc, true, false, nat_eq, nat_lt, List, [], drop, refl, arith, inl, inr}
use Rattle.std.specs.Prelude.{◌⊎◌, map, Option, Some, None, if◌then◌else◌}
use Rattle.ason_base.specs.{Labels.has, Network.Network, Risks.route_risks, declared.ids.Fibre.Fibre, declared.ids.Lsp.Lsp, declared.ids.NodeId.NodeId, declared.risks.Risk.Risk, declared.calls.Phase.Phase, declared.calls.Phase.TheVariants.{Asked, Held, Armed, Live, Closing, Falling}, declared.messages.Msg.Msg, declared.tables.Leg.Leg}
use Rattle.mesh_rules.specs.{Commands.is_searchable, Legs.reserved, LocalNodes.{LocalNode, local_node}}
use Rattle.lsp_laws.specs.{HopShapes.{Shape, leg_kind, msg_kind}, LabelLaw.{HasBackLabelOfLink, HasOneBackLabel, KeepsLabels}, RiskLaw.rows_of}
use Rattle.lsp_laws.proofs.{hops.Plans.{Plan, hops, node_at, fibre_at}, hops.Purposes.{Purpose, Carries, Guards, Rest, Tells, purpose_role, has_path}}

-- Legs

abbrev pub prev_at : Plan → ℕ → Option NodeId
prev_at p zero = None
prev_at p (suc i) = Some (node_at p i)

abbrev pub in_fibre_at : Network → Plan → ℕ → Option Fibre
in_fibre_at t p zero = None
in_fibre_at t p (suc i) = Some (fibre_at t p i)

abbrev pub next_node_at : Plan → ℕ → Option NodeId
next_node_at p i = if nat_lt i (hops p) then Some (node_at p (suc i)) else None

abbrev pub out_fibre_at : Network → Plan → ℕ → Option Fibre
out_fibre_at t p i = if nat_lt i (hops p) then Some (fibre_at t p i) else None

-- a label in just away from the ingress, a label out just before the egress
abbrev pub HasIn : ℕ → Option ℕ → Type 0
HasIn zero label = label ≡ None
HasIn (suc i) label = (y : ℕ) × (label ≡ Some y)

abbrev pub HasOut : ℕ → ℕ → Option ℕ → Type 0
HasOut i n label = i < n → (x : ℕ) × (label ≡ Some x)

-- Which phases come up, for each purpose, at a place of n hops, and the labels in and out in each. Only a backup's leg
-- is Held, Armed or Falling, and none is Armed at the egress.
abbrev pub PhaseFits : Purpose → Phase → ℕ → ℕ → Option ℕ → Option ℕ → Type 0
PhaseFits q Asked i n enter leave = (i < n) × (enter ≡ None) × (leave ≡ None)
PhaseFits Carries Held i n enter leave = ⊥
PhaseFits (Guards w r) Held i n enter leave = HasIn i enter × HasOut i n leave
PhaseFits Carries Armed i n enter leave = ⊥
PhaseFits (Guards w r) Armed i n enter leave = (i < n) × HasIn i enter × HasOut i n leave
PhaseFits q Live i n enter leave = HasIn i enter × HasOut i n leave
PhaseFits q Closing i n enter leave = (i < n) × (enter ≡ None)
PhaseFits Carries Falling i n enter leave = ⊥
PhaseFits (Guards w r) Falling i n enter leave = (i < n) × (enter ≡ None) × HasOut i n leave

pub asked_fits : (q : Purpose) (i n : ℕ) → i < n → PhaseFits q Asked i n None None
asked_fits Carries i n small = (small, refl, refl)
asked_fits (Guards w r) i n small = (small, refl, refl)

-- a leg that has its label
pub reserved_fits : (q : Purpose) (i n : ℕ) (enter leave : Option ℕ) → HasIn i enter → HasOut i n leave →
    PhaseFits q (reserved (purpose_role q)) i n enter leave
reserved_fits Carries i n enter leave has_in has_out = (has_in, has_out)
reserved_fits (Guards w r) i n enter leave has_in has_out = (has_in, has_out)

-- A working leg records no risk. A backup's records those of the working LSP's route, over the rows of all links, where
-- these can be searched.
abbrev pub RisksFit : Network → Purpose → List Risk → Type 0
RisksFit t Carries risks = risks ≡ []
RisksFit t (Guards w route) risks = is_searchable t ≡ true → risks ≡ route_risks (rows_of t) route

-- a label out is one of those that were sent on
abbrev pub LabelWasSent : List ℕ → Option ℕ → Type 0
LabelWasSent sent None = Unit {0}
LabelWasSent sent (Some x) = has sent x ≡ true

-- a leg without a back label out has no two labels for the way back
pub no_back_out : (g : Leg) → g.back_out ≡ None → HasOneBackLabel g
no_back_out g none x y enters leaves = absurd (cc (none, leaves))

-- a leg without a label in keeps the labels of its node where it keeps those for the way back
pub no_label_in : (p : LocalNode) (g : Leg) → g.in_label ≡ None → (p.convert ≡ false → HasOneBackLabel g) →
    HasBackLabelOfLink p g → KeepsLabels p g
no_label_in p g none one_back back_of_link =
    record {
      one = λ keeps x y enters leaves. absurd (cc (none, enters));
      of_link = λ f x on enters. absurd (cc (none, enters));
      one_back = one_back;
      back_of_link = back_of_link;
    }

pub record LegFitsPlan (t : Network) (q : Purpose) (l : Lsp) (p : Plan) (i : ℕ) (g : Leg) : Type 0 where
  pub own : g.lsp ≡ l
  pub egress : g.egress ≡ p.egress
  pub role : g.role ≡ purpose_role q
  pub tells : Tells q g.path_role
  pub risks : RisksFit t q g.risks
  pub prev : g.prev ≡ prev_at p i
  pub in_fibre : g.in_fibre ≡ in_fibre_at t p i
  pub next : g.next ≡ next_node_at p i
  pub out_fibre : g.out_fibre ≡ out_fibre_at t p i
  pub route : g.route ≡ drop (suc i) p.route
  pub sent : LabelWasSent g.sent g.out_label
  pub phase : PhaseFits q g.phase i (hops p) g.in_label g.out_label
  pub labels : KeepsLabels (local_node t (node_at p i)) g

abbrev pub PlaceFits : Network → Purpose → Lsp → Plan → ℕ → Option Leg → Type 0
PlaceFits t q l p i None = Unit {0}
PlaceFits t q l p i (Some g) = LegFitsPlan t q l p i g

-- The hop from place i to the next one
pub record ChainHop (q : Purpose) (p : Plan) (i : ℕ) (u d : Option Leg) (down up : List Msg) : Type 0 where
  pub shape : Shape (purpose_role q) (leg_kind u) (leg_kind d) (map msg_kind down) (map msg_kind up)
  pub rest : Rest q p i u d down up

-- Places

abbrev pub IsPlace : Plan → NodeId → Type 0
IsPlace p n = (i : ℕ) × (i ≤ hops p) × (n.0 ≡ (node_at p i).0)

-- the two nodes are neighbours on the route
abbrev pub OnRoute : Plan → NodeId → NodeId → Type 0
OnRoute p a b = (i : ℕ) × (i < hops p) ×
    (((a.0 ≡ (node_at p i).0) × (b.0 ≡ (node_at p (suc i)).0)) ⊎
    ((a.0 ≡ (node_at p (suc i)).0) × (b.0 ≡ (node_at p i).0)))

-- nothing of the LSP is at this place and after it
pub record IsVacant (p : Plan) (leg : NodeId → Option Leg) (mail : NodeId → NodeId → List Msg) (j : ℕ) : Type 0 where
  pub no_leg : leg (node_at p j) ≡ None
  pub no_down : j < hops p → mail (node_at p j) (node_at p (suc j)) ≡ []
  pub no_up : j < hops p → mail (node_at p (suc j)) (node_at p j) ≡ []

-- the first Path is on the hop from this place: a Path, while the downstream node has no leg
pub record IsFirstPathAt (p : Plan) (leg : NodeId → Option Leg) (mail : NodeId → NodeId →
    List Msg) (i : ℕ) : Type 0 where
  pub gone : leg (node_at p (suc i)) ≡ None
  pub path : has_path (mail (node_at p i) (node_at p (suc i))) ≡ true

-- the hop from place i, in a state with these legs and messages
abbrev pub HopAt : Purpose → Plan → (NodeId → Option Leg) → (NodeId → NodeId → List Msg) → ℕ → Type 0
HopAt q p leg mail i =
    ChainHop q p i (leg (node_at p i)) (leg (node_at p (suc i)))
    (mail (node_at p i) (node_at p (suc i))) (mail (node_at p (suc i)) (node_at p i))

pub record Chain (t : Network) (q : Purpose) (l : Lsp) (p : Plan)
    (leg : NodeId → Option Leg) (mail : NodeId → NodeId → List Msg) : Type 0 where
  pub fits : (i : ℕ) → i ≤ hops p → PlaceFits t q l p i (leg (node_at p i))
  pub legs : (n : NodeId) → (leg n ≡ None) ⊎ IsPlace p n
  pub ways : (a b : NodeId) → (mail a b ≡ []) ⊎ OnRoute p a b
  pub each : (i : ℕ) → i < hops p → HopAt q p leg mail i
  -- while the first Path is on a hop, nothing beyond is touched
  pub fresh : (i : ℕ) → i < hops p → IsFirstPathAt p leg mail i → (j : ℕ) → i < j → j ≤ hops p → IsVacant p leg mail j

-- Numbers

pub is_or_not : (a b : ℕ) → (a ≡ b) ⊎ (a ≢ b)
is_or_not a b =
    elim (nat_eq a b) as (λ c. nat_eq a b ≡ c → (a ≡ b) ⊎ (a ≢ b)) [
      | true ↦ λ e. let here : a ≡ b = grind arith in inl here
      | false ↦ λ e. let apart : a ≢ b = grind arith in inr apart
    ] refl

pub at_or_else : (Q : ℕ → Type 0) (k j : ℕ) → (k ≡ j → Q j) → (k ≢ j → Q k) → Q k
at_or_else Q k j here else_where =
    elim (is_or_not k j) [
      | inl e ↦ rw e (here e)
      | inr apart ↦ else_where apart
    ]
