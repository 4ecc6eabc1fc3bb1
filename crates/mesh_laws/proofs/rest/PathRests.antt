-- A Path is taken at a node of its route: what it sends weighs less, and nothing that stays gets heavier.
use Rattle.std.proofs.{Common.{◌≡◌, ◌≢◌, ◌≤◌, ◌<◌, ℕ, suc, ◌-◌, true, false, not, nat_eq, List, [], ◌∷◌, drop, length, length-drop, refl, arith, inl, inr}, lemmas.Bool.{not-true, cases_lt}}
use Rattle.std.specs.Prelude.{◌⊎◌, ◌&&◌, Option, Some, None}
use Rattle.mesh_rules.specs.{declared.limits.TheConstants.MOST_LINKS_OF_ROUTE, declared.neighbours.Neighbour.Neighbour, Changes.{Answer, nothing, sends}, LocalNodes.{own_link, leads}, Legs.following, Messages.arrival, Machine.{Mesh, without_first}, Paths.{PathRequest, is_active, risks_here, first_failure, checks, offered_labels, at_egress, in_transit, admitted, judged, first_path, error_to}}
use Rattle.ason_base.specs.{Labels.least, Lsps.same_lsp, Network.Network, declared.codes.ErrCode.ErrCode, declared.ids.Lsp.Lsp, declared.ids.NodeId.NodeId, declared.ids.LinkId.LinkId, declared.steps.Step.Step, declared.network.LinkSpec.LinkSpec, declared.messages.PathRole.PathRole, declared.messages.PathRole.TheVariants.{Work, Back}, declared.messages.Msg.Msg, declared.messages.Msg.TheVariants.Path, declared.risks.Risk.Risk, declared.tables.Leg.Leg}
use Rattle.lsp_laws.specs.HopLaw.{messages_of, leg_at, mail_between}
use Rattle.mesh_nodes.proofs.{LegList.{same_lsp-refl, found-lsp}, Cases.if_cases}
use Rattle.lsp_laws.proofs.{hops.Plans.{Plan, hops, node_at, IsPlanRoute, distinct}, hops.Purposes.{Purpose, Carries, Guards, Tells, purpose_role}, hops.Chain.{Chain, LegFitsPlan, ChainHop, IsVacant}, hops.LegChanges.following_none, hops.Taken.{ahead, down_hop, down_mine}, hops.Views.leg-there}
use Rattle.mesh_laws.specs.Weights.{FirstRoutes, hops_back, weight, path_weight, asked_weight}
use Rattle.mesh_laws.proofs.{rest.Committed.taken_mesh, rest.Places.place-is, rest.RowKinds.{has_resv, no-label_down, resv-kinds}, rest.LegWeights.{path-most, path-less, resv-most}, rest.Near.{LightFor, Part, part-nothing, light-empty, light-same, light-no_resv, near-down}}
use Rattle.ason_base.proofs.{Numbers.less-plus_none, Bools.and-left}

-- the first Path of a purpose weighs more than a Resv to a leg that waits for it
first-outweighs : (q : Purpose) (r : PathRole) (k i : ℕ) → Tells q r → is_active r ≡ false →
    suc i ≤ MOST_LINKS_OF_ROUTE →
    asked_weight (purpose_role q) (suc i) < path_weight r None (suc k)
first-outweighs Carries (Work guard) k i tells plain small = omega arith
first-outweighs Carries (Back active work primary) k i tells plain small = absurd tells
first-outweighs (Guards w route) (Work guard) k i tells plain small = absurd tells
first-outweighs (Guards w route) (Back true work primary) k i tells plain small = absurd (cc plain)
first-outweighs (Guards w route) (Back false work primary) k i tells plain small = omega arith

first-heavy : (r : PathRole) (k : ℕ) → 65 < path_weight r None (suc k)
first-heavy (Work guard) k = omega arith
first-heavy (Back true work primary) k = omega arith
first-heavy (Back false work primary) k = omega arith

module _ (t : Network) (q : Purpose) (s : Mesh) (l : Lsp) (p : Plan) (i : ℕ) (route : IsPlanRoute t l.ingress p)
    (chain : Chain t q l p (leg_at s l) (mail_between s l)) (below : i < hops p)
    (e : NodeId) (k : LinkId) (r : List Step) (set : List ℕ) (label : Option ℕ) (purpose : PathRole) (rest : List Msg)
    (was : s.mail (node_at p i).0 (node_at p (suc i)).0 ≡ Path l e k r set label purpose ∷ rest)
    (o : FirstRoutes) (known : o l ≡ Some p.route) (short : hops p ≤ MOST_LINKS_OF_ROUTE) where
  open ahead t s p i use {u, d, next, place, state}

  abbrev message : Msg
  message = Path l e k r set label purpose

  abbrev asks : PathRequest
  asks = record { arrival = arrival l e u k; route = r; set = set; upstream = label; role = purpose }

  abbrev IsPart : Answer → Type 0
  IsPart a = Part o s l u d message rest was a

  abbrev after : Answer → Mesh
  after a = taken_mesh s u.0 d.0 a

  -- A node is as many hops from the ingress as its place on the route says.
  pub back-is : (j : ℕ) → j ≤ hops p → hops_back o l (node_at p j).0 ≡ j
  back-is j small = rw known (place-is t l.ingress p route j small)

  -- The hop over which the Path came, with the Path first.
  pub hop : ChainHop q p i (leg_at s l u) (leg_at s l d) (message ∷ messages_of l rest) (mail_between s l d u)
  hop = down_hop t q s l p i route chain below message rest was (same_lsp-refl l)

  -- The Path came from another node.
  pub far : u.0 ≢ d.0
  far = distinct t l.ingress p route i (suc i) (omega arith) (omega arith) (omega arith)

  -- no Resv is behind the Path
  pub no-resv : has_resv (messages_of l rest) ≡ false
  no-resv = resv-kinds (message ∷ messages_of l rest) (no-label_down (purpose_role q) _ _ _ _ hop.shape)

  -- the leg at the previous node stays
  pub leg-before : (a : Answer) → leg_at (after a) l u ≡ leg_at s l u
  leg-before a = leg-there (without_first s u.0 d.0) d u l a far

  -- The first Path

  module _ (none : leg_at s l (node_at p (suc i)) ≡ None) where
    heavy : path_weight purpose None (suc (length r)) ≡ weight o s u.0 d.0 message
    heavy = rw none refl

    refused : (code : ErrCode) → IsPart (sends (error_to u place asks.arrival code ∷ []))
    refused code = record {
      light = λ x. light-same _ _ _ refl;
      sends = (let a = back-is i (omega arith) in let b = first-heavy purpose (length r) in
          rw (← heavy, a) (omega arith));
    }

    vacant : suc i ≤ hops p → IsVacant p (leg_at s l) (mail_between s l) (suc i)
    vacant small =
        chain.fresh i below (record {
          gone = none;
          path = rw (down_mine t q s l p i route chain below message rest was (same_lsp-refl l)) refl;
        }) (suc i) (omega arith) small

    -- a leg that comes
    light-new : (g : Leg) (x : ℕ) → LightFor (leg_at s l d) (Some g)
        (messages_of l ((without_first s u.0 d.0).mail x d.0))
    light-new g x = rw none (near-down t q s l p i route chain below message rest was (LightFor None (Some g))
        (light-empty None (Some g)) (light-no_resv None (Some g) _ (λ r k. path-most r (Some g) k) no-resv)
        (λ small. rw ((vacant (omega arith)).no_up small) (light-empty None (Some g))) x)

    no-part : IsPart nothing
    no-part = part-nothing o s l u d message rest was
        (let b = first-heavy purpose (length r) in rw (← heavy) (omega arith))

    module _ (plain : is_active purpose ≡ false) where
      ends : (link : LinkSpec) (risks : List Risk) (offered : List ℕ) (x : Option ℕ) →
          IsPart (at_egress place asks link risks offered x)
      ends link risks offered None = no-part
      ends link risks offered (Some y) =
          let a : Answer = at_egress place asks link risks offered (Some y) in
          record {
            light = rw (same_lsp-refl l) (light-new _);
            sends =
                (let b = back-is i (omega arith) in
                let most = resv-most t q l p i (leg_at s l u) i (chain.fits i (omega arith)) in
                let less = first-outweighs q purpose (length r) i hop.rest.going_down.0.3 plain (omega arith) in
                rw (← heavy, leg-before a, b) (omega arith));
          }

      goes : (link : LinkSpec) (further : List Step) (h : Step) (out : Option LinkSpec) → r ≡ h ∷ further →
          IsPart (in_transit place state asks link further out)
      goes link further h None is = no-part
      goes link further h (Some out) is = record {
        light = rw (same_lsp-refl l) (light-new _);
        sends = rw (← heavy, is)
            (less-plus_none _ _ _ (path-most purpose _ (suc (length further))) (path-less purpose (suc (length further))));
      }

      admits : (link : LinkSpec) (r' : List Step) → r ≡ r' → IsPart (admitted place state asks link r')
      admits link [] is =
          ends link (risks_here place state asks) (offered_labels place state asks link)
          (least (offered_labels place state asks link))
      admits link (h ∷ further) is = goes link further h (own_link place h.link) is

      judges : (link : LinkSpec) (c : Option ErrCode) → IsPart (judged place state asks link c)
      judges link (Some code) = refused code
      judges link None = admits link r refl

    -- The first Path of an LSP at a node weighs more than what the node sends.
    pub first : (link : Option LinkSpec) → IsPart (first_path place state asks link)
    first None = no-part
    first (Some link) =
        if_cases IsPart (not (is_active purpose) && (leads (Some link) u d && not (nat_eq l.ingress.0 d.0))) _ _
        (λ may. judges (not-true (is_active purpose) (and-left (not (is_active purpose)) _ may)) link
        (first_failure (checks place state asks link)))
        (λ may. no-part)

  -- A Path of an LSP that has a leg here

  module _ (g : Leg) (here : leg_at s l (node_at p (suc i)) ≡ Some g) where
    -- The leg there is of the LSP of the Path.
    pub own : g.lsp ≡ l
    own = found-lsp l state.legs g here

    -- The leg there is of the LSP of the Path.
    pub mine : same_lsp g.lsp l ≡ true
    mine = rw own (same_lsp-refl l)

    -- The leg there fits its place on the route.
    pub fits : LegFitsPlan t q l p (suc i) g
    fits = rw here at (chain.fits (suc i) (omega arith))

    -- steps are left where the route goes on
    pub longer : (h : Neighbour) → following g ≡ Some h → suc i < hops p
    longer h on = go (cases_lt (suc i) (hops p))
      where
        go : (suc i < hops p) ⊎ (hops p ≤ suc i) → suc i < hops p
        go (inl small) = small
        go (inr end) = absurd (let is = following_none t q l p (suc i) g fits end in cc (is, on))

    -- Where there is a next node a step is left.
    pub left-is : (h : Neighbour) → following g ≡ Some h → suc (length (drop 1 r)) ≡ length r
    left-is h on =
        let small = longer h on in
        let is : length r ≡ hops p - suc i = rw hop.rest.going_down.0.2 (length-drop (suc i) p.route) in
        let less : length (drop 1 r) ≡ length r - 1 = length-drop 1 r in
        omega arith
