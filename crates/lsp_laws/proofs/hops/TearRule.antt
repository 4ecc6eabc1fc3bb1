-- A PathTear is taken at a node of its route.
use Rattle.std.proofs.{Common.{◌≡◌, ◌<◌, ◌≤◌, ℕ, suc, Bool, true, false, cond, not, List, [], ◌∷◌, refl, arith, inl, inr, append-nil}, lemmas.Bool.cases_lt}
use Rattle.std.specs.Prelude.{◌⊎◌, ◌&&◌, Option, Some, None}
use Rattle.ason_base.specs.{Codes.torn_code, Lsps.same_lsp, Network.Network, declared.ids.Lsp.Lsp, declared.ids.NodeId.NodeId, declared.ids.LinkId.LinkId, declared.messages.Msg.Msg, declared.messages.Msg.TheVariants.{PathTear, PathErr}, declared.tables.Leg.Leg}
use Rattle.ason_base.proofs.Numbers.{self-number}
use Rattle.mesh_rules.specs.{declared.neighbours.Neighbour.Neighbour, Changes.{Answer, nothing, to_node}, LocalNodes.local_node, Legs.{is_closing, closed, previous, following, is_over}, Tears.{torn, tear_with}, Messages.arrival, Machine.Mesh}
use Rattle.lsp_laws.specs.{HopShapes.{HasLetGo, NothingLeft, StillWaits, leg_kind}, HopLaw.{is_message_of, messages_of, leg_at, mail_between}}
use Rattle.lsp_laws.proofs.{hops.Plans.{Plan, hops, node_at, link_at, fibre_at, IsPlanRoute}, hops.PathTaken.tear_last, hops.Purposes.{Purpose, purpose_role, has_path}, hops.IdleHops.no_kinds, hops.Chain.{LegFitsPlan, PlaceFits, ChainHop, Chain}, hops.Sending.{sends_none, sends_back, sends_back_on}, hops.LegKinds.{same_of, phase_stands}, hops.LegChanges.{closed_kind, closed_torn, torn_of, closed_fits, previous_is, following_is, following_none}, hops.Downstream.{tear_lets_go, tear_kept}, hops.Upstream.leg_closes, hops.Taken.{ahead, KeepsDown, down_hop, down_taken, path_before}}
use Rattle.mesh_nodes.proofs.LegList.{same_lsp-refl}

module _ (t : Network) (q : Purpose) (s : Mesh) (l : Lsp) (p : Plan) (i : ℕ) (route : IsPlanRoute t l.ingress p)
    (chain : Chain t q l p (leg_at s l) (mail_between s l)) (below : i < hops p)
    (e : NodeId) (k : LinkId) (rest : List Msg)
    (was : s.mail (node_at p i).0 (node_at p (suc i)).0 ≡ PathTear l e k ∷ rest) where
  open ahead t s p i use {u, d}

  pub own : is_message_of l (PathTear l e k) ≡ true
  own = same_lsp-refl l

  abbrev Keeps : Answer → Type 0
  Keeps a = KeepsDown t q s l p i route chain below (PathTear l e k) rest was own a

  hop : ChainHop q p i (leg_at s l u) (leg_at s l d) (PathTear l e k ∷ messages_of l rest) (mail_between s l d u)
  hop = down_hop t q s l p i route chain below (PathTear l e k) rest was own

  over : k ≡ link_at p i
  over = hop.rest.going_down.0

  no_path_after : has_path (messages_of l rest) ≡ true → ⊥
  no_path_after path =
      let empty = no_kinds (messages_of l rest) (tear_last (purpose_role q) _ _ _ _ hop.shape) in
      let never : false ≡ true = rw empty at path in
      cc

  -- nothing changes
  kept : (o : Option Leg) → leg_at s l (node_at p (suc i)) ≡ o → PlaceFits t q l p (suc i) o →
      HasLetGo (purpose_role q) (leg_kind o) → Keeps nothing
  kept o here fits gone =
      down_taken t q s l p i route chain below (PathTear l e k) rest was own nothing o [] [] here
      (sends_none l p (suc i)) fits
      (tear_kept q p i (leg_at s l u) l e k (messages_of l rest) _ o gone (rw here at hop))
      (λ small. rw append-nil (rw here at (chain.each (suc i) small)))
      (λ _. no_path_after)
      (λ small none path. chain.fresh (suc i) small (record { gone = none; path = rw append-nil at path }))

  module _ (g : Leg) (here : leg_at s l (node_at p (suc i)) ≡ Some g) (fits : LegFitsPlan t q l p (suc i) g)
      (stands : is_closing g.phase ≡ false) where
    abbrev answer : Msg
    answer = PathErr g.lsp g.egress d true torn_code

    mine : same_lsp g.lsp l ≡ true
    mine = same_of g.lsp l fits.own

    ends : hops p ≤ suc i → Keeps (torn g (to_node u answer) None)
    ends end =
        down_taken t q s l p i route chain below (PathTear l e k) rest was own
        (torn g (to_node u answer) None) None (answer ∷ []) []
        (rw mine refl) (sends_back t l l.ingress p route i answer below mine) tt
        (tear_lets_go q p i (leg_at s l u) l e k (messages_of l rest) _ g None g.lsp g.egress d torn_code
        (phase_stands g.phase stands) NothingLeft refl (rw here at hop))
        (λ small. absurd (omega arith))
        (λ _. no_path_after)
        (λ small. absurd (omega arith))

    goes_on : suc i < hops p →
        Keeps (torn g (to_node u answer)
        (Some (record { node = node_at p (suc (suc i)); fibre = fibre_at t p (suc i) })))
    goes_on small =
        let next : Neighbour = record { node = node_at p (suc (suc i)); fibre = fibre_at t p (suc i) } in
        let tear : Msg = PathTear g.lsp g.egress (link_at p (suc i)) in
        down_taken t q s l p i route chain below (PathTear l e k) rest was own
        (torn g (to_node u answer) (Some next)) (Some (closed g)) (answer ∷ []) (tear ∷ [])
        (rw mine refl) (sends_back_on t l l.ingress p route i answer tear small mine mine)
        (closed_fits t q l p (suc i) g fits small)
        (tear_lets_go q p i (leg_at s l u) l e k (messages_of l rest) _ g (Some (closed g)) g.lsp g.egress d torn_code
        (phase_stands g.phase stands) (StillWaits (closed_torn t q l p (suc i) g fits)) refl (rw here at hop))
        (λ _. leg_closes q p (suc i) _ _ _ g (closed g) g.lsp g.egress (link_at p (suc i))
        (phase_stands g.phase stands) (closed_kind t q l p (suc i) g fits) refl refl refl refl
        (rw here at (chain.each (suc i) small)))
        (λ gone. absurd cc)
        (λ _ none path. chain.fresh (suc i) small (record {
          gone = none;
          path = path_before (mail_between s l d (node_at p (suc (suc i)))) (tear ∷ []) refl path;
        }))

    tears : (suc i < hops p) ⊎ (hops p ≤ suc i) → Keeps (torn g (to_node u answer) (following g))
    tears (inl small) = rw (following_is t q l p (suc i) g fits small) (goes_on small)
    tears (inr end) = rw (following_none t q l p (suc i) g fits end) (ends end)

  pub tear_keeps : (o : Option Leg) → leg_at s l (node_at p (suc i)) ≡ o →
      Keeps (tear_with (local_node t (node_at p (suc i))) (arrival l e (node_at p i) k) o)
  tear_keeps None here = kept None here tt NothingLeft
  tear_keeps (Some g) here = by_phase (rw here at (chain.fits (suc i) (omega arith))) (is_closing g.phase) refl
    where
      by_phase : LegFitsPlan t q l p (suc i) g → (b : Bool) → is_closing g.phase ≡ b →
          Keeps (cond (not b && is_over (previous g) u k)
          (torn g (to_node u (PathErr g.lsp g.egress d true torn_code)) (following g)) nothing)
      by_phase fits true torn = kept (Some g) here fits (StillWaits (torn_of t q l p (suc i) g fits torn))
      by_phase fits false stands =
          rw (previous_is t q l p i g fits, over, self-number (node_at p i).0, self-number (link_at p i).0)
          (tears g here fits stands (cases_lt (suc i) (hops p)))
