-- A Path that comes down the route of its LSP to a node that has a leg of it.
use Rattle.std.proofs.Common.{◌≡◌, ◌≤◌, ◌<◌, ℕ, suc, true, false, List, ◌∷◌, drop, length, arith}
use Rattle.std.specs.Prelude.{Option, Some}
use Rattle.mesh_rules.specs.{declared.limits.TheConstants.MOST_LINKS_OF_ROUTE, declared.neighbours.Neighbour.Neighbour, Changes.Answer, Legs.following, Machine.Mesh, Messages.arrival, Paths.PathRequest}
use Rattle.ason_base.specs.{Lsps.same_lsp, Network.Network, declared.ids.LinkId.LinkId, declared.ids.Lsp.Lsp, declared.ids.NodeId.NodeId, declared.messages.Msg.Msg, declared.messages.Msg.TheVariants.Path, declared.messages.PathRole.PathRole, declared.steps.Step.Step, declared.tables.Leg.Leg}
use Rattle.lsp_laws.specs.HopLaw.{leg_at, mail_between, messages_of}
use Rattle.lsp_laws.proofs.{hops.Chain.{ChainHop, LegFitsPlan}, hops.Planned.Planned, hops.Plans.{Plan, hops, node_at}, hops.Purposes.Purpose}
use Rattle.mesh_laws.specs.Weights.{FirstRoutes, hops_back}
use Rattle.mesh_laws.proofs.{rest.Near.Part, rest.RowKinds.has_resv}
use Rattle.mesh_laws.proofs.rest.PathRests as path

-- The Path, for this purpose, is the first message to the next place of its LSP's route.
pub record PathCame (t : Network) (s : Mesh) (o : FirstRoutes) (purpose : PathRole) : Type 0 where
  pub q : Purpose
  pub l : Lsp
  pub p : Plan
  pub i : ℕ
  pub planned : Planned t s o l q p
  pub below : i < hops p
  pub e : NodeId
  pub k : LinkId
  pub r : List Step
  pub set : List ℕ
  pub label : Option ℕ
  pub rest : List Msg
  pub was : s.mail (node_at p i).0 (node_at p (suc i)).0 ≡ Path l e k r set label purpose ∷ rest
  pub known : o l ≡ Some p.route
  pub short : hops p ≤ MOST_LINKS_OF_ROUTE

module _ (t : Network) (s : Mesh) (o : FirstRoutes) (purpose : PathRole) (came : PathCame t s o purpose) where
  open came use {q, l, p, i, planned.{route, chain}, below, e, k, r, set, label, rest, was, known, short}

  -- the Path, and what it asks for
  abbrev pub path_message : Msg
  path_message = Path l e k r set label purpose

  abbrev pub asks : PathRequest
  asks = record { arrival = arrival l e (node_at p i) k; route = r; set = set; upstream = label; role = purpose }

  -- what the answer to it is to fulfil
  abbrev pub IsPart : Answer → Type 0
  IsPart a = Part o s l (node_at p i) (node_at p (suc i)) path_message rest was a

  -- What is known of the leg there, and of the hop over which the Path came.
  pub record LegThere (g : Leg) : Type 0 where
    pub its : g.lsp ≡ l
    pub its-own : same_lsp g.lsp l ≡ true
    pub leg-fits : LegFitsPlan t q l p (suc i) g
    pub this-hop : ChainHop q p i (leg_at s l (node_at p i)) (leg_at s l (node_at p (suc i)))
        (path_message ∷ messages_of l rest) (mail_between s l (node_at p (suc i)) (node_at p i))
    pub no-resv : has_resv (messages_of l rest) ≡ false
    pub longer : (h : Neighbour) → following g ≡ Some h → suc i < hops p
    pub left-is : (h : Neighbour) → following g ≡ Some h → suc (length (drop 1 r)) ≡ length r
    pub a-back : hops_back o l (node_at p i).0 ≡ i

  pub leg-stands : (g : Leg) → leg_at s l (node_at p (suc i)) ≡ Some g → LegThere g
  leg-stands g here = record {
    its = path.own t q s l p i route chain below e k r set label purpose rest was o known short g here;
    its-own = path.mine t q s l p i route chain below e k r set label purpose rest was o known short g here;
    leg-fits = path.fits t q s l p i route chain below e k r set label purpose rest was o known short g here;
    this-hop = path.hop t q s l p i route chain below e k r set label purpose rest was o known short;
    no-resv = path.no-resv t q s l p i route chain below e k r set label purpose rest was o known short;
    longer = path.longer t q s l p i route chain below e k r set label purpose rest was o known short g here;
    left-is = path.left-is t q s l p i route chain below e k r set label purpose rest was o known short g here;
    a-back = path.back-is t q s l p i route chain below e k r set label purpose rest was o known short i
        (omega arith);
  }
