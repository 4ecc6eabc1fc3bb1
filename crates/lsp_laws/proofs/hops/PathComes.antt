-- A Path comes down from a place of its LSP's route to the next one.
use Rattle.std.proofs.Common.{◌≡◌, ◌<◌, ℕ, zero, suc, true, List, [], ◌∷◌, refl, ◌∙◌, drop, ap}
use Rattle.std.specs.Prelude.{Option}
use Rattle.ason_base.specs.{Network.Network, declared.ids.LinkId.LinkId, declared.ids.Lsp.Lsp, declared.ids.NodeId.NodeId, declared.messages.Msg.Msg, declared.messages.Msg.TheVariants.Path, declared.messages.PathRole.PathRole, declared.steps.Step.Step}
use Rattle.mesh_rules.specs.{Changes.Answer, Machine.Mesh, Messages.arrival, Paths.PathRequest}
use Rattle.lsp_laws.specs.HopLaw.{is_message_of, messages_of, leg_at, mail_between}
use Rattle.mesh_nodes.proofs.LegList.{same_lsp-refl}
use Rattle.lsp_laws.proofs.{hops.Chain.{Chain, ChainHop}, hops.Plans.{Plan, hops, node_at, link_at, IsPlanRoute}, hops.Purposes.{Purpose, Tells}, hops.Taken.{KeepsDown, down_hop}}

-- the rest of a route, from the next step on
pub drop-next : {X : Type 0} (j : ℕ) (xs : List X) → drop 1 (drop j xs) ≡ drop (suc j) xs
drop-next zero [] = refl
drop-next zero (x ∷ xs) = refl
drop-next (suc j) [] = refl
drop-next (suc j) (x ∷ xs) = drop-next j xs

-- What a Path asks for that comes first from place i of a route, what an answer to it has to keep, and its hop: it came
-- over the hop's link, with the steps that are left of the route, and tells of the LSP's purpose.
pub record PathComes (q : Purpose) (s : Mesh) (l : Lsp) (p : Plan) (i : ℕ) (k : LinkId) (r : List Step)
    (role : PathRole)
    (message : Msg) (rest : List Msg) : Type 1 where
  pub asks : PathRequest
  pub own : is_message_of l message ≡ true
  pub Keeps : Answer → Type 0
  pub hop : ChainHop q p i (leg_at s l (node_at p i)) (leg_at s l (node_at p (suc i))) (message ∷ messages_of l rest)
      (mail_between s l (node_at p (suc i)) (node_at p i))
  pub over : k ≡ link_at p i
  pub left : drop 1 r ≡ drop (suc (suc i)) p.route
  pub tells : Tells q role

module _ (t : Network) (q : Purpose) (s : Mesh) (l : Lsp) (p : Plan) (i : ℕ) (route : IsPlanRoute t l.ingress p)
    (chain : Chain t q l p (leg_at s l) (mail_between s l)) (below : i < hops p)
    (e : NodeId) (k : LinkId) (r : List Step) (set : List ℕ) (label : Option ℕ) (role : PathRole) (rest : List Msg)
    (was : s.mail (node_at p i).0 (node_at p (suc i)).0 ≡ Path l e k r set label role ∷ rest) where
  abbrev message : Msg
  message = Path l e k r set label role

  pub hop_of : ChainHop q p i (leg_at s l (node_at p i)) (leg_at s l (node_at p (suc i))) (message ∷ messages_of l rest)
      (mail_between s l (node_at p (suc i)) (node_at p i))
  hop_of = down_hop t q s l p i route chain below message rest was (same_lsp-refl l)

  abbrev pub path-comes : PathComes q s l p i k r role (Path l e k r set label role) rest
  path-comes = record {
    asks = record { arrival = arrival l e (node_at p i) k; route = r; set = set; upstream = label; role = role };
    own = same_lsp-refl l;
    Keeps = KeepsDown t q s l p i route chain below message rest was (same_lsp-refl l);
    hop = hop_of;
    over = hop_of.rest.going_down.0.1;
    left = ap (drop 1) hop_of.rest.going_down.0.2 ∙ drop-next (suc i) p.route;
    tells = hop_of.rest.going_down.0.3;
  }
