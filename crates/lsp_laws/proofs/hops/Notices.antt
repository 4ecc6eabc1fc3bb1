-- The Notifies of an LSP under way: they go up its route, and each names a node beyond.
use Rattle.std.proofs.Common.{◌≡◌, ◌<◌, ◌≤◌, ℕ, suc, Bool, sym, subst}
use Rattle.std.specs.Prelude.{List, Some}
use Rattle.ason_base.specs.{declared.codes.ErrCode.ErrCode, declared.ids.NodeId.NodeId, declared.ids.LinkId.LinkId, declared.messages.Msg.Msg, declared.messages.Msg.TheVariants.{Path, Resv, PathTear, PathErr, Notify}}
use Rattle.mesh_rules.specs.Reports.{reported}
use Rattle.lsp_laws.proofs.{hops.Plans.{Plan, hops, link_at, node_at}, hops.Purposes.Each}

-- it names a node after place i, with the link by which the route comes in there, and tells that this fibre went down
-- or came up
pub record NamesAfter (p : Plan) (i : ℕ) (at : NodeId) (k : LinkId) (code : ErrCode) : Type 0 where
  pub place : ℕ
  pub beyond : i ≤ place
  pub within : place < hops p
  pub node : at ≡ node_at p (suc place)
  pub link : k ≡ link_at p place
  pub down : Bool
  pub tells : reported code ≡ Some down

abbrev pub NoticeFits : Plan → ℕ → Msg → Type 0
NoticeFits p i (Path l e k route set up r) = ⊥
NoticeFits p i (Resv l e k x) = ⊥
NoticeFits p i (PathTear l e k) = ⊥
NoticeFits p i (PathErr l e at gone code) = ⊥
NoticeFits p i (Notify l e at k code) = NamesAfter p i at k code

-- from a to b, which are the ends of a hop
pub record ComesUp (p : Plan) (a b : NodeId) (m : Msg) : Type 0 where
  pub place : ℕ
  pub below : place < hops p
  pub from : a.0 ≡ (node_at p (suc place)).0
  pub to : b.0 ≡ (node_at p place).0
  pub names : NoticeFits p place m

abbrev pub NoticesFit : Plan → (NodeId → NodeId → List Msg) → Type 0
NoticesFit p notices = (a b : NodeId) → Each (ComesUp p a b) (notices a b)

pub notices_same : (p : Plan) (notices notices' : NodeId → NodeId → List Msg) →
    ((a b : NodeId) → notices' a b ≡ notices a b) → NoticesFit p notices → NoticesFit p notices'
notices_same p notices notices' same fit a b = subst (Each (ComesUp p a b)) (sym (same a b)) (fit a b)
