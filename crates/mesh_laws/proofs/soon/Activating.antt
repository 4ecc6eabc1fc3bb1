-- A call that has turned, and how far it is from that while its backup is being activated.
use Rattle.std.proofs.Common.{◌≡◌, ◌≤◌, ◌<◌, ◌⊎◌, ℕ, suc, ◌+◌, true, false, []}
use Rattle.std.specs.{Prelude.Some, List.AllByRecursion}
use Rattle.ason_base.specs.{Network.Network, declared.calls.CallState.TheVariants.{Turned, Turning}, declared.calls.Phase.TheVariants.Armed, declared.ids.CallNo.CallNo, declared.ids.Lsp.Lsp, declared.ids.NodeId.NodeId, declared.messages.Msg.Msg, declared.tables.CallRec.CallRec, declared.tables.Leg.Leg}
use Rattle.mesh_rules.specs.{declared.events.MeshEvent.MeshEvent, Calls.{call_with, find_call}, Legs.is_beyond_asked, Machine.Mesh}
use Rattle.lsp_laws.specs.HopLaw.{leg_at, mail_between}
use Rattle.lsp_laws.proofs.{hops.Chain.Chain, hops.Plans.{Plan, hops, node_at}, hops.Purposes.Purpose}
use Rattle.mesh_laws.specs.AloneLaw.{is_refusal, sent_in}
use Rattle.mesh_laws.proofs.{soon.Delays.{down_to, there_and_back, up_from}, soon.OneHop.{Activates, IsResvOf}, soon.Soon.Goal}

-- The call

-- the call of this number, which has turned
pub record CallHasTurned (n : NodeId) (k : CallNo) (s : Mesh) : Type 0 where
  pub call : CallRec
  pub found : find_call k (s.nodes n.0).calls ≡ Some call
  pub state : call.state ≡ Turned

-- How far it is

-- the Path that activates the backup comes from this place: it waits for j sweeps once it is taken, down and up again
pub record ComesDown (delay : ℕ → ℕ → ℕ) (p : Plan) (b : Lsp) (j u d : ℕ) (m : Msg) : Type 0 where
  pub place : ℕ
  pub below : place < hops p
  pub tells : Activates b m
  pub from : u ≡ (node_at p place).0
  pub to : d ≡ (node_at p (suc place)).0
  pub left : j + down_to delay p (suc place) ≡ there_and_back delay p

-- a Resv comes to this place: it waits for j sweeps from there on
pub record ComesUp (delay : ℕ → ℕ → ℕ) (p : Plan) (b : Lsp) (j u d : ℕ) (m : Msg) : Type 0 where
  pub place : ℕ
  pub below : place < hops p
  pub tells : IsResvOf b m
  pub from : u ≡ (node_at p (suc place)).0
  pub to : d ≡ (node_at p place).0
  pub left : j ≡ up_from delay p place

-- either of the two
abbrev pub SaysActivation : (ℕ → ℕ → ℕ) → Plan → Lsp → ℕ → ℕ → ℕ → Msg → Type 0
SaysActivation delay p b j u d m = ComesDown delay p b j u d m ⊎ ComesUp delay p b j u d m

-- What is known of the state and the event: the backup b of the call k at its ingress n has the plan p.
pub record BackupStandsBy (t : Network) (q : Purpose) (p : Plan) (b : Lsp) (n : NodeId) (k : CallNo) (s : Mesh)
    (e : MeshEvent) : Type 0 where
  pub chain : Chain t q b p (leg_at s b) (mail_between s b)
  -- each leg of the backup is Held, Armed or Live
  pub reserved : (i : ℕ) → i ≤ hops p → (g : Leg) × (leg_at s b (node_at p i) ≡ Some g) ×
      (is_beyond_asked g.phase ≡ true)
  pub none_refused : AllByRecursion (λ o. is_refusal o.msg ≡ false) (sent_in t s e)
  pub call : CallRec
  pub found : find_call k (s.nodes n.0).calls ≡ Some call
  pub named : call_with b (s.nodes n.0).calls ≡ Some call
  -- it turns while its leg is Armed, and no fibre of the backup is reported
  pub turning : (g : Leg) → leg_at s b (node_at p 0) ≡ Some g → g.phase ≡ Armed → call.state ≡ Turning
  pub unhit : call.back_reports ≡ []

-- that the call has turned
abbrev pub turning_goal : Network → (ℕ → ℕ → ℕ) → Purpose → Plan → Lsp → NodeId → CallNo → Goal
turning_goal t delay q p b n k = record {
  Good = BackupStandsBy t q p b n k;
  Done = CallHasTurned n k;
  Says = SaysActivation delay p b;
  Tells = λ j m i. ⊥;
}
