-- The facts of a node after a rule changed one of its legs.
use Rattle.std.proofs.Common.{◌≡◌, ℕ, true, false, nat_eq, List, [], ap, subst, ◌∙◌, arith, inl, inr}
use Rattle.std.specs.Prelude.{Some, None}
use Rattle.ason_base.specs.{declared.ids.Lsp.Lsp, declared.tables.CallRec.CallRec, declared.tables.Leg.Leg}
use Rattle.mesh_rules.specs.{Legs.{find_leg, is_closing, with_leg, without_leg, leg_of}, State.NodeState, Changes.{puts, removes, changed}}
use Rattle.lsp_laws.specs.CallLaw.{FitsLegs, phases_fit, phase_of}
use Rattle.lsp_laws.proofs.{nodes.Facts.NodeFacts, nodes.LegParts.{LegPart, MayStand, part-with_leg, part-without_leg}, nodes.CallParts.{CallPart, Unnamed, named-by, unnamed-part}, nodes.States.{Row, row, work-stands, back-stands}, hops.NamedPhases.named_is}
use Rattle.mesh_nodes.proofs.LegList.{find-with_leg, find-without_leg}

pub leg_part : (n : ℕ) (s : NodeState) → NodeFacts n s → LegPart n s.lsp s.legs
leg_part n s facts = record { rise = facts.legs_rise; leg = facts.leg; labels = facts.labels; marks = facts.marks }

pub call_part : (n : ℕ) (s : NodeState) → NodeFacts n s → CallPart n s.lsp s.legs s.calls
call_part n s facts =
    record { rise = facts.calls_rise; call = facts.call; one_call = facts.one_call; has_call = facts.has_call }

pub node_facts : (n : ℕ) (s : NodeState) → LegPart n s.lsp s.legs → CallPart n s.lsp s.legs s.calls → NodeFacts n s
node_facts n s legs calls = record {
  legs_rise = legs.rise;
  leg = legs.leg;
  labels = legs.labels;
  marks = legs.marks;
  calls_rise = calls.rise;
  call = calls.call;
  one_call = calls.one_call;
  has_call = calls.has_call;
}

-- The LSPs of a call

-- the row of a call by the leg of its working LSP, and by that of its backup
pub work-row : (n next : ℕ) (legs : List Leg) (c : CallRec) (l : Lsp) (g : Leg) → FitsLegs n next legs c →
    c.work ≡ Some l → find_leg l legs ≡ Some g → Row c.state (Some g.phase) (phase_of (leg_of c.back legs))
work-row n next legs c l g fit work here =
    let there : leg_of c.work legs ≡ Some g = ap (λ o. leg_of o legs) work ∙ here in
    row c.state (Some g.phase) (phase_of (leg_of c.back legs))
    (subst (λ o. phases_fit c.state (phase_of o) (phase_of (leg_of c.back legs)) ≡ true) there fit.state)

pub back-row : (n next : ℕ) (legs : List Leg) (c : CallRec) (l : Lsp) (g : Leg) → FitsLegs n next legs c →
    c.back ≡ Some l → find_leg l legs ≡ Some g → Row c.state (phase_of (leg_of c.work legs)) (Some g.phase)
back-row n next legs c l g fit back here =
    let there : leg_of c.back legs ≡ Some g = ap (λ o. leg_of o legs) back ∙ here in
    row c.state (phase_of (leg_of c.work legs)) (Some g.phase)
    (subst (λ o. phases_fit c.state (phase_of (leg_of c.work legs)) (phase_of o) ≡ true) there fit.state)

-- an LSP of another ingress has no call here
pub unnamed-away : (n next : ℕ) (legs : List Leg) (calls : List CallRec) (l : Lsp) → nat_eq l.ingress.0 n ≡ false →
    CallPart n next legs calls → Unnamed calls l
unnamed-away n next legs calls l away part k c found names =
    let fit = part.call k c found in
    let here : l.ingress.0 ≡ n = elim (named-by c l names) [
      | inl work ↦ (named_is n next legs _ c.egress c.work l fit.work work).ingress
      | inr back ↦ (named_is n next legs _ c.egress c.back l fit.back back).ingress
    ] in
    let same : nat_eq l.ingress.0 n ≡ true = grind arith in
    cc (away, same)

-- an LSP whose leg is torn has none either
pub unnamed-torn : (n next : ℕ) (legs : List Leg) (calls : List CallRec) (l : Lsp) (g : Leg) →
    find_leg l legs ≡ Some g → is_closing g.phase ≡ true → CallPart n next legs calls → Unnamed calls l
unnamed-torn n next legs calls l g here torn part k c found names =
    let fit = part.call k c found in
    elim (named-by c l names) [
      | inl work ↦ work-stands c.state g.phase (phase_of (leg_of c.back legs))
          (work-row n next legs c l g fit work here) torn
      | inr back ↦ back-stands c.state (phase_of (leg_of c.work legs)) g.phase
          (back-row n next legs c l g fit back here) torn
    ]

-- One leg changes, and no call, whatever is sent

-- away from its ingress a leg comes or changes
pub keeps-leg : (n : ℕ) (s : NodeState) (g : Leg) → nat_eq g.lsp.ingress.0 n ≡ false → MayStand n s.lsp s.legs g →
    NodeFacts n s → NodeFacts n (changed s (puts g []))
keeps-leg n s g away may facts =
    node_facts n (changed s (puts g []))
    (part-with_leg n s.lsp s.lsp g s.legs (omega arith) (leg_part n s facts) may)
    (unnamed-part n s.lsp g.lsp (Some g) s.legs (with_leg g s.legs) s.calls (find-with_leg g s.legs)
    (unnamed-away n s.lsp s.legs s.calls g.lsp away (call_part n s facts))
    (λ h is here stands. let same : nat_eq g.lsp.ingress.0 n ≡ true = grind arith in cc (away, same))
    (call_part n s facts))

-- a leg without a call goes
pub keeps-gone : (n : ℕ) (s : NodeState) (l : Lsp) → Unnamed s.calls l → NodeFacts n s →
    NodeFacts n (changed s (removes l []))
keeps-gone n s l unnamed facts =
    node_facts n (changed s (removes l []))
    (part-without_leg n s.lsp l s.legs (leg_part n s facts))
    (unnamed-part n s.lsp l None s.legs (without_leg l s.legs) s.calls (find-without_leg l s.legs) unnamed
    (λ h is here stands. cc is) (call_part n s facts))
