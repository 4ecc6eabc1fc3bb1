-- Orders, alarms and clears keep the facts of a node.
use Rattle.std.proofs.Common.{◌≡◌, true, nat_eq, refl, sym, subst}
use Rattle.std.specs.Prelude.{◌&&◌, Option, Some, None}
use Rattle.ason_base.specs.{declared.calls.CallState.CallState, declared.calls.CallState.TheVariants.Bare, declared.commands.Command.Command, declared.commands.Command.TheVariants.{Setup, Release, Protect, Retry, Revert, Fail, Repair}, declared.commands.DeskItem.DeskItem, declared.commands.DeskItem.TheVariants.{Order, Alarm, Clear}, declared.ids.CallNo.CallNo, declared.ids.NodeId.NodeId, declared.tables.CallRec.CallRec, declared.tables.Leg.Leg}
use Rattle.ason_base.proofs.Bools.{and-right}
use Rattle.mesh_rules.specs.{Calls.{find_call, is_bare}, Legs.leg_of, LocalNodes.LocalNode, Orders.{on_item, on_order}, Protects.{protect_with, protects}, State.NodeState}
use Rattle.mesh_nodes.proofs.{Cases.if_cases, CallList.found-number}
use Rattle.lsp_laws.proofs.{nodes.Facts.NodeFacts, nodes.CallParts.put-once, nodes.LegEnds.leg_of-own, nodes.NotifyKeeps.{keeps-alarm, keeps-clear, keeps-retry}, nodes.PairKeeps.keeps-pair, nodes.Parts.{call_part, leg_part}, nodes.PathKeeps.KeepsFacts, nodes.ReleaseKeeps.keeps-release, nodes.RevertKeeps.keeps-revert, nodes.SetupKeeps.keeps-setup, nodes.Sharing.take-same}

-- Protect

pub bare-is : (state : CallState) → is_bare state ≡ true → state ≡ Bare
bare-is Bare e = refl
bare-is _ e = absurd (cc e)

module _ (p : LocalNode) (s : NodeState) (c : CallRec) (found : find_call c.call s.calls ≡ Some c)
    (facts : NodeFacts p.id.0 s) where
  keeps-protects : (o : Option Leg) → is_bare c.state ≡ true → leg_of c.work s.legs ≡ o →
      KeepsFacts p s (protects p s c o)
  keeps-protects None bare is = facts
  keeps-protects (Some w) bare is =
      let own = leg_of-own c.work s.legs w is in
      keeps-pair p s s.legs s.calls c w (leg_part p.id.0 s facts) (call_part p.id.0 s facts) (take-same s.legs)
      (record { found = found; state = bare-is c.state bare; work = own.0; leg = own.1 }) facts.calls_rise
      (λ d number. put-once c.call d s.calls number)

keeps-protect : (p : LocalNode) (s : NodeState) (n : CallNo) (from : NodeId) (o : Option CallRec) →
    find_call n s.calls ≡ o → NodeFacts p.id.0 s → KeepsFacts p s (protect_with p s from o)
keeps-protect p s n from None is facts = facts
keeps-protect p s n from (Some c) is facts =
    let found : find_call c.call s.calls ≡ Some c =
    subst (λ k. find_call k s.calls ≡ Some c) (sym (found-number n s.calls c is)) is in
    if_cases (KeepsFacts p s) (nat_eq from.0 p.id.0 && is_bare c.state) _ _
    (λ e. keeps-protects p s c found facts (leg_of c.work s.legs) (and-right (nat_eq from.0 p.id.0) _ e) refl)
    (λ e. facts)

-- Items of a desk

keeps-on_order : (p : LocalNode) (s : NodeState) (c : Command) → NodeFacts p.id.0 s → KeepsFacts p s (on_order p s c)
keeps-on_order p s (Setup n from to protected both via backup) facts =
    keeps-setup p s
    (record { call = n; from = from; egress = to; protected = protected; both = both; via = via; backup = backup })
    (find_call n s.calls) refl facts
keeps-on_order p s (Release n from) facts = keeps-release p s n from (find_call n s.calls) refl facts
keeps-on_order p s (Protect n from) facts = keeps-protect p s n from (find_call n s.calls) refl facts
keeps-on_order p s (Retry n from) facts = keeps-retry p s n from (find_call n s.calls) refl facts
keeps-on_order p s (Revert n from) facts = keeps-revert p s n from (find_call n s.calls) refl facts
keeps-on_order p s (Fail g) facts = facts
keeps-on_order p s (Repair g) facts = facts

pub keeps-on_item : (p : LocalNode) (s : NodeState) (i : DeskItem) → NodeFacts p.id.0 s → KeepsFacts p s (on_item p s i)
keeps-on_item p s (Order c) facts = keeps-on_order p s c facts
keeps-on_item p s (Alarm f) facts = keeps-alarm p s f facts
keeps-on_item p s (Clear f) facts = keeps-clear p s f facts
