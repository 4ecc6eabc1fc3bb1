-- A Path where no leg of its LSP stands keeps the facts of a node.
use Rattle.std.proofs.{Common.{◌≡◌, ℕ, Bool, true, false, cond, not, nat_eq, List, [], ◌∷◌, refl, sym, subst, arith}, lemmas.Bool.{not-false, not-true}}
use Rattle.std.specs.Prelude.{◌&&◌, Option, Some, None}
use Rattle.ason_base.specs.{Labels.least, declared.codes.ErrCode.ErrCode, declared.ids.CallNo.CallNo, declared.ids.NodeId.NodeId, declared.steps.Step.Step, declared.tables.CallRec.CallRec, declared.network.LinkSpec.LinkSpec}
use Rattle.ason_base.proofs.Bools.{and-left, and-right}
use Rattle.mesh_rules.specs.{Changes.{Answer, changed, nothing}, Calls.find_call, LocalNodes.{LocalNode, own_link, leads}, State.NodeState, Paths.{PathRequest, Check, back_label, is_active, lacks_back, leads_on, link_on, first_failure, checks, offered_labels, egress_leg, risks_here, transit_leg, at_egress, in_transit, admitted, judged, first_path}}
use Rattle.mesh_nodes.proofs.{CallList.found-number, Cases.if_cases, ChosenLabels.least-has}
use Rattle.lsp_laws.proofs.{nodes.Facts.NodeFacts, nodes.NewLegs.{egress-stands, transit-stands}, nodes.Parts.keeps-leg}

-- the answer keeps the facts
abbrev pub KeepsFacts : LocalNode → NodeState → Answer → Type 0
KeepsFacts p s a = NodeFacts p.id.0 (changed s a)

-- so does an order of a call that begins here, where its test holds; else it changes nothing
pub keeps-ordered : (p : LocalNode) (s : NodeState) (n : CallNo) (from : NodeId) (c : CallRec) (test : Bool)
    (a : Answer) → find_call n s.calls ≡ Some c → NodeFacts p.id.0 s →
    (find_call c.call s.calls ≡ Some c → test ≡ true → KeepsFacts p s a) →
    KeepsFacts p s (cond (nat_eq from.0 p.id.0) (cond test a nothing) nothing)
keeps-ordered p s n from c test a is facts follows =
    let found : find_call c.call s.calls ≡ Some c =
    subst (λ k. find_call k s.calls ≡ Some c) (sym (found-number n s.calls c is)) is in
    if_cases (KeepsFacts p s) (nat_eq from.0 p.id.0) _ _
    (λ e. if_cases (KeepsFacts p s) test a nothing (λ f. follows found f) (λ f. facts)) (λ e. facts)

-- Where no check fails

abbrev pub NoneFails : List Check → Type 0
NoneFails [] = Unit {0}
NoneFails (c ∷ cs) = (c.fails ≡ false) × NoneFails cs

pub none_fails : (cs : List Check) → first_failure cs ≡ None → NoneFails cs
none_fails [] none = tt
none_fails (c ∷ cs) none = go c.fails refl none (none_fails cs)
  where
    go : (b : Bool) → c.fails ≡ b → cond b (Some c.code) (first_failure cs) ≡ None →
        (first_failure cs ≡ None → NoneFails cs) →
        NoneFails (c ∷ cs)
    go true is none others = absurd cc
    go false is none others = (is, others none)

module _ (p : LocalNode) (s : NodeState) (m : PathRequest) (facts : NodeFacts p.id.0 s) where
  module _ (link : LinkSpec) (far : nat_eq m.arrival.lsp.ingress.0 p.id.0 ≡ false) where
    keeps-at_egress : (o : Option ℕ) → nat_eq p.id.0 m.arrival.egress.0 ≡ true → least (offered_labels p s m link) ≡ o →
        KeepsFacts p s (at_egress p m link (risks_here p s m) (offered_labels p s m link) o)
    keeps-at_egress None here is = facts
    keeps-at_egress (Some x) here is =
        let last : nat_eq m.arrival.egress.0 p.id.0 ≡ true = grind arith in
        keeps-leg p.id.0 s (egress_leg p m link (risks_here p s m) (offered_labels p s m link) x) far
        (egress-stands p s m link s.lsp far x facts.labels last (least-has (offered_labels p s m link) x is)) facts

    keeps-in_transit : (route : List Step) (o : Option LinkSpec) → nat_eq m.arrival.egress.0 p.id.0 ≡ false →
        lacks_back p s m o ≡ false → KeepsFacts p s (in_transit p s m link route o)
    keeps-in_transit route None on has = facts
    keeps-in_transit route (Some out) on has =
        keeps-leg p.id.0 s
        (transit_leg p m link (risks_here p s m) out route (offered_labels p s m link) (back_label p s m out)) far
        (transit-stands p s m link s.lsp far out route facts.labels on has) facts

    keeps-admitted : (route : List Step) → leads_on p m.arrival route ≡ true →
        lacks_back p s m (link_on p route) ≡ false → KeepsFacts p s (admitted p s m link route)
    keeps-admitted [] on has = keeps-at_egress (least (offered_labels p s m link)) on refl
    keeps-admitted (hop ∷ route) on has =
        let apart : nat_eq p.id.0 m.arrival.egress.0 ≡ false =
        not-true _ (and-left (not (nat_eq p.id.0 m.arrival.egress.0)) _ on) in
        let away : nat_eq m.arrival.egress.0 p.id.0 ≡ false = grind arith in
        keeps-in_transit route (own_link p hop.link) away has

    keeps-judged : (o : Option ErrCode) → first_failure (checks p s m link) ≡ o → KeepsFacts p s (judged p s m link o)
    keeps-judged (Some code) is = facts
    keeps-judged None is =
        let none = none_fails (checks p s m link) is in
        keeps-admitted m.route (not-false _ none.1.0) none.1.1.1.1.1.0

  keeps-first_path : (o : Option LinkSpec) → KeepsFacts p s (first_path p s m o)
  keeps-first_path None = facts
  keeps-first_path (Some link) =
      if_cases (KeepsFacts p s)
      (not (is_active m.role) && (leads (Some link) m.arrival.from p.id
      && not (nat_eq m.arrival.lsp.ingress.0 p.id.0))) _ _
      (λ h.
      let away = and-right (leads (Some link) m.arrival.from p.id) _ (and-right (not (is_active m.role)) _ h) in
      keeps-judged link (not-true (nat_eq m.arrival.lsp.ingress.0 p.id.0) away)
      (first_failure (checks p s m link)) refl)
      (λ h. facts)

  pub keeps-first : KeepsFacts p s (first_path p s m (own_link p m.arrival.link))
  keeps-first = keeps-first_path (own_link p m.arrival.link)
