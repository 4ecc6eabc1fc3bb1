-- A setup keeps the facts of a node.
use Rattle.std.proofs.{Common.{◌≡◌, ◌+◌, true, false, not, nat_eq, List, drop, refl, sym, ap, subst, arith, inl, inr}, lemmas.Bool.not-true}
use Rattle.std.specs.Prelude.{Option, Some, None}
use Rattle.ason_base.specs.{declared.ids.Lsp.Lsp, declared.steps.Step.Step, declared.network.LinkSpec.LinkSpec, declared.calls.CallState.TheVariants.{Asking, Blocked}, declared.calls.Cause.Cause, Codes.label_code, declared.calls.Cause.TheVariants.{Code, Unset, NoRoute, Spent, Full}, declared.messages.PathRole.TheVariants.Work, declared.tables.CallRec.CallRec, declared.tables.Leg.Leg, Lsps.same_lsp}
use Rattle.ason_base.proofs.Bools.{and-left, and-right}
use Rattle.mesh_rules.specs.{Calls.{find_call, names, with_call}, Changes.changed, FirstLegs.{first_leg, first_link, is_full, lacks_first_back}, KnownRows.known_rows, LeastRoutes.{Trip, least_trip}, Legs.{find_leg, with_leg}, LocalNodes.LocalNode, Setups.{SetupRequest, admitted_setup, begins, call_record, is_order_here, is_spent, new_call, next_lsp, over_first, over_found, refused_setup, setup_with, working_lsp}, State.NodeState}
use Rattle.mesh_nodes.proofs.{Cases.if_cases, CallList.{find-with_call, rise-with_call}, LegList.{find-with_leg, same_lsp-eq, same_lsp-refl}}
use Rattle.lsp_laws.specs.CallLaw.{FitsLegs}
use Rattle.lsp_laws.proofs.{nodes.Facts.NodeFacts, nodes.CallParts.{LegBecomes, lone-part, named-by, names-work, new-unnamed, other-stays, together-part}, nodes.LegParts.part-with_leg, nodes.NewLegs.first-stands, nodes.Parts.{call_part, leg_part, node_facts}, nodes.PathKeeps.KeepsFacts, nodes.Sharing.take-same}

module _ (p : LocalNode) (s : NodeState) (w : SetupRequest) (away : nat_eq w.egress.0 p.id.0 ≡ false)
    (unknown : find_call w.call s.calls ≡ None) (facts : NodeFacts p.id.0 s) where
  -- The call stands and is refused

  keeps-refused : (cause : Cause) → KeepsFacts p s (refused_setup w cause)
  keeps-refused cause =
      let c = call_record w Blocked None cause in
      node_facts p.id.0 (changed s (refused_setup w cause)) (leg_part p.id.0 s facts)
      (lone-part p.id.0 s.lsp c s.legs s.calls (with_call c s.calls) (rise-with_call c s.calls facts.calls_rise)
      (find-with_call c s.calls) unknown refl refl
      (record {
        state = refl;
        work = tt;
        back = tt;
        guards = λ x b h is_work is_back there. absurd (cc is_back);
        ways = λ x b k h is_work is_back at_x at_b. absurd (cc is_back);
        reports = refl;
      })
      (call_part p.id.0 s facts))

  -- It is asked for

  module _ (out : LinkSpec) (route : List Step)
      (has : lacks_first_back p s w.both (Work w.protected) out ≡ false) where
    abbrev l : Lsp
    l = next_lsp p s

    abbrev g : Leg
    g = first_leg p (known_rows p s) (working_lsp p s w out route)

    abbrev c : CallRec
    c = call_record w Asking (Some (next_lsp p s)) Unset

    abbrev legs' : List Leg
    legs' = with_leg (first_leg p (known_rows p s) (working_lsp p s w out route)) s.legs

    becomes : LegBecomes l (Some g) s.legs legs'
    becomes = find-with_leg g s.legs

    found : find_leg l legs' ≡ Some g
    found = rw (becomes l, same_lsp-refl l) refl

    fit : FitsLegs p.id.0 (s.lsp + 1) legs' c
    fit =
        let there = found in
        record {
          state = rw there refl;
          work = record { ingress = refl; number = omega arith; leg = (g, found, refl, refl) };
          back = tt;
          guards = λ x b h is_work is_back there'. absurd (cc is_back);
          ways = λ x b k h is_work is_back at_x at_b. absurd (cc is_back);
          reports = refl;
        }

    keeps-begins : KeepsFacts p s (begins p s w out route)
    keeps-begins =
        node_facts p.id.0 (changed s (begins p s w out route))
        (part-with_leg p.id.0 s.lsp (s.lsp + 1) g s.legs (omega arith) (leg_part p.id.0 s facts)
        (first-stands p s (working_lsp p s w out route) w.both (s.lsp + 1) s.legs refl has refl away (omega arith)
        facts.labels (take-same s.legs)))
        (together-part p.id.0 s.lsp (s.lsp + 1) (same_lsp l) w.call (Some c) s.legs legs' s.calls
        (with_call c s.calls)
        (omega arith) (rise-with_call c s.calls facts.calls_rise) (find-with_call c s.calls)
        (record {
          stay = λ x other. other-stays l x (Some g) s.legs legs' becomes other;
          apart = λ m d x other there has.
              new-unnamed p.id.0 s.lsp s.legs s.calls l refl (call_part p.id.0 s facts) m d x there has;
          only = λ d x is has. inl (let one : c ≡ d = cc is in only x (subst (λ y. names x y ≡ true) (sym one) has));
          kept = λ d x there has never. absurd (cc (there, unknown));
          facts = λ d is. (let one : c ≡ d = cc is in subst (FitsLegs p.id.0 (s.lsp + 1) legs') one fit);
          number = λ d is. (let one : c ≡ d = cc is in ap (λ x. x.call) (sym one));
          wanted = λ x h same there here standing. (c, refl, names-work c x (ap Some (same_lsp-eq l x same)));
        })
        (call_part p.id.0 s facts))
      where
        only : (x : Lsp) → names x c ≡ true → same_lsp l x ≡ true
        only x has = elim (named-by c x has) [
          | inl work ↦ (let one : l ≡ x = cc work in subst (λ y. same_lsp l y ≡ true) one (same_lsp-refl l))
          | inr back ↦ absurd (cc back)
        ]

  -- Either

  keeps-admitted : (out : LinkSpec) (route : List Step) → KeepsFacts p s (admitted_setup p s w out route)
  keeps-admitted out route =
      if_cases (KeepsFacts p s) (is_spent s) _ _ (λ e. keeps-refused Spent)
      (λ e. if_cases (KeepsFacts p s) (is_full s) _ _ (λ f. keeps-refused Full)
      (λ f. if_cases (KeepsFacts p s) (lacks_first_back p s w.both (Work w.protected) out) _ _
      (λ h. keeps-refused (Code label_code)) (λ h. keeps-begins out route h)))

  keeps-over_first : (route : List Step) (o : Option LinkSpec) → KeepsFacts p s (over_first p s w route o)
  keeps-over_first route None = facts
  keeps-over_first route (Some out) = keeps-admitted out (drop 1 route)

  keeps-over_found : (o : Option Trip) → KeepsFacts p s (over_found p s w o)
  keeps-over_found None = keeps-refused NoRoute
  keeps-over_found (Some r) = keeps-over_first r.steps (first_link p r.steps)

  keeps-new_call : (o : Option (List Step)) → KeepsFacts p s (new_call p s w o)
  keeps-new_call None = keeps-over_found (least_trip (known_rows p s) p.id w.egress)
  keeps-new_call (Some route) = keeps-over_first route (first_link p route)

pub keeps-setup : (p : LocalNode) (s : NodeState) (w : SetupRequest) (o : Option CallRec) →
    find_call w.call s.calls ≡ o →
    NodeFacts p.id.0 s → KeepsFacts p s (setup_with p s w o)
keeps-setup p s w (Some c) is facts = facts
keeps-setup p s w None is facts =
    if_cases (KeepsFacts p s) (is_order_here p w) _ _
    (λ e.
    let others = and-right (nat_eq w.from.0 p.id.0) _ e in
    let away : nat_eq w.egress.0 p.id.0 ≡ false = not-true _ (and-left (not (nat_eq w.egress.0 p.id.0)) _ others) in
    keeps-new_call p s w away is facts w.via)
    (λ e. facts)
