-- A Notify of a failure comes to the ingress: its fibre is reported there then.
use Rattle.std.proofs.Common.{◌≡◌, suc, true, false, nat_eq, [], ◌∷◌, refl, sym, ◌∙◌, ap, subst, arith}
use Rattle.std.specs.Prelude.{Some}
use Rattle.ason_base.specs.{Network.Network, declared.ids.Fibre.Fibre, declared.ids.Lsp.Lsp, declared.ids.NodeId.NodeId, declared.messages.Msg.Msg, declared.messages.Msg.TheVariants.Notify, declared.tables.CallRec.CallRec, declared.tables.Leg.Leg}
use Rattle.ason_base.proofs.Numbers.{self-number}
use Rattle.mesh_rules.specs.declared.changes.CallChange.TheVariants as call
use Rattle.mesh_rules.specs.{declared.events.MeshEvent.TheVariants.Take, Calls.{call_with, find_call}, Changes.Answer, Events.{on_first, step}, Legs.{is_closing, leg_of}, LocalNodes.local_node, Machine.{Mesh, commit, without_first}, Messages.on_message, Pairs.route_from, Reports.{fibre_into, with_fibre, with_report}, Turns.{decide, has_any}}
use Rattle.mesh_nodes.proofs.{CallList.{find-with_call, found-number}, LegList.same_lsp-refl}
use Rattle.lsp_laws.specs.{HopLaw.leg_at, ReportLaw.reports_of}
use Rattle.lsp_laws.proofs.{hops.Chain.LegFitsPlan, hops.LegChanges.{following_is, previous_none}, hops.Paired.along, hops.Plans.{link_at, node_at}}
use Rattle.mesh_laws.proofs.{reports.Reported.{PutsReported, decide-puts, into-found, into_at, report-after, report-call}, soon.Swept.StandsIn, soon.Notices.Reports, soon.Roles.{Fixed, Roles, Scene}, soon.ReportsStay.any-with}

module _ (t : Network) (r : Roles) (fixed : Fixed t r) (s : Mesh) (scene : Scene t r s) (m : Msg)
    (reports : Reports r.work (node_at r.work_plan (suc r.place)) (link_at r.work_plan r.place) m)
    (waits : StandsIn (s.mail (node_at r.work_plan 1).0 (node_at r.work_plan 0).0) m []) (d : CallRec)
    (next_call : find_call r.call
    ((step t s (Take (node_at r.work_plan 0) (node_at r.work_plan 1))).nodes r.ingress.0).calls ≡ Some d) where
  abbrev n : NodeId
  n = node_at r.work_plan 0

  leg : (g : Leg) × (leg_at s r.work (node_at r.work_plan 0) ≡ Some g) × (is_closing g.phase ≡ false)
  leg = scene.stands 0 (omega arith)

  fits : LegFitsPlan t scene.work_for r.work r.work_plan 0 leg.0
  fits = (let any = scene.work_chain.fits 0 (omega arith) in rw (leg.1) at any)

  was : s.mail (node_at r.work_plan 1).0 (node_at r.work_plan 0).0 ≡
      Notify r.work reports.egress (node_at r.work_plan (suc r.place)) (link_at r.work_plan r.place) reports.code
      ∷ waits.later
  was = waits.all ∙ ap (λ x. x ∷ waits.later) reports.is

  fibre : (f : Fibre) × (fibre_into (route_from (local_node t n) leg.0) leg.0.egress
      (node_at r.work_plan (suc r.place)) (link_at r.work_plan r.place) ≡ Some f)
  fibre =
      let whole : route_from (local_node t n) leg.0 ≡ r.work_plan.route =
      along t r.work scene.work_for n r.work_plan.egress r.work_plan.route leg.0
      (fixed.work_here ∙ sym fixed.work_first) fixed.work_route fits in
      let into = into-found r.work_plan.route r.work_plan.egress r.place fixed.work_route.apart fixed.within in
      (into_at r.work_plan.route r.work_plan.egress r.place, rw (whole, fits.egress) into)

  called : call_with leg.0.lsp (s.nodes n.0).calls ≡ Some scene.call
  called = subst (λ (x : Lsp). call_with x (s.nodes n.0).calls ≡ Some scene.call) (sym fits.own)
      (subst (λ (x : NodeId). call_with r.work (s.nodes x.0).calls ≡ Some scene.call) (sym fixed.work_first)
      scene.named_work)

  abbrev told_call : CallRec
  told_call = with_report scene.call leg.0.lsp true fibre.0

  abbrev answer : Answer
  answer = decide (s.nodes n.0).legs told_call (leg_of scene.call.back (s.nodes n.0).legs)

  decides : on_message (local_node t n) (s.nodes n.0) (node_at r.work_plan 1)
      (Notify r.work reports.egress (node_at r.work_plan (suc r.place)) (link_at r.work_plan r.place) reports.code)
      ≡ answer
  decides =
      rw (
        leg.1,
        leg.2,
        following_is t scene.work_for r.work r.work_plan 0 leg.0 fits fixed.work_route.long,
        self-number (node_at r.work_plan 1).0,
        reports.down,
        previous_none t scene.work_for r.work r.work_plan leg.0 fits,
        fibre.1,
        called,
      ) refl

  -- what is put in the place of the call
  puts-call : (u h : NodeId) → h ≡ r.ingress → (a : Answer) (x : CallRec) → a.calls ≡ call.Put x ∷ [] →
      x.call ≡ r.call → find_call r.call ((commit (without_first s u.0 h.0) h.0 a).nodes r.ingress.0).calls ≡ Some x
  puts-call u h is a x calls number =
      let yes : nat_eq x.call.0 r.call.0 ≡ true = rw number (self-number r.call.0) in
      rw (is, self-number r.ingress.0, calls)
      (find-with_call x (s.nodes r.ingress.0).calls r.call ∙ rw yes refl)

  puts : PutsReported leg.0.lsp told_call answer
  puts = decide-puts leg.0.lsp (s.nodes n.0).legs told_call (leg_of scene.call.back (s.nodes n.0).legs)

  put-is : puts.put ≡ d
  put-is =
      let number : puts.put.call ≡ r.call =
      puts.number ∙ report-call scene.call leg.0.lsp true fibre.0
      ∙ found-number r.call (s.nodes r.ingress.0).calls scene.call scene.found in
      let a : Answer = on_message (local_node t n) (s.nodes n.0) (node_at r.work_plan 1)
      (Notify r.work reports.egress (node_at r.work_plan (suc r.place)) (link_at r.work_plan r.place) reports.code) in
      let calls : a.calls ≡ call.Put puts.put ∷ [] = ap (λ (x : Answer). x.calls) decides ∙ puts.calls in
      let there : find_call r.call ((commit (without_first s (node_at r.work_plan 1).0 n.0) n.0
      (on_first (local_node t n) (s.nodes n.0) (node_at r.work_plan 1)
      (s.mail (node_at r.work_plan 1).0 n.0))).nodes r.ingress.0).calls ≡ Some puts.put =
      subst (λ ms. find_call r.call ((commit (without_first s (node_at r.work_plan 1).0 n.0) n.0
      (on_first (local_node t n) (s.nodes n.0) (node_at r.work_plan 1) ms)).nodes r.ingress.0).calls ≡ Some puts.put)
      (sym was) (puts-call (node_at r.work_plan 1) n fixed.work_first a puts.put calls number) in
      let some : Some puts.put ≡ Some d = sym there ∙ next_call in
      cc some

  -- the call has a report of its working LSP then
  pub report-comes : d.work ≡ Some r.work → has_any d.work_reports ≡ true
  report-comes is_work =
      let own : leg.0.lsp ≡ r.work = fits.own in
      let all : reports_of leg.0.lsp d ≡ with_fibre fibre.0 (reports_of leg.0.lsp scene.call) =
      subst (λ (x : CallRec). reports_of leg.0.lsp x ≡ with_fibre fibre.0 (reports_of leg.0.lsp scene.call)) put-is
      (puts.reports ∙ report-after scene.call leg.0.lsp true fibre.0) in
      let its : reports_of leg.0.lsp d ≡ d.work_reports =
      subst (λ (x : Lsp). reports_of x d ≡ d.work_reports) (sym own)
      (rw (is_work, same_lsp-refl r.work) refl) in
      subst (λ fs. has_any fs ≡ true) (sym all ∙ its) (any-with (reports_of leg.0.lsp scene.call) fibre.0)
