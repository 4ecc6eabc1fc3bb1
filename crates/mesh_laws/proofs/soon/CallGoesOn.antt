-- While nothing is ordered and nothing is repaired, a call that has turned stays so, and one that isn't guarded keeps a
-- report of its working LSP.
use Rattle.std.proofs.Common.{◌≡◌, ◌<◌, ◌⊎◌, true, List, refl, sym, ◌∙◌, subst, inl, inr}
use Rattle.std.specs.Prelude.{Some}
use Rattle.ason_base.specs.{Network.Network, declared.calls.CallState.TheVariants.{Guarded, Turned}, declared.ids.CallNo.CallNo, declared.ids.Lsp.Lsp, declared.tables.CallRec.CallRec}
use Rattle.mesh_rules.specs.{declared.events.MeshEvent.MeshEvent, Calls.find_call, Events.{IsRun, after, step}, Machine.start, Turns.has_any}
use Rattle.mesh_nodes.proofs.LegList.{same_lsp-refl}
use Rattle.lsp_laws.specs.ReportLaw.{reports_of}
use Rattle.lsp_laws.proofs.{nodes.NodeRuns.facts-hold, nodes.TurnedCalls.{CallLeaves, every_call_leaves}, nodes.CallParts.names-work}
use Rattle.mesh_laws.specs.SoonLaw.{PostsNothing}
use Rattle.mesh_laws.proofs.{soon.NoneUp.NoneUp, soon.ReportsStay.reports-stay}

-- the call is guarded, or a fibre of its working LSP is reported
abbrev pub IsCallTold : CallRec → Type 0
IsCallTold c = (c.state ≡ Guarded) ⊎ (has_any c.work_reports ≡ true)

-- what becomes of the call c
pub record CallBecame (c d : CallRec) : Type 0 where
  pub told : IsCallTold d
  pub turned : c.state ≡ Turned → d.state ≡ Turned

-- the reports of the working LSP are those of the call
work-reports : (c : CallRec) (w : Lsp) → c.work ≡ Some w → reports_of w c ≡ c.work_reports
work-reports c w is = rw (is, same_lsp-refl w) refl

module _ (t : Network) (events : List MeshEvent) (run : IsRun t start events) (none : NoneUp (after t start events))
    (e : MeshEvent) (only : PostsNothing e) (w : Lsp) (number : w.lsp < ((after t start events).nodes w.ingress.0).lsp)
    (k : CallNo) (c d : CallRec) (found : find_call k ((after t start events).nodes w.ingress.0).calls ≡ Some c)
    (later : find_call k ((step t (after t start events) e).nodes w.ingress.0).calls ≡ Some d)
    (is_work : c.work ≡ Some w) (has_work : d.work ≡ Some w) (told : IsCallTold c) where
  -- where it has a report it keeps one
  keeps : has_any c.work_reports ≡ true → has_any d.work_reports ≡ true
  keeps some =
      let was = reports-stay t (after t start events) w (facts-hold t events run) number none e only k d later
      (names-work d w has_work) in
      let one : c ≡ was.0 = (let same = sym found ∙ was.1 in cc same) in
      let had : has_any (reports_of w was.0) ≡ true =
      subst (λ (x : CallRec). has_any (reports_of w x) ≡ true) one
      (subst (λ fibres. has_any fibres ≡ true) (sym (work-reports c w is_work)) some) in
      subst (λ fibres. has_any fibres ≡ true) (work-reports d w has_work) (was.2 had)

  leaves : CallLeaves c d
  leaves = every_call_leaves t events run e w.ingress.0 k c d found later

  -- Over each event in which nothing is posted the call goes on so.
  pub call-goes_on : CallBecame c d
  call-goes_on = record {
    told = elim told [
      | inl guarded ↦ leaves.guarded guarded
      | inr some ↦ inr (keeps some)
    ];
    turned = λ turned. elim told [
      | inl guarded ↦ absurd (let never = sym turned ∙ guarded in cc never)
      | inr some ↦ elim (leaves.turned turned) [
        | inl stays ↦ stays
        | inr gone ↦ absurd (let there = keeps some in cc (there, gone))
      ]
    ];
  }
