-- A blocked call stays as it is: it has no LSP, no report and no tick, and all else a move keeps.
use Rattle.std.proofs.{Common.{◌≡◌, ℕ, Bool, true, false, nat_eq, List, [], ◌∷◌, ◌++◌, refl, sym, ap, ◌∙◌, subst, arith}, lemmas.List.Elements.recursion_from_All, lemmas.Bool.not-true}
use Rattle.std.specs.Prelude.{◌||◌, Option, Some, None}
use Rattle.ason_base.specs.{Network.Network, declared.calls.CallState.CallState, declared.calls.CallState.TheVariants.Blocked, declared.calls.Phase.Phase, declared.ids.CallNo.CallNo, declared.tables.CallRec.CallRec}
use Rattle.ason_base.proofs.Bools.{neither-left}
use Rattle.mesh_rules.specs.{declared.events.MeshEvent.MeshEvent, Calls.find_call, Events.{IsRun, after, is_enabled, step}, Machine.{Mesh, start}, Turns.has_any}
use Rattle.mesh_nodes.proofs.{CallList.found-call-all, Cases.neither_right}
use Rattle.lsp_laws.specs.CallLaw.{IsTidy, fits_reports, fits_ticks}
use Rattle.lsp_laws.proofs.{nodes.NodeRuns.facts-hold, nodes.States.{BlockedRow, Row, row}, nodes.CallKeeps.no_leg, nodes.TurnedCalls.none-reported}
use Rattle.mesh_laws.proofs.{ordered.Law.every_tidy, moves.MovesOn.every_call_moves}
use Rattle.mesh_laws.specs.MovesLaw.{EveryBlockedCallStays, may_move}

blocked-legs : (f : CallState) (w b : Option Phase) → Row f w b → f ≡ Blocked → (w ≡ None) × (b ≡ None)
blocked-legs _ _ _ BlockedRow e = (refl, refl)
blocked-legs _ _ _ _ e = absurd (cc e)

record IsBlank (c : CallRec) : Type 0 where
  pub work : c.work ≡ None
  pub back : c.back ≡ None
  pub works : c.work_reports ≡ []
  pub backs : c.back_reports ≡ []
  pub ticks : c.ticks ≡ 0

no-ticks : (works : Bool) (ticks : ℕ) → fits_ticks Blocked works ticks ≡ true → ticks ≡ 0
no-ticks works ticks e = go (nat_eq ticks 0) refl e
  where
    go : (b : Bool) → nat_eq ticks 0 ≡ b → (b || false) ≡ true → ticks ≡ 0
    go true is e = grind arith
    go false is e = absurd (cc e)

blank : (t : Network) (events : List MeshEvent) → IsRun t start events → (n : ℕ) (k : CallNo) (c : CallRec) →
    find_call k ((after t start events).nodes n).calls ≡ Some c → c.state ≡ Blocked → IsBlank c
blank t events run n k c found is =
    let x = (after t start events).nodes n in
    let fit = ((facts-hold t events run).node n).call k c found in
    let legs = blocked-legs c.state _ _ (row c.state _ _ fit.state) is in
    let reports = not-true (has_any c.work_reports || has_any c.back_reports)
    (subst (λ f. fits_reports f (has_any c.work_reports) (has_any c.back_reports) ≡ true) is fit.reports) in
    let tidy = found-call-all IsTidy k x.calls c found (recursion_from_All IsTidy x.calls (every_tidy t events run n)) in
    record {
      work = no_leg n x.lsp x.legs _ c.egress c.work fit.work legs.0;
      back = no_leg n x.lsp x.legs _ c.egress c.back fit.back legs.1;
      works = none-reported c.work_reports (neither-left _ _ reports);
      backs = none-reported c.back_reports (neither_right _ _ reports);
      ticks = no-ticks (has_any c.work_reports) c.ticks
          (subst (λ f. fits_ticks f (has_any c.work_reports) c.ticks ≡ true) is tidy.ticks);
    }

run-more : (t : Network) (s : Mesh) (events : List MeshEvent) (e : MeshEvent) → IsRun t s events →
    is_enabled t (after t s events) e ≡ true → IsRun t s (events ++ e ∷ [])
run-more t s [] e run enabled = (enabled, tt)
run-more t s (x ∷ events) e run enabled = (run.0, run-more t (step t s x) events e run.1 enabled)

after-more : (t : Network) (s : Mesh) (events : List MeshEvent) (e : MeshEvent) →
    after t s (events ++ e ∷ []) ≡ step t (after t s events) e
after-more t s [] e = refl
after-more t s (x ∷ events) e = after-more t (step t s x) events e

blocked-on : (f : CallState) → may_move Blocked f ≡ true → f ≡ Blocked
blocked-on Blocked e = refl
blocked-on _ e = absurd (cc e)

-- over every network and every run
pub every_blocked_call : EveryBlockedCallStays
every_blocked_call t events run e enabled n k c found is other =
    let its = every_call_moves t events run e enabled n k c found other in
    let d : CallRec = its.0 in
    let on = its.2 in
    let state : its.0.state ≡ Blocked =
    blocked-on its.0.state (subst (λ f. may_move f its.0.state ≡ true) is on.moves) in
    let there : find_call k ((after t start (events ++ e ∷ [])).nodes n).calls ≡ Some its.0 =
    ap (λ (s : Mesh). find_call k (s.nodes n).calls) (after-more t start events e) ∙ its.1 in
    let b = blank t events run n k c found is in
    let a = blank t (events ++ e ∷ []) (run-more t start events e run enabled) n k its.0 there state in
    let same : its.0 ≡ c = λ i. record {
      call = on.number i;
      egress = on.egress i;
      protected = on.protected_so i;
      backup = on.backup_so i;
      state = (state ∙ sym is) i;
      work = (a.work ∙ sym b.work) i;
      back = (a.back ∙ sym b.back) i;
      work_reports = (a.works ∙ sym b.works) i;
      back_reports = (a.backs ∙ sym b.backs) i;
      cause = on.blocked is i;
      ticks = (a.ticks ∙ sym b.ticks) i;
    } in
    its.1 ∙ ap Some same
