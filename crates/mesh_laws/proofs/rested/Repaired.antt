-- Once no group is failed any more and nothing is under way, no call is stuck; and where none is turned the state is calm.
use Rattle.std.proofs.{Common.{◌≡◌, ◌≢◌, ℕ, Bool, true, false, List, [], refl, subst}, lemmas.List.Elements.{All-from_recursion, recursion_from_All}}
use Rattle.std.specs.{Prelude.{Some, All}, List.AllByRecursion}
use Rattle.ason_base.specs.{Network.{IsTopology, Network}, declared.calls.CallState.CallState, declared.calls.CallState.TheVariants.{Guarded, Stuck, Turned}, declared.calls.Phase.Phase, declared.calls.Phase.TheVariants.Held, declared.calls.Role.TheVariants.Back, declared.tables.Leg.Leg}
use Rattle.mesh_rules.specs.{declared.events.MeshEvent.MeshEvent, Events.{IsRun, after}, Machine.{Mesh, start}, Quiet.IsQuiet, Turns.has_any}
use Rattle.mesh_nodes.proofs.CallList.{all-calls_found, found-call-all}
use Rattle.lsp_laws.specs.CallLaw.{fits_reports}
use Rattle.lsp_laws.proofs.{nodes.Facts.MeshFacts, nodes.NodeRuns.facts-hold}
use Rattle.mesh_laws.specs.{AloneLaw.{CallIsCalm, LegIsCalm, is_idle}, RestedLaw.{EveryRepairedRestIsCalm, IsOfCall, rested_phase}}
use Rattle.mesh_laws.proofs.{rested.Rested.nothing_left_at_rest, surveyed.Calm.{calls-calm, calm-idle}}

-- a backup whose call isn't turned is idle
back-idle : (f : CallState) (q : Phase) → rested_phase f Back ≡ Some q → f ≢ Turned → is_idle q ≡ true
back-idle Guarded q is other = (let held : Held ≡ q = cc is in subst (λ x. is_idle x ≡ true) held refl)
back-idle Stuck q is other = (let held : Held ≡ q = cc is in subst (λ x. is_idle x ≡ true) held refl)
back-idle Turned q is other = absurd (other refl)
back-idle _ q is other = absurd (cc is)

-- a stuck call has a report
not-stuck : (f : CallState) (works backs : Bool) → fits_reports f works backs ≡ true → works ≡ false → f ≢ Stuck
not-stuck f works backs told none is = (let never : false ≡ true = rw (is, none) at told in cc never)

module _ (t : Network) (events : List MeshEvent) (valid : IsTopology t) (run : IsRun t start events)
    (quiet : IsQuiet (after t start events)) (failed : (after t start events).failed ≡ []) where
  abbrev s : Mesh
  s = after t start events

  facts : MeshFacts t (after t start events)
  facts = facts-hold t events run

  none-stuck : (n : ℕ) → AllByRecursion (λ c. c.state ≢ Stuck) (s.nodes n).calls
  none-stuck n =
      all-calls_found (λ c. c.state ≢ Stuck) (s.nodes n).calls (facts.node n).calls_rise
      (λ k c found.
      let calm : CallIsCalm c = found-call-all CallIsCalm k (s.nodes n).calls c found
      (calls-calm t events valid run quiet failed n) in
      not-stuck c.state (has_any c.work_reports) (has_any c.back_reports) ((facts.node n).call k c found).reports
      (rw calm.0 refl))

  -- the leg of a call that isn't turned
  leg-idle : ((n : ℕ) → All (λ c. c.state ≢ Turned) (s.nodes n).calls) → (g : Leg) → IsOfCall s g → LegIsCalm g
  leg-idle back g of role =
      let its : rested_phase of.call.state Back ≡ Some g.phase =
      subst (λ r. rested_phase of.call.state r ≡ Some g.phase) role of.phase in
      back-idle of.call.state g.phase its
      (found-call-all (λ c. c.state ≢ Turned) of.call.call (s.nodes g.lsp.ingress.0).calls of.call of.there
      (recursion_from_All (λ c. c.state ≢ Turned) (s.nodes g.lsp.ingress.0).calls (back g.lsp.ingress.0)))

  legs-idle : ((n : ℕ) → All (λ c. c.state ≢ Turned) (s.nodes n).calls) → (n : ℕ) →
      AllByRecursion LegIsCalm (s.nodes n).legs
  legs-idle back n =
      recursion_from_All LegIsCalm (s.nodes n).legs
      (λ i d small. leg-idle back _ ((nothing_left_at_rest t events run quiet).legs n i d small))

-- over every topology and every run
pub every_repaired_rest : EveryRepairedRestIsCalm
every_repaired_rest t events valid run quiet failed = record {
  free = λ n. All-from_recursion (λ c. c.state ≢ Stuck) ((after t start events).nodes n).calls
      (none-stuck t events valid run quiet failed n);
  calm = λ back. calm-idle t events valid run quiet failed (legs-idle t events valid run quiet failed back);
}
