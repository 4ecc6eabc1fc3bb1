-- Once nothing is under way, of each fibre of an LSP's route its call knows whether it is physically down.
use Rattle.std.proofs.{Common.{◌≡◌, ◌≤◌, ℕ, suc, Bool, true, false, List, length, refl, sym, ap, ◌∙◌, subst, arith, get_or}, lemmas.List.Elements.Contains-get_or}
use Rattle.std.specs.{Prelude.{Option, Some, slice_get}, List.Contains}
use Rattle.ason_base.specs.{Lsps.{has_fibre, is_lsp}, Network.{IsTopology, Network, other_end}, declared.calls.Role.TheVariants.{Work, Back}, declared.ids.Lsp.Lsp, declared.tables.CallRec.CallRec, declared.tables.Leg.Leg}
use Rattle.mesh_rules.specs.{declared.events.MeshEvent.MeshEvent, Calls.{call_with, names}, Events.{IsRun, after}, Legs.find_leg, LocalNodes.{fibre_in, fibre_out}, Machine.{Mesh, start}, Quiet.IsQuiet}
use Rattle.lsp_laws.specs.{CallLaw.{FitsLegs, IsNamed}, HopLaw.leg_at, ReportLaw.{StandsTo, is_reported, is_standing, place_at, reports_of}}
use Rattle.lsp_laws.proofs.{nodes.CallParts.{is-lsp, lsp-is, names-back, names-work}, nodes.NodeLaws.every_call, hops.NamedPhases.named_is}
use Rattle.mesh_laws.proofs.{reports.Desks.every_desk_tells, reports.ReportLaws.every_report_tells, restoration.Called.call-is, restoration.Reported.reported-cut, restoration.Steps.goes-on, rested.Alike.leg-there, rested.Rested.{Routed, rests, rests-stands, routed}}
use Rattle.mesh_laws.specs.RestedLaw.{CallReportsAreTrue, EveryReportIsTrueAtRest, ReportsAreTrue}

standing : (o : Option Leg) (g h : Leg) → o ≡ Some h → h.phase ≡ g.phase → is_standing (Some g) ≡ true →
    is_standing o ≡ true
standing o g h here same stands = rw (here, same) stands

module _ (t : Network) (events : List MeshEvent) (valid : IsTopology t) (run : IsRun t start events)
    (quiet : IsQuiet (after t start events)) where
  abbrev s : Mesh
  s = after t start events

  module _ (n : ℕ) (c : CallRec) (there : Contains ((after t start events).nodes n).calls c) (l : Lsp)
      (ingress : l.ingress.0 ≡ n) (g : Leg) (here : find_leg l ((after t start events).nodes n).legs ≡ Some g)
      (named : names l c ≡ true) where
    at-ingress : leg_at (after t start events) l l.ingress ≡ Some g
    at-ingress = subst (λ m. find_leg l ((after t start events).nodes m).legs ≡ Some g) (sym ingress) here

    its : Routed t events run quiet l
    its = routed t events run quiet l l.ingress g at-ingress

    stands : is_standing (Some g) ≡ true
    stands = rw (rests-stands g.phase (rests t events run quiet l l.ingress g at-ingress)) refl

    stands-to : (i : ℕ) → i ≤ length its.route → StandsTo (after t start events) l its.route its.end i
    stands-to i most j less =
        let h = leg-there t s quiet its.role l its.route its.end its.fits l.ingress g at-ingress j
        (omega (arith, most, less)) in
        standing (leg_at s l (place_at its.route its.end j)) g h.0 h.1 h.2 stands

    called : call_with l (s.nodes l.ingress.0).calls ≡ Some c
    called =
        subst (λ m. call_with l ((after t start events).nodes m).calls ≡ Some c) (sym ingress)
        (call-is n ((after t start events).nodes n) l g c (every_call t events run n) there named ingress here
        (rests-stands g.phase (rests t events run quiet l l.ingress g at-ingress)))

    pub told-truly : ReportsAreTrue t events l (reports_of l c)
    told-truly route sent i hop k at found =
        let same : its.route ≡ route = (let x = its.sent in cc (x, sent)) in
        let on_it : slice_get its.route i ≡ Some hop = subst (λ r. slice_get r i ≡ Some hop) (sym same) at in
        let on = goes-on t l.ingress its.end its.route its.fits.leads i hop k on_it found in
        let step = its.fits.hops i hop on_it in
        let link : step.link ≡ k = (let x = step.found in cc (x, found)) in
        let fibre : fibre_out k hop.node ≡ fibre_in k (place_at its.route its.end (suc i)) =
        subst (λ m. fibre_out m hop.node ≡ fibre_in m (place_at its.route its.end (suc i))) link
        (step.fits.fibre ∙ ap (fibre_in step.link) (sym (subst (λ m. place_at its.route its.end (suc i) ≡ other_end m hop.node) (sym link) on.far))) in
        let cut = reported-cut t events quiet (every_desk_tells t events valid run)
        (every_report_tells t events valid run) its.end l g at-ingress (its.fits.ends l.ingress g at-ingress) its.route
        its.sent its.fits.leads (λ j below. stands-to (suc j) below) i hop k on_it found in
        ap (has_fibre (reports_of l c)) fibre
        ∙ ap (λ o. is_reported l (fibre_in k (place_at its.route its.end (suc i))) o) (sym called) ∙ cut

  call-told : (n : ℕ) (c : CallRec) → Contains ((after t start events).nodes n).calls c →
      FitsLegs n ((after t start events).nodes n).lsp ((after t start events).nodes n).legs c →
      CallReportsAreTrue t events c
  call-told n c there fit = record { work = work; back = back }
    where
      named-work : (l : Lsp) → c.work ≡ Some l → IsNamed n (s.nodes n).lsp (s.nodes n).legs Work c.egress l
      named-work l is = named_is n _ _ Work c.egress c.work l fit.work is

      named-back : (l : Lsp) → c.back ≡ Some l → IsNamed n (s.nodes n).lsp (s.nodes n).legs Back c.egress l
      named-back l is = named_is n _ _ Back c.egress c.back l fit.back is

      work : (l : Lsp) → c.work ≡ Some l → ReportsAreTrue t events l c.work_reports
      work l is =
          let named = named-work l is in
          let mine : reports_of l c ≡ c.work_reports = rw (is-lsp c.work l is) refl in
          subst (ReportsAreTrue t events l) mine
          (told-truly n c there l named.ingress named.leg.0 named.leg.1 (names-work c l is))

      other : (l : Lsp) → c.back ≡ Some l → (b : Bool) → is_lsp c.work l ≡ b → b ≡ false
      other l is false e = refl
      other l is true e =
          let back = (named-back l is).leg in
          let work = (named-work l (lsp-is c.work l e)).leg in
          let one : work.0 ≡ back.0 = (let x = work.1 in let y = back.1 in cc (x, y)) in
          let roles : Work ≡ Back = sym work.2 ∙ ap (λ (g : Leg). g.role) one ∙ back.2 in
          absurd (cc roles)

      back : (l : Lsp) → c.back ≡ Some l → ReportsAreTrue t events l c.back_reports
      back l is =
          let named = named-back l is in
          let mine : reports_of l c ≡ c.back_reports = rw (other l is (is_lsp c.work l) refl) refl in
          subst (ReportsAreTrue t events l) mine
          (told-truly n c there l named.ingress named.leg.0 named.leg.1 (names-back c l is))

-- over every topology and every run
pub every_report_true : EveryReportIsTrueAtRest
every_report_true t events valid run quiet n i d small =
    let calls = ((after t start events).nodes n).calls in
    call-told t events valid run quiet n (get_or calls i d) (Contains-get_or calls i d small)
    ((every_call t events run n).calls i d small)
