-- A failure that is told: the alarm is handled, the Notify goes up to the ingress, and the call turns.
use Rattle.std.proofs.Common.{◌≡◌, ◌≤◌, ◌<◌, ◌⊎◌, ℕ, zero, suc, ◌+◌, Bool, true, false, List, [], ◌∷◌, refl, sym, ◌∙◌, ap, subst, arith, inl, inr}
use Rattle.std.specs.{Prelude.Some, List.AllByRecursion}
use Rattle.ason_base.specs.{Lsps.has_fibre, Network.Network, declared.commands.DeskItem.DeskItem, declared.commands.DeskItem.TheVariants.Alarm, declared.ids.Fibre.Fibre, declared.ids.NodeId.NodeId, declared.messages.Msg.Msg, declared.messages.Msg.TheVariants.Notify, declared.tables.CallRec.CallRec}
use Rattle.mesh_rules.specs.{declared.events.MeshEvent.MeshEvent, declared.events.MeshEvent.TheVariants.{Take, Desk}, Calls.{call_with, find_call}, Events.{after, step}, LocalNodes.fibre_in, Machine.Mesh, Reports.reported, Turns.has_any}
use Rattle.mesh_nodes.proofs.LegList.{same_lsp-refl}
use Rattle.lsp_laws.specs.{HopLaw.leg_at, HopShapes.{ArmedLeg, leg_kind}, ReportLaw.{is_reported, reports_of, told_over}}
use Rattle.lsp_laws.proofs.{hops.Chain.LegFitsPlan, hops.Plans.{hops, link_at, node_at}, hops.Purposes.Purpose}
use Rattle.mesh_laws.specs.{AloneLaw.{is_refusal, sent_in}, Sweeps.{AreSoMany, handles_one, takes_one}}
use Rattle.mesh_laws.proofs.{reports.ReportLaws.place-is, soon.Activated.activation-nears, soon.Armed.armed-soon, soon.OneHop.notice-passes, soon.Soon.{ByDesk, ByMail, AllGood, Goal, IsDone, Nears, Once, Within, nearer, reached}, soon.Swept.StandsIn, soon.CallGoesOn.CallBecame, soon.Delays.{AreDelays, there_and_back, up-straight, up_from}, soon.Activating.{CallHasTurned, SaysActivation, turning_goal}, soon.Notices.{FoundReport, HasTrue, Reports, find-report, on-some, told-true}, soon.ReportComes.report-comes, soon.Roles.{CallIs, Fixed, IsTurned, IsTurning, Roles, Scene, Waits}, soon.Words.{desk-is, take-is}}

-- How far it is

-- a Notify of the fibre after the place comes to place j of the working route
pub record ComesToIngress (delay : ℕ → ℕ → ℕ) (r : Roles) (j u d : ℕ) (m : Msg) : Type 0 where
  pub at : ℕ
  pub below : at ≤ r.place
  pub reports : Reports r.work (node_at r.work_plan (suc r.place)) (link_at r.work_plan r.place) m
  pub from : u ≡ (node_at r.work_plan (suc at)).0
  pub to : d ≡ (node_at r.work_plan at).0
  pub left : j ≡ up_from delay r.work_plan at + there_and_back delay r.back_plan

abbrev pub SaysFailure : (ℕ → ℕ → ℕ) → Roles → ℕ → ℕ → ℕ → Msg → Type 0
SaysFailure delay r j u d m = ComesToIngress delay r j u d m ⊎ SaysActivation delay r.back_plan r.back j u d m

-- the fibre that fails
abbrev pub fibre_of : Roles → Fibre
fibre_of r = fibre_in r.link (node_at r.work_plan (suc r.place))

-- its alarm is on the desk of its node
pub record IsTheAlarm (delay : ℕ → ℕ → ℕ) (r : Roles) (j n : ℕ) (i : DeskItem) : Type 0 where
  pub is : i ≡ Alarm (fibre_of r)
  pub at : n ≡ (node_at r.work_plan (suc r.place)).0
  pub left : j ≡ up_from delay r.work_plan (suc r.place) + there_and_back delay r.back_plan

-- what holds of a state and of the event that comes there
pub record GoodHere (t : Network) (r : Roles) (s : Mesh) (e : MeshEvent) : Type 0 where
  pub here : Scene t r s
  pub next : Scene t r (step t s e)
  pub none_refused : AllByRecursion (λ o. is_refusal o.msg ≡ false) (sent_in t s e)
  -- it stays turned, where it is
  pub goes_on : (c d : CallRec) → find_call r.call (s.nodes r.ingress.0).calls ≡ Some c →
      find_call r.call ((step t s e).nodes r.ingress.0).calls ≡ Some d → CallBecame c d
  -- an alarm that is handled is known
  pub alarmed : (rest : List DeskItem) → e ≡ Desk (node_at r.work_plan (suc r.place)) →
      s.desks (node_at r.work_plan (suc r.place)).0 ≡ Alarm (fibre_of r) ∷ rest →
      has_fibre ((step t s e).nodes (node_at r.work_plan (suc r.place)).0).down (fibre_of r) ≡ true

-- that the call has turned
abbrev pub failure_goal : Network → (ℕ → ℕ → ℕ) → Roles → Goal
failure_goal t delay r = record {
  Good = GoodHere t r;
  Done = CallHasTurned r.ingress r.call;
  Says = SaysFailure delay r;
  Tells = IsTheAlarm delay r;
}

module _ (t : Network) (delay : ℕ → ℕ → ℕ) (delays : AreDelays delay) (r : Roles) (fixed : Fixed t r) where
  abbrev goal : Goal
  goal = failure_goal t delay r

  -- how long messages wait on the backup, there and back
  abbrev long : ℕ
  long = there_and_back delay r.back_plan

  -- and on the working route, up from a place
  abbrev up : ℕ → ℕ
  up i = up_from delay r.work_plan i

  abbrev turning : Purpose → Goal
  turning q = turning_goal t delay q r.back_plan r.back r.ingress r.call

  -- what is near in the activation is near
  from-activation : (q : Purpose) (waits : ℕ → ℕ) (k : ℕ) (s : Mesh) → Within (turning q) waits k s →
      Within goal waits k s
  from-activation q waits k s (IsDone done) = IsDone done
  from-activation q waits k s (ByMail j u d m before less says stands) = ByMail j u d m before less (inr says) stands
  from-activation q waits k s (ByDesk j n i before less tells stands) = absurd tells

  -- the ingress is the first node of either route
  ingress-is : node_at r.back_plan 0 ≡ node_at r.work_plan 0
  ingress-is = fixed.back_first ∙ sym fixed.work_first

  -- A call that knows of the failure turns, or has turned.
  settled : (s : Mesh) (scene : Scene t r s) → has_any scene.call.work_reports ≡ true →
      Within goal (delay (node_at r.work_plan 0).0) long s
  settled s scene hit = go scene.is
    where
      go : CallIs scene.call (leg_kind (leg_at s r.back (node_at r.back_plan 0)) ≡ ArmedLeg) →
          Within goal (delay (node_at r.work_plan 0).0) long s
      go (Waits is none) = absurd (cc (hit, none))
      go (IsTurning is armed) =
          subst (λ (x : NodeId). Within goal (delay x.0) long s) ingress-is
          (from-activation scene.back_for (delay (node_at r.back_plan 0).0) long s
          (armed-soon t delay delays scene.back_for r.back_plan r.back r.ingress r.call s scene.back_chain
          scene.uncontended armed))
      go (IsTurned is) = IsDone (record { call = scene.call; found = scene.found; state = is })

  any-of : (fibres : List Fibre) (f : Fibre) → has_fibre fibres f ≡ true → has_any fibres ≡ true
  any-of [] f e = absurd (cc e)
  any-of (g ∷ fibres) f e = refl

  work-reports : (s : Mesh) (scene : Scene t r s) → reports_of r.work scene.call ≡ scene.call.work_reports
  work-reports s scene = rw (scene.is_work, same_lsp-refl r.work) refl

  -- where the node knows of it the Notify is on its way, or it has come
  known-soon : (s : Mesh) (scene : Scene t r s) →
      has_fibre (s.nodes (node_at r.work_plan (suc r.place)).0).down (fibre_of r) ≡ true →
      Within goal (delay (node_at r.work_plan (suc r.place)).0) (up (suc r.place) + long) s
  known-soon s scene known =
      elim (told-true _ _ (scene.tells ∙ known)) [
        | inl reported ↦
            nearer goal (delay (node_at r.work_plan 0).0) (delay (node_at r.work_plan (suc r.place)).0) long
            (up (suc r.place) + long) s
            (λ v. let one = delays (node_at r.work_plan (suc r.place)).0 (node_at r.work_plan 0).0 v in
            let two = up-straight delay r.work_plan delays 0 (suc r.place) (omega arith) in omega (arith, one, two))
            (settled s scene (was-reported reported))
        | inr has ↦ on-way (on-some line (suc r.place) has)
      ]
    where
      line : ℕ → List Bool
      line = told_over s r.work r.work_plan.route r.work_plan.egress (node_at r.work_plan (suc r.place)) r.link.id

      was-reported : is_reported r.work (fibre_of r) (call_with r.work (s.nodes r.work.ingress.0).calls) ≡ true →
          has_any scene.call.work_reports ≡ true
      was-reported is =
          let named : call_with r.work (s.nodes r.work.ingress.0).calls ≡ Some scene.call =
          subst (λ (x : NodeId). call_with r.work (s.nodes x.0).calls ≡ Some scene.call) (sym fixed.work_here)
          scene.named_work in
          let there : has_fibre (reports_of r.work scene.call) (fibre_of r) ≡ true = rw named at is in
          any-of scene.call.work_reports (fibre_of r)
          (subst (λ fs. has_fibre fs (fibre_of r) ≡ true) (work-reports s scene) there)

      on-way : (j : ℕ) × (j < suc r.place) × HasTrue (line j) →
          Within goal (delay (node_at r.work_plan (suc r.place)).0) (up (suc r.place) + long) s
      on-way (j, small, has) =
          let near = place-is r.work_plan.route r.work_plan.egress j in
          let far = place-is r.work_plan.route r.work_plan.egress (suc j) in
          let f : FoundReport r.work (node_at r.work_plan (suc r.place)) r.link.id
          (s.mail (node_at r.work_plan (suc j)).0 (node_at r.work_plan j).0) =
          find-report r.work (node_at r.work_plan (suc r.place)) r.link.id
          (s.mail (node_at r.work_plan (suc j)).0 (node_at r.work_plan j).0) (rw (near, far) at has) in
          let straight = up-straight delay r.work_plan delays j (suc r.place) small in
          ByMail (up j + long) (node_at r.work_plan (suc j)).0 (node_at r.work_plan j).0 f.msg f.before
          (omega (arith, straight))
          (inl (record {
            at = j;
            below = omega (arith, small);
            reports = subst (λ k. Reports r.work (node_at r.work_plan (suc r.place)) k f.msg) fixed.over f.reports;
            from = refl;
            to = refl;
            left = refl;
          }))
          f.stands

  -- Each message and item

  -- a Notify is taken
  notice : (s : Mesh) (e : MeshEvent) (good : GoodHere t r s e) (i : ℕ) (m : Msg) → i ≤ r.place →
      Reports r.work (node_at r.work_plan (suc r.place)) (link_at r.work_plan r.place) m →
      e ≡ Take (node_at r.work_plan i) (node_at r.work_plan (suc i)) →
      StandsIn (s.mail (node_at r.work_plan (suc i)).0 (node_at r.work_plan i).0) m [] →
      Within goal (delay (node_at r.work_plan i).0) (up i + long) (step t s e)
  notice s e good zero m below reports is waits =
      let all : long ≡ up 0 + long = omega arith in
      subst (λ k. Within goal (delay (node_at r.work_plan 0).0) k (step t s e)) all
      (settled (step t s e) good.next
      (report-comes t r fixed s good.here m reports waits good.next.call
      (subst (λ x. find_call r.call ((step t s x).nodes r.ingress.0).calls ≡ Some good.next.call) is good.next.found)
      good.next.is_work))
  notice s e good (suc i) m below reports is waits =
      let scene = good.here in
      let leg = scene.stands (suc i) (let small = fixed.within in omega (arith, below, small)) in
      let small : suc i < hops r.work_plan = (let less = fixed.within in omega (arith, below, less)) in
      let fits : LegFitsPlan t scene.work_for r.work r.work_plan (suc i) leg.0 =
      (let any = scene.work_chain.fits (suc i) (omega (arith, small)) in rw (leg.1) at any) in
      let was = waits.all ∙ ap (λ x. x ∷ waits.later) reports.is in
      let on = notice-passes t scene.work_for s r.work r.work_plan i leg.0 fits small leg.1 leg.2 reports.egress
      (node_at r.work_plan (suc r.place)) (link_at r.work_plan r.place) reports.code true reports.down waits.later was in
      subst (λ x. Within goal (delay (node_at r.work_plan (suc i)).0) (up (suc i) + long) (step t s x)) (sym is)
      (ByMail (up i + long) (node_at r.work_plan (suc i)).0 (node_at r.work_plan i).0
      (Notify r.work reports.egress (node_at r.work_plan (suc r.place)) (link_at r.work_plan r.place) reports.code)
      on.0 (omega arith)
      (inl (record {
        at = i;
        below = omega (arith, below);
        reports = record { egress = reports.egress; code = reports.code; is = refl; down = reports.down };
        from = refl;
        to = refl;
        left = refl;
      }))
      on.1)

  says : (s : Mesh) (e : MeshEvent) (j u d : ℕ) (m : Msg) → GoodHere t r s e → SaysFailure delay r j u d m →
      takes_one u d e ≡ 1 → StandsIn (s.mail u d) m [] → Within goal (delay d) j (step t s e)
  says s e j u d m good (inl is) one waits =
      let taken : takes_one (node_at r.work_plan (suc is.at)).0 (node_at r.work_plan is.at).0 e ≡ 1 =
      rw (← is.from, ← is.to) one in
      subst (λ x. Within goal (delay x) j (step t s e)) (sym is.to)
      (subst (λ k. Within goal (delay (node_at r.work_plan is.at).0) k (step t s e)) (sym is.left)
      (notice s e good is.at m is.below is.reports
      (take-is (node_at r.work_plan (suc is.at)) (node_at r.work_plan is.at) e taken)
      (rw (is.from, is.to) at waits)))
  says s e j u d m good (inr is) one waits =
      from-activation good.here.back_for (delay d) j (step t s e)
      (activation-nears t delay good.here.back_for r.back_plan r.back r.ingress r.call fixed.back_route fixed.back_first s e j u d m
      (record {
        chain = good.here.back_chain;
        reserved = good.here.reserved;
        none_refused = good.none_refused;
        call = good.here.call;
        found = good.here.found;
        named = good.here.named_back;
        turning = good.here.turning;
        unhit = good.here.unhit;
      })
      is one waits)

  tells : (s : Mesh) (e : MeshEvent) (j n : ℕ) (i : DeskItem) → GoodHere t r s e → IsTheAlarm delay r j n i →
      handles_one n e ≡ 1 → StandsIn (s.desks n) i [] → Within goal (delay n) j (step t s e)
  tells s e j n i good alarm one waits =
      let at : NodeId = node_at r.work_plan (suc r.place) in
      let handled : handles_one (node_at r.work_plan (suc r.place)).0 e ≡ 1 = rw (← alarm.at) one in
      let stands : StandsIn (s.desks (node_at r.work_plan (suc r.place)).0) i [] = rw (alarm.at) at waits in
      subst (λ x. Within goal (delay x) j (step t s e)) (sym alarm.at)
      (subst (λ k. Within goal (delay (node_at r.work_plan (suc r.place)).0) k (step t s e)) (sym alarm.left)
      (known-soon (step t s e) good.next
      (good.alarmed stands.later (desk-is (node_at r.work_plan (suc r.place)) e handled)
      (stands.all ∙ ap (λ x. x ∷ stands.later) alarm.is))))

  stays : (s : Mesh) (e : MeshEvent) → GoodHere t r s e → CallHasTurned r.ingress r.call s →
      CallHasTurned r.ingress r.call (step t s e)
  stays s e good has = record {
    call = good.next.call;
    found = good.next.found;
    state = (good.goes_on has.call good.next.call has.found good.next.found).turned has.state;
  }

  -- Over each event the restoration gets nearer.
  pub failure-nears : Nears t delay (failure_goal t delay r)
  failure-nears = record { says = says; tells = tells; stays = stays }

  -- So within one sweep more than messages wait, up from the failure, and on the backup there and back, it has turned.
  pub turned-soon : (Sweep : Mesh → List MeshEvent → Type 0) → Once t (failure_goal t delay r) Sweep → (k : ℕ)
      (s : Mesh) (es : List MeshEvent) → AreSoMany Sweep t k s es → AllGood t (GoodHere t r) s es →
      (before : List DeskItem) →
      StandsIn (s.desks (node_at r.work_plan (suc r.place)).0) (Alarm (fibre_of r)) before →
      1 + up_from delay r.work_plan (suc r.place) + there_and_back delay r.back_plan ≤ k →
      CallHasTurned r.ingress r.call (after t s es)
  turned-soon Sweep once k s es sweeps good before stands enough =
      reached t delay (failure_goal t delay r) failure-nears Sweep once k s es sweeps good
      (ByDesk (up (suc r.place) + long) (node_at r.work_plan (suc r.place)).0 (Alarm (fibre_of r)) before
      (omega (arith, enough)) (record { is = refl; at = refl; left = refl }) stands)
