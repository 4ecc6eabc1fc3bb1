-- A guarded call that is hit has turned within so many sweeps, of either kind.
use Rattle.std.proofs.Common.{◌≡◌, ◌≤◌, ℕ, suc, ◌+◌, true, List, [], ◌∷◌, ◌++◌, length, arith, inl, inr}
use Rattle.std.specs.Prelude.{Some}
use Rattle.ason_base.specs.{Network.{IsTopology, Network}, declared.commands.Command.TheVariants.Fail, declared.commands.DeskItem.DeskItem, declared.commands.Group.Group, declared.ids.CallNo.CallNo, declared.messages.Msg.Msg, declared.tables.CallRec.CallRec}
use Rattle.mesh_rules.specs.{declared.events.MeshEvent.MeshEvent, declared.events.MeshEvent.TheVariants.Post, Calls.find_call, Events.{IsRun, after}, Machine.{Mesh, start}}
use Rattle.lsp_laws.proofs.hops.Plans.{hops}
use Rattle.mesh_laws.specs.{InOrderLaw.late_to_cut, RestorationLaw.{is_guarded, is_lsp_hit}, SoonLaw.{IsStruck, hops_to_cut}, Sweeps.{AreSoMany, AreSweeps, AreSweepsInOrder, IsSweep, IsSweepInOrder, late}}
use Rattle.mesh_laws.proofs.{soon.Activating.CallHasTurned, soon.Delays.{AreDelays, late-delays, late-once, next-delays, next-down, next-up, there_and_back, up_from}, soon.HitCall.{alarm, back-route, cut, fixed, good, roles, work-route}, soon.InOrder.ordered-once, soon.Noticed.{SaysFailure, IsTheAlarm, failure-nears, failure_goal, turned-soon}, soon.Roles.{Fixed, Roles}, soon.RouteNodes.{IsNodeNumber, route-node}, soon.Soon.{Once, swept-once, to_the_next}}

-- Where the failure is told, or the activation is under way, there is a node.
module _ (t : Network) (valid : IsTopology t) (delay : ℕ → ℕ → ℕ) (r : Roles) (fixed : Fixed t r) where
  told-node : (j u d : ℕ) (m : Msg) → SaysFailure delay r j u d m → IsNodeNumber t d
  told-node j u d m (inl is) =
      rw (is.to) (route-node t valid r.work.ingress r.work_plan fixed.work_route is.at
      (let small = fixed.within in let most = is.below in omega (arith, small, most)))
  told-node j u d m (inr (inl is)) =
      rw (is.to) (route-node t valid r.back.ingress r.back_plan fixed.back_route (suc is.place)
      (let small = is.below in omega (arith, small)))
  told-node j u d m (inr (inr is)) =
      rw (is.to) (route-node t valid r.back.ingress r.back_plan fixed.back_route is.place
      (let small = is.below in omega (arith, small)))

  alarm-node : (j n : ℕ) (i : DeskItem) → IsTheAlarm delay r j n i → IsNodeNumber t n
  alarm-node j n i is =
      rw (is.at) (route-node t valid r.work.ingress r.work_plan fixed.work_route (suc r.place)
      (let small = fixed.within in omega (arith, small)))

module _ (t : Network) (valid : IsTopology t) (events : List MeshEvent) (run : IsRun t start events) (g : Group)
    (struck : IsStruck t events g) (n : ℕ) (m : CallNo) (c : CallRec)
    (found : find_call m ((after t start struck.before).nodes n).calls ≡ Some c)
    (guarded : is_guarded ((after t start struck.before).nodes n) c ≡ true)
    (hit : is_lsp_hit t (struck.before ++ Post (Fail g) ∷ []) c.work ≡ true) where
  abbrev s : Mesh
  s = after t start (struck.before ++ Post (Fail g) ∷ [])

  abbrev r : Roles
  r = roles t valid events run g struck n m c found guarded hit

  stays : Fixed t r
  stays = fixed t valid events run g struck n m c found guarded hit

  turned-by : (delay : ℕ → ℕ → ℕ) → AreDelays delay → (Sweep : Mesh → List MeshEvent → Type 0) →
      Once t (failure_goal t delay r) Sweep → (k : ℕ) →
      AreSoMany Sweep t k (after t start (struck.before ++ Post (Fail g) ∷ [])) struck.since →
      1 + up_from delay r.work_plan (suc r.place) + there_and_back delay r.back_plan ≤ k →
      CallHasTurned r.ingress m (after t (after t start (struck.before ++ Post (Fail g) ∷ [])) struck.since)
  turned-by delay delays Sweep once k sweeps enough =
      let stands = alarm t valid events run g struck n m c found guarded hit in
      turned-soon t delay delays r stays Sweep once k s struck.since sweeps
      (good t valid events run g struck n m c found guarded hit) stands.0 stands.1 enough

  -- One sweep for the alarm, one for each hop to the nearest cut, and two for each hop of the backup: then it has turned.
  pub turned-in-time : (k : ℕ) → AreSweeps t k (after t start (struck.before ++ Post (Fail g) ∷ [])) struck.since →
      (1 + hops_to_cut t (after t start (struck.before ++ Post (Fail g) ∷ [])).failed
      (work-route t valid events run g struck n m c found guarded hit).0)
      + (length (back-route t valid events run g struck n m c found guarded hit).0
      + length (back-route t valid events run g struck n m c found guarded hit).0) ≤ k →
      CallHasTurned (record { 0 = n }) m (after t (after t start (struck.before ++ Post (Fail g) ∷ [])) struck.since)
  turned-in-time k sweeps enough =
      let far = (cut t valid events run g struck n m c found guarded hit).far in
      let up = next-up r.work_plan (suc r.place) in
      let down = next-down r.back_plan (hops r.back_plan) in
      let back = next-up r.back_plan (hops r.back_plan) in
      turned-by to_the_next next-delays IsSweep
      (swept-once t (failure_goal t to_the_next r) (failure-nears t to_the_next next-delays r stays)) k sweeps
      (omega (arith, enough, far, up, down, back))

  -- In order: one for the alarm, one for each late hop to the nearest cut, and one for each hop of the backup.
  pub turned-in-order : (k : ℕ) →
      AreSweepsInOrder t k (after t start (struck.before ++ Post (Fail g) ∷ [])) struck.since →
      (1 + late_to_cut t (after t start (struck.before ++ Post (Fail g) ∷ [])).failed c.egress
      (work-route t valid events run g struck n m c found guarded hit).0)
      + length (back-route t valid events run g struck n m c found guarded hit).0 ≤ k →
      CallHasTurned (record { 0 = n }) m (after t (after t start (struck.before ++ Post (Fail g) ∷ [])) struck.since)
  turned-in-order k sweeps enough =
      let up = (cut t valid events run g struck n m c found guarded hit).late_hops c.egress in
      let back = late-once t r.back.ingress r.back_plan stays.back_route (hops r.back_plan) (omega arith) in
      turned-by late late-delays (IsSweepInOrder t)
      (ordered-once t (failure_goal t late r) (failure-nears t late late-delays r stays)
      (told-node t valid late r stays) (alarm-node t valid late r stays) valid) k sweeps
      (omega (arith, enough, up, back))
