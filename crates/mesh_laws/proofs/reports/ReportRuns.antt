-- What the reports of each LSP tell is what is known, in every state of every run.
use Rattle.std.proofs.Common.{◌≡◌, ◌≢◌, ◌<◌, ℕ, suc, Bool, true, false, cond, nat_eq, List, [], ◌∷◌, drop, refl, sym, ap, ◌∙◌, subst, arith, inl, inr}
use Rattle.std.specs.Prelude.{◌&&◌, Option, Some, None}
use Rattle.ason_base.specs.{Lsps.has_fibre, Network.Network, Routes.{is_end, makes_route, route_end}, declared.ids.CallNo.CallNo, declared.ids.Lsp.Lsp, declared.ids.NodeId.NodeId, declared.messages.Msg.Msg, declared.steps.Step.Step, declared.tables.CallRec.CallRec, declared.tables.Leg.Leg}
use Rattle.ason_base.proofs.{Numbers.number-back, Bools.and-left, JoinedEnds.same-node}
use Rattle.mesh_rules.specs.{declared.events.MeshEvent.MeshEvent, declared.events.MeshEvent.TheVariants.{Take, Desk, Tick, Learn, Post}, Calls.{calls_changed, find_call, names}, Changes.Answer, Events.{IsRun, after, first_route, is_enabled, on_first, on_first_item, or_route, route_of, sent_at_ingress, step}, Legs.find_leg, LocalNodes.local_node, Machine.{Mesh, commit, without_first, without_item}, State.NodeState, Waits.on_tick}
use Rattle.lsp_laws.specs.{CallLaw.FitsLegs, HopLaw.{is_notice_of, leg_at, notices_between, notices_of}, ReportLaw.{reports_of, told_by_all}}
use Rattle.lsp_laws.proofs.{nodes.CallParts.named-by, nodes.Facts.MeshFacts, nodes.NodeRuns.facts-step, hops.HopLaws.step_facts, hops.Notices.ComesUp, hops.Planned.{Follows, IsLspUntouched, Planned, Routes, or_assoc, or_none}, hops.Plans.{Plan, distinct, fibre_at, hops, link_at, node_at, plan}, hops.Purposes.{Each, Purpose}, hops.Run.{Carried, step_carries, step_routes}, hops.Views.{leg-there, notices-else}, hops.NamedPhases.named_is}
use Rattle.mesh_laws.proofs.{reports.GentleWords.{CallOf, RouteTold}, reports.NewCalls.first-new, reports.NewOrders.first_item-new, reports.OwnNotices.LowFirst, reports.Steps.step-told, reports.Ticks.tick-new}

-- An LSP that a step begins

-- no call has an LSP of which nothing stands
untouched-unnamed : (t : Network) (s : Mesh) (l : Lsp) → MeshFacts t s → IsLspUntouched s l → (n : NodeId) (k : CallNo)
    (c : CallRec) → find_call k (s.nodes n.0).calls ≡ Some c → names l c ≡ false
untouched-unnamed t s l facts blank n k c found = go (names l c) refl
  where
    fit : FitsLegs n.0 (s.nodes n.0).lsp (s.nodes n.0).legs c
    fit = (facts.node n.0).call k c found

    leg : names l c ≡ true → (g : Leg) × (find_leg l (s.nodes n.0).legs ≡ Some g)
    leg named = elim (named-by c l named) [
      | inl is ↦ (let x = (named_is n.0 (s.nodes n.0).lsp (s.nodes n.0).legs _ c.egress c.work l fit.work is).leg in
          (x.0, x.1))
      | inr is ↦ (let x = (named_is n.0 (s.nodes n.0).lsp (s.nodes n.0).legs _ c.egress c.back l fit.back is).leg in
          (x.0, x.1))
    ]

    go : (b : Bool) → names l c ≡ b → b ≡ false
    go false e = refl
    go true e = absurd (let there = leg e in let some = there.1 in let none = blank.legs n in cc (some, none))

none-up : (P : Msg → Type 0) (ms : List Msg) → Each P ms → ((m : Msg) → P m → ⊥) → ms ≡ []
none-up P [] each never = refl
none-up P (m ∷ ms) each never = absurd (never m each.0)

-- the state after an answer of the node n, where the LSP begins; nothing of it stood before
module _ (t : Network) (s x : Mesh) (n : NodeId) (a : Answer) (l : Lsp)
    (same-nodes : x.nodes ≡ s.nodes) (bare : (m : NodeId) → leg_at x l m ≡ None)
    (quiet : (b c : NodeId) → notices_between x l b c ≡ []) (here : l.ingress.0 ≡ n.0)
    (fresh : (k : CallNo) (c : CallRec) → find_call k (calls_changed a.calls (s.nodes n.0).calls) ≡ Some c →
    names l c ≡ true → reports_of l c ≡ [])
    (o : Routes) (q : Purpose) (p : Plan) (pl : Planned t (commit x n.0 a) o l q p) where
  abbrev later : Mesh
  later = commit x n.0 a

  far : (j : ℕ) → j < hops p → (node_at p (suc j)).0 ≢ n.0
  far j small e =
      distinct t l.ingress p pl.route (suc j) 0 (omega arith) (omega arith) (omega arith)
      (e ∙ sym here ∙ ap (λ (m : NodeId). m.0) (sym pl.route.first))

  gone : (j : ℕ) → j < hops p → leg_at later l (node_at p (suc j)) ≡ None
  gone j small = leg-there x n (node_at p (suc j)) l a (far j small) ∙ bare (node_at p (suc j))

  silent : (b c : NodeId) → notices_between later l b c ≡ []
  silent b c = go (nat_eq b.0 n.0) refl
    where
      go : (y : Bool) → nat_eq b.0 n.0 ≡ y → notices_between later l b c ≡ []
      go false e =
          let apart : b.0 ≢ n.0 = grind arith in
          notices-else x n b c l a apart ∙ quiet b c
      go true e =
          let at : b.0 ≡ n.0 = grind arith in
          none-up (ComesUp p b c) (notices_between later l b c) (pl.notices b c)
          (λ m up. far up.place up.below (sym up.from ∙ at))

  report : (c : CallRec) → CallOf later l c → reports_of l c ≡ []
  report c of = fresh c.call c at-n of.named
    where
      same : (k : ℕ) → nat_eq k k ≡ true
      same k = grind arith

      at-n : find_call c.call (calls_changed a.calls (s.nodes n.0).calls) ≡ Some c
      at-n =
          let at : find_call c.call (later.nodes n.0).calls ≡ Some c =
          subst (λ k. find_call c.call (later.nodes k).calls ≡ Some c) here of.found in
          let now : find_call c.call (calls_changed a.calls (x.nodes n.0).calls) ≡ Some c = (rw (same n.0) at at) in
          subst (λ (ns : ℕ → NodeState). find_call c.call (calls_changed a.calls (ns n.0).calls)
          ≡ Some c) same-nodes now

  pub begun-told : RouteTold t later l p
  begun-told = record {
    tells = λ i small stands c of. (
        let stand = stands (suc i) (omega arith) in
        absurd (let none = gone i small in (let h = (rw none at stand) in cc h)));
    first = λ i small stands sent. record {
      gone = λ j after below. gone j below;
      untold = λ j after below. record {
        notices = λ b c. ap (told_by_all (node_at p (suc j)) (link_at p j)) (silent b c);
        report = λ c of. ap (λ fs. has_fibre fs (fibre_at t p j)) (report c of);
      };
    };
  }

-- One step

-- where each LSP with its route stands, its reports tell what is known
abbrev pub AllTold : Network → Mesh → Routes → Type 0
AllTold t s o =
    (l : Lsp) (route : List Step) (e : NodeId) (q : Purpose) → o l ≡ Some route → Planned t s o l q (plan route e) →
    RouteTold t s l (plan route e)

-- a route has one end
pub one-end : (t : Network) (from a b : NodeId) (route : List Step) → makes_route t from a route ≡ true →
    makes_route t from b route ≡ true → a ≡ b
one-end t from a b route first second =
    go (route_end t from route) (and-left _ _ first) (and-left _ _ second)
  where
    go : (o : Option NodeId) → is_end o a ≡ true → is_end o b ≡ true → a ≡ b
    go None x y = absurd (cc x)
    go (Some n) x y =
        let p : n.0 ≡ a.0 = grind arith in
        let q : n.0 ≡ b.0 = grind arith in
        same-node a b (sym p ∙ q)

less-notices : (l : Lsp) (ms : List Msg) → notices_of l ms ≡ [] → notices_of l (drop 1 ms) ≡ []
less-notices l [] none = none
less-notices l (m ∷ ms) none = go (is_notice_of l m) none
  where
    go : (b : Bool) → cond b (m ∷ notices_of l ms) (notices_of l ms) ≡ [] → notices_of l ms ≡ []
    go true e = absurd (cc e)
    go false e = e

taken-quiet : (s : Mesh) (u d : NodeId) (l : Lsp) → IsLspUntouched s l → (b c : NodeId) →
    notices_between (without_first s u.0 d.0) l b c ≡ []
taken-quiet s u d l blank b c = go (nat_eq b.0 u.0 && nat_eq c.0 d.0)
  where
    go : (x : Bool) → notices_of l (cond x (drop 1 (s.mail b.0 c.0)) (s.mail b.0 c.0)) ≡ []
    go true = less-notices l (s.mail b.0 c.0) (blank.notices b c)
    go false = blank.notices b c

module _ (t : Network) (low : LowFirst t) (s : Mesh) (o : Routes) (facts : MeshFacts t s) (carried : Carried t s o)
    (told : AllTold t s o) where
  module _ (l : Lsp) (route : List Step) (end : NodeId) (q : Purpose) where
    -- it was begun before
    went-on : (e : MeshEvent) → is_enabled t s e ≡ true → (r : List Step) → o l ≡ Some r → Some r ≡ Some route →
        Follows t s o l (Some r) →
        Planned t (step t s e) (step_routes t s e o) l q (plan route end) → RouteTold t (step t s e) l (plan route end)
    went-on e enabled r was is (end', q', pl) later =
        let one : r ≡ route = cc is in
        let made : makes_route t l.ingress end' route ≡ true =
        subst (λ x. makes_route t l.ingress end' x ≡ true) one pl.made in
        let ends : end' ≡ end = one-end t l.ingress end' end route made later.made in
        subst (λ x. RouteTold t (step t s e) l (plan x end)) one
        (subst (λ y. RouteTold t (step t s e) l (plan r y)) ends
        (step-told t low s o facts l q' r end' pl (told l r end' q' was pl) e enabled))

    unnamed : IsLspUntouched s l → (n : NodeId) (k : CallNo) (c : CallRec) →
        find_call k (s.nodes n.0).calls ≡ Some c → names l c ≡ false
    unnamed blank n = untouched-unnamed t s l facts blank n

    -- it begins now
    begins : (e : MeshEvent) → IsLspUntouched s l → first_route l (sent_at_ingress t s e l) ≡ Some route →
        (x : Routes) → Planned t (step t s e) x l q (plan route end) → RouteTold t (step t s e) l (plan route end)
    begins (Take d u) blank sent x later = go (nat_eq d.0 l.ingress.0) refl sent
      where
        go : (b : Bool) → nat_eq d.0 l.ingress.0 ≡ b → first_route l (cond b (on_first (local_node t d) (s.nodes d.0) u
            (s.mail u.0 d.0)).sent []) ≡ Some route → RouteTold t (step t s (Take d u)) l (plan route end)
        go false e f = absurd (cc f)
        go true e f =
            let here : l.ingress.0 ≡ d.0 = number-back d.0 l.ingress.0 e in
            begun-told t s (without_first s u.0 d.0) d (on_first (local_node t d) (s.nodes d.0) u (s.mail u.0 d.0))
            l refl
            (λ m. blank.legs m) (taken-quiet s u d l blank) here
            (first-new (local_node t d) (s.nodes d.0) (facts.node d.0).calls_rise l (unnamed blank d) u
            (s.mail u.0 d.0))
            x q (plan route end) later
    begins (Desk n) blank sent x later = go (nat_eq n.0 l.ingress.0) refl sent
      where
        go : (b : Bool) → nat_eq n.0 l.ingress.0 ≡ b → first_route l (cond b (on_first_item (local_node t n)
            (s.nodes n.0) (s.desks n.0)).sent []) ≡ Some route → RouteTold t (step t s (Desk n)) l (plan route end)
        go false e f = absurd (cc f)
        go true e f =
            let here : l.ingress.0 ≡ n.0 = number-back n.0 l.ingress.0 e in
            begun-told t s (without_item s n.0) n (on_first_item (local_node t n) (s.nodes n.0) (s.desks n.0)) l refl
            (λ m. blank.legs m) (λ b c. blank.notices b c) here
            (first_item-new (local_node t n) (s.nodes n.0) (facts.node n.0).calls_rise l (unnamed blank n)
            (s.desks n.0))
            x q (plan route end) later
    begins (Tick n) blank sent x later = go (nat_eq n.0 l.ingress.0) refl sent
      where
        go : (b : Bool) → nat_eq n.0 l.ingress.0 ≡ b →
            first_route l (cond b (on_tick (local_node t n) (s.nodes n.0)).sent []) ≡ Some route →
            RouteTold t (step t s (Tick n)) l (plan route end)
        go false e f = absurd (cc f)
        go true e f =
            let here : l.ingress.0 ≡ n.0 = number-back n.0 l.ingress.0 e in
            begun-told t s s n (on_tick (local_node t n) (s.nodes n.0)) l refl (λ m. blank.legs m)
            (λ b c. blank.notices b c) here
            (tick-new (local_node t n) (s.nodes n.0) (facts.node n.0) l (unnamed blank n))
            x q (plan route end) later
    begins (Learn n k) blank sent x later = absurd (cc sent)
    begins (Post c) blank sent x later = absurd (cc sent)

    one-told : (e : MeshEvent) → is_enabled t s e ≡ true → (c : Option (List Step)) → o l ≡ c → Follows t s o l c →
        or_route c (first_route l (sent_at_ingress t s e l)) ≡ Some route →
        Planned t (step t s e) (step_routes t s e o) l q (plan route end) → RouteTold t (step t s e) l (plan route end)
    one-told e enabled None was blank is later = begins e blank is (step_routes t s e o) later
    one-told e enabled (Some r) was follow is later = went-on e enabled r was is follow later

  pub step-all : (e : MeshEvent) → is_enabled t s e ≡ true → AllTold t (step t s e) (step_routes t s e o)
  step-all e enabled l route end q is later =
      one-told l route end q e enabled (o l) refl (carried.follows l) is later

-- Every run

same-told : (t : Network) (s : Mesh) (o o' : Routes) → ((l : Lsp) → o l ≡ o' l) → AllTold t s o → AllTold t s o'
same-told t s o o' same told = let all : o ≡ o' = λ i l. same l i in subst (AllTold t s) all told

pub told-run : (t : Network) → LowFirst t → (s : Mesh) (events : List MeshEvent) → IsRun t s events → MeshFacts t s →
    (o : Routes) → Carried t s o → AllTold t s o →
    AllTold t (after t s events) (λ l. or_route (o l) (route_of t s events l))
told-run t low s [] run facts o carried told =
    same-told t s o (λ l. or_route (o l) None) (λ l. sym (or_none (o l))) told
told-run t low s (e ∷ es) run facts o carried told =
    same-told t (after t (step t s e) es) _ _
    (λ l. or_assoc (o l) (first_route l (sent_at_ingress t s e l)) (route_of t (step t s e) es l))
    (told-run t low (step t s e) es run.1 (facts-step t s e run.0 facts) (step_routes t s e o)
    (step_carries t s e o run.0 (step_facts t s facts) carried) (step-all t low s o facts carried told e run.0))
