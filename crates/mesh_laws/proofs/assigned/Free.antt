-- Each event while a working LSP alone is set up over a route with free wavelengths: its messages and legs stay in order.
use Rattle.std.proofs.{Common.{◌≡◌, ◌<◌, ℕ, Bool, true, false, cond, nat_eq, List, [], ◌∷◌, ◌++◌, length, refl, sym, ap, ◌∙◌, subst, arith, Contains}, ByRecursion.All-append}
use Rattle.std.specs.{Prelude.{◌&&◌, Option, Some, None, slice_get, filter, map}, List.AllByRecursion}
use Rattle.mesh_rules.specs.{declared.limits.TheConstants.MOST_LEGS, declared.changes.LegChange.LegChange, declared.events.MeshEvent.MeshEvent, declared.events.MeshEvent.TheVariants.{Take, Desk, Tick, Learn, Post}, Changes.{Answer, changed, down_after}, Events.{has_first, is_enabled, on_first, step}, Learnt.on_link, Legs.{find_leg, legs_changed}, LocalNodes.{LocalNode, fibre_in, local_node}, Machine.{Mesh, commit, sent_to, without_first}, Messages.arrival, State.NodeState, Waits.on_tick}
use Rattle.ason_base.specs.{Lsps.same_lsp, Network.{IsTopology, Network, find_link, other_end}, declared.ids.CallNo.CallNo, declared.ids.Lsp.Lsp, declared.ids.NodeId.NodeId, declared.messages.Msg.Msg, declared.messages.Msg.TheVariants.{Path, Resv, PathTear, PathErr, Notify}, declared.messages.PathRole.TheVariants.{Work, Back}, declared.network.LinkSpec.LinkSpec, declared.steps.Step.Step, declared.tables.Leg.Leg, declared.tables.Out.Out}
use Rattle.mesh_nodes.proofs.{Cases.if_cases, LegList.{find-with_leg, found-lsp, same_lsp-refl}}
use Rattle.lsp_laws.specs.HopLaw.{leg_at}
use Rattle.lsp_laws.proofs.{hops.InParts.{leg_of_resv, leg_part}, hops.Planned.{EachFollows, Routes}, nodes.Facts.MeshFacts}
use Rattle.mesh_laws.specs.{RetryLaw.IsLeftAlone, SetupAloneLaw.AreWavelengths}
use Rattle.mesh_laws.proofs.{alone.Fine.all-drop, assigned.Only.{IsMsgOfLsp, message-down, message-legs, message-sent}, assigned.Tracks.IsErr, assigned.Setting.{Setting, tracked}, assigned.Well.{LegWell, NoLeg, OneLeg, SameElse, WellAnswer, WellLeg, WellMsg, well-path}, assigned.WellResv.well-resv, causes.Leads.path-leads, retried.Pending.{IsStill, still-link, still-tick}}

-- each message and each leg of the LSP is in order, and else nothing has changed since s
pub record WellMesh (t : Network) (s : Mesh) (l : Lsp) (route : List Step) (x : ℕ → ℕ) (now : Mesh) : Type 0 where
  pub mail : (u d : ℕ) → AllByRecursion (WellMsg t route x (record { 0 = d })) (now.mail u d)
  pub legs : (m : NodeId) (g : Leg) → leg_at now l m ≡ Some g → WellLeg t s m g
  pub else_same : SameElse s l now

sent-well : (P : NodeId → Msg → Type 0) (d : ℕ) (outs : List Out) → AllByRecursion (λ o. P o.to o.msg) outs →
    AllByRecursion (P (record { 0 = d })) (sent_to d outs)
sent-well P d [] all = tt
sent-well P d (o ∷ outs) all = go (nat_eq o.to.0 d) refl (sent-well P d outs all.1)
  where
    go : (b : Bool) → nat_eq o.to.0 d ≡ b → AllByRecursion (P (record { 0 = d })) (sent_to d outs) →
        AllByRecursion (P (record { 0 = d }))
        (map (λ (y : Out). y.msg) (cond b (o ∷ filter (λ (y : Out). nat_eq y.to.0 d) outs) (filter (λ (y : Out). nat_eq y.to.0 d) outs)))
    go true e more =
        let is : o.to ≡ record { 0 = d } = (let number : o.to.0 ≡ d = grind arith in λ i. record { 0 = number i }) in
        (subst (λ (m : NodeId). P m o.msg) is all.0, more)
    go false e more = more

-- A message that WellMsg allows is no refusal.
pub never-err : (t : Network) (route : List Step) (x : ℕ → ℕ) (d : NodeId) (m : Msg) → WellMsg t route x d m → IsErr m → ⊥
never-err t route x d (Path l e k rest set up (Work guard)) well err = err
never-err t route x d (Path l e k rest set up (Back active work primary)) well err = err
never-err t route x d (Resv l e k y) well err = err
never-err t route x d (PathTear l e k) well err = err
never-err t route x d (PathErr l e at gone code) well err = well
never-err t route x d (Notify l e at k code) well err = err

module _ (t : Network) (s : Mesh) (l : Lsp) (route : List Step) (x : ℕ → ℕ) (y : Mesh) (old : WellMesh t s l route x y)
    (d : NodeId) (a : Answer) (well : WellAnswer t s l route x d a) (down : a.down ≡ None) where
  leg-after : (cs : List LegChange) → LegWell t s l d cs → (g : Leg) →
      find_leg l (legs_changed cs (y.nodes d.0).legs) ≡ Some g → WellLeg t s d g
  leg-after _ NoLeg g here = old.legs d g here
  leg-after _ (OneLeg h own its) g here =
      let test : same_lsp h.lsp l ≡ true = subst (λ j. same_lsp j l ≡ true) (sym own) (same_lsp-refl l) in
      let there = find-with_leg h (y.nodes d.0).legs l ∙ ap (λ b. cond b (Some h) (find_leg l (y.nodes d.0).legs)) test in
      let is : h ≡ g = cc (there, here) in
      subst (WellLeg t s d) is its

  none-after : (cs : List LegChange) → LegWell t s l d cs → find_leg l (legs_changed cs (y.nodes d.0).legs) ≡ None →
      legs_changed cs (y.nodes d.0).legs ≡ (s.nodes d.0).legs
  none-after _ NoLeg none = old.else_same.legs d none
  none-after _ (OneLeg h own its) none =
      let test : same_lsp h.lsp l ≡ true = subst (λ j. same_lsp j l ≡ true) (sym own) (same_lsp-refl l) in
      let there = find-with_leg h (y.nodes d.0).legs l ∙ ap (λ b. cond b (Some h) (find_leg l (y.nodes d.0).legs)) test in
      absurd (cc (there, none))

  pub well-commit : WellMesh t s l route x (commit y d.0 a)
  well-commit = record {
    mail = λ u v. if_cases (AllByRecursion (WellMsg t route x (record { 0 = v }))) (nat_eq u d.0)
        (y.mail u v ++ sent_to v a.sent) (y.mail u v)
        (λ e. All-append (WellMsg t route x (record { 0 = v })) (y.mail u v) (sent_to v a.sent) (old.mail u v)
        (sent-well (WellMsg t route x) v a.sent well.sent))
        (λ e. old.mail u v);
    legs = λ m g here. leg m g (nat_eq m.0 d.0) refl here;
    else_same = record {
      legs = λ m none. same m (nat_eq m.0 d.0) refl none;
      down = λ m. still m (nat_eq m d.0);
    };
  }
    where
      leg : (m : NodeId) (g : Leg) (b : Bool) → nat_eq m.0 d.0 ≡ b →
          find_leg l (cond b (changed (y.nodes m.0) a) (y.nodes m.0)).legs ≡ Some g → WellLeg t s m g
      leg m g true e here =
          let is : m ≡ d = (let number : m.0 ≡ d.0 = grind arith in λ i. record { 0 = number i }) in
          subst (λ (j : NodeId). WellLeg t s j g) (sym is)
          (leg-after a.legs well.leg g
          (subst (λ (j : NodeId). find_leg l (legs_changed a.legs (y.nodes j.0).legs) ≡ Some g) is here))
      leg m g false e here = old.legs m g here

      same : (m : NodeId) (b : Bool) → nat_eq m.0 d.0 ≡ b →
          find_leg l (cond b (changed (y.nodes m.0) a) (y.nodes m.0)).legs ≡ None →
          (cond b (changed (y.nodes m.0) a) (y.nodes m.0)).legs ≡ (s.nodes m.0).legs
      same m true e none =
          let is : m ≡ d = (let number : m.0 ≡ d.0 = grind arith in λ i. record { 0 = number i }) in
          subst (λ (j : NodeId). find_leg l (legs_changed a.legs (y.nodes j.0).legs) ≡ None →
          legs_changed a.legs (y.nodes j.0).legs ≡ (s.nodes j.0).legs) (sym is)
          (none-after a.legs well.leg) none
      same m false e none = old.else_same.legs m none

      still : (m : ℕ) (b : Bool) → (cond b (changed (y.nodes m) a) (y.nodes m)).down ≡ (s.nodes m).down
      still m true = ap (λ fs. down_after fs (y.nodes m).down) down ∙ old.else_same.down m
      still m false = old.else_same.down m

pub well-taken : (t : Network) (s : Mesh) (l : Lsp) (route : List Step) (x : ℕ → ℕ) (now : Mesh) (u d : ℕ) →
    WellMesh t s l route x now → WellMesh t s l route x (without_first now u d)
well-taken t s l route x now u d old = record {
  mail = λ v w. if_cases (AllByRecursion (WellMsg t route x (record { 0 = w }))) (nat_eq v u && nat_eq w d) _ _
      (λ e. all-drop (WellMsg t route x (record { 0 = w })) (now.mail v w) (old.mail v w)) (λ e. old.mail v w);
  legs = old.legs;
  else_same = record { legs = old.else_same.legs; down = old.else_same.down };
}

module _ (t : Network) (valid : IsTopology t) (s : Mesh) (facts_then : MeshFacts t s) (l : Lsp)
    (new : (d : NodeId) (g : Leg) → leg_at s l d ≡ Some g → ⊥) (route : List Step) (x : ℕ → ℕ)
    (fits : AreWavelengths t s route x)
    (up : (i : ℕ) (hop : Step) (link : LinkSpec) → slice_get route i ≡ Some hop → find_link t hop.link ≡ Some link →
    Contains (s.nodes (other_end link hop.node).0).down (fibre_in link (other_end link hop.node)) → ⊥)
    (room : (m : ℕ) → length (s.nodes m).legs < MOST_LEGS) (k : CallNo) (n : NodeId) (ingress : l.ingress ≡ n)
    (now : Mesh)
    (facts : MeshFacts t now) (o : Routes) (follows : EachFollows t now o) (setting : Setting ⊥ t s l k n now)
    (well : WellMesh t s l route x now) where
  by-leg : (u d : NodeId) (m : Msg) (ms : List Msg) → now.mail u.0 d.0 ≡ m ∷ ms → WellMsg t route x d m →
      IsMsgOfLsp l m → WellAnswer t s l route x d (leg_part (local_node t d) (now.nodes d.0) u m)
  by-leg u d (Path j e i rest set up' (Work guard)) ms first its of =
      subst (λ q. WellAnswer t s l route x d (leg_part (local_node t d) (now.nodes d.0) u (Path q e i rest set up' (Work guard))))
      (sym of.0)
      (subst (λ b. WellAnswer t s l route x d (leg_part (local_node t d) (now.nodes d.0) u (Path l e i rest set b (Work guard))))
      (sym its.0)
      (well-path t valid s facts_then l new route x fits up room now facts setting.only well.else_same d u e i rest set guard its.1
      (path-leads t now o follows u d e j i rest set up' (Work guard) ms first) (find_leg l (now.nodes d.0).legs) refl))
  by-leg u d (Path j e i rest set up' (Back active work primary)) ms first its of = absurd its
  by-leg u d (Resv j e i y) ms first its of =
      subst (λ q. WellAnswer t s l route x d (leg_part (local_node t d) (now.nodes d.0) u (Resv q e i y))) (sym of.0)
      (go (find_leg l (now.nodes d.0).legs) refl)
    where
      go : (g : Option Leg) → find_leg l (now.nodes d.0).legs ≡ g →
          WellAnswer t s l route x d (leg_of_resv (local_node t d) (now.nodes d.0) (arrival l e u i) y g)
      go None here = record { leg = NoLeg; sent = tt }
      go (Some g) here = well-resv t s l route x now facts setting.only d g here (well.legs d g here) (arrival l e u i) y
  by-leg u d (PathTear j e i) ms first its of = absurd its
  by-leg u d (PathErr j e at gone code) ms first its of = absurd its
  by-leg u d (Notify j e at i code) ms first its of = absurd its

  never : (u d : NodeId) (m : Msg) (ms : List Msg) → now.mail u.0 d.0 ≡ m ∷ ms → IsErr m → ⊥
  never u d m ms first err =
      let all : AllByRecursion (WellMsg t route x d) (m ∷ ms) = subst (AllByRecursion (WellMsg t route x d)) first (well.mail u.0 d.0) in
      never-err t route x d m all.0 err

  first-well : (u d : NodeId) (ms : List Msg) → now.mail u.0 d.0 ≡ ms → has_first ms ≡ true →
      WellAnswer t s l route x d (on_first (local_node t d) (now.nodes d.0) u ms)
      × ((on_first (local_node t d) (now.nodes d.0) u ms).down ≡ None)
  first-well u d [] first some = absurd (cc some)
  first-well u d (m ∷ ms) first some =
      let all : AllByRecursion (WellMsg t route x d) (m ∷ ms) = subst (AllByRecursion (WellMsg t route x d)) first (well.mail u.0 d.0) in
      let of : AllByRecursion (IsMsgOfLsp l) (m ∷ ms) = subst (AllByRecursion (IsMsgOfLsp l)) first (setting.only.mail u.0 d.0) in
      let its = by-leg u d m ms first all.0 of.0 in
      let p : LocalNode = local_node t d in
      let z : NodeState = now.nodes d.0 in
      let rise = (facts.node d.0).calls_rise in
      let own = (λ (g : Leg) (here : find_leg l (now.nodes d.0).legs ≡ Some g). found-lsp l (now.nodes d.0).legs g here) in
      let track = tracked ⊥ t s l k n ingress now facts setting d in (
        record {
          leg = subst (LegWell t s l d) (sym (message-legs ⊥ l k p z rise track own u m of.0 (never u d m ms first))) its.leg;
          sent = subst (AllByRecursion (λ (q : Out). WellMsg t route x q.to q.msg))
              (sym (message-sent ⊥ l k p z rise track own u m of.0 (never u d m ms first))) its.sent;
        },
        message-down ⊥ l k p z rise track own u m of.0 (never u d m ms first),
      )

  still-well : (d : NodeId) (a : Answer) → IsStill a → WellMesh t s l route x (commit now d.0 a)
  still-well d a still =
      well-commit t s l route x now well d a (record {
        leg = subst (LegWell t s l d) (sym still.legs) NoLeg;
        sent = subst (AllByRecursion (λ (q : Out). WellMsg t route x q.to q.msg)) (sym still.sent) tt;
      }) still.down

  pub never-refused : (u d : NodeId) (m : Msg) (ms : List Msg) → now.mail u.0 d.0 ≡ m ∷ ms → IsErr m → ⊥
  never-refused = never

  -- Over each event all stays in order.
  pub well-on : (e : MeshEvent) → IsLeftAlone t s e → is_enabled t now e ≡ true → WellMesh t s l route x (step t now e)
  well-on (Take d u) alone enabled =
      let a : Answer = on_first (local_node t d) (now.nodes d.0) u (now.mail u.0 d.0) in
      let its = first-well u d (now.mail u.0 d.0) refl enabled in
      well-commit t s l route x (without_first now u.0 d.0) (well-taken t s l route x now u.0 d.0 well) d a its.0 its.1
  well-on (Desk m) alone enabled =
      absurd (let none : has_first (now.desks m.0) ≡ false = rw (setting.desks m.0) refl in cc (none, enabled))
  well-on (Tick m) alone enabled =
      still-well m (on_tick (local_node t m) (now.nodes m.0)) (still-tick (local_node t m) (now.nodes m.0) (setting.waits alone m.0))
  well-on (Learn m j) alone enabled =
      still-well m (on_link (local_node t m) (now.nodes m.0) (find_link t j))
      (still-link (local_node t m) (now.nodes m.0) (find_link t j))
  well-on (Post y) alone enabled = absurd alone
