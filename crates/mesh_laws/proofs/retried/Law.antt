-- Once a retry alone has come to rest, the call has turned just where its backup was busy nowhere.
use Rattle.std.proofs.{Common.{◌≡◌, ℕ, true, false, List, [], ◌∷◌, ◌++◌, refl, sym, ap, ◌∙◌, subst, inl, inr}, lemmas.List.Elements.recursion_from_All, lemmas.Bool.{false_from_ne_true, or_left, or_right}}
use Rattle.std.specs.{Prelude.{◌⊎◌, Option, Some}, List.AllByRecursion}
use Rattle.ason_base.specs.{Network.Network, declared.calls.CallState.CallState, declared.calls.CallState.TheVariants.{Stuck, Turned}, declared.calls.Phase.Phase, declared.calls.Phase.TheVariants.{Armed, Falling, Held, Live}, declared.calls.Role.Role, declared.commands.Command.TheVariants.Retry, declared.commands.DeskItem.TheVariants.Order, declared.ids.Fibre.Fibre, declared.ids.Lsp.Lsp, declared.ids.NodeId.NodeId, declared.tables.CallRec.CallRec, declared.tables.Leg.Leg, Lsps.same_lsp}
use Rattle.ason_base.specs.declared.calls.Role.TheVariants as role
use Rattle.ason_base.proofs.{LspOrder.same_lsp-eq, JoinedEnds.same-node}
use Rattle.mesh_rules.specs.{declared.events.MeshEvent.MeshEvent, declared.events.MeshEvent.TheVariants.Post, Calls.{find_call, names}, Events.{IsRun, after, step}, Legs.{is_beyond_asked, is_marking, sends_label, takes, uses, with_phase}, Machine.{Mesh, start}, Quiet.IsQuiet}
use Rattle.mesh_nodes.proofs.{CallList.found-call-all, LegList.{found-all, found-lsp}}
use Rattle.lsp_laws.specs.{CallLaw.FitsLegs, HopLaw.leg_at}
use Rattle.lsp_laws.proofs.{hops.HopLaws.found_of, nodes.CallParts.names-back, nodes.Facts.MeshFacts, nodes.NodeRuns.{facts-hold, facts-step}, nodes.States.{Row, StuckRow, row}, hops.NamedPhases.named_is}
use Rattle.mesh_laws.specs.{ActsLaw.MayRetry, CauseLaw.Uses, RestedLaw.{IsOfCall, is_call_settled, rested_phase}, RetryLaw.{EveryRetryIsDecided, HasTurned, IsBusySomewhere, IsLeftAlone, IsStuckAgain, RetryEnds}}
use Rattle.mesh_laws.proofs.{acts.Tests.some-any, alone.AloneRuns.{after-append, run-first, run-later}, rested.Alike.{IsHeld, IsLive, RestsInPhase}, rested.Rested.{nothing_left_at_rest, phase-there, rests, routed}, retried.Going.{Going, goes-on}, retried.Only.{Moved, Moves, NoneThere, uses-after}, retried.Waiting.{MayTurnAgain, waits-on}, retried.Pending.{Pending, posted-pends}, safe.Light.{arrives-takes, leaves-sends}, crossing.Upstream.mark-of}

-- The run

-- nothing has moved yet, or the backup alone has
abbrev GoesOrWaits : Network → Mesh → NodeId → CallRec → Lsp → Mesh → Type 0
GoesOrWaits t s n c b now = Pending s n (Order (Retry c.call n)) now ⊎ Going t s n c.call b now

run-on : (t : Network) (s : Mesh) (n : NodeId) (b : Lsp) (c : CallRec) → MayTurnAgain s n b c → (now : Mesh)
    (events : List MeshEvent) → MeshFacts t now → GoesOrWaits t s n c b now → IsRun t now events →
    AllByRecursion (IsLeftAlone t s) events → GoesOrWaits t s n c b (after t now events)
run-on t s n b c may now [] facts so run only = so
run-on t s n b c may now (e ∷ events) facts so run only =
    run-on t s n b c may (step t now e) events (facts-step t now e run.0 facts)
    (elim so [
      | inl waiting ↦ waits-on t s n b c may now waiting e only.0 run.0
      | inr going ↦ inr (goes-on t s n c.call b (ap (λ (m : NodeId). m.0) may.ingress) now facts going e only.0 run.0)
    ])
    run.1 only.1

-- The call before

stuck-held : (f : CallState) (w b : Option Phase) → Row f w b → f ≡ Stuck → b ≡ Some Held
stuck-held _ _ _ StuckRow e = refl
stuck-held _ _ _ _ e = absurd (cc e)

rests-up : (q : Phase) → RestsInPhase q → is_beyond_asked q ≡ true
rests-up _ IsHeld = refl
rests-up _ IsLive = refl

-- a stuck call that may try again, in a quiet state
may-turn : (t : Network) (events : List MeshEvent) → IsRun t start events → IsQuiet (after t start events) →
    (n : NodeId) (c : CallRec) → find_call c.call ((after t start events).nodes n.0).calls ≡ Some c → MayRetry c →
    (b : Lsp) × MayTurnAgain (after t start events) n b c
may-turn t events run quiet n c found may =
    let x = (after t start events).nodes n.0 in
    let facts = (facts-hold t events run).node n.0 in
    let fit : FitsLegs n.0 x.lsp x.legs c = facts.call c.call c found in
    let its = phase-there c.back x.legs Held (stuck-held c.state _ _ (row c.state _ _ fit.state) may.0) in
    let b : Lsp = its.0 in
    let g : Leg = its.1 in
    let named = named_is n.0 x.lsp x.legs role.Back c.egress c.back b fit.back its.2 in
    let one : named.leg.0 ≡ g = (let there = named.leg.1 in let here = its.3 in cc (there, here)) in (
      b,
      record {
        found = found;
        back = its.2;
        tries = rw may.0 refl;
        works = some-any c.work_reports may.1;
        backs = rw may.2 refl;
        ingress = same-node b.ingress n named.ingress;
        leg = g;
        there = its.3;
        held = its.4;
        of_back = sym (facts.leg b g its.3).role ∙ ap (λ (x : Leg). x.role) (sym one) ∙ named.leg.2;
        up = λ m h here. rests-up h.phase (rests t events run quiet b m h here);
      },
    )

-- At rest

turned-live : (r : Role) (q : Phase) → rested_phase Turned r ≡ Some q → q ≡ Live
turned-live role.Work q e = cc e
turned-live role.Back q e = cc e

marking-so : (q : Phase) → (q ≡ Armed) ⊎ ((q ≡ Live) ⊎ (q ≡ Falling)) → is_marking q ≡ true
marking-so q (inl is) = rw is refl
marking-so q (inr (inl is)) = rw is refl
marking-so q (inr (inr is)) = rw is refl

uses-so : (f : Fibre) (x : ℕ) (g : Leg) → Uses f x g → uses f x g ≡ true
uses-so f x g (inl arrives) = or_left (takes f x g) (sends_label f x g) (arrives-takes f x g arrives)
uses-so f x g (inr leaves) = or_right (takes f x g) (sends_label f x g) (leaves-sends f x g leaves)

module _ (t : Network) (events : List MeshEvent) (run : IsRun t start events) (quiet : IsQuiet (after t start events))
    (t0 : List MeshEvent) (run0 : IsRun t start t0) (n : NodeId) (c : CallRec) (b : Lsp) (ingress : b.ingress ≡ n)
    (going : Going t (after t start t0) n c.call b (after t start events)) where
  abbrev old : Mesh
  old = after t start t0

  abbrev new : Mesh
  new = after t start events

  facts : MeshFacts t (after t start events)
  facts = facts-hold t events run

  -- each leg of the backup of a turned call is a backup's, and Live
  all-live : going.call.call.state ≡ Turned → (m : NodeId) (g : Leg) → leg_at new b m ≡ Some g →
      (g.phase ≡ Live) × (g.role ≡ role.Back)
  all-live turned m g here =
      let own : g.lsp ≡ b = found-lsp b (new.nodes m.0).legs g here in
      let of : IsOfCall new g = found-all (IsOfCall new) b (new.nodes m.0).legs g here
      (recursion_from_All (IsOfCall new) (new.nodes m.0).legs ((nothing_left_at_rest t events run quiet).legs m.0)) in
      let at : g.lsp.ingress ≡ n = ap (λ (l : Lsp). l.ingress) own ∙ ingress in
      let there : find_call of.call.call (new.nodes n.0).calls ≡ Some of.call =
      subst (λ (j : NodeId). find_call of.call.call (new.nodes j.0).calls ≡ Some of.call) at of.there in
      let number : of.call.call ≡ c.call =
      (facts.node n.0).one_call b of.call.call c.call of.call going.call.call there going.call.found
      (subst (λ l. names l of.call ≡ true) own of.named) (names-back going.call.call b going.call.back) in
      let one : of.call ≡ going.call.call =
      (let here' : find_call c.call (new.nodes n.0).calls ≡ Some of.call =
      subst (λ j. find_call j (new.nodes n.0).calls ≡ Some of.call) number there in
      let found = going.call.found in
      cc (here', found)) in
      let state : of.call.state ≡ Turned = ap (λ (d : CallRec). d.state) one ∙ turned in
      let phase : rested_phase Turned g.role ≡ Some g.phase =
      subst (λ f. rested_phase f g.role ≡ Some g.phase) state of.phase in
      let fit : FitsLegs n.0 (new.nodes n.0).lsp (new.nodes n.0).legs going.call.call =
      (facts.node n.0).call c.call going.call.call going.call.found in
      let named = named_is n.0 (new.nodes n.0).lsp (new.nodes n.0).legs role.Back going.call.call.egress
      going.call.call.back b fit.back going.call.back in
      let its = routed t events run quiet b m g here in (
        turned-live g.role g.phase phase,
        its.fits.roles m g here ∙ sym (its.fits.roles n named.leg.0 named.leg.1) ∙ named.leg.2,
      )

  -- so none of them was busy
  never-busy : going.call.call.state ≡ Turned → IsBusySomewhere old b → ⊥
  never-busy turned busy = go _ _ (going.moved.own busy.node) busy.there refl
    where
      h : Leg
      h = busy.busy.other

      own : busy.leg.lsp ≡ b
      own = found-lsp b (old.nodes busy.node.0).legs busy.leg busy.there

      apart : same_lsp b h.lsp ≡ false
      apart = false_from_ne_true (same_lsp b h.lsp) (λ e. busy.busy.apart (sym (same_lsp-eq b h.lsp e) ∙ sym own))

      there : leg_at new h.lsp busy.node ≡ Some h
      there = going.moved.others h.lsp busy.node apart
          ∙ found_of (old.nodes busy.node.0).legs ((facts-hold t t0 run0).node busy.node.0).legs_rise h busy.busy.there

      go : (o o' : Option Leg) → Moved o o' → o ≡ Some busy.leg → leg_at new b busy.node ≡ o' → ⊥
      go _ _ NoneThere was is = cc was
      go _ _ (Moves g q up) was is =
          let same-leg : g ≡ busy.leg = cc was in
          let live = all-live turned busy.node (with_phase q g) is in
          let mine : Uses busy.busy.fibre busy.busy.label (with_phase q g) =
          uses-after busy.busy.fibre busy.busy.label q g
          (subst (Uses busy.busy.fibre busy.busy.label) (sym same-leg) busy.busy.own_uses) in
          let one : b ≡ h.lsp = (facts.node busy.node.0).marks busy.busy.fibre busy.busy.label b h.lsp (with_phase q g) h is
          there (uses-so _ _ (with_phase q g) mine) (uses-so _ _ h busy.busy.other_uses)
          (mark-of (with_phase q g) live.1 (rw live.0 refl))
          (mark-of h busy.busy.role (marking-so h.phase busy.busy.phase)) in
          busy.busy.apart (sym one ∙ sym own)

  ends : RetryEnds old new n c b
  ends = elim going.call.state [
    | inl turning ↦ absurd (let settled : is_call_settled going.call.call.state ≡ true =
        found-call-all (λ d. is_call_settled d.state ≡ true) c.call (new.nodes n.0).calls going.call.call
        going.call.found
        (recursion_from_All (λ d. is_call_settled d.state ≡ true) (new.nodes n.0).calls
        ((nothing_left_at_rest t events run quiet).calls n.0)) in
        let never : is_call_settled going.call.call.state ≡ false = rw turning refl in cc (settled, never))
    | inr (inl turned) ↦ HasTurned going.call.call going.call.found turned (never-busy turned)
    | inr (inr stuck) ↦ IsStuckAgain going.call.call going.call.found stuck.0 stuck.1 stuck.2
  ]

-- over every network and every run
pub every_retry : EveryRetryIsDecided
every_retry t events run n c alone quiet =
    let order : MeshEvent = Post (Retry c.call n) in
    let s : Mesh = after t start alone.before in
    let parted : IsRun t start (alone.before ++ order ∷ alone.since) = subst (IsRun t start) (sym alone.parts) run in
    let run0 = run-first t start alone.before (order ∷ alone.since) parted in
    let later = run-later t start alone.before (order ∷ alone.since) parted in
    let to : after t (step t s order) alone.since ≡ after t start events =
    sym (after-append t start alone.before (order ∷ alone.since)) ∙ ap (after t start) alone.parts in
    let may = may-turn t alone.before run0 alone.quiet n c alone.found alone.may in
    let end : GoesOrWaits t s n c may.0 (after t start events) =
    subst (GoesOrWaits t s n c may.0) to
    (run-on t s n may.0 c may.1 (step t s order) alone.since
    (facts-step t s order later.0 (facts-hold t alone.before run0)) (inl (posted-pends s n (Order (Retry c.call n)) alone.quiet)) later.1
    alone.only) in (
      may.0,
      may.1.back,
      elim end [
        | inl waiting ↦ absurd (let none = quiet.desks n.0 in let item = waiting.here in cc (none, item))
        | inr going ↦ ends t events run quiet alone.before run0 n c may.0 may.1.ingress going
      ],
    )
