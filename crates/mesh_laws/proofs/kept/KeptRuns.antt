-- While nothing is set up, released or protected legs change their phases alone; so backups that were apart in a quiet
-- state stay so.
use Rattle.std.proofs.Common.{◌≡◌, ℕ, List, [], ◌∷◌, ◌++◌, refl, sym, ap, ◌∙◌, subst}
use Rattle.std.specs.{Prelude.{Option, Some, None}, List.AllByRecursion}
use Rattle.ason_base.specs.{Lsps.same_lsp, Network.{Network, find_link}, declared.ids.Lsp.Lsp, declared.ids.NodeId.NodeId, declared.calls.Phase.TheVariants.Held, declared.commands.Command.TheVariants.{Retry, Revert, Fail, Repair}, declared.commands.DeskItem.DeskItem, declared.commands.Group.Group, declared.messages.Msg.Msg, declared.messages.Msg.TheVariants.{Path, Resv}, declared.tables.Leg.Leg}
use Rattle.mesh_rules.specs.{declared.events.MeshEvent.MeshEvent, declared.events.MeshEvent.TheVariants.{Take, Desk, Tick, Learn, Post}, Events.{IsRun, after, on_first, on_first_item, route_of, step}, Failures.{with_group, without_group}, Legs.{find_leg, uses, with_phase}, LocalNodes.local_node, Machine.{Mesh, start, without_first, without_item}, Quiet.IsQuiet}
use Rattle.mesh_nodes.proofs.LegList.{found-all}
use Rattle.lsp_laws.specs.HopLaw.{LspFits}
use Rattle.lsp_laws.proofs.hops.HopLaws.{every_hop}
use Rattle.mesh_laws.specs.ContendLaw.{GoesOnWith}
use Rattle.mesh_laws.proofs.{alone.Facts.LspRoutes, alone.Groups.{FailsOnlyGroups, has_one}, alone.Legs.{BackupsApart, MsgApart}, alone.AloneRuns.{after-append, append-one, run-first, StayApart}, kept.Items.{item-kept, link-kept, tick-kept}, kept.Messages.{ComesToLeg, message-kept, up-not_asked}, kept.Phases.{IsUp, ItemKept, Kept, LegsUp, MeshKept, MsgKept, SameLegs, but_phase, commit-kept, failed-kept, handled-kept, kept-nothing, ordered-kept, taken-kept}, kept.Places.path-there}

-- What stays apart

record WasThere (was : List Leg) (l : Lsp) (a : Leg) : Type 0 where
  leg : Leg
  found : find_leg l was ≡ Some leg
  same : with_phase Held leg ≡ with_phase Held a

was-there : (was now : List Leg) → SameLegs was now → (l : Lsp) (a : Leg) → find_leg l now ≡ Some a → WasThere was l a
was-there was now same l a found = go (find_leg l was) refl (sym (same l) ∙ ap but_phase found)
  where
    go : (b : Option Leg) → find_leg l was ≡ b → but_phase b ≡ Some (with_phase Held a) → WasThere was l a
    go None is e = absurd (cc e)
    go (Some b) is e = record { leg = b; found = is; same = cc e }

-- what a leg uses doesn't depend on its phase
apart-kept : (gs : List Group) (was now : List Leg) → SameLegs was now → BackupsApart gs was → BackupsApart gs now
apart-kept gs was now same apart l a at_l f x m b differ at_m uses_a uses_b back_a back_b has_a has_b =
    let p = was-there was now same l a at_l in
    let q = was-there was now same m b at_m in
    apart l p.leg p.found f x m q.leg (ap (λ (z : Leg). same_lsp z.lsp m) p.same ∙ differ) q.found
    (ap (uses f x) p.same ∙ uses_a) (ap (uses f x) q.same ∙ uses_b)
    (ap (λ (z : Leg). z.role) p.same ∙ back_a) (ap (λ (z : Leg). z.role) q.same ∙ back_b)
    (ap (λ (z : Leg). has_one z.risks gs) p.same ∙ has_a) (ap (λ (z : Leg). has_one z.risks gs) q.same ∙ has_b)

-- and no leg that is up waits for its label
gifts-apart : (gs : List Group) (legs : List Leg) → LegsUp legs → (u : NodeId) (m : Msg) → MsgApart gs legs u m
gifts-apart gs legs up u (Resv l e k x) =
    λ b found asked over. absurd (up-not_asked b.phase (found-all IsUp l legs b found up) asked)
gifts-apart gs legs up u _ = tt

-- One step

-- no other group fails
pub fails-only : (gs : List Group) (e : MeshEvent) → GoesOnWith gs e → FailsOnlyGroups gs e
fails-only gs (Post (Fail h)) only = only
fails-only gs _ only = tt

module _ (t : Network) (gs : List Group) (was s : Mesh) (o : LspRoutes) (hops : (l : Lsp) → LspFits t s l (o l))
    (kept : MeshKept was s) where
  comes : (d u : NodeId) (m : Msg) (ms : List Msg) → s.mail u.0 d.0 ≡ m ∷ ms →
      ComesToLeg (local_node t d) (s.nodes d.0) (kept.up d.0) m
  comes d u (Path l e k route set up r) ms is =
      λ none. path-there t s o hops kept.up l e k route set up r ms u d is none
  comes d u _ ms is = tt

  first-kept : (d u : NodeId) (ms : List Msg) → s.mail u.0 d.0 ≡ ms →
      Kept (s.nodes d.0).legs (on_first (local_node t d) (s.nodes d.0) u ms)
  first-kept d u [] is = kept-nothing (s.nodes d.0).legs
  first-kept d u (m ∷ ms) is =
      let all : AllByRecursion MsgKept (m ∷ ms) = subst (AllByRecursion MsgKept) is (kept.mail u.0 d.0) in
      message-kept (local_node t d) (s.nodes d.0) (kept.up d.0) u m all.0 (comes d u m ms is)

  item-first-kept : (n : NodeId) (items : List DeskItem) → s.desks n.0 ≡ items →
      Kept (s.nodes n.0).legs (on_first_item (local_node t n) (s.nodes n.0) items)
  item-first-kept n [] is = kept-nothing (s.nodes n.0).legs
  item-first-kept n (i ∷ items) is =
      let all : AllByRecursion ItemKept (i ∷ items) = subst (AllByRecursion ItemKept) is (kept.desks n.0) in
      item-kept (local_node t n) (s.nodes n.0) i all.0

  step-kept : (e : MeshEvent) → GoesOnWith gs e → MeshKept was (step t s e)
  step-kept (Take d u) only =
      commit-kept was (without_first s u.0 d.0) d.0 (on_first (local_node t d) (s.nodes d.0) u (s.mail u.0 d.0))
      (first-kept d u (s.mail u.0 d.0) refl) (taken-kept was s u.0 d.0 kept)
  step-kept (Desk n) only =
      commit-kept was (without_item s n.0) n.0 (on_first_item (local_node t n) (s.nodes n.0) (s.desks n.0))
      (item-first-kept n (s.desks n.0) refl) (handled-kept was s n.0 kept)
  step-kept (Tick n) only =
      commit-kept was s n.0 _ (tick-kept (local_node t n) (s.nodes n.0)) kept
  step-kept (Learn n k) only =
      commit-kept was s n.0 _ (link-kept (local_node t n) (s.nodes n.0) (find_link t k)) kept
  step-kept (Post (Retry n from)) only = ordered-kept was s from.0 (Retry n from) tt kept
  step-kept (Post (Revert n from)) only = ordered-kept was s from.0 (Revert n from) tt kept
  step-kept (Post (Fail h)) only = failed-kept was t s (with_group h s.failed) kept
  step-kept (Post (Repair h)) only = failed-kept was t s (without_group h s.failed) kept
  step-kept (Post _) only = absurd only

-- A run

-- from a state on in which backups are apart, they stay apart
module _ (t : Network) (gs : List Group) (was : Mesh) (apart : (n : ℕ) → BackupsApart gs (was.nodes n).legs) where
  stays : (before since : List MeshEvent) → IsRun t start (before ++ since) → AllByRecursion (GoesOnWith gs) since →
      MeshKept was (after t start before) → StayApart t gs (after t start before) since
  stays before [] run only kept = tt
  stays before (e ∷ es) run only kept =
      let s : Mesh = after t start before in
      let first = run-first t start before (e ∷ es) run in
      let next : after t start (before ++ e ∷ []) ≡ step t s e = after-append t start before (e ∷ []) in
      let kept_on = step-kept t gs was s (route_of t start before) (every_hop t before first).1 kept e only.0 in (
        record {
          legs = λ n. apart-kept gs (was.nodes n).legs (s.nodes n).legs (kept.legs n) (apart n);
          firsts = λ u d m ms is. gifts-apart gs (s.nodes d.0).legs (kept.up d.0) u m;
        },
        subst (λ x. StayApart t gs x es) next
            (stays (before ++ e ∷ []) es (subst (IsRun t start) (sym (append-one before e es)) run) only.1
            (subst (MeshKept was) (sym next) kept_on)),
      )

-- from a quiet state of the run on
pub stay-apart : (t : Network) (gs : List Group) (before since : List MeshEvent) → IsRun t start (before ++ since) →
    AllByRecursion (GoesOnWith gs) since → IsQuiet (after t start before) →
    ((n : ℕ) → LegsUp ((after t start before).nodes n).legs) →
    ((n : ℕ) → BackupsApart gs ((after t start before).nodes n).legs) →
    StayApart t gs (after t start before) since
stay-apart t gs before since run only quiet up apart =
    stays t gs (after t start before) apart before since run only (record {
      legs = λ n l. refl;
      up = up;
      mail = λ u d. rw (quiet.mail u d) tt;
      desks = λ n. rw (quiet.desks n) tt;
    })
