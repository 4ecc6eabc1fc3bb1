-- A backup goes over the route that its order gives, along a run.
use Rattle.ason_base.specs.{Codes.label_code, declared.calls.Cause.TheVariants.Code, Network.{Network, find_link, other_end, row_of}, Labels.up_to, declared.commands.Command.Command, declared.commands.Command.TheVariants.{Setup, Release, Protect, Retry, Revert, Fail, Repair}, declared.commands.DeskItem.DeskItem, declared.commands.DeskItem.TheVariants.{Order, Alarm, Clear}, declared.ids.LinkId.LinkId, declared.ids.Lsp.Lsp, declared.ids.NodeId.NodeId, declared.messages.Msg.Msg, declared.messages.Msg.TheVariants.Path, declared.messages.PathRole.PathRole, declared.network.LinkSpec.LinkSpec, declared.steps.Step.Step, declared.tables.CallRec.CallRec, declared.tables.Leg.Leg, declared.tables.Out.Out}
use Rattle.mesh_rules.specs.{Calls.{bare, blocked, unbacked, find_call, names, pairing}, declared.events.MeshEvent.MeshEvent, declared.events.MeshEvent.TheVariants.{Take, Desk, Tick, Learn, Post}, Changes.{Answer, changed, learns, nothing, to_node}, Events.{IsRun, after, first_route, on_first, on_first_item, or_route, posted, route_of, sent_at_ingress, step}, FirstLegs.first_link, KnownRows.{has_row, known_rows}, Learnt.on_link, LeastRoutes.least_backup, LocalNodes.{LocalNode, local_node}, Machine.{Mesh, commit, start, without_first, without_item}, Orders.on_item, Pairs.{backup_lsp, backup_route, begins_backup, beside_lsp, given_or_found, guarding, route_from}, State.NodeState, Waits.on_tick}
use Rattle.std.proofs.{Common.{◌+◌, ◌≡◌, ◌<◌, ℕ, Bool, true, false, cond, nat_eq, List, [], ◌∷◌, refl, sym, ap, ◌∙◌, subst, arith, inl, inr}, lemmas.List.Elements.All-from_recursion}
use Rattle.std.specs.Prelude.{Option, Some, None, drop}
use Rattle.ason_base.proofs.{Numbers.self-number, JoinedEnds.same-node}
use Rattle.mesh_nodes.proofs.{CallList.all-calls_found, Cases.if_cases, LegList.same_lsp-refl}
use Rattle.lsp_laws.specs.CallLaw.{FitsLegs}
use Rattle.lsp_laws.proofs.{hops.HopLaws.{step_facts, carried}, hops.Planned.{EachFollows, Follows, Grow, Routes, or_assoc, or_none}, hops.Run.{Carried, step_carries, step_routes}, hops.GivenRoutes.starts-with, hops.Stepped.{grown, grown-grow}, nodes.CallChanges.{ArePut, EachCall, MayGo, each-after}, nodes.CallParts.named-by, nodes.Facts.{MeshFacts, NodeFacts}, nodes.NodeRuns.{facts-hold, facts-start, facts-step}, nodes.SetupsHold.setup-holds, nodes.CallWalk.message-holds, nodes.CallWays.{Bares, CallBecomes, Blocks, Counts, AtOnce, Decides, Lacks, LacksLabel, LosesBackup, Pairs, Way}, nodes.OrderWalk.{alarm-holds, clear-holds, protect-holds, release-holds, retry-holds, revert-holds, tick-holds}, hops.NamedPhases.named_is}
use Rattle.mesh_laws.specs.BackedLaw.{EveryBackupGoesAsGiven, GoesAsGiven}
use Rattle.mesh_laws.proofs.backed.BackMoves.{KeepsBackup, early-keeps, late-keeps}

own-path : (b : Lsp) (m e : NodeId) (k : LinkId) (route : List Step) (set : List ℕ) (up : Option ℕ) (r : PathRole) →
    first_route b (to_node m (Path b e k route set up r) ∷ []) ≡ Some (record { node = b.ingress; link = k } ∷ route)
own-path b m e k route set up r = rw (same_lsp-refl b) refl

abbrev EachGiven : Mesh → Routes → Type 0
EachGiven s o = (n : ℕ) → EachCall (GoesAsGiven o) (s.nodes n).calls

grown-given : (s : Mesh) (o o' : Routes) → Grow o o' → EachGiven s o → EachGiven s o'
grown-given s o o' grow each n k c found l route back backup = grow l route (each n k c found l route back backup)

-- an answer is carried out at the node n
commit-given : (s : Mesh) (n : ℕ) (a : Answer) (o o' : Routes) → Grow o o' → ArePut (GoesAsGiven o') a.calls →
    EachGiven s o → EachGiven (commit s n a) o'
commit-given s n a o o' grow puts each m = go (nat_eq m n)
  where
    go : (b : Bool) → EachCall (GoesAsGiven o') (cond b (changed (s.nodes m) a) (s.nodes m)).calls
    go true = each-after (GoesAsGiven o') a.calls (s.nodes m).calls puts (grown-given s o o' grow each m)
    go false = grown-given s o o' grow each m

module _ (t : Network) (s : Mesh) (n : NodeId) (o : Routes) (f : EachFollows t s o)
    (facts : NodeFacts n.0 (s.nodes n.0)) (each : EachCall (GoesAsGiven o) (s.nodes n.0).calls) where
  abbrev p : LocalNode
  p = local_node t n

  abbrev x : NodeState
  x = s.nodes n.0

  -- the call's LSPs begin here
  record Before (c : CallRec) : Type 0 where
    given : GoesAsGiven o c
    here : (l : Lsp) → names l c ≡ true → l.ingress.0 ≡ n.0

  before : EachCall Before (s.nodes n.0).calls
  before k c found = record {
    given = each k c found;
    here = λ l named.
        (let fit : FitsLegs n.0 x.lsp x.legs c = facts.call k c found in
        elim (named-by c l named) [
          | inl is ↦ (named_is n.0 x.lsp x.legs _ c.egress c.work l fit.work is).ingress
          | inr is ↦ (named_is n.0 x.lsp x.legs _ c.egress c.back l fit.back is).ingress
        ]);
  }

  module _ (a : Answer) where
    abbrev Then : CallRec → Type 0
    Then d = GoesAsGiven (grown n o a) d

    -- whatever came
    abbrev Any : Way → Type 0
    Any way = Unit {0}

    kept : (c d : CallRec) → KeepsBackup c d → Before c → GoesAsGiven (grown n o a) d
    kept c d is was l route back backup = elim is.back [
      | inl one ↦ grown-grow n o a l route (was.given l route (sym one ∙ back) (sym is.backup ∙ backup))
      | inr none ↦ absurd (cc (none, back))
    ]

    -- the number that is given out next is no LSP's
    unused : (b : Lsp) → b.ingress.0 ≡ n.0 → b.lsp ≡ (s.nodes n.0).lsp → o b ≡ None
    unused b own next = go (o b) refl (f b)
      where
        go : (r : Option (List Step)) → o b ≡ r → Follows t s o b r → o b ≡ None
        go None is follow = is
        go (Some route) is (e, q, planned) =
            let below : b.lsp < (s.nodes n.0).lsp = subst (λ m. b.lsp < (s.nodes m).lsp) own planned.number in
            absurd (omega (arith, next, below))

    abbrev Sent : List Out → Type 0
    Sent outs = a.sent ≡ outs

    paired : (c : CallRec) (w : Leg) (route : List Step) (out : LinkSpec) → Before c → w.lsp.ingress.0 ≡ n.0 →
        backup_route (local_node t n) (s.nodes n.0) c w ≡ Some route → first_link (local_node t n) route ≡ Some out →
        a.sent ≡ (begins_backup (local_node t n) (s.nodes n.0) c w out (drop 1 route)).sent →
        GoesAsGiven (grown n o a) (pairing c (beside_lsp w.lsp (s.nodes n.0).lsp))
    paired c w route out was own over first sent l r back backup =
        let b : Lsp = beside_lsp w.lsp x.lsp in
        let one : b ≡ l = cc back in
        let given : Some r ≡ Some route =
        sym (ap (λ g. given_or_found g (least_backup (known_rows p x) (route_from p w) p.id w.egress)) backup) ∙ over in
        let steps : Some (record { node = b.ingress; link = out.id } ∷ drop 1 route) ≡ Some route =
        ap (λ (m : NodeId). Some (record { node = m; link = out.id } ∷ drop 1 route)) (same-node b.ingress n own)
        ∙ ap Some (starts-with p route out first) in
        let goes : first_route b (cond (nat_eq n.0 b.ingress.0) a.sent []) ≡ Some route =
        ap (λ e. first_route b (cond e a.sent [])) (subst (λ m. nat_eq n.0 m ≡ true) (sym own) (self-number n.0))
        ∙ ap (first_route b) sent ∙ own-path b (other_end out n) w.egress out.id (drop 1 route) (up_to out.labels)
        (backup_lsp p x w out (drop 1 route)).back (guarding p w) ∙ steps in
        subst (λ k. grown n o a k ≡ Some r) one
        (ap (λ z. or_route z (first_route b (cond (nat_eq n.0 b.ingress.0) a.sent []))) (unused b own refl) ∙ goes
        ∙ sym given)

    keeps : (c d : CallRec) →
        CallBecomes (local_node t n) (s.nodes n.0) (λ way. Unit {0}) (λ outs. a.sent ≡ outs) c d → Before c →
        GoesAsGiven (grown n o a) d
    keeps c e (Decides d early late) was =
        kept c e (late-keeps p x Any (Unit {0}) c d e (early-keeps p x Any c d early) late) was
    keeps c e (AtOnce late) was =
        kept c e (late-keeps p x Any ⊥ c c e (record { backup = refl; back = inl refl }) late) was
    keeps c d (Bares asking plain came) was = kept c (bare c) (record { backup = refl; back = inl refl }) was
    keeps c d (Pairs w route out alone named over first sent) was =
        paired c w route out was (was.here w.lsp named) over first sent
    keeps c d (Lacks cause alone lack) was = kept c (unbacked c cause) (record { backup = refl; back = inr refl }) was
    keeps c d (LacksLabel alone) was =
        kept c (unbacked c (Code label_code)) (record { backup = refl; back = inr refl }) was
    keeps c d (LosesBackup code pairing came) was =
        kept c (unbacked c (Code code)) (record { backup = refl; back = inr refl }) was
    keeps c d (Blocks code asking came) was =
        kept c (blocked c (Code code)) (record { backup = refl; back = inl refl }) was
    keeps c d (Counts waits less came) was =
        kept c (record c { ticks = c.ticks + 1 }) (record { backup = refl; back = inl refl }) was

  item-puts : (i : DeskItem) → ArePut (GoesAsGiven (grown n o (on_item (local_node t n) (s.nodes n.0) i)))
      (on_item (local_node t n) (s.nodes n.0) i).calls
  item-puts (Order (Setup k from to protected both via backup)) =
      setup-holds MayGo p x
      (record { call = k; from = from; egress = to; protected = protected; both = both; via = via; backup = backup })
      (λ a d. GoesAsGiven (grown n o a) d) (λ a cause known l route back given. absurd (cc back))
      (λ route out over first ordered has l r back given. absurd (cc back)) (find_call k x.calls)
  item-puts (Order (Release k from)) =
      let a = on_item p x (Order (Release k from)) in
      release-holds MayGo Before (Then a) (Any a) (Sent a) p x (keeps a) facts.calls_rise before from (find_call k x.calls) (λ c is. tt)
  item-puts (Order (Protect k from)) =
      let a = on_item p x (Order (Protect k from)) in
      protect-holds MayGo Before (Then a) (Any a) (Sent a) p x (keeps a) facts.calls_rise before k from (find_call k x.calls) refl refl
  item-puts (Order (Retry k from)) =
      let a = on_item p x (Order (Retry k from)) in
      retry-holds MayGo Before (Then a) (Any a) (Sent a) p x (keeps a) facts.calls_rise before k from
      (find_call k x.calls) refl tt
  item-puts (Order (Revert k from)) =
      let a = on_item p x (Order (Revert k from)) in
      revert-holds MayGo Before (Then a) (Any a) (Sent a) p x (keeps a) facts.calls_rise before k from
      (find_call k x.calls) refl tt
  item-puts (Order (Fail g)) = tt
  item-puts (Order (Repair g)) = tt
  item-puts (Alarm g) =
      let a = on_item p x (Alarm g) in
      alarm-holds MayGo Before (Then a) (Any a) (Sent a) p x (keeps a) facts.calls_rise before g
  item-puts (Clear g) =
      let a = on_item p x (Clear g) in
      clear-holds MayGo Before (Then a) (Any a) (Sent a) p x (keeps a) facts.calls_rise before g

  first_item-puts : (items : List DeskItem) →
      ArePut (GoesAsGiven (grown n o (on_first_item (local_node t n) (s.nodes n.0) items)))
      (on_first_item (local_node t n) (s.nodes n.0) items).calls
  first_item-puts [] = tt
  first_item-puts (i ∷ items) = item-puts i

  first-puts : (u : NodeId) (ms : List Msg) →
      ArePut (GoesAsGiven (grown n o (on_first (local_node t n) (s.nodes n.0) u ms)))
      (on_first (local_node t n) (s.nodes n.0) u ms).calls
  first-puts u [] = tt
  first-puts u (m ∷ ms) =
      let a = on_first p x u (m ∷ ms) in
      message-holds MayGo Before (Then a) (Any a) (Sent a) p x (keeps a) facts.calls_rise before u m
      (λ way is. tt) refl

  tick-puts : ArePut (GoesAsGiven (grown n o (on_tick (local_node t n) (s.nodes n.0))))
      (on_tick (local_node t n) (s.nodes n.0)).calls
  tick-puts =
      let a = on_tick p x in
      tick-holds MayGo Before (Then a) (Any a) (Sent a) p x (keeps a) facts.calls_rise before tt

  link-puts : (o' : Routes) (l : Option LinkSpec) →
      ArePut (GoesAsGiven o') (on_link (local_node t n) (s.nodes n.0) l).calls
  link-puts o' None = tt
  link-puts o' (Some l) =
      if_cases (λ a. ArePut (GoesAsGiven o') a.calls) (has_row (known_rows p x) l.id) nothing (learns (row_of l))
      (λ known. tt) (λ new. tt)

posted-given : (t : Network) (s : Mesh) (c : Command) (o : Routes) → EachGiven s o → EachGiven (posted t s c) o
posted-given t s (Setup k from to protected both via backup) o each = each
posted-given t s (Release k from) o each = each
posted-given t s (Protect k from) o each = each
posted-given t s (Retry k from) o each = each
posted-given t s (Revert k from) o each = each
posted-given t s (Fail g) o each = each
posted-given t s (Repair g) o each = each

given-step : (t : Network) (s : Mesh) (e : MeshEvent) (o : Routes) → EachFollows t s o → MeshFacts t s →
    EachGiven s o → EachGiven (step t s e) (step_routes t s e o)
given-step t s (Take d u) o f facts each =
    let a = on_first (local_node t d) (s.nodes d.0) u (s.mail u.0 d.0) in
    commit-given (without_first s u.0 d.0) d.0 a o (grown d o a) (grown-grow d o a)
    (first-puts t s d o f (facts.node d.0) (each d.0) u (s.mail u.0 d.0)) each
given-step t s (Desk n) o f facts each =
    let a = on_first_item (local_node t n) (s.nodes n.0) (s.desks n.0) in
    commit-given (without_item s n.0) n.0 a o (grown n o a) (grown-grow n o a)
    (first_item-puts t s n o f (facts.node n.0) (each n.0) (s.desks n.0)) each
given-step t s (Tick n) o f facts each =
    let a = on_tick (local_node t n) (s.nodes n.0) in
    commit-given s n.0 a o (grown n o a) (grown-grow n o a)
    (tick-puts t s n o f (facts.node n.0) (each n.0)) each
given-step t s (Learn n k) o f facts each =
    let o' : Routes = λ l. or_route (o l) None in
    commit-given s n.0 (on_link (local_node t n) (s.nodes n.0) (find_link t k)) o o' (λ l route sent. rw sent refl)
    (link-puts t s n o f (facts.node n.0) (each n.0) o' (find_link t k)) each
given-step t s (Post c) o f facts each =
    let o' : Routes = λ l. or_route (o l) None in
    posted-given t s c o' (grown-given s o o' (λ l route sent. rw sent refl) each)

same-routes : (s : Mesh) (o o' : Routes) → ((l : Lsp) → o l ≡ o' l) → EachGiven s o → EachGiven s o'
same-routes s o o' self-number each = let routes : o ≡ o' = λ i l. self-number l i in subst (EachGiven s) routes each

given-run : (t : Network) (s : Mesh) (events : List MeshEvent) (o : Routes) → MeshFacts t s → Carried t s o →
    EachGiven s o → IsRun t s events → EachGiven (after t s events) (λ l. or_route (o l) (route_of t s events l))
given-run t s [] o facts with each run = same-routes s o (λ l. or_route (o l) None) (λ l. sym (or_none (o l))) each
given-run t s (e ∷ events) o facts with each run =
    same-routes (after t (step t s e) events) _ _
    (λ l. or_assoc (o l) (first_route l (sent_at_ingress t s e l)) (route_of t (step t s e) events l))
    (given-run t (step t s e) events (step_routes t s e o) (facts-step t s e run.0 facts)
    (step_carries t s e o run.0 (step_facts t s facts) with)
    (given-step t s e o with.follows facts each) run.1)

-- over every network and every run
pub every_backup_as_given : EveryBackupGoesAsGiven
every_backup_as_given t events run n =
    let calls = ((after t start events).nodes n).calls in
    All-from_recursion (GoesAsGiven (route_of t start events)) calls
    (all-calls_found (GoesAsGiven (route_of t start events)) calls ((facts-hold t events run).node n).calls_rise
    (given-run t start events (λ l. None) (facts-start t) (carried t [] tt) (λ m k c found. absurd (cc found)) run n))
