-- While no Notify of a repair comes, a call that has a report of an LSP keeps one.
use Rattle.std.proofs.{Common.{◌≡◌, ◌<◌, ℕ, Bool, true, false, cond, nat_eq, List, [], ◌∷◌, ◌++◌, refl, sym, ◌∙◌, subst, arith}, lemmas.Bool.and_parts}
use Rattle.std.specs.{Prelude.{◌&&◌, not, Option, Some, None}, List.AllByRecursion}
use Rattle.ason_base.specs.{Codes.fibre_down_code, Lsps.{has_fibre, same_lsp}, Network.{Network, find_link}, declared.commands.DeskItem.DeskItem, declared.commands.DeskItem.TheVariants.{Order, Alarm, Clear}, declared.ids.CallNo.CallNo, declared.ids.Fibre.Fibre, declared.ids.Lsp.Lsp, declared.ids.NodeId.NodeId, declared.messages.Msg.Msg, declared.messages.Msg.TheVariants.{Path, Resv, PathTear, PathErr, Notify}, declared.network.LinkSpec.LinkSpec, declared.tables.CallRec.CallRec, declared.tables.Leg.Leg}
use Rattle.mesh_rules.specs.{declared.events.MeshEvent.MeshEvent, declared.events.MeshEvent.TheVariants.{Take, Desk, Tick, Learn, Post}, declared.neighbours.Neighbour.Neighbour, Alarms.{enters, knows_down}, Calls.{call_with, calls_changed, find_call, names, with_call}, Changes.{Answer, changed, nothing}, Events.{on_first, on_first_item, step}, KnownRows.{has_row, known_rows}, Learnt.on_link, Legs.{find_leg, following, is_closing, is_node, leg_of, previous}, LocalNodes.{LocalNode, leads, local_node, own_link}, Machine.{Mesh, commit, without_first, without_item}, Messages.{arrival, on_message}, Notifies.{Notice, notice_passed, notice_told, notify_with}, Pairs.route_from, Paths.{PathRequest, first_path, is_active}, Reports.{call_reported, fibre_into, reported, reported_on, with_fibre, with_report}, State.NodeState, Turns.{decide, has_any}, Waits.on_tick}
use Rattle.mesh_nodes.proofs.{CallList.{called-found, find-with_call}, Cases.if_cases, LegList.{found-lsp, same_lsp-eq}}
use Rattle.lsp_laws.specs.ReportLaw.{reports_of}
use Rattle.lsp_laws.proofs.nodes.Facts.{MeshFacts, NodeFacts}
use Rattle.mesh_laws.specs.SoonLaw.{PostsNothing}
use Rattle.mesh_laws.proofs.{reports.GentleSteps.message-gentle, reports.GentleWords.IsGentle, reports.Reported.{PutsReported, decide-puts, report-after, report-call}, reports.StandingCalls.IsOldLsp, reports.Ticks.tick-gentle, soon.CallsSayDown.IsDown, soon.NoneUp.{IsAlarm, NoneUp}}

-- with a fibre more there is one
pub any-with : (fibres : List Fibre) (f : Fibre) → has_any (with_fibre f fibres) ≡ true
any-with [] f = refl
any-with (g ∷ fibres) f = go (has_fibre (g ∷ fibres) f)
  where
    go : (b : Bool) → has_any (cond b (g ∷ fibres) ((g ∷ fibres) ++ f ∷ [])) ≡ true
    go true = refl
    go false = refl

module _ (l : Lsp) where
  -- a call that names the LSP afterwards was there, and where it had a report of it, it has one
  abbrev pub Keep : List CallRec → List CallRec → Type 0
  Keep before later =
      (k : CallNo) (d : CallRec) → find_call k later ≡ Some d → names l d ≡ true →
      (c : CallRec) × (find_call k before ≡ Some c)
      × (has_any (reports_of l c) ≡ true → has_any (reports_of l d) ≡ true)

  keep-same : (calls : List CallRec) → Keep calls calls
  keep-same calls k d found named = (d, found, λ some. some)

  -- the call of the LSP is put there anew, with a report
  keep-put : (calls : List CallRec) (c put : CallRec) → find_call c.call calls ≡ Some c → put.call ≡ c.call →
      has_any (reports_of l put) ≡ true → Keep calls (with_call put calls)
  keep-put calls c put there number some k d found named =
      go (nat_eq put.call.0 k.0) refl (sym (find-with_call put calls k) ∙ found)
    where
      go : (b : Bool) → nat_eq put.call.0 k.0 ≡ b → cond b (Some put) (find_call k calls) ≡ Some d →
          (c : CallRec) × (find_call k calls ≡ Some c)
          × (has_any (reports_of l c) ≡ true → has_any (reports_of l d) ≡ true)
      go false e is = (d, is, λ had. had)
      go true e is =
          let same : put.call.0 ≡ k.0 = grind arith in
          let at : put.call ≡ k = λ i. record { 0 = same i } in
          let one : put ≡ d = cc is in (
            c,
            subst (λ x. find_call x calls ≡ Some c) (sym number ∙ at) there,
            λ had. subst (λ (x : CallRec). has_any (reports_of l x) ≡ true) one some,
          )

  -- At the node where the LSP begins

  module _ (p : LocalNode) (s : NodeState) (facts : NodeFacts p.id.0 s) (old : IsOldLsp p s l)
      (here : l.ingress.0 ≡ p.id.0) where
    abbrev Keeps : Answer → Type 0
    Keeps a = Keep s.calls (calls_changed a.calls s.calls)

    gentle-keeps : (a : Answer) → IsGentle s l a → Keeps a
    gentle-keeps a g k d found named =
        let was = g.calls k d found named in
        (was.0, was.1, λ some. subst (λ fibres. has_any fibres ≡ true) (sym was.3) some)

    -- a fibre is reported to be down
    call-keeps : (f : Fibre) (o : Option CallRec) → call_with l s.calls ≡ o → Keeps (call_reported s l true f o)
    call-keeps f None is = keep-same s.calls
    call-keeps f (Some c) is =
        let puts : PutsReported l (with_report c l true f)
        (decide s.legs (with_report c l true f) (leg_of c.back s.legs)) =
        decide-puts l s.legs (with_report c l true f) (leg_of c.back s.legs) in
        subst (λ cs. Keep s.calls (calls_changed cs s.calls)) (sym puts.calls)
        (keep-put s.calls c puts.put (called-found l s.calls c facts.calls_rise is)
        (puts.number ∙ report-call c l true f)
        (subst (λ fibres. has_any fibres ≡ true) (sym (puts.reports ∙ report-after c l true f))
        (any-with (reports_of l c) f)))

    fibre-keeps : (g : Leg) → g.lsp ≡ l → (o : Option Fibre) → Keeps (reported_on s g true o)
    fibre-keeps g own None = keep-same s.calls
    fibre-keeps g own (Some f) =
        subst (λ (x : Lsp). Keeps (call_reported s x true f (call_with x s.calls))) (sym own)
        (call-keeps f (call_with l s.calls) refl)

    passed-keeps : (m : Notice) (g : Leg) → g.lsp ≡ l → (o : Option Neighbour) → Keeps (notice_passed p s m g true o)
    passed-keeps m g own None = fibre-keeps g own (fibre_into (route_from p g) g.egress m.at m.link)
    passed-keeps m g own (Some h) = keep-same s.calls

    notice-keeps : (u : NodeId) (m : Notice) (o : Option Leg) → reported m.code ≡ Some true →
        ((g : Leg) → o ≡ Some g → g.lsp ≡ l) → Keeps (notify_with p s u m o)
    notice-keeps u m None down own = keep-same s.calls
    notice-keeps u m (Some g) down own =
        if_cases Keeps (not (is_closing g.phase) && is_node (following g) u) _ _
        (λ e. subst (λ o. Keeps (notice_told p s m g o)) (sym down) (passed-keeps m g (own g refl) (previous g)))
        (λ e. keep-same s.calls)

    -- a first Path doesn't come to its ingress
    first_path-keeps : (m : PathRequest) → m.arrival.lsp.ingress.0 ≡ p.id.0 → (k : Option LinkSpec) →
        Keeps (first_path p s m k)
    first_path-keeps m begins None = keep-same s.calls
    first_path-keeps m begins (Some link) =
        if_cases Keeps (not (is_active m.role) && (leads (Some link) m.arrival.from p.id
        && not (nat_eq m.arrival.lsp.ingress.0 p.id.0))) _ _
        (λ e. absurd (
        let one = (and_parts (not (is_active m.role)) _ e).1 in
        let two = (and_parts (leads (Some link) m.arrival.from p.id) (not (nat_eq m.arrival.lsp.ingress.0 p.id.0)) one).1 in
        let is : nat_eq m.arrival.lsp.ingress.0 p.id.0 ≡ true = grind arith in
        (let never : not true ≡ true = rw is at two in cc never)))
        (λ e. keep-same s.calls)

    message-keeps : (u : NodeId) (m : Msg) → IsDown m → Keeps (on_message p s u m)
    message-keeps u (Resv j e k x) down =
        gentle-keeps _ (message-gentle p s facts l old u (Resv j e k x) refl (λ f. let h = f.0 in cc h))
    message-keeps u (PathTear j e k) down =
        gentle-keeps _ (message-gentle p s facts l old u (PathTear j e k) refl (λ f. let h = f.0 in cc h))
    message-keeps u (PathErr j e at gone code) down =
        gentle-keeps _ (message-gentle p s facts l old u (PathErr j e at gone code) refl (λ f. let h = f.0 in cc h))
    message-keeps u (Notify j e at k code) down = go (same_lsp j l) refl
      where
        m : Notice
        m = record { lsp = j; msg = Notify j e at k code; at = at; link = k; code = code }

        go : (b : Bool) → same_lsp j l ≡ b → Keeps (on_message p s u (Notify j e at k code))
        go false other =
            gentle-keeps _ (message-gentle p s facts l old u (Notify j e at k code) other (λ f. let h = f.0 in cc h))
        go true own =
            notice-keeps u m (find_leg j s.legs) down
            (λ g found. found-lsp j s.legs g found ∙ same_lsp-eq j l own)
    message-keeps u (Path j e k steps set label purpose) down =
        go (same_lsp j l) (is_active purpose) (find_leg j s.legs) refl refl refl
      where
        m : Msg
        m = Path j e k steps set label purpose

        asks : PathRequest
        asks = record { arrival = arrival j e u k; route = steps; set = set; upstream = label; role = purpose }

        go : (x y : Bool) (g : Option Leg) → same_lsp j l ≡ x → is_active purpose ≡ y → find_leg j s.legs ≡ g →
            Keeps (on_message p s u (Path j e k steps set label purpose))
        go false y g x-is y-is g-is =
            gentle-keeps _ (message-gentle p s facts l old u m refl (λ f. let own = f.1 in cc (own, x-is)))
        go true true g x-is y-is g-is =
            gentle-keeps _ (message-gentle p s facts l old u m refl (λ f. (let h = rw y-is at f.0 in cc h)))
        go true false (Some g) x-is y-is g-is =
            gentle-keeps _ (message-gentle p s facts l old u m refl (λ f. let none = f.2 in cc (none, g-is)))
        go true false None x-is y-is g-is =
            let is : j ≡ l = same_lsp-eq j l x-is in
            rw g-is (first_path-keeps asks (subst (λ (x : Lsp). x.ingress.0 ≡ p.id.0) (sym is) here) (own_link p k))

    first-keeps : (u : NodeId) (ms : List Msg) → AllByRecursion IsDown ms → Keeps (on_first p s u ms)
    first-keeps u [] all = keep-same s.calls
    first-keeps u (m ∷ ms) all = message-keeps u m all.0

    item-keeps : (items : List DeskItem) → AllByRecursion IsAlarm items → Keeps (on_first_item p s items)
    item-keeps [] all = keep-same s.calls
    item-keeps (Order x ∷ items) all = absurd all.0
    item-keeps (Clear f ∷ items) all = absurd all.0
    item-keeps (Alarm f ∷ items) all =
        if_cases Keeps (enters p f (own_link p f.link) && not (has_fibre s.down f))
        (knows_down p s f fibre_down_code (s.down ++ f ∷ [])) nothing (λ e. keep-same s.calls) (λ e. keep-same s.calls)

    tick-keeps : Keeps (on_tick p s)
    tick-keeps = gentle-keeps (on_tick p s) (tick-gentle p s facts l)

    link-keeps : (o : Option LinkSpec) → Keeps (on_link p s o)
    link-keeps None = keep-same s.calls
    link-keeps (Some k) =
        if_cases Keeps (has_row (known_rows p s) k.id) _ _ (λ e. keep-same s.calls) (λ e. keep-same s.calls)

-- Over each event in which nothing is posted the call of an LSP that was begun keeps a report of it.
module _ (t : Network) (s : Mesh) (l : Lsp) (facts : MeshFacts t s) (number : l.lsp < (s.nodes l.ingress.0).lsp)
    (none : NoneUp s) where
  old : (m : NodeId) → IsOldLsp (local_node t m) (s.nodes m.0) l
  old m here = subst (λ k. l.lsp < (s.nodes k).lsp) here number

  -- an answer of the node m, over any desks and messages
  answered-keeps : (x : Mesh) → x.nodes ≡ s.nodes → (m : NodeId) (a : Answer) →
      (l.ingress.0 ≡ m.0 → Keep l (s.nodes m.0).calls (calls_changed a.calls (s.nodes m.0).calls)) →
      Keep l (s.nodes l.ingress.0).calls ((commit x m.0 a).nodes l.ingress.0).calls
  answered-keeps x same m a keeps = go (nat_eq l.ingress.0 m.0) refl
    where
      go : (b : Bool) → nat_eq l.ingress.0 m.0 ≡ b →
          Keep l (s.nodes l.ingress.0).calls
          (cond b (changed (x.nodes l.ingress.0) a) (x.nodes l.ingress.0)).calls
      go false e =
          subst (λ (ns : ℕ → NodeState). Keep l (s.nodes l.ingress.0).calls (ns l.ingress.0).calls) (sym same)
          (keep-same l (s.nodes l.ingress.0).calls)
      go true e =
          let is : l.ingress.0 ≡ m.0 = grind arith in
          subst (λ (ns : ℕ → NodeState). Keep l (s.nodes l.ingress.0).calls
          (calls_changed a.calls (ns l.ingress.0).calls)) (sym same)
          (subst (λ k. Keep l (s.nodes k).calls (calls_changed a.calls (s.nodes k).calls)) (sym is) (keeps is))

  -- Over each event in which nothing is posted it does.
  pub reports-stay : (e : MeshEvent) → PostsNothing e →
      Keep l (s.nodes l.ingress.0).calls ((step t s e).nodes l.ingress.0).calls
  reports-stay (Take d u) only =
      answered-keeps (without_first s u.0 d.0) refl d (on_first (local_node t d) (s.nodes d.0) u (s.mail u.0 d.0))
      (λ is. first-keeps l (local_node t d) (s.nodes d.0) (facts.node d.0) (old d) is u (s.mail u.0 d.0)
      (none.mail u.0 d.0))
  reports-stay (Desk m) only =
      answered-keeps (without_item s m.0) refl m (on_first_item (local_node t m) (s.nodes m.0) (s.desks m.0))
      (λ is. item-keeps l (local_node t m) (s.nodes m.0) (facts.node m.0) (old m) is (s.desks m.0) (none.desks m.0))
  reports-stay (Tick m) only =
      answered-keeps s refl m (on_tick (local_node t m) (s.nodes m.0))
      (λ is. tick-keeps l (local_node t m) (s.nodes m.0) (facts.node m.0) (old m) is)
  reports-stay (Learn m k) only =
      answered-keeps s refl m (on_link (local_node t m) (s.nodes m.0) (find_link t k))
      (λ is. link-keeps l (local_node t m) (s.nodes m.0) (facts.node m.0) (old m) is (find_link t k))
  reports-stay (Post c) only = absurd only
