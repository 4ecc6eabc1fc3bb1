-- A leg that is Asked at its ingress after an event was Asked before it, unless its LSP was begun by it.
use Rattle.std.proofs.{Common.{◌≡◌, ◌≢◌, ◌<◌, ◌⊎◌, ℕ, Bool, true, false, cond, nat_eq, List, [], ◌∷◌, ◌++◌, refl, sym, ap, subst, arith, inl, inr}, lemmas.Bool.and_parts}
use Rattle.std.specs.Prelude.{◌&&◌, not, Option, Some, None}
use Rattle.ason_base.specs.{Codes.{fibre_down_code, fibre_up_code}, Lsps.{has_fibre, same_lsp, without_fibre}, Network.{Network, find_link}, declared.calls.CallState.CallState, declared.calls.CallState.TheVariants.{Asking, Bare, Blocked, Guarded, Pairing, Stuck, Turned, Turning}, declared.calls.Phase.TheVariants.{Armed, Held}, declared.commands.DeskItem.DeskItem, declared.commands.DeskItem.TheVariants.{Order, Alarm, Clear}, declared.commands.Command.Command, declared.commands.Command.TheVariants.{Setup, Release, Protect, Retry, Revert, Fail, Repair}, declared.ids.Fibre.Fibre, declared.ids.Lsp.Lsp, declared.ids.NodeId.NodeId, declared.messages.Msg.Msg, declared.messages.Msg.TheVariants.{Path, Resv, PathTear, PathErr, Notify}, declared.network.LinkSpec.LinkSpec, declared.tables.CallRec.CallRec, declared.tables.Leg.Leg}
use Rattle.ason_base.proofs.JoinedEnds.{same-node}
use Rattle.mesh_rules.specs.declared.changes.LegChange.TheVariants as leg
use Rattle.mesh_rules.specs.{declared.events.MeshEvent.MeshEvent, declared.events.MeshEvent.TheVariants.{Take, Desk, Tick, Learn, Post}, declared.neighbours.Neighbour.Neighbour, Alarms.{enters, knows_down, on_alarm, on_clear}, Calls.call_with, Changes.{Answer, nothing}, Events.{on_first, on_first_item, posted, step}, KnownRows.{has_row, known_rows}, Learnt.on_link, Legs.{find_leg, following, is_closing, is_contended, is_held, is_in_use, is_node, previous, with_phase}, LocalNodes.{LocalNode, leads, local_node, own_link}, Machine.{Mesh, commit, without_first, without_item}, Messages.{arrival, on_message}, Notifies.{Notice, notice_passed, notice_told, notify_with}, Orders.on_item, Paths.{PathRequest, first_path, is_active}, Reports.{call_reported, reported, reported_on}, State.NodeState, Turns.{decided, go_back, turn}, Waits.on_tick}
use Rattle.mesh_nodes.proofs.{Cases.if_cases, LegList.same_lsp-eq}
use Rattle.lsp_laws.specs.HopLaw.{leg_at}
use Rattle.lsp_laws.proofs.{nodes.Facts.{MeshFacts, NodeFacts}, hops.Chain.is_or_not, hops.Tables.leg_after, hops.Views.{leg-here, leg-there}}
use Rattle.mesh_laws.proofs.{reports.GentleSteps.{message-gentle, order-gentle}, reports.GentleWords.{IsGentle, is_waiting}, reports.StandingCalls.IsOldLsp, reports.Ticks.tick-gentle}

module _ (l : Lsp) where
  -- where the leg is Asked after the answer, it was Asked before
  abbrev WasAsked : Option Leg → Answer → Type 0
  WasAsked o a = is_waiting (leg_after l a.legs o) ≡ true → is_waiting o ≡ true

  module _ (o : Option Leg) where
    -- a leg that is Armed, or Held again
    puts-armed : (b : Leg) → is_waiting (leg_after l (leg.Put (with_phase Armed b) ∷ []) o) ≡ true → is_waiting o ≡ true
    puts-armed b = go (same_lsp b.lsp l)
      where
        go : (x : Bool) → is_waiting (cond x (Some (with_phase Armed b)) o) ≡ true → is_waiting o ≡ true
        go true h = absurd (cc h)
        go false h = h

    puts-held : (b : Leg) → is_waiting (leg_after l (leg.Put (with_phase Held b) ∷ []) o) ≡ true → is_waiting o ≡ true
    puts-held b = go (same_lsp b.lsp l)
      where
        go : (x : Bool) → is_waiting (cond x (Some (with_phase Held b)) o) ≡ true → is_waiting o ≡ true
        go true h = absurd (cc h)
        go false h = h

    turn-was : (legs : List Leg) (c : CallRec) (b : Option Leg) → WasAsked o (turn legs c b)
    turn-was legs c None = λ h. h
    turn-was legs c (Some b) =
        if_cases (WasAsked o) (is_held b.phase) _ _
        (λ e. if_cases (WasAsked o) (is_contended legs b) _ _ (λ f h. h) (λ f. puts-armed b)) (λ e h. h)

    back-was : (c : CallRec) (b : Option Leg) → WasAsked o (go_back c b)
    back-was c None = λ h. h
    back-was c (Some b) = if_cases (WasAsked o) (is_in_use b.phase) _ _ (λ e. puts-held b) (λ e h. h)

    decided-was : (legs : List Leg) (c : CallRec) (b : Option Leg) (f : CallState) (works backs : Bool) →
        WasAsked o (decided legs c b f works backs)
    decided-was legs c b Asking works backs = λ h. h
    decided-was legs c b Blocked works backs = λ h. h
    decided-was legs c b Bare works backs = λ h. h
    decided-was legs c b Pairing works backs = λ h. h
    decided-was legs c b Turning works backs = λ h. h
    decided-was legs c b Guarded true false = turn-was legs c b
    decided-was legs c b Guarded true true = λ h. h
    decided-was legs c b Guarded false backs = λ h. h
    decided-was legs c b Turned true backs = λ h. h
    decided-was legs c b Turned false true = back-was c b
    decided-was legs c b Turned false false = λ h. h
    decided-was legs c b Stuck true backs = λ h. h
    decided-was legs c b Stuck false backs = λ h. h

    reported-was : (s : NodeState) (k : Lsp) (down : Bool) (f : Fibre) (c : Option CallRec) →
        WasAsked o (call_reported s k down f c)
    reported-was s k down f None = λ h. h
    reported-was s k down f (Some c) = decided-was s.legs _ _ _ _ _

    fibre-was : (s : NodeState) (g : Leg) (down : Bool) (f : Option Fibre) → WasAsked o (reported_on s g down f)
    fibre-was s g down None = λ h. h
    fibre-was s g down (Some f) = reported-was s g.lsp down f (call_with g.lsp s.calls)

    passed-was : (p : LocalNode) (s : NodeState) (m : Notice) (g : Leg) (down : Bool) (h : Option Neighbour) →
        WasAsked o (notice_passed p s m g down h)
    passed-was p s m g down None = fibre-was s g down _
    passed-was p s m g down (Some n) = λ h. h

    told-was : (p : LocalNode) (s : NodeState) (m : Notice) (g : Leg) (down : Option Bool) →
        WasAsked o (notice_told p s m g down)
    told-was p s m g None = λ h. h
    told-was p s m g (Some down) = passed-was p s m g down (previous g)

    notify-was : (p : LocalNode) (s : NodeState) (u : NodeId) (m : Notice) (g : Option Leg) →
        WasAsked o (notify_with p s u m g)
    notify-was p s u m None = λ h. h
    notify-was p s u m (Some g) =
        if_cases (WasAsked o) (not (is_closing g.phase) && is_node (following g) u) _ _
        (λ e. told-was p s m g (reported m.code)) (λ e h. h)

    alarm-was : (p : LocalNode) (s : NodeState) (f : Fibre) → WasAsked o (on_alarm p s f)
    alarm-was p s f =
        if_cases (WasAsked o) (enters p f (own_link p f.link) && not (has_fibre s.down f))
        (knows_down p s f fibre_down_code (s.down ++ f ∷ [])) nothing (λ e h. h) (λ e h. h)

    clear-was : (p : LocalNode) (s : NodeState) (f : Fibre) → WasAsked o (on_clear p s f)
    clear-was p s f =
        if_cases (WasAsked o) (enters p f (own_link p f.link) && has_fibre s.down f)
        (knows_down p s f fibre_up_code (without_fibre f s.down)) nothing (λ e h. h) (λ e h. h)

    link-was : (p : LocalNode) (s : NodeState) (k : Option LinkSpec) → WasAsked o (on_link p s k)
    link-was p s None = λ h. h
    link-was p s (Some k) = if_cases (WasAsked o) (has_row (known_rows p s) k.id) _ _ (λ e h. h) (λ e h. h)

    -- a first Path doesn't come to its ingress
    first-was : (p : LocalNode) (s : NodeState) (m : PathRequest) → m.arrival.lsp.ingress.0 ≡ p.id.0 →
        (k : Option LinkSpec) → WasAsked o (first_path p s m k)
    first-was p s m here None = λ h. h
    first-was p s m here (Some link) =
        if_cases (WasAsked o) (not (is_active m.role) && (leads (Some link) m.arrival.from p.id
        && not (nat_eq m.arrival.lsp.ingress.0 p.id.0))) _ _
        (λ e. absurd (
        let one = (and_parts (not (is_active m.role)) _ e).1 in
        let two = (and_parts (leads (Some link) m.arrival.from p.id) (not (nat_eq m.arrival.lsp.ingress.0 p.id.0)) one).1 in
        let is : nat_eq m.arrival.lsp.ingress.0 p.id.0 ≡ true = grind arith in
        (let never : not true ≡ true = rw is at two in cc never)))
        (λ e h. h)

  module _ (p : LocalNode) (s : NodeState) (facts : NodeFacts p.id.0 s) (old : IsOldLsp p s l)
      (here : l.ingress.0 ≡ p.id.0) where
    abbrev Was : Answer → Type 0
    Was a = WasAsked (find_leg l s.legs) a

    gentle-was : (a : Answer) → IsGentle s l a → Was a
    gentle-was a g = g.legs.waits

    item-was : (i : DeskItem) → Was (on_item p s i)
    item-was (Order c) = gentle-was (on_item p s (Order c)) (order-gentle p s facts l old c)
    item-was (Alarm f) = alarm-was (find_leg l s.legs) p s f
    item-was (Clear f) = clear-was (find_leg l s.legs) p s f

    first_item-was : (items : List DeskItem) → Was (on_first_item p s items)
    first_item-was [] = λ h. h
    first_item-was (i ∷ items) = item-was i

    tick-was : Was (on_tick p s)
    tick-was = gentle-was (on_tick p s) (tick-gentle p s facts l)

    path-was : (m : PathRequest) (u : NodeId) (g : Option Leg) → m.arrival.from ≡ u → find_leg m.arrival.lsp s.legs ≡ g →
        same_lsp m.arrival.lsp l ≡ true → g ≡ None → Was (first_path p s m (own_link p m.arrival.link))
    path-was m u g from found own none =
        let is : m.arrival.lsp ≡ l = same_lsp-eq m.arrival.lsp l own in
        first-was (find_leg l s.legs) p s m (subst (λ (x : Lsp). x.ingress.0 ≡ p.id.0) (sym is) here)
        (own_link p m.arrival.link)

    message-was : (u : NodeId) (m : Msg) → Was (on_message p s u m)
    message-was u (Resv j e k x) = gentle-was _ (message-gentle p s facts l old u (Resv j e k x) refl (λ f. let h = f.0 in cc h))
    message-was u (PathTear j e k) = gentle-was _ (message-gentle p s facts l old u (PathTear j e k) refl (λ f. let h = f.0 in cc h))
    message-was u (PathErr j e at gone code) =
        gentle-was _ (message-gentle p s facts l old u (PathErr j e at gone code) refl (λ f. let h = f.0 in cc h))
    message-was u (Notify j e at k code) =
        notify-was (find_leg l s.legs) p s u
        (record { lsp = j; msg = Notify j e at k code; at = at; link = k; code = code }) (find_leg j s.legs)
    message-was u (Path j e k steps set label purpose) =
        go (same_lsp j l) (is_active purpose) (find_leg j s.legs) refl refl refl
      where
        m : Msg
        m = Path j e k steps set label purpose

        asks : PathRequest
        asks = record { arrival = arrival j e u k; route = steps; set = set; upstream = label; role = purpose }

        go : (x y : Bool) (g : Option Leg) → same_lsp j l ≡ x → is_active purpose ≡ y → find_leg j s.legs ≡ g →
            Was (on_message p s u (Path j e k steps set label purpose))
        go false y g x-is y-is g-is =
            gentle-was _ (message-gentle p s facts l old u m refl (λ f. let own = f.1 in cc (own, x-is)))
        go true true g x-is y-is g-is =
            gentle-was _ (message-gentle p s facts l old u m refl (λ f. (let h = rw y-is at f.0 in cc h)))
        go true false (Some g) x-is y-is g-is =
            gentle-was _ (message-gentle p s facts l old u m refl (λ f. let none = f.2 in cc (none, g-is)))
        go true false None x-is y-is g-is =
            rw g-is (path-was asks u None refl g-is x-is refl)

    first-message-was : (u : NodeId) (ms : List Msg) → Was (on_first p s u ms)
    first-message-was u [] = λ h. h
    first-message-was u (m ∷ ms) = message-was u m

-- Every event

pub posted-legs : (t : Network) (s : Mesh) (c : Command) (l : Lsp) (n : NodeId) → leg_at (posted t s c) l n ≡ leg_at s l n
posted-legs t s (Setup n from to protected and_parts via backup) l m = refl
posted-legs t s (Release n from) l m = refl
posted-legs t s (Protect n from) l m = refl
posted-legs t s (Retry n from) l m = refl
posted-legs t s (Revert n from) l m = refl
posted-legs t s (Fail g) l m = refl
posted-legs t s (Repair g) l m = refl

module _ (t : Network) (s : Mesh) (l : Lsp) (facts : MeshFacts t s) (number : l.lsp < (s.nodes l.ingress.0).lsp) where
  abbrev n : NodeId
  n = l.ingress

  old : (m : NodeId) → IsOldLsp (local_node t m) (s.nodes m.0) l
  old m here = subst (λ k. l.lsp < (s.nodes k).lsp) here number

  -- an answer of a node, over any desks and messages
  answered-was : (x : Mesh) → x.nodes ≡ s.nodes → (m : NodeId) (a : Answer) →
      (m ≡ l.ingress → WasAsked l (find_leg l (s.nodes m.0).legs) a) →
      is_waiting (leg_at (commit x m.0 a) l l.ingress) ≡ true → is_waiting (leg_at s l l.ingress) ≡ true
  answered-was x same m a was h = go (is_or_not l.ingress.0 m.0)
    where
      go : (l.ingress.0 ≡ m.0) ⊎ (l.ingress.0 ≢ m.0) → is_waiting (leg_at s l l.ingress) ≡ true
      go (inr apart) =
          subst (λ (ns : ℕ → NodeState). is_waiting (find_leg l (ns l.ingress.0).legs) ≡ true) same
          (subst (λ o. is_waiting o ≡ true) (leg-there x m l.ingress l a apart) h)
      go (inl e) =
          let is : m ≡ l.ingress = same-node m l.ingress (sym e) in
          let at-m : is_waiting (leg_at (commit x m.0 a) l m) ≡ true =
          subst (λ (k : NodeId). is_waiting (leg_at (commit x m.0 a) l k) ≡ true) (sym is) h in
          let after : is_waiting (leg_after l a.legs (leg_at x l m)) ≡ true =
          subst (λ o. is_waiting o ≡ true) (leg-here x m l a) at-m in
          let there : is_waiting (leg_after l a.legs (find_leg l (s.nodes m.0).legs)) ≡ true =
          subst (λ (ns : ℕ → NodeState). is_waiting (leg_after l a.legs (find_leg l (ns m.0).legs)) ≡ true) same after in
          subst (λ (k : NodeId). is_waiting (leg_at s l k) ≡ true) is (was is there)

  -- Over each event a leg that is Asked afterwards was Asked before it.
  pub asked-was : (e : MeshEvent) → is_waiting (leg_at (step t s e) l l.ingress) ≡ true →
      is_waiting (leg_at s l l.ingress) ≡ true
  asked-was (Take d u) =
      answered-was (without_first s u.0 d.0) refl d (on_first (local_node t d) (s.nodes d.0) u (s.mail u.0 d.0))
      (λ is. first-message-was l (local_node t d) (s.nodes d.0) (facts.node d.0) (old d)
      (ap (λ (k : NodeId). k.0) (sym is)) u (s.mail u.0 d.0))
  asked-was (Desk m) =
      answered-was (without_item s m.0) refl m (on_first_item (local_node t m) (s.nodes m.0) (s.desks m.0))
      (λ is. first_item-was l (local_node t m) (s.nodes m.0) (facts.node m.0) (old m)
      (ap (λ (k : NodeId). k.0) (sym is)) (s.desks m.0))
  asked-was (Tick m) =
      answered-was s refl m (on_tick (local_node t m) (s.nodes m.0))
      (λ is. tick-was l (local_node t m) (s.nodes m.0) (facts.node m.0) (old m) (ap (λ (k : NodeId). k.0) (sym is)))
  asked-was (Learn m k) =
      answered-was s refl m (on_link (local_node t m) (s.nodes m.0) (find_link t k))
      (λ is. link-was l (find_leg l (s.nodes m.0).legs) (local_node t m) (s.nodes m.0) (find_link t k))
  asked-was (Post c) = λ h. subst (λ o. is_waiting o ≡ true) (posted-legs t s c l l.ingress) h
