-- While a backup alone is being activated: over each event it alone moves, and its call turns or is stuck.
use Rattle.std.proofs.Common.{◌≡◌, ℕ, Bool, true, false, cond, nat_eq, not, List, [], ◌∷◌, refl, sym, ap, ◌∙◌, subst, arith, inl, inr}
use Rattle.std.specs.{Prelude.{◌⊎◌, Option, Some, None, is_some}, List.AllByRecursion}
use Rattle.ason_base.specs.{Codes.busy_code, Network.{Network, find_link}, declared.calls.CallState.TheVariants.{Stuck, Turned, Turning}, declared.calls.Cause.TheVariants.Code, declared.ids.CallNo.CallNo, declared.ids.Fibre.Fibre, declared.ids.Lsp.Lsp, declared.ids.NodeId.NodeId, declared.messages.Msg.Msg, declared.tables.CallRec.CallRec, declared.tables.Leg.Leg}
use Rattle.ason_base.proofs.Numbers.{self-number}
use Rattle.mesh_rules.specs.{declared.changes.CallChange.CallChange, declared.events.MeshEvent.MeshEvent, declared.events.MeshEvent.TheVariants.{Take, Desk, Tick, Learn, Post}, Calls.{call_with, calls_changed, find_call, stuck, turned, with_call}, Changes.{Answer, changed}, Events.{has_first, is_enabled, on_first, step}, Learnt.on_link, Legs.{find_leg, is_beyond_asked, neighbour_over, previous, with_phase}, LocalNodes.local_node, Machine.{Mesh, commit, without_first}, State.NodeState, Turns.has_any, Waits.on_tick}
use Rattle.mesh_nodes.proofs.{CallList.{all-with_call, find-with_call, found-number}, LegList.found-lsp}
use Rattle.lsp_laws.proofs.{nodes.CallParts.names-back, nodes.Facts.{LegFacts, MeshFacts, NodeFacts}}
use Rattle.mesh_laws.specs.RetryLaw.{IsBusySomewhere, IsLeftAlone, NoneWaits}
use Rattle.mesh_laws.proofs.{acts.Busy.leg-busy, causes.Lone.the-call, retried.Pending.{IsStill, IsTimeless, still-link, still-tick}, retried.Only.{IsOfTurn, LegMoves, Moved, Moves, NoneThere, OnlyMoved, Stays, busy-before, moves-on, without-first}, retried.Rules.{CallMoves, CallStays, CallSticks, CallTurns, RetryGoes, Knows, goes-message}}

-- the call of the backup, at its ingress; P where the backup is busy somewhere
pub record CallGoes (P : Type 0) (b : Lsp) (k : CallNo) (calls : List CallRec) : Type 0 where
  pub call : CallRec
  pub found : find_call k calls ≡ Some call
  pub back : call.back ≡ Some b
  pub works : has_any call.work_reports ≡ true
  pub state : (call.state ≡ Turning) ⊎ ((call.state ≡ Turned) ⊎ ((call.state ≡ Stuck) × (call.cause ≡ Code busy_code) × P))

-- the backup alone has moved since s, and no call has begun to wait; n is its ingress
pub record Going (t : Network) (s : Mesh) (n : NodeId) (k : CallNo) (b : Lsp) (now : Mesh) : Type 0 where
  pub moved : OnlyMoved s b now
  pub waits : NoneWaits t s → (m : ℕ) → AllByRecursion (IsTimeless t.wait) (now.nodes m).calls
  pub call : CallGoes (IsBusySomewhere s b) b k (now.nodes n.0).calls
  pub desks : (m : ℕ) → now.desks m ≡ []

-- Calls

-- a call that is put in place of one of its number stands
pub put-there : (k : CallNo) (c : CallRec) (calls : List CallRec) → c.call ≡ k →
    find_call k (with_call c calls) ≡ Some c
put-there k c calls is =
    let test : nat_eq c.call.0 k.0 ≡ true = subst (λ m. nat_eq m.0 k.0 ≡ true) (sym is) (self-number k.0) in
    find-with_call c calls k ∙ ap (λ t. cond t (Some c) (find_call k calls)) test

call-goes : (P : Type 0) (b : Lsp) (n : ℕ) (k : CallNo) (x : NodeState) → NodeFacts n x → CallGoes P b k x.calls →
    (cs : List CallChange) → CallMoves P b x.calls cs → CallGoes P b k (calls_changed cs x.calls)
call-goes P b n k x facts old _ CallStays = old
call-goes P b n k x facts old _ (CallTurns c called works) =
    let there = the-call n x b k old.call facts old.found (names-back old.call b old.back) in
    let one : old.call ≡ c = cc (there, called) in
    let number : c.call ≡ k = subst (λ (d : CallRec). d.call ≡ k) one (found-number k x.calls old.call old.found) in
    record {
      call = turned c;
      found = put-there k (turned c) x.calls number;
      back = subst (λ (d : CallRec). d.back ≡ Some b) one old.back;
      works = subst (λ (d : CallRec). has_any d.work_reports ≡ true) one old.works;
      state = inr (inl refl);
    }
call-goes P b n k x facts old _ (CallSticks c called full) =
    let there = the-call n x b k old.call facts old.found (names-back old.call b old.back) in
    let one : old.call ≡ c = cc (there, called) in
    let number : c.call ≡ k = subst (λ (d : CallRec). d.call ≡ k) one (found-number k x.calls old.call old.found) in
    record {
      call = stuck c (Code busy_code);
      found = put-there k (stuck c (Code busy_code)) x.calls number;
      back = subst (λ (d : CallRec). d.back ≡ Some b) one old.back;
      works = subst (λ (d : CallRec). has_any d.work_reports ≡ true) one old.works;
      state = inr (inr (refl, refl, full));
    }

any-not : (fs : List Fibre) → has_any fs ≡ true → fs ≡ [] → ⊥
any-not fs some none = (let never : false ≡ true = rw none at some in cc never)

-- no call begins to wait
timeless-after : (P : Type 0) (b : Lsp) (wait : ℕ) (calls : List CallRec) (cs : List CallChange) →
    CallMoves P b calls cs → AllByRecursion (IsTimeless wait) calls →
    AllByRecursion (IsTimeless wait) (calls_changed cs calls)
timeless-after P b wait calls _ CallStays all = all
timeless-after P b wait calls _ (CallTurns c called works) all =
    all-with_call (IsTimeless wait) (turned c) calls (λ waits. any-not c.work_reports works waits.2) all
timeless-after P b wait calls _ (CallSticks c called full) all =
    all-with_call (IsTimeless wait) (stuck c (Code busy_code)) calls (λ waits. stuck-apart waits.1) all
  where
    stuck-apart : Stuck ≡ Turned → ⊥
    stuck-apart e = cc e

-- Legs

moved-up : (o o' : Option Leg) → Moved o o' → (g : Leg) → o' ≡ Some g → is_beyond_asked g.phase ≡ true
moved-up _ _ NoneThere g e = absurd (cc e)
moved-up _ _ (Moves h q up) g e =
    let is : with_phase q h ≡ g = cc e in subst (λ (x : Leg). is_beyond_asked x.phase ≡ true) is up

pub first-node : (p : Option NodeId) (f : Option Fibre) → neighbour_over p f ≡ None → is_some f ≡ is_some p →
    is_some p ≡ false
first-node None f none both = refl
first-node (Some m) None none both = sym both
first-node (Some m) (Some f) none both = absurd (cc none)

pub begins-here : (i n : ℕ) (x : Bool) → x ≡ false → x ≡ not (nat_eq i n) → i ≡ n
begins-here i n x none is = (let test : not (nat_eq i n) ≡ false = sym is ∙ none in grind arith)

-- One step

module _ (t : Network) (s : Mesh) (n : NodeId) (k : CallNo) (b : Lsp) (ingress : b.ingress.0 ≡ n.0) (now : Mesh)
    (facts : MeshFacts t now) (going : Going t s n k b now) where
  abbrev Busy : Type 0
  Busy = IsBusySomewhere s b

  -- the call whose backup begins at this node is the one that tries again
  hit-here : (d : NodeId) (g : Leg) (c : CallRec) → find_leg b (now.nodes d.0).legs ≡ Some g → previous g ≡ None →
      call_with b (now.nodes d.0).calls ≡ Some c → has_any c.work_reports ≡ true
  hit-here d g c here first called =
      let its : LegFacts d.0 (now.nodes d.0).lsp g = (facts.node d.0).leg b g here in
      let own : g.lsp ≡ b = found-lsp b (now.nodes d.0).legs g here in
      let begins : g.lsp.ingress.0 ≡ d.0 =
      begins-here g.lsp.ingress.0 d.0 (is_some g.prev) (first-node g.prev g.in_fibre first its.in_fibre) its.prev in
      let at_n : n.0 ≡ d.0 = sym ingress ∙ ap (λ (l : Lsp). l.ingress.0) (sym own) ∙ begins in
      let there : call_with b (now.nodes n.0).calls ≡ Some going.call.call =
      the-call n.0 (now.nodes n.0) b k going.call.call (facts.node n.0) going.call.found
      (names-back going.call.call b going.call.back) in
      let here' : call_with b (now.nodes d.0).calls ≡ Some going.call.call =
      subst (λ m. call_with b (now.nodes m).calls ≡ Some going.call.call) at_n there in
      let one : going.call.call ≡ c = cc (here', called) in
      subst (λ (x : CallRec). has_any x.work_reports ≡ true) one going.call.works

  knows : (d : NodeId) → Knows Busy b (now.nodes d.0)
  knows d = record {
    up = λ g here. moved-up _ _ (going.moved.own d) g here;
    busy = λ g here full.
        busy-before t s b now facts going.moved d g here (leg-busy (now.nodes d.0).legs g full);
    hit = hit-here d;
  }

  call-after : (d : NodeId) (a : Answer) → CallMoves Busy b (now.nodes d.0).calls a.calls →
      CallGoes Busy b k ((commit now d.0 a).nodes n.0).calls
  call-after d a moves = go (nat_eq n.0 d.0) refl
    where
      go : (c : Bool) → nat_eq n.0 d.0 ≡ c →
          CallGoes Busy b k (cond c (changed (now.nodes n.0) a) (now.nodes n.0)).calls
      go true e =
          let is : d.0 ≡ n.0 = grind arith in
          call-goes Busy b n.0 k (now.nodes n.0) (facts.node n.0) going.call a.calls
          (subst (λ m. CallMoves Busy b (now.nodes m).calls a.calls) is moves)
      go false e = going.call

  waits-after : (d : NodeId) (a : Answer) → CallMoves Busy b (now.nodes d.0).calls a.calls → NoneWaits t s → (m : ℕ) →
      AllByRecursion (IsTimeless t.wait) ((commit now d.0 a).nodes m).calls
  waits-after d a moves none m = go (nat_eq m d.0) refl
    where
      go : (c : Bool) → nat_eq m d.0 ≡ c →
          AllByRecursion (IsTimeless t.wait) (cond c (changed (now.nodes m) a) (now.nodes m)).calls
      go true e =
          let is : d.0 ≡ m = grind arith in
          timeless-after Busy b t.wait (now.nodes m).calls a.calls
          (subst (λ j. CallMoves Busy b (now.nodes j).calls a.calls) is moves) (going.waits none m)
      go false e = going.waits none m

  first-goes : (d u : NodeId) (ms : List Msg) → now.mail u.0 d.0 ≡ ms → has_first ms ≡ true →
      RetryGoes Busy b (now.nodes d.0) (on_first (local_node t d) (now.nodes d.0) u ms)
  first-goes d u [] is some = absurd (cc some)
  first-goes d u (m ∷ ms) is some =
      let all : AllByRecursion (IsOfTurn Busy b) (m ∷ ms) =
      subst (AllByRecursion (IsOfTurn Busy b)) is (going.moved.mail u.0 d.0) in
      goes-message Busy b (local_node t d) (now.nodes d.0) (knows d) u m all.0

  -- an answer that changes nothing of it
  going-still : (m : NodeId) (a : Answer) → IsStill a → Going t s n k b (commit now m.0 a)
  going-still m a still = record {
    moved = moves-on s b now m a going.moved (record {
      leg = subst (LegMoves b (now.nodes m.0).legs) (sym still.legs) Stays;
      sent = subst (AllByRecursion (λ o. IsOfTurn Busy b o.msg)) (sym still.sent) tt;
    });
    waits = waits-after m a (subst (CallMoves Busy b (now.nodes m.0).calls) (sym still.calls) CallStays);
    call = call-after m a (subst (CallMoves Busy b (now.nodes m.0).calls) (sym still.calls) CallStays);
    desks = going.desks;
  }

  -- Over each event the activation alone goes on.
  pub goes-on : (e : MeshEvent) → IsLeftAlone t s e → is_enabled t now e ≡ true → Going t s n k b (step t now e)
  goes-on (Take d u) alone enabled =
      let a : Answer = on_first (local_node t d) (now.nodes d.0) u (now.mail u.0 d.0) in
      let goes = first-goes d u (now.mail u.0 d.0) refl enabled in
      record {
        moved = moves-on s b (without_first now u.0 d.0) d a (without-first s b now u.0 d.0 going.moved) goes.turns;
        waits = waits-after d a goes.call;
        call = call-after d a goes.call;
        desks = going.desks;
      }
  goes-on (Desk m) alone enabled =
      absurd (let none : has_first (now.desks m.0) ≡ false = rw (going.desks m.0) refl in cc (none, enabled))
  goes-on (Tick m) alone enabled =
      going-still m (on_tick (local_node t m) (now.nodes m.0)) (still-tick (local_node t m) (now.nodes m.0) (going.waits alone m.0))
  goes-on (Learn m j) alone enabled =
      going-still m (on_link (local_node t m) (now.nodes m.0) (find_link t j))
      (still-link (local_node t m) (now.nodes m.0) (find_link t j))
  goes-on (Post c) alone enabled = absurd alone
