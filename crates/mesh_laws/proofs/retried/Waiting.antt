-- Before the order to try again is handled nothing has moved; when it is, the backup is activated, or is busy.
use Rattle.std.proofs.{Common.{◌≡◌, ℕ, Bool, true, false, cond, nat_eq, not, List, [], ◌∷◌, refl, sym, ap, ◌∙◌, subst, inl, inr}, lemmas.Bool.and_from}
use Rattle.std.specs.{Prelude.{◌⊎◌, ◌&&◌, Option, Some, None}, List.AllByRecursion}
use Rattle.ason_base.specs.{Codes.busy_code, Network.Network, declared.calls.Cause.TheVariants.Code, declared.calls.Phase.TheVariants.{Armed, Held}, declared.commands.Command.TheVariants.Retry, declared.commands.DeskItem.TheVariants.Order, declared.ids.LinkId.LinkId, declared.ids.Lsp.Lsp, declared.ids.NodeId.NodeId, declared.messages.Msg.TheVariants.Path, declared.messages.PathRole.PathRole, declared.messages.PathRole.TheVariants.{Work, Back}, declared.steps.Step.Step, declared.tables.CallRec.CallRec, declared.tables.Leg.Leg, declared.tables.Out.Out, declared.calls.CallState.TheVariants.{Stuck, Turned, Turning}}
use Rattle.ason_base.specs.declared.calls.Role.TheVariants as role
use Rattle.mesh_rules.specs.{declared.events.MeshEvent.MeshEvent, declared.neighbours.Neighbour.Neighbour, Calls.{calls_changed, find_call, is_stuck, stuck, turning}, Changes.{Answer, changed, nothing}, declared.changes.LegChange.LegChange, Events.{is_enabled, step}, Legs.{find_leg, following, is_beyond_asked, is_contended, is_held, leg_of}, LocalNodes.{LocalNode, local_node}, Machine.{Mesh, commit, without_item}, Orders.on_item, Paths.role_of, Retries.{retries, retry_with}, State.NodeState, Turns.{activating, activating_path, arms, call_put, has_any, turn, turn_to}}
use Rattle.mesh_rules.specs.declared.changes.CallChange.TheVariants as call
use Rattle.ason_base.proofs.Numbers.{self-number}
use Rattle.mesh_nodes.proofs.{CallList.all-with_call, Cases.if_cases, LegList.found-lsp}
use Rattle.lsp_laws.specs.HopLaw.{leg_at}
use Rattle.mesh_laws.specs.RetryLaw.{IsBusySomewhere, IsLeftAlone, NoneWaits}
use Rattle.mesh_laws.proofs.{acts.Busy.leg-busy, retried.Going.{CallGoes, Going, put-there}, retried.Pending.{IsTimeless, Pending, desks-empty, pends-on, timeless}, retried.Only.{IsOfTurn, Moved, Moves, NoneThere, OnlyMoved, Puts, Stays, Turns, moves-on}}

-- what is known of the call that tries again: its backup is Held at each node
pub record MayTurnAgain (s : Mesh) (n : NodeId) (b : Lsp) (c : CallRec) : Type 0 where
  pub found : find_call c.call (s.nodes n.0).calls ≡ Some c
  pub back : c.back ≡ Some b
  pub tries : is_stuck c.state ≡ true
  pub works : has_any c.work_reports ≡ true
  pub backs : has_any c.back_reports ≡ false
  pub ingress : b.ingress ≡ n
  pub leg : Leg
  pub there : leg_at s b n ≡ Some leg
  pub held : leg.phase ≡ Held
  pub of_back : role_of leg.path_role ≡ role.Back
  pub up : (m : NodeId) (g : Leg) → leg_at s b m ≡ Some g → is_beyond_asked g.phase ≡ true

not-moved : (o : Option Leg) → ((g : Leg) → o ≡ Some g → is_beyond_asked g.phase ≡ true) → Moved o o
not-moved None up = NoneThere
not-moved (Some g) up = Moves g g.phase (up g refl)

-- The order

-- no call begins to wait
pub record StartsNoWait (a : Answer) : Type 0 where
  pub timeless : (wait : ℕ) (calls : List CallRec) → AllByRecursion (IsTimeless wait) calls →
      AllByRecursion (IsTimeless wait) (calls_changed a.calls calls)

untimed : (d : CallRec) (outs : List LegChange) (sent : List Out) → (d.state ≡ Turned → ⊥) →
    StartsNoWait (record nothing { legs = outs; calls = call.Put d ∷ []; sent = sent })
untimed d outs sent apart = record {
  timeless = λ wait calls all. all-with_call (IsTimeless wait) d calls (λ waits. apart waits.1) all;
}

stuck-apart : Stuck ≡ Turned → ⊥
stuck-apart e = cc e

turning-apart : Turning ≡ Turned → ⊥
turning-apart e = cc e

module _ (P : Type 0) (b : Lsp) (x : NodeState) (c : CallRec) (g : Leg) (here : find_leg b x.legs ≡ Some g)
    (held : g.phase ≡ Held) (of_back : role_of g.path_role ≡ role.Back) (busy : is_contended x.legs g ≡ true → P)
    (back : c.back ≡ Some b) (works : has_any c.work_reports ≡ true) where
  -- what the order makes of the node
  abbrev pub Begins : Answer → Type 0
  Begins a = Turns P b x.legs a × CallGoes P b c.call (calls_changed a.calls x.calls) × StartsNoWait a

  active-sent : (j : Lsp) (e : NodeId) (l : LinkId) (route : List Step) (set : List ℕ) (up : Option ℕ) (r : PathRole) →
      role_of r ≡ role.Back → j ≡ b → IsOfTurn P b (Path j e l route set up (activating r))
  active-sent j e l route set up (Work guard) is own = absurd (cc is)
  active-sent j e l route set up (Back active work primary) is own = own

  path-sent : (h : Option Neighbour) → AllByRecursion (λ o. IsOfTurn P b o.msg) (activating_path g h)
  path-sent None = tt
  path-sent (Some h) = (
    active-sent g.lsp g.egress h.fibre.link g.route g.sent g.back_in g.path_role of_back (found-lsp b x.legs g here),
    tt,
  )

  begins-turn : Begins (turn_to x.legs c g)
  begins-turn =
      if_cases Begins (is_contended x.legs g) (call_put (stuck c (Code busy_code))) (arms c g)
      (λ full. (
        record { leg = Stays; sent = tt },
        record {
          call = stuck c (Code busy_code);
          found = put-there c.call (stuck c (Code busy_code)) x.calls refl;
          back = back;
          works = works;
          state = inr (inr (refl, refl, busy full));
        },
        untimed (stuck c (Code busy_code)) [] [] stuck-apart,
      ))
      (λ free. (
        record { leg = Puts g Armed here refl; sent = path-sent (following g) },
        record {
          call = turning c;
          found = put-there c.call (turning c) x.calls refl;
          back = back;
          works = works;
          state = inl refl;
        },
        untimed (turning c) _ _ turning-apart,
      ))

  begins-held : Begins (turn x.legs c (Some g))
  begins-held =
      if_cases Begins (is_held g.phase) (turn_to x.legs c g) (call_put c) (λ e. begins-turn)
      (λ e. absurd (let is = ap is_held held in cc (is, e)))

  begins-retry : is_stuck c.state ≡ true → has_any c.back_reports ≡ false → Begins (retries x c)
  begins-retry tries backs =
      if_cases Begins (is_stuck c.state && (has_any c.work_reports && not (has_any c.back_reports))) _ _
      (λ e. subst (λ o. Begins (turn x.legs c o)) (sym (ap (λ o. leg_of o x.legs) back ∙ here)) begins-held)
      (λ e. absurd (let may = and_from (is_stuck c.state) _ tries (and_from (has_any c.work_reports) _ works (ap not backs)) in
      cc (may, e)))

  -- Where the node finds the call, its order activates the backup, or the call is stuck as the backup is busy.
  pub begins : (p : LocalNode) (from : NodeId) → from ≡ p.id → is_stuck c.state ≡ true →
      has_any c.back_reports ≡ false → find_call c.call x.calls ≡ Some c → Begins (on_item p x (Order (Retry c.call from)))
  begins p from at tries backs found =
      subst (λ o. Begins (retry_with p x from o)) (sym found)
      (if_cases Begins (nat_eq from.0 p.id.0) _ _ (λ e. begins-retry tries backs)
      (λ e. absurd (let is : nat_eq from.0 p.id.0 ≡ true = ap (λ (m : NodeId). nat_eq m.0 p.id.0) at ∙ self-number p.id.0 in
      cc (is, e))))

-- One step

module _ (t : Network) (s : Mesh) (n : NodeId) (b : Lsp) (c : CallRec) (may : MayTurnAgain s n b c) (now : Mesh)
    (waiting : Pending s n (Order (Retry c.call n)) now) where
  abbrev Busy : Type 0
  Busy = IsBusySomewhere s b

  legs-are : (m : ℕ) → (now.nodes m).legs ≡ (s.nodes m).legs
  legs-are m = ap (λ (y : NodeState). y.legs) (waiting.nodes m)

  not-yet : OnlyMoved s b now
  not-yet = record {
    others = λ l m apart. ap (find_leg l) (legs-are m.0);
    own = λ m. subst (Moved (leg_at s b m)) (ap (find_leg b) (sym (legs-are m.0)))
        (not-moved (leg_at s b m) (may.up m));
    mail = λ u d. subst (AllByRecursion (IsOfTurn Busy b)) (sym (waiting.mail u d)) tt;
  }

  abbrev z : NodeState
  z = now.nodes n.0

  started : Turns Busy b z.legs (on_item (local_node t n) z (Order (Retry c.call n)))
      × CallGoes Busy b c.call (calls_changed (on_item (local_node t n) z (Order (Retry c.call n))).calls z.calls)
      × StartsNoWait (on_item (local_node t n) z (Order (Retry c.call n)))
  started =
      begins Busy b z c may.leg (ap (find_leg b) (legs-are n.0) ∙ may.there) may.held may.of_back
      (λ full. record {
        node = n;
        leg = may.leg;
        there = may.there;
        busy = leg-busy (s.nodes n.0).legs may.leg (subst (λ legs. is_contended legs may.leg ≡ true) (legs-are n.0) full);
      })
      may.back may.works (local_node t n) n refl may.tries may.backs
      (ap (λ (y : NodeState). find_call c.call y.calls) (waiting.nodes n.0) ∙ may.found)

  -- the order is handled
  handled : (a : Answer) → Turns Busy b z.legs a → CallGoes Busy b c.call (calls_changed a.calls z.calls) →
      StartsNoWait a → Going t s n c.call b (commit (without_item now n.0) n.0 a)
  handled a turns call starts = record {
    moved = moves-on s b (without_item now n.0) n a
        (record { others = not-yet.others; own = not-yet.own; mail = not-yet.mail }) turns;
    call = at-node (nat_eq n.0 n.0) (self-number n.0);
    waits = λ none m. still m none (nat_eq m n.0);
    desks = desks-empty t s n (Order (Retry c.call n)) now waiting;
  }
    where
      at-node : (d : Bool) → d ≡ true → CallGoes Busy b c.call (cond d (changed z a) z).calls
      at-node true e = call
      at-node false e = absurd (cc e)

      still : (m : ℕ) → NoneWaits t s → (d : Bool) →
          AllByRecursion (IsTimeless t.wait) (cond d (changed (now.nodes m) a) (now.nodes m)).calls
      still m none true = starts.timeless t.wait (now.nodes m).calls (timeless t s n (Order (Retry c.call n)) now waiting none m)
      still m none false = timeless t s n (Order (Retry c.call n)) now waiting none m

  -- Over each event nothing moves, or the order is handled.
  pub waits-on : (e : MeshEvent) → IsLeftAlone t s e → is_enabled t now e ≡ true →
      Pending s n (Order (Retry c.call n)) (step t now e) ⊎ Going t s n c.call b (step t now e)
  waits-on e alone enabled =
      elim (pends-on t s n (Order (Retry c.call n)) now waiting e alone enabled) [
        | inl still ↦ inl still.0
        | inr done ↦ inr (subst (Going t s n c.call b) (sym done.1)
            (handled (on_item (local_node t n) z (Order (Retry c.call n))) started.0 started.1 started.2))
      ]
