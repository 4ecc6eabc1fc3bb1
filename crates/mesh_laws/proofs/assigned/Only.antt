-- While one working LSP alone is set up: its messages are under way, all other legs stay, and its call stands or is blocked.
use Rattle.std.proofs.{Common.{◌≡◌, ℕ, false, nat_eq, List, [], ◌∷◌, ◌++◌, append-nil, refl, sym, ap, ◌∙◌, subst}, ByRecursion.All-append}
use Rattle.std.specs.{Prelude.{◌&&◌, Option, Some, None}, List.AllByRecursion}
use Rattle.ason_base.specs.{Lsps.same_lsp, declared.calls.CallState.CallState, declared.calls.Cause.TheVariants.Code, declared.calls.Phase.TheVariants.{Held, Live}, declared.codes.ErrCode.ErrCode, declared.ids.CallNo.CallNo, declared.ids.Lsp.Lsp, declared.ids.NodeId.NodeId, declared.messages.Msg.Msg, declared.messages.Msg.TheVariants.{Path, Resv, PathTear, PathErr, Notify}, declared.tables.CallRec.CallRec, declared.tables.Leg.Leg, declared.tables.Out.Out}
use Rattle.mesh_rules.specs.{declared.arrivals.Arrival.Arrival, declared.neighbours.Neighbour.Neighbour, ActivationAnswers.is_confirmed, CallSteps.{call_answered, call_contended, call_refused, call_turned}, Calls.{bare, call_with, is_asking, is_pairing, is_turning}, Changes.{Answer, later, nothing}, Legs.{connected, find_leg, is_armed, is_asked, is_node, is_work, previous, following, with_phase}, LocalNodes.LocalNode, Machine.{Mesh, commit, sent_to, without_first}, Messages.{arrival, on_message}, Pairs.pair, PathErrs.PathFailure, Resvs.is_expected, State.NodeState, Turns.call_put}
use Rattle.mesh_nodes.specs.Order.{CallsRise}
use Rattle.mesh_nodes.proofs.Cases.{if_cases}
use Rattle.lsp_laws.specs.HopLaw.{is_notice, leg_at, lsp_of}
use Rattle.lsp_laws.proofs.{hops.InParts.{at_ingress, call_of_err, call_of_resv, call_part, in-parts, leg_part}, hops.OtherLsps.leg-other, hops.Own.{AllLegs, AllSent, IsOf, Own, own-leg_part}}
use Rattle.mesh_laws.proofs.{assigned.NoCalls.no-calls, alone.Fine.{all-drop, all-sent}, assigned.Tracks.{CallStep, Connects, IsAsking, IsBare, IsErr, IsPlain, IsRefused, IsRefusedBy, Stays, Tracks, the-one}}

-- a message of the LSP that isn't a Notify
abbrev pub IsMsgOfLsp : Lsp → Msg → Type 0
IsMsgOfLsp l m = (lsp_of m ≡ l) × (is_notice m ≡ false)

-- since s this LSP alone has changed
pub record OnlyOf (s : Mesh) (l : Lsp) (now : Mesh) : Type 0 where
  pub others : (j : Lsp) (m : NodeId) → same_lsp l j ≡ false → leg_at now j m ≡ leg_at s j m
  pub mail : (u d : ℕ) → AllByRecursion (IsMsgOfLsp l) (now.mail u d)

each-sent : (l : Lsp) (outs : List Out) → AllSent l outs → AllByRecursion (λ o. IsMsgOfLsp l o.msg) outs
each-sent l [] all = tt
each-sent l (o ∷ outs) all = ((all.0, all.1), each-sent l outs all.2)

-- It stays so over an answer of this LSP.
pub only-on : (s : Mesh) (l : Lsp) (now : Mesh) (d : NodeId) (a : Answer) → OnlyOf s l now → IsOf l a →
    OnlyOf s l (commit now d.0 a)
only-on s l now d a only of = record {
  others = λ j m apart. leg-other now d m l j a of apart ∙ only.others j m apart;
  mail = λ u v. if_cases (AllByRecursion (IsMsgOfLsp l)) (nat_eq u d.0) (now.mail u v ++ sent_to v a.sent)
      (now.mail u v)
      (λ e. All-append (IsMsgOfLsp l) (now.mail u v) (sent_to v a.sent) (only.mail u v)
      (all-sent (IsMsgOfLsp l) v a.sent (each-sent l a.sent of.sent)))
      (λ e. only.mail u v);
}

pub only-taken : (s : Mesh) (l : Lsp) (now : Mesh) (u d : ℕ) → OnlyOf s l now → OnlyOf s l (without_first now u d)
only-taken s l now u d only = record {
  others = only.others;
  mail = λ x y. if_cases (AllByRecursion (IsMsgOfLsp l)) (nat_eq x u && nat_eq y d) _ _
      (λ e. all-drop (IsMsgOfLsp l) (now.mail x y) (only.mail x y)) (λ e. only.mail x y);
}

-- Calls

-- what a call makes of a message by itself: no leg changes, and nothing is sent
pub record CallPart (R : Type 0) (l : Lsp) (calls : List CallRec) (a : Answer) : Type 0 where
  pub legs : a.legs ≡ []
  pub sent : a.sent ≡ []
  pub down : a.down ≡ None
  pub step : CallStep R l calls a.calls

not-pairing : (R : Type 0) (f : CallState) → IsPlain R f → is_pairing f ≡ false
not-pairing R _ IsAsking = refl
not-pairing R _ IsBare = refl
not-pairing R _ (IsRefused may) = refl

not-turning : (R : Type 0) (f : CallState) → IsPlain R f → is_turning f ≡ false
not-turning R _ IsAsking = refl
not-turning R _ IsBare = refl
not-turning R _ (IsRefused may) = refl

module _ (R : Type 0) (l : Lsp) (k : CallNo) (p : LocalNode) (x : NodeState) (rise : CallsRise x.calls) (old : Tracks R l k x.calls) where
  part-none : CallPart R l x.calls nothing
  part-none = record { legs = refl; sent = refl; down = refl; step = Stays }

  plain-of : (c : CallRec) → call_with l x.calls ≡ Some c → IsPlain R c.state
  plain-of c called = subst (λ (d : CallRec). IsPlain R d.state) (sym (the-one R l k x.calls rise old c called)) old.plain

  unprotected-of : (c : CallRec) → call_with l x.calls ≡ Some c → c.protected ≡ false
  unprotected-of c called = ap (λ (d : CallRec). d.protected) (the-one R l k x.calls rise old c called) ∙ old.unprotected

  part-answered : (g : Leg) (o : Option CallRec) → call_with l x.calls ≡ o → CallPart R l x.calls (call_answered p x g o)
  part-answered g None called = part-none
  part-answered g (Some c) called =
      if_cases (CallPart R l x.calls) (is_work g.role) _ _
      (λ w. if_cases (CallPart R l x.calls) (is_asking c.state) _ _
      (λ a. if_cases (CallPart R l x.calls) c.protected (pair p x c g) (call_put (bare c))
      (λ e. absurd (let free = unprotected-of c called in cc (free, e)))
      (λ e. record { legs = refl; sent = refl; down = refl; step = Connects c called }))
      (λ a. part-none))
      (λ w. if_cases (CallPart R l x.calls) (is_pairing c.state) _ _
      (λ e. absurd (let free = not-pairing R c.state (plain-of c called) in cc (free, e))) (λ e. part-none))

  part-turned : (g : Leg) (o : Option CallRec) → call_with l x.calls ≡ o → CallPart R l x.calls (call_turned x g o)
  part-turned g None called = part-none
  part-turned g (Some c) called =
      if_cases (CallPart R l x.calls) (is_turning c.state) _ _
      (λ e. absurd (let free = not-turning R c.state (plain-of c called) in cc (free, e))) (λ e. part-none)

  part-contended : (g : Leg) (o : Option CallRec) → call_with l x.calls ≡ o → CallPart R l x.calls (call_contended x g o)
  part-contended g None called = part-none
  part-contended g (Some c) called =
      if_cases (CallPart R l x.calls) (is_turning c.state) _ _
      (λ e. absurd (let free = not-turning R c.state (plain-of c called) in cc (free, e))) (λ e. part-none)

  part-refused : (code : ErrCode) (g : Leg) (o : Option CallRec) → call_with l x.calls ≡ o →
      R → CallPart R l x.calls (call_refused code g o)
  part-refused code g None called may = part-none
  part-refused code g (Some c) called may =
      if_cases (CallPart R l x.calls) (is_work g.role) _ _
      (λ w. if_cases (CallPart R l x.calls) (is_asking c.state) _ _
      (λ a. record { legs = refl; sent = refl; down = refl; step = IsRefusedBy c (Code code) may called })
      (λ a. part-none))
      (λ w. if_cases (CallPart R l x.calls) (is_pairing c.state) _ _
      (λ e. absurd (let free = not-pairing R c.state (plain-of c called) in cc (free, e))) (λ e. part-none))

-- tracked: where the leg has no node before it the call of the LSP is tracked
module _ (R : Type 0) (l : Lsp) (k : CallNo) (p : LocalNode) (x : NodeState) (rise : CallsRise x.calls)
    (tracked : (g : Leg) → find_leg l x.legs ≡ Some g → previous g ≡ None → Tracks R l k x.calls)
    (own : (g : Leg) → find_leg l x.legs ≡ Some g → g.lsp ≡ l) where
  nothing-said : CallPart R l x.calls nothing
  nothing-said = record { legs = refl; sent = refl; down = refl; step = Stays }

  at-first : (g : Leg) → find_leg l x.legs ≡ Some g → (o : Option Neighbour) → previous g ≡ o → (a : Answer) →
      (Tracks R l k x.calls → CallPart R l x.calls a) → CallPart R l x.calls (at_ingress o a)
  at-first g here None first a part = part (tracked g here first)
  at-first g here (Some h) first a part = nothing-said

  called : (g : Leg) → find_leg l x.legs ≡ Some g → call_with l x.calls ≡ call_with g.lsp x.calls
  called g here = ap (λ j. call_with j x.calls) (sym (own g here))

  resv-said : (a : Arrival) (y : ℕ) (o : Option Leg) → find_leg l x.legs ≡ o → CallPart R l x.calls (call_of_resv p x a y o)
  resv-said a y None here = nothing-said
  resv-said a y (Some g) here =
      if_cases (CallPart R l x.calls) (is_expected a y g) _ _
      (λ e. at-first g here (previous g) refl _
      (λ old. part-answered R l k p x rise old (connected g None y) _ (called g here)))
      (λ e. if_cases (CallPart R l x.calls) (is_confirmed a y g) _ _
      (λ c. at-first g here (previous g) refl _ (λ old. part-turned R l k p x rise old (with_phase Live g) _ (called g here)))
      (λ c. nothing-said))

  err-said : R → (u : NodeId) (e : PathFailure) (o : Option Leg) → find_leg l x.legs ≡ o →
      CallPart R l x.calls (call_of_err x u e o)
  err-said may u e None here = nothing-said
  err-said may u e (Some g) here =
      if_cases (CallPart R l x.calls) (is_node (following g) u) _ _
      (λ n. if_cases (CallPart R l x.calls) e.removed _ _
      (λ r. if_cases (CallPart R l x.calls) (is_asked g.phase) _ _
      (λ q. at-first g here (previous g) refl _ (λ old. part-refused R l k p x rise old e.code g _ (called g here) may))
      (λ q. nothing-said))
      (λ r. if_cases (CallPart R l x.calls) (is_armed g.phase) _ _
      (λ q. at-first g here (previous g) refl _ (λ old. part-contended R l k p x rise old (with_phase Held g) _ (called g here)))
      (λ q. nothing-said)))
      (λ n. nothing-said)

  call-said : (u : NodeId) (m : Msg) → IsMsgOfLsp l m → (IsErr m → R) → CallPart R l x.calls (call_part p x u m)
  call-said u (Path j e i route set up r) of may = nothing-said
  call-said u (Resv j e i y) of may =
      resv-said (arrival j e u i) y (find_leg j x.legs) (ap (λ q. find_leg q x.legs) (sym of.0))
  call-said u (PathTear j e i) of may = nothing-said
  call-said u (PathErr j e at gone code) of may =
      err-said (may tt) u (record { lsp = j; msg = PathErr j e at gone code; removed = gone; code = code }) (find_leg j x.legs)
      (ap (λ q. find_leg q x.legs) (sym of.0))
  call-said u (Notify j e at i code) of may = absurd (let loud = of.1 in cc loud)

  -- what becomes of legs is what the leg's part makes of them
  pub message-legs : (u : NodeId) (m : Msg) → IsMsgOfLsp l m → (IsErr m → R) →
      (on_message p x u m).legs ≡ (leg_part p x u m).legs
  message-legs u m of may =
      ap (λ (a : Answer). a.legs) (in-parts p x u m)
      ∙ ap (λ cs. (leg_part p x u m).legs ++ cs) (call-said u m of may).legs
      ∙ append-nil (leg_part p x u m).legs

  pub message-sent : (u : NodeId) (m : Msg) → IsMsgOfLsp l m → (IsErr m → R) →
      (on_message p x u m).sent ≡ (leg_part p x u m).sent
  message-sent u m of may =
      ap (λ (a : Answer). a.sent) (in-parts p x u m)
      ∙ ap (λ os. (leg_part p x u m).sent ++ os) (call-said u m of may).sent
      ∙ append-nil (leg_part p x u m).sent

  pub message-down : (u : NodeId) (m : Msg) → IsMsgOfLsp l m → (IsErr m → R) → (on_message p x u m).down ≡ None
  message-down u m of may =
      ap (λ (a : Answer). a.down) (in-parts p x u m)
      ∙ ap (λ fs. later (leg_part p x u m).down fs) (call-said u m of may).down
      ∙ (no-calls p x u m of.1).down

  -- What a node makes of a message of the LSP is of the LSP, and of its call.
  pub message-of : (u : NodeId) (m : Msg) → IsMsgOfLsp l m → (IsErr m → R) → IsOf l (on_message p x u m)
      × CallStep R l x.calls (on_message p x u m).calls
  message-of u m of may =
      let own_part : Own l (leg_part p x u m) = subst (λ j. Own j (leg_part p x u m)) of.0 (own-leg_part p x u m of.1) in (
        record {
          legs = subst (AllLegs l) (sym (message-legs u m of may)) own_part.legs;
          sent = subst (AllSent l) (sym (message-sent u m of may)) own_part.sent;
        },
        subst (CallStep R l x.calls)
            (sym (ap (λ (a : Answer). a.calls) (in-parts p x u m)
            ∙ ap (λ cs. cs ++ (call_part p x u m).calls) (no-calls p x u m of.1).calls)) (call-said u m of may).step,
      )
