-- What a node makes of a message of an activation: one leg moves, messages of the activation go out, and at the ingress
-- the call turns or is stuck.
use Rattle.std.proofs.Common.{◌≡◌, ℕ, Bool, true, false, List, [], ◌∷◌, drop, refl, sym, subst}
use Rattle.std.specs.{Prelude.{◌&&◌, Option, Some, None}, List.AllByRecursion}
use Rattle.ason_base.specs.{Codes.busy_code, declared.calls.Cause.TheVariants.Code, declared.calls.Phase.Phase, declared.calls.Phase.TheVariants.{Held, Armed, Live}, declared.codes.ErrCode.ErrCode, declared.ids.Lsp.Lsp, declared.ids.NodeId.NodeId, declared.messages.Msg.Msg, declared.messages.Msg.TheVariants.{Path, Resv, PathTear, PathErr, Notify}, declared.messages.PathRole.TheVariants.{Work, Back}, declared.network.LinkSpec.LinkSpec, declared.steps.Step.Step, declared.tables.CallRec.CallRec, declared.tables.Leg.Leg, declared.tables.Out.Out}
use Rattle.mesh_rules.specs.{declared.arrivals.Arrival.Arrival, declared.changes.CallChange.CallChange, declared.changes.CallChange.TheVariants.Put, declared.neighbours.Neighbour.Neighbour, ActivationAnswers.{confirmed, disarmed, is_confirmed}, Activations.{armed_on, path_again, resv_to}, CallSteps.{call_contended, call_turned}, Calls.{call_with, is_turning, stuck, turned}, Changes.{Answer, followed_by, nothing, puts}, Legs.{find_leg, following, is_armed, is_asked, is_beyond_asked, is_contended, is_held, is_node, is_over, previous, with_phase}, LocalNodes.{LocalNode, own_link}, Messages.{arrival, on_message}, PathErrs.path_err_with, Paths.{first_path, path_with}, Resvs.{is_expected, resv_with}, State.NodeState, Turns.{call_put, decided, has_any}}
use Rattle.mesh_nodes.proofs.{Cases.if_cases, LegList.found-lsp}
use Rattle.mesh_laws.proofs.retried.Only.{IsOfTurn, Puts, Stays, Turns}

-- no call changes, or the backup's call turns, or it is stuck where P
pub data CallMoves (P : Type 0) (b : Lsp) (calls : List CallRec) : List CallChange → Type 0 where
  CallStays : CallMoves P b calls []
  CallTurns : (c : CallRec) → call_with b calls ≡ Some c → has_any c.work_reports ≡ true →
      CallMoves P b calls (Put (turned c) ∷ [])
  CallSticks : (c : CallRec) → call_with b calls ≡ Some c → P → CallMoves P b calls (Put (stuck c (Code busy_code)) ∷ [])

pub record RetryGoes (P : Type 0) (b : Lsp) (x : NodeState) (a : Answer) : Type 0 where
  pub turns : Turns P b x.legs a
  pub call : CallMoves P b x.calls a.calls

-- with fibres of the working LSP reported nothing more is decided
turned-decided : (legs : List Leg) (c : CallRec) (g : Option Leg) (works backs : Bool) → works ≡ true →
    decided legs (turned c) g (turned c).state works backs ≡ call_put (turned c)
turned-decided legs c g true backs e = refl
turned-decided legs c g false backs e = absurd (cc e)

stuck-decided : (legs : List Leg) (c : CallRec) (g : Option Leg) (works backs : Bool) → works ≡ true →
    decided legs (stuck c (Code busy_code)) g (stuck c (Code busy_code)).state works backs
    ≡ call_put (stuck c (Code busy_code))
stuck-decided legs c g true backs e = refl
stuck-decided legs c g false backs e = absurd (cc e)

asked-not : (q : Phase) (b : Bool) → is_beyond_asked q ≡ true → (is_asked q && b) ≡ true → ⊥
asked-not Held b up e = cc e
asked-not Armed b up e = cc e
asked-not Live b up e = cc e
asked-not _ b up e = cc up

-- P: the backup is busy somewhere
module _ (P : Type 0) (b : Lsp) (p : LocalNode) (x : NodeState) (g : Leg) (here : find_leg b x.legs ≡ Some g)
    (up : is_beyond_asked g.phase ≡ true) (busy : is_contended x.legs g ≡ true → P)
    (hit : (c : CallRec) → previous g ≡ None → call_with b x.calls ≡ Some c → has_any c.work_reports ≡ true) where
  own : g.lsp ≡ b
  own = found-lsp b x.legs g here

  goes-nothing : RetryGoes P b x nothing
  goes-nothing = record { turns = record { leg = Stays; sent = tt }; call = CallStays }

  goes-puts : (q : Phase) (outs : List Out) → is_beyond_asked q ≡ true →
      AllByRecursion (λ o. IsOfTurn P b o.msg) outs → RetryGoes P b x (puts (with_phase q g) outs)
  goes-puts q outs after sent =
      record { turns = record { leg = Puts g q here after; sent = sent }; call = CallStays }

  resv-sent : (h : Option Neighbour) (y : Option ℕ) → AllByRecursion (λ o. IsOfTurn P b o.msg) (resv_to g h y)
  resv-sent None y = tt
  resv-sent (Some h) None = tt
  resv-sent (Some h) (Some y) = (own, tt)

  -- A Path

  goes-armed : (route : List Step) (work : ℕ) (primary : List Step) (h : Option Neighbour) →
      RetryGoes P b x (armed_on g route (Back true work primary) h)
  goes-armed route work primary None = goes-puts Live _ refl (resv-sent (previous g) g.in_label)
  goes-armed route work primary (Some h) = goes-puts Armed _ refl (own, tt)

  goes-path : (a : Arrival) (route : List Step) (work : ℕ) (primary : List Step) →
      RetryGoes P b x (path_again p x a route (Back true work primary) g)
  goes-path a route work primary =
      if_cases (RetryGoes P b x) (is_held g.phase && is_over (previous g) a.from a.link) _ _
      (λ e. if_cases (RetryGoes P b x) (is_contended x.legs g) _ _
      (λ full. record { turns = record { leg = Stays; sent = ((own, busy full), tt) }; call = CallStays })
      (λ free. goes-armed route work primary (following g)))
      (λ e. goes-nothing)

  -- A Resv

  call-turns : (o : Option CallRec) → call_with b x.calls ≡ o → previous g ≡ None →
      RetryGoes P b x (followed_by (puts (with_phase Live g) []) (call_turned x (with_phase Live g) o))
  call-turns None called first = goes-puts Live [] refl tt
  call-turns (Some c) called first =
      if_cases (λ a. RetryGoes P b x (followed_by (puts (with_phase Live g) []) a)) (is_turning c.state) _ _
      (λ e. subst (λ a. RetryGoes P b x (followed_by (puts (with_phase Live g) []) a))
      (sym (turned-decided x.legs c (Some (with_phase Live g)) (has_any c.work_reports) (has_any c.back_reports)
      (hit c first called)))
      (record { turns = record { leg = Puts g Live here refl; sent = tt }; call = CallTurns c called (hit c first called) }))
      (λ e. goes-puts Live [] refl tt)

  goes-confirmed : (o : Option Neighbour) → previous g ≡ o → RetryGoes P b x (confirmed x g o)
  goes-confirmed None is =
      subst (λ l. RetryGoes P b x (followed_by (puts (with_phase Live g) []) (call_turned x (with_phase Live g) (call_with l x.calls))))
      (sym own) (call-turns (call_with b x.calls) refl is)
  goes-confirmed (Some h) is = goes-puts Live _ refl (resv-sent (Some h) g.in_label)

  goes-resv : (a : Arrival) (y : ℕ) → RetryGoes P b x (resv_with p x a y (Some g))
  goes-resv a y =
      if_cases (RetryGoes P b x) (is_expected a y g) _ _ (λ e. absurd (asked-not g.phase _ up e))
      (λ e. if_cases (RetryGoes P b x) (is_confirmed a y g) _ _ (λ c. goes-confirmed (previous g) refl)
      (λ c. goes-nothing))

  -- A PathErr

  call-sticks : (o : Option CallRec) → call_with b x.calls ≡ o → previous g ≡ None → P →
      RetryGoes P b x (followed_by (puts (with_phase Held g) []) (call_contended x (with_phase Held g) o))
  call-sticks None called first full = goes-puts Held [] refl tt
  call-sticks (Some c) called first full =
      if_cases (λ a. RetryGoes P b x (followed_by (puts (with_phase Held g) []) a)) (is_turning c.state) _ _
      (λ e. subst (λ a. RetryGoes P b x (followed_by (puts (with_phase Held g) []) a))
      (sym (stuck-decided x.legs c (Some (with_phase Held g)) (has_any c.work_reports) (has_any c.back_reports)
      (hit c first called)))
      (record { turns = record { leg = Puts g Held here refl; sent = tt }; call = CallSticks c called full }))
      (λ e. goes-puts Held [] refl tt)

  goes-disarmed : (m : Msg) (o : Option Neighbour) → previous g ≡ o → IsOfTurn P b m → P →
      RetryGoes P b x (disarmed x g m o)
  goes-disarmed m None is of full =
      subst (λ l. RetryGoes P b x (followed_by (puts (with_phase Held g) [])
      (call_contended x (with_phase Held g) (call_with l x.calls)))) (sym own)
      (call-sticks (call_with b x.calls) refl is full)
  goes-disarmed m (Some h) is of full = goes-puts Held _ refl (of, tt)

  goes-err : (u : NodeId) (m : Msg) (code : ErrCode) → IsOfTurn P b m → P →
      RetryGoes P b x (path_err_with x u (record { lsp = b; msg = m; removed = false; code = code }) (Some g))
  goes-err u m code of full =
      if_cases (RetryGoes P b x) (is_node (following g) u) _ _
      (λ e. if_cases (RetryGoes P b x) (is_armed g.phase) _ _ (λ armed. goes-disarmed m (previous g) refl of full)
      (λ armed. goes-nothing))
      (λ e. goes-nothing)

-- Any message

-- what holds of the backup at a node: its leg has a label, a contended leg is busy, and at the ingress the call's working
-- LSP is reported
pub record Knows (P : Type 0) (b : Lsp) (x : NodeState) : Type 0 where
  pub up : (g : Leg) → find_leg b x.legs ≡ Some g → is_beyond_asked g.phase ≡ true
  pub busy : (g : Leg) → find_leg b x.legs ≡ Some g → is_contended x.legs g ≡ true → P
  pub hit : (g : Leg) (c : CallRec) → find_leg b x.legs ≡ Some g → previous g ≡ None → call_with b x.calls ≡ Some c →
      has_any c.work_reports ≡ true

module _ (P : Type 0) (b : Lsp) (p : LocalNode) (x : NodeState) (knows : Knows P b x) where
  none : RetryGoes P b x nothing
  none = record { turns = record { leg = Stays; sent = tt }; call = CallStays }

  by-path : (a : Arrival) (route : List Step) (set : List ℕ) (up : Option ℕ) (work : ℕ) (primary : List Step)
      (o : Option Leg) → find_leg b x.legs ≡ o → RetryGoes P b x (path_with p x (record {
        arrival = a;
        route = route;
        set = set;
        upstream = up;
        role = Back true work primary;
      }) o)
  by-path a route set up work primary None is = first (own_link p a.link)
    where
      first : (o : Option LinkSpec) → RetryGoes P b x (first_path p x (record {
        arrival = a;
        route = route;
        set = set;
        upstream = up;
        role = Back true work primary;
      }) o)
      first None = none
      first (Some link) = none
  by-path a route set up work primary (Some g) is =
      goes-path P b p x g is (knows.up g is) (knows.busy g is) (λ c. knows.hit g c is) a (drop 1 route) work primary

  by-resv : (a : Arrival) (y : ℕ) (o : Option Leg) → find_leg b x.legs ≡ o → RetryGoes P b x (resv_with p x a y o)
  by-resv a y None is = none
  by-resv a y (Some g) is =
      goes-resv P b p x g is (knows.up g is) (knows.busy g is) (λ c. knows.hit g c is) a y

  by-err : (u : NodeId) (m : Msg) (code : ErrCode) → IsOfTurn P b m → P → (o : Option Leg) → find_leg b x.legs ≡ o →
      RetryGoes P b x (path_err_with x u (record { lsp = b; msg = m; removed = false; code = code }) o)
  by-err u m code of full None is = none
  by-err u m code of full (Some g) is =
      goes-err P b p x g is (knows.up g is) (knows.busy g is) (λ c. knows.hit g c is) u m code of full

  -- A message of an activation moves that on, and changes nothing else.
  pub goes-message : (u : NodeId) (m : Msg) → IsOfTurn P b m → RetryGoes P b x (on_message p x u m)
  goes-message u (Path l e k route set up (Back true work primary)) of =
      subst (λ j. RetryGoes P b x (on_message p x u (Path j e k route set up (Back true work primary)))) (sym of)
      (by-path (arrival b e u k) route set up work primary (find_leg b x.legs) refl)
  goes-message u (Path l e k route set up (Back false work primary)) of = absurd of
  goes-message u (Path l e k route set up (Work guard)) of = absurd of
  goes-message u (Resv l e k y) of =
      subst (λ j. RetryGoes P b x (on_message p x u (Resv j e k y))) (sym of)
      (by-resv (arrival b e u k) y (find_leg b x.legs) refl)
  goes-message u (PathTear l e k) of = absurd of
  goes-message u (PathErr l e at true code) of = absurd of
  goes-message u (PathErr l e at false code) of =
      subst (λ j. RetryGoes P b x (on_message p x u (PathErr j e at false code))) (sym of.0)
      (by-err u (PathErr b e at false code) code (refl, of.1) of.1 (find_leg b x.legs) refl)
  goes-message u (Notify l e at k code) of = absurd of
