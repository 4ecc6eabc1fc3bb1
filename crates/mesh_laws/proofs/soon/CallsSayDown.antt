-- What becomes of a call sends no Notify of a repair.
use Rattle.std.proofs.{Common.{Bool, List, [], false, nat_eq, nat_le, not, true, ℕ, ◌+◌, ◌∷◌, ◌≡◌}, ByRecursion.All-append}
use Rattle.std.specs.{Prelude.{None, Option, Some, drop, is_some, nat_lt, ◌&&◌}, List.AllByRecursion}
use Rattle.ason_base.specs.{declared.calls.CallState.CallState, declared.calls.CallState.TheVariants.{Asking, Bare, Blocked, Guarded, Pairing, Stuck, Turned, Turning}, Codes.busy_code, declared.calls.Cause.TheVariants.Code, declared.codes.ErrCode.ErrCode, declared.ids.Fibre.Fibre, declared.messages.Msg.Msg, declared.messages.PathRole.PathRole, declared.network.LinkSpec.LinkSpec, declared.steps.Step.Step, declared.tables.CallRec.CallRec, declared.tables.Leg.Leg, declared.tables.Out.Out, declared.ids.Lsp.Lsp, declared.messages.Msg.TheVariants.{Notify, Path, PathErr, PathTear, Resv}, Risks.unknown_link}
use Rattle.mesh_rules.specs.{Calls.{guarded, is_asking, is_pairing, is_turned, is_turning, stuck, turned}, CallSteps.{call_answered, call_contended, call_refused, call_turned}, Changes.Answer, Legs.{following, is_contended, is_held, is_in_use, is_work, leg_of}, Reports.{call_reported, reported, with_report}, State.NodeState, Turns.{activating_path, decide, decided, go_back, has_any, taking_path, turn}, Waits.{all_ticked, call_ticked}, Pairs.{admitted_backup, backup_route, guarding, is_two_way, over_backup, pair, pair_over, route_from}, LocalNodes.LocalNode, declared.neighbours.Neighbour.Neighbour, Activations.{resv_to, taken_on}, KnownRows.known_rows, FirstLegs.{first_link, is_full, lacks_first_back}, declared.limits.TheConstants.LAST_NUMBER}
use Rattle.mesh_nodes.proofs.Cases.{if_cases}

-- it tells of no repair
abbrev pub IsDown : Msg → Type 0
IsDown (Path l e k route set up r) = Unit {0}
IsDown (Resv l e k x) = Unit {0}
IsDown (PathTear l e k) = Unit {0}
IsDown (PathErr l e at gone code) = Unit {0}
IsDown (Notify l e at k code) = reported code ≡ Some true

-- all that is sent tells of none
abbrev pub AllDown : List Out → Type 0
AllDown outs = AllByRecursion (λ (o : Out). IsDown o.msg) outs

module _ (p : LocalNode) (s : NodeState) where
  abbrev Holds : Answer → Type 0
  Holds a = AllDown a.sent

  -- What is sent

  -- a Resv
  pub resv-out : (g : Leg) (o : Option Neighbour) (x : Option ℕ) → AllDown (resv_to g o x)
  resv-out g None x = tt
  resv-out g (Some h) None = tt
  resv-out g (Some h) (Some x) = (tt, tt)

  -- a Path that takes the activation back
  pub back-out : (g : Leg) (route : List Step) (r : PathRole) (o : Option Neighbour) → AllDown (taken_on g route r o)
  back-out g route r None = tt
  back-out g route r (Some h) = (tt, tt)

  activating-out : (b : Leg) (o : Option Neighbour) → AllDown (activating_path b o)
  activating-out b None = tt
  activating-out b (Some h) = (tt, tt)

  taking-out : (b : Leg) (o : Option Neighbour) → AllDown (taking_path b o)
  taking-out b None = tt
  taking-out b (Some h) = (tt, tt)

  -- Calls

  sent-turn : (legs : List Leg) (c : CallRec) (o : Option Leg) → Holds (turn legs c o)
  sent-turn legs c None = tt
  sent-turn legs c (Some b) =
      if_cases Holds (is_held b.phase) _ _
      (λ e. if_cases Holds (is_contended legs b) _ _ (λ h. tt) (λ h. activating-out b (following b))) (λ e. tt)

  sent-back : (c : CallRec) (o : Option Leg) → Holds (go_back c o)
  sent-back c None = tt
  sent-back c (Some b) = if_cases Holds (is_in_use b.phase) _ _ (λ e. taking-out b (following b)) (λ e. tt)

  sent-decided : (legs : List Leg) (c : CallRec) (o : Option Leg) (f : CallState) (works backs : Bool) →
      Holds (decided legs c o f works backs)
  sent-decided legs c o Asking works backs = tt
  sent-decided legs c o Blocked works backs = tt
  sent-decided legs c o Bare works backs = tt
  sent-decided legs c o Pairing works backs = tt
  sent-decided legs c o Turning works backs = tt
  sent-decided legs c o Guarded true false = sent-turn legs c o
  sent-decided legs c o Guarded true true = tt
  sent-decided legs c o Guarded false backs = tt
  sent-decided legs c o Turned true backs = tt
  sent-decided legs c o Turned false true = sent-back c o
  sent-decided legs c o Turned false false = tt
  sent-decided legs c o Stuck true backs = tt
  sent-decided legs c o Stuck false backs = tt

  sent-decide : (legs : List Leg) (c : CallRec) (o : Option Leg) → Holds (decide legs c o)
  sent-decide legs c o = sent-decided legs c o c.state (has_any c.work_reports) (has_any c.back_reports)

  sent-admitted : (c : CallRec) (w : Leg) (out : LinkSpec) (route : List Step) → Holds (admitted_backup p s c w out route)
  sent-admitted c w out route =
      if_cases Holds (nat_lt LAST_NUMBER s.lsp) _ _ (λ e. tt)
      (λ e. if_cases Holds (is_full s) _ _ (λ f. tt)
      (λ f. if_cases Holds (lacks_first_back p s (is_two_way w) (guarding p w) out) _ _ (λ h. tt) (λ h. (tt, tt))))

  sent-over : (c : CallRec) (w : Leg) (route : List Step) (o : Option LinkSpec) → Holds (over_backup p s c w route o)
  sent-over c w route None = tt
  sent-over c w route (Some out) = sent-admitted c w out (drop 1 route)

  sent-pair_over : (c : CallRec) (w : Leg) (o : Option (List Step)) → Holds (pair_over p s c w o)
  sent-pair_over c w None = tt
  sent-pair_over c w (Some route) = sent-over c w route (first_link p route)

  sent-pair : (c : CallRec) (w : Leg) → Holds (pair p s c w)
  sent-pair c w =
      if_cases Holds (is_some (unknown_link (known_rows p s) (route_from p w))) _ _ (λ e. tt)
      (λ e. sent-pair_over c w (backup_route p s c w))

  -- what a Resv makes of a call
  pub sent-answered : (g : Leg) (o : Option CallRec) → Holds (call_answered p s g o)
  sent-answered g None = tt
  sent-answered g (Some c) =
      if_cases Holds (is_work g.role) _ _
      (λ e. if_cases Holds (is_asking c.state) _ _
      (λ a. if_cases Holds c.protected _ _ (λ h. sent-pair c g) (λ h. tt)) (λ a. tt))
      (λ e. if_cases Holds (is_pairing c.state) _ _ (λ a. sent-decide s.legs (guarded c) (Some g)) (λ a. tt))

  -- what the end of an activation makes of it
  pub sent-turned : (b : Leg) (o : Option CallRec) → Holds (call_turned s b o)
  sent-turned b None = tt
  sent-turned b (Some c) =
      if_cases Holds (is_turning c.state) _ _ (λ e. sent-decide s.legs (turned c) (Some b)) (λ e. tt)

  -- what a contended activation makes of it
  pub sent-contended : (b : Leg) (o : Option CallRec) → Holds (call_contended s b o)
  sent-contended b None = tt
  sent-contended b (Some c) =
      if_cases Holds (is_turning c.state) _ _ (λ e. sent-decide s.legs (stuck c (Code busy_code)) (Some b)) (λ e. tt)

  -- what a refusal makes of it
  pub sent-refused : (code : ErrCode) (g : Leg) (o : Option CallRec) → Holds (call_refused code g o)
  sent-refused code g None = tt
  sent-refused code g (Some c) =
      if_cases Holds (is_work g.role) _ _ (λ e. if_cases Holds (is_asking c.state) _ _ (λ a. tt) (λ a. tt))
      (λ e. if_cases Holds (is_pairing c.state) _ _ (λ a. tt) (λ a. tt))

  -- what a report makes of it
  pub sent-reported : (l : Lsp) (down : Bool) (f : Fibre) (o : Option CallRec) → Holds (call_reported s l down f o)
  sent-reported l down f None = tt
  sent-reported l down f (Some c) = sent-decide s.legs (with_report c l down f) (leg_of c.back s.legs)

  sent-ticked : (c : CallRec) → Holds (call_ticked p.wait s.legs c)
  sent-ticked c =
      if_cases Holds (not (nat_eq p.wait 0) && (is_turned c.state && not (has_any c.work_reports))) _ _
      (λ waits. if_cases Holds (nat_le p.wait (c.ticks + 1)) _ _ (λ e. sent-back c (leg_of c.back s.legs)) (λ e. tt))
      (λ e. tt)

  -- what a tick makes of all calls
  pub sent-all_ticked : (calls : List CallRec) → Holds (all_ticked p.wait s.legs calls)
  sent-all_ticked [] = tt
  sent-all_ticked (c ∷ calls) =
      All-append (λ (o : Out). IsDown o.msg) (call_ticked p.wait s.legs c).sent (all_ticked p.wait s.legs calls).sent
      (sent-ticked c) (sent-all_ticked calls)
