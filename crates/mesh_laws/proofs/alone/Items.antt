-- What a node answers to an order, to a tick, and to an alarm or a clear that concerns one of the groups, concerns one.
use Rattle.std.proofs.{Common.{◌≡◌, ℕ, ◌+◌, nat_eq, nat_le, List, [], ◌∷◌, ◌++◌, drop, refl}, ByRecursion.All-append}
use Rattle.std.specs.{Prelude.{◌&&◌, not, Option, Some, None, IfSome}, List.AllByRecursion}
use Rattle.ason_base.specs.{Codes.{fibre_down_code, fibre_up_code, label_code}, Lsps.{has_fibre, is_other_fibre}, Network.Network, declared.codes.ErrCode.ErrCode, declared.ids.CallNo.CallNo, declared.ids.Fibre.Fibre, declared.ids.Lsp.Lsp, declared.ids.NodeId.NodeId, declared.messages.PathRole.TheVariants.Work, declared.network.LinkSpec.LinkSpec, declared.calls.CallState.TheVariants.Blocked, declared.calls.Cause.Cause, declared.calls.Cause.TheVariants.{Code, Full, NoRoute, Spent}, declared.commands.Command.Command, declared.commands.Command.TheVariants.{Setup, Release, Protect, Retry, Revert, Fail, Repair}, declared.commands.DeskItem.DeskItem, declared.commands.DeskItem.TheVariants.{Order, Alarm, Clear}, declared.commands.Group.Group, declared.steps.Step.Step, declared.tables.CallRec.CallRec, declared.tables.Leg.Leg}
use Rattle.ason_base.proofs.{Bools.{and-left, and-right}, Finding.found-of_all, Members.all-filter}
use Rattle.mesh_rules.specs.declared.changes.CallChange.TheVariants as call
use Rattle.mesh_rules.specs.{declared.neighbours.Neighbour.Neighbour, Alarms.{enters, is_hit, knows_down, notice_of, notices, notify_to}, Calls.{find_call, is_bare, is_stuck, is_turned}, Changes.{changes_calls, nothing}, FirstLegs.{first_leg, first_link, is_full, lacks_first_back}, KnownRows.{has_row, known_rows}, Learnt.on_link, LeastRoutes.{Trip, least_trip}, Legs.{closed, find_leg, following, leg_of, previous}, LocalNodes.{LocalNode, own_link}, Orders.{on_item, on_order}, Protects.{protect_with, protects}, Releases.{release_with, releases, tear_to, tears}, Retries.{retries, retry_with}, Reverts.{revert_with, reverts}, Setups.{SetupRequest, begins, call_record, is_order_here, is_spent, new_call, over_first, over_found, refused_setup, setup_with, working_lsp}, State.NodeState, Turns.{call_put, go_back, has_any, turn}, Waits.{all_ticked, on_tick, call_ticked, waits}}
use Rattle.mesh_nodes.proofs.{Cases.if_cases, Items.setup_request, LegList.found-all}
use Rattle.mesh_laws.proofs.{alone.CallAnswers.pair-fine, alone.Calls.{go_back-fine, in_state, leg-may_turn, turn-fine}, alone.Facts.{CallKnows, NodeKnows, LspRoutes}, alone.Fine.{CallHolds, Fine, NodeHolds, OutFine, fine-call, fine-nothing, fine-puts, fine-then}, alone.Groups.{FibreConcernsGroups, ItemConcernsGroups, LegConcernsGroups}, alone.Legs.{BackupsApart, closed-concerns, idle-concerns}}

module _ (t : Network) (gs : List Group) (o : LspRoutes) where
  -- Rows

  -- a row of a link
  pub link-fine : (p : LocalNode) (s : NodeState) (found : Option LinkSpec) → Fine t gs o (on_link p s found)
  link-fine p s None = fine-nothing t gs o
  link-fine p s (Some l) =
      if_cases (Fine t gs o) (has_row (known_rows p s) l.id) nothing _ (λ e. fine-nothing t gs o)
      (λ e. record { legs = tt; calls = tt; down = tt; sent = tt })

  -- Ticks

  -- a call that waits keeps its state
  waits-fine : (wait : ℕ) (legs : List Leg) (c : CallRec) → CallHolds t gs o c → Fine t gs o (waits wait legs c)
  waits-fine wait legs c of =
      if_cases (Fine t gs o) (nat_le wait (c.ticks + 1)) (go_back c (leg_of c.back legs)) (call_put _)
      (λ e. go_back-fine t gs o c (leg_of c.back legs) of)
      (λ e. fine-call t gs o _
      (in_state t gs o c c.state c.cause (c.ticks + 1) of.concerns.free of.concerns.admitted of))

  ticked-fine : (wait : ℕ) (legs : List Leg) (c : CallRec) → CallHolds t gs o c → Fine t gs o (call_ticked wait legs c)
  ticked-fine wait legs c of =
      if_cases (Fine t gs o) (not (nat_eq wait 0) && (is_turned c.state && not (has_any c.work_reports)))
      (waits wait legs c) nothing (λ e. waits-fine wait legs c of) (λ e. fine-nothing t gs o)

  all_ticked-fine : (wait : ℕ) (legs : List Leg) (calls : List CallRec) → AllByRecursion (CallHolds t gs o) calls →
      Fine t gs o (all_ticked wait legs calls)
  all_ticked-fine wait legs [] of = fine-nothing t gs o
  all_ticked-fine wait legs (c ∷ calls) of =
      fine-then t gs o (call_ticked wait legs c) (all_ticked wait legs calls) (ticked-fine wait legs c of.0)
      (all_ticked-fine wait legs calls of.1)

  -- a tick, at which calls may go back
  pub tick-fine : (p : LocalNode) (s : NodeState) → NodeHolds t gs o s → Fine t gs o (on_tick p s)
  tick-fine p s holds = all_ticked-fine p.wait s.legs s.calls holds.calls

  -- Setups

  refused-fine : (w : SetupRequest) (cause : Cause) → Fine t gs o (refused_setup w cause)
  refused-fine w cause = fine-call t gs o (call_record w Blocked None cause) (record {
    concerns = record { work_reports = tt; back_reports = tt; free = λ e. absurd (cc e); admitted = refl };
    work = λ e. absurd (cc e);
    back = λ e. absurd (cc e);
  })

  module _ (p : LocalNode) (s : NodeState) (knows : NodeKnows t o p s) (holds : NodeHolds t gs o s)
      (apart : BackupsApart gs s.legs) where
    begins-fine : (w : SetupRequest) (out : LinkSpec) (route : List Step) → Fine t gs o (begins p s w out route)
    begins-fine w out route = record {
      legs = (idle-concerns gs (first_leg p (known_rows p s) (working_lsp p s w out route)) refl, tt);
      calls = (
        record {
          concerns = record { work_reports = tt; back_reports = tt; free = λ e. absurd (cc e); admitted = refl };
          work = λ e. absurd (cc e);
          back = λ e. absurd (cc e);
        },
        tt,
      );
      down = tt;
      sent = (tt, tt);
    }

    over_first-fine : (w : SetupRequest) (route : List Step) (out : Option LinkSpec) →
        Fine t gs o (over_first p s w route out)
    over_first-fine w route None = fine-nothing t gs o
    over_first-fine w route (Some out) =
        if_cases (Fine t gs o) (is_spent s) (refused_setup w Spent) _ (λ e. refused-fine w Spent)
        (λ e. if_cases (Fine t gs o) (is_full s) (refused_setup w Full) _ (λ e. refused-fine w Full)
        (λ e. if_cases (Fine t gs o) (lacks_first_back p s w.both (Work w.protected) out)
        (refused_setup w (Code label_code)) (begins p s w out (drop 1 route)) (λ e. refused-fine w (Code label_code))
        (λ e. begins-fine w out (drop 1 route))))

    over_found-fine : (w : SetupRequest) (r : Option Trip) → Fine t gs o (over_found p s w r)
    over_found-fine w None = refused-fine w NoRoute
    over_found-fine w (Some r) = over_first-fine w r.steps (first_link p r.steps)

    new_call-fine : (w : SetupRequest) (via : Option (List Step)) → Fine t gs o (new_call p s w via)
    new_call-fine w None = over_found-fine w (least_trip (known_rows p s) p.id w.egress)
    new_call-fine w (Some route) = over_first-fine w route (first_link p route)

    setup-fine : (w : SetupRequest) (c : Option CallRec) → Fine t gs o (setup_with p s w c)
    setup-fine w (Some c) = fine-nothing t gs o
    setup-fine w None =
        if_cases (Fine t gs o) (is_order_here p w) (new_call p s w w.via) nothing (λ e. new_call-fine w w.via)
        (λ e. fine-nothing t gs o)

    -- Releases

    -- the leg of an LSP that a call names
    named-concerns : (l : Option Lsp) → IfSome (leg_of l s.legs) (LegConcernsGroups gs)
    named-concerns None = tt
    named-concerns (Some l) = go (find_leg l s.legs) refl
      where
        go : (b : Option Leg) → find_leg l s.legs ≡ b → IfSome b (LegConcernsGroups gs)
        go None found = tt
        go (Some b) found = found-all (LegConcernsGroups gs) l s.legs b found holds.legs

    tears-fine : (b : Option Leg) → IfSome b (LegConcernsGroups gs) → Fine t gs o (tears b)
    tears-fine None old = fine-nothing t gs o
    tears-fine (Some b) old = fine-puts t gs o (closed b) _ (closed-concerns gs b old) (told (following b))
      where
        told : (h : Option Neighbour) → AllByRecursion (OutFine t gs) (tear_to b h)
        told None = tt
        told (Some h) = (tt, tt)

    release-fine : (from : NodeId) (c : Option CallRec) → Fine t gs o (release_with p s from c)
    release-fine from None = fine-nothing t gs o
    release-fine from (Some c) =
        if_cases (Fine t gs o) (nat_eq from.0 p.id.0) (releases s c) nothing
        (λ e. fine-then t gs o (tears (leg_of c.work s.legs)) _
        (tears-fine (leg_of c.work s.legs) (named-concerns c.work))
        (fine-then t gs o (tears (leg_of c.back s.legs)) (changes_calls (call.Goes c.call ∷ []))
        (tears-fine (leg_of c.back s.legs) (named-concerns c.back))
        (record { legs = tt; calls = (tt, tt); down = tt; sent = tt })))
        (λ e. fine-nothing t gs o)

    -- Orders for a call that stands

    numbered-holds : (n : CallNo) (c : CallRec) → find_call n s.calls ≡ Some c → CallHolds t gs o c
    numbered-holds n c found = found-of_all (CallHolds t gs o) (λ d. nat_eq d.call.0 n.0) s.calls c found holds.calls

    protects-fine : (c : CallRec) (w : Option Leg) → CallHolds t gs o c → Fine t gs o (protects p s c w)
    protects-fine c None of = fine-nothing t gs o
    protects-fine c (Some w) of = pair-fine t gs o p s knows holds c w of

    protect-fine : (n : CallNo) (from : NodeId) (c : Option CallRec) → find_call n s.calls ≡ c →
        Fine t gs o (protect_with p s from c)
    protect-fine n from None found = fine-nothing t gs o
    protect-fine n from (Some c) found =
        if_cases (Fine t gs o) (nat_eq from.0 p.id.0 && is_bare c.state) (protects p s c (leg_of c.work s.legs)) nothing
        (λ e. protects-fine c (leg_of c.work s.legs) (numbered-holds n c found)) (λ e. fine-nothing t gs o)

    retries-fine : (c : CallRec) → CallKnows t o s.legs c → CallHolds t gs o c → Fine t gs o (retries s c)
    retries-fine c call of =
        if_cases (Fine t gs o) (is_stuck c.state && (has_any c.work_reports && not (has_any c.back_reports)))
        (turn s.legs c (leg_of c.back s.legs)) nothing
        (λ e. turn-fine t gs o s.legs c (leg_of c.back s.legs) of (leg-may_turn t gs o p s knows holds apart c call
        (of.work (and-left (has_any c.work_reports) _ (and-right (is_stuck c.state) _ e))) c.back refl))
        (λ e. fine-nothing t gs o)

    numbered-knows : (n : CallNo) (c : CallRec) → find_call n s.calls ≡ Some c → CallKnows t o s.legs c
    numbered-knows n c found = found-of_all (CallKnows t o s.legs) (λ d. nat_eq d.call.0 n.0) s.calls c found knows.calls

    retry-fine : (n : CallNo) (from : NodeId) (c : Option CallRec) → find_call n s.calls ≡ c →
        Fine t gs o (retry_with p s from c)
    retry-fine n from None found = fine-nothing t gs o
    retry-fine n from (Some c) found =
        if_cases (Fine t gs o) (nat_eq from.0 p.id.0) (retries s c) nothing
        (λ e. retries-fine c (numbered-knows n c found) (numbered-holds n c found)) (λ e. fine-nothing t gs o)

    reverts-fine : (c : CallRec) → CallHolds t gs o c → Fine t gs o (reverts s c)
    reverts-fine c of =
        if_cases (Fine t gs o) (is_turned c.state && not (has_any c.work_reports)) (go_back c (leg_of c.back s.legs))
        nothing (λ e. go_back-fine t gs o c (leg_of c.back s.legs) of) (λ e. fine-nothing t gs o)

    revert-fine : (n : CallNo) (from : NodeId) (c : Option CallRec) → find_call n s.calls ≡ c →
        Fine t gs o (revert_with p s from c)
    revert-fine n from None found = fine-nothing t gs o
    revert-fine n from (Some c) found =
        if_cases (Fine t gs o) (nat_eq from.0 p.id.0) (reverts s c) nothing
        (λ e. reverts-fine c (numbered-holds n c found)) (λ e. fine-nothing t gs o)

    order-fine : (c : Command) → Fine t gs o (on_order p s c)
    order-fine (Setup n from to protected both via backup) =
        setup-fine (setup_request n from to protected both via backup) (find_call n s.calls)
    order-fine (Release n from) = release-fine from (find_call n s.calls)
    order-fine (Protect n from) = protect-fine n from (find_call n s.calls) refl
    order-fine (Retry n from) = retry-fine n from (find_call n s.calls) refl
    order-fine (Revert n from) = revert-fine n from (find_call n s.calls) refl
    order-fine (Fail h) = fine-nothing t gs o
    order-fine (Repair h) = fine-nothing t gs o

    -- Alarms and clears

    notices-fine : (f : Fibre) (code : ErrCode) (legs : List Leg) → FibreConcernsGroups t gs f →
        AllByRecursion (OutFine t gs) (notices p f code legs)
    notices-fine f code [] of = tt
    notices-fine f code (b ∷ legs) of =
        All-append (OutFine t gs) (notice_of p f code b) _
        (if_cases (AllByRecursion (OutFine t gs)) (is_hit f b) (notify_to p f code b (previous b)) []
        (λ e. told (previous b)) (λ e. tt))
        (notices-fine f code legs of)
      where
        told : (h : Option Neighbour) → AllByRecursion (OutFine t gs) (notify_to p f code b h)
        told None = tt
        told (Some h) = (of, tt)

    knows_down-fine : (f : Fibre) (code : ErrCode) (fibres : List Fibre) → FibreConcernsGroups t gs f →
        AllByRecursion (FibreConcernsGroups t gs) fibres → Fine t gs o (knows_down p s f code fibres)
    knows_down-fine f code fibres of all =
        record { legs = tt; calls = tt; down = all; sent = notices-fine f code s.legs of }

    -- the answer to each item of a desk concerns one of the groups
    pub item-fine : (i : DeskItem) → ItemConcernsGroups t gs i → Fine t gs o (on_item p s i)
    item-fine (Order c) of = order-fine c
    item-fine (Alarm f) of =
        if_cases (Fine t gs o) (enters p f (own_link p f.link) && not (has_fibre s.down f)) _ nothing
        (λ e. knows_down-fine f fibre_down_code (s.down ++ f ∷ []) of
        (All-append (FibreConcernsGroups t gs) s.down (f ∷ []) holds.down (of, tt)))
        (λ e. fine-nothing t gs o)
    item-fine (Clear f) of =
        if_cases (Fine t gs o) (enters p f (own_link p f.link) && has_fibre s.down f) _ nothing
        (λ e. knows_down-fine f fibre_up_code _ of
        (all-filter (FibreConcernsGroups t gs) (is_other_fibre f) s.down holds.down))
        (λ e. fine-nothing t gs o)
