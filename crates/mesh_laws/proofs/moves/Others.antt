-- An order changes no call but its own.
use Rattle.std.proofs.{Common.{inr, ◌≡◌, true, false, cond, nat_eq, List, [], ◌∷◌, ◌++◌, refl, sym, ap, ◌∙◌, subst}, lemmas.Bool.not-true}
use Rattle.std.specs.Prelude.{◌&&◌, Option, Some, None, not}
use Rattle.ason_base.specs.{Lsps.has_fibre, declared.commands.Command.TheVariants.{Setup, Release, Protect, Retry, Revert, Fail, Repair}, declared.commands.DeskItem.DeskItem, declared.commands.DeskItem.TheVariants.{Order, Alarm, Clear}, declared.ids.CallNo.CallNo, declared.ids.NodeId.NodeId, declared.tables.CallRec.CallRec, declared.tables.Leg.Leg}
use Rattle.ason_base.proofs.Bools.{and-left, and-right}
use Rattle.mesh_rules.specs.{declared.changes.CallChange.CallChange, declared.changes.CallChange.TheVariants.{Goes, Put}, Alarms.enters, Calls.{call_changed, calls_changed, find_call, is_bare, is_stuck, is_turned}, Changes.Answer, Events.after, Legs.leg_of, LocalNodes.{LocalNode, local_node, own_link}, Machine.start, Orders.on_item, Protects.{protect_with, protects}, Releases.{release_with, tears}, Retries.retry_with, Reverts.revert_with, State.NodeState, Turns.has_any}
use Rattle.mesh_nodes.proofs.{CallList.{find-with_call, find-without_call, found-number}, Cases.if_cases}
use Rattle.lsp_laws.proofs.{nodes.CallChanges.AreChanges, nodes.SetupsHold.setup-holds, nodes.CallSteps.{holds-go_back, holds-pair, holds-turn}, nodes.CallWays.{CallBecomes, ByRetry, ByRevert, AtOnce, Way}, nodes.OrderWalk.work-names, nodes.CallOver.AnySent, nodes.NotifyKeeps.stuck-is, hops.Ticked.turned_is}
use Rattle.mesh_laws.specs.OthersLaw.{EveryOrderIsOfOneCall, is_order_of}
use Rattle.mesh_laws.proofs.{acts.Puts.handled, moves.Moved.becomes-moved}

-- k is the number of another call
module _ (k : CallNo) where
  abbrev IsOther : CallNo → Type 0
  IsOther m = nat_eq m.0 k.0 ≡ false

  abbrev Other : CallRec → Type 0
  Other d = nat_eq d.call.0 k.0 ≡ false

  one-kept : (x : CallChange) (cs : List CallChange) (calls : List CallRec) → AreChanges IsOther Other (x ∷ cs) →
      find_call k (call_changed x calls) ≡ find_call k calls
  one-kept (Goes m) cs calls here =
      let other : nat_eq m.0 k.0 ≡ false = here.0 in
      find-without_call m calls k ∙ ap (λ b. cond b None (find_call k calls)) other
  one-kept (Put d) cs calls here =
      let other : nat_eq d.call.0 k.0 ≡ false = here.0 in
      find-with_call d calls k ∙ ap (λ b. cond b (Some d) (find_call k calls)) other

  all-kept : (cs : List CallChange) (calls : List CallRec) → AreChanges IsOther Other cs →
      find_call k (calls_changed cs calls) ≡ find_call k calls
  all-kept [] calls here = refl
  all-kept (x ∷ cs) calls here = all-kept cs (call_changed x calls) here.1 ∙ one-kept x cs calls here

  module _ (p : LocalNode) (s : NodeState) where
    abbrev Others : Answer → Type 0
    Others a = AreChanges IsOther Other a.calls

    -- a rule that is given the call reads no other one
    abbrev alone : NodeState
    alone = record s { calls = [] }

    -- whatever came
    abbrev Any : Way → Type 0
    Any way = Unit {0}

    keeps : (c d : CallRec) → CallBecomes p (record s { calls = [] }) (λ way. Unit {0}) AnySent c d → Other c → Other d
    keeps c d way other =
        let same = becomes-moved p.wait p alone Any AnySent refl c d way in
        subst (λ (m : CallNo). nat_eq m.0 k.0 ≡ false) (sym same.number) other

    found-other : (m : CallNo) (c : CallRec) → find_call m s.calls ≡ Some c → nat_eq m.0 k.0 ≡ false → Other c
    found-other m c found other =
        subst (λ (j : CallNo). nat_eq j.0 k.0 ≡ false) (sym (found-number m s.calls c found)) other

    torn-others : (w b : Option Leg) (c : CallRec) → Other c →
        AreChanges IsOther Other ((tears w).calls ++ ((tears b).calls ++ Goes c.call ∷ []))
    torn-others None None c other = (other, tt)
    torn-others None (Some b) c other = (other, tt)
    torn-others (Some w) None c other = (other, tt)
    torn-others (Some w) (Some b) c other = (other, tt)

    release-others : (from : NodeId) (o : Option CallRec) → ((c : CallRec) → o ≡ Some c → Other c) →
        Others (release_with p s from o)
    release-others from None other = tt
    release-others from (Some c) other =
        if_cases Others (nat_eq from.0 p.id.0) _ _
        (λ e. torn-others (leg_of c.work s.legs) (leg_of c.back s.legs) c (other c refl)) (λ e. tt)

    protects-others : (c : CallRec) (o : Option Leg) → leg_of c.work s.legs ≡ o → is_bare c.state ≡ true → Other c →
        Others (protects p s c o)
    protects-others c None is bare other = tt
    protects-others c (Some w) is bare other =
        holds-pair IsOther Other Other Any AnySent p alone keeps tt (λ j d found. absurd (cc found)) c w (inr bare)
        (work-names c s.legs w is) other tt

    protect-others : (from : NodeId) (o : Option CallRec) → ((c : CallRec) → o ≡ Some c → Other c) →
        Others (protect_with p s from o)
    protect-others from None other = tt
    protect-others from (Some c) other =
        if_cases Others (nat_eq from.0 p.id.0 && is_bare c.state) _ _
        (λ e. protects-others c (leg_of c.work s.legs) refl (and-right (nat_eq from.0 p.id.0) (is_bare c.state) e)
        (other c refl)) (λ e. tt)

    retry-others : (from : NodeId) (o : Option CallRec) → ((c : CallRec) → o ≡ Some c → Other c) →
        Others (retry_with p s from o)
    retry-others from None other = tt
    retry-others from (Some c) other =
        if_cases Others (nat_eq from.0 p.id.0) _ _
        (λ e. if_cases Others (is_stuck c.state && (has_any c.work_reports && not (has_any c.back_reports))) _ _
        (λ f. holds-turn IsOther Other Other Any AnySent p alone keeps tt (λ j d found. absurd (cc found)) ⊥ c c
        (other c refl) (λ e late. AtOnce late) (leg_of c.back s.legs)
        (ByRetry (stuck-is c.state (and-left (is_stuck c.state) _ f)) tt)) (λ f. tt))
        (λ e. tt)

    revert-others : (from : NodeId) (o : Option CallRec) → ((c : CallRec) → o ≡ Some c → Other c) →
        Others (revert_with p s from o)
    revert-others from None other = tt
    revert-others from (Some c) other =
        if_cases Others (nat_eq from.0 p.id.0) _ _
        (λ e. if_cases Others (is_turned c.state && not (has_any c.work_reports)) _ _
        (λ f. holds-go_back IsOther Other Other Any AnySent p alone keeps tt (λ j d found. absurd (cc found)) ⊥ c c
        (other c refl) (λ e late. AtOnce late) (leg_of c.back s.legs)
        (ByRevert (turned_is c.state (and-left (is_turned c.state) _ f))
        (not-true (has_any c.work_reports) (and-right (is_turned c.state) _ f)) tt)) (λ f. tt))
        (λ e. tt)

    item-others : (i : DeskItem) → is_order_of k i ≡ false → Others (on_item p s i)
    item-others (Order (Setup m from to protected both via backup)) other =
        setup-holds IsOther p s
        (record { call = m; from = from; egress = to; protected = protected; both = both; via = via; backup = backup })
        (λ a. Other) (λ a cause known. other) (λ route out over first ordered has. other) (find_call m s.calls)
    item-others (Order (Release m from)) other =
        release-others from (find_call m s.calls) (λ c found. found-other m c found other)
    item-others (Order (Protect m from)) other =
        protect-others from (find_call m s.calls) (λ c found. found-other m c found other)
    item-others (Order (Retry m from)) other =
        retry-others from (find_call m s.calls) (λ c found. found-other m c found other)
    item-others (Order (Revert m from)) other =
        revert-others from (find_call m s.calls) (λ c found. found-other m c found other)
    item-others (Order (Fail g)) other = tt
    item-others (Order (Repair g)) other = tt
    item-others (Alarm f) other =
        if_cases Others (enters p f (own_link p f.link) && not (has_fibre s.down f)) _ _ (λ e. tt) (λ e. tt)
    item-others (Clear f) other =
        if_cases Others (enters p f (own_link p f.link) && has_fibre s.down f) _ _ (λ e. tt) (λ e. tt)

-- over every network and every run
pub every_order_of_one : EveryOrderIsOfOneCall
every_order_of_one t events run n i items first k other =
    let s : NodeState = (after t start events).nodes n.0 in
    let a : Answer = on_item (local_node t n) s i in
    ap (λ (y : NodeState). find_call k y.calls) (handled t (after t start events) n i items first)
    ∙ all-kept k a.calls s.calls (item-others k (local_node t n) s i other)
