-- A node learns of no link by what becomes of a call, and not that a fibre went down.
use Rattle.std.proofs.Common.{[], Bool, cond, drop, false, List, nat_eq, nat_le, nat_lt, not, refl, true, ◌+◌, ◌∷◌, ◌≡◌}
use Rattle.std.specs.Prelude.{◌&&◌, ℕ, Option, Some, None, is_some}
use Rattle.ason_base.specs.{Codes.busy_code, Risks.unknown_link, declared.calls.CallState.CallState, declared.calls.CallState.TheVariants.{Asking, Guarded, Stuck, Turned}, declared.calls.Cause.TheVariants.Code, declared.ids.Fibre.Fibre, declared.ids.Lsp.Lsp, declared.codes.ErrCode.ErrCode, declared.messages.PathRole.TheVariants.Work, declared.ids.NodeId.NodeId, declared.network.LinkSpec.LinkSpec, declared.steps.Step.Step, declared.tables.CallRec.CallRec, declared.tables.Leg.Leg}
use Rattle.mesh_rules.specs.declared.changes.CallChange.TheVariants as call
use Rattle.mesh_rules.specs.{declared.limits.TheConstants.LAST_NUMBER, CallSteps.{call_answered, call_contended, call_refused, call_turned}, Calls.{guarded, is_asking, is_bare, is_pairing, is_stuck, is_turned, is_turning, stuck, turned}, Changes.{Answer, changes_calls, followed_by, nothing}, FirstLegs.{first_link, is_full, lacks_first_back}, KnownRows.known_rows, LeastRoutes.{Trip, least_trip}, Legs.{is_contended, is_held, is_in_use, is_work, leg_of}, LocalNodes.LocalNode, Pairs.{backup_route, guarding, is_two_way, over_backup, pair, pair_over, route_from}, Protects.{protect_with, protects}, Releases.{release_with, releases, tears}, Reports.{call_reported, with_report}, Retries.{retries, retry_with}, Setups.{SetupRequest, admitted_setup, is_order_here, is_spent, new_call, over_first, over_found, setup_with}, State.NodeState, Turns.{decide, decided, go_back, has_any, turn}, Waits.{all_ticked, call_ticked}, Reverts.{revert_with, reverts}}
use Rattle.mesh_nodes.proofs.Cases.{if_cases}

-- no link, and no fibre that went down or came up
abbrev pub LearnsNothing : Answer → Type 0
LearnsNothing a = (a.rows ≡ []) × (a.down ≡ None)

-- of a choice of two such answers
pub either-one : (b : Bool) (x y : Answer) → LearnsNothing x → LearnsNothing y → LearnsNothing (cond b x y)
either-one b x y this that = if_cases LearnsNothing b x y (λ e. this) (λ e. that)

-- and of one after the other
pub both : (a b : Answer) → LearnsNothing a → LearnsNothing b → LearnsNothing (followed_by a b)
both a b this that = (rw (this.0, that.0) refl, rw (this.1, that.1) refl)

-- Turning

turn-none : (legs : List Leg) (c : CallRec) (o : Option Leg) → LearnsNothing (turn legs c o)
turn-none legs c None = (refl, refl)
turn-none legs c (Some b) =
    if_cases LearnsNothing (is_held b.phase) _ _
    (λ e. if_cases LearnsNothing (is_contended legs b) _ _ (λ f. (refl, refl)) (λ f. (refl, refl)))
    (λ e. (refl, refl))

go_back-none : (c : CallRec) (o : Option Leg) → LearnsNothing (go_back c o)
go_back-none c None = (refl, refl)
go_back-none c (Some b) = if_cases LearnsNothing (is_in_use b.phase) _ _ (λ e. (refl, refl)) (λ e. (refl, refl))

decided-none : (legs : List Leg) (c : CallRec) (o : Option Leg) (state : CallState) (works backs : Bool) →
    LearnsNothing (decided legs c o state works backs)
decided-none legs c o Asking works backs = (refl, refl)
decided-none legs c o Guarded true false = turn-none legs c o
decided-none legs c o Guarded true true = (refl, refl)
decided-none legs c o Guarded false backs = (refl, refl)
decided-none legs c o Turned true backs = (refl, refl)
decided-none legs c o Turned false true = go_back-none c o
decided-none legs c o Turned false false = (refl, refl)
decided-none legs c o Stuck true backs = (refl, refl)
decided-none legs c o Stuck false backs = (refl, refl)
decided-none legs c o _ works backs = (refl, refl)

decide-none : (legs : List Leg) (c : CallRec) (o : Option Leg) → LearnsNothing (decide legs c o)
decide-none legs c o = decided-none legs c o c.state (has_any c.work_reports) (has_any c.back_reports)

-- A call after a Resv, a PathErr or a Notify

pair-none : (p : LocalNode) (s : NodeState) (c : CallRec) (w : Leg) → LearnsNothing (pair p s c w)
pair-none p s c w =
    if_cases LearnsNothing (is_some (unknown_link (known_rows p s) (route_from p w))) _ _ (λ e. (refl, refl))
    (λ e. along (backup_route p s c w))
  where
    over : (route : List Step) (o : Option LinkSpec) → LearnsNothing (over_backup p s c w route o)
    over route None = (refl, refl)
    over route (Some out) =
        if_cases LearnsNothing (nat_lt LAST_NUMBER s.lsp) _ _ (λ e. (refl, refl))
        (λ e. if_cases LearnsNothing (is_full s) _ _ (λ e. (refl, refl))
        (λ e. if_cases LearnsNothing (lacks_first_back p s (is_two_way w) (guarding p w) out) _ _ (λ e. (refl, refl))
        (λ e. (refl, refl))))

    along : (o : Option (List Step)) → LearnsNothing (pair_over p s c w o)
    along None = (refl, refl)
    along (Some route) = over route (first_link p route)

pub call_answered-none : (p : LocalNode) (s : NodeState) (g : Leg) (o : Option CallRec) →
    LearnsNothing (call_answered p s g o)
call_answered-none p s g None = (refl, refl)
call_answered-none p s g (Some c) =
    if_cases LearnsNothing (is_work g.role) _ _
    (λ e. if_cases LearnsNothing (is_asking c.state) _ _
    (λ e. if_cases LearnsNothing c.protected _ _ (λ e. pair-none p s c g) (λ e. (refl, refl))) (λ e. (refl, refl)))
    (λ e. if_cases LearnsNothing (is_pairing c.state) _ _ (λ e. decide-none s.legs (guarded c) (Some g))
    (λ e. (refl, refl)))

pub call_turned-none : (s : NodeState) (b : Leg) (o : Option CallRec) → LearnsNothing (call_turned s b o)
call_turned-none s b None = (refl, refl)
call_turned-none s b (Some c) =
    if_cases LearnsNothing (is_turning c.state) _ _ (λ e. decide-none s.legs (turned c) (Some b)) (λ e. (refl, refl))

pub call_refused-none : (code : ErrCode) (g : Leg) (o : Option CallRec) → LearnsNothing (call_refused code g o)
call_refused-none code g None = (refl, refl)
call_refused-none code g (Some c) =
    if_cases LearnsNothing (is_work g.role) _ _
    (λ e. if_cases LearnsNothing (is_asking c.state) _ _ (λ e. (refl, refl)) (λ e. (refl, refl)))
    (λ e. if_cases LearnsNothing (is_pairing c.state) _ _ (λ e. (refl, refl)) (λ e. (refl, refl)))

pub call_contended-none : (s : NodeState) (b : Leg) (o : Option CallRec) → LearnsNothing (call_contended s b o)
call_contended-none s b None = (refl, refl)
call_contended-none s b (Some c) =
    if_cases LearnsNothing (is_turning c.state) _ _ (λ e. decide-none s.legs (stuck c (Code busy_code)) (Some b))
    (λ e. (refl, refl))

pub call_reported-none : (s : NodeState) (l : Lsp) (down : Bool) (f : Fibre) (o : Option CallRec) →
    LearnsNothing (call_reported s l down f o)
call_reported-none s l down f None = (refl, refl)
call_reported-none s l down f (Some c) = decide-none s.legs (with_report c l down f) (leg_of c.back s.legs)

-- Setup

admitted_setup-none : (p : LocalNode) (s : NodeState) (w : SetupRequest) (out : LinkSpec) (route : List Step) →
    LearnsNothing (admitted_setup p s w out route)
admitted_setup-none p s w out route =
    if_cases LearnsNothing (is_spent s) _ _ (λ e. (refl, refl))
    (λ e. if_cases LearnsNothing (is_full s) _ _ (λ e. (refl, refl))
    (λ e. if_cases LearnsNothing (lacks_first_back p s w.both (Work w.protected) out) _ _ (λ e. (refl, refl))
    (λ e. (refl, refl))))

over_first-none : (p : LocalNode) (s : NodeState) (w : SetupRequest) (route : List Step) (o : Option LinkSpec) →
    LearnsNothing (over_first p s w route o)
over_first-none p s w route None = (refl, refl)
over_first-none p s w route (Some out) = admitted_setup-none p s w out (drop 1 route)

over_found-none : (p : LocalNode) (s : NodeState) (w : SetupRequest) (o : Option Trip) →
    LearnsNothing (over_found p s w o)
over_found-none p s w None = (refl, refl)
over_found-none p s w (Some r) = over_first-none p s w r.steps (first_link p r.steps)

new_call-none : (p : LocalNode) (s : NodeState) (w : SetupRequest) (via : Option (List Step)) →
    LearnsNothing (new_call p s w via)
new_call-none p s w None = over_found-none p s w (least_trip (known_rows p s) p.id w.egress)
new_call-none p s w (Some route) = over_first-none p s w route (first_link p route)

pub setup-none : (p : LocalNode) (s : NodeState) (w : SetupRequest) (o : Option CallRec) →
    LearnsNothing (setup_with p s w o)
setup-none p s w (Some c) = (refl, refl)
setup-none p s w None =
    either-one (is_order_here p w) (new_call p s w w.via) nothing (new_call-none p s w w.via) (refl, refl)

-- Protect

protects-none : (p : LocalNode) (s : NodeState) (c : CallRec) (o : Option Leg) → LearnsNothing (protects p s c o)
protects-none p s c None = (refl, refl)
protects-none p s c (Some w) = pair-none p s c w

pub protect-none : (p : LocalNode) (s : NodeState) (from : NodeId) (o : Option CallRec) →
    LearnsNothing (protect_with p s from o)
protect-none p s from None = (refl, refl)
protect-none p s from (Some c) =
    either-one (nat_eq from.0 p.id.0 && is_bare c.state) (protects p s c (leg_of c.work s.legs)) nothing
    (protects-none p s c (leg_of c.work s.legs)) (refl, refl)

-- Retry

retries-none : (s : NodeState) (c : CallRec) → LearnsNothing (retries s c)
retries-none s c =
    if_cases LearnsNothing (is_stuck c.state && (has_any c.work_reports && not (has_any c.back_reports))) _ _
    (λ e. turn-none s.legs c (leg_of c.back s.legs)) (λ e. (refl, refl))

pub retry-none : (p : LocalNode) (s : NodeState) (from : NodeId) (o : Option CallRec) →
    LearnsNothing (retry_with p s from o)
retry-none p s from None = (refl, refl)
retry-none p s from (Some c) = either-one (nat_eq from.0 p.id.0) (retries s c) nothing (retries-none s c) (refl, refl)

-- Revert

reverts-none : (s : NodeState) (c : CallRec) → LearnsNothing (reverts s c)
reverts-none s c =
    if_cases LearnsNothing (is_turned c.state && not (has_any c.work_reports)) _ _
    (λ e. go_back-none c (leg_of c.back s.legs)) (λ e. (refl, refl))

pub revert-none : (p : LocalNode) (s : NodeState) (from : NodeId) (o : Option CallRec) →
    LearnsNothing (revert_with p s from o)
revert-none p s from None = (refl, refl)
revert-none p s from (Some c) =
    either-one (nat_eq from.0 p.id.0) (reverts s c) nothing (reverts-none s c) (refl, refl)

-- Ticks

ticked-none : (wait : ℕ) (legs : List Leg) (c : CallRec) → LearnsNothing (call_ticked wait legs c)
ticked-none wait legs c =
    if_cases LearnsNothing (not (nat_eq wait 0) && (is_turned c.state && not (has_any c.work_reports))) _ _
    (λ e. if_cases LearnsNothing (nat_le wait (c.ticks + 1)) _ _ (λ e. go_back-none c (leg_of c.back legs))
    (λ e. (refl, refl))) (λ e. (refl, refl))

pub all_ticked-none : (wait : ℕ) (legs : List Leg) (calls : List CallRec) → LearnsNothing (all_ticked wait legs calls)
all_ticked-none wait legs [] = (refl, refl)
all_ticked-none wait legs (c ∷ calls) =
    both (call_ticked wait legs c) (all_ticked wait legs calls) (ticked-none wait legs c)
    (all_ticked-none wait legs calls)

-- Release

tears-none : (o : Option Leg) → LearnsNothing (tears o)
tears-none None = (refl, refl)
tears-none (Some g) = (refl, refl)

pub release-none : (p : LocalNode) (s : NodeState) (from : NodeId) (o : Option CallRec) →
    LearnsNothing (release_with p s from o)
release-none p s from None = (refl, refl)
release-none p s from (Some c) =
    let goes = changes_calls (call.Goes c.call ∷ []) in
    let back = tears (leg_of c.back s.legs) in
    either-one (nat_eq from.0 p.id.0) (releases s c) nothing
    (both (tears (leg_of c.work s.legs)) (followed_by back goes) (tears-none (leg_of c.work s.legs))
    (both back goes (tears-none (leg_of c.back s.legs)) (refl, refl))) (refl, refl)
