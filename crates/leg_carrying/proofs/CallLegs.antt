-- What a rule does to the calls of an ingress: the legs that begin there keep their labels, and one is marked just
-- where it isn't contended; a backup that is asked for may take one label more, the one for its way back.
use Rattle.std.proofs.Common.{◌≡◌, ◌<◌, ℕ, Bool, true, false, drop, nat_lt, List, [], ◌∷◌, refl, sym, ap, ◌∙◌, arith}
use Rattle.std.specs.{Prelude.{Option, Some, None, IfSome, is_some}, List.AllByRecursion}
use Rattle.ason_base.specs.{Codes.busy_code, Labels.has, Risks.unknown_link, declared.calls.CallState.CallState, declared.calls.CallState.TheVariants.{Asking, Bare, Blocked, Guarded, Pairing, Stuck, Turned, Turning}, declared.calls.Cause.TheVariants.Code, declared.calls.Phase.TheVariants.{Armed, Held}, declared.codes.ErrCode.ErrCode, declared.ids.Lsp.Lsp, declared.messages.PathRole.PathRole, declared.network.LinkSpec.LinkSpec, declared.steps.Step.Step, declared.tables.CallRec.CallRec, declared.tables.Leg.Leg}
use Rattle.mesh_rules.specs.{declared.changes.LegChange.LegChange, declared.limits.TheConstants.LAST_NUMBER, CallSteps.{call_answered, call_contended, call_refused, call_turned}, Calls.{guarded, is_asking, is_pairing, is_turning, stuck, turned}, Changes.Answer, FirstLegs.{NewLsp, first_back, first_leg, first_link, is_full, lacks_first_back}, KnownRows.known_rows, Legs.{find_leg, is_contended, is_held, is_in_use, is_work, leg_of, reverse, usable, with_leg, with_phase, without_leg}, LocalNodes.{LocalNode, fibre_out}, Pairs.{backup_lsp, backup_route, beside_lsp, guarding, is_two_way, over_backup, pair, pair_over, route_from}, Paths.{recorded, role_of}, State.NodeState, Turns.{decide, decided, go_back, has_any, turn}}
use Rattle.mesh_rules.specs.declared.changes.LegChange.TheVariants as leg
use Rattle.mesh_nodes.specs.{FitNodes.LegFits, LocalNodes.LocalNodeFits}
use Rattle.mesh_nodes.proofs.{Cases.if_cases, ChosenLabels.least-has, FirstLegs.first-is, LegList.{find-with_leg, found-all, found-lsp, same_lsp-refl}}
use Rattle.leg_table.specs.LegClaims.{MayAllMark, MayAllStay, MayBeMade, MayBePut, MayFollow, OverOwnFibres, StaysAs, is_own_fibre}
use Rattle.leg_table.proofs.OwnFibres.{over-own}
use Rattle.leg_labels.proofs.{InFibres.out-comes_back, OwnContention.contended-with}
use Rattle.leg_carrying.proofs.{MayMark.{alone-marks, dark, plain}, MayPut.{found-itself, itself, less-put, new-put, phase-stays, stays-less}, Rests.{RestsUnmarked, rests-calm}}

-- the legs that an answer changes, which was read off the first legs, may be changed so in turn from the second on
abbrev pub FineAfter : LocalNode → List Leg → List Leg → Answer → Type 0
FineAfter p read legs a = MayFollow p read legs a.legs × MayAllMark (is_own_fibre p) legs a.legs

-- the legs that an answer changes may be changed so
abbrev pub FineLegs : LocalNode → List Leg → Answer → Type 0
FineLegs p legs a = MayBeMade p legs a.legs × MayAllMark (is_own_fibre p) legs a.legs

-- they keep their labels, and may be marked so
abbrev pub CalmLegs : LocalNode → List Leg → Answer → Type 0
CalmLegs p legs a = MayAllStay legs a.legs × MayAllMark (is_own_fibre p) legs a.legs

-- legs that keep their labels may be put
stays-follow : (p : LocalNode) (read legs : List Leg) (cs : List LegChange) → MayAllStay legs cs →
    MayFollow p read legs cs
stays-follow p read legs [] stay = tt
stays-follow p read legs (leg.Goes l ∷ cs) stay = stays-follow p read (without_leg l legs) cs stay.1
stays-follow p read legs (leg.Put g ∷ cs) stay =
    (less-put p read legs g cs (stays-less legs g stay.0), stays-follow p read (with_leg g legs) cs stay.1)

pub calm-fine : (p : LocalNode) (read legs : List Leg) (a : Answer) → CalmLegs p legs a → FineAfter p read legs a
calm-fine p read legs a calm = (stays-follow p read legs a.legs calm.0, calm.1)

-- Legs that begin here

-- a leg that stands as it is in its turn, over the node's fibres; where it isn't contended by the legs that a rule
-- reads, it isn't by those that there are
pub record MayTurnLeg (p : LocalNode) (read legs : List Leg) (b : Leg) : Type 0 where
  pub stays : StaysAs legs b
  pub over : OverOwnFibres p b
  pub alone : is_contended read b ≡ false → is_contended legs b ≡ false

-- the leg of an LSP
pub found-turns : (p : LocalNode) (next : ℕ) (legs : List Leg) (l : Lsp) (g : Leg) → LocalNodeFits p →
    AllByRecursion (LegFits p next) legs → find_leg l legs ≡ Some g → MayTurnLeg p legs legs g
found-turns p next legs l g links each found = record {
  stays = itself legs g (found-itself l legs g found);
  over = over-own p next g links (found-all (LegFits p next) l legs g found each);
  alone = λ free. free;
}

-- the leg of a call's backup
pub back-turns : (p : LocalNode) (next : ℕ) (legs : List Leg) (o : Option Lsp) → LocalNodeFits p →
    AllByRecursion (LegFits p next) legs → IfSome (leg_of o legs) (MayTurnLeg p legs legs)
back-turns p next legs None links each = tt
back-turns p next legs (Some l) links each = go (find_leg l legs) refl
  where
    go : (k : Option Leg) → find_leg l legs ≡ k → IfSome k (MayTurnLeg p legs legs)
    go None found = tt
    go (Some g) found = found-turns p next legs l g links each found

-- a leg after it was put
pub put-turns : (p : LocalNode) (legs : List Leg) (b : Leg) → OverOwnFibres p b → MayTurnLeg p legs (with_leg b legs) b
put-turns p legs b over = record {
  stays = itself (with_leg b legs) b (find-with_leg b legs b.lsp ∙ rw (same_lsp-refl b.lsp) refl);
  over = over;
  alone = λ free. contended-with b b legs (same_lsp-refl b.lsp) ∙ free;
}

-- LSPs that are asked for

-- an LSP of the number that is given out next has no leg
pub number-absent : (p : LocalNode) (s : NodeState) (l : Lsp) → AllByRecursion (LegFits p s.lsp) s.legs →
    l.ingress.0 ≡ p.id.0 → l.lsp ≡ s.lsp → find_leg l s.legs ≡ None
number-absent p s l each begins next = go (find_leg l s.legs) refl
  where
    go : (o : Option Leg) → find_leg l s.legs ≡ o → o ≡ None
    go None found = refl
    go (Some g) found =
        let is = found-lsp l s.legs g found in
        let fits = found-all (LegFits p s.lsp) l s.legs g found each in
        let below : g.lsp.lsp < s.lsp = fits.number (ap (λ (k : Lsp). k.ingress.0) is ∙ begins) in
        let same : g.lsp.lsp ≡ s.lsp = ap (λ (k : Lsp). k.lsp) is ∙ next in
        absurd (omega arith)

first-back-has : (p : LocalNode) (s : NodeState) (two : Bool) (r : PathRole) (out : LinkSpec) (x : ℕ) →
    first_back p s two r out ≡ Some x →
    has (usable p s.legs (role_of r) (recorded (known_rows p s) r) (reverse (fibre_out out p.id))) x ≡ true
first-back-has p s false r out x e = absurd (cc e)
first-back-has p s true r out x e =
    least-has (usable p s.legs (role_of r) (recorded (known_rows p s) r) (reverse (fibre_out out p.id))) x e

-- the leg of an LSP that is asked for, over the first link of a route
pub first-may : (p : LocalNode) (s : NodeState) (legs : List Leg) (n : NewLsp) (two : Bool) (route : List Step) →
    LocalNodeFits p → find_leg n.lsp s.legs ≡ None → first_link p route ≡ Some n.out →
    n.back ≡ first_back p s two n.role n.out → MayBePut p s.legs legs (first_leg p (known_rows p s) n) []
first-may p s legs n two [] links absent leads back = absurd (cc leads)
first-may p s legs n two (hop ∷ route) links absent leads back =
    new-put p s.legs legs (first_leg p (known_rows p s) n) (reverse (fibre_out n.out p.id)) refl refl
    (out-comes_back p hop.link n.out links (first-is p hop route n.out leads).own) absent
    (λ x is. first-back-has p s two n.role n.out x (sym back ∙ is))

-- a backup is asked for
pub pair-may : (p : LocalNode) (s : NodeState) (legs : List Leg) (c : CallRec) (w : Leg) → LocalNodeFits p →
    find_leg (beside_lsp w.lsp s.lsp) s.legs ≡ None → FineAfter p s.legs legs (pair p s c w)
pair-may p s legs c w links absent =
    if_cases (FineAfter p s.legs legs) (is_some (unknown_link (known_rows p s) (route_from p w))) _ _ (λ e. (tt, tt))
    (λ e. along (backup_route p s c w))
  where
    over : (route : List Step) (o : Option LinkSpec) → first_link p route ≡ o →
        FineAfter p s.legs legs (over_backup p s c w route o)
    over route None leads = (tt, tt)
    over route (Some out) leads =
        let n : NewLsp = backup_lsp p s w out (drop 1 route) in
        if_cases (FineAfter p s.legs legs) (nat_lt LAST_NUMBER s.lsp) _ _ (λ e. (tt, tt))
        (λ e. if_cases (FineAfter p s.legs legs) (is_full s) _ _ (λ e. (tt, tt))
        (λ e. if_cases (FineAfter p s.legs legs) (lacks_first_back p s (is_two_way w) (guarding p w) out) _ _
        (λ e. (tt, tt))
        (λ e. (
          (first-may p s legs n (is_two_way w) route links absent leads refl, tt),
          (dark (is_own_fibre p) legs (first_leg p (known_rows p s) n) refl, tt),
        ))))

    along : (o : Option (List Step)) → FineAfter p s.legs legs (pair_over p s c w o)
    along None = (tt, tt)
    along (Some route) = over route (first_link p route) refl

-- Turning

pub turn-calm : (p : LocalNode) (read legs : List Leg) (c : CallRec) (o : Option Leg) →
    IfSome o (MayTurnLeg p read legs) → CalmLegs p legs (turn read c o)
turn-calm p read legs c None may = (tt, tt)
turn-calm p read legs c (Some b) may =
    if_cases (CalmLegs p legs) (is_held b.phase) _ _
    (λ e. if_cases (CalmLegs p legs) (is_contended read b) _ _ (λ busy. (tt, tt))
    (λ free. (
      (phase-stays legs b Armed may.stays, tt),
      (alone-marks (is_own_fibre p) legs b Armed may.over (may.alone free), tt),
    )))
    (λ e. (tt, tt))

pub go_back-rests : (legs : List Leg) (c : CallRec) (o : Option Leg) → IfSome o (StaysAs legs) →
    AllByRecursion (RestsUnmarked legs) (go_back c o).legs
go_back-rests legs c None stays = tt
go_back-rests legs c (Some b) stays =
    if_cases (λ (a : Answer). AllByRecursion (RestsUnmarked legs) a.legs) (is_in_use b.phase) _ _
    (λ e. ((phase-stays legs b Held stays, plain (with_phase Held b) refl), tt)) (λ e. tt)

pub may-stay : (p : LocalNode) (read legs : List Leg) (o : Option Leg) → IfSome o (MayTurnLeg p read legs) →
    IfSome o (StaysAs legs)
may-stay p read legs None may = tt
may-stay p read legs (Some b) may = may.stays

pub decide-calm : (p : LocalNode) (read legs : List Leg) (c : CallRec) (o : Option Leg) →
    IfSome o (MayTurnLeg p read legs) → CalmLegs p legs (decide read c o)
decide-calm p read legs c o may = go c.state (has_any c.work_reports) (has_any c.back_reports)
  where
    go : (s : CallState) (works backs : Bool) → CalmLegs p legs (decided read c o s works backs)
    go Asking works backs = (tt, tt)
    go Blocked works backs = (tt, tt)
    go Bare works backs = (tt, tt)
    go Pairing works backs = (tt, tt)
    go Guarded true false = turn-calm p read legs c o may
    go Guarded true true = (tt, tt)
    go Guarded false backs = (tt, tt)
    go Turning works backs = (tt, tt)
    go Turned true backs = (tt, tt)
    go Turned false true =
        rests-calm p legs (go_back c o).legs (go_back-rests legs c o (may-stay p read legs o may))
    go Turned false false = (tt, tt)
    go Stuck true backs = (tt, tt)
    go Stuck false backs = (tt, tt)

-- A Resv or a PathErr

pub answered-may : (p : LocalNode) (s : NodeState) (legs : List Leg) (g : Leg) (o : Option CallRec) → LocalNodeFits p →
    find_leg (beside_lsp g.lsp s.lsp) s.legs ≡ None → MayTurnLeg p s.legs legs g →
    FineAfter p s.legs legs (call_answered p s g o)
answered-may p s legs g None links absent may = (tt, tt)
answered-may p s legs g (Some c) links absent may =
    if_cases (FineAfter p s.legs legs) (is_work g.role) _ _
    (λ e. if_cases (FineAfter p s.legs legs) (is_asking c.state) _ _
    (λ e. if_cases (FineAfter p s.legs legs) c.protected _ _ (λ e. pair-may p s legs c g links absent)
    (λ e. (tt, tt))) (λ e. (tt, tt)))
    (λ e. if_cases (FineAfter p s.legs legs) (is_pairing c.state) _ _
    (λ e. calm-fine p s.legs legs (decide s.legs (guarded c) (Some g))
    (decide-calm p s.legs legs (guarded c) (Some g) may))
    (λ e. (tt, tt)))

-- no leg changes with a call that is refused
pub refused-fine : (p : LocalNode) (read legs : List Leg) (code : ErrCode) (g : Leg) (o : Option CallRec) →
    FineAfter p read legs (call_refused code g o)
refused-fine p read legs code g None = (tt, tt)
refused-fine p read legs code g (Some c) =
    if_cases (FineAfter p read legs) (is_work g.role) _ _
    (λ e. if_cases (FineAfter p read legs) (is_asking c.state) _ _ (λ e. (tt, tt)) (λ e. (tt, tt)))
    (λ e. if_cases (FineAfter p read legs) (is_pairing c.state) _ _ (λ e. (tt, tt)) (λ e. (tt, tt)))

-- The answers to an activation

pub turned-calm : (p : LocalNode) (s : NodeState) (legs : List Leg) (b : Leg) (o : Option CallRec) →
    MayTurnLeg p s.legs legs b → CalmLegs p legs (call_turned s b o)
turned-calm p s legs b None may = (tt, tt)
turned-calm p s legs b (Some c) may =
    if_cases (CalmLegs p legs) (is_turning c.state) _ _ (λ e. decide-calm p s.legs legs (turned c) (Some b) may)
    (λ e. (tt, tt))

pub contended-calm : (p : LocalNode) (s : NodeState) (legs : List Leg) (b : Leg) (o : Option CallRec) →
    MayTurnLeg p s.legs legs b → CalmLegs p legs (call_contended s b o)
contended-calm p s legs b None may = (tt, tt)
contended-calm p s legs b (Some c) may =
    if_cases (CalmLegs p legs) (is_turning c.state) _ _
    (λ e. decide-calm p s.legs legs (stuck c (Code busy_code)) (Some b) may) (λ e. (tt, tt))
