-- What changes a turned call, and where a cause that is a code comes from.
use Rattle.std.proofs.Common.{◌≡◌, ◌≢◌, ◌⊎◌, inl, inr, ℕ, Bool, true, false, cond, List, [], refl, sym, ap, ◌∙◌, subst}
use Rattle.ason_base.specs.{Codes.{busy_code, label_code}, Lsps.is_lsp, Network.Network, declared.calls.CallState.CallState, declared.calls.CallState.TheVariants.{Asking, Bare, Stuck, Turned}, declared.calls.Cause.Cause, declared.calls.Cause.TheVariants.Code, declared.codes.ErrCode.ErrCode, declared.ids.Fibre.Fibre, declared.ids.Lsp.Lsp, declared.ids.NodeId.NodeId, declared.tables.CallRec.CallRec}
use Rattle.mesh_rules.specs.{declared.events.MeshEvent.MeshEvent, Calls.{guarded, is_asking, is_bare, is_pairing, is_turning}, Events.after, LocalNodes.local_node, Machine.{Mesh, start}, Reports.{fibres_after, with_back_reports, with_report, with_work_reports}, Turns.has_any}
use Rattle.mesh_nodes.proofs.Cases.{if_cases}
use Rattle.lsp_laws.proofs.{nodes.CallWays.{AtOnce, Bares, CallBecomes, Blocks, ByReport, ByRetry, ByRevert, ByWait, Carries, Counts, Decides, Early, Fails, GoesBack, GoesDown, Guards, Hit, IsCallAlone, Lacks, LacksLabel, Late, LosesBackup, MayGoBy, MayTurnBy, Misses, Pairs, Removed, Reported, Reports, Stays, Turns, Whole, is_lack}, nodes.Facts.MeshFacts, nodes.NodeRuns.facts-hold, nodes.CallOver.{AnySent, CameOver, IsAt, step-stands}, nodes.CallMoves.asking-is, nodes.OrderKeeps.bare-is, nodes.TurnedCalls.none-reported}
use Rattle.mesh_laws.specs.SourceLaw.{CameBack, EveryCodeHasSource, EveryTurnedCallWaits, HasSource, IsHit, IsOrdered, IsRefusedAt, IsReported, IsReverted, IsStuckBusy, IsTicked, IsUnchanged, LacksLabelBack, TurnedBecomes, WasThere}
use Rattle.mesh_laws.proofs.{acts.Tests.any-some, moves.Came.{refused, reverted, ticks, told}}

-- Turned calls

is-turned : (f : CallState) → f ≡ Turned → (is_asking f ≡ false) × (is_pairing f ≡ false) × (is_turning f ≡ false)
    × (is_bare f ≡ false)
is-turned f is = (ap is_asking is, ap is_pairing is, ap is_turning is, ap is_bare is)

module _ (t : Network) (s : Mesh) (e : MeshEvent) (n : ℕ) (m : NodeId) (is : n ≡ m.0) (at : IsAt e m) (c : CallRec)
    (turned : c.state ≡ Turned) where
  abbrev Then : CallRec → Type 0
  Then d = TurnedBecomes s n e c d

  never-turns : (D : Type 0) (d : CallRec) → d.state ≡ Turned → MayTurnBy (CameOver s e) D d → ⊥
  never-turns D d still (ByReport by other works) = (let no_turn = sym still ∙ other in cc no_turn)
  never-turns D d still (ByRetry other came) = (let no_turn = sym still ∙ other in cc no_turn)

  -- a report on such a call
  record IsOn (d : CallRec) : Type 0 where
    number : d.call ≡ c.call
    still : d.state ≡ Turned
    ticks : (d.ticks ≡ c.ticks) ⊎ ((d.ticks ≡ 0) × (d.work_reports ≢ []))

  report-on : (l : Lsp) (down : Bool) (f : Fibre) → IsOn (with_report c l down f)
  report-on l down f =
      if_cases IsOn (is_lsp c.work l) (with_work_reports c (fibres_after down f c.work_reports))
      (with_back_reports c (fibres_after down f c.back_reports))
      (λ e. record {
        number = refl;
        still = turned;
        ticks = counted (fibres_after down f c.work_reports) (has_any (fibres_after down f c.work_reports)) refl;
      })
      (λ e. record { number = refl; still = turned; ticks = inl refl })
    where
      counted : (fibres : List Fibre) (any : Bool) → has_any fibres ≡ any →
          (cond any 0 c.ticks ≡ c.ticks) ⊎ ((cond any 0 c.ticks ≡ 0) × (fibres ≢ []))
      counted fibres true any = inr (refl, any-some fibres any)
      counted fibres false any = inl refl

  -- it goes back, from what it became by what came
  goes : (D : Type 0) (d : CallRec) → d.call ≡ c.call → d.state ≡ Turned → (D → has_any d.work_reports ≡ false →
      has_any d.back_reports ≡ true → Then (guarded d)) → MayGoBy (CameOver s e) D d → Then (guarded d)
  goes D d number still hit (Whole by other works) = absurd (let no_turn = sym still ∙ other in cc no_turn)
  goes D d number still hit (Hit by so works backs) = hit by works backs
  goes D d number still hit (ByRevert so works came) =
      IsOrdered (subst (λ k. IsReverted s n k e) number (reverted s e n m d.call is at came)) refl
  goes D d number still hit (ByWait so works came) = IsTicked (ticks s e n m is at came)

  late-told : (d x : CallRec) → CameOver s e Reported → IsOn d → Late (s.nodes m.0) (CameOver s e) (Unit {0}) d x →
      Then x
  late-told d _ came on Stays = IsReported (told s e n m is at came) on.still on.ticks
  late-told d _ came on (Turns by) = absurd (never-turns (Unit {0}) d on.still by)
  late-told d _ came on (Fails by b busy) = absurd (never-turns (Unit {0}) d on.still by)
  late-told d _ came on (GoesDown by other works backs) =
      absurd (let still = on.still in let never = sym still ∙ other in cc never)
  late-told d _ came on (GoesBack by) =
      goes (Unit {0}) d on.number on.still (λ decides works backs.
      IsHit (told s e n m is at came) refl (none-reported d.work_reports works) (any-some d.back_reports backs)) by

  -- it follows at once from what came
  late-same : (x : CallRec) → Late (s.nodes m.0) (CameOver s e) ⊥ c x → Then x
  late-same _ Stays = IsUnchanged refl
  late-same _ (Turns by) = absurd (never-turns ⊥ c turned by)
  late-same _ (Fails by b busy) = absurd (never-turns ⊥ c turned by)
  late-same _ (GoesDown by other works backs) = absurd by
  late-same _ (GoesBack by) = goes ⊥ c refl turned (λ never works backs. absurd never) by

  alone-not : IsCallAlone c → ⊥
  alone-not (inl asking) = (let never = (is-turned c.state turned).0 in cc (asking, never))
  alone-not (inr bare) = (let never = (is-turned c.state turned).3 in cc (bare, never))

  pairing-not : is_pairing c.state ≡ true → ⊥
  pairing-not e = (let never = (is-turned c.state turned).1 in cc (e, never))

  early-then : (d x : CallRec) → Early (local_node t m) (s.nodes m.0) (CameOver s e) c d →
      Late (s.nodes m.0) (CameOver s e) (Unit {0}) d x → Then x
  early-then _ x (Guards e came) late = absurd (pairing-not e)
  early-then _ x (Carries e came) late = absurd (let never = (is-turned c.state turned).2 in cc (e, never))
  early-then _ x (Misses e came) late = absurd (let never = (is-turned c.state turned).2 in cc (e, never))
  early-then _ x (Reports l down f named of came) late =
      late-told (with_report c l down f) x came (report-on l down f) late

  then-turned : (x : CallRec) → CallBecomes (local_node t m) (s.nodes m.0) (CameOver s e) AnySent c x → Then x
  then-turned x (Decides d early late) = early-then d x early late
  then-turned x (AtOnce late) = late-same x late
  then-turned _ (Bares asking plain came) = absurd (alone-not (inl asking))
  then-turned _ (Pairs w route out alone named over first sent) = absurd (alone-not alone)
  then-turned _ (Lacks cause alone lack) = absurd (alone-not alone)
  then-turned _ (LacksLabel alone) = absurd (alone-not alone)
  then-turned _ (LosesBackup code pairing came) = absurd (pairing-not pairing)
  then-turned _ (Blocks code asking came) = absurd (alone-not (inl asking))
  then-turned _ (Counts waits less came) = IsTicked (ticks s e n m is at came)

-- over every network and every run
pub every_turned_call : EveryTurnedCallWaits
every_turned_call t events run e enabled n k c found turned other =
    let s : Mesh = after t start events in
    let facts : MeshFacts t s = facts-hold t events run in
    step-stands k c (TurnedBecomes s n e c) (IsUnchanged refl) t s e n
    (λ m d is at way. then-turned t s e n m is at c turned d way) (λ m. (facts.node m).calls_rise) found other

-- Codes

code-is : (a b : ErrCode) → Code a ≡ Code b → b ≡ a
code-is a b e = cc e

lack-other : (cause : Cause) (code : ErrCode) → is_lack cause ≡ true → cause ≡ Code code → ⊥
lack-other cause code lack is = (let never = ap is_lack is in cc (lack, never))

module _ (t : Network) (s : Mesh) (e : MeshEvent) (n : ℕ) (m : NodeId) (is : n ≡ m.0) (at : IsAt e m) (c : CallRec) where
  -- each code that x has as its cause has a source
  abbrev Sourced : CallRec → Type 0
  Sourced x = (code : ErrCode) → x.cause ≡ Code code → HasSource s n e c x code

  -- the cause that it had, or busy
  abbrev Kept : CallRec → Type 0
  Kept x = (code : ErrCode) → x.cause ≡ Code code → (c.cause ≡ Code code) ⊎ ((code ≡ busy_code) × (x.state ≡ Stuck))

  from-kept : (x : CallRec) → Kept x → Sourced x
  from-kept x kept code has = elim (kept code has) [ inl was ↦ WasThere was | inr so ↦ IsStuckBusy so.0 so.1 ]

  report-kept : (l : Lsp) (down : Bool) (f : Fibre) → Kept (with_report c l down f)
  report-kept l down f =
      if_cases Kept (is_lsp c.work l) (with_work_reports c (fibres_after down f c.work_reports))
      (with_back_reports c (fibres_after down f c.back_reports)) (λ e code has. inl has) (λ e code has. inl has)

  early-kept : (d : CallRec) → Early (local_node t m) (s.nodes m.0) (CameOver s e) c d → Kept d
  early-kept _ (Guards e came) = λ code has. absurd (cc has)
  early-kept _ (Carries e came) = λ code has. absurd (cc has)
  early-kept _ (Misses e came) = λ code has. inr (code-is busy_code code has, refl)
  early-kept _ (Reports l down f named of came) = report-kept l down f

  late-kept : (D : Type 0) (d x : CallRec) → Kept d → Late (s.nodes m.0) (CameOver s e) D d x → Kept x
  late-kept D d _ kept Stays = kept
  late-kept D d _ kept (Turns by) = λ code has. absurd (cc has)
  late-kept D d _ kept (Fails by b busy) = λ code has. inr (code-is busy_code code has, refl)
  late-kept D d _ kept (GoesDown by other works backs) = λ code has. absurd (cc has)
  late-kept D d _ kept (GoesBack by) = λ code has. absurd (cc has)

  alone-is : IsCallAlone c → (c.state ≡ Asking) ⊎ (c.state ≡ Bare)
  alone-is (inl asking) = inl (asking-is c.state asking)
  alone-is (inr bare) = inr (bare-is c.state bare)

  came-back : (told code : ErrCode) → code ≡ told → CameOver s e (Removed told) → IsRefusedAt s n code e
  came-back told code one came = subst (λ x. IsRefusedAt s n x e) (sym one) (refused s e n m told is at came)

  sourced : (x : CallRec) → CallBecomes (local_node t m) (s.nodes m.0) (CameOver s e) AnySent c x → Sourced x
  sourced x (Decides d early late) = from-kept x (late-kept (Unit {0}) d x (early-kept d early) late)
  sourced x (AtOnce late) = from-kept x (late-kept ⊥ c x (λ code has. inl has) late)
  sourced _ (Bares asking plain came) = λ code has. absurd (cc has)
  sourced _ (Pairs w route out alone named over first sent) = λ code has. absurd (cc has)
  sourced _ (Lacks cause alone lack) = λ code has. absurd (lack-other cause code lack has)
  sourced _ (LacksLabel alone) = λ code has. LacksLabelBack (code-is label_code code has) refl (alone-is alone)
  sourced _ (LosesBackup told pairing came) = λ code has. CameBack (came-back told code (code-is told code has) came)
  sourced _ (Blocks told asking came) = λ code has. CameBack (came-back told code (code-is told code has) came)
  sourced _ (Counts waits less came) = λ code has. WasThere has

-- over every network and every run
pub every_code : EveryCodeHasSource
every_code t events run e enabled n k c found other =
    let s : Mesh = after t start events in
    let facts : MeshFacts t s = facts-hold t events run in
    step-stands k c (λ d. (code : ErrCode) → d.cause ≡ Code code → HasSource s n e c d code)
    (λ code has. WasThere has) t s e n
    (λ m d is at way. sourced t s e n m is at c d way) (λ m. (facts.node m).calls_rise) found other
