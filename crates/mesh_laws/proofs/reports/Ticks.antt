-- A tick tells nothing of the fibres of an LSP's route. Each call reads the legs before the tick, and what comes before
-- it in the same answer leaves these standing.
use Rattle.std.proofs.Common.{◌≡◌, ◌+◌, ℕ, Bool, true, false, cond, nat_eq, nat_le, not, List, [], ◌∷◌, ◌++◌, refl, sym, ap, ◌∙◌, subst, arith}
use Rattle.std.specs.{Prelude.{◌&&◌, Option, Some, None}, List.AllByRecursion}
use Rattle.ason_base.specs.{Lsps.same_lsp, declared.ids.CallNo.CallNo, declared.ids.Lsp.Lsp, declared.calls.Phase.TheVariants.Held, declared.tables.CallRec.CallRec, declared.tables.Leg.Leg}
use Rattle.mesh_rules.specs.{declared.changes.CallChange.CallChange, Calls.{calls_changed, find_call, guarded, is_turned, names}, Changes.{Answer, changes_calls, followed_by, nothing}, Legs.{find_leg, following, is_closing, is_in_use, leg_of, with_phase}, LocalNodes.LocalNode, State.NodeState, Turns.{call_put, disarms, go_back, has_any, taking_back}, Waits.{all_ticked, on_tick, call_ticked}}
use Rattle.mesh_rules.specs.declared.changes.CallChange.TheVariants as call
use Rattle.mesh_rules.proofs.ChangeLists.{calls-then}
use Rattle.mesh_nodes.proofs.{CallList.{all-calls_found, find-with_call, found-number}, Cases.if_cases, LegList.same_lsp-eq}
use Rattle.lsp_laws.specs.{HopLaw.is_notice, ReportLaw.{is_standing, reports_of}}
use Rattle.lsp_laws.proofs.{hops.Tables.leg_after, nodes.Facts.NodeFacts}
use Rattle.mesh_laws.proofs.{reports.GentleWords.{IsGentle, NoneOf, is_plain, is_waiting}, reports.AnswerParts.{after-both, both-none}, reports.GentleAnswers.{IfStands, taken_on-active, taken_on-quiet, taking-is, used-stands}, reports.StandingCalls.leg-stands}

module _ (s : NodeState) (l : Lsp) where
  -- the calls that have the LSP had it before the tick, with the same reports
  abbrev pub AreAsBefore : List CallRec → Type 0
  AreAsBefore calls =
      (k : CallNo) (c : CallRec) → find_call k calls ≡ Some c → names l c ≡ true →
      (d : CallRec) × (find_call k s.calls ≡ Some d) × (names l d ≡ true) × (reports_of l c ≡ reports_of l d)

  -- One part of a tick's answer. o is the LSP's leg as the parts before it leave it.
  pub record IsTame (a : Answer) : Type 0 where
    pub stands : (o : Option Leg) → (is_standing o ≡ true → is_standing (find_leg l s.legs) ≡ true) →
        is_standing (leg_after l a.legs o) ≡ true → is_standing (find_leg l s.legs) ≡ true
    pub gone : find_leg l s.legs ≡ None → (o : Option Leg) → o ≡ None → leg_after l a.legs o ≡ None
    pub waits : (o : Option Leg) → is_waiting (leg_after l a.legs o) ≡ true → is_waiting o ≡ true
    pub sent : NoneOf is_notice l a.sent
    pub active : (o : Option Leg) → is_waiting (leg_after l a.legs o) ≡ true → NoneOf is_plain l a.sent
    pub down : a.down ≡ None
    pub calls : (calls : List CallRec) → AreAsBefore calls → AreAsBefore (calls_changed a.calls calls)

  pub tame-gentle : (a : Answer) → IsTame a → IsGentle s l a
  tame-gentle a tame = record {
    legs = record {
      stands = tame.stands (find_leg l s.legs) (λ h. h);
      gone = λ none. tame.gone none (find_leg l s.legs) none;
      waits = tame.waits (find_leg l s.legs);
    };
    sent = tame.sent;
    active = tame.active (find_leg l s.legs);
    down = tame.down;
    calls = tame.calls s.calls (λ k c found named. (c, found, named, refl));
  }

  -- an answer that changes calls alone
  calls-tame : (changes : List CallChange) →
      ((calls : List CallRec) → AreAsBefore calls → AreAsBefore (calls_changed changes calls)) →
      IsTame (changes_calls changes)
  calls-tame changes before = record {
    stands = λ o before h. before h;
    gone = λ none o e. e;
    waits = λ o h. h;
    sent = tt;
    active = λ o h. tt;
    down = refl;
    calls = before;
  }

  nothing-tame : IsTame nothing
  nothing-tame = calls-tame [] (λ calls before. before)

  both-tame : (a b : Answer) → IsTame a → IsTame b → IsTame (followed_by a b)
  both-tame a b first second = record {
    stands = λ o before h. second.stands (leg_after l a.legs o) (first.stands o before)
        (sym (ap is_standing (after-both l a.legs b.legs o)) ∙ h);
    gone = λ none o e. after-both l a.legs b.legs o ∙ second.gone none (leg_after l a.legs o) (first.gone none o e);
    waits = λ o h. first.waits o (second.waits (leg_after l a.legs o) (later o h));
    sent = both-none is_notice l a.sent b.sent first.sent second.sent;
    active = λ o h. both-none is_plain l a.sent b.sent
        (first.active o (second.waits (leg_after l a.legs o) (later o h)))
        (second.active (leg_after l a.legs o) (later o h));
    down = rw (first.down, second.down) refl;
    calls = λ calls before. subst AreAsBefore (sym (calls-then a.calls b.calls calls))
        (second.calls (calls_changed a.calls calls) (first.calls calls before));
  }
    where
      later : (o : Option Leg) → is_waiting (leg_after l (a.legs ++ b.legs) o) ≡ true →
          is_waiting (leg_after l b.legs (leg_after l a.legs o)) ≡ true
      later o h = sym (ap is_waiting (after-both l a.legs b.legs o)) ∙ h

  module _ (c : CallRec) (there : find_call c.call s.calls ≡ Some c) where
    -- the call becomes a record of the same LSPs and reports
    put-before : (d : CallRec) → d.call ≡ c.call → names l d ≡ names l c → reports_of l d ≡ reports_of l c →
        (calls : List CallRec) → AreAsBefore calls → AreAsBefore (calls_changed (call.Put d ∷ []) calls)
    put-before d number named reports calls before k x found has =
        go (nat_eq d.call.0 k.0) refl (sym (find-with_call d calls k) ∙ found)
      where
        same-number : nat_eq d.call.0 k.0 ≡ true → d.call ≡ k
        same-number e = let is : d.call.0 ≡ k.0 = grind arith in λ i. record { 0 = is i }

        go : (b : Bool) → nat_eq d.call.0 k.0 ≡ b → cond b (Some d) (find_call k calls) ≡ Some x →
            (y : CallRec) × (find_call k s.calls ≡ Some y) × (names l y ≡ true) × (reports_of l x ≡ reports_of l y)
        go true e is =
            let one : d ≡ x = cc is in (
              c,
              subst (λ m. find_call m s.calls ≡ Some c) (sym number ∙ same-number e) there,
              sym named ∙ ap (names l) one ∙ has,
              sym (ap (reports_of l) one) ∙ reports,
            )
        go false e is = before k x is has

    put-tame : (d : CallRec) → d.call ≡ c.call → names l d ≡ names l c → reports_of l d ≡ reports_of l c →
        IsTame (call_put d)
    put-tame d number named reports = calls-tame (call.Put d ∷ []) (put-before d number named reports)

    disarms-tame : (b : Leg) → find_leg b.lsp s.legs ≡ Some b → is_closing b.phase ≡ false → IsTame (disarms c b)
    disarms-tame b found stood = record {
      stands = λ o. stands o (same_lsp b.lsp l) refl;
      gone = λ none o. gone none o (same_lsp b.lsp l) refl;
      waits = λ o. holds o (same_lsp b.lsp l);
      sent = subst (NoneOf is_notice l) (taking-is b (following b))
          (taken_on-quiet l b b.route (taking_back b.path_role) (following b));
      active = λ o h. subst (NoneOf is_plain l) (taking-is b (following b))
          (taken_on-active l b b.route (taking_back b.path_role) (following b) o h);
      down = refl;
      calls = put-before (guarded c) refl refl refl;
    }
      where
        own : same_lsp b.lsp l ≡ true → find_leg l s.legs ≡ Some b
        own e = subst (λ k. find_leg k s.legs ≡ Some b) (same_lsp-eq b.lsp l e) found

        stands : (o : Option Leg) (x : Bool) → same_lsp b.lsp l ≡ x →
            (is_standing o ≡ true → is_standing (find_leg l s.legs) ≡ true) →
            is_standing (cond x (Some (with_phase Held b)) o) ≡ true → is_standing (find_leg l s.legs) ≡ true
        stands o true e before h = rw (own e, stood) refl
        stands o false e before h = before h

        gone : find_leg l s.legs ≡ None → (o : Option Leg) (x : Bool) → same_lsp b.lsp l ≡ x → o ≡ None →
            cond x (Some (with_phase Held b)) o ≡ None
        gone none o true e is = absurd (let some = own e in cc (some, none))
        gone none o false e is = is

        holds : (o : Option Leg) (x : Bool) → is_waiting (cond x (Some (with_phase Held b)) o) ≡ true →
            is_waiting o ≡ true
        holds o true h = absurd (cc h)
        holds o false h = h

    go_back-tame : (o : Option Leg) → IfStands s o → IsTame (go_back c o)
    go_back-tame None stands = put-tame c refl refl refl
    go_back-tame (Some b) stands =
        if_cases IsTame (is_in_use b.phase) _ _
        (λ used. disarms-tame b (stands b refl).found (used-stands b.phase used)) (λ idle. put-tame c refl refl refl)

    ticked-tame : (wait : ℕ) → IfStands s (leg_of c.back s.legs) → IsTame (call_ticked wait s.legs c)
    ticked-tame wait stands =
        if_cases IsTame (not (nat_eq wait 0) && (is_turned c.state && not (has_any c.work_reports))) _ _
        (λ e. if_cases IsTame (nat_le wait (c.ticks + 1)) _ _ (λ f. go_back-tame (leg_of c.back s.legs) stands)
        (λ f. put-tame (record c { ticks = c.ticks + 1 }) refl refl refl))
        (λ e. nothing-tame)

-- A node in a state of a run

module _ (p : LocalNode) (s : NodeState) (facts : NodeFacts p.id.0 s) (l : Lsp) where
  all-tame : (calls : List CallRec) → AllByRecursion (λ c. find_call c.call s.calls ≡ Some c) calls →
      IsTame s l (all_ticked p.wait s.legs calls)
  all-tame [] there = nothing-tame s l
  all-tame (c ∷ calls) there =
      both-tame s l (call_ticked p.wait s.legs c) (all_ticked p.wait s.legs calls)
      (ticked-tame s l c there.0 p.wait (leg-stands p s facts l c.back)) (all-tame calls there.1)

  tick-tame : IsTame s l (on_tick p s)
  tick-tame =
      all-tame s.calls
      (all-calls_found (λ c. find_call c.call s.calls ≡ Some c) s.calls facts.calls_rise (λ k c found.
      subst (λ m. find_call m s.calls ≡ Some c) (sym (found-number k s.calls c found)) found))

  pub tick-gentle : IsGentle s l (on_tick p s)
  tick-gentle = tame-gentle s l (on_tick p s) tick-tame

  -- no call gets the LSP by a tick
  pub tick-new : ((k : CallNo) (c : CallRec) → find_call k s.calls ≡ Some c → names l c ≡ false) →
      (k : CallNo) (c : CallRec) → find_call k (calls_changed (on_tick p s).calls s.calls) ≡ Some c →
      names l c ≡ true → reports_of l c ≡ []
  tick-new unnamed k c found named =
      let was = tick-gentle.calls k c found named in
      absurd (let never = unnamed k was.0 was.1 in let has = was.2 in cc (never, has))
