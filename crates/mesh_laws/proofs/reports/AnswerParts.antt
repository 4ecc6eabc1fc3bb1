-- Answers that touch no leg and no call of others, one after the other.
use Rattle.std.proofs.Common.{◌≡◌, Bool, true, false, cond, nat_eq, not, List, [], ◌∷◌, ◌++◌, refl, sym, ap, ◌∙◌, subst}
use Rattle.std.specs.Prelude.{Option, Some, None}
use Rattle.ason_base.specs.{Lsps.same_lsp, declared.ids.CallNo.CallNo, declared.ids.Lsp.Lsp, declared.messages.Msg.Msg, declared.tables.CallRec.CallRec, declared.tables.Leg.Leg, declared.tables.Out.Out}
use Rattle.mesh_rules.specs.{declared.changes.CallChange.CallChange, declared.changes.LegChange.LegChange, Calls.{find_call, names}, Changes.{Answer, changed, changes_calls, followed_by, nothing, puts, removes, sends}, Legs.{find_leg, is_asked, is_closing}, State.NodeState}
use Rattle.mesh_rules.specs.declared.changes.CallChange.TheVariants as call
use Rattle.mesh_rules.specs.declared.changes.LegChange.TheVariants as leg
use Rattle.mesh_rules.proofs.ChangeLists.{calls-then}
use Rattle.mesh_nodes.proofs.{CallList.{find-with_call, find-without_call}, LegList.same_lsp-eq}
use Rattle.lsp_laws.specs.{HopLaw.is_notice, ReportLaw.{is_standing, reports_of}}
use Rattle.lsp_laws.proofs.{hops.Tables.{find-changed, leg_after}, nodes.CallParts.number-is}
use Rattle.mesh_laws.proofs.reports.GentleWords.{AllMild, CallsKeep, IsGentle, LegKeeps, NoneOf, is_plain, is_waiting, mild-active, mild-quiet}

-- Legs

pub same-legs : (l : Lsp) (o : Option Leg) → LegKeeps l o []
same-legs l o = record { stands = λ h. h; gone = λ h. h; waits = λ h. h }

-- a leg that isn't Asked is put in its place, and isn't taken up again from a torn one
pub put-leg : (l : Lsp) (legs : List Leg) (g g' : Leg) → find_leg g.lsp legs ≡ Some g → g'.lsp ≡ g.lsp →
    is_asked g'.phase ≡ false → (is_closing g'.phase ≡ false → is_closing g.phase ≡ false) →
    LegKeeps l (find_leg l legs) (leg.Put g' ∷ [])
put-leg l legs g g' found own done stood = go (same_lsp g'.lsp l) refl
  where
    there : same_lsp g'.lsp l ≡ true → find_leg l legs ≡ Some g
    there e = subst (λ k. find_leg k legs ≡ Some g) (sym own ∙ same_lsp-eq g'.lsp l e) found

    still : (b c : Bool) → (b ≡ false → c ≡ false) → not b ≡ true → not c ≡ true
    still true c f h = absurd (cc h)
    still false c f h = rw (f refl) refl

    go : (b : Bool) → same_lsp g'.lsp l ≡ b → LegKeeps l (find_leg l legs) (leg.Put g' ∷ [])
    go true e = record {
      stands = λ h. subst (λ o. is_standing o ≡ true) (sym (there e))
          (still (is_closing g'.phase) (is_closing g.phase) stood (rw e at h));
      gone = λ none. absurd (let some = there e in cc (some, none));
      waits = λ h. absurd (let h' = (rw e at h) in cc (h', done));
    }
    go false e = record { stands = λ h. (rw e at h); gone = λ none. rw e none; waits = λ h. (rw e at h) }

pub goes-leg : (l k : Lsp) (o : Option Leg) → LegKeeps l o (leg.Goes k ∷ [])
goes-leg l k o = go (same_lsp k l) refl
  where
    go : (b : Bool) → same_lsp k l ≡ b → LegKeeps l o (leg.Goes k ∷ [])
    go true e = record {
      stands = λ h. absurd (let h' = (rw e at h) in cc h');
      gone = λ none. rw e refl;
      waits = λ h. absurd (let h' = (rw e at h) in cc h');
    }
    go false e = record { stands = λ h. (rw e at h); gone = λ none. rw e none; waits = λ h. (rw e at h) }

-- the leg of another LSP is put in its place
pub other-leg : (l : Lsp) (o : Option Leg) (g : Leg) → same_lsp g.lsp l ≡ false → LegKeeps l o (leg.Put g ∷ [])
other-leg l o g apart =
    record { stands = λ h. (rw apart at h); gone = λ none. rw apart none; waits = λ h. (rw apart at h) }

-- Calls

pub same-calls : (l : Lsp) (calls : List CallRec) → CallsKeep l calls []
same-calls l calls k c found named = (c, found, named, refl)

-- a call that becomes another record: what of it names the LSP did so before, with the same reports
abbrev pub RepKeeps : Lsp → CallRec → CallRec → Type 0
RepKeeps l c d = names l d ≡ true → (names l c ≡ true) × (reports_of l d ≡ reports_of l c)

pub put-call : (l : Lsp) (calls : List CallRec) (c d : CallRec) → find_call c.call calls ≡ Some c →
    d.call ≡ c.call → RepKeeps l c d → CallsKeep l calls (call.Put d ∷ [])
put-call l calls c d there number keeps k x found named =
    go (nat_eq d.call.0 k.0) refl (sym (find-with_call d calls k) ∙ found)
  where
    go : (b : Bool) → nat_eq d.call.0 k.0 ≡ b → cond b (Some d) (find_call k calls) ≡ Some x →
        (y : CallRec) × (find_call k calls ≡ Some y) × (names l y ≡ true) × (reports_of l x ≡ reports_of l y)
    go true e is =
        let one : d ≡ x = cc is in
        let kept = keeps (subst (λ y. names l y ≡ true) (sym one) named) in (
          c,
          subst (λ m. find_call m calls ≡ Some c) (sym number ∙ number-is d.call k e) there,
          kept.0,
          subst (λ y. reports_of l y ≡ reports_of l c) one kept.1,
        )
    go false e is = (x, is, named, refl)

-- a call that doesn't name the LSP is put in its place
pub put-other : (l : Lsp) (calls : List CallRec) (d : CallRec) → names l d ≡ false →
    CallsKeep l calls (call.Put d ∷ [])
put-other l calls d other k x found named =
    go (nat_eq d.call.0 k.0) (sym (find-with_call d calls k) ∙ found)
  where
    go : (b : Bool) → cond b (Some d) (find_call k calls) ≡ Some x →
        (y : CallRec) × (find_call k calls ≡ Some y) × (names l y ≡ true) × (reports_of l x ≡ reports_of l y)
    go true is =
        let one : d ≡ x = cc is in
        let never : names l x ≡ false = subst (λ y. names l y ≡ false) one other in
        absurd (cc (never, named))
    go false is = (x, is, named, refl)

pub goes-call : (l : Lsp) (calls : List CallRec) (n : CallNo) → CallsKeep l calls (call.Goes n ∷ [])
goes-call l calls n k x found named = go (nat_eq n.0 k.0) (sym (find-without_call n calls k) ∙ found)
  where
    go : (b : Bool) → cond b None (find_call k calls) ≡ Some x →
        (y : CallRec) × (find_call k calls ≡ Some y) × (names l y ≡ true) × (reports_of l x ≡ reports_of l y)
    go true is = absurd (cc is)
    go false is = (x, is, named, refl)

-- Whole answers

-- mild messages are sent, whatever becomes of the leg
pub mild-gentle : (s : NodeState) (l : Lsp) (a : Answer) → LegKeeps l (find_leg l s.legs) a.legs → AllMild l a.sent →
    a.down ≡ None → CallsKeep l s.calls a.calls → IsGentle s l a
mild-gentle s l a legs mild down calls = record {
  legs = legs;
  sent = mild-quiet l a.sent mild;
  active = λ waits. mild-active l a.sent mild;
  down = down;
  calls = calls;
}

pub nothing-gentle : (s : NodeState) (l : Lsp) → IsGentle s l nothing
nothing-gentle s l = mild-gentle s l nothing (same-legs l (find_leg l s.legs)) tt refl (same-calls l s.calls)

pub sends-gentle : (s : NodeState) (l : Lsp) (outs : List Out) → AllMild l outs → IsGentle s l (sends outs)
sends-gentle s l outs mild =
    mild-gentle s l (sends outs) (same-legs l (find_leg l s.legs)) mild refl (same-calls l s.calls)

pub puts-gentle : (s : NodeState) (l : Lsp) (g g' : Leg) (outs : List Out) → find_leg g.lsp s.legs ≡ Some g →
    g'.lsp ≡ g.lsp → is_asked g'.phase ≡ false → (is_closing g'.phase ≡ false → is_closing g.phase ≡ false) →
    AllMild l outs → IsGentle s l (puts g' outs)
puts-gentle s l g g' outs found own done stood mild =
    mild-gentle s l (puts g' outs) (put-leg l s.legs g g' found own done stood) mild refl (same-calls l s.calls)

pub removes-gentle : (s : NodeState) (l k : Lsp) (outs : List Out) → AllMild l outs → IsGentle s l (removes k outs)
removes-gentle s l k outs mild =
    mild-gentle s l (removes k outs) (goes-leg l k (find_leg l s.legs)) mild refl (same-calls l s.calls)

pub calls-gentle : (s : NodeState) (l : Lsp) (cs : List CallChange) → CallsKeep l s.calls cs →
    IsGentle s l (changes_calls cs)
calls-gentle s l cs keeps =
    mild-gentle s l (changes_calls cs) (same-legs l (find_leg l s.legs)) tt refl keeps

-- one after the other
pub both-none : (test : Msg → Bool) (l : Lsp) (a b : List Out) → NoneOf test l a → NoneOf test l b →
    NoneOf test l (a ++ b)
both-none test l [] b first second = second
both-none test l (o ∷ a) b first second = (first.0, both-none test l a b first.1 second)

pub after-both : (l : Lsp) (cs ds : List LegChange) (o : Option Leg) →
    leg_after l (cs ++ ds) o ≡ leg_after l ds (leg_after l cs o)
after-both l [] ds o = refl
after-both l (leg.Goes k ∷ cs) ds o = after-both l cs ds (cond (same_lsp k l) None o)
after-both l (leg.Put g ∷ cs) ds o = after-both l cs ds (cond (same_lsp g.lsp l) (Some g) o)

pub both-gentle : (s : NodeState) (l : Lsp) (a b : Answer) → IsGentle s l a → IsGentle (changed s a) l b →
    IsGentle s l (followed_by a b)
both-gentle s l a b first second = record {
  legs = record {
    stands = λ h. first.legs.stands (before (second.legs.stands (later-leg h)));
    gone = λ none. after-both l a.legs b.legs (find_leg l s.legs) ∙ second-gone (first.legs.gone none);
    waits = λ h. first.legs.waits (mid-waits (second.legs.waits (later-waits h)));
  };
  sent = both-none is_notice l a.sent b.sent first.sent second.sent;
  active = λ h. both-none is_plain l a.sent b.sent (first.active (mid-waits (second.legs.waits (later-waits h))))
      (second.active (later-waits h));
  down = rw (first.down, second.down) refl;
  calls = λ k c found named. (
      let mid = second.calls k c (rw (calls-then a.calls b.calls s.calls) at found) named in
      let was = first.calls k mid.0 mid.1 mid.2 in
      (was.0, was.1, was.2, mid.3 ∙ was.3));
}
  where
    mid-leg : find_leg l (changed s a).legs ≡ leg_after l a.legs (find_leg l s.legs)
    mid-leg = find-changed l a.legs s.legs

    later-leg : is_standing (leg_after l (a.legs ++ b.legs) (find_leg l s.legs)) ≡ true →
        is_standing (leg_after l b.legs (find_leg l (changed s a).legs)) ≡ true
    later-leg h = ap (λ o. is_standing (leg_after l b.legs o)) mid-leg
        ∙ sym (ap is_standing (after-both l a.legs b.legs (find_leg l s.legs))) ∙ h

    before : is_standing (find_leg l (changed s a).legs) ≡ true →
        is_standing (leg_after l a.legs (find_leg l s.legs)) ≡ true
    before h = sym (ap is_standing mid-leg) ∙ h

    later-waits : is_waiting (leg_after l (a.legs ++ b.legs) (find_leg l s.legs)) ≡ true →
        is_waiting (leg_after l b.legs (find_leg l (changed s a).legs)) ≡ true
    later-waits h = ap (λ o. is_waiting (leg_after l b.legs o)) mid-leg
        ∙ sym (ap is_waiting (after-both l a.legs b.legs (find_leg l s.legs))) ∙ h

    mid-waits : is_waiting (find_leg l (changed s a).legs) ≡ true →
        is_waiting (leg_after l a.legs (find_leg l s.legs)) ≡ true
    mid-waits h = sym (ap is_waiting mid-leg) ∙ h

    second-gone : leg_after l a.legs (find_leg l s.legs) ≡ None →
        leg_after l b.legs (leg_after l a.legs (find_leg l s.legs)) ≡ None
    second-gone none =
        sym (ap (leg_after l b.legs) mid-leg) ∙ second.legs.gone (mid-leg ∙ none)
