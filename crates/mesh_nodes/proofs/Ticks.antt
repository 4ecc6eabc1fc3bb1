-- What a tick does fits: some calls wait a tick more, others go back.
use Rattle.std.proofs.{Common.{◌≡◌, ◌≤◌, ◌+◌, ℕ, suc, Bool, true, false, cond, not, nat_eq, nat_le, List, [], ◌∷◌, ◌++◌, length, refl, sym, ap, subst, arith}, lemmas.List.length-append, ByRecursion.All-append}
use Rattle.std.specs.{Prelude.{◌&&◌, Option, Some, None, IfSome, is_some}, List.AllByRecursion}
use Rattle.ason_base.specs.{declared.calls.Phase.TheVariants.Held, declared.ids.Lsp.Lsp, declared.tables.CallRec.CallRec, declared.tables.Leg.Leg, Lsps.same_lsp}
use Rattle.mesh_rules.specs.{Calls.{calls_changed, guarded, is_turned}, Changes.{Answer, changed, followed_by, nothing}, Legs.{find_leg, following, is_in_use, leg_of, legs_changed, with_leg, with_phase}, LocalNodes.LocalNode, State.NodeState, Turns.{call_put, disarms, go_back, has_any}, Waits.{all_ticked, on_tick, call_ticked}}
use Rattle.mesh_rules.proofs.ChangeLists.{calls-then, legs-then}
use Rattle.mesh_nodes.specs.{FitNodes.{CallFits, CallsFitNode, LegFits, LegsFit, NodeFits}, AnswerLaws.TicksFit, Sent.{AllToNeighbours, AllWritable}}
use Rattle.mesh_nodes.proofs.{Cases.if_cases, FitLists.{calls-put, in_use-beyond, legs-changed, phase-fits}, LegList.{find-with_leg, found-all}, Reports.backup-begins, Turns.{BeginsHere, taking-sent}}

found-some : (o : Option Leg) → is_some o ≡ true → (k : Leg) × (o ≡ Some k)
found-some None there = absurd (cc there)
found-some (Some k) there = (k, refl)

-- s is what the calls read
module _ (p : LocalNode) (s : NodeState) (fits : NodeFits p s) where
  -- these legs and calls fit, and the LSPs that had a leg have one
  record Stand (legs : List Leg) (calls : List CallRec) : Type 0 where
    pub legs_fit : LegsFit p s.lsp legs
    pub calls_fit : CallsFitNode p calls
    pub stay : (l : Lsp) (g : Leg) → find_leg l s.legs ≡ Some g → is_some (find_leg l legs) ≡ true

  -- the answer sends at most so many messages, and whatever stands when it comes stands after it
  record Ticks (most : ℕ) (a : Answer) : Type 0 where
    pub near : AllToNeighbours p a.sent
    pub written : AllWritable a.sent
    pub few : length a.sent ≤ most
    pub numbers : a.numbers ≡ None
    pub stands : (legs : List Leg) (calls : List CallRec) → Stand legs calls →
        Stand (legs_changed a.legs legs) (calls_changed a.calls calls)

  nothing-ticks : Ticks 1 nothing
  nothing-ticks = record {
    near = tt;
    written = tt;
    few = omega arith;
    numbers = refl;
    stands = λ legs calls st. st;
  }

  put-ticks : (c : CallRec) → CallFits p c → Ticks 1 (call_put c)
  put-ticks c here = record {
    near = tt;
    written = tt;
    few = omega arith;
    numbers = refl;
    stands = λ legs calls st. record {
      legs_fit = st.legs_fit;
      calls_fit = calls-put p c calls st.calls_fit here;
      stay = st.stay;
    };
  }

  -- a leg that stood, in another phase
  stand-held : (b : Leg) (legs : List Leg) (calls : List CallRec) → BeginsHere p s.legs b → is_in_use b.phase ≡ true →
      Stand legs calls → Stand (with_leg (with_phase Held b) legs) calls
  stand-held b legs calls stands in_use st =
      let there = found-some (find_leg b.lsp legs) (st.stay b.lsp b stands.found) in
      record {
        legs_fit =
            legs-changed p s.lsp (with_phase Held b) there.0 legs st.legs_fit there.1
            (phase-fits p s.lsp Held b (found-all (LegFits p s.lsp) b.lsp s.legs b stands.found fits.legs.each)
            (in_use-beyond b.phase in_use) refl);
        calls_fit = st.calls_fit;
        stay = λ l g found.
            subst (λ o. is_some o ≡ true) (sym (find-with_leg (with_phase Held b) legs l))
            (either (same_lsp b.lsp l) (find_leg l legs) (st.stay l g found));
      }
    where
      either : (x : Bool) (o : Option Leg) → is_some o ≡ true → is_some (cond x (Some (with_phase Held b)) o) ≡ true
      either true o there = refl
      either false o there = there

  disarms-ticks : (c : CallRec) (b : Leg) → CallFits p c → BeginsHere p s.legs b → is_in_use b.phase ≡ true →
      Ticks 1 (disarms c b)
  disarms-ticks c b here stands in_use =
      let sent = taking-sent p s.lsp b (following b)
      (found-all (LegFits p s.lsp) b.lsp s.legs b stands.found fits.legs.each) stands.begins refl in
      record {
        near = sent.near;
        written = sent.written;
        few = sent.few;
        numbers = refl;
        stands = λ legs calls st.
            let held = stand-held b legs calls stands in_use st in
            record {
              legs_fit = held.legs_fit;
              calls_fit = calls-put p (guarded c) calls st.calls_fit
                  (record { backup = here.backup; work = here.work; back = here.back });
              stay = held.stay;
            };
      }

  go_back-ticks : (c : CallRec) (o : Option Leg) → CallFits p c → IfSome o (BeginsHere p s.legs) →
      Ticks 1 (go_back c o)
  go_back-ticks c None here stands = put-ticks c here
  go_back-ticks c (Some b) here stands =
      if_cases (Ticks 1) (is_in_use b.phase) _ _ (λ e. disarms-ticks c b here stands e) (λ e. put-ticks c here)

  ticked-ticks : (c : CallRec) → CallFits p c → Ticks 1 (call_ticked p.wait s.legs c)
  ticked-ticks c here =
      if_cases (Ticks 1) (not (nat_eq p.wait 0) && (is_turned c.state && not (has_any c.work_reports))) _ _
      (λ e. if_cases (Ticks 1) (nat_le p.wait (c.ticks + 1)) _ _
      (λ e. go_back-ticks c (leg_of c.back s.legs) here
      (backup-begins p s c.back (leg_of c.back s.legs) fits here.back refl))
      (λ e. put-ticks (record c { ticks = c.ticks + 1 })
      (record { backup = here.backup; work = here.work; back = here.back })))
      (λ e. nothing-ticks)

  then-ticks : (most : ℕ) (a b : Answer) → Ticks 1 a → Ticks most b → Ticks (most + 1) (followed_by a b)
  then-ticks most a b first second = record {
    near = All-append _ a.sent b.sent first.near second.near;
    written = All-append _ a.sent b.sent first.written second.written;
    few = subst (λ k. k ≤ most + 1) (sym (length-append a.sent b.sent))
        (let one = first.few in let more = second.few in omega arith);
    numbers = rw (first.numbers, second.numbers) refl;
    stands = λ legs calls st.
        subst (λ ls. Stand ls (calls_changed (a.calls ++ b.calls) calls)) (sym (legs-then a.legs b.legs legs))
        (subst (λ cs. Stand (legs_changed b.legs (legs_changed a.legs legs)) cs) (sym (calls-then a.calls b.calls calls))
        (second.stands (legs_changed a.legs legs) (calls_changed a.calls calls) (first.stands legs calls st)));
  }

  all_ticked-ticks : (calls : List CallRec) → AllByRecursion (CallFits p) calls →
      Ticks (length calls) (all_ticked p.wait s.legs calls)
  all_ticked-ticks [] each = record {
    near = tt;
    written = tt;
    few = omega arith;
    numbers = refl;
    stands = λ legs calls st. st;
  }
  all_ticked-ticks (c ∷ calls) each =
      subst (λ k. Ticks k (all_ticked p.wait s.legs (c ∷ calls))) (more (length calls))
      (then-ticks (length calls) (call_ticked p.wait s.legs c) (all_ticked p.wait s.legs calls) (ticked-ticks c each.0)
      (all_ticked-ticks calls each.1))
    where
      more : (k : ℕ) → k + 1 ≡ suc k
      more k = omega arith

  at-start : Stand s.legs s.calls
  at-start = record {
    legs_fit = fits.legs;
    calls_fit = fits.calls;
    stay = λ l g found. ap is_some found;
  }

module _ (p : LocalNode) (s : NodeState) (fits : NodeFits p s) where
  all : Ticks p s fits (length s.calls) (all_ticked p.wait s.legs s.calls)
  all = all_ticked-ticks p s fits s.calls fits.calls.each

  stand : Stand p s fits (legs_changed (all_ticked p.wait s.legs s.calls).legs s.legs)
      (calls_changed (all_ticked p.wait s.legs s.calls).calls s.calls)
  stand = all.stands s.legs s.calls (at-start p s fits)

  -- what the node keeps fits, however many calls it has
  pub tick-kept : NodeFits p (changed s (on_tick p s))
  tick-kept = rw (all.numbers) (record {
    legs = stand.legs_fit;
    calls = stand.calls_fit;
    first = fits.first;
    numbers = fits.numbers;
  })

pub ticks-fit : TicksFit
ticks-fit p s fits few = record {
  kept = tick-kept p s fits;
  near = (all p s fits).near;
  written = λ w. (all p s fits).written;
  few = (let short = (all p s fits).few in omega arith);
}
