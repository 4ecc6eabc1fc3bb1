-- A tick: each call that waits counts it or goes back, and each other one stays as it is.
use Rattle.std.proofs.{Common.{◌≡◌, ◌≤◌, ◌<◌, ◌+◌, ℕ, Bool, true, false, not, cond, nat_eq, nat_le, List, [], ◌∷◌, refl, sym, ap, ◌∙◌, subst, arith, inl, inr}, lemmas.Bool.not-true}
use Rattle.std.specs.{Prelude.{◌⊎◌, ◌&&◌, Some}, List.AllByRecursion}
use Rattle.ason_base.specs.{declared.calls.Phase.Phase, declared.calls.Phase.TheVariants.Live, declared.ids.CallNo.CallNo, declared.tables.CallRec.CallRec, declared.tables.Leg.Leg}
use Rattle.ason_base.proofs.{Bools.{and-left, and-right}, Numbers.self-number}
use Rattle.mesh_rules.specs.{declared.changes.CallChange.CallChange, declared.events.MeshEvent.TheVariants.Tick, Calls.{calls_changed, find_call, guarded, is_turned}, Changes.{Answer, changed}, Events.{after, step}, Legs.{is_in_use, leg_of}, LocalNodes.{LocalNode, local_node}, Machine.start, State.NodeState, Turns.{go_back, has_any}, Waits.{all_ticked, on_tick, call_ticked}}
use Rattle.mesh_rules.specs.declared.changes.CallChange.TheVariants as call
use Rattle.mesh_rules.proofs.ChangeLists.{calls-then}
use Rattle.mesh_nodes.specs.Order.{CallsRise}
use Rattle.mesh_nodes.proofs.{CallList.{all-calls_found, find-with_call, found-number}, Cases.if_cases}
use Rattle.lsp_laws.specs.CallLaw.{phase_of}
use Rattle.lsp_laws.proofs.{nodes.Facts.NodeFacts, nodes.NodeRuns.facts-hold, nodes.States.{Row, row, turned-legs}, nodes.TurnedCalls.none-reported, hops.Ticked.turned_is}
use Rattle.mesh_laws.specs.WaitLaw.{EveryTickCounts, TickCounts, Waits}
use Rattle.mesh_laws.proofs.rested.Rested.{phase-there}

-- One call

abbrev Test : ℕ → CallRec → Bool
Test wait c = not (nat_eq wait 0) && (is_turned c.state && not (has_any c.work_reports))

some-wait : (wait : ℕ) → not (nat_eq wait 0) ≡ true → 1 ≤ wait
some-wait wait e = let f = not-true (nat_eq wait 0) e in grind arith

wait-some : (wait : ℕ) → 1 ≤ wait → nat_eq wait 0 ≡ false
wait-some wait e = grind arith

pub test-waits : (wait : ℕ) (c : CallRec) → Test wait c ≡ true → Waits wait c
test-waits wait c e =
    let rest = and-right (not (nat_eq wait 0)) _ e in (
      some-wait wait (and-left _ _ e),
      turned_is c.state (and-left _ _ rest),
      none-reported c.work_reports (not-true _ (and-right (is_turned c.state) _ rest)),
    )

waits-test : (wait : ℕ) (c : CallRec) → Waits wait c → Test wait c ≡ true
waits-test wait c w = rw (wait-some wait w.0, w.1, w.2) refl

-- the answer changes the call c alone, as a tick does
abbrev Counted : ℕ → CallRec → Answer → Type 0
Counted wait c a =
    ((a.calls ≡ []) × TickCounts wait c c)
    ⊎ ((e : CallRec) × (a.calls ≡ call.Put e ∷ []) × (e.call ≡ c.call) × TickCounts wait c e)

less-not : (wait ticks : ℕ) → nat_le wait (ticks + 1) ≡ true → ticks + 1 < wait → ⊥
less-not wait ticks e less = let le : wait ≤ ticks + 1 = grind arith in omega (arith, le, less)

module _ (p : LocalNode) (s : NodeState) (facts : NodeFacts p.id.0 s) (c : CallRec)
    (found : find_call c.call s.calls ≡ Some c) where
  in-use : (q : Phase) → q ≡ Live → is_in_use q ≡ true
  in-use q e = ap is_in_use e

  goes-back : (b : Leg) → b.phase ≡ Live → (go_back c (Some b)).calls ≡ call.Put (guarded c) ∷ []
  goes-back b live = rw (in-use b.phase live) refl

  go_back-counted : Waits p.wait c → nat_le p.wait (c.ticks + 1) ≡ true →
      Counted p.wait c (go_back c (leg_of c.back s.legs))
  go_back-counted waits end =
      let its = facts.call c.call c found in
      let phases = turned-legs _ _ (subst (λ f. Row f (phase_of (leg_of c.work s.legs)) (phase_of (leg_of c.back s.legs)))
      waits.1 (row c.state _ _ its.state)) in
      let leg = phase-there c.back s.legs Live phases.1 in
      let own : leg_of c.back s.legs ≡ Some leg.1 = ap (λ o. leg_of o s.legs) leg.2 ∙ leg.3 in
      inr (
        guarded c,
        ap (λ o. (go_back c o).calls) own ∙ goes-back leg.1 leg.4,
        refl,
        record {
          counts = λ w less. absurd (less-not p.wait c.ticks end less);
          ends = λ w le. refl;
          else_stays = λ never. absurd (never waits);
        },
      )

  ticked-counted : Counted p.wait c (call_ticked p.wait s.legs c)
  ticked-counted =
      if_cases (Counted p.wait c) (Test p.wait c) _ _
      (λ e. if_cases (Counted p.wait c) (nat_le p.wait (c.ticks + 1)) _ _
      (λ f. go_back-counted (test-waits p.wait c e) f)
      (λ f. inr (
        record c { ticks = c.ticks + 1 },
        refl,
        refl,
        record {
          counts = λ w less. refl;
          ends = λ w le. absurd (let test : nat_le p.wait (c.ticks + 1) ≡ true = grind arith in cc (test, f));
          else_stays = λ never. absurd (never (test-waits p.wait c e));
        },
      )))
      (λ e. inl (
        refl,
        record {
          counts = λ w less. absurd (let test = waits-test p.wait c w in cc (test, e));
          ends = λ w le. absurd (let test = waits-test p.wait c w in cc (test, e));
          else_stays = λ never. refl;
        },
      ))

-- All calls

module _ (wait : ℕ) (legs : List Leg) (k : CallNo) where
  abbrev Each : CallRec → Type 0
  Each c = Counted wait c (call_ticked wait legs c)

  one-apart : (c : CallRec) (cs : List CallChange) → nat_eq c.call.0 k.0 ≡ false → (base : List CallRec) →
      (cs ≡ []) ⊎ ((e : CallRec) × (cs ≡ call.Put e ∷ []) × (e.call ≡ c.call)) →
      find_call k (calls_changed cs base) ≡ find_call k base
  one-apart c cs other base (inl none) = ap (λ x. find_call k (calls_changed x base)) none
  one-apart c cs other base (inr (e, is, number)) =
      let apart : nat_eq e.call.0 k.0 ≡ false = subst (λ (m : CallNo). nat_eq m.0 k.0 ≡ false) (sym number) other in
      ap (λ x. find_call k (calls_changed x base)) is ∙ find-with_call e base k
      ∙ ap (λ b. cond b (Some e) (find_call k base)) apart

  puts-one : (c : CallRec) → Each c → ((call_ticked wait legs c).calls ≡ []) ⊎ ((e : CallRec) ×
      ((call_ticked wait legs c).calls ≡ call.Put e ∷ []) × (e.call ≡ c.call))
  puts-one c (inl r) = inl r.0
  puts-one c (inr r) = inr (r.0, r.1, r.2)

  first-then : (c : CallRec) (calls base : List CallRec) →
      find_call k (calls_changed (all_ticked wait legs (c ∷ calls)).calls base) ≡
      find_call k (calls_changed (all_ticked wait legs calls).calls
      (calls_changed (call_ticked wait legs c).calls base))
  first-then c calls base =
      ap (find_call k) (calls-then (call_ticked wait legs c).calls (all_ticked wait legs calls).calls base)

  all-apart : (calls : List CallRec) → AllByRecursion Each calls →
      AllByRecursion (λ d. nat_eq d.call.0 k.0 ≡ false) calls → (base : List CallRec) →
      find_call k (calls_changed (all_ticked wait legs calls).calls base) ≡ find_call k base
  all-apart [] each other base = refl
  all-apart (c ∷ calls) each other base =
      first-then c calls base
      ∙ all-apart calls each.1 other.1 (calls_changed (call_ticked wait legs c).calls base)
      ∙ one-apart c (call_ticked wait legs c).calls other.0 base (puts-one c each.0)

  abbrev Outcome : CallRec → List CallRec → Type 0
  Outcome c calls = (d : CallRec) × (find_call k calls ≡ Some d) × TickCounts wait c d

  one-counted : (c : CallRec) → nat_eq c.call.0 k.0 ≡ true → (base : List CallRec) → find_call k base ≡ Some c →
      Each c → Outcome c (calls_changed (call_ticked wait legs c).calls base)
  one-counted c own base found (inl r) = (c, ap (λ x. find_call k (calls_changed x base)) r.0 ∙ found, r.1)
  one-counted c own base found (inr (e, is, number, counts)) =
      let test : nat_eq e.call.0 k.0 ≡ true = subst (λ (m : CallNo). nat_eq m.0 k.0 ≡ true) (sym number) own in (
        e,
        ap (λ x. find_call k (calls_changed x base)) is ∙ find-with_call e base k
            ∙ ap (λ b. cond b (Some e) (find_call k base)) test,
        counts,
      )

  above-apart : (c : CallRec) (calls : List CallRec) → nat_eq c.call.0 k.0 ≡ true →
      AllByRecursion (λ d. c.call.0 < d.call.0) calls → AllByRecursion (λ d. nat_eq d.call.0 k.0 ≡ false) calls
  above-apart c [] own above = tt
  above-apart c (d ∷ calls) own above =
      (let less : c.call.0 < d.call.0 = above.0 in grind arith, above-apart c calls own above.1)

  all-counted : (calls : List CallRec) → CallsRise calls → AllByRecursion Each calls → (c : CallRec) →
      find_call k calls ≡ Some c → (base : List CallRec) → find_call k base ≡ Some c →
      Outcome c (calls_changed (all_ticked wait legs calls).calls base)
  all-counted [] rise each c found base there = absurd (cc found)
  all-counted (x ∷ calls) rise each c found base there =
      go (nat_eq x.call.0 k.0) refl found (all-counted calls rise.1 each.1 c)
    where
      go : (b : Bool) → nat_eq x.call.0 k.0 ≡ b → cond b (Some x) (find_call k calls) ≡ Some c →
          (find_call k calls ≡ Some c → (base : List CallRec) → find_call k base ≡ Some c →
          Outcome c (calls_changed (all_ticked wait legs calls).calls base)) →
          Outcome c (calls_changed (all_ticked wait legs (x ∷ calls)).calls base)
      go true e is later =
          let one : x ≡ c = cc is in
          let its = one-counted x e base (there ∙ ap Some (sym one)) each.0 in (
            its.0,
            first-then x calls base
                ∙ all-apart calls each.1 (above-apart x calls e rise.0)
                (calls_changed (call_ticked wait legs x).calls base)
                ∙ its.1,
            subst (λ y. TickCounts wait y its.0) one its.2,
          )
      go false e is later =
          let its = later is (calls_changed (call_ticked wait legs x).calls base)
          (one-apart x (call_ticked wait legs x).calls e base (puts-one x each.0) ∙ there) in
          (its.0, first-then x calls base ∙ its.1, its.2)

-- over every network and every run
pub every_tick : EveryTickCounts
every_tick t events run n k c found =
    let x : NodeState = (after t start events).nodes n.0 in
    let facts : NodeFacts n.0 x = (facts-hold t events run).node n.0 in
    let each = all-calls_found (λ d. Counted t.wait d (call_ticked t.wait x.legs d)) x.calls facts.calls_rise
    (λ m d there. ticked-counted (local_node t n) x facts d
    (subst (λ y. find_call y x.calls ≡ Some d) (sym (found-number m x.calls d there)) there)) in
    let its = all-counted t.wait x.legs k x.calls facts.calls_rise each c found x.calls found in
    let there : (step t (after t start events) (Tick n)).nodes n.0 ≡ changed x (on_tick (local_node t n) x) =
    rw (self-number n.0) refl in
    (its.0, ap (λ (y : NodeState). find_call k y.calls) there ∙ its.1, its.2)
