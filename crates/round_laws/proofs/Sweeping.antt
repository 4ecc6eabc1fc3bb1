-- A whole round is a sweep.
use Rattle.std.proofs.Common.{◌≡◌, ◌≤◌, ◌+◌, ℕ, zero, suc, Bool, true, false, nat_eq, List, [], ◌∷◌, ◌++◌, length, drop, map, take, refl, sym, ap, ◌∙◌, subst, append-nil, arith}
use Rattle.std.specs.{Prelude.Some, List.AllByRecursion}
use Rattle.ason_base.specs.{declared.ids.NodeId.NodeId, declared.commands.Disturb.Disturb, declared.commands.DeskItem.DeskItem, declared.commands.Entry.Entry, declared.messages.Msg.Msg, Network.{Network, is_node_id}}
use Rattle.hop_reliable.specs.Schedules.{HopEnd, under_way}
use Rattle.hop_reliable.proofs.{Flow.Flow, Schedule.{Flows, flows-run}}
use Rattle.mesh_rules.specs.declared.events.MeshEvent.{MeshEvent}
use Rattle.world_rules.specs.{Images.{image, mesh_events}, Worlds.{World, world_start, with_event}, WorldRuns.is_world_channel}
use Rattle.world_rules.proofs.{Delivered.kept-delivered, Reached.{AreReached, are-reached-run, are-reached-start}}
use Rattle.world_merge.specs.{Deeds.{Deed, Took, alone, alone_from, done, stamp_of}, Histories.at, Logs.RisesAbove, Merges.{events_of, part}, Picking.merged_of}
use Rattle.world_merge.proofs.Splitting.{alone-more}
use Rattle.round_rules.specs.{Doings.{Did, Doing, deeds_in}, Held.HeldFrame, Records.{Record, deeds_at, world_of}, Rounds.IsRound, Takings.{Taking, all_doings, doings_of}, Turns.{AreDelivered, AreHandled, IsTick, IsTurnOf, items_after}, PossibleRecords.IsRecord}
use Rattle.round_laws.specs.{GoingOn.GoesOn, Rings.{handed_up_at, last_sent_to}, WholeRounds.WholeRoundsAreSweeps}
use Rattle.mesh_laws.specs.Sweeps.{handled_at, taken_count}
use Rattle.round_rules.proofs.{Desks.deeds-more, RoundParts.round-part}
use Rattle.round_laws.proofs.{Counting.{IsNoPost, line_posts, of_parts, run_posts, desk_count, handled_in, handled_in_append, lines_desks, part_desks, run_handles, run_takes}, GoingOn.merges-go_on, Keeping.whole-rounds_hand_up, Sorting.{AreDeedsMerged, NonePosted, lists, merges}}

-- What was added

-- what each node did since
abbrev pub doings_added : Record → Record → ℕ → List Doing
doings_added old new n = drop (length (old.doings n)) (new.doings n)

drop_front : (xs ys : List Doing) → drop (length xs) (xs ++ ys) ≡ ys
drop_front [] ys = refl
drop_front (x ∷ xs) ys = drop_front xs ys

pub added_is : (old new : Record) (n : ℕ) (ds : List Doing) → new.doings n ≡ old.doings n ++ ds →
    doings_added old new n ≡ ds
added_is old new n ds all = ap (drop (length (old.doings n))) all ∙ drop_front (old.doings n) ds

nothing_added : (old new : Record) (n : ℕ) → new.doings n ≡ old.doings n → doings_added old new n ≡ []
nothing_added old new n same = added_is old new n [] (same ∙ sym (append-nil (old.doings n)))

-- Deeds of a turn

none_append : (ds es : List Deed) → NonePosted ds → NonePosted es → NonePosted (ds ++ es)
none_append [] es p q = q
none_append (d ∷ ds) es p q = (p.0, none_append ds es p.1 q)

none_both : (ds es : List Doing) → NonePosted (deeds_in ds) → NonePosted (deeds_in es) → NonePosted (deeds_in (ds ++ es))
none_both ds es p q = subst NonePosted (sym (deeds-more ds es)) (none_append (deeds_in ds) (deeds_in es) p q)

tick_none : (tick : Bool) (ds : List Doing) → IsTick tick ds → NonePosted (deeds_in ds)
tick_none true ds is = subst (λ xs. NonePosted (deeds_in xs)) (sym is.1) (refl, tt)
tick_none false ds is = subst (λ xs. NonePosted (deeds_in xs)) (sym is) tt

dues_none : (hs : List HeldFrame) (ds : List Doing) → AreDelivered hs ds → NonePosted (deeds_in ds)
dues_none [] ds is = subst (λ xs. NonePosted (deeds_in xs)) (sym is) tt
dues_none (h ∷ hs) ds is =
    subst (λ xs. NonePosted (deeds_in xs)) (sym is.3) (refl, dues_none hs is.2 is.4)

items_none : (ds : List Doing) → AreHandled ds → NonePosted (deeds_in ds)
items_none [] is = tt
items_none (d ∷ ds) is =
    subst (λ x. NonePosted (deeds_in (x ∷ ds))) (sym is.0.1) (refl, items_none ds is.1)

taking_none : (g : Taking) (ss : List ℕ) →
    NonePosted (deeds_in (map (λ s. Did (Took s g.from g.number g.content)) ss))
taking_none g [] = tt
taking_none g (s ∷ ss) = (refl, taking_none g ss)

takings_none : (gs : List Taking) → NonePosted (deeds_in (all_doings gs))
takings_none [] = tt
takings_none (g ∷ gs) = none_both (doings_of g) (all_doings gs) (taking_none g g.stamps) (takings_none gs)

turn_none : (t : Network) (lines : List Disturb) (n : NodeId) (tick : Bool) (before ds : List Doing) →
    IsTurnOf t lines n tick before ds → NonePosted (deeds_in ds)
turn_none t lines n tick before ds is =
    subst (λ xs. NonePosted (deeds_in xs)) (sym is.all)
    (none_both is.ticks (is.dues ++ (is.items ++ all_doings is.takings)) (tick_none tick is.ticks is.is_tick)
    (none_both is.dues (is.items ++ all_doings is.takings) (dues_none _ is.dues is.are_due)
    (none_both is.items (all_doings is.takings) (items_none is.items is.handled) (takings_none is.takings))))

rises_right : (s : ℕ) (ds es : List Deed) → RisesAbove s (ds ++ es) → (r : ℕ) × RisesAbove r es
rises_right s [] es up = (s, up)
rises_right s (d ∷ ds) es up = rises_right (stamp_of d) ds es up.1

-- Desks

abbrev LeavesDesk : Deed → Type 0
LeavesDesk d = (t : Network) (n : NodeId) (w : World) (k : ℕ) → (done t n w d).desks k ≡ w.desks k

leaves : (t : Network) (n : NodeId) (w : World) (ds : List Deed) → AllByRecursion LeavesDesk ds → (k : ℕ) →
    (alone_from t n w ds).desks k ≡ w.desks k
leaves t n w [] all k = refl
leaves t n w (d ∷ ds) all k = leaves t n (done t n w d) ds all.1 k ∙ all.0 t n w k

all_both : (ds es : List Deed) → AllByRecursion LeavesDesk ds → AllByRecursion LeavesDesk es →
    AllByRecursion LeavesDesk (ds ++ es)
all_both [] es p q = q
all_both (d ∷ ds) es p q = (p.0, all_both ds es p.1 q)

tick_leaves : (tick : Bool) (ds : List Doing) → IsTick tick ds → AllByRecursion LeavesDesk (deeds_in ds)
tick_leaves true ds is =
    subst (λ xs. AllByRecursion LeavesDesk (deeds_in xs)) (sym is.1) ((λ t n w k. refl), tt)
tick_leaves false ds is = subst (λ xs. AllByRecursion LeavesDesk (deeds_in xs)) (sym is) tt

dues_leave : (hs : List HeldFrame) (ds : List Doing) → AreDelivered hs ds → AllByRecursion LeavesDesk (deeds_in ds)
dues_leave [] ds is = subst (λ xs. AllByRecursion LeavesDesk (deeds_in xs)) (sym is) tt
dues_leave (h ∷ hs) ds is =
    subst (λ xs. AllByRecursion LeavesDesk (deeds_in xs)) (sym is.3)
    ((λ t n w k. (kept-delivered t (with_event w n.0) n h.from (Some is.1) k).desk), dues_leave hs is.2 is.4)

items_count : (ds : List Doing) → AreHandled ds → length ds ≡ handled_in (deeds_in ds)
items_count [] is = refl
items_count (d ∷ ds) is =
    let rest = items_count ds is.1 in
    let one : handled_in (deeds_in (d ∷ ds)) ≡ 1 + handled_in (deeds_in ds) =
    ap (λ x. handled_in (deeds_in (x ∷ ds))) is.0.1 in
    omega (arith, rest, one)

both_count : (ds es : List Doing) → handled_in (deeds_in (ds ++ es)) ≡ handled_in (deeds_in ds) + handled_in (deeds_in es)
both_count ds es = ap handled_in (deeds-more ds es) ∙ handled_in_append (deeds_in ds) (deeds_in es)

-- as many items are handled as stood on the desk
pub turn_handles : (t : Network) (lines : List Disturb) (n : NodeId) (tick : Bool) (before ds : List Doing) →
    IsTurnOf t lines n tick before ds → length ((alone t n (deeds_in before)).desks n.0) ≤ handled_in (deeds_in ds)
turn_handles t lines n tick before ds is =
    let all : handled_in (deeds_in ds) ≡
    handled_in (deeds_in (is.ticks ++ (is.dues ++ (is.items ++ all_doings is.takings)))) =
    ap (λ xs. handled_in (deeds_in xs)) is.all in
    let one = both_count is.ticks (is.dues ++ (is.items ++ all_doings is.takings)) in
    let two = both_count is.dues (is.items ++ all_doings is.takings) in
    let three = both_count is.items (all_doings is.takings) in
    let items = items_count is.items is.handled in
    let same : length ((alone t n (deeds_in before)).desks n.0) ≡ items_after t n (before ++ (is.ticks ++ is.dues)) =
    ap (λ (x : List DeskItem). length x) (sym stays) in
    chain _ _ _ _ _ _ _ _ _ _ all one two three items (same ∙ sym is.count)
  where
    early : AllByRecursion LeavesDesk (deeds_in (is.ticks ++ is.dues))
    early =
        subst (AllByRecursion LeavesDesk) (sym (deeds-more is.ticks is.dues))
        (all_both (deeds_in is.ticks) (deeds_in is.dues) (tick_leaves tick is.ticks is.is_tick)
        (dues_leave _ is.dues is.are_due))

    stays : (alone t n (deeds_in (before ++ (is.ticks ++ is.dues)))).desks n.0 ≡ (alone t n (deeds_in before)).desks n.0
    stays =
        ap (λ ds. (alone t n ds).desks n.0) (deeds-more before (is.ticks ++ is.dues))
        ∙ ap (λ (w : World). w.desks n.0)
        (alone-more t n (world_start t) (deeds_in before) (deeds_in (is.ticks ++ is.dues)))
        ∙ leaves t n (alone t n (deeds_in before)) (deeds_in (is.ticks ++ is.dues)) early n.0

    chain : (desk items all a b c d e f h : ℕ) → all ≡ a → a ≡ b + c → c ≡ d + e → e ≡ f + h → items ≡ f →
        desk ≡ items → desk ≤ all
    chain desk items all a b c d e f h p q r s v x = omega (arith, p, q, r, s, v, x)

-- Messages

-- the first so many of a list
pub take_length : (n : ℕ) (ms : List Msg) → n ≤ length ms → length (take n ms) ≡ n
take_length zero ms le = refl
take_length (suc n) [] le = absurd (omega (arith, le))
take_length (suc n) (m ∷ ms) le = let r = take_length n ms (omega (arith, le)) in omega (arith, r)

drop_length : (n : ℕ) (ms : List Msg) → n ≤ length ms → length (drop n ms) + n ≡ length ms
drop_length zero ms le = omega arith
drop_length (suc n) [] le = absurd (omega (arith, le))
drop_length (suc n) (m ∷ ms) le = let r = drop_length n ms (omega (arith, le)) in omega (arith, r)

-- as many are under way as were sent and not handed up
pub way_length : (x y : HopEnd) → Flow x y → length (under_way x y) + y.hop.handed_up ≡ x.hop.sent
way_length x y f =
    let up : length y.up ≡ y.hop.handed_up =
    ap (λ (ms : List Msg). length ms) f.prefix ∙ take_length y.hop.handed_up x.given f.within in
    let rest : length (drop y.hop.handed_up x.given) + y.hop.handed_up ≡ length x.given =
    drop_length y.hop.handed_up x.given f.within in
    ap (λ n. length (drop n x.given) + y.hop.handed_up) up ∙ rest ∙ sym f.count

-- what is under way was sent, and isn't handed up
pub flows : (w : World) → AreReached w → (u d : ℕ) → nat_eq u d ≡ false → Flow (w.ends u d) (w.ends d u)
flows w r u d other =
    let f = r.apart u d other in
    (subst Flows f.leads (flows-run f.schedule)).eastward

-- The round

-- What a round added, at each number: it has no posts, its stamps rise, and what is no node added nothing.
module _ (t : Network) (lines : List Disturb) (old new : Record) (round : IsRound t lines old new) where
  pub all-added : (n : ℕ) → new.doings n ≡ old.doings n ++ doings_added old new n
  all-added n = go (is_node_id t.nodes (at n)) refl
    where
      go : (b : Bool) → is_node_id t.nodes (at n) ≡ b → new.doings n ≡ old.doings n ++ doings_added old new n
      go true e =
          let r = round-part t lines old new (at n) (round.nodes (at n) e) in
          r.all ∙ ap (λ ds. old.doings n ++ ds) (sym (added_is old new n r.added r.all))
      go false e =
          let same = round.others (at n) e in
          same ∙ sym (append-nil (old.doings n))
          ∙ ap (λ ds. old.doings n ++ ds) (sym (nothing_added old new n same))

  pub none-posted : (n : ℕ) → NonePosted (deeds_in (doings_added old new n))
  none-posted n = go (is_node_id t.nodes (at n)) refl
    where
      go : (b : Bool) → is_node_id t.nodes (at n) ≡ b → NonePosted (deeds_in (doings_added old new n))
      go true e =
          let r = round-part t lines old new (at n) (round.nodes (at n) e) in
          subst (λ ds. NonePosted (deeds_in ds)) (sym (added_is old new n r.added r.all))
          (turn_none t lines (at n) true (old.doings n) r.added r.turn)
      go false e =
          subst (λ ds. NonePosted (deeds_in ds)) (sym (nothing_added old new n (round.others (at n) e))) tt

  pub added-rises : IsRecord t new → (n : ℕ) → (s : ℕ) × RisesAbove s (deeds_in (doings_added old new n))
  added-rises is_new n =
      rises_right 0 (deeds_at old n) (deeds_in (doings_added old new n))
      (subst (RisesAbove 0) (ap deeds_in (all-added n) ∙ deeds-more (old.doings n) (doings_added old new n))
      (is_new.rises n))

  pub none-added : (n : ℕ) → is_node_id t.nodes (at n) ≡ false → deeds_in (doings_added old new n) ≡ []
  none-added n e = ap deeds_in (nothing_added old new n (round.others (at n) e))

-- A whole round is a sweep of the mesh.
pub whole-rounds_are_sweeps : WholeRoundsAreSweeps
whole-rounds_are_sweeps t lines old new es is is_old is_new leads whole have home = record {
  lines = m;
  on = on;
  sweep = record { mail = λ u d. mail u d (is_world_channel t (at u) (at d)) refl; desks = λ n. desks n (is_node_id t.nodes (at n)) refl };
  only = run_posts t w m (of_parts (λ (e : Entry). IsNoPost e.event) m (λ n.
      subst (AllByRecursion (λ (e : Entry). IsNoPost e.event)) (sym (merged.parts n))
      (line_posts (at n) (deeds n) (none-posted t lines old new whole.round n))));
}
  where
    deeds : ℕ → List Deed
    deeds n = deeds_in (doings_added old new n)

    m : List Entry
    m = merged_of (lists deeds t.nodes)

    merged : AreDeedsMerged deeds m
    merged =
        merges t is deeds (none-posted t lines old new whole.round) (added-rises t lines old new whole.round is_new)
        (none-added t lines old new whole.round)

    on : GoesOn t old new m
    on =
        merges-go_on t old new (doings_added old new) m is_old is_new (all-added t lines old new whole.round)
        (record { ascends = merged.ascends; parts = merged.parts })

    w : World
    w = world_of t old

    all : List MeshEvent
    all = mesh_events t w (events_of m)

    reached : AreReached w
    reached = subst AreReached leads.leads (are-reached-run t es (world_start t) leads.run (are-reached-start t))

    mail : (u d : ℕ) (b : Bool) → is_world_channel t (at u) (at d) ≡ b →
        length ((image w).mail u d) ≤ taken_count u d all
    mail u d false e = subst (λ (ms : List Msg). length ms ≤ taken_count u d all) (sym (home.mail (at u) (at d) e)) (omega arith)
    mail u d true e =
        let other : nat_eq u d ≡ false = grind (arith, e) in
        let way : length ((image w).mail u d) + handed_up_at t old (at d) (at u) ≡ last_sent_to t old (at u) (at d) =
        way_length (w.ends u d) (w.ends d u) (flows w reached u d other) in
        let hands : last_sent_to t old (at u) (at d) ≤ handed_up_at t new (at d) (at u) =
        whole-rounds_hand_up t lines old new is_new whole have (at u) (at d) e in
        let takes : handed_up_at t new (at d) (at u) ≤ handed_up_at t old (at d) (at u) + taken_count u d all =
        subst (λ (v : World). (v.ends d u).hop.handed_up ≤ handed_up_at t old (at d) (at u) + taken_count u d all)
        on.leads
        (run_takes t w (events_of m) d u) in
        chain _ _ _ _ _ way hands takes
      where
        chain : (a b c d e : ℕ) → a + b ≡ c → c ≤ d → d ≤ b + e → a ≤ e
        chain a b c d e p q r = omega (arith, p, q, r)

    desks : (n : ℕ) (b : Bool) → is_node_id t.nodes (at n) ≡ b → length ((image w).desks n) ≤ handled_at n all
    desks n false e =
        subst (λ (xs : List DeskItem). length xs ≤ handled_at n all) (sym (home.desks (at n) e)) (omega arith)
    desks n true e =
        let r = round-part t lines old new (at n) (whole.round.nodes (at n) e) in
        let one : length (w.desks n) ≤ handled_in (deeds_in r.added) =
        turn_handles t lines (at n) true (old.doings n) r.added r.turn in
        let same : handled_in (deeds_in r.added) ≡ desk_count n (events_of (part n m)) =
        ap (λ ds. handled_in (deeds_in ds)) (sym (added_is old new n r.added r.all))
        ∙ lines_desks n (deeds n) ∙ ap (λ xs. desk_count n (events_of xs)) (sym (merged.parts n)) in
        chain _ _ _ _ _ one same (part_desks n m) (run_handles t w (events_of m) n)
      where
        chain : (a b c d e : ℕ) → a ≤ b → b ≡ c → c ≤ d → d ≤ e → a ≤ e
        chain a b c d e p q r s = omega (arith, p, q, r, s)
