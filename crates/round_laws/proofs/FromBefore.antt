-- What a turn delivers was taken then or before: so of each delivered frame holds what holds of each that was taken.
use Rattle.std.proofs.{Common.{ℕ, true, false, Bool, cond, List, [], ◌∷◌, ◌++◌, drop, filter, map, sym, subst}, ByRecursion.All-append}
use Rattle.std.specs.{Prelude.{Option, Some, None}, List.AllByRecursion}
use Rattle.ason_base.specs.{declared.commands.Disturb.Disturb, declared.commands.DisturbKind.DisturbKind, declared.commands.DisturbKind.TheVariants.{Lose, Repeat, Hold}, declared.ids.NodeId.NodeId, Network.Network}
use Rattle.ason_base.proofs.Members.{all-right, all-left}
use Rattle.world_merge.specs.Deeds.{Deed, Handled, Heard, Posted, Ticked, Took}
use Rattle.round_rules.specs.{Doings.{Did, Doing, Freed, Got, Left, Lost, deeds_in}, Held.{HeldFrame, due_in, held_after, held_by_line, held_past, held_step, is_frame_due, ticked_once}, Takings.{Taking, all_doings, doings_of}, Turns.{AreDelivered, AreHandled, IsTick, IsTurnOf}}
use Rattle.round_rules.proofs.Desks.{deeds-more}

module _ (P : NodeId → ℕ → Type 0) where
  -- of a frame that is taken, and of one that is delivered
  abbrev pub IsGotBefore : Doing → Type 0
  IsGotBefore (Got u k says) = P u k
  IsGotBefore (Did d) = Unit {0}
  IsGotBefore Freed = Unit {0}
  IsGotBefore (Lost u k) = Unit {0}
  IsGotBefore (Left i) = Unit {0}

  abbrev pub IsTook : Deed → Type 0
  IsTook (Took s u k x) = P u k
  IsTook (Ticked s) = Unit {0}
  IsTook (Handled s) = Unit {0}
  IsTook (Heard s u bytes) = Unit {0}
  IsTook (Posted s c) = Unit {0}

  abbrev IsHeld : HeldFrame → Type 0
  IsHeld h = P h.from h.number

  -- Held frames

  ticked : (hs : List HeldFrame) → AllByRecursion IsHeld hs → AllByRecursion IsHeld (map ticked_once hs)
  ticked [] all = tt
  ticked (h ∷ hs) all = (all.0, ticked hs all.1)

  past : (hs : List HeldFrame) (d : Deed) → AllByRecursion IsHeld hs → AllByRecursion IsHeld (held_past hs d)
  past hs (Ticked s) all = ticked hs all
  past hs (Handled s) all = all
  past hs (Took s u k x) all = all
  past hs (Heard s u bytes) all = all
  past hs (Posted s c) all = all

  by : (u : NodeId) (k : ℕ) (says : Option DisturbKind) → P u k → AllByRecursion IsHeld (held_by_line u k says)
  by u k (Some Hold) is = (is, tt)
  by u k (Some Lose) is = tt
  by u k (Some Repeat) is = tt
  by u k None is = tt

  freed : (hs : List HeldFrame) → AllByRecursion IsHeld hs → AllByRecursion IsHeld (drop 1 hs)
  freed [] all = tt
  freed (h ∷ hs) all = all.1

  held-step : (hs : List HeldFrame) (d : Doing) → AllByRecursion IsHeld hs → IsGotBefore d →
      AllByRecursion IsHeld (held_step hs d)
  held-step hs (Did d) all is = past hs d all
  held-step hs (Got u k says) all is = All-append IsHeld hs (held_by_line u k says) all (by u k says is)
  held-step hs Freed all is = freed hs all
  held-step hs (Lost u k) all is = all
  held-step hs (Left i) all is = all

  held : (hs : List HeldFrame) (ds : List Doing) → AllByRecursion IsHeld hs → AllByRecursion IsGotBefore ds →
      AllByRecursion IsHeld (held_after hs ds)
  held hs [] all got = all
  held hs (d ∷ ds) all got = held (held_step hs d) ds (held-step hs d all got.0) got.1

  due : (hs : List HeldFrame) → AllByRecursion IsHeld hs → AllByRecursion IsHeld (filter is_frame_due hs)
  due [] all = tt
  due (h ∷ hs) all = go (is_frame_due h) (due hs all.1)
    where
      go : (b : Bool) → AllByRecursion IsHeld (filter is_frame_due hs) →
          AllByRecursion IsHeld (cond b (h ∷ filter is_frame_due hs) (filter is_frame_due hs))
      go true rest = (all.0, rest)
      go false rest = rest

  -- A turn

  abbrev AreTook : List Doing → Type 0
  AreTook ds = AllByRecursion IsTook (deeds_in ds)

  took-both : (ds es : List Doing) → AreTook ds → AreTook es → AreTook (ds ++ es)
  took-both ds es one two =
      subst (AllByRecursion IsTook) (sym (deeds-more ds es)) (All-append IsTook (deeds_in ds) (deeds_in es) one two)

  tick-took : (tick : Bool) (ds : List Doing) → IsTick tick ds → AreTook ds
  tick-took true ds is = subst AreTook (sym is.1) (tt, tt)
  tick-took false ds is = subst AreTook (sym is) tt

  tick-got : (tick : Bool) (ds : List Doing) → IsTick tick ds → AllByRecursion IsGotBefore ds
  tick-got true ds is = subst (AllByRecursion IsGotBefore) (sym is.1) (tt, tt)
  tick-got false ds is = subst (AllByRecursion IsGotBefore) (sym is) tt

  dues-took : (hs : List HeldFrame) (ds : List Doing) → AreDelivered hs ds → AllByRecursion IsHeld hs → AreTook ds
  dues-took [] ds is all = subst AreTook (sym is) tt
  dues-took (h ∷ hs) ds is all = subst AreTook (sym is.3) (all.0, dues-took hs is.2 is.4 all.1)

  items-took : (ds : List Doing) → AreHandled ds → AreTook ds
  items-took [] is = tt
  items-took (d ∷ ds) is = subst (λ x. AreTook (x ∷ ds)) (sym is.0.1) (tt, items-took ds is.1)

  stamps-took : (g : Taking) (ss : List ℕ) → P g.from g.number →
      AreTook (map (λ s. Did (Took s g.from g.number g.content)) ss)
  stamps-took g [] is = tt
  stamps-took g (s ∷ ss) is = (is, stamps-took g ss is)

  takings-took : (gs : List Taking) → AllByRecursion IsGotBefore (all_doings gs) → AreTook (all_doings gs)
  takings-took [] all = tt
  takings-took (g ∷ gs) all =
      took-both (doings_of g) (all_doings gs)
      (stamps-took g g.stamps (all-left IsGotBefore (doings_of g) (all_doings gs) all).0)
      (takings-took gs (all-right IsGotBefore (doings_of g) (all_doings gs) all))

  -- What a turn delivers was taken in it or before.
  pub turn-took : (t : Network) (lines : List Disturb) (n : NodeId) (tick : Bool) (before ds : List Doing) →
      IsTurnOf t lines n tick before ds → AllByRecursion IsGotBefore (before ++ ds) →
      AllByRecursion IsTook (deeds_in ds)
  turn-took t lines n tick before ds is all =
      let old : AllByRecursion IsGotBefore before = all-left IsGotBefore before ds all in
      let new : AllByRecursion IsGotBefore (is.ticks ++ (is.dues ++ (is.items ++ all_doings is.takings))) =
      subst (AllByRecursion IsGotBefore) is.all (all-right IsGotBefore before ds all) in
      let late : AllByRecursion IsGotBefore (all_doings is.takings) =
      all-right IsGotBefore is.items (all_doings is.takings)
      (all-right IsGotBefore is.dues (is.items ++ all_doings is.takings)
      (all-right IsGotBefore is.ticks (is.dues ++ (is.items ++ all_doings is.takings)) new)) in
      let waited : AllByRecursion IsHeld (due_in (before ++ is.ticks)) =
      due (held_after [] (before ++ is.ticks)) (held [] (before ++ is.ticks) tt
      (All-append IsGotBefore before is.ticks old (tick-got tick is.ticks is.is_tick))) in
      subst AreTook (sym is.all)
      (took-both is.ticks (is.dues ++ (is.items ++ all_doings is.takings)) (tick-took tick is.ticks is.is_tick)
      (took-both is.dues (is.items ++ all_doings is.takings) (dues-took _ is.dues is.are_due waited)
      (took-both is.items (all_doings is.takings) (items-took is.items is.handled) (takings-took is.takings late))))
