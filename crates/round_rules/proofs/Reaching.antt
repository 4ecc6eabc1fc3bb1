-- How far a turn goes that halts.
use Rattle.std.proofs.{Common.{◌≡◌, inl, ℕ, suc, Bool, true, false, cond, List, [], ◌∷◌, ◌++◌, refl, sym, ap, ◌∙◌, subst, arith, append-nil, append_assoc}, lemmas.List.Elements.{Contains-append_left, Contains-append_right}, lemmas.List.Sums.fold-append}
use Rattle.std.specs.{Prelude.{◌^◌, ◌&&◌, nat_lt}, List.Contains}
use Rattle.ason_base.specs.{declared.limits.TheConstants.MOST_EVENTS, declared.ids.NodeId.NodeId, declared.commands.Disturb.Disturb, Network.Network}
use Rattle.world_merge.specs.Deeds.{Ticked}
use Rattle.round_rules.specs.{Doings.{DeskItem, Did, Doing, DueFrame, Left, RingFrame, TickAsked}, Functions.{Popped, all_freed, all_handled, all_taken, with_freed, with_taken, tick_if, with_ticked}, Halts.{HasHalted, IsCutTurnOf, TurnsHalt}, Held.due_in, Limits.{Progress, desk_part, due_parts, going, halted_by, log_line_count, next_stamp, pop_parts, tick_part, turn_to, unless_halted}, Takings.all_doings, Turns.items_after}
use Rattle.round_rules.proofs.{Cutting.{DoingsGoOn, TurnReaches, at_clock, at_limit, freed_on, handled_twice, reaches_halted, there_between}, Ending.{dues-do, is-going, items-do, still, still-popped}, Halting.{HaltsInDues, HaltsInItems, HaltsInPops, AreDoingsFull, halts-in-dues, halts-in-items, full, halts-in-pops}, Turning.{Items, Takes, items, takes}}

-- After the tick, where it was made
module _ (t : Network) (lines : List Disturb) (n : NodeId) (tick : Bool) (before : List Doing)
    (due pops : List Popped) (goes : tick_part tick before ≡ going (tick_if tick before)) where
  abbrev ticking : List Doing
  ticking = tick_if tick before

  abbrev here : List Doing
  here = all_freed ticking due

  abbrev many : ℕ
  many = items_after t n here

  abbrev ready : List Doing
  ready = all_handled many here

  abbrev dues_done : Progress
  dues_done = due_parts (going ticking) due

  abbrev desk_done : Progress
  desk_done = desk_part t n here

  turns_from : turn_to t lines n tick before due pops ≡
      pop_parts lines n (unless_halted (desk_part t n) dues_done) pops
  turns_from = ap (λ p. pop_parts lines n (unless_halted (desk_part t n) (due_parts p due)) pops) goes

  in_dues : dues_done.halted ≡ true → TurnReaches t lines n tick before due pops
  in_dues h = record {
    first = r.first;
    other = r.at ∷ r.rest;
    due_is = r.all;
    done = 0;
    few = omega arith;
    took = [];
    last = [];
    lacks = inl refl;
    left = DueFrame r.at.from r.at.number;
    stops = (r.at, r.rest, refl, refl, refl);
    made = made;
    made_is = sym (append-nil made);
    is = ap (λ (p : Progress). p.doings) (turns_from
        ∙ ap (λ p. pop_parts lines n p pops) (still (desk_part t n) dues_done h)
        ∙ still-popped lines n dues_done pops h) ∙ r.is;
    rest = on.more ++ (c.more ++ all_doings d.takings);
    whole =
        d.all ∙ ap (λ ks. ks ++ all_doings d.takings) (c.all ∙ ap (λ ks. ks ++ c.more) freed_is)
        ∙ append_assoc (made ++ on.more) c.more (all_doings d.takings)
        ∙ append_assoc made on.more (c.more ++ all_doings d.takings);
    limit =
        at_limit made (due ++ pops) r.at (Contains-append_left due pops r.at
        (subst (λ ps. Contains ps r.at) (sym r.all) (there_between r.first r.rest r.at))) r.full;
  }
    where
      r : HaltsInDues ticking due dues_done
      r = halts-in-dues ticking due h

      made : List Doing
      made = all_freed ticking r.first

      on : DoingsGoOn made (all_freed made (r.at ∷ r.rest))
      on = freed_on made (r.at ∷ r.rest)

      c : Items many here
      c = items many here

      d : Takes lines n ready pops
      d = takes lines n ready pops

      freed_is : here ≡ made ++ on.more
      freed_is = ap (all_freed ticking) r.all ∙ fold-append with_freed ticking r.first (r.at ∷ r.rest) ∙ on.all

  -- once all that is due was delivered
  dues_go : dues_done.halted ≡ false → dues_done ≡ going here
  dues_go h = is-going dues_done here (dues-do (going ticking) ticking due (λ e. refl)) h

  at_desk : dues_done.halted ≡ false → turn_to t lines n tick before due pops ≡ pop_parts lines n desk_done pops
  at_desk h = turns_from ∙ ap (λ p. pop_parts lines n (unless_halted (desk_part t n) p) pops) (dues_go h)

  in_items : dues_done.halted ≡ false → desk_done.halted ≡ true → TurnReaches t lines n tick before due pops
  in_items f h = record {
    first = due;
    other = [];
    due_is = sym (append-nil due);
    done = r.done;
    few = let all = r.all in omega arith;
    took = [];
    last = [];
    lacks = inl refl;
    left = DeskItem;
    stops = (refl, let all = r.all in omega (arith, all));
    made = made;
    made_is = sym (append-nil made);
    is = ap (λ (p : Progress). p.doings) (at_desk f ∙ still-popped lines n desk_done pops h) ∙ r.is;
    rest = c.more ++ all_doings d.takings;
    whole =
        d.all ∙ ap (λ ks. ks ++ all_doings d.takings) handled_is
        ∙ append_assoc made c.more (all_doings d.takings);
    limit = at_clock made (due ++ pops) r.full;
  }
    where
      r : HaltsInItems here many desk_done
      r = halts-in-items here many h

      made : List Doing
      made = all_handled r.done here

      c : Items (suc r.left) made
      c = items (suc r.left) made

      d : Takes lines n ready pops
      d = takes lines n ready pops

      handled_is : ready ≡ made ++ c.more
      handled_is = ap (λ k. all_handled k here) r.all ∙ handled_twice r.done (suc r.left) here ∙ c.all

  desk_goes : desk_done.halted ≡ false → desk_done ≡ going ready
  desk_goes h = is-going desk_done ready (items-do many (going here) here (λ e. refl)) h

  in_pops : dues_done.halted ≡ false → desk_done.halted ≡ false →
      (turn_to t lines n tick before due pops).halted ≡ true → TurnReaches t lines n tick before due pops
  in_pops f g h = record {
    first = due;
    other = [];
    due_is = sym (append-nil due);
    done = many;
    few = omega arith;
    took = r.first;
    last = r.last;
    lacks = r.lacks;
    left = RingFrame r.at.from r.at.number;
    stops = (r.first, r.at, r.rest, r.all, refl, refl, r.delivers);
    made = made;
    made_is = refl;
    is = ap (λ (p : Progress). p.doings) all_is ∙ r.is;
    rest = r.more ++ all_doings d.takings;
    whole =
        ap (all_taken lines n ready) r.all ∙ fold-append (with_taken lines n) ready r.first (r.at ∷ r.rest)
        ∙ d.all ∙ ap (λ ks. ks ++ all_doings d.takings) r.whole
        ∙ append_assoc made r.more (all_doings d.takings);
    limit =
        at_limit made (due ++ pops) r.at (Contains-append_right due pops r.at
        (subst (λ ps. Contains ps r.at) (sym r.all) (there_between r.first r.rest r.at))) r.full;
  }
    where
      all_is : turn_to t lines n tick before due pops ≡ pop_parts lines n (going ready) pops
      all_is = at_desk f ∙ ap (λ p. pop_parts lines n p pops) (desk_goes g)

      r : HaltsInPops lines n ready pops (pop_parts lines n (going ready) pops)
      r = halts-in-pops lines n ready pops (sym (ap (λ (p : Progress). p.halted) all_is) ∙ h)

      made : List Doing
      made = all_taken lines n ready r.first ++ r.last

      d : Takes lines n (with_taken lines n (all_taken lines n ready r.first) r.at) r.rest
      d = takes lines n (with_taken lines n (all_taken lines n ready r.first) r.at) r.rest

  reaches : (turn_to t lines n tick before due pops).halted ≡ true → TurnReaches t lines n tick before due pops
  reaches h = go dues_done.halted desk_done.halted refl refl
    where
      go : (a b : Bool) → dues_done.halted ≡ a → desk_done.halted ≡ b → TurnReaches t lines n tick before due pops
      go true b e f = in_dues e
      go false true e f = in_items e f
      go false false e f = in_pops e f h

-- doing nothing is a cut turn
abbrev pub no-turn : (t : Network) (lines : List Disturb) (n : NodeId) (before : List Doing) →
    IsCutTurnOf t lines n true before []
no-turn t lines n before = record {
  ticks = [];
  dues = [];
  items = [];
  takings = [];
  last = [];
  all = refl;
  is_tick = inl refl;
  freed = [];
  kept = due_in (before ++ []);
  due = refl;
  are_due = refl;
  handled = tt;
  few = omega arith;
  are_takings = tt;
  lacks = inl refl;
}

-- the tick wasn't made
at_tick : (t : Network) (lines : List Disturb) (n : NodeId) (before : List Doing) (due pops : List Popped) →
    tick_part true before ≡ halted_by TickAsked before → AreDoingsFull (next_stamp before) before →
    HasHalted t lines n true before due pops
at_tick t lines n before due pops halts no_room = record {
  added = [];
  left = TickAsked;
  all = ap (λ (p : Progress). p.doings) whole ∙ ap (λ ks. ks ++ Left TickAsked ∷ []) (sym (append-nil before));
  cut = no-turn t lines n before;
  hand = (refl, refl);
  rest = (Did (Ticked (next_stamp before)) ∷ []) ++ (on.more ++ (c.more ++ all_doings d.takings));
  whole =
      d.all ∙ ap (λ ks. ks ++ all_doings d.takings) (c.all ∙ ap (λ ks. ks ++ c.more) on.all)
      ∙ append_assoc (with_ticked before ++ on.more) c.more (all_doings d.takings)
      ∙ append_assoc (with_ticked before) on.more (c.more ++ all_doings d.takings)
      ∙ append_assoc before (Did (Ticked (next_stamp before)) ∷ []) (on.more ++ (c.more ++ all_doings d.takings))
      ∙ ap (λ ks. ks ++ (Did (Ticked (next_stamp before)) ∷ (on.more ++ (c.more ++ all_doings d.takings))))
      (sym (append-nil before));
  limit = at_clock (before ++ []) (due ++ pops)
      (subst (λ ks. AreDoingsFull (next_stamp ks) ks) (sym (append-nil before)) no_room);
}
  where
    on : DoingsGoOn (with_ticked before) (all_freed (with_ticked before) due)
    on = freed_on (with_ticked before) due

    c : Items (items_after t n (all_freed (with_ticked before) due)) (all_freed (with_ticked before) due)
    c = items (items_after t n (all_freed (with_ticked before) due)) (all_freed (with_ticked before) due)

    d : Takes lines n (all_handled (items_after t n (all_freed (with_ticked before) due)) (all_freed (with_ticked before) due))
        pops
    d = takes lines n (all_handled (items_after t n (all_freed (with_ticked before) due)) (all_freed (with_ticked before) due))
        pops

    stays : (ps : List Popped) → due_parts (halted_by TickAsked before) ps ≡ halted_by TickAsked before
    stays [] = refl
    stays (p ∷ ps) = stays ps

    whole : turn_to t lines n true before due pops ≡ halted_by TickAsked before
    whole =
        ap (λ p. pop_parts lines n (unless_halted (desk_part t n) (due_parts p due)) pops) halts
        ∙ ap (λ p. pop_parts lines n (unless_halted (desk_part t n) p) pops) (stays due)
        ∙ still-popped lines n (halted_by TickAsked before) pops refl

pub turns-halt : TurnsHalt
turns-halt t lines n false before due pops are h =
    reaches_halted t lines n false before due pops are (reaches t lines n false before due pops refl h)
turns-halt t lines n true before due pops are h = go able refl
  where
    able : Bool
    able = nat_lt (log_line_count before) MOST_EVENTS && nat_lt (next_stamp before) (2 ^ 64)

    go : (b : Bool) → able ≡ b → HasHalted t lines n true before due pops
    go true e =
        reaches_halted t lines n true before due pops are (reaches t lines n true before due pops
        (ap (λ b. cond b (going (with_ticked before)) (halted_by TickAsked before)) e) h)
    go false e =
        at_tick t lines n before due pops (ap (λ b. cond b (going (with_ticked before)) (halted_by TickAsked before)) e)
        (full (next_stamp before) (log_line_count before) e)
