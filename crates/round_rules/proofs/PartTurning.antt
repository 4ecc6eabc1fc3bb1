-- The parts of a turn together.
use Rattle.std.proofs.Common.{◌≡◌, Bool, true, false, cond, List, [], ◌++◌, filter, length, map, refl, sym, inl, inr, append-nil, ap, ◌∙◌, subst, arith}
use Rattle.std.specs.List.{AllByRecursion, AllZip}
use Rattle.ason_base.specs.{declared.ids.NodeId.NodeId, declared.commands.DeskItem.DeskItem, Network.Network}
use Rattle.round_rules.specs.{Doings.Doing, Functions.{AreHeldAs, all_freed, all_handled, tick_if}, Halts.IsCutTurnOf, Held.{due_in, is_frame_due}, Limits.{Progress, desk_part, due_parts, going, item_parts, pop_parts, tick_part, unless_halted}, Turns.items_after, Ends.{DeskEnds, DeskOnEnds, DueEnds, DueOnEnds, EndsAs, TickEnds, TurnEnds}, Phases.{desk_phase, due_phase, from_desk, from_dues, rings_phase, tick_phase, turn_phase}, Starts.{AreFirstDues, AreFirstItems, AreFirstTakings, AreFromDesk, AreFromDues}, Stands.{IsHeldOf, frame_of, parcel_ticked}, States.{IsStationOf, StationState}, Turned.{IsPoppedHeld, all_of, due_parcels}}
use Rattle.round_rules.proofs.{Ending.{dues-do, items-do}, Turning.{Dues, Items, Ticks, dues, items, ticks}, PartEnding.{Across, ends-later, going-of}, Keeping.kept-ticked, Places.NoneTaken, Pops.{came-then, no_pops, none-all, none-came}, Starving.{all-due, cut-of, dues-none, from-due, from-items, starves-as, starves-later, tick-does, turn-starves}, Steps.{Due, due-popped, dues-stuck}}
use Rattle.station_rings.specs.LinkStates.{view_of}

-- nothing is popped after a halt
pub no-more : (t : Network) (n : NodeId) (ds : List Doing) (old new : StationState) (p : Progress) →
    EndsAs t n ds true p new → EndsAs t n ds true (pop_parts old.lines n p (all_of (no_pops old.links))) new
no-more t n ds old new p ends =
    subst (λ ps. EndsAs t n ds true (pop_parts old.lines n p ps) new) (sym (none-all old.links)) ends

module _ (t : Network) (n : NodeId) (ds : List Doing) (old : StationState) where
  -- The desk

  pub across-desk : (mid end : StationState) → DeskEnds old mid t n ds false → NoneTaken old.links mid.links →
      mid.lines ≡ old.lines → Across (rings_phase 0) from_desk old mid end t n ds
  across-desk mid end ended none lines = record {
    done = p.doings;
    more = ended.added;
    all = ended.all;
    stands = ended.stands;
    on = λ halted r. record {
      pops = r.pops;
      are = came-then halted old.links mid.links end.links r.pops none r.are;
      ends =
          ends-later t n ds p.doings ended.added halted (pop_parts mid.lines n (going p.doings) (all_of r.pops)) _ end
          ended.all (λ i. pop_parts (lines i) n (sym (going-of p ended.halts) i) (all_of r.pops)) r.ends;
    };
    starves =
        starves-later old.lines mid.lines (AreFirstTakings mid.lines n) (AreFromDesk old.lines n (length old.desk)) t n
        ds p.doings did.more end (does ∙ did.all) lines
        (λ made r. record {
          items = did.more;
          rest = made;
          all = refl;
          handled = (did.are, omega (arith, did.count));
          taken = subst (λ ls. AreFirstTakings ls n made) lines r;
        });
  }
    where
      p : Progress
      p = item_parts (length old.desk) (going ds)

      did : Items (length old.desk) ds
      did = items (length old.desk) ds

      does : p.doings ≡ all_handled (length old.desk) ds
      does = items-do (length old.desk) (going ds) ds (λ e. refl) ended.halts

  pub stop-desk : (new : StationState) → NoneTaken old.links new.links → DeskEnds old new t n ds true →
      DeskOnEnds old new t n ds true
  stop-desk new none ended = record {
    pops = no_pops old.links;
    are = none-came old.links new.links none;
    ends = no-more t n ds old new (item_parts (length old.desk) (going ds)) ended;
  }

  -- The frames that are due

  pub across-due : (mid end : StationState) → DueEnds old mid t n ds false → NoneTaken old.links mid.links →
      mid.lines ≡ old.lines → IsStationOf t n ds old → Across from_desk from_dues old mid end t n ds
  across-due mid end ended none lines is = record {
    done = p.doings;
    more = ended.ends.added;
    all = ended.ends.all;
    stands = ended.ends.stands;
    on = λ halted r. record {
      due = ended.due;
      are_due = ended.are;
      pops = r.pops;
      are = came-then halted old.links mid.links end.links r.pops none r.are;
      ends =
          ends-later t n ds p.doings ended.ends.added halted
          (pop_parts mid.lines n (item_parts (length mid.desk) (going p.doings)) (all_of r.pops)) _ end ended.ends.all
          (ap (λ ls. pop_parts ls n (item_parts (length mid.desk) (going p.doings)) (all_of r.pops)) lines
          ∙ ap (λ x. pop_parts old.lines n x (all_of r.pops)) desk) r.ends;
    };
    starves =
        starves-later old.lines mid.lines (AreFromDesk mid.lines n (length mid.desk)) (AreFromDues t old.lines n ds) t n
        ds p.doings did.more end (does ∙ did.all) lines
        (λ made r. record {
          dues = did.more;
          rest = made;
          all = refl;
          freed = record { freed = due_in ds; kept = []; all = sym (append-nil (due_in ds)); are = did.are };
          on =
              subst (λ k. AreFromDesk old.lines n k made) most
              (subst (λ ls. AreFromDesk ls n (length mid.desk) made) lines r);
        });
  }
    where
      p : Progress
      p = due_parts (going ds) ended.due

      frames : filter is_frame_due (map frame_of old.held) ≡ due_in ds
      frames = ap (filter is_frame_due) is.stands.held

      did : Dues (due_in ds) ds ended.due
      did =
          dues (due_in ds) ds ended.due
          (subst (λ hs. AreHeldAs hs ended.due) frames (all-due old.held ended.due ended.are))

      does : p.doings ≡ all_freed ds ended.due
      does = dues-do (going ds) ds ended.due (λ e. refl) ended.ends.halts

      most : length mid.desk ≡ items_after t n (ds ++ did.more)
      most =
          ap (λ (items : List DeskItem). length items) ended.ends.stands.stands.sound.node.desk
          ∙ ap (items_after t n) (does ∙ did.all)

      desk : item_parts (length mid.desk) (going p.doings) ≡ unless_halted (desk_part t n) p
      desk =
          ap (λ (items : List DeskItem). item_parts (length items) (going p.doings))
          ended.ends.stands.stands.sound.node.desk
          ∙ sym (ap (λ b. cond b p (desk_part t n p.doings)) ended.ends.halts)

  pub stop-due : (new : StationState) → NoneTaken old.links new.links → DueEnds old new t n ds true →
      DueOnEnds old new t n ds true
  stop-due new none ended = record {
    due = ended.due;
    are_due = ended.are;
    pops = no_pops old.links;
    are = none-came old.links new.links none;
    ends =
        no-more t n ds old new (unless_halted (desk_part t n) p)
        (subst (λ x. EndsAs t n ds true x new) (sym (ap (λ b. cond b p (desk_part t n p.doings)) ended.ends.halts))
        ended.ends);
  }
    where
      p : Progress
      p = due_parts (going ds) ended.due

  -- The tick

  pub across-tick : (tick : Bool) (mid end : StationState) → TickEnds tick old mid t n ds false →
      NoneTaken old.links mid.links → mid.lines ≡ old.lines →
      mid.held ≡ cond tick (map parcel_ticked old.held) old.held →
      Across from_dues (turn_phase tick) old mid end t n ds
  across-tick tick mid end ended none lines held = record {
    done = p.doings;
    more = ended.added;
    all = ended.all;
    stands = ended.stands;
    on = λ halted r.
        let e =
        ends-later t n ds p.doings ended.added halted
        (pop_parts mid.lines n (unless_halted (desk_part t n) (due_parts (going p.doings) r.due)) (all_of r.pops))
        (pop_parts old.lines n (unless_halted (desk_part t n) (due_parts p r.due)) (all_of r.pops)) end
        ended.all
        (λ i. pop_parts (lines i) n (unless_halted (desk_part t n) (due_parts (sym (going-of p ended.halts) i) r.due))
        (all_of r.pops)) r.ends in
        record {
          turns = record {
            due = r.due;
            are_due = subst (λ hs. AllZip IsPoppedHeld (due_parcels false hs) r.due) held r.are_due;
            pops = r.pops;
            are_pops = came-then halted old.links mid.links end.links r.pops none r.are;
            stands = e.stands;
            halts = e.halts;
          };
          limit = e.limit;
        };
    starves = λ s.
        turn-starves t old.lines n tick ds end
        (starves-later old.lines mid.lines (AreFromDues t mid.lines n p.doings) (IsCutTurnOf t old.lines n tick ds) t n
        ds p.doings did.more end (does ∙ did.all) lines
        (λ made r.
        cut-of t old.lines n tick ds did.more made (inr did.is)
        (subst (λ es. AreFromDues t old.lines n es made) (does ∙ did.all)
        (subst (λ ls. AreFromDues t ls n p.doings made) lines r))) s);
  }
    where
      p : Progress
      p = tick_part tick ds

      did : Ticks tick ds
      did = ticks tick ds

      does : p.doings ≡ tick_if tick ds
      does = tick-does tick ds ended.halts

  pub stop-tick : (tick : Bool) (new : StationState) → IsStationOf t n ds old → NoneTaken old.links new.links →
      TickEnds tick old new t n ds true → TurnEnds tick old new t n ds true
  stop-tick tick new is none ended = record {
    turns = record {
      due = found.due;
      are_due = found.are;
      pops = no_pops old.links;
      are_pops = none-came old.links new.links none;
      stands = e.stands;
      halts = e.halts;
    };
    limit = e.limit;
  }
    where
      p : Progress
      p = tick_part tick ds

      kept : (b : Bool) →
          AllByRecursion (IsHeldOf (map view_of old.links)) (cond b (map parcel_ticked old.held) old.held)
      kept true = kept-ticked (map view_of old.links) old.held is.stands.kept
      kept false = is.stands.kept

      found : Due (due_parcels tick old.held)
      found = due-popped (map view_of old.links) (cond tick (map parcel_ticked old.held) old.held) (kept tick)

      stuck : p ≡ unless_halted (desk_part t n) (due_parts p found.due)
      stuck =
          sym (dues-stuck found.due p ended.halts)
          ∙ sym (ap (λ b. cond b (due_parts p found.due) (desk_part t n (due_parts p found.due).doings))
          (ap (λ (x : Progress). x.halted) (dues-stuck found.due p ended.halts) ∙ ended.halts))

      e : EndsAs t n ds true
          (pop_parts old.lines n (unless_halted (desk_part t n) (due_parts p found.due)) (all_of (no_pops old.links)))
          new
      e =
          no-more t n ds old new (unless_halted (desk_part t n) (due_parts p found.due))
          (subst (λ x. EndsAs t n ds true x new) stuck ended)

-- Where memory was wanting

module _ (t : Network) (n : NodeId) (ds : List Doing) (old new : StationState) where
  pub starves-desk : desk_phase.starves old new t n ds → from_desk.starves old new t n ds
  starves-desk s =
      starves-as old.lines (AreFirstItems (length old.desk)) (AreFromDesk old.lines n (length old.desk)) t n ds new
      (from-items old.lines n (length old.desk)) s

  pub starves-due : IsStationOf t n ds old → due_phase.starves old new t n ds → from_dues.starves old new t n ds
  starves-due is s =
      starves-as old.lines (AreFirstDues (filter is_frame_due (map frame_of old.held))) (AreFromDues t old.lines n ds)
      t n ds
      new
      (λ made r.
      from-due t old.lines n ds made (subst (λ hs. AreFirstDues hs made) (ap (filter is_frame_due) is.stands.held) r)) s

  pub starves-tick : (tick : Bool) → (tick_phase tick).starves old new t n ds → (turn_phase tick).starves old new t n ds
  starves-tick tick s =
      turn-starves t old.lines n tick ds new
      (starves-as old.lines (λ made. made ≡ []) (IsCutTurnOf t old.lines n tick ds) t n ds new
      (λ made e. subst (IsCutTurnOf t old.lines n tick ds) (sym e)
      (cut-of t old.lines n tick ds [] [] (inl refl)
      (from-due t old.lines n (ds ++ []) [] (dues-none (due_in (ds ++ [])))))) s)
