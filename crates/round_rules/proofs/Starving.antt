-- A first part of a turn, part by part.
use Rattle.std.proofs.{Common.{◌≡◌, ◌≤◌, ◌^◌, ◌&&◌, nat_lt, inl, ℕ, Bool, true, false, cond, nat_le, List, [], ◌∷◌, ◌++◌, filter, length, map, refl, sym, ap, ◌∙◌, subst, arith, append_assoc, append-nil}, lemmas.List.Concat.flat_map-append, ByRecursion.All-append}
use Rattle.std.specs.List.{AllZip}
use Rattle.ason_base.specs.{declared.limits.TheConstants.MOST_EVENTS, declared.ids.NodeId.NodeId, declared.commands.Disturb.Disturb, Network.Network}
use Rattle.round_rules.specs.{Doings.{Doing, TickAsked}, Functions.{AreHeldAs, Popped, tick_if, with_ticked}, Halts.{IsCutTurnOf, MayTick}, Held.{HeldFrame, due_in, is_frame_due}, Limits.{going, halted_by, log_line_count, next_stamp, tick_part}, Takings.{AreTakings, IsTaking, Taking, all_doings, doings_of}, Turns.items_after, Stands.frame_of, Starts.{AreFirstDues, AreFirstItems, AreFirstTakings, AreFromDesk, AreFromDues, StarvesAs}, States.{IsStationOf, StationState}, Turned.{IsLast, IsPoppedHeld, StarvesTo, due_parcels}, declared.held.HeldParcel.HeldParcel}

-- more was done before
pub starves-later : (lines before : List Disturb) (Made Whole : List Doing → Type 0) (t : Network) (n : NodeId)
    (ds es more : List Doing) (new : StationState) → es ≡ ds ++ more → before ≡ lines →
    ((made : List Doing) → Made made → Whole (more ++ made)) → StarvesAs before Made t n es new →
    StarvesAs lines Whole t n ds new
starves-later lines before Made Whole t n ds es more new all same f s = record {
  made = more ++ s.made;
  last = s.last;
  is_made = f s.made s.is_made;
  is_last = subst (λ ls. IsLast ls n s.last) same s.is_last;
  stands = subst (λ xs. IsStationOf t n xs new) whole s.stands;
}
  where
    whole : es ++ (s.made ++ s.last) ≡ ds ++ ((more ++ s.made) ++ s.last)
    whole =
        ap (λ xs. xs ++ (s.made ++ s.last)) all ∙ append_assoc ds more (s.made ++ s.last)
        ∙ ap (λ xs. ds ++ xs) (sym (append_assoc more s.made s.last))

-- nothing more was
pub starves-as : (lines : List Disturb) (Made Whole : List Doing → Type 0) (t : Network) (n : NodeId)
    (ds : List Doing) (new : StationState) → ((made : List Doing) → Made made → Whole made) →
    StarvesAs lines Made t n ds new → StarvesAs lines Whole t n ds new
starves-as lines Made Whole t n ds new f s =
    record { made = s.made; last = s.last; is_made = f s.made s.is_made; is_last = s.is_last; stands = s.stands }

-- The parts

-- frames are taken before others
pub takings-then : (lines : List Disturb) (n : NodeId) (gs : List Taking) (ds : List Doing) → AreTakings lines n gs →
    AreFirstTakings lines n ds → AreFirstTakings lines n (all_doings gs ++ ds)
takings-then lines n gs ds are r = record {
  takings = gs ++ r.takings;
  all = ap (λ xs. all_doings gs ++ xs) r.all ∙ sym (flat_map-append doings_of gs r.takings);
  are = All-append (IsTaking lines n) gs r.takings are r.are;
}

pub takings-none : (lines : List Disturb) (n : NodeId) → AreFirstTakings lines n []
takings-none lines n = record { takings = []; all = refl; are = tt }

-- of these no frame is let go
pub dues-none : (due : List HeldFrame) → AreFirstDues due []
dues-none due = record { freed = []; kept = due; all = refl; are = refl }

-- items, and nothing then
pub from-items : (lines : List Disturb) (n : NodeId) (most : ℕ) (ds : List Doing) → AreFirstItems most ds →
    AreFromDesk lines n most ds
from-items lines n most ds is =
    record { items = ds; rest = []; all = sym (append-nil ds); handled = is; taken = takings-none lines n }

pub from-none : (lines : List Disturb) (n : NodeId) (most : ℕ) → AreFromDesk lines n most []
from-none lines n most = from-items lines n most [] (tt, omega arith)

-- frames that are due, and nothing then
pub from-due : (t : Network) (lines : List Disturb) (n : NodeId) (before ds : List Doing) →
    AreFirstDues (due_in before) ds → AreFromDues t lines n before ds
from-due t lines n before ds is = record {
  dues = ds;
  rest = [];
  all = sym (append-nil ds);
  freed = is;
  on = from-none lines n (items_after t n (before ++ ds));
}

-- all that are due are let go
pub all-due : (hs : List HeldParcel) (due : List Popped) → AllZip IsPoppedHeld (due_parcels false hs) due →
    AreHeldAs (filter is_frame_due (map frame_of hs)) due
all-due [] [] are = tt
all-due [] (p ∷ due) are = absurd are
all-due (h ∷ hs) due are = go (nat_le 2 h.ticks) due (λ ps all. all-due hs ps all) are
  where
    rest : List HeldFrame
    rest = filter is_frame_due (map frame_of hs)

    go : (b : Bool) (due : List Popped) →
        ((ps : List Popped) → AllZip IsPoppedHeld (due_parcels false hs) ps → AreHeldAs rest ps) →
        AllZip IsPoppedHeld (cond b (h ∷ due_parcels false hs) (due_parcels false hs)) due →
        AreHeldAs (cond b (frame_of h ∷ rest) rest) due
    go true [] f are = absurd are
    go true (p ∷ due) f are = ((sym are.0.from_it, sym are.0.number), f due are.1)
    go false due f are = f due are

-- a tick that doesn't halt is made where it is asked for
pub tick-does : (tick : Bool) (ds : List Doing) → (tick_part tick ds).halted ≡ false →
    (tick_part tick ds).doings ≡ tick_if tick ds
tick-does false ds e = refl
tick-does true ds e = go (nat_lt (log_line_count ds) MOST_EVENTS && nat_lt (next_stamp ds) (2 ^ 64)) e
  where
    go : (b : Bool) → (cond b (going (with_ticked ds)) (halted_by TickAsked ds)).halted ≡ false →
        (cond b (going (with_ticked ds)) (halted_by TickAsked ds)).doings ≡ with_ticked ds
    go true e = refl
    go false e = absurd (cc (e))

-- The whole

pub cut-of : (t : Network) (lines : List Disturb) (n : NodeId) (tick : Bool) (before ticks made : List Doing) →
    MayTick tick ticks → AreFromDues t lines n (before ++ ticks) made →
    IsCutTurnOf t lines n tick before (ticks ++ made)
cut-of t lines n tick before ticks made is r = record {
  ticks = ticks;
  dues = r.dues;
  items = r.on.items;
  takings = r.on.taken.takings;
  last = [];
  all =
      ap (λ xs. ticks ++ xs) (r.all ∙ ap (λ xs. r.dues ++ xs) (r.on.all
      ∙ ap (λ xs. r.on.items ++ xs) (r.on.taken.all ∙ sym (append-nil _))));
  is_tick = is;
  freed = r.freed.freed;
  kept = r.freed.kept;
  due = r.freed.all;
  are_due = r.freed.are;
  handled = r.on.handled.0;
  few =
      subst (λ ds. length r.on.items ≤ items_after t n ds) (append_assoc before ticks r.dues) r.on.handled.1;
  are_takings = r.on.taken.are;
  lacks = inl refl;
}

pub turn-starves : (t : Network) (lines : List Disturb) (n : NodeId) (tick : Bool) (ds : List Doing)
    (new : StationState) → StarvesAs lines (IsCutTurnOf t lines n tick ds) t n ds new →
    StarvesTo t lines n ds tick new
turn-starves t lines n tick ds new s =
    record { made = s.made; last = s.last; cut = s.is_made; is_last = s.is_last; stands = s.stands }
