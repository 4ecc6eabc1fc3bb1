-- One item of the desk, and one frame that is due, before those that follow.
use Rattle.std.proofs.Common.{◌≡◌, ◌≤◌, ◌+◌, ℕ, zero, suc, Bool, true, false, cond, nat_le, List, [], ◌∷◌, ◌++◌, filter, length, map, refl, sym, ap, ◌∙◌, subst, arith, append_assoc}
use Rattle.std.specs.{Prelude.max, List.{AllByRecursion, AllZip}}
use Rattle.ason_base.specs.{declared.ids.NodeId.NodeId, declared.commands.DeskItem.DeskItem as Item, Network.Network}
use Rattle.world_merge.specs.Deeds.{Handled, Took}
use Rattle.round_rules.specs.{Doings.{DeskItem, Did, Doing, DueFrame, Freed, Waiting}, Functions.{Popped, clock_of, with_freed, with_handled}, Limits.{Progress, due_part, due_parts, going, halted_by, item_part, item_parts, next_stamp, stamp_for}, Held.{HeldFrame, is_frame_due}, Entered.able, Ends.{DeskEnds, DueEnds, EndsAs}, PartLimits.IsAtLimit, Phases.{desk_phase, due_phase}, Starts.{AreFirstDues, AreFirstItems}, Stands.{IsHeldOf, frame_of}, States.{IsStationOf, StationState}, Turned.{IsPoppedHeld, due_parcels}, declared.held.HeldParcel.HeldParcel}
use Rattle.round_rules.proofs.{Due.{Descends, descends-after}, PartEnding.{Across, able-is, ends-later, full-is, halted-ends, nothing-ends}, Starving.starves-later}
use Rattle.station_rings.specs.{Links.LinkView, LinkStates.view_of}

-- The desk

-- after a halt no item is handled
pub items-stuck : (k : ℕ) (p : Progress) → p.halted ≡ true → item_parts k p ≡ p
items-stuck zero p e = refl
items-stuck (suc k) p e = ap (item_parts k) (ap (λ b. cond b p (item_part p.doings)) e) ∙ items-stuck k p e

module _ (t : Network) (n : NodeId) (ds : List Doing) (old : StationState) (is : IsStationOf t n ds old) where
  clock_next : next_stamp ds ≡ old.clock + 1
  clock_next = ap (λ k. k + 1) (sym is.stands.clock)

  pub desk-step : (mid end : StationState) (i : Item) → able (length old.log) (old.clock + 1) ≡ true →
      old.desk ≡ i ∷ mid.desk → mid.lines ≡ old.lines → IsStationOf t n (with_handled ds) mid →
      Across desk_phase desk_phase old mid end t n ds
  desk-step mid end i on first lines stands = record {
    done = with_handled ds;
    more = _;
    all = refl;
    stands = stands;
    on = λ halted ends.
        ends-later t n ds (with_handled ds) _ halted (item_parts (length mid.desk) (going (with_handled ds))) _ end refl
        (ap (item_parts (length mid.desk))
        (sym (able-is t n ds old is DeskItem (next_stamp ds) (old.clock + 1) with_handled
        clock_next on)) ∙ sym (ap (λ items. item_parts (length items) (going ds)) first)) ends;
    starves =
        starves-later old.lines mid.lines (AreFirstItems (length mid.desk)) (AreFirstItems (length old.desk)) t n ds
        (with_handled ds) (Did (Handled (next_stamp ds)) ∷ []) end refl lines
        (λ made r. (((next_stamp ds, refl), r.0), omega (arith, ap length first, r.1)));
  }

  pub desk-halt : (i : Item) (rest : List Item) → able (length old.log) (old.clock + 1) ≡ false →
      old.desk ≡ i ∷ rest → IsAtLimit old → DeskEnds old old t n ds true
  desk-halt i rest full first limit =
      subst (λ p. EndsAs t n ds true p old)
      (sym (ap (λ items. item_parts (length items) (going ds)) first ∙ ap (item_parts (length rest)) halts
      ∙ items-stuck (length rest) (halted_by DeskItem ds) refl)) (halted-ends t n ds old is DeskItem limit)
    where
      halts : item_part ds ≡ halted_by DeskItem ds
      halts = full-is t n ds old is DeskItem (next_stamp ds) (old.clock + 1) with_handled clock_next full

  pub desk-none : old.desk ≡ [] → DeskEnds old old t n ds false
  desk-none none =
      subst (λ items. EndsAs t n ds false (item_parts (length items) (going ds)) old) (sym none)
      (nothing-ends t n ds old is)

-- Frames that are due

-- after a halt none is let go
pub dues-stuck : (due : List Popped) (p : Progress) → p.halted ≡ true → due_parts p due ≡ p
dues-stuck [] p e = refl
dues-stuck (x ∷ due) p e =
    ap (λ q. due_parts q due) (ap (λ b. cond b p (due_part p.doings x)) e) ∙ dues-stuck due p e

kept_filter : (P : HeldParcel → Type 0) (test : HeldParcel → Bool) (hs : List HeldParcel) → AllByRecursion P hs →
    AllByRecursion P (filter test hs)
kept_filter P test [] all = tt
kept_filter P test (h ∷ hs) all = go (test h) (kept_filter P test hs all.1)
  where
    go : (b : Bool) → AllByRecursion P (filter test hs) →
        AllByRecursion P (cond b (h ∷ filter test hs) (filter test hs))
    go true rest = (all.0, rest)
    go false rest = rest

abbrev pub is_due_parcel : HeldParcel → Bool
is_due_parcel h = nat_le 2 h.ticks

-- held frames as they are popped
pub record Due (hs : List HeldParcel) : Type 0 where
  pub due : List Popped
  pub are : AllZip IsPoppedHeld hs due

pub popped-held : (links : List LinkView) (h : HeldParcel) → IsHeldOf links h → (p : Popped) × IsPoppedHeld h p
popped-held links h is = (
  record { from = h.from; number = h.parcel.number; stamp = h.parcel.stamp; content = is.content },
  record { from_it = refl; number = refl; stamp = refl; spells = is.spells },
)

pub all-popped : (links : List LinkView) (hs : List HeldParcel) → AllByRecursion (IsHeldOf links) hs → Due hs
all-popped links [] all = record { due = []; are = tt }
all-popped links (h ∷ hs) all =
    let p = popped-held links h all.0 in
    let rest = all-popped links hs all.1 in
    record { due = p.0 ∷ rest.due; are = (p.1, rest.are) }

-- those of a list that are due
pub due-popped : (links : List LinkView) (hs : List HeldParcel) → AllByRecursion (IsHeldOf links) hs →
    Due (filter is_due_parcel hs)
due-popped links hs all = all-popped links (filter is_due_parcel hs) (kept_filter (IsHeldOf links) is_due_parcel hs all)

-- where the first isn't due none is
none_due : (h : HeldParcel) (hs : List HeldParcel) → is_due_parcel h ≡ false → Descends (map frame_of (h ∷ hs)) →
    filter is_due_parcel hs ≡ []
none_due h [] e down = refl
none_due h (k ∷ hs) e down =
    ap (λ b. cond b (k ∷ filter is_due_parcel hs) (filter is_due_parcel hs)) (less h.ticks k.ticks e down.0.0)
    ∙ none_due h hs e (down.0.1, down.1.1)
  where
    less : (a b : ℕ) → nat_le 2 a ≡ false → b ≤ a → nat_le 2 b ≡ false
    less a b e le = grind (arith, e, le)

due_first : (h : HeldParcel) (hs : List HeldParcel) → is_due_parcel h ≡ true →
    due_parcels false (h ∷ hs) ≡ h ∷ due_parcels false hs
due_first h hs e = ap (λ b. cond b (h ∷ filter is_due_parcel hs) (filter is_due_parcel hs)) e

abbrev frames_due : List HeldParcel → List HeldFrame
frames_due hs = filter is_frame_due (map frame_of hs)

frame_first : (h : HeldParcel) (hs : List HeldParcel) → is_due_parcel h ≡ true →
    frames_due (h ∷ hs) ≡ frame_of h ∷ frames_due hs
frame_first h hs e = ap (λ b. cond b (frame_of h ∷ frames_due hs) (frames_due hs)) e

module _ (t : Network) (n : NodeId) (ds : List Doing) (old : StationState) (is : IsStationOf t n ds old) where
  stamp_is : (h : HeldParcel) (p : Popped) → IsPoppedHeld h p →
      stamp_for p ds ≡ max old.clock h.parcel.stamp + 1
  stamp_is h p popped = λ i. max (sym is.stands.clock i) (popped.stamp i) + 1

  abbrev kept : AllByRecursion (IsHeldOf (map view_of old.links)) old.held
  kept = is.stands.kept

  -- the first is let go and delivered, whatever it bears
  pub due-step : (mid end : StationState) (h : HeldParcel) → old.held ≡ h ∷ mid.held → is_due_parcel h ≡ true →
      able (length old.log) (max old.clock h.parcel.stamp + 1) ≡ true →
      mid.lines ≡ old.lines → ((p : Popped) → IsPoppedHeld h p → IsStationOf t n (with_freed ds p) mid) →
      Across due_phase due_phase old mid end t n ds
  due-step mid end h first due on lines stands = record {
    done = with_freed ds p;
    more = _;
    all = append_assoc ds (Freed ∷ []) _;
    stands = stands p popped;
    on = λ halted r. record {
      due = p ∷ r.due;
      are =
          subst (λ hs. AllZip IsPoppedHeld hs (p ∷ r.due))
          (sym (ap (due_parcels false) first ∙ due_first h mid.held due)) (popped, r.are);
      ends =
          ends-later t n ds (with_freed ds p) _ halted (due_parts (going (with_freed ds p)) r.due) _ end
          (append_assoc ds (Freed ∷ []) _)
          (ap (λ q. due_parts q r.due) (sym (able-is t n ds old is (DueFrame p.from p.number) (stamp_for p ds)
          (max old.clock h.parcel.stamp + 1) (λ ks. with_freed ks p) (stamp_is h p popped) on))) r.ends;
    };
    starves =
        starves-later old.lines mid.lines (AreFirstDues (frames_due mid.held)) (AreFirstDues (frames_due old.held)) t n
        ds (with_freed ds p) (Freed ∷ Did (Took stamp p.from p.number p.content) ∷ []) end
        (append_assoc ds (Freed ∷ []) _) lines
        (λ made r. record {
          freed = frame_of h ∷ r.freed;
          kept = r.kept;
          all =
              ap frames_due first ∙ frame_first h mid.held due ∙ ap (λ hs. frame_of h ∷ hs) r.all;
          are = (
            stamp,
            p.content,
            made,
            λ i. Freed ∷ Did (Took stamp (popped.from_it i) (popped.number i) p.content) ∷ made,
            r.are,
          );
        });
  }
    where
      found : (p : Popped) × IsPoppedHeld h p
      found =
          popped-held (map view_of old.links) h
          (subst (AllByRecursion (IsHeldOf (map view_of old.links))) first kept).0

      p : Popped
      p = found.0

      popped : IsPoppedHeld h p
      popped = found.1

      stamp : ℕ
      stamp = max (clock_of (ds ++ Freed ∷ [])) p.stamp + 1

  pub due-halt : (h : HeldParcel) (rest : List HeldParcel) → old.held ≡ h ∷ rest → is_due_parcel h ≡ true →
      able (length old.log) (max old.clock h.parcel.stamp + 1) ≡ false → IsAtLimit old → DueEnds old old t n ds true
  due-halt h rest first due full limit = record {
    due = found.0 ∷ later.due;
    are =
        subst (λ hs. AllZip IsPoppedHeld hs (found.0 ∷ later.due))
        (sym (ap (due_parcels false) first ∙ due_first h rest due)) (found.1, later.are);
    ends =
        subst (λ p. EndsAs t n ds true p old)
        (sym (ap (λ q. due_parts q later.due) halts ∙ dues-stuck later.due (halted_by w ds) refl))
        (halted-ends t n ds old is w limit);
  }
    where
      all : AllByRecursion (IsHeldOf (map view_of old.links)) (h ∷ rest)
      all = subst (AllByRecursion (IsHeldOf (map view_of old.links))) first kept

      found : (p : Popped) × IsPoppedHeld h p
      found = popped-held (map view_of old.links) h all.0

      later : Due (filter is_due_parcel rest)
      later = due-popped (map view_of old.links) rest all.1

      w : Waiting
      w = DueFrame found.0.from found.0.number

      halts : due_part ds found.0 ≡ halted_by w ds
      halts =
          full-is t n ds old is w (stamp_for found.0 ds) (max old.clock h.parcel.stamp + 1)
          (λ ks. with_freed ks found.0)
          (stamp_is h found.0 found.1) full

  abbrev Nothing : List HeldParcel → Type 0
  Nothing hs = due_parcels false hs ≡ []

  -- none is held, or the first isn't due
  pub due-none : Nothing old.held → DueEnds old old t n ds false
  due-none none = record {
    due = [];
    are = subst (λ hs. AllZip IsPoppedHeld hs []) (sym none) tt;
    ends = nothing-ends t n ds old is;
  }

  pub due-empty : old.held ≡ [] → DueEnds old old t n ds false
  due-empty none = due-none (ap (due_parcels false) none)

  pub due-later : (h : HeldParcel) (rest : List HeldParcel) → old.held ≡ h ∷ rest → is_due_parcel h ≡ false →
      DueEnds old old t n ds false
  due-later h rest first e =
      due-none (ap (due_parcels false) first
      ∙ ap (λ b. cond b (h ∷ filter is_due_parcel rest) (filter is_due_parcel rest)) e ∙ none_due h rest e down)
    where
      down : Descends (map frame_of (h ∷ rest))
      down =
          subst (λ hs. Descends (map frame_of hs)) first
          (subst Descends (sym is.stands.held) (descends-after ds [] tt))
