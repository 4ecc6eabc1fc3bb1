-- One frame that is due, however it ends.
use Rattle.std.proofs.Common.{◌≡◌, ◌<◌, ◌+◌, ℕ, true, false, List, [], ◌∷◌, ◌++◌, drop, filter, get_or, length, map, refl, sym, ap, ◌∙◌, arith, subst}
use Rattle.std.specs.{Prelude.{max, Ok, Err, OnOk, Result}, List.{AllByRecursion, remove}}
use Rattle.ason_base.specs.{declared.commands.Event.Event, declared.commands.Event.TheVariants.Deliver}
use Rattle.wire_buf.specs.Codecs.{HasOneMeaning}
use Rattle.flood.specs.Frames.{IsFrame}
use Rattle.control_channels.specs.declared.inputs.CoreInput.{CoreInput}
use Rattle.control_channels.specs.declared.inputs.CoreInput.TheVariants as input
use Rattle.round_rules.specs.{Doings.{Freed, Lost}, Held.is_frame_due, Ends.DueEnds, Entered.{HasEntered, able, me_of}, Stands.{IsHeldOf, frame_of}, States.{IsStationOf, StationState}, Phases.due_phase, Turned.HeldLost, declared.held.HeldParcel.HeldParcel}
use Rattle.station_rings.specs.LinkStates.{view_of}
use Rattle.round_rules.proofs.{Parting.{delivery-of, free-of}, Starving.dues-none, Steps.{due-empty, due-halt, due-later, due-step, is_due_parcel}}
use Rattle.station.specs.{Dues.is_first_due, declared.halts.Halt.Halt, Entering.{Enters, Gives, is_able_for}, Leads.{StationGoesOn, StationLeads}}
use Rattle.station.specs.declared.halts.Halt.TheVariants as halt
use Rattle.station.proofs.{Frames.lost-of, Leading.goes-across, Staying.frame-limit, Stepping.fewer-by}

first_of : (old : StationState) (h : HeldParcel) (rest : List HeldParcel) → old.held ≡ h ∷ rest →
    AllByRecursion (IsHeldOf (map view_of old.links)) old.held → IsHeldOf (map view_of old.links) h
first_of old h rest first kept = (subst (AllByRecursion (IsHeldOf (map view_of old.links))) first kept).0

pub due-goes : (old new : StationState) (h : HeldParcel) (rest : List HeldParcel) → old.held ≡ h ∷ rest →
    is_due_parcel h ≡ true → able (length old.log) (max old.clock h.parcel.stamp + 1) ≡ true →
    HasOneMeaning (IsFrame h.parcel.frame) →
    HasEntered (input.Frame h.from h.parcel.frame) (Deliver (me_of old) h.from h.parcel.number)
    (max old.clock h.parcel.stamp + 1) (record old { held = rest }) new → StationGoesOn (Ok tt) due_phase old new
due-goes old new h rest first due on one r =
    goes-across due_phase old new
    (λ end t n ds is.
    due-step t n ds old is new end h (first ∙ ap (λ hs. h ∷ hs) (sym r.held)) due on r.lines
    (λ p popped.
    delivery-of t n (ds ++ Freed ∷ []) h.from h.parcel p (record old { held = rest }) new
    (free-of t n ds old rest is (sym (ap (drop 1) first))) (first_of old h rest first is.stands.kept) popped one r))

pub due-full : (old : StationState) (h : HeldParcel) (rest : List HeldParcel) → old.held ≡ h ∷ rest →
    is_due_parcel h ≡ true → able (length old.log) (max old.clock h.parcel.stamp + 1) ≡ false →
    StationGoesOn (Err halt.AtLimit) due_phase old old
due-full old h rest first due full t n ds is =
    due-halt t n ds old is h rest first due full
    (frame-limit old h.from h.parcel (first_of old h rest first is.stands.kept) full)

-- it is lost for want of memory
pub due-lost : (old new : StationState) (h : HeldParcel) (rest : List HeldParcel) → old.held ≡ h ∷ rest →
    new ≡ record old { held = rest } → StationGoesOn (Err halt.OutOfMemory) due_phase old new
due-lost old new h rest first e t n ds is = record {
  made = [];
  last = Freed ∷ Lost h.from h.parcel.number ∷ [];
  is_made = dues-none (filter is_frame_due (map frame_of old.held));
  is_last = HeldLost h.from h.parcel.number;
  stands =
      subst (IsStationOf t n (ds ++ Freed ∷ Lost h.from h.parcel.number ∷ [])) (sym e)
      (lost-of t n ds (Freed ∷ []) (record old { held = rest }) h.from h.parcel.number
      (free-of t n ds old rest is (sym (ap (drop 1) first))));
}

-- one is held less
pub given-fewer : (r : Result (Unit {0}) Halt) (i : CoreInput) (e : Event) (stamp : ℕ) (old new : StationState)
    (hs : List HeldParcel) (h : HeldParcel) → hs ≡ h ∷ old.held → Enters r i e stamp old new →
    OnOk r (length new.held < length hs)
given-fewer (Ok x) i e stamp old new hs h first g =
    fewer-by (length new.held) (length old.held) (length hs) (ap length g.0.held) (ap length first)
given-fewer (Err x) i e stamp old new hs h first g = tt

-- however it ends
pub due-given : (r : Result (Unit {0}) Halt) (old new : StationState) (h : HeldParcel) (rest : List HeldParcel) →
    old.held ≡ h ∷ rest → is_due_parcel h ≡ true → is_able_for h.parcel.stamp old ≡ true →
    Gives r (record { number = h.parcel.number; stamp = h.parcel.stamp }) h.from (input.Frame h.from h.parcel.frame)
    (record old { held = rest }) new → StationGoesOn r due_phase old new
due-given (Ok x) old new h rest first due on g = due-goes old new h rest first due on g.1 g.0
due-given (Err halt.AtLimit) old new h rest first due on g = absurd g
due-given (Err halt.OutOfMemory) old new h rest first due on g = due-lost old new h rest first g

-- Held parcels

-- the first is due
pub record FirstDue (hs : List HeldParcel) : Type 0 where
  pub first : HeldParcel
  pub rest : List HeldParcel
  pub is : hs ≡ first ∷ rest
  pub due : is_due_parcel first ≡ true

pub first-due : (hs : List HeldParcel) → is_first_due hs ≡ true → FirstDue hs
first-due [] e = absurd (cc (e))
first-due (h ∷ hs) e = record { first = h; rest = hs; is = refl; due = e }

-- none is, or the first isn't due
pub due-ends : (s : StationState) → is_first_due s.held ≡ false → StationLeads (Ok tt) due_phase s s
due-ends s e t n ds is = go s.held refl e
  where
    go : (hs : List HeldParcel) → s.held ≡ hs → is_first_due hs ≡ false → DueEnds s s t n ds false
    go [] first e = due-empty t n ds s is first
    go (h ∷ hs) first e = due-later t n ds s is h hs first e

-- what was taken off is the first
pub removed : {X : Type 0} (xs now : List X) (x : X) → 0 < length xs → x ≡ get_or xs 0 x → now ≡ remove xs 0 →
    xs ≡ x ∷ now
removed [] now x h first rest = absurd (omega (arith, h))
removed (y ∷ xs) now x h first rest = λ i. sym first i ∷ sym rest i

pub some-due : (hs : List HeldParcel) → is_first_due hs ≡ true → 0 < length hs
some-due [] e = absurd (cc (e))
some-due (h ∷ hs) e = omega arith
