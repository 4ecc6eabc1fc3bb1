-- A frame that is taken and delivered twice.
use Rattle.std.proofs.Common.{◌≡◌, ◌+◌, true, false, List, [], ◌∷◌, ◌++◌, length, map, sym, ap, ◌∙◌, subst, append_assoc, inl, inr, refl}
use Rattle.std.specs.Prelude.{max, Some, Ok, Err, OnOk, Result}
use Rattle.ason_base.specs.{declared.commands.DisturbKind.TheVariants.Repeat, declared.commands.Event.TheVariants.Deliver, declared.ids.NodeId.NodeId, Network.Network}
use Rattle.control_channels.specs.declared.inputs.CoreInput.{CoreInput}
use Rattle.control_channels.specs.declared.inputs.CoreInput.TheVariants as input
use Rattle.round_rules.specs.{Doings.{Did, Doing, Got, Lost, RingFrame}, Functions.{Popped, clock_of, with_delivered, got}, Limits.{delivery_part, pop_part, stamp_for, unless_halted}, Lines.says, Ends.EndsAs, Phases.ring_phase, Turned.RepeatLost, Entered.{HasEntered, able, me_of}, Moves.{ArePeersApart, TakesAt}, Stands.CameFrom, States.{IsStationOf, StationState}}
use Rattle.station_rings.specs.LinkStates.{view_of}
use Rattle.world_merge.specs.Deeds.{Took}
use Rattle.round_rules.proofs.{PartEnding.{able-is, ends-later, full-is, halted-ends}, Keeping.kept-sending, Parting.delivery-of, Places.{nones-sent, takes-none}, RingSteps.{ring-half, ring-step}, Starving.takings-none, Taking.views-sent}
use Rattle.station.specs.{declared.halts.Halt.Halt, declared.links.Ahead.Ahead, Entering.is_able_for, Leads.{GoesOnAt, IsMoving}, Rings.{GivesTwice, HasDelivered, HasTakenAs, HasTakenAt}}
use Rattle.station.specs.declared.halts.Halt.TheVariants as halt
use Rattle.station.proofs.{Given.{delivered-of, lost-of-taken}, Frames.{bears_it, came-after, first-delivery, it, lost-goes, lost-of, popped-is, repeat-not-held, says-it, takes-first, takes-it}, Leading.goes-across, Staying.frame-limit, Stepping.sending-entered, Taking.{delivered-moves, delivered-on, lost-moves, moving-sends}}

module _ (a : Ahead) (old mid : StationState) (apart : ArePeersApart old.links) (i : CoreInput)
    (h : HasDelivered a i old mid) (said : says old.lines a.from (me_of old) a.head.number ≡ Some Repeat) where
  abbrev p : Popped
  p = it a old mid apart i h

  abbrev once : List Doing → List Doing
  once ds = with_delivered (got ds p (Some Repeat)) p

  abbrev both_doings : List Doing → List Doing
  both_doings ds =
      Got p.from p.number (Some Repeat)
      ∷ Did (Took (max (clock_of (got ds p (Some Repeat))) p.stamp + 1) p.from p.number p.content) ∷ []

  abbrev again : List Doing → List Doing
  again ds = Did (Took (max (clock_of (once ds)) p.stamp + 1) p.from p.number p.content) ∷ []

  once_more : (ds : List Doing) → once ds ≡ ds ++ both_doings ds
  once_more ds = append_assoc ds (Got p.from p.number (Some Repeat) ∷ []) _

  first : (t : Network) (n : NodeId) (ds : List Doing) → IsStationOf t n ds old → IsStationOf t n (once ds) mid
  first t n ds is = first-delivery a old mid apart i h (Some Repeat) t n ds is repeat-not-held

  -- it came over its link, and stays so
  came : (t : Network) (n : NodeId) (ds : List Doing) → IsStationOf t n ds old →
      CameFrom (map view_of mid.links) a.from h.parcel
  came t n ds is =
      (kept-sending (max old.clock h.parcel.stamp + 1) h.entered.frames (map view_of h.links) (map view_of mid.links)
      (record { from = a.from; parcel = h.parcel; ticks = 0 } ∷ [])
      (views-sent (max old.clock h.parcel.stamp + 1) h.entered.frames h.links mid.links h.entered.links)
      (came-after a.from h.parcel a.place ds old.links h.links is.taken h.taken.taken, tt)).0

  part : (t : Network) (n : NodeId) (ds : List Doing) → IsStationOf t n ds old →
      pop_part (says old.lines p.from n p.number) ds p ≡ delivery_part p (once ds)
  part t n ds is =
      ap (λ o. pop_part o ds p)
      (says-it t n ds old a.from h.parcel.number a.head.number (Some Repeat) is h.taken.number said)
      ∙ ap (unless_halted (delivery_part p)) (takes-first a old mid apart i h (Some Repeat) t n ds is)

  stamp_is : (t : Network) (n : NodeId) (ds : List Doing) → IsStationOf t n ds old →
      stamp_for p (once ds) ≡ max mid.clock a.head.stamp + 1
  stamp_is t n ds is = λ j. max (sym (first t n ds is).stands.clock j) (h.taken.stamp j) + 1

  -- the second delivery is left
  pub half-goes : able (length mid.log) (max mid.clock a.head.stamp + 1) ≡ false →
      GoesOnAt (Err halt.AtLimit) a.place old mid
  half-goes full before t n ds is =
      ring-half t n ds a.place old before mid a.from h.parcel p
      (popped-is a.from h.parcel (bears_it a old mid apart i h))
      (takes-it a old mid apart i h)
      (ends-later t n ds (once ds) _ true (delivery_part p (once ds)) _ mid (once_more ds) (sym (part t n ds is))
      (subst (λ x. EndsAs t n (once ds) true x mid)
      (sym (full-is t n (once ds) mid (first t n ds is) (RingFrame p.from p.number) (stamp_for p (once ds))
      (max mid.clock a.head.stamp + 1) (λ ks. with_delivered ks p) (stamp_is t n ds is) full))
      (halted-ends t n (once ds) mid (first t n ds is) (RingFrame p.from p.number)
      (frame-limit mid a.from h.parcel (came t n ds is)
      (ap (λ k. able (length mid.log) (max mid.clock k + 1)) h.taken.stamp ∙ full)))))

  -- it is lost before its second delivery
  pub lost-half : GoesOnAt (Err halt.OutOfMemory) a.place old mid
  lost-half before t n ds is = record {
    made = [];
    last = both_doings ds ++ Lost a.from h.parcel.number ∷ [];
    is_made = takings-none old.lines n;
    is_last =
        RepeatLost a.from h.parcel.number _ p.content
        (says-it t n ds old a.from h.parcel.number a.head.number (Some Repeat) is h.taken.number said);
    stands =
        lost-of t n ds (both_doings ds) mid a.from h.parcel.number
        (subst (λ es. IsStationOf t n es mid) (once_more ds) (first t n ds is));
  }

  -- both
  pub repeat-goes : (new : StationState) → able (length mid.log) (max mid.clock a.head.stamp + 1) ≡ true →
      HasEntered i (Deliver (me_of mid) a.from a.head.number) (max mid.clock a.head.stamp + 1) mid new →
      GoesOnAt (Ok tt) a.place old new
  repeat-goes new room r =
      λ before.
      goes-across (ring_phase before a.place) old new
      (λ end t n ds is.
      ring-step t n ds a.place old before new end a.from h.parcel p (with_delivered (once ds) p)
      (both_doings ds ++ again ds)
      (popped-is a.from h.parcel (bears_it a old mid apart i h)) takes (r.lines ∙ h.entered.lines)
      (part t n ds is
      ∙ able-is t n (once ds) mid (first t n ds is) (RingFrame p.from p.number) (stamp_for p (once ds))
      (max mid.clock a.head.stamp + 1) (λ ks. with_delivered ks p) (stamp_is t n ds is) room)
      (ap (λ es. es ++ again ds) (once_more ds) ∙ append_assoc ds (both_doings ds) (again ds))
      (delivery-of t n (once ds) a.from h.parcel p mid new (first t n ds is) (came t n ds is)
      (popped-is a.from h.parcel (bears_it a old mid apart i h)) h.one second))
    where
      takes : TakesAt a.from h.parcel a.place old.links new.links
      takes = takes-none a.from h.parcel a.place old.links mid.links new.links (takes-it a old mid apart i h)
          (nones-sent (max mid.clock a.head.stamp + 1) r.frames mid.links new.links r.links)

      second : HasEntered (input.Frame a.from h.parcel.frame) (Deliver (me_of mid) a.from h.parcel.number)
          (max mid.clock h.parcel.stamp + 1) mid new
      second =
          subst (λ x. HasEntered x (Deliver (me_of mid) a.from h.parcel.number) (max mid.clock h.parcel.stamp + 1) mid
          new) h.given
          (subst (λ k. HasEntered i (Deliver (me_of mid) a.from h.parcel.number) (max mid.clock k + 1) mid new)
          (sym h.taken.stamp)
          (subst (λ k. HasEntered i (Deliver (me_of mid) a.from k) (max mid.clock a.head.stamp + 1) mid new)
          (sym h.taken.number) r))

-- However it ends

pub twice-goes : (r : Result (Unit {0}) Halt) (a : Ahead) (i : CoreInput) (old mid new : StationState) →
    ArePeersApart old.links → HasTakenAs a i old mid → is_able_for a.head.stamp old ≡ true →
    GivesTwice r a i mid new → says old.lines a.from (me_of old) a.head.number ≡ Some Repeat →
    GoesOnAt r a.place old new
twice-goes (Ok x) a i old mid new apart h able g said =
    repeat-goes a old g.0 apart i (delivered-of a i old mid g.0 h able g.1) said new g.2 g.3.0
twice-goes (Err halt.AtLimit) a i old mid new apart h able g said =
    half-goes a old new apart i (delivered-of a i old mid new h able g.0) said g.1
twice-goes (Err halt.OutOfMemory) a i old mid new apart h able g said = elim g [
  | inl same ↦ lost-goes a (Some Repeat) old new apart (inr refl) said (lost-of-taken a i old mid new h same)
  | inr first ↦ lost-half a old new apart i (delivered-of a i old mid new h able first) said
]

pub twice-taken : (r : Result (Unit {0}) Halt) (a : Ahead) (i : CoreInput) (old mid new : StationState) →
    ArePeersApart old.links → HasTakenAs a i old mid → is_able_for a.head.stamp old ≡ true →
    GivesTwice r a i mid new → OnOk r (HasTakenAt a.place old.links new.links)
twice-taken (Ok x) a i old mid new apart h able g =
    delivered-on a old g.0 new apart i (delivered-of a i old mid g.0 h able g.1) (sending-entered _ _ _ _ _ g.3.0)
twice-taken (Err e) a i old mid new apart h able g = tt

pub twice-moves : (r : Result (Unit {0}) Halt) (a : Ahead) (i : CoreInput) (old mid new : StationState) →
    ArePeersApart old.links → HasTakenAs a i old mid → is_able_for a.head.stamp old ≡ true →
    GivesTwice r a i mid new → IsMoving old new
twice-moves (Ok x) a i old mid new apart h able g =
    moving-sends old g.0 new (delivered-moves a old g.0 apart i (delivered-of a i old mid g.0 h able g.1))
    (sending-entered _ _ _ _ _ g.3.0)
twice-moves (Err halt.AtLimit) a i old mid new apart h able g =
    delivered-moves a old new apart i (delivered-of a i old mid new h able g.0)
twice-moves (Err halt.OutOfMemory) a i old mid new apart h able g = elim g [
  | inl same ↦ lost-moves a old new (lost-of-taken a i old mid new h same)
  | inr first ↦ delivered-moves a old new apart i (delivered-of a i old mid new h able first)
]
