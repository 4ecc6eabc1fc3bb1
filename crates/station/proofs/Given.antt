-- A frame that is taken and delivered once, however that ends.
use Rattle.std.proofs.Common.{◌≡◌, ◌+◌, inl, inr, refl, sym, ◌∙◌, subst, true, None}
use Rattle.std.specs.Prelude.{max, Ok, Err, OnOk, Result}
use Rattle.ason_base.specs.declared.commands.Event.TheVariants.{Deliver}
use Rattle.control_channels.specs.{declared.inputs.CoreInput.CoreInput, Controllers.IsUnambiguous}
use Rattle.round_rules.specs.{Lines.says, Entered.{HasEntered, me_of}, Moves.ArePeersApart, States.StationState}
use Rattle.station.specs.{declared.halts.Halt.Halt, declared.links.Ahead.Ahead, Entering.{Gives, is_able_for}, Leads.{GoesOnAt, IsMoving}, Rings.{GivesTwice, HasDelivered, HasLost, HasTakenAs, HasTakenAt}}
use Rattle.station.specs.declared.halts.Halt.TheVariants as halt
use Rattle.station.proofs.{Frames.{deliver-goes, lost-goes, takes-it}, Taking.{delivered-moves, lost-moves}}

-- it was delivered
pub delivered-of : (a : Ahead) (i : CoreInput) (old mid new : StationState) → HasTakenAs a i old mid →
    is_able_for a.head.stamp old ≡ true → Gives (Ok tt) a.head a.from i mid new → HasDelivered a i old new
delivered-of a i old mid new h able g = record {
  parcel = h.parcel;
  links = h.links;
  taken = h.taken;
  room = able;
  given = h.given;
  one = subst IsUnambiguous h.given g.1;
  entered =
      subst (λ x. HasEntered x (Deliver (me_of old) a.from h.parcel.number) (max old.clock h.parcel.stamp + 1)
      (record old { links = h.links }) new) h.given
      (subst
      (λ k. HasEntered i (Deliver (me_of old) a.from h.parcel.number) (max old.clock k + 1)
      (record old { links = h.links }) new) (sym h.taken.stamp)
      (subst
      (λ k. HasEntered i (Deliver (me_of old) a.from k) (max old.clock a.head.stamp + 1)
      (record old { links = h.links }) new) (sym h.taken.number)
      (subst (λ s. HasEntered i (Deliver (me_of s) a.from a.head.number) (max s.clock a.head.stamp + 1) s new) h.rest
      g.0)));
}

-- it was lost
pub lost-of-taken : (a : Ahead) (i : CoreInput) (old mid new : StationState) → HasTakenAs a i old mid → new ≡ mid →
    HasLost a old new
lost-of-taken a i old mid new h same =
    record { parcel = h.parcel; links = h.links; taken = h.taken; rest = same ∙ h.rest }

pub given-goes : (r : Result (Unit {0}) Halt) (a : Ahead) (i : CoreInput) (old mid new : StationState) →
    ArePeersApart old.links → HasTakenAs a i old mid → is_able_for a.head.stamp old ≡ true →
    Gives r a.head a.from i mid new → says old.lines a.from (me_of old) a.head.number ≡ None →
    GoesOnAt r a.place old new
given-goes (Ok x) a i old mid new apart h able g said =
    deliver-goes a old new apart i (delivered-of a i old mid new h able g) said
given-goes (Err halt.AtLimit) a i old mid new apart h able g said = absurd g
given-goes (Err halt.OutOfMemory) a i old mid new apart h able g said =
    lost-goes a None old new apart (inl refl) said (lost-of-taken a i old mid new h g)

pub given-taken : (r : Result (Unit {0}) Halt) (a : Ahead) (i : CoreInput) (old mid new : StationState) →
    ArePeersApart old.links → HasTakenAs a i old mid → is_able_for a.head.stamp old ≡ true →
    Gives r a.head a.from i mid new → OnOk r (HasTakenAt a.place old.links new.links)
given-taken (Ok x) a i old mid new apart h able g =
    let d = delivered-of a i old mid new h able g in
    record { from = a.from; parcel = d.parcel; takes = takes-it a old new apart i d }
given-taken (Err e) a i old mid new apart h able g = tt

pub given-moves : (r : Result (Unit {0}) Halt) (a : Ahead) (i : CoreInput) (old mid new : StationState) →
    ArePeersApart old.links → HasTakenAs a i old mid → is_able_for a.head.stamp old ≡ true →
    Gives r a.head a.from i mid new → IsMoving old new
given-moves (Ok x) a i old mid new apart h able g =
    delivered-moves a old new apart i (delivered-of a i old mid new h able g)
given-moves (Err halt.AtLimit) a i old mid new apart h able g = absurd g
given-moves (Err halt.OutOfMemory) a i old mid new apart h able g =
    lost-moves a old new (lost-of-taken a i old mid new h g)

-- The second time

-- it is lost the first time
pub first-lost : (e : Halt) (a : Ahead) (i : CoreInput) (old new : StationState) →
    Gives (Err e) a.head a.from i old new → GivesTwice (Err e) a i old new
first-lost halt.AtLimit a i old new g = absurd g
first-lost halt.OutOfMemory a i old new g = inl g

pub second-given : (r : Result (Unit {0}) Halt) (a : Ahead) (i : CoreInput) (old mid new : StationState) →
    Gives (Ok tt) a.head a.from i old mid → is_able_for a.head.stamp mid ≡ true → Gives r a.head a.from i mid new →
    GivesTwice r a i old new
second-given (Ok x) a i old mid new first able g = (mid, first, able, g)
second-given (Err halt.AtLimit) a i old mid new first able g = absurd g
second-given (Err halt.OutOfMemory) a i old mid new first able g =
    inr (subst (Gives (Ok tt) a.head a.from i old) (sym g) first)
