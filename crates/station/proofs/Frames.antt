-- A frame that is taken, before those that follow.
use Rattle.std.proofs.Common.{◌≡◌, ◌≢◌, ◌+◌, ◌⊎◌, inl, inr, ℕ, zero, suc, List, [], ◌∷◌, ◌++◌, map, refl, sym, ap, ◌∙◌, subst, append_assoc}
use Rattle.std.specs.{Prelude.{max, Option, Some, None, Ok, Err}, List.AllByRecursion}
use Rattle.ason_base.specs.{declared.commands.DisturbKind.DisturbKind, declared.commands.DisturbKind.TheVariants.{Lose, Repeat, Hold}, declared.ids.NodeId.NodeId, Network.Network}
use Rattle.control_channels.specs.declared.inputs.CoreInput.{CoreInput}
use Rattle.round_rules.specs.{Doings.{Doing, Got, Lost, RingFrame}, Functions.{Popped, with_delivered, got}, Limits.{going, pop_part, stamp_for, taking_part}, Lines.says, Phases.ring_phase, Entered.me_of, Moves.{ArePeersApart, IsChangedAt, IsTakenOf, TakesAt}, Stands.CameFrom, States.{IsStationOf, IsTakenFrom, StationState}, Turned.{IsPoppedAs, PopLost}}
use Rattle.station_rings.specs.{declared.parcel.Parcel.Parcel, LinkStates.{IsBearing, LinkState, view_of}}
use Rattle.round_rules.proofs.{PartEnding.able-is, Parting.{delivery-of, here, hold-of, lose-of, taken-of}, Places.{nones-sent, takes-at, takes-none}, RingSteps.ring-step, Starving.takings-none, Taking.{came-from, views-taken}}
use Rattle.station.specs.declared.halts.Halt.TheVariants as halt
use Rattle.station.specs.{declared.links.Ahead.Ahead, Leads.GoesOnAt, Rings.{HasDelivered, HasLost, HasTaken}}
use Rattle.station.proofs.Leading.{goes-across}

-- What it bears

pub taken-bears : (u : NodeId) (q : Parcel) (i : ℕ) (links after : List LinkState) →
    IsChangedAt (IsTakenOf u q) i links after → IsBearing q
taken-bears u q i [] after is = absurd is
taken-bears u q i (l ∷ links) [] is = absurd is
taken-bears u q zero (l ∷ links) (m ∷ after) is = is.0.taken.bears
taken-bears u q (suc i) (l ∷ links) (m ∷ after) is = taken-bears u q i links after is.1

abbrev pub popped_parcel : NodeId → (q : Parcel) → IsBearing q → Popped
popped_parcel u q bears = record { from = u; number = q.number; stamp = q.stamp; content = bears.0 }

pub popped-is : (u : NodeId) (q : Parcel) (bears : IsBearing q) → IsPoppedAs u q (popped_parcel u q bears)
popped-is u q bears = record { from_it = refl; number = refl; stamp = refl; spells = bears.1 }

-- what the last line says of the frame at hand, to its node
pub says-it : (t : Network) (n : NodeId) (ds : List Doing) (old : StationState) (u : NodeId) (k j : ℕ)
    (o : Option DisturbKind) → IsStationOf t n ds old → k ≡ j → says old.lines u (me_of old) j ≡ o →
    says old.lines u n k ≡ o
says-it t n ds old u k j o is same said =
    (λ i. says old.lines u (sym (here t n ds old is) i) (same i)) ∙ said

-- a frame that is to be delivered now
abbrev pub IsDeliveredNow : Option DisturbKind → Type 0
IsDeliveredNow o = (o ≡ None) ⊎ (o ≡ Some Repeat)

lose_not_held : Some Lose ≢ Some Hold
lose_not_held e = absurd (cc (e))

none_not_held : None ≢ Some Hold
none_not_held e = absurd (cc (e))

pub repeat-not-held : Some Repeat ≢ Some Hold
repeat-not-held e = absurd (cc (e))

-- A frame that isn't delivered now

pub lose-goes : (a : Ahead) (q : Parcel) (old : StationState) (links : List LinkState) → ArePeersApart old.links →
    HasTaken a q old links → says old.lines a.from (me_of old) a.head.number ≡ Some Lose →
    GoesOnAt (Ok tt) a.place old (record old { links = links })
lose-goes a q old links apart h said =
    λ first.
    goes-across (ring_phase first a.place) old (record old { links = links })
    (λ end t n ds is.
    ring-step t n ds a.place old first (record old { links = links }) end a.from q p (got ds p (Some Lose)) _
    (popped-is a.from q bears) (takes-at a.from q a.place old.links links h.taken) refl
    (ap (λ o. pop_part o ds p) (says-it t n ds old a.from q.number a.head.number (Some Lose) is h.number said)) refl
    (taken-of t n ds a.from q p (Some Lose) a.place old links is lose_not_held apart h.taken
    (popped-is a.from q bears)))
  where
    bears : IsBearing q
    bears = taken-bears a.from q a.place old.links links h.taken

    p : Popped
    p = popped_parcel a.from q bears

pub hold-goes : (a : Ahead) (q : Parcel) (old : StationState) (links : List LinkState) → ArePeersApart old.links →
    HasTaken a q old links → says old.lines a.from (me_of old) a.head.number ≡ Some Hold →
    GoesOnAt (Ok tt) a.place old
    (record old { links = links; held = old.held ++ record { from = a.from; parcel = q; ticks = 0 } ∷ [] })
hold-goes a q old links apart h said =
    λ first.
    goes-across (ring_phase first a.place) old mid
    (λ end t n ds is.
    ring-step t n ds a.place old first mid end a.from q p (got ds p (Some Hold)) _ (popped-is a.from q bears)
    (takes-at a.from q a.place old.links links h.taken) refl
    (ap (λ o. pop_part o ds p) (says-it t n ds old a.from q.number a.head.number (Some Hold) is h.number said)) refl
    (hold-of t n ds a.from q p a.place old links is apart h.taken (popped-is a.from q bears)))
  where
    bears : IsBearing q
    bears = taken-bears a.from q a.place old.links links h.taken

    p : Popped
    p = popped_parcel a.from q bears

    mid : StationState
    mid = record old { links = links; held = old.held ++ record { from = a.from; parcel = q; ticks = 0 } ∷ [] }

-- A frame that is delivered

-- it came over its link
pub came-after : (u : NodeId) (q : Parcel) (i : ℕ) (ds : List Doing) (links after : List LinkState) →
    AllByRecursion (IsTakenFrom ds) links → IsChangedAt (IsTakenOf u q) i links after →
    CameFrom (map view_of after) u q
came-after u q i ds links after all is =
    subst (λ vs. CameFrom vs u q) (sym (views-taken u q i links after is)) (came-from ds u q i links after all is)

module _ (a : Ahead) (old new : StationState) (apart : ArePeersApart old.links) where
  -- once
  pub delivered-once : (q : Parcel) (links : List LinkState) (bears : IsBearing q) (o : Option DisturbKind)
      (t : Network) (n : NodeId) (ds : List Doing) → IsStationOf t n ds old → o ≢ Some Hold →
      HasTaken a q old links → IsStationOf t n (got ds (popped_parcel a.from q bears) o) (record old { links = links })
  delivered-once q links bears o t n ds is not h =
      taken-of t n ds a.from q (popped_parcel a.from q bears) o a.place old links is not apart h.taken
      (popped-is a.from q bears)

  module _ (i : CoreInput) (h : HasDelivered a i old new) where
    abbrev pub bears_it : IsBearing h.parcel
    bears_it = taken-bears a.from h.parcel a.place old.links h.links h.taken.taken

    abbrev pub it : Popped
    it = popped_parcel a.from h.parcel bears_it

    pub first-delivery : (o : Option DisturbKind) (t : Network) (n : NodeId) (ds : List Doing) →
        IsStationOf t n ds old → o ≢ Some Hold → IsStationOf t n (with_delivered (got ds it o) it) new
    first-delivery o t n ds is not =
        delivery-of t n (got ds it o) a.from h.parcel it (record old { links = h.links }) new
        (delivered-once h.parcel h.links bears_it o t n ds is not h.taken)
        (came-after a.from h.parcel a.place ds old.links h.links is.taken h.taken.taken)
        (popped-is a.from h.parcel bears_it) h.one h.entered

    stamp_is : (t : Network) (n : NodeId) (ds : List Doing) → IsStationOf t n ds old →
        stamp_for it ds ≡ max old.clock a.head.stamp + 1
    stamp_is t n ds is = λ j. max (sym is.stands.clock j) (h.taken.stamp j) + 1

    pub takes-it : TakesAt a.from h.parcel a.place old.links new.links
    takes-it =
        takes-none a.from h.parcel a.place old.links h.links new.links
        (takes-at a.from h.parcel a.place old.links h.links h.taken.taken)
        (nones-sent (max old.clock h.parcel.stamp + 1) h.entered.frames h.links new.links h.entered.links)

    -- what is done with it first
    pub takes-first : (o : Option DisturbKind) (t : Network) (n : NodeId) (ds : List Doing) → IsStationOf t n ds old →
        taking_part o it ds ≡ going (with_delivered (got ds it o) it)
    takes-first o t n ds is =
        able-is t n ds old is (RingFrame it.from it.number) (stamp_for it ds) (max old.clock a.head.stamp + 1)
        (λ ks. with_delivered (got ks it o) it) (stamp_is t n ds is) h.room

    pub deliver-goes : says old.lines a.from (me_of old) a.head.number ≡ None →
        GoesOnAt (Ok tt) a.place old new
    deliver-goes said =
        λ first.
        goes-across (ring_phase first a.place) old new
        (λ end t n ds is.
        ring-step t n ds a.place old first new end a.from h.parcel it (with_delivered (got ds it None) it) _
        (popped-is a.from h.parcel bears_it) takes-it h.entered.lines
        (ap (λ o. pop_part o ds it)
        (says-it t n ds old a.from h.parcel.number a.head.number None is h.taken.number said)
        ∙ takes-first None t n ds is) (append_assoc ds (Got it.from it.number None ∷ []) _)
        (first-delivery None t n ds is none_not_held))

-- A frame that is lost

-- after it was taken, and perhaps delivered
pub lost-of : (t : Network) (n : NodeId) (ds more : List Doing) (s : StationState) (u : NodeId) (k : ℕ) →
    IsStationOf t n (ds ++ more) s → IsStationOf t n (ds ++ (more ++ Lost u k ∷ [])) s
lost-of t n ds more s u k is =
    subst (λ es. IsStationOf t n es s) (append_assoc ds more (Lost u k ∷ [])) (lose-of t n (ds ++ more) s u k is)

not_held : (o x : Option DisturbKind) → IsDeliveredNow o → x ≡ o → x ≢ Some Hold
not_held o x (inl e) same hold = absurd (cc (e, same, hold))
not_held o x (inr e) same hold = absurd (cc (e, same, hold))

pub lost-goes : (a : Ahead) (o : Option DisturbKind) (old new : StationState) → ArePeersApart old.links →
    IsDeliveredNow o → says old.lines a.from (me_of old) a.head.number ≡ o → HasLost a old new →
    GoesOnAt (Err halt.OutOfMemory) a.place old new
lost-goes a o old new apart now said h first t n ds is = record {
  made = [];
  last = Got a.from h.parcel.number line ∷ Lost a.from h.parcel.number ∷ [];
  is_made = takings-none old.lines n;
  is_last = PopLost a.from h.parcel.number;
  stands =
      subst (IsStationOf t n (ds ++ Got a.from h.parcel.number line ∷ Lost a.from h.parcel.number ∷ [])) (sym h.rest)
      (lost-of t n ds (Got a.from h.parcel.number line ∷ []) (record old { links = h.links }) a.from h.parcel.number
      (taken-of t n ds a.from h.parcel (popped_parcel a.from h.parcel bears) line a.place old h.links is
      (not_held o line now (says-it t n ds old a.from h.parcel.number a.head.number o is h.taken.number said)) apart
      h.taken.taken (popped-is a.from h.parcel bears)));
}
  where
    line : Option DisturbKind
    line = says old.lines a.from n h.parcel.number

    bears : IsBearing h.parcel
    bears = taken-bears a.from h.parcel a.place old.links h.links h.taken.taken
