-- A frame that is taken is the one that came first, and the station stays that of its node.
use Rattle.std.proofs.{Common.{◌≡◌, ◌<◌, ◌≤◌, ℕ, zero, suc, List, [], ◌∷◌, ◌++◌, length, refl, sym, ap, ◌∙◌, le_refl, subst, arith}, lemmas.List.length-append, lemmas.Option.{none-some, same_Some}, ByRecursion.All-append}
use Rattle.std.specs.Prelude.{slice_get, Some}
use Rattle.rtrb.specs.Ring.{sent}
use Rattle.ason_base.specs.declared.ids.NodeId.{NodeId}
use Rattle.control_channels.specs.declared.inputs.CoreInput.{CoreInput}
use Rattle.station_rings.specs.{declared.parcel.Parcel.Parcel, LinkStates.{IsTaken, LinkState}}
use Rattle.round_rules.specs.{Entered.me_of, Moves.{AreApart, ArePeersApart, IsChangedAt, TakesAt}, States.StationState, declared.held.HeldParcel.HeldParcel}
use Rattle.round_rules.proofs.Places.{all-moved, all-moved-then, changed-peers, nones-moved, taken-from, takes-at, takes-moved, takes-none}
use Rattle.station.specs.{declared.links.Ahead.Ahead, declared.parts.Parts.Parts, Fits.{HeldKeeps, PartsFit, StationFits, station_state}, Leads.{IsMoving, IsSending}, Rings.{HasDelivered, HasLost, HasTaken, HasTakenAt, IsAhead}}
use Rattle.station.proofs.{Fitting.{LinkStays, changed-keeps, near-at}, Frames.{taken-bears, takes-it}}

-- Which it is

first_is : (q : Parcel) (i : ℕ) (links after : List LinkState) (l : LinkState) → slice_get links i ≡ Some l →
    IsChangedAt (IsTaken q) i links after → (rest : List Parcel) × (l.early ≡ q ∷ rest)
first_is q i [] after l at is = absurd is
first_is q i (k ∷ links) [] l at is = absurd is
first_is q zero (k ∷ links) (m ∷ after) l at is =
    let same = same_Some k l at in (m.early, ap (λ (x : LinkState). x.early) (sym same) ∙ is.0.first)
first_is q (suc i) (k ∷ links) (m ∷ after) l at is = first_is q i links after l at is.1

same_first : {X : Type 0} (x y : X) (xs ys : List X) → x ∷ xs ≡ y ∷ ys → x ≡ y
same_first x y xs ys e = cc (e)

-- the first of those that waited early there is the one that is known
pub has-taken : (a : Ahead) (q : Parcel) (old : StationState) (links : List LinkState) → IsAhead a old.links →
    IsChangedAt (IsTaken q) a.place old.links links → HasTaken a q old links
has-taken a q old links ahead is =
    let first = first_is q a.place old.links links ahead.head.link ahead.head.there is in
    let whole : q ∷ first.0 ≡ ahead.head.head.parcel ∷ ahead.head.head.rest = sym first.1 ∙ ahead.head.head.first in
    let same = same_first q ahead.head.head.parcel first.0 ahead.head.head.rest whole in
    record {
      taken = taken-from q a.from a.place old.links links ahead.from is;
      number = ap (λ (p : Parcel). p.number) same ∙ ahead.head.head.number;
      stamp = ap (λ (p : Parcel). p.stamp) same ∙ ahead.head.head.stamp;
    }

below_length : (links : List LinkState) (i : ℕ) (l : LinkState) → slice_get links i ≡ Some l → i < length links
below_length [] i l at = absurd (none-some l at)
below_length (k ∷ links) zero l at = omega arith
below_length (k ∷ links) (suc i) l at = omega (arith, below_length links i l at)

-- there is a link at its place
pub ahead-below : (a : Ahead) (links : List LinkState) → IsAhead a links → a.place < length links
ahead-below a links is = below_length links a.place is.head.link is.head.there

-- it was taken at its place
pub taken-at : (a : Ahead) (q : Parcel) (old : StationState) (links : List LinkState) → HasTaken a q old links →
    HasTakenAt a.place old.links links
taken-at a q old links h =
    record { from = a.from; parcel = q; takes = takes-at a.from q a.place old.links links h.taken }

-- What moves

-- a frame was taken
pub taken-moves : (u : NodeId) (q : Parcel) (i : ℕ) (old new : StationState) → TakesAt u q i old.links new.links →
    new.lines ≡ old.lines → length old.log ≤ length new.log → IsMoving old new
taken-moves u q i old new takes lines grows =
    record { links = takes-moved u q i old.links new.links takes; lines = lines; grows = grows }

pub delivered-moves : (a : Ahead) (old new : StationState) (apart : ArePeersApart old.links) (i : CoreInput) →
    HasDelivered a i old new → IsMoving old new
delivered-moves a old new apart i h =
    taken-moves a.from h.parcel a.place old new (takes-it a old new apart i h) h.entered.lines
    (omega (arith, ap length h.entered.log ∙ length-append old.log _))

-- nothing was
pub moving-none : (s : StationState) → IsMoving s s
moving-none s = record { links = all-moved s.links; lines = refl; grows = omega arith }

-- it is lost for want of memory
pub lost-moves : (a : Ahead) (old new : StationState) → HasLost a old new → IsMoving old new
lost-moves a old new h =
    subst (IsMoving old) (sym h.rest)
    (taken-moves a.from h.parcel a.place old (record old { links = h.links })
    (takes-at a.from h.parcel a.place old.links h.links h.taken.taken) refl (le_refl (length old.log)))

-- What holds of every station

taken_stays : (q : Parcel) (l m : LinkState) → IsTaken q l m → LinkStays l m
taken_stays q l m is =
    record { peer = is.peer; sent = is.sent; gone = λ i. sent (is.out i) ++ is.backlog i }

taken_fits : (q : Parcel) (i : ℕ) (s : StationState) (links : List LinkState) →
    IsChangedAt (IsTaken q) i s.links links → StationFits s → StationFits (record s { links = links })
taken_fits q i s links is fit = record {
  most = fit.most;
  count = fit.count;
  apart = subst AreApart (sym (changed-peers (IsTaken q) (λ l m t. t.peer) i s.links links is)) fit.apart;
  links =
      changed-keeps (IsTaken q) (taken_stays q) s.controller.node.place s.controller.steps s.clock i s.links links is
      fit.links;
  held = fit.held;
}

-- it holds after a frame was taken
pub taken-parts : (q : Parcel) (i : ℕ) (p new : Parts) (links : List LinkState) →
    IsChangedAt (IsTaken q) i p.links.items links → station_state new ≡ record (station_state p) { links = links } →
    new.me ≡ p.me → PartsFit p → PartsFit new
taken-parts q i p new links is same me fit = record {
  station = subst StationFits (sym same) (taken_fits q i (station_state p) links is fit.station);
  me = me ∙ fit.me ∙ ap me_of (sym same);
}

held_more : (s : StationState) (h : HeldParcel) → HeldKeeps s.controller.node.place s.controller.steps h →
    StationFits s → StationFits (record s { held = s.held ++ h ∷ [] })
held_more s h keeps fit = record {
  most = fit.most;
  count = fit.count;
  apart = fit.apart;
  links = fit.links;
  held =
      All-append (HeldKeeps s.controller.node.place s.controller.steps) s.held (h ∷ []) fit.held (keeps, tt);
}

-- the station with a parcel that is held
abbrev pub with_held : StationState → Ahead → Parcel → List LinkState → StationState
with_held s a q links =
    record s { links = links; held = s.held ++ record { from = a.from; parcel = q; ticks = 0 } ∷ [] }

-- and was held back
pub hold-parts : (a : Ahead) (q : Parcel) (p new : Parts) (links : List LinkState) → IsAhead a p.links.items →
    IsChangedAt (IsTaken q) a.place p.links.items links → station_state new ≡ with_held (station_state p) a q links →
    new.me ≡ p.me → PartsFit p → PartsFit new
hold-parts a q p new links ahead is same me fit = record {
  station =
      subst StationFits (sym same)
      (held_more (record (station_state p) { links = links }) (record { from = a.from; parcel = q; ticks = 0 })
      (record {
        near =
            near-at p.controller.node.place p.controller.steps p.clock a.place a.from p.links.items fit.station.links
            ahead.from;
        ticks = omega arith;
        bears =
            taken-bears a.from q a.place p.links.items links
            (taken-from q a.from a.place p.links.items links ahead.from is);
      }) (taken_fits q a.place (station_state p) links is fit.station));
  me = me ∙ fit.me ∙ ap me_of (sym same);
}

-- Twice

-- frames were sent after it
pub delivered-on : (a : Ahead) (old mid new : StationState) (apart : ArePeersApart old.links) (i : CoreInput) →
    HasDelivered a i old mid → IsSending mid new → HasTakenAt a.place old.links new.links
delivered-on a old mid new apart i h sends = record {
  from = a.from;
  parcel = h.parcel;
  takes =
      takes-none a.from h.parcel a.place old.links mid.links new.links (takes-it a old mid apart i h) sends.links;
}

pub moving-sends : (old mid new : StationState) → IsMoving old mid → IsSending mid new → IsMoving old new
moving-sends old mid new a b = record {
  links = all-moved-then old.links mid.links new.links a.links (nones-moved mid.links new.links b.links);
  lines = b.lines ∙ a.lines;
  grows = omega (arith, a.grows, b.grows);
}
