-- One turn of a station, as a turn of its node.
use Rattle.std.proofs.{Common.{◌≡◌, ◌+◌, ℕ, Bool, true, false, cond, nat_le, List, [], ◌∷◌, ◌++◌, filter, map, refl, sym, ap, ◌∙◌, subst, inl, inr}, lemmas.List.Sums.fold-append, ByRecursion.All-append}
use Rattle.std.specs.List.{AllByRecursion, AllZip, Contains}
use Rattle.ason_base.specs.{Network.Network, declared.commands.Disturb.Disturb, declared.ids.NodeId.NodeId}
use Rattle.ason_base.proofs.Members.{contains-head, contains-tail}
use Rattle.hop_reliable.proofs.Members.{each-more}
use Rattle.world_merge.specs.Deeds.{Ticked}
use Rattle.station_rings.specs.{declared.parcel.Parcel.Parcel, LinkStates.LinkState}
use Rattle.round_rules.specs.{Doings.{Did, Doing}, Functions.{AreHeldAs, Popped, clock_of, tick_if}, Held.{due_in, held_after, held_step, is_frame_due, ticked_once}, Lines.says, Takings.{IsTaking, Taking}, Turns.IsTurnOf, Stands.{frame_of, parcel_ticked}, States.{IsStationOf, StationState}, Turned.{AreUntouched, HaveComeTo, IsPoppedAs, IsPoppedHeld, all_of, due_parcels}, declared.held.HeldParcel.HeldParcel, Moves.peers_of}

-- Held frames that are due

held_due : (hs : List HeldParcel) →
    filter is_frame_due (map frame_of hs) ≡ map frame_of (filter (λ (h : HeldParcel). nat_le 2 h.ticks) hs)
held_due [] = refl
held_due (h ∷ hs) = go (nat_le 2 h.ticks) (held_due hs)
  where
    go : (b : Bool) →
        filter is_frame_due (map frame_of hs) ≡ map frame_of (filter (λ (k : HeldParcel). nat_le 2 k.ticks) hs) →
        cond b (frame_of h ∷ filter is_frame_due (map frame_of hs)) (filter is_frame_due (map frame_of hs)) ≡
        map frame_of (cond b (h ∷ filter (λ (k : HeldParcel). nat_le 2 k.ticks) hs)
        (filter (λ (k : HeldParcel). nat_le 2 k.ticks) hs))
    go true e = ap (λ ks. frame_of h ∷ ks) e
    go false e = e

held_ticked : (hs : List HeldParcel) → map ticked_once (map frame_of hs) ≡ map frame_of (map parcel_ticked hs)
held_ticked [] = refl
held_ticked (h ∷ hs) = ap (λ ks. ticked_once (frame_of h) ∷ ks) (held_ticked hs)

-- the frames that are due are those of the parcels that are
pub due-is : (tick : Bool) (ds : List Doing) (hs : List HeldParcel) → map frame_of hs ≡ held_after [] ds →
    due_in (tick_if tick ds) ≡ map frame_of (due_parcels tick hs)
due-is false ds hs is = ap (filter is_frame_due) (sym is) ∙ held_due hs
due-is true ds hs is =
    ap (filter is_frame_due) (fold-append held_step [] ds (Did (Ticked (clock_of ds + 1)) ∷ [])
    ∙ ap (map ticked_once) (sym is) ∙ held_ticked hs)
    ∙ held_due (map parcel_ticked hs)

held_as : (hs : List HeldParcel) (ps : List Popped) → AllZip IsPoppedHeld hs ps → AreHeldAs (map frame_of hs) ps
held_as [] [] all = tt
held_as [] (p ∷ ps) all = absurd all
held_as (h ∷ hs) [] all = absurd all
held_as (h ∷ hs) (p ∷ ps) all = ((sym all.0.from_it, sym all.0.number), held_as hs ps all.1)

-- What is popped of held parcels that are due are the held frames that are due.
pub are-held : (t : Network) (n : NodeId) (tick : Bool) (ds : List Doing) (old : StationState) (due : List Popped) →
    IsStationOf t n ds old → AllZip IsPoppedHeld (due_parcels tick old.held) due →
    AreHeldAs (due_in (tick_if tick ds)) due
are-held t n tick ds old due is all =
    subst (λ hs. AreHeldAs hs due) (sym (due-is tick ds old.held is.stands.held))
    (held_as (due_parcels tick old.held) due all)

-- What is popped comes from neighbours

from_peer : (u : NodeId) (ns : List NodeId) (qs : List Parcel) (ps : List Popped) → Contains ns u →
    AllZip (IsPoppedAs u) qs ps → AllByRecursion (λ (p : Popped). Contains ns p.from) ps
from_peer u ns [] [] there all = tt
from_peer u ns [] (p ∷ ps) there all = absurd all
from_peer u ns (q ∷ qs) [] there all = absurd all
from_peer u ns (q ∷ qs) (p ∷ ps) there all =
    (subst (λ (v : NodeId). Contains ns v) (sym all.0.from_it) there, from_peer u ns qs ps there all.1)

-- nothing is popped of links that are untouched
pub untouched-none : (links after : List LinkState) (pops : List (List Popped)) → AreUntouched links after pops →
    all_of pops ≡ []
untouched-none [] [] [] all = refl
untouched-none [] [] (ps ∷ pops) all = absurd all
untouched-none [] (m ∷ after) pops all = absurd all
untouched-none (l ∷ links) [] pops all = absurd all
untouched-none (l ∷ links) (m ∷ after) [] all = absurd all
untouched-none (l ∷ links) (m ∷ after) (ps ∷ pops) all =
    ap (λ qs. qs ++ all_of pops) all.1 ∙ untouched-none links after pops all.2

-- All that is popped comes from the neighbours over the links.
pub from-peers : (halted : Bool) (links after : List LinkState) (pops : List (List Popped)) →
    HaveComeTo halted links after pops →
    AllByRecursion (λ (p : Popped). Contains (peers_of links) p.from) (all_of pops)
from-peers halted [] [] [] all = tt
from-peers halted [] [] (ps ∷ pops) all = absurd all
from-peers halted [] (m ∷ after) pops all = absurd all
from-peers halted (l ∷ links) [] pops all = absurd all
from-peers halted (l ∷ links) (m ∷ after) [] all = absurd all
from-peers halted (l ∷ links) (m ∷ after) (ps ∷ pops) (inl all) =
    All-append (λ (p : Popped). Contains (peers_of (l ∷ links)) p.from) ps (all_of pops)
    (from_peer l.peer (peers_of (l ∷ links)) _ ps (contains-head l.peer (peers_of links)) all.0.are)
    (each-more (λ (p : Popped). Contains (peers_of links) p.from)
    (λ (p : Popped). Contains (peers_of (l ∷ links))
    p.from)
    (λ p there. contains-tail l.peer p.from (peers_of links) there) (all_of pops)
    (from-peers halted links after pops all.1))
from-peers halted (l ∷ links) (m ∷ after) (ps ∷ pops) (inr all) =
    All-append (λ (p : Popped). Contains (peers_of (l ∷ links)) p.from) ps (all_of pops)
    (from_peer l.peer (peers_of (l ∷ links)) _ ps (contains-head l.peer (peers_of links)) all.1.are)
    (subst (AllByRecursion (λ (p : Popped). Contains (peers_of (l ∷ links)) p.from))
    (sym (untouched-none links after pops all.2)) tt)

-- Lines that say the same

-- A turn is one by lines that say the same.
pub told-turn : (t : Network) (one two : List Disturb) (n : NodeId) (tick : Bool) (ds added : List Doing) →
    ((u : NodeId) (k : ℕ) → says one u n k ≡ says two u n k) → IsTurnOf t one n tick ds added →
    IsTurnOf t two n tick ds added
told-turn t one two n tick ds added same is = record {
  ticks = is.ticks;
  dues = is.dues;
  items = is.items;
  takings = is.takings;
  all = is.all;
  is_tick = is.is_tick;
  are_due = is.are_due;
  handled = is.handled;
  count = is.count;
  are_takings = told is.takings is.are_takings;
}
  where
    told : (gs : List Taking) → AllByRecursion (IsTaking one n) gs → AllByRecursion (IsTaking two n) gs
    told gs all =
        each-more (IsTaking one n) (IsTaking two n)
        (λ g h. record { says = h.says ∙ same g.from g.number; deliveries = h.deliveries }) gs all
