-- A frame that stays in its ring at the limit.
use Rattle.std.proofs.{Common.{◌≡◌, ◌≤◌, ◌+◌, ◌^◌, ◌⊎◌, inl, inr, ℕ, zero, suc, true, false, List, [], ◌∷◌, length, map, sym, ap, ◌∙◌, subst, arith}, lemmas.Option.{none-some, same_Some}}
use Rattle.std.specs.{Prelude.{max, slice_get, Option, Some, None, Err}, List.AllByRecursion}
use Rattle.ason_base.specs.{declared.commands.DisturbKind.DisturbKind, declared.commands.DisturbKind.TheVariants.Repeat, declared.ids.NodeId.NodeId}
use Rattle.ason_base.proofs.Members.{contains-head, contains-tail}
use Rattle.round_rules.specs.{Doings.{Doing, RingFrame, Waiting}, Functions.{Popped, with_delivered, got}, Limits.{delivery_part, halted_by, pop_part, stamp_for, taking_part, unless_halted}, Lines.says, Ends.EndsAs, PartLimits.IsAtLimit, Entered.{able, me_of}, Moves.peers_of, Stands.CameFrom, States.{IsTakenFrom, StationState}}
use Rattle.station_rings.specs.{declared.parcel.Parcel.Parcel, LinkStates.{IsBearing, LinkState, view_of}}
use Rattle.round_rules.proofs.{PartEnding.{full-is, halted-ends}, Places.nones, Moving.moved-none, Pops.StaysAt, RingSteps.ring-halt, Taking.came-early}
use Rattle.station.specs.declared.halts.Halt.TheVariants as halt
use Rattle.station.specs.{declared.links.Ahead.Ahead, Leads.GoesOnAt, Rings.IsAhead}
use Rattle.station.proofs.{Fitting.full-or-last, Frames.{IsDeliveredNow, popped-is, popped_parcel, says-it}}

-- the first that waits early at a place
pub record Waits (a : Ahead) (links : List LinkState) : Type 0 where
  pub parcel : Parcel
  pub bears : IsBearing parcel
  pub number : parcel.number ≡ a.head.number
  pub stamp : parcel.stamp ≡ a.head.stamp
  pub stays : StaysAt a.from parcel a.place links links
  pub came : (ds : List Doing) → AllByRecursion (IsTakenFrom ds) links → CameFrom (map view_of links) a.from parcel

record WaitsAt (u : NodeId) (q : Parcel) (i : ℕ) (links : List LinkState) : Type 0 where
  stays : StaysAt u q i links links
  came : (ds : List Doing) → AllByRecursion (IsTakenFrom ds) links → CameFrom (map view_of links) u q

waits_at : (u : NodeId) (q : Parcel) (rest : List Parcel) (i : ℕ) (links : List LinkState) (l : LinkState) →
    slice_get links i ≡ Some l → slice_get (peers_of links) i ≡ Some u → l.early ≡ q ∷ rest → IsBearing q →
    WaitsAt u q i links
waits_at u q rest i [] l at from first bears = absurd (none-some l at)
waits_at u q rest zero (k ∷ links) l at from first bears =
    let same = same_Some k l at in
    let peer = same_Some k.peer u from in
    let early : k.early ≡ q ∷ rest = ap (λ (x : LinkState). x.early) same ∙ first in
    record {
      stays = ((moved-none k, peer, (rest, early)), nones links);
      came = λ ds all. record {
        link = view_of k;
        there = contains-head (view_of k) (map view_of links);
        peer = peer;
        came = came-early ds k q rest all.0 early;
        content = bears.0;
        spells = bears.1;
      };
    }
waits_at u q rest (suc i) (k ∷ links) l at from first bears =
    let w = waits_at u q rest i links l at from first bears in
    record {
      stays = (moved-none k, w.stays);
      came = λ ds all.
          let c = w.came ds all.1 in
          record {
            link = c.link;
            there = contains-tail (view_of k) c.link (map view_of links) c.there;
            peer = c.peer;
            came = c.came;
            content = c.content;
            spells = c.spells;
          };
    }

pub waits : (a : Ahead) (links : List LinkState) → IsAhead a links → Waits a links
waits a links is =
    let bears : IsBearing is.head.head.parcel =
    (subst (AllByRecursion IsBearing) is.head.head.first is.head.bears).0 in
    let w =
    waits_at a.from is.head.head.parcel is.head.head.rest a.place links is.head.link is.head.there is.from
    is.head.head.first bears in
    record {
      parcel = is.head.head.parcel;
      bears = bears;
      number = is.head.head.number;
      stamp = is.head.head.stamp;
      stays = w.stays;
      came = w.came;
    }

-- no line, or no stamp is left for a frame
pub frame-limit : (s : StationState) (u : NodeId) (q : Parcel) → CameFrom (map view_of s.links) u q →
    able (length s.log) (max s.clock q.stamp + 1) ≡ false → IsAtLimit s
frame-limit s u q came e =
    elim (full-or-last (length s.log) (max s.clock q.stamp + 1) e) [
      | inl full ↦ inl full
      | inr last ↦ elim (one (s.clock) q.stamp last) [
        | inl clock ↦ inr (inl clock)
        | inr stamp ↦ inr (inr (record { from = u; parcel = q; came = came; last = stamp }))
      ]
    ]
  where
    one : (a b : ℕ) → 2 ^ 64 ≤ max a b + 1 → (2 ^ 64 ≤ a + 1) ⊎ (2 ^ 64 ≤ b + 1)
    one a b h = grind (arith, h)

pub stay-goes : (a : Ahead) (old : StationState) (o : Option DisturbKind) → IsAhead a old.links → IsDeliveredNow o →
    says old.lines a.from (me_of old) a.head.number ≡ o →
    able (length old.log) (max old.clock a.head.stamp + 1) ≡ false →
    GoesOnAt (Err halt.AtLimit) a.place old old
stay-goes a old o ahead now said full first t n ds is =
    ring-halt t n ds a.place old first old a.from w.parcel p (popped-is a.from w.parcel w.bears) w.stays
    (subst (λ x. EndsAs t n ds true x old) (sym (ap (λ x. pop_part x ds p) line ∙ halts o now))
    (halted-ends t n ds old is wait
    (frame-limit old a.from w.parcel (w.came ds is.taken)
    (ap (λ k. able (length old.log) (max old.clock k + 1)) w.stamp ∙ full))))
  where
    w : Waits a old.links
    w = waits a old.links ahead

    p : Popped
    p = popped_parcel a.from w.parcel w.bears

    wait : Waiting
    wait = RingFrame p.from p.number

    line : says old.lines p.from n p.number ≡ o
    line = says-it t n ds old a.from w.parcel.number a.head.number o is w.number said

    left : (x : Option DisturbKind) → taking_part x p ds ≡ halted_by wait ds
    left x =
        full-is t n ds old is wait (stamp_for p ds) (max old.clock a.head.stamp + 1)
        (λ ks. with_delivered (got ks p x) p)
        (λ j. max (sym is.stands.clock j) (w.stamp j) + 1) full

    halts : (x : Option DisturbKind) → IsDeliveredNow x → pop_part x ds p ≡ halted_by wait ds
    halts x h = elim h [
      | inl e ↦ ap (λ y. pop_part y ds p) e ∙ left None
      | inr e ↦ ap (λ y. pop_part y ds p) e ∙ ap (unless_halted (delivery_part p)) (left (Some Repeat))
    ]
