-- What a turn takes, by neighbour.
use Rattle.std.proofs.{Common.{◌≡◌, ◌+◌, ℕ, zero, suc, Bool, true, false, cond, nat_eq, List, [], ◌∷◌, ◌++◌, refl, sym, ap, ◌∙◌, subst, append-nil, append_assoc}, lemmas.List.append_cancel_left}
use Rattle.std.specs.{Prelude.{Option, Some, None, max}, List.{AllByRecursion, Contains, AllZip}}
use Rattle.ason_base.specs.{declared.ids.NodeId.NodeId, declared.commands.Disturb.Disturb, declared.commands.DisturbKind.DisturbKind, declared.commands.DisturbKind.TheVariants.{Lose, Repeat, Hold}, Network.Network}
use Rattle.ason_base.proofs.{Bridges.same_node, Members.{contains-head, one-of_all}, Numbers.self-number}
use Rattle.world_merge.specs.Deeds.{Deed, Handled, Ticked, Took}
use Rattle.round_rules.specs.{Doings.{Did, Doing, Freed, Got}, Functions.{Popped, all_freed, all_handled, all_taken, clock_of, with_delivered, with_freed, got, with_handled, with_taken, taken_as, tick_if, turn_after}, Lines.says, Rings.{got_from, is_number_in}, Rounds.numbers_by, Turns.items_after, Limits.{Progress, going, turn_to}, States.parcel_numbers, Turned.IsPoppedAs}
use Rattle.round_rules.proofs.{Ending.turns-end, Numbers.got-append}
use Rattle.station_rings.specs.declared.parcel.Parcel.{Parcel}

got_deed : (u : NodeId) (ds : List Doing) (d : Deed) → got_from u (ds ++ Did d ∷ []) ≡ got_from u ds
got_deed u ds d = got-append u ds (Did d ∷ []) ∙ append-nil (got_from u ds)

got_freed : (u : NodeId) (ds : List Doing) (ps : List Popped) → got_from u (all_freed ds ps) ≡ got_from u ds
got_freed u ds [] = refl
got_freed u ds (p ∷ ps) =
    got_freed u (with_freed ds p) ps
    ∙ got_deed u (ds ++ Freed ∷ []) (Took (max (clock_of (ds ++ Freed ∷ [])) p.stamp + 1) p.from p.number p.content)
    ∙ got-append u ds (Freed ∷ []) ∙ append-nil (got_from u ds)

got_handled : (u : NodeId) (k : ℕ) (ds : List Doing) → got_from u (all_handled k ds) ≡ got_from u ds
got_handled u zero ds = refl
got_handled u (suc k) ds = got_handled u k (with_handled ds) ∙ got_deed u ds (Handled (clock_of ds + 1))

got_one : (u : NodeId) (ds : List Doing) (p : Popped) (o : Option DisturbKind) →
    got_from u (got ds p o) ≡ got_from u ds ++ numbers_by u (p ∷ [])
got_one u ds p o = got-append u ds (Got p.from p.number o ∷ [])

got_taken : (u : NodeId) (o : Option DisturbKind) (ds : List Doing) (p : Popped) →
    got_from u (taken_as o ds p) ≡ got_from u ds ++ numbers_by u (p ∷ [])
got_taken u None ds p =
    got_deed u (got ds p None) (Took (max (clock_of (got ds p None)) p.stamp + 1) p.from p.number p.content)
    ∙ got_one u ds p None
got_taken u (Some Repeat) ds p =
    let once : List Doing = with_delivered (got ds p (Some Repeat)) p in
    got_deed u once (Took (max (clock_of once) p.stamp + 1) p.from p.number p.content)
    ∙ got_deed u (got ds p (Some Repeat)) (Took (max (clock_of (got ds p (Some Repeat))) p.stamp + 1) p.from p.number
    p.content)
    ∙ got_one u ds p (Some Repeat)
got_taken u (Some Lose) ds p = got_one u ds p (Some Lose)
got_taken u (Some Hold) ds p = got_one u ds p (Some Hold)

from_next : (u : NodeId) (p : Popped) (ps : List Popped) →
    numbers_by u (p ∷ []) ++ numbers_by u ps ≡ numbers_by u (p ∷ ps)
from_next u p ps = go (nat_eq p.from.0 u.0)
  where
    go : (b : Bool) → cond b (p.number ∷ []) [] ++ numbers_by u ps ≡
        cond b (p.number ∷ numbers_by u ps) (numbers_by u ps)
    go true = refl
    go false = refl

got_all : (u : NodeId) (lines : List Disturb) (n : NodeId) (ds : List Doing) (ps : List Popped) →
    got_from u (all_taken lines n ds ps) ≡ got_from u ds ++ numbers_by u ps
got_all u lines n ds [] = sym (append-nil (got_from u ds))
got_all u lines n ds (p ∷ ps) =
    got_all u lines n (with_taken lines n ds p) ps
    ∙ ap (λ ks. ks ++ numbers_by u ps) (got_taken u (says lines p.from n p.number) ds p)
    ∙ append_assoc (got_from u ds) (numbers_by u (p ∷ [])) (numbers_by u ps)
    ∙ ap (λ ks. got_from u ds ++ ks) (from_next u p ps)

got_tick : (u : NodeId) (tick : Bool) (ds : List Doing) → got_from u (tick_if tick ds) ≡ got_from u ds
got_tick u true ds = got_deed u ds (Ticked (clock_of ds + 1))
got_tick u false ds = refl

-- what a turn takes is what it pops
pub turn-got : (u : NodeId) (t : Network) (lines : List Disturb) (n : NodeId) (tick : Bool) (ds : List Doing)
    (due pops : List Popped) →
    got_from u (turn_after t lines n tick ds due pops) ≡ got_from u ds ++ numbers_by u pops
turn-got u t lines n tick ds due pops =
    got_all u lines n (all_handled (items_after t n here) here) pops
    ∙ ap (λ ks. ks ++ numbers_by u pops) (got_handled u (items_after t n here) here
    ∙ got_freed u (tick_if tick ds) due ∙ got_tick u tick ds)
  where
    here : List Doing
    here = all_freed (tick_if tick ds) due

-- What turns that come to their end add takes what they pop.
pub popped-got : (u : NodeId) (t : Network) (lines : List Disturb) (n : NodeId) (tick : Bool) (ds added : List Doing)
    (due pops : List Popped) → turn_to t lines n tick ds due pops ≡ going (ds ++ added) →
    got_from u added ≡ numbers_by u pops
popped-got u t lines n tick ds added due pops turn =
    append_cancel_left (got_from u ds) (got_from u added) (numbers_by u pops)
    (sym (got-append u ds added) ∙ ap (λ (p : Progress). got_from u p.doings) (sym turn)
    ∙ ap (got_from u) (turns-end t lines n tick ds due pops (ap (λ (p : Progress). p.halted) turn))
    ∙ turn-got u t lines n tick ds due pops)

-- what comes from u is from one of these, where all come from these
pub from-one-of : (u : NodeId) (ns : List NodeId) (k : ℕ) (ps : List Popped) →
    AllByRecursion (λ (p : Popped). Contains ns p.from) ps → is_number_in (numbers_by u ps) k ≡ true → Contains ns u
from-one-of u ns k [] all h = absurd (cc (h))
from-one-of u ns k (p ∷ ps) all h = go (nat_eq p.from.0 u.0) refl h (λ f. from-one-of u ns k ps all.1 f)
  where
    go : (b : Bool) → nat_eq p.from.0 u.0 ≡ b →
        is_number_in (cond b (p.number ∷ numbers_by u ps) (numbers_by u ps)) k ≡ true →
        (is_number_in (numbers_by u ps) k ≡ true → Contains ns u) → Contains ns u
    go true e f rest = subst (λ (v : NodeId). Contains ns v) (same_node p.from u e) all.0
    go false e f rest = rest f

-- Numbers by neighbour

-- what two lists of frames have from a node, joined
pub numbers-append : (u : NodeId) (ps qs : List Popped) → numbers_by u (ps ++ qs) ≡ numbers_by u ps ++ numbers_by u qs
numbers-append u [] qs = refl
numbers-append u (p ∷ ps) qs = go (nat_eq p.from.0 u.0) (numbers-append u ps qs)
  where
    go : (b : Bool) → numbers_by u (ps ++ qs) ≡ numbers_by u ps ++ numbers_by u qs →
        cond b (p.number ∷ numbers_by u (ps ++ qs)) (numbers_by u (ps ++ qs)) ≡
        cond b (p.number ∷ numbers_by u ps) (numbers_by u ps) ++ numbers_by u qs
    go true e = ap (λ ks. p.number ∷ ks) e
    go false e = e

-- those of parcels of one neighbour
pub numbers-as : (u : NodeId) (qs : List Parcel) (ps : List Popped) → AllZip (IsPoppedAs u) qs ps →
    numbers_by u ps ≡ parcel_numbers qs
numbers-as u [] [] all = refl
numbers-as u [] (p ∷ ps) all = absurd all
numbers-as u (q ∷ qs) [] all = absurd all
numbers-as u (q ∷ qs) (p ∷ ps) all =
    ap (λ b. cond b (p.number ∷ numbers_by u ps) (numbers_by u ps))
    (ap (λ (v : NodeId). nat_eq v.0 u.0) all.0.from_it ∙ self-number u.0)
    ∙ (λ i. all.0.number i ∷ numbers-as u qs ps all.1 i)

-- none comes from another node than these
pub numbers-apart : (u : NodeId) (ns : List NodeId) (ps : List Popped) →
    AllByRecursion (λ (m : NodeId). nat_eq m.0 u.0 ≡ false) ns →
    AllByRecursion (λ (p : Popped). Contains ns p.from) ps → numbers_by u ps ≡ []
numbers-apart u ns [] apart all = refl
numbers-apart u ns (p ∷ ps) apart all =
    ap (λ b. cond b (p.number ∷ numbers_by u ps) (numbers_by u ps))
    (one-of_all (λ (m : NodeId). nat_eq m.0 u.0 ≡ false) ns p.from apart all.0)
    ∙ numbers-apart u ns ps apart all.1

-- what is popped of parcels of a neighbour comes from it
pub from-it : (u : NodeId) (qs : List Parcel) (ps : List Popped) → AllZip (IsPoppedAs u) qs ps →
    AllByRecursion (λ (p : Popped). Contains (u ∷ []) p.from) ps
from-it u [] [] all = tt
from-it u [] (p ∷ ps) all = absurd all
from-it u (q ∷ qs) [] all = absurd all
from-it u (q ∷ qs) (p ∷ ps) all =
    (subst (λ (v : NodeId). Contains (u ∷ []) v) (sym all.0.from_it) (contains-head u []), from-it u qs ps all.1)
