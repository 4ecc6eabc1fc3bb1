-- Over which links the frames came to which turns come, and what was popped of each.
use Rattle.std.proofs.{Common.{◌≡◌, Bool, true, false, cond, nat_eq, nat_le, List, [], ◌∷◌, ◌++◌, filter, map, refl, sym, ap, ◌∙◌, subst, append-nil, append_assoc, inl, inr}, lemmas.List.{Elements.{Contains-append_left, Contains-append_right}}, ByRecursion.All-append}
use Rattle.std.specs.List.{AllByRecursion, AllZip, Contains}
use Rattle.rtrb.specs.Ring.{received}
use Rattle.ason_base.specs.{declared.ids.NodeId.NodeId}
use Rattle.ason_base.proofs.{Members.{contains-cases, contains-head, contains-tail, one-of_all, there-from_map, there-map}, Numbers.{apart-turned}}
use Rattle.hop_reliable.proofs.Members.{each-more}
use Rattle.station_rings.specs.{declared.parcel.Parcel.Parcel, Links.LinkView, LinkStates.{LinkState, view_of}}
use Rattle.round_rules.specs.{Doings.Doing, Functions.{Popped}, Rounds.numbers_by, Moves.{ArePeersApart, HasMoved, peers_of}, Stands.{IsHeldOf, parcel_ticked}, States.{IsTakenFrom, parcel_numbers}, Turned.{AreUntouched, HaveComeTo, IsPoppedAs, IsPoppedHeld, all_of, due_parcels}, declared.held.HeldParcel.HeldParcel}
use Rattle.round_rules.proofs.{Choosing.zip-there, Keeping.kept-ticked, Links.came-more, Turned.{from-peers, untouched-none}, Got.{numbers-append, numbers-apart, numbers-as, from-it}}

-- a frame of this number and stamp came over one of these links
pub record CameOver (links : List LinkState) (p : Popped) : Type 0 where
  pub link : LinkState
  pub there : Contains links link
  pub peer : link.peer ≡ p.from
  pub parcel : Parcel
  pub came : Contains (received link.into) parcel
  pub number : parcel.number ≡ p.number
  pub stamp : parcel.stamp ≡ p.stamp

-- What was popped of one link: what was taken of it, and the first of those that wait early where the turns halted.
pub record IsPoppedOver (halted : Bool) (pops : List Popped) (old new : LinkState) : Type 0 where
  pub moved : HasMoved old new
  pub head : List Parcel
  pub rest : List Parcel
  pub next : new.early ≡ head ++ rest
  pub numbers : numbers_by old.peer pops ≡ parcel_numbers (moved.takes ++ head)
  pub whole : halted ≡ false → head ≡ []

-- Over which links they came

-- what came out of the ring: what had been taken, what is taken now, and what waits early
pub received-now : (ds : List Doing) (old new : LinkState) → (f : IsTakenFrom ds old) → (m : HasMoved old new) →
    received new.into ≡ f.taken ++ (m.takes ++ new.early)
received-now ds old new f m =
    came-more old new m ∙ ap (λ ps. ps ++ m.came) f.came ∙ append_assoc f.taken old.early m.came
    ∙ ap (λ ps. f.taken ++ ps) m.taken

over_tail : (l : LinkState) (links : List LinkState) (p : Popped) → CameOver links p → CameOver (l ∷ links) p
over_tail l links p o = record {
  link = o.link;
  there = contains-tail l o.link links o.there;
  peer = o.peer;
  parcel = o.parcel;
  came = o.came;
  number = o.number;
  stamp = o.stamp;
}

-- of the first link, what these parcels bear
over_first : (l : LinkState) (links : List LinkState) (u : NodeId) (qs : List Parcel) (ps : List Popped) → l.peer ≡ u →
    ((q : Parcel) → Contains qs q → Contains (received l.into) q) → AllZip (IsPoppedAs u) qs ps →
    AllByRecursion (CameOver (l ∷ links)) ps
over_first l links u [] [] peer came all = tt
over_first l links u [] (p ∷ ps) peer came all = absurd all
over_first l links u (q ∷ qs) [] peer came all = absurd all
over_first l links u (q ∷ qs) (p ∷ ps) peer came all = (
  record {
    link = l;
    there = contains-head l links;
    peer = peer ∙ sym all.0.from_it;
    parcel = q;
    came = came q (contains-head q qs);
    number = sym all.0.number;
    stamp = sym all.0.stamp;
  },
  over_first l links u qs ps peer (λ r there. came r (contains-tail q r qs there)) all.1,
)

-- what was taken of a link, and the first of what waits early, came out of its ring
pops_came : (ds : List Doing) (old new : LinkState) (m : HasMoved old new) (head rest : List Parcel) →
    new.early ≡ head ++ rest → IsTakenFrom ds old → (q : Parcel) → Contains (m.takes ++ head) q →
    Contains (received new.into) q
pops_came ds old new m head rest next f q there =
    subst (λ qs. Contains qs q)
    (sym (received-now ds old new f m ∙ ap (λ qs. f.taken ++ (m.takes ++ qs)) next
    ∙ ap (λ qs. f.taken ++ qs) (sym (append_assoc m.takes head rest))))
    (Contains-append_right f.taken ((m.takes ++ head) ++ rest) q
    (Contains-append_left (m.takes ++ head) rest q there))

-- all that was popped came over the links
pub pops-over : (ds : List Doing) (halted : Bool) (links after : List LinkState) (pops : List (List Popped)) →
    AllByRecursion (IsTakenFrom ds) links → HaveComeTo halted links after pops →
    AllByRecursion (CameOver after) (all_of pops)
pops-over ds halted [] [] [] taken all = tt
pops-over ds halted [] [] (ps ∷ pops) taken all = absurd all
pops-over ds halted [] (m ∷ after) pops taken all = absurd all
pops-over ds halted (l ∷ links) [] pops taken all = absurd all
pops-over ds halted (l ∷ links) (m ∷ after) [] taken all = absurd all
pops-over ds halted (l ∷ links) (m ∷ after) (ps ∷ pops) taken (inl all) =
    All-append (CameOver (m ∷ after)) ps (all_of pops)
    (over_first m after l.peer all.0.drained.0.takes ps all.0.drained.0.peer
    (λ q there. pops_came ds l m all.0.drained.0 [] m.early refl taken.0 q
    (subst (λ qs. Contains qs q) (sym (append-nil all.0.drained.0.takes)) there)) all.0.are)
    (each-more (CameOver after) (CameOver (m ∷ after)) (over_tail m after) (all_of pops)
    (pops-over ds halted links after pops taken.1 all.1))
pops-over ds halted (l ∷ links) (m ∷ after) (ps ∷ pops) taken (inr all) =
    All-append (CameOver (m ∷ after)) ps (all_of pops)
    (over_first m after l.peer (all.1.moved.takes ++ all.1.head) ps all.1.moved.peer
    (pops_came ds l m all.1.moved all.1.head all.1.rest all.1.next taken.0) all.1.are)
    (subst (AllByRecursion (CameOver (m ∷ after))) (sym (untouched-none links after pops all.2)) tt)

-- Held frames that are due

due_kept : (P : HeldParcel → Type 0) (hs : List HeldParcel) → AllByRecursion P hs →
    AllByRecursion P (filter (λ (h : HeldParcel). nat_le 2 h.ticks) hs)
due_kept P [] all = tt
due_kept P (h ∷ hs) all = go (nat_le 2 h.ticks) (due_kept P hs all.1)
  where
    go : (b : Bool) → AllByRecursion P (filter (λ (k : HeldParcel). nat_le 2 k.ticks) hs) →
        AllByRecursion P
        (cond b (h ∷ filter (λ (k : HeldParcel). nat_le 2 k.ticks) hs) (filter (λ (k : HeldParcel). nat_le 2 k.ticks) hs))
    go true rest = (all.0, rest)
    go false rest = rest

-- parcels that are due were held
pub kept-due : (tick : Bool) (links : List LinkView) (hs : List HeldParcel) → AllByRecursion (IsHeldOf links) hs →
    AllByRecursion (IsHeldOf links) (due_parcels tick hs)
kept-due true links hs all = due_kept (IsHeldOf links) (map parcel_ticked hs) (kept-ticked links hs all)
kept-due false links hs all = due_kept (IsHeldOf links) hs all

-- links that came before these, over which all went that had come
abbrev GoesOn : List LinkState → List LinkState → Type 0
GoesOn links after = (p : Popped) → CameOver links p → CameOver after p

-- over links that moved goes what went over them before
pub came-on : (links after : List LinkState) → AllZip HasMoved links after → GoesOn links after
came-on [] [] all p o = o
came-on [] (m ∷ after) all p o = absurd all
came-on (l ∷ links) [] all p o = absurd all
came-on (l ∷ links) (m ∷ after) all p o = elim (contains-cases l o.link links o.there) [
  | inl is ↦ record {
    link = m;
    there = contains-head m after;
    peer = all.0.peer ∙ ap (λ (k : LinkState). k.peer) is ∙ o.peer;
    parcel = o.parcel;
    came =
        subst (λ qs. Contains qs o.parcel) (sym (came-more l m all.0))
        (Contains-append_left (received l.into) all.0.came o.parcel
        (subst (λ (k : LinkState). Contains (received k.into) o.parcel) (sym is) o.came));
    number = o.number;
    stamp = o.stamp;
  }
  | inr later ↦ over_tail m after p (came-on links after all.1 p record {
    link = o.link;
    there = later;
    peer = o.peer;
    parcel = o.parcel;
    came = o.came;
    number = o.number;
    stamp = o.stamp;
  })
]

-- what is popped of held parcels came over the links
pub due-over : (links : List LinkState) (hs : List HeldParcel) (due : List Popped) →
    AllByRecursion (IsHeldOf (map view_of links)) hs → AllZip IsPoppedHeld hs due →
    AllByRecursion (CameOver links) due
due-over links [] [] kept all = tt
due-over links [] (p ∷ due) kept all = absurd all
due-over links (h ∷ hs) [] kept all = absurd all
due-over links (h ∷ hs) (p ∷ due) kept all =
    let seen : (k : LinkState) × Contains links k × (view_of k ≡ kept.0.link) =
    there-from_map view_of links kept.0.link kept.0.there in (
      record {
        link = seen.0;
        there = seen.1;
        peer = ap (λ (v : LinkView). v.peer) seen.2 ∙ kept.0.peer ∙ sym all.0.from_it;
        parcel = h.parcel;
        came = subst (λ (v : LinkView). Contains v.came h.parcel) (sym seen.2) kept.0.came;
        number = sym all.0.number;
        stamp = sym all.0.stamp;
      },
      due-over links hs due kept.1 all.1,
    )

-- What was popped over each link

over_more : (halted : Bool) (qs ps : List Popped) (l m : LinkState) → numbers_by l.peer qs ≡ [] →
    IsPoppedOver halted ps l m → IsPoppedOver halted (qs ++ ps) l m
over_more halted qs ps l m none o = record {
  moved = o.moved;
  head = o.head;
  rest = o.rest;
  next = o.next;
  numbers = numbers-append l.peer qs ps ∙ ap (λ ks. ks ++ numbers_by l.peer ps) none ∙ o.numbers;
  whole = o.whole;
}

-- nothing of another link
none_of : (u : NodeId) (links : List LinkState) (l : LinkState) (qs : List Parcel) (ps : List Popped) →
    AllByRecursion (λ (m : NodeId). nat_eq m.0 u.0 ≡ false) (peers_of links) → Contains links l →
    AllZip (IsPoppedAs u) qs ps → numbers_by l.peer ps ≡ []
none_of u links l qs ps apart there all =
    numbers-apart l.peer (u ∷ []) ps (
      apart-turned l.peer.0 u.0
          (one-of_all (λ (m : NodeId). nat_eq m.0 u.0 ≡ false) (peers_of links) l.peer apart
          (there-map (λ (k : LinkState). k.peer) links l there)),
      tt,
    ) (from-it u qs ps all)

untouched_over : (halted : Bool) (links after : List LinkState) (pops : List (List Popped)) →
    AreUntouched links after pops → AllZip (IsPoppedOver halted []) links after
untouched_over halted [] [] [] all = tt
untouched_over halted [] [] (ps ∷ pops) all = absurd all
untouched_over halted [] (m ∷ after) pops all = absurd all
untouched_over halted (l ∷ links) [] pops all = absurd all
untouched_over halted (l ∷ links) (m ∷ after) [] all = absurd all
untouched_over halted (l ∷ links) (m ∷ after) (ps ∷ pops) all = (
  record {
    moved = all.0.0;
    head = [];
    rest = m.early;
    next = refl;
    numbers = sym (ap (λ qs. parcel_numbers (qs ++ [])) all.0.1);
    whole = λ e. refl;
  },
  untouched_over halted links after pops all.2,
)

-- what was popped of each link
pub popped-over : (halted : Bool) (links after : List LinkState) (pops : List (List Popped)) → ArePeersApart links →
    HaveComeTo halted links after pops → AllZip (IsPoppedOver halted (all_of pops)) links after
popped-over halted [] [] [] apart all = tt
popped-over halted [] [] (ps ∷ pops) apart all = absurd all
popped-over halted [] (m ∷ after) pops apart all = absurd all
popped-over halted (l ∷ links) [] pops apart all = absurd all
popped-over halted (l ∷ links) (m ∷ after) [] apart all = absurd all
popped-over halted (l ∷ links) (m ∷ after) (ps ∷ pops) apart (inl all) = (
  record {
    moved = all.0.drained.0;
    head = [];
    rest = m.early;
    next = refl;
    numbers =
        numbers-append l.peer ps (all_of pops)
        ∙ ap (λ ks. numbers_by l.peer ps ++ ks)
        (numbers-apart l.peer (peers_of links) (all_of pops) apart.0 (from-peers halted links after pops all.1))
        ∙ append-nil (numbers_by l.peer ps) ∙ numbers-as l.peer all.0.drained.0.takes ps all.0.are
        ∙ ap parcel_numbers (sym (append-nil all.0.drained.0.takes));
    whole = λ e. refl;
  },
  zip-there (IsPoppedOver halted (all_of pops)) (IsPoppedOver halted (ps ++ all_of pops)) links
      (λ k n there o. over_more halted ps (all_of pops) k n
      (none_of l.peer links k all.0.drained.0.takes ps apart.0 there all.0.are) o) links after (λ k there. there)
      (popped-over halted links after pops apart.1 all.1),
)
popped-over halted (l ∷ links) (m ∷ after) (ps ∷ pops) apart (inr all) = (
  record {
    moved = all.1.moved;
    head = all.1.head;
    rest = all.1.rest;
    next = all.1.next;
    numbers = ap (numbers_by l.peer) nothing_more ∙ numbers-as l.peer (all.1.moved.takes ++ all.1.head) ps all.1.are;
    whole = λ e. absurd (cc (e, all.0));
  },
  subst (λ qs. AllZip (IsPoppedOver halted qs) links after) (sym nothing_more)
      (zip-there (λ k n. IsPoppedOver halted [] k n) (IsPoppedOver halted ps) links
      (λ k n there o. subst (λ qs. IsPoppedOver halted qs k n) (append-nil ps) (over_more halted ps [] k n
      (none_of l.peer links k (all.1.moved.takes ++ all.1.head) ps apart.0 there all.1.are) o)) links after
      (λ k there. there) (untouched_over halted links after pops all.2)),
)
  where
    nothing_more : ps ++ all_of pops ≡ ps
    nothing_more = ap (λ qs. ps ++ qs) (untouched-none links after pops all.2) ∙ append-nil ps
