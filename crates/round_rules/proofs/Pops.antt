-- The frames to which a turn came, link by link.
use Rattle.std.proofs.Common.{◌≡◌, inl, inr, ℕ, zero, suc, Bool, true, List, [], ◌∷◌, ◌++◌, map, refl, sym, ap, ◌∙◌, subst}
use Rattle.std.specs.List.{AllZip}
use Rattle.ason_base.specs.declared.ids.NodeId.{NodeId}
use Rattle.round_rules.specs.{Functions.Popped, Moves.{HasMoved, TakesAt, TakesNone}, Places.{FromPlace, HasPopped, HaveComeOn, OfLinks}, Turned.{AreUntouched, HaveComeTo, IsCutShort, IsEmptied, IsPoppedAs, all_of}}
use Rattle.station_rings.specs.{declared.parcel.Parcel.Parcel, LinkStates.LinkState}
use Rattle.round_rules.proofs.{Draining.drained-then, Moving.moved-then, Places.{NoneTaken, none-then, nones}}

-- None

abbrev pub no_pops : List LinkState → List (List Popped)
no_pops links = map (λ (l : LinkState). []) links

pub none-all : (links : List LinkState) → all_of (no_pops links) ≡ []
none-all [] = refl
none-all (l ∷ links) = none-all links

pub cut-none : (l m : LinkState) → TakesNone l m → IsCutShort l m []
cut-none l m is = record {
  moved = is.0;
  head = [];
  rest = m.early;
  next = refl;
  are = subst (λ ts. AllZip (IsPoppedAs l.peer) (ts ++ []) []) (sym is.1) tt;
}

pub popped-none : (l m : LinkState) (ps : List Popped) → TakesNone l m → ps ≡ [] → HasPopped l m ps
popped-none l m ps is none = record {
  moved = is.0;
  are =
      subst (λ qs. AllZip (IsPoppedAs l.peer) is.0.takes qs) (sym none)
      (subst (λ ts. AllZip (IsPoppedAs l.peer) ts []) (sym is.1) tt);
}

-- frames were sent alone
pub untouched : (links after : List LinkState) → NoneTaken links after → AreUntouched links after (no_pops links)
untouched [] [] is = tt
untouched [] (m ∷ after) is = absurd is
untouched (l ∷ links) [] is = absurd is
untouched (l ∷ links) (m ∷ after) is = (is.0, refl, untouched links after is.1)

-- a turn halted before its rings
pub none-came : (links after : List LinkState) → NoneTaken links after → HaveComeTo true links after (no_pops links)
none-came [] [] is = tt
none-came [] (m ∷ after) is = absurd is
none-came (l ∷ links) [] is = absurd is
none-came (l ∷ links) (m ∷ after) is = inr (refl, cut-none l m is.0, untouched links after is.1)

-- Before others

emptied_after : (l m k : LinkState) (ps : List Popped) → TakesNone l m → IsEmptied m k ps → IsEmptied l k ps
emptied_after l m k ps a is = record {
  drained = drained-then l m k a.0 is.drained;
  are =
      subst (λ ts. AllZip (IsPoppedAs l.peer) (ts ++ is.drained.0.takes) ps) (sym a.1)
      (subst (λ u. AllZip (IsPoppedAs u) is.drained.0.takes ps) a.0.peer is.are);
}

popped_after : (l m k : LinkState) (ps : List Popped) → TakesNone l m → HasPopped m k ps → HasPopped l k ps
popped_after l m k ps a is = record {
  moved = moved-then l m k a.0 is.moved;
  are =
      subst (λ ts. AllZip (IsPoppedAs l.peer) (ts ++ is.moved.takes) ps) (sym a.1)
      (subst (λ u. AllZip (IsPoppedAs u) is.moved.takes ps) a.0.peer is.are);
}

cut_after : (l m k : LinkState) (ps : List Popped) → TakesNone l m → IsCutShort m k ps → IsCutShort l k ps
cut_after l m k ps a is = record {
  moved = moved-then l m k a.0 is.moved;
  head = is.head;
  rest = is.rest;
  next = is.next;
  are =
      subst (λ ts. AllZip (IsPoppedAs l.peer) ((ts ++ is.moved.takes) ++ is.head) ps) (sym a.1)
      (subst (λ u. AllZip (IsPoppedAs u) (is.moved.takes ++ is.head) ps) a.0.peer is.are);
}

untouched_then : (xs ys zs : List LinkState) (pops : List (List Popped)) → NoneTaken xs ys →
    AreUntouched ys zs pops → AreUntouched xs zs pops
untouched_then [] [] [] [] a b = tt
untouched_then [] [] [] (ps ∷ pops) a b = absurd b
untouched_then [] [] (z ∷ zs) pops a b = absurd b
untouched_then [] (y ∷ ys) zs pops a b = absurd a
untouched_then (x ∷ xs) [] zs pops a b = absurd a
untouched_then (x ∷ xs) (y ∷ ys) [] pops a b = absurd b
untouched_then (x ∷ xs) (y ∷ ys) (z ∷ zs) [] a b = absurd b
untouched_then (x ∷ xs) (y ∷ ys) (z ∷ zs) (ps ∷ pops) a b =
    (none-then x y z a.0 b.0, b.1, untouched_then xs ys zs pops a.1 b.2)

-- frames were sent before
pub came-then : (halted : Bool) (xs ys zs : List LinkState) (pops : List (List Popped)) → NoneTaken xs ys →
    HaveComeTo halted ys zs pops → HaveComeTo halted xs zs pops
came-then halted [] [] [] [] a b = tt
came-then halted [] [] [] (ps ∷ pops) a b = absurd b
came-then halted [] [] (z ∷ zs) pops a b = absurd b
came-then halted [] (y ∷ ys) zs pops a b = absurd a
came-then halted (x ∷ xs) [] zs pops a b = absurd a
came-then halted (x ∷ xs) (y ∷ ys) [] pops a b = absurd b
came-then halted (x ∷ xs) (y ∷ ys) (z ∷ zs) [] a b = absurd b
came-then halted (x ∷ xs) (y ∷ ys) (z ∷ zs) (ps ∷ pops) a (inl b) =
    inl (emptied_after x y z ps a.0 b.0, came-then halted xs ys zs pops a.1 b.1)
came-then halted (x ∷ xs) (y ∷ ys) (z ∷ zs) (ps ∷ pops) a (inr b) =
    inr (b.0, cut_after x y z ps a.0 b.1, untouched_then xs ys zs pops a.1 b.2)

pub on-then : (first : LinkState) (halted : Bool) (xs ys zs : List LinkState) (pops : List (List Popped)) →
    NoneTaken xs ys → HaveComeOn first halted ys zs pops → HaveComeOn first halted xs zs pops
on-then first halted [] [] zs pops a b = absurd b
on-then first halted [] (y ∷ ys) zs pops a b = absurd a
on-then first halted (x ∷ xs) [] zs pops a b = absurd a
on-then first halted (x ∷ xs) (y ∷ ys) [] pops a b = absurd b
on-then first halted (x ∷ xs) (y ∷ ys) (z ∷ zs) [] a b = absurd b
on-then first halted (x ∷ xs) (y ∷ ys) (z ∷ zs) (ps ∷ pops) a (inl b) =
    inl (popped_after x y z ps a.0 b.0, b.1, came-then halted xs ys zs pops a.1 b.2)
on-then first halted (x ∷ xs) (y ∷ ys) (z ∷ zs) (ps ∷ pops) a (inr b) =
    inr (b.0, cut_after x y z ps a.0 b.1, untouched_then xs ys zs pops a.1 b.2)

pub from-then : (first : LinkState) (halted : Bool) (i : ℕ) (xs ys zs : List LinkState) (pops : List (List Popped)) →
    NoneTaken xs ys → FromPlace (HaveComeOn first halted) i ys zs pops →
    FromPlace (HaveComeOn first halted) i xs zs pops
from-then first halted zero xs ys zs pops a b = on-then first halted xs ys zs pops a b
from-then first halted (suc i) [] [] zs pops a b = b
from-then first halted (suc i) [] (y ∷ ys) zs pops a b = absurd a
from-then first halted (suc i) (x ∷ xs) [] zs pops a b = absurd a
from-then first halted (suc i) (x ∷ xs) (y ∷ ys) [] pops a b = absurd b
from-then first halted (suc i) (x ∷ xs) (y ∷ ys) (z ∷ zs) [] a b = absurd b
from-then first halted (suc i) (x ∷ xs) (y ∷ ys) (z ∷ zs) (ps ∷ pops) a b =
    (none-then x y z a.0 b.0, b.1, from-then first halted i xs ys zs pops a.1 b.2)

-- A frame that is taken

abbrev pub put_at : ℕ → Popped → List (List Popped) → List (List Popped)
put_at i p [] = []
put_at zero p (ps ∷ pops) = (p ∷ ps) ∷ pops
put_at (suc i) p (ps ∷ pops) = ps ∷ put_at i p pops

-- what came of a frame that was taken at a place, before others that were taken there and later
pub record FrameTaken (R : OfLinks) (xs zs : List LinkState) (i : ℕ) (p : Popped) (pops : List (List Popped)) : Type 0
  where
    pub are : FromPlace R i xs zs (put_at i p pops)
    pub all : all_of (put_at i p pops) ≡ p ∷ all_of pops

-- the first link that is taken from
record TakenFirst (u : NodeId) (q : Parcel) (l m : LinkState) : Type 0 where
  moved : HasMoved l m
  one : moved.takes ≡ q ∷ []
  peer : l.peer ≡ u

popped_taken : (u : NodeId) (q : Parcel) (p : Popped) (l m k : LinkState) (ps : List Popped) → TakenFirst u q l m →
    IsPoppedAs u q p → HasPopped m k ps → HasPopped l k (p ∷ ps)
popped_taken u q p l m k ps a popped is = record {
  moved = moved-then l m k a.moved is.moved;
  are =
      subst (λ ts. AllZip (IsPoppedAs l.peer) (ts ++ is.moved.takes) (p ∷ ps)) (sym a.one) (
        subst (λ v. IsPoppedAs v q p) (sym a.peer) popped,
        subst (λ v. AllZip (IsPoppedAs v) is.moved.takes ps) a.moved.peer is.are,
      );
}

cut_taken : (u : NodeId) (q : Parcel) (p : Popped) (l m k : LinkState) (ps : List Popped) → TakenFirst u q l m →
    IsPoppedAs u q p → IsCutShort m k ps → IsCutShort l k (p ∷ ps)
cut_taken u q p l m k ps a popped is = record {
  moved = moved-then l m k a.moved is.moved;
  head = is.head;
  rest = is.rest;
  next = is.next;
  are =
      subst (λ ts. AllZip (IsPoppedAs l.peer) ((ts ++ is.moved.takes) ++ is.head) (p ∷ ps)) (sym a.one) (
        subst (λ v. IsPoppedAs v q p) (sym a.peer) popped,
        subst (λ v. AllZip (IsPoppedAs v) (is.moved.takes ++ is.head) ps) a.moved.peer is.are,
      );
}

pub taken-first : (first : LinkState) (halted : Bool) (u : NodeId) (q : Parcel) (p : Popped) (i : ℕ)
    (xs ys zs : List LinkState) (pops : List (List Popped)) → IsPoppedAs u q p → TakesAt u q i xs ys →
    FromPlace (HaveComeOn first halted) i ys zs pops → FrameTaken (HaveComeOn first halted) xs zs i p pops
taken-first first halted u q p i [] ys zs pops popped a b = absurd a
taken-first first halted u q p i (x ∷ xs) [] zs pops popped a b = absurd a
taken-first first halted u q p zero (x ∷ xs) (y ∷ ys) [] pops popped a b = absurd b
taken-first first halted u q p (suc i) (x ∷ xs) (y ∷ ys) [] pops popped a b = absurd b
taken-first first halted u q p zero (x ∷ xs) (y ∷ ys) (z ∷ zs) [] popped a b = absurd b
taken-first first halted u q p (suc i) (x ∷ xs) (y ∷ ys) (z ∷ zs) [] popped a b = absurd b
taken-first first halted u q p zero (x ∷ xs) (y ∷ ys) (z ∷ zs) (ps ∷ pops) popped a b =
    record { are = go b; all = refl }
  where
    one : TakenFirst u q x y
    one = record { moved = a.0.0; one = a.0.1; peer = a.0.2 }

    go : HaveComeOn first halted (y ∷ ys) (z ∷ zs) (ps ∷ pops) →
        HaveComeOn first halted (x ∷ xs) (z ∷ zs) ((p ∷ ps) ∷ pops)
    go (inl b) = inl (popped_taken u q p x y z ps one popped b.0, b.1, came-then halted xs ys zs pops a.1 b.2)
    go (inr b) = inr (b.0, cut_taken u q p x y z ps one popped b.1, untouched_then xs ys zs pops a.1 b.2)
taken-first first halted u q p (suc i) (x ∷ xs) (y ∷ ys) (z ∷ zs) (ps ∷ pops) popped a b =
    let rest = taken-first first halted u q p i xs ys zs pops popped a.1 b.2 in
    record {
      are = (none-then x y z a.0 b.0, b.1, rest.are);
      all =
          ap (λ qs. qs ++ all_of (put_at i p pops)) b.1 ∙ rest.all
          ∙ ap (λ qs. p ∷ (qs ++ all_of pops)) (sym b.1);
    }

-- and the turn halts
pub stops-at : (first : LinkState) (u : NodeId) (q : Parcel) (i : ℕ) (xs ys : List LinkState) → TakesAt u q i xs ys →
    FromPlace (HaveComeOn first true) i ys ys (no_pops ys)
stops-at first u q i [] ys a = absurd a
stops-at first u q i (x ∷ xs) [] a = absurd a
stops-at first u q zero (x ∷ xs) (y ∷ ys) a =
    let none = nones (y ∷ ys) in inr (refl, cut-none y y none.0, untouched ys ys none.1)
stops-at first u q (suc i) (x ∷ xs) (y ∷ ys) a = ((nones (y ∷ ys)).0, refl, stops-at first u q i xs ys a.1)

-- A frame that stays

-- this parcel is the first that wasn't taken at the place, and frames were sent
abbrev pub StaysAt : NodeId → Parcel → ℕ → List LinkState → List LinkState → Type 0
StaysAt u q i [] after = ⊥
StaysAt u q i (l ∷ links) [] = ⊥
StaysAt u q zero (l ∷ links) (m ∷ after) =
    (TakesNone l m × (l.peer ≡ u) × ((rest : List Parcel) × (m.early ≡ q ∷ rest))) × NoneTaken links after
StaysAt u q (suc i) (l ∷ links) (m ∷ after) = TakesNone l m × StaysAt u q i links after

pub left-at : (first : LinkState) (u : NodeId) (q : Parcel) (p : Popped) (i : ℕ) (xs ys : List LinkState) →
    IsPoppedAs u q p → StaysAt u q i xs ys → FrameTaken (HaveComeOn first true) xs ys i p (no_pops xs)
left-at first u q p i [] ys popped a = absurd a
left-at first u q p i (x ∷ xs) [] popped a = absurd a
left-at first u q p zero (x ∷ xs) (y ∷ ys) popped a = record {
  are =
      inr (
        refl,
        record {
          moved = a.0.0.0;
          head = q ∷ [];
          rest = a.0.2.0;
          next = a.0.2.1;
          are =
              subst (λ ts. AllZip (IsPoppedAs x.peer) (ts ++ q ∷ []) (p ∷ [])) (sym a.0.0.1)
              (subst (λ v. IsPoppedAs v q p) (sym a.0.1) popped, tt);
        },
        untouched xs ys a.1,
      );
  all = refl;
}
left-at first u q p (suc i) (x ∷ xs) (y ∷ ys) popped a =
    let rest = left-at first u q p i xs ys popped a.1 in
    record { are = (a.0, refl, rest.are); all = rest.all }
