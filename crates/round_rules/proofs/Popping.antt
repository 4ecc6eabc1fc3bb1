-- What a station popped in the first of its turns, where all that stood in its rings was known.
use Rattle.std.proofs.{Common.{◌≡◌, ℕ, Bool, true, false, cond, nat_le, List, [], ◌∷◌, ◌++◌, filter, map, refl, sym, ap, ◌∙◌, subst, inl, inr, append-nil, append_assoc}, lemmas.List.{append_cancel_left, map-append}, lemmas.List.Concat.flat_map-append, ByRecursion.All-append}
use Rattle.std.specs.List.{AllByRecursion, AllZip, flat_map}
use mathlib.Core.List.{IsPrefix}
use Rattle.rtrb.specs.Ring.{known_items, received}
use Rattle.ason_base.specs.{Network.Network, declared.ids.NodeId.NodeId}
use Rattle.ason_base.proofs.Members.{all-left}
use Rattle.station_rings.specs.{Parcels.IsSentOf, declared.parcel.Parcel.Parcel, LinkStates.LinkState}
use Rattle.round_rules.specs.{Functions.Popped, OneWorker.{due_popped, popped_from, popped_of}, Records.{Record, deeds_at}, Rings.standing, Moves.HasMoved, Stands.{frame_of, parcel_ticked}, States.parcel_numbers, Turned.{HaveComeTo, IsCutShort, IsEmptied, IsPoppedAs, IsPoppedHeld, all_of, due_parcels}, declared.held.HeldParcel.HeldParcel}
use Rattle.round_rules.proofs.{Contents.{IsSameFrame, IsSent}, Exacts.{Exactly, all-exact, exactly, same-frames, sent_in_record}, Moving.moved-none, Stood.takes-what-stood, Turned.untouched-none}

zip_append : {X Y : Type 0} (P : X → Y → Type 0) (xs xs2 : List X) (ys ys2 : List Y) → AllZip P xs ys → AllZip P xs2
    ys2 →
    AllZip P (xs ++ xs2) (ys ++ ys2)
zip_append P [] xs2 [] ys2 f g = g
zip_append P [] xs2 (y ∷ ys) ys2 f g = absurd f
zip_append P (x ∷ xs) xs2 [] ys2 f g = absurd f
zip_append P (x ∷ xs) xs2 (y ∷ ys) ys2 f g = (f.0, zip_append P xs xs2 ys ys2 f.1 g)

-- the same frames, which bear what was sent
abbrev pub ArePopped : Network → Record → NodeId → List Popped → List Popped → Type 0
ArePopped t r n ps es = AllZip IsSameFrame ps es × AllByRecursion (IsSent (sent_in_record t r n)) es

both : (t : Network) (r : Record) (n : NodeId) (ps qs es fs : List Popped) → ArePopped t r n ps es →
    ArePopped t r n qs fs → ArePopped t r n (ps ++ qs) (es ++ fs)
both t r n ps qs es fs f g = (
  zip_append IsSameFrame ps qs es fs f.0 g.0,
  All-append (IsSent (sent_in_record t r n)) es fs f.1 g.1,
)

-- Of one link: what stood there, and that no more came.
pub record StoodAlone (t : Network) (r : Record) (n u : NodeId) (a b : LinkState) : Type 0 where
  pub peer : a.peer ≡ u
  pub stood : standing t r u n ≡ parcel_numbers (a.early ++ known_items a.into)
  pub sent : AllByRecursion (IsSentOf t u (deeds_at r u.0) n) (a.early ++ known_items a.into)
  pub begun : IsPrefix (received b.into) (received a.into ++ known_items a.into)

-- These are a first part of those, and all of them where the turn didn't halt.
pub record ArePoppedOf (t : Network) (r : Record) (n : NodeId) (halted : Bool) (ps all : List Popped) : Type 0 where
  pub first : List Popped
  pub more : List Popped
  pub all_is : all ≡ first ++ more
  pub are : ArePopped t r n ps first
  pub whole : halted ≡ false → more ≡ []

-- a first part of the parcels that stood there was popped
popped_part : (t : Network) (r : Record) (n u : NodeId) (a b : LinkState) (qs rest : List Parcel) (ps : List Popped) →
    StoodAlone t r n u a b → a.early ++ known_items a.into ≡ qs ++ rest → AllZip (IsPoppedAs a.peer) qs ps →
    ArePopped t r n ps (flat_map (popped_of t r n u) (parcel_numbers qs))
popped_part t r n u a b qs rest ps is split are =
    same-frames t r n u a.peer qs ps (flat_map (popped_of t r n u) (parcel_numbers qs)) is.peer are
    (all-exact t r n u qs (all-left (IsSentOf t u (deeds_at r u.0) n) qs rest (subst (AllByRecursion
    (IsSentOf t u (deeds_at r u.0) n)) split is.sent)))

one_emptied : (t : Network) (r : Record) (n u : NodeId) (a b : LinkState) (ps : List Popped) →
    StoodAlone t r n u a b → IsEmptied a b ps → ArePopped t r n ps (popped_from t r n u)
one_emptied t r n u a b ps is f =
    subst (λ ks. ArePopped t r n ps (flat_map (popped_of t r n u) ks)) (ap parcel_numbers all ∙ sym is.stood)
    (popped_part t r n u a b f.drained.0.takes [] ps is (sym all ∙ sym (append-nil f.drained.0.takes)) f.are)
  where
    all : f.drained.0.takes ≡ a.early ++ known_items a.into
    all =
        (takes-what-stood a b b f.drained.0 (moved-none b).0 (received a.into ++ known_items a.into) f.drained refl
        is.begun).first

-- where the turn halted at the link
one_cut : (t : Network) (r : Record) (n u : NodeId) (a b : LinkState) (ps : List Popped) →
    StoodAlone t r n u a b → IsCutShort a b ps → ArePoppedOf t r n true ps (popped_from t r n u)
one_cut t r n u a b ps is f = record {
  first = flat_map (popped_of t r n u) (parcel_numbers head);
  more = flat_map (popped_of t r n u) (parcel_numbers tail);
  all_is =
      ap (flat_map (popped_of t r n u)) (is.stood ∙ ap parcel_numbers split
      ∙ map-append (λ (q : Parcel). q.number) head tail)
      ∙ flat_map-append (popped_of t r n u) (parcel_numbers head) (parcel_numbers tail);
  are = popped_part t r n u a b head tail ps is split f.are;
  whole = λ e. absurd (cc (e));
}
  where
    head : List Parcel
    head = f.moved.takes ++ f.head

    tail : List Parcel
    tail = f.rest ++ is.begun.0

    came : f.moved.came ++ is.begun.0 ≡ known_items a.into
    came =
        append_cancel_left (received a.into) (f.moved.came ++ is.begun.0) (known_items a.into)
        (sym (append_assoc (received a.into) f.moved.came is.begun.0)
        ∙ ap (λ qs. qs ++ is.begun.0) (sym f.moved.into) ∙ is.begun.1)

    split : a.early ++ known_items a.into ≡ head ++ tail
    split =
        ap (λ qs. a.early ++ qs) (sym came) ∙ sym (append_assoc a.early f.moved.came is.begun.0)
        ∙ ap (λ qs. qs ++ is.begun.0) (f.moved.taken ∙ ap (λ qs. f.moved.takes ++ qs) f.next
        ∙ sym (append_assoc f.moved.takes f.head f.rest))
        ∙ append_assoc head f.rest is.begun.0

-- of all links
pub all-popped : (t : Network) (r : Record) (n : NodeId) (g : ℕ → LinkState) (halted : Bool) (ns : List NodeId)
    (after : List LinkState) (pops : List (List Popped)) →
    AllZip (λ (u : NodeId) (b : LinkState). StoodAlone t r n u (g u.0) b) ns after →
    HaveComeTo halted (map (λ (u : NodeId). g u.0) ns) after pops →
    ArePoppedOf t r n halted (all_of pops) (flat_map (popped_from t r n) ns)
all-popped t r n g halted [] [] [] stood f =
    record { first = []; more = []; all_is = refl; are = (tt, tt); whole = λ e. refl }
all-popped t r n g halted [] [] (ps ∷ pops) stood f = absurd f
all-popped t r n g halted [] (b ∷ after) pops stood f = absurd stood
all-popped t r n g halted (u ∷ ns) [] pops stood f = absurd stood
all-popped t r n g halted (u ∷ ns) (b ∷ after) [] stood f = absurd f
all-popped t r n g halted (u ∷ ns) (b ∷ after) (ps ∷ pops) stood (inl f) =
    let one = one_emptied t r n u (g u.0) b ps stood.0 f.0 in
    let rest = all-popped t r n g halted ns after pops stood.1 f.1 in
    record {
      first = popped_from t r n u ++ rest.first;
      more = rest.more;
      all_is =
          ap (λ qs. popped_from t r n u ++ qs) rest.all_is
          ∙ sym (append_assoc (popped_from t r n u) rest.first rest.more);
      are = both t r n ps (all_of pops) (popped_from t r n u) rest.first one rest.are;
      whole = rest.whole;
    }
all-popped t r n g halted (u ∷ ns) (b ∷ after) (ps ∷ pops) stood (inr f) =
    let one = one_cut t r n u (g u.0) b ps stood.0 f.1 in
    record {
      first = one.first;
      more = one.more ++ flat_map (popped_from t r n) ns;
      all_is =
          ap (λ qs. qs ++ flat_map (popped_from t r n) ns) one.all_is
          ∙ append_assoc one.first one.more (flat_map (popped_from t r n) ns);
      are =
          subst (λ qs. ArePopped t r n qs one.first) (sym (append-nil ps) ∙ ap (λ qs. ps ++ qs)
          (sym (untouched-none (map (λ (v : NodeId). g v.0) ns) after pops f.2))) one.are;
      whole = λ e. absurd (cc (e, f.0));
    }

-- Where nothing waits and nothing is taken, a turn that halts comes to no frame.
abbrev pub TakesNothing : LinkState → LinkState → Type 0
TakesNothing a b = ((f : HasMoved a b) → f.takes ≡ []) × (b.early ≡ [])

none_as : (u : NodeId) (qs : List Parcel) (ps : List Popped) → qs ≡ [] → AllZip (IsPoppedAs u) qs ps → ps ≡ []
none_as u [] [] e all = refl
none_as u [] (p ∷ ps) e all = absurd all
none_as u (q ∷ qs) ps e all = absurd (cc (e))

no_head : (head rest : List Parcel) → head ++ rest ≡ [] → head ≡ []
no_head [] rest e = refl
no_head (q ∷ head) rest e = absurd (cc (e))

pub none-popped : (halted : Bool) (g : ℕ → LinkState) (ns : List NodeId) (links : List LinkState)
    (pops : List (List Popped)) → AllZip (λ (u : NodeId) (b : LinkState). TakesNothing b (g u.0)) ns links →
    HaveComeTo halted links (map (λ (u : NodeId). g u.0) ns) pops → all_of pops ≡ []
none-popped halted g [] [] [] none f = refl
none-popped halted g [] [] (ps ∷ pops) none f = absurd f
none-popped halted g [] (b ∷ links) pops none f = absurd none
none-popped halted g (u ∷ ns) [] pops none f = absurd none
none-popped halted g (u ∷ ns) (b ∷ links) [] none f = absurd f
none-popped halted g (u ∷ ns) (b ∷ links) (ps ∷ pops) none (inl f) =
    ap (λ qs. qs ++ all_of pops) (none_as b.peer f.0.drained.0.takes ps (none.0.0 f.0.drained.0) f.0.are)
    ∙ none-popped halted g ns links pops none.1 f.1
none-popped halted g (u ∷ ns) (b ∷ links) (ps ∷ pops) none (inr f) =
    ap (λ qs. qs ++ all_of pops) (none_as b.peer (f.1.moved.takes ++ f.1.head) ps
    (ap (λ qs. qs ++ f.1.head) (none.0.0 f.1.moved) ∙ no_head f.1.head f.1.rest (sym f.1.next ∙ none.0.1)) f.1.are)
    ∙ untouched-none links (map (λ (v : NodeId). g v.0) ns) pops f.2

-- Held frames

-- each was sent by its neighbour
abbrev pub ParcelWasSent : Network → Record → NodeId → HeldParcel → Type 0
ParcelWasSent t r n h = IsSentOf t h.from (deeds_at r h.from.0) n h.parcel

due_sent : (t : Network) (r : Record) (n : NodeId) (hs : List HeldParcel) → AllByRecursion (ParcelWasSent t r n) hs →
    AllByRecursion (ParcelWasSent t r n) (filter (λ (h : HeldParcel). nat_le 2 h.ticks) hs)
due_sent t r n [] all = tt
due_sent t r n (h ∷ hs) all = go (nat_le 2 h.ticks) (due_sent t r n hs all.1)
  where
    go : (b : Bool) → AllByRecursion (ParcelWasSent t r n) (filter (λ (k : HeldParcel). nat_le 2 k.ticks) hs) →
        AllByRecursion (ParcelWasSent t r n)
        (cond b (h ∷ filter (λ (k : HeldParcel). nat_le 2 k.ticks) hs) (filter (λ (k : HeldParcel). nat_le 2 k.ticks)
        hs))
    go true rest = (all.0, rest)
    go false rest = rest

ticked_sent : (t : Network) (r : Record) (n : NodeId) (hs : List HeldParcel) → AllByRecursion (ParcelWasSent t r n) hs →
    AllByRecursion (ParcelWasSent t r n) (map parcel_ticked hs)
ticked_sent t r n [] all = tt
ticked_sent t r n (h ∷ hs) all = (all.0, ticked_sent t r n hs all.1)

due_same : (t : Network) (r : Record) (n : NodeId) (hs : List HeldParcel) (due : List Popped) →
    AllByRecursion (ParcelWasSent t r n) hs → AllZip IsPoppedHeld hs due →
    ArePopped t r n due (due_popped t r n (map frame_of hs))
due_same t r n [] [] sent f = (tt, tt)
due_same t r n [] (p ∷ due) sent f = absurd f
due_same t r n (h ∷ hs) [] sent f = absurd f
due_same t r n (h ∷ hs) (p ∷ due) sent f =
    let e : Exactly t r n h.from h.parcel = exactly t r n h.from h.parcel sent.0 in
    let rest = due_same t r n hs due sent.1 f.1 in
    subst (λ es. ArePopped t r n (p ∷ due) (es ++ due_popped t r n (map frame_of hs))) (sym e.one) (
      (
        record {
          from = f.0.from_it ∙ sym e.is.from;
          number = f.0.number ∙ sym e.is.number;
          stamp = f.0.stamp ∙ sym e.is.stamp;
        },
        rest.0,
      ),
      (e.is.sent, rest.1),
    )

-- those that are due after a tick
pub due-exact : (t : Network) (r : Record) (n : NodeId) (held : List HeldParcel) (due : List Popped) →
    AllByRecursion (ParcelWasSent t r n) held → AllZip IsPoppedHeld (due_parcels true held) due →
    ArePopped t r n due (due_popped t r n (map frame_of (due_parcels true held)))
due-exact t r n held due sent f =
    due_same t r n (due_parcels true held) due (due_sent t r n (map parcel_ticked held) (ticked_sent t r n held sent)) f
