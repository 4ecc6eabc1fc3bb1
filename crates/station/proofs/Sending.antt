-- Frames that go over the links of a station.
use Rattle.std.proofs.{Common.{◌≡◌, ◌≤◌, ◌<◌, ◌+◌, ◌^◌, ℕ, zero, suc, Bool, true, false, cond, not, nat_eq, nat_lt, List, eqb-true, [], ◌∷◌, ◌++◌, length, refl, sym, ap, ◌∙◌, subst, arith}, lemmas.Option.{none-some, same_Some}, ByRecursion.All-append}
use Rattle.std.specs.{Prelude.{position, slice_get, slice_set, Option, Some, None, MatchOption}, List.{AllByRecursion, AllZip, position_or_len}}
use Rattle.ason_base.specs.{declared.limits.TheConstants.MOST_FRAMES, declared.ids.NodeId.NodeId}
use Rattle.control_channels.specs.declared.frames.Frame.{Frame}
use Rattle.station_rings.specs.{declared.parcel.Parcel.Parcel, Links.{LinkView, link_after_frame, link_after_frames, is_link_view_to as is_view_to, with_parcel}, declared.parcels.Head.Head, LinkStates.{IsBearing, IsHead, LinkState, SameEnds, view_of}}
use Rattle.rtrb.specs.Ring.{known_items}
use Rattle.ason_base.proofs.Numbers.{apart-turned}
use Rattle.round_rules.specs.Moves.{ArePeersApart, IsSentOver, peers_of}
use Rattle.round_rules.proofs.Moving.{moved-none, moved-sent, same-ends}
use Rattle.station.specs.Sending.{IsEmptyAt, IsHeadAt, MaySend, NoneAbove, is_link_to}

-- One link

self_ends : (l : LinkState) → SameEnds l l
self_ends l = (moved-none l).0.ends

-- frames to others don't go over it
pub sent-none : (stamp : ℕ) (f : Frame) (l : LinkState) → is_link_to f.to l ≡ false → IsSentOver stamp (f ∷ []) l l
sent-none stamp f l other = record {
  view = sym (ap (λ b. cond b (with_parcel stamp f.bytes (view_of l)) (view_of l)) other);
  ends = self_ends l;
  into = refl;
  early = refl;
  same = λ unused. refl;
}

pub sent-one : (stamp : ℕ) (f : Frame) (l m : LinkState) → is_link_to f.to l ≡ true →
    view_of m ≡ with_parcel stamp f.bytes (view_of l) → SameEnds l m → m.into ≡ l.into → m.early ≡ l.early →
    m.used ≡ true → IsSentOver stamp (f ∷ []) l m
sent-one stamp f l m to view ends into early used = record {
  view = view ∙ sym (ap (λ b. cond b (with_parcel stamp f.bytes (view_of l)) (view_of l)) to);
  ends = ends;
  into = into;
  early = early;
  same = λ unused. absurd (cc (used, unused));
}

-- All links

-- none leads to the neighbour
pub sent-nowhere : (stamp : ℕ) (f : Frame) (links : List LinkState) →
    AllByRecursion (λ (l : LinkState). is_link_to f.to l ≡ false) links → AllZip (IsSentOver stamp (f ∷ [])) links links
sent-nowhere stamp f [] all = tt
sent-nowhere stamp f (l ∷ links) all = (sent-none stamp f l all.0, sent-nowhere stamp f links all.1)

others : (n : NodeId) (l : LinkState) (links : List LinkState) → is_link_to n l ≡ true →
    AllByRecursion (λ (m : NodeId). nat_eq m.0 l.peer.0 ≡ false) (peers_of links) →
    AllByRecursion (λ (m : LinkState). is_link_to n m ≡ false) links
others n l [] to all = tt
others n l (m ∷ links) to all =
    (ap (nat_eq m.peer.0) (sym (eqb-true l.peer.0 n.0 to)) ∙ all.0, others n l links to all.1)

at_peers : (P : NodeId → Type 0) (links : List LinkState) (i : ℕ) (l : LinkState) → slice_get links i ≡ Some l →
    AllByRecursion P (peers_of links) → P l.peer
at_peers P [] i l at all = absurd (none-some l at)
at_peers P (k ∷ links) zero l at all = subst (λ (x : LinkState). P x.peer) (same_Some k l at) all.0
at_peers P (k ∷ links) (suc i) l at all = at_peers P links i l at all.1

-- the one at this place does
pub sent-place : (stamp : ℕ) (f : Frame) (links : List LinkState) (i : ℕ) (l m : LinkState) →
    slice_get links i ≡ Some l → is_link_to f.to l ≡ true → ArePeersApart links → IsSentOver stamp (f ∷ []) l m →
    AllZip (IsSentOver stamp (f ∷ [])) links (slice_set links i m)
sent-place stamp f [] i l m at to apart is = absurd (none-some l at)
sent-place stamp f (k ∷ links) zero l m at to apart is =
    let same = same_Some k l at in (
      subst (λ (x : LinkState). IsSentOver stamp (f ∷ []) x m) (sym same) is,
      sent-nowhere stamp f links
          (others f.to k links (subst (λ (x : LinkState). is_link_to f.to x ≡ true) (sym same) to) apart.0),
    )
sent-place stamp f (k ∷ links) (suc i) l m at to apart is = (
  sent-none stamp f k
      (ap (nat_eq k.peer.0) (sym (eqb-true l.peer.0 f.to.0 to))
      ∙ apart-turned l.peer.0 k.peer.0 (at_peers (λ (x : NodeId). nat_eq x.0 k.peer.0 ≡ false) links i l at apart.0)),
  sent-place stamp f links i l m at to apart.1 is,
)

none_passes : (p : LinkState → Bool) (links : List LinkState) →
    nat_lt (position_or_len p links) (length links) ≡ false → AllByRecursion (λ (l : LinkState). p l ≡ false) links
none_passes p [] h = tt
none_passes p (l ∷ links) h = go (none_passes p links) (p l) refl h
  where
    nothing_below : (n : ℕ) → nat_lt 0 (suc n) ≡ false → ⊥
    nothing_below n h = absurd (grind (arith, h))

    farther : (a b : ℕ) → nat_lt (1 + a) (suc b) ≡ false → nat_lt a b ≡ false
    farther a b h = grind (arith, h)

    go : (nat_lt (position_or_len p links) (length links) ≡ false →
        AllByRecursion (λ (k : LinkState). p k ≡ false) links) → (b : Bool) → p l ≡ b →
        nat_lt (cond (not b) (1 + position_or_len p links) 0) (suc (length links)) ≡ false →
        AllByRecursion (λ (k : LinkState). p k ≡ false) (l ∷ links)
    go rest true e k = absurd (nothing_below (length links) k)
    go rest false e k = (e, rest (farther (position_or_len p links) (length links) k))

-- where a neighbour isn't found, no link leads there
pub nowhere : (p : LinkState → Bool) (links : List LinkState) → position p links ≡ None →
    AllByRecursion (λ (l : LinkState). p l ≡ false) links
nowhere p links none = go (nat_lt (position_or_len p links) (length links)) refl none
  where
    go : (b : Bool) → nat_lt (position_or_len p links) (length links) ≡ b →
        cond b (Some (position_or_len p links)) None ≡ None → AllByRecursion (λ (l : LinkState). p l ≡ false) links
    go true e h = absurd (cc (h))
    go false e h = none_passes p links e

-- Frames, one after the other

-- before any frame
pub sent-start : (stamp : ℕ) (links : List LinkState) → AllZip (IsSentOver stamp []) links links
sent-start stamp [] = tt
sent-start stamp (l ∷ links) = (
  record { view = refl; ends = self_ends l; into = refl; early = refl; same = λ unused. refl },
  sent-start stamp links,
)

after_more : (stamp : ℕ) (fs : List Frame) (f : Frame) (v : LinkView) →
    link_after_frames stamp (fs ++ f ∷ []) v ≡ link_after_frame stamp f (link_after_frames stamp fs v)
after_more stamp [] f v = refl
after_more stamp (g ∷ fs) f v = after_more stamp fs f (link_after_frame stamp g v)

sent_more : (stamp : ℕ) (fs : List Frame) (f : Frame) (l m k : LinkState) → IsSentOver stamp fs l m →
    IsSentOver stamp (f ∷ []) m k → IsSentOver stamp (fs ++ f ∷ []) l k
sent_more stamp fs f l m k a b = record {
  view = b.view ∙ ap (link_after_frame stamp f) a.view ∙ sym (after_more stamp fs f (view_of l));
  ends = same-ends l m k a.ends b.ends;
  into = b.into ∙ a.into;
  early = b.early ∙ a.early;
  same = λ unused.
      let last = b.same unused in last ∙ a.same (ap (λ (x : LinkState). x.used) (sym last) ∙ unused);
}

-- one frame more
pub sent-more : (stamp : ℕ) (fs : List Frame) (f : Frame) (xs ys zs : List LinkState) →
    AllZip (IsSentOver stamp fs) xs ys → AllZip (IsSentOver stamp (f ∷ [])) ys zs →
    AllZip (IsSentOver stamp (fs ++ f ∷ [])) xs zs
sent-more stamp fs f [] [] [] a b = tt
sent-more stamp fs f [] [] (z ∷ zs) a b = absurd b
sent-more stamp fs f [] (y ∷ ys) zs a b = absurd a
sent-more stamp fs f (x ∷ xs) [] zs a b = absurd a
sent-more stamp fs f (x ∷ xs) (y ∷ ys) [] a b = absurd b
sent-more stamp fs f (x ∷ xs) (y ∷ ys) (z ∷ zs) a b =
    (sent_more stamp fs f x y z a.0 b.0, sent-more stamp fs f xs ys zs a.1 b.1)

-- Numbers and stamps

frame_sent : (stamp : ℕ) (f : Frame) (v : LinkView) → (link_after_frame stamp f v).sent ≤ v.sent + 1
frame_sent stamp f v = go (is_view_to f.to v)
  where
    go : (b : Bool) → (cond b (with_parcel stamp f.bytes v) v).sent ≤ v.sent + 1
    go true = omega arith
    go false = omega arith

two : (a b c d : ℕ) → a ≤ b + d → b ≤ c + 1 → a ≤ c + suc d
two a b c d h k = omega (arith, h, k)

frames_sent : (stamp : ℕ) (fs : List Frame) (v : LinkView) → (link_after_frames stamp fs v).sent ≤ v.sent + length fs
frames_sent stamp [] v = omega arith
frames_sent stamp (f ∷ fs) v =
    two (link_after_frames stamp fs (link_after_frame stamp f v)).sent (link_after_frame stamp f v).sent v.sent
    (length fs)
    (frames_sent stamp fs (link_after_frame stamp f v)) (frame_sent stamp f v)

-- a link over which frames went has sent as many more at most
pub over-sent : (stamp : ℕ) (fs : List Frame) (l m : LinkState) → IsSentOver stamp fs l m →
    m.sent ≤ l.sent + length fs
over-sent stamp fs l m is =
    subst (λ (v : LinkView). v.sent ≤ l.sent + length fs) (sym is.view) (frames_sent stamp fs (view_of l))

abbrev Below : ℕ → List Parcel → Type 0
Below stamp ps = AllByRecursion (λ (p : Parcel). p.stamp ≤ stamp) ps

frame_below : (stamp : ℕ) (f : Frame) (v : LinkView) → Below stamp v.gone →
    Below stamp (link_after_frame stamp f v).gone
frame_below stamp f v all = go (is_view_to f.to v) (nat_lt v.standing MOST_FRAMES)
  where
    p : Parcel
    p = record { number = v.sent + 1; stamp = stamp; frame = f.bytes }

    kept : (b : Bool) → Below stamp (cond b (v.gone ++ p ∷ []) v.gone)
    kept true = All-append (λ (q : Parcel). q.stamp ≤ stamp) v.gone (p ∷ []) all (omega arith, tt)
    kept false = all

    go : (b c : Bool) → Below stamp (cond b (record v {
      sent = v.sent + 1;
      standing = cond c (v.standing + 1) v.standing;
      gone = cond c (v.gone ++ p ∷ []) v.gone;
    }) v).gone
    go true c = kept c
    go false c = all

frames_below : (stamp : ℕ) (fs : List Frame) (v : LinkView) → Below stamp v.gone →
    Below stamp (link_after_frames stamp fs v).gone
frames_below stamp [] v all = all
frames_below stamp (f ∷ fs) v all =
    frames_below stamp fs (link_after_frame stamp f v) (frame_below stamp f v all)

-- and no stamp above theirs
pub over-below : (stamp : ℕ) (fs : List Frame) (l m : LinkState) → IsSentOver stamp fs l m → NoneAbove stamp l →
    NoneAbove stamp m
over-below stamp fs l m is all =
    subst (λ (v : LinkView). Below stamp v.gone) (sym is.view) (frames_below stamp fs (view_of l) all)

less : (a b c d : ℕ) → a ≤ b + c → c + 1 ≤ d → b + d < 2 ^ 64 → a + 1 < 2 ^ 64
less a b c d h i j = omega (arith, h, i, j)

-- a frame more can be sent
pub may-still : (stamp k : ℕ) (fs : List Frame) (xs ys : List LinkState) → length fs + 1 ≤ k →
    AllZip (IsSentOver stamp fs) xs ys → AllByRecursion (MaySend k stamp) xs → AllByRecursion (MaySend 1 stamp) ys
may-still stamp k fs [] [] le sent may = tt
may-still stamp k fs [] (y ∷ ys) le sent may = absurd sent
may-still stamp k fs (x ∷ xs) [] le sent may = absurd sent
may-still stamp k fs (x ∷ xs) (y ∷ ys) le sent may = (
  record {
    numbers = less y.sent x.sent (length fs) k (over-sent stamp fs x y sent.0) le may.0.numbers;
    stamps = over-below stamp fs x y sent.0 may.0.stamps;
  },
  may-still stamp k fs xs ys le sent.1 may.1,
)

-- they lead where they led
pub sent-peers : (stamp : ℕ) (fs : List Frame) (xs ys : List LinkState) → AllZip (IsSentOver stamp fs) xs ys →
    peers_of ys ≡ peers_of xs
sent-peers stamp fs [] [] all = refl
sent-peers stamp fs [] (y ∷ ys) all = absurd all
sent-peers stamp fs (x ∷ xs) [] all = absurd all
sent-peers stamp fs (x ∷ xs) (y ∷ ys) all =
    λ i. (moved-sent stamp fs x y all.0).0.peer i ∷ sent-peers stamp fs xs ys all.1 i

-- Links at a place

get_set : (links : List LinkState) (i : ℕ) (l m : LinkState) → slice_get links i ≡ Some l →
    slice_get (slice_set links i m) i ≡ Some m
get_set [] i l m at = absurd (none-some l at)
get_set (k ∷ links) zero l m at = refl
get_set (k ∷ links) (suc i) l m at = get_set links i l m at

-- what is known of the first frame of the link that was written there
pub head-at : (r : Option Head) (links : List LinkState) (i : ℕ) (l m : LinkState) → slice_get links i ≡ Some l →
    AllByRecursion IsBearing m.early →
    MatchOption r ((m.early ≡ []) × (known_items m.into ≡ [])) (λ h. IsHead h m.early) →
    MatchOption r (IsEmptyAt i (slice_set links i m)) (λ h. IsHeadAt h i (slice_set links i m))
head-at None links i l m at bears is =
    record { link = m; there = get_set links i l m at; early = is.0; known = is.1 }
head-at (Some h) links i l m at bears is =
    record { link = m; there = get_set links i l m at; head = is; bears = bears }
