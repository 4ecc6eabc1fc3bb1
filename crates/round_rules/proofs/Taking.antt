-- The numbers that were taken of each link, as its node does more.
use Rattle.std.proofs.{Common.{◌≡◌, ℕ, zero, suc, true, false, cond, nat_eq, List, [], ◌∷◌, ◌++◌, map, refl, sym, ap, ◌∙◌, subst, arith, append-nil, append_assoc}, lemmas.List.Elements.Contains-append_right}
use Rattle.std.specs.{Prelude.Option, List.{AllByRecursion, AllZip, Contains}}
use Rattle.rtrb.specs.Ring.{received, sent}
use Rattle.ason_base.specs.{declared.commands.DisturbKind.DisturbKind, declared.ids.NodeId.NodeId}
use Rattle.ason_base.proofs.Members.{contains-head, contains-tail}
use Rattle.control_channels.specs.declared.frames.Frame.{Frame}
use Rattle.round_rules.specs.{Doings.{Doing, Got}, Rings.got_from, Moves.{ArePeersApart, IsChangedAt, IsSentOver, IsTakenOf, peers_of}, Stands.CameFrom, States.{IsTakenFrom, parcel_numbers}}
use Rattle.station_rings.specs.{declared.parcel.Parcel.Parcel, Links.{HasGot, LinkView, link_after_frames}, LinkStates.{IsFetched, LinkState, view_of}}
use Rattle.station_rings.proofs.Linking.{kept-link}
use Rattle.round_rules.proofs.Numbers.{got-append}

-- What was taken by what was done

-- these took nothing
abbrev pub TakeNothing : List Doing → Type 0
TakeNothing es = (u : NodeId) → got_from u es ≡ []

got_same : (u : NodeId) (ds es : List Doing) → TakeNothing es → got_from u (ds ++ es) ≡ got_from u ds
got_same u ds es none = got-append u ds es ∙ ap (λ ks. got_from u ds ++ ks) (none u) ∙ append-nil (got_from u ds)

one_taken : (ds es : List Doing) (l m : LinkState) → TakeNothing es → m.peer ≡ l.peer → m.early ≡ l.early →
    received m.into ≡ received l.into → IsTakenFrom ds l → IsTakenFrom (ds ++ es) m
one_taken ds es l m none peer early into is = record {
  taken = is.taken;
  came = into ∙ is.came ∙ ap (λ ps. is.taken ++ ps) (sym early);
  numbers =
      is.numbers ∙ sym (got_same l.peer ds es none) ∙ ap (λ u. got_from u (ds ++ es)) (sym peer);
}

-- the same links
pub taken-still : (ds es : List Doing) (links : List LinkState) → TakeNothing es →
    AllByRecursion (IsTakenFrom ds) links → AllByRecursion (IsTakenFrom (ds ++ es)) links
taken-still ds es [] none all = tt
taken-still ds es (l ∷ links) none all =
    (one_taken ds es l l none refl refl refl all.0, taken-still ds es links none all.1)

sent_peer : (stamp : ℕ) (fs : List Frame) (l m : LinkState) → IsSentOver stamp fs l m → m.peer ≡ l.peer
sent_peer stamp fs l m is = ap (λ (v : LinkView). v.peer) is.view ∙ (kept-link stamp fs (view_of l)).peer

-- frames were sent
pub taken-sent : (stamp : ℕ) (fs : List Frame) (ds es : List Doing) (links after : List LinkState) →
    TakeNothing es → AllZip (IsSentOver stamp fs) links after → AllByRecursion (IsTakenFrom ds) links →
    AllByRecursion (IsTakenFrom (ds ++ es)) after
taken-sent stamp fs ds es [] [] none sent all = tt
taken-sent stamp fs ds es [] (m ∷ after) none sent all = absurd sent
taken-sent stamp fs ds es (l ∷ links) [] none sent all = absurd sent
taken-sent stamp fs ds es (l ∷ links) (m ∷ after) none sent all = (
  one_taken ds es l m none (sent_peer stamp fs l m sent.0) sent.0.early (ap received sent.0.into) all.0,
  taken-sent stamp fs ds es links after none sent.1 all.1,
)

-- Frames that came out of a ring

one_fetched : (ds : List Doing) (l m : LinkState) → IsFetched l m → IsTakenFrom ds l → IsTakenFrom ds m
one_fetched ds l m f is = record {
  taken = is.taken;
  came =
      f.came ∙ ap (λ ps. ps ++ f.more) is.came ∙ append_assoc is.taken l.early f.more
      ∙ ap (λ ps. is.taken ++ ps) (sym f.early);
  numbers = is.numbers ∙ ap (λ u. got_from u ds) (sym f.peer);
}

pub taken-fetched : (ds : List Doing) (i : ℕ) (links after : List LinkState) → IsChangedAt IsFetched i links after →
    AllByRecursion (IsTakenFrom ds) links → AllByRecursion (IsTakenFrom ds) after
taken-fetched ds i [] after is all = absurd is
taken-fetched ds i (l ∷ links) [] is all = absurd is
taken-fetched ds zero (l ∷ links) (m ∷ after) is all =
    (one_fetched ds l m is.0 all.0, subst (AllByRecursion (IsTakenFrom ds)) (sym is.1) all.1)
taken-fetched ds (suc i) (l ∷ links) (m ∷ after) is all =
    (subst (IsTakenFrom ds) (sym is.0) all.0, taken-fetched ds i links after is.1 all.1)

-- A frame that is taken

abbrev took : NodeId → ℕ → Option DisturbKind → List Doing
took u k says = Got u k says ∷ []

got_it : (u v : NodeId) (k : ℕ) (says : Option DisturbKind) (ds : List Doing) → v ≡ u →
    got_from v (ds ++ took u k says) ≡ got_from v ds ++ k ∷ []
got_it u v k says ds e =
    got-append v ds (took u k says)
    ∙ ap (λ b. got_from v ds ++ cond b (k ∷ []) []) (ap (λ (w : NodeId). nat_eq u.0 w.0) e ∙ self u.0)
  where
    self : (a : ℕ) → nat_eq a a ≡ true
    self a = grind arith

got_other : (u v : NodeId) (k : ℕ) (says : Option DisturbKind) (ds : List Doing) → nat_eq u.0 v.0 ≡ false →
    got_from v (ds ++ took u k says) ≡ got_from v ds
got_other u v k says ds e =
    got-append v ds (took u k says) ∙ ap (λ b. got_from v ds ++ cond b (k ∷ []) []) e ∙ append-nil (got_from v ds)

numbers_one : (ps : List Parcel) (q : Parcel) → parcel_numbers (ps ++ q ∷ []) ≡ parcel_numbers ps ++ q.number ∷ []
numbers_one [] q = refl
numbers_one (p ∷ ps) q = ap (λ ks. p.number ∷ ks) (numbers_one ps q)

taken_one : (u : NodeId) (q : Parcel) (says : Option DisturbKind) (ds : List Doing) (l m : LinkState) →
    IsTakenOf u q l m → IsTakenFrom ds l → IsTakenFrom (ds ++ took u q.number says) m
taken_one u q says ds l m f is = record {
  taken = is.taken ++ q ∷ [];
  came =
      ap received f.taken.into ∙ is.came ∙ ap (λ ps. is.taken ++ ps) f.taken.first
      ∙ sym (append_assoc is.taken (q ∷ []) m.early);
  numbers =
      numbers_one is.taken q ∙ ap (λ ks. ks ++ q.number ∷ []) is.numbers
      ∙ sym (got_it u l.peer q.number says ds f.peer)
      ∙ ap (λ v. got_from v (ds ++ took u q.number says)) (sym f.taken.peer);
}

other_one : (u : NodeId) (k : ℕ) (says : Option DisturbKind) (ds : List Doing) (l : LinkState) →
    nat_eq u.0 l.peer.0 ≡ false → IsTakenFrom ds l → IsTakenFrom (ds ++ took u k says) l
other_one u k says ds l e is = record {
  taken = is.taken;
  came = is.came;
  numbers = is.numbers ∙ sym (got_other u l.peer k says ds e);
}

other_links : (u : NodeId) (k : ℕ) (says : Option DisturbKind) (ds : List Doing) (l : LinkState)
    (links : List LinkState) → l.peer ≡ u →
    AllByRecursion (λ (m : NodeId). nat_eq m.0 l.peer.0 ≡ false) (peers_of links) →
    AllByRecursion (IsTakenFrom ds) links → AllByRecursion (IsTakenFrom (ds ++ took u k says)) links
other_links u k says ds l [] at apart all = tt
other_links u k says ds l (m ∷ links) at apart all = (
  other_one u k says ds m (ap (λ (v : NodeId). nat_eq v.0 m.peer.0) (sym at) ∙ turned m.peer.0 l.peer.0 apart.0) all.0,
  other_links u k says ds l links at apart.1 all.1,
)
  where
    turned : (a b : ℕ) → nat_eq a b ≡ false → nat_eq b a ≡ false
    turned a b h = grind (arith, h)

-- the place leads to u, and none of these does
later_peer : (u : NodeId) (q : Parcel) (l : LinkState) (i : ℕ) (links after : List LinkState) →
    IsChangedAt (IsTakenOf u q) i links after →
    AllByRecursion (λ (m : NodeId). nat_eq m.0 l.peer.0 ≡ false) (peers_of links) → nat_eq u.0 l.peer.0 ≡ false
later_peer u q l i [] after is apart = absurd is
later_peer u q l i (k ∷ links) [] is apart = absurd is
later_peer u q l zero (k ∷ links) (m ∷ after) is apart =
    ap (λ (v : NodeId). nat_eq v.0 l.peer.0) (sym is.0.peer) ∙ apart.0
later_peer u q l (suc i) (k ∷ links) (m ∷ after) is apart = later_peer u q l i links after is.1 apart.1

pub taken-one : (u : NodeId) (q : Parcel) (says : Option DisturbKind) (ds : List Doing) (i : ℕ)
    (links after : List LinkState) → ArePeersApart links → IsChangedAt (IsTakenOf u q) i links after →
    AllByRecursion (IsTakenFrom ds) links → AllByRecursion (IsTakenFrom (ds ++ took u q.number says)) after
taken-one u q says ds i [] after apart is all = absurd is
taken-one u q says ds i (l ∷ links) [] apart is all = absurd is
taken-one u q says ds zero (l ∷ links) (m ∷ after) apart is all = (
  taken_one u q says ds l m is.0 all.0,
  subst (AllByRecursion (IsTakenFrom (ds ++ took u q.number says))) (sym is.1)
      (other_links u q.number says ds l links is.0.peer apart.0 all.1),
)
taken-one u q says ds (suc i) (l ∷ links) (m ∷ after) apart is all = (
  subst (IsTakenFrom (ds ++ took u q.number says)) (sym is.0)
      (other_one u q.number says ds l (later_peer u q l i links after is.1 apart.0) all.0),
  taken-one u q says ds i links after apart.1 is.1 all.1,
)

-- How the laws of stations see it

pub views-taken : (u : NodeId) (q : Parcel) (i : ℕ) (links after : List LinkState) →
    IsChangedAt (IsTakenOf u q) i links after → map view_of after ≡ map view_of links
views-taken u q i [] after is = absurd is
views-taken u q i (l ∷ links) [] is = absurd is
views-taken u q zero (l ∷ links) (m ∷ after) is =
    λ j. record {
      peer = is.0.taken.peer j;
      sent = is.0.taken.sent j;
      standing = is.0.taken.standing j;
      gone = sent (is.0.taken.out j) ++ is.0.taken.backlog j;
      came = received (is.0.taken.into j);
    } ∷ map view_of (is.1 j)
views-taken u q (suc i) (l ∷ links) (m ∷ after) is =
    λ j. view_of (is.0 j) ∷ views-taken u q i links after is.1 j

got_fetched : (l m : LinkState) → IsFetched l m → HasGot (view_of l) (view_of m)
got_fetched l m is = record {
  peer = is.peer;
  sent = is.sent;
  gone = λ j. sent (is.out j) ++ is.backlog j;
  more = is.more;
  came = is.came;
}

got_same_links : (links : List LinkState) → AllZip HasGot (map view_of links) (map view_of links)
got_same_links [] = tt
got_same_links (l ∷ links) = (
  record {
    peer = refl;
    sent = refl;
    gone = refl;
    more = [];
    came = sym (append-nil (received l.into));
  },
  got_same_links links,
)

pub views-fetched : (i : ℕ) (links after : List LinkState) → IsChangedAt IsFetched i links after →
    AllZip HasGot (map view_of links) (map view_of after)
views-fetched i [] after is = absurd is
views-fetched i (l ∷ links) [] is = absurd is
views-fetched zero (l ∷ links) (m ∷ after) is = (
  got_fetched l m is.0,
  subst (λ ls. AllZip HasGot (map view_of links) (map view_of ls)) (sym is.1) (got_same_links links),
)
views-fetched (suc i) (l ∷ links) (m ∷ after) is = (
  subst (λ k. HasGot (view_of l) (view_of k)) (sym is.0) (got_same_links (l ∷ [])).0,
  views-fetched i links after is.1,
)

pub views-sent : (stamp : ℕ) (fs : List Frame) (links after : List LinkState) →
    AllZip (IsSentOver stamp fs) links after → map view_of after ≡ map (link_after_frames stamp fs) (map view_of links)
views-sent stamp fs [] [] all = refl
views-sent stamp fs [] (m ∷ after) all = absurd all
views-sent stamp fs (l ∷ links) [] all = absurd all
views-sent stamp fs (l ∷ links) (m ∷ after) all = λ j. all.0.view j ∷ views-sent stamp fs links after all.1 j

-- Where a frame came from

came_later : (u : NodeId) (q : Parcel) (v : LinkView) (views : List LinkView) → CameFrom views u q →
    CameFrom (v ∷ views) u q
came_later u q v views is = record {
  link = is.link;
  there = contains-tail v is.link views is.there;
  peer = is.peer;
  came = is.came;
  content = is.content;
  spells = is.spells;
}

-- a parcel that waits early came over the link
pub came-early : (ds : List Doing) (l : LinkState) (q : Parcel) (rest : List Parcel) → IsTakenFrom ds l →
    l.early ≡ q ∷ rest → Contains (received l.into) q
came-early ds l q rest is first =
    subst (λ ps. Contains ps q) (sym (is.came ∙ ap (λ ps. is.taken ++ ps) first))
    (Contains-append_right is.taken (q ∷ rest) q (contains-head q rest))

pub came-from : (ds : List Doing) (u : NodeId) (q : Parcel) (i : ℕ) (links after : List LinkState) →
    AllByRecursion (IsTakenFrom ds) links → IsChangedAt (IsTakenOf u q) i links after →
    CameFrom (map view_of links) u q
came-from ds u q i [] after all is = absurd is
came-from ds u q i (l ∷ links) [] all is = absurd is
came-from ds u q zero (l ∷ links) (m ∷ after) all is = record {
  link = view_of l;
  there = contains-head (view_of l) (map view_of links);
  peer = is.0.peer;
  came = came-early ds l q m.early all.0 is.0.taken.first;
  content = is.0.taken.bears.0;
  spells = is.0.taken.bears.1;
}
came-from ds u q (suc i) (l ∷ links) (m ∷ after) all is =
    came_later u q (view_of l) (map view_of links) (came-from ds u q i links after all.1 is.1)
