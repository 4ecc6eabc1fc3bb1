-- Lists of links of which one changes, or all.
use Rattle.std.proofs.Common.{◌≡◌, ℕ, zero, suc, List, [], ◌∷◌, ◌++◌, refl, sym, subst}
use Rattle.std.specs.{Prelude.{Some, slice_get, slice_set}, List.AllZip}
use Rattle.ason_base.specs.declared.ids.NodeId.{NodeId}
use Rattle.control_channels.specs.declared.frames.Frame.{Frame}
use Rattle.station_rings.specs.{declared.parcel.Parcel.Parcel, LinkStates.{IsFetched, IsTaken, LinkState}}
use Rattle.round_rules.specs.Moves.{HasMoved, IsChangedAt, IsSentOver, IsTakenOf, TakesAt, TakesNone, peers_of}
use Rattle.round_rules.proofs.Moving.{moved-fetched, moved-none, moved-sent, moved-taken, moved-then}

-- One link

-- what is written at a place that the list has
pub changed-set : (R : LinkState → LinkState → Type 0) (links : List LinkState) (i : ℕ) (l m : LinkState) →
    slice_get links i ≡ Some l → R l m → IsChangedAt R i links (slice_set links i m)
changed-set R [] i l m at is = absurd (cc (at))
changed-set R (k ∷ links) zero l m at is = let same : k ≡ l = cc (at) in (subst (λ x. R x m) (sym same) is, refl)
changed-set R (k ∷ links) (suc i) l m at is = (refl, changed-set R links i l m at is)

-- links lead where they led
pub changed-peers : (R : LinkState → LinkState → Type 0) → ((l m : LinkState) → R l m → m.peer ≡ l.peer) →
    (i : ℕ) (links after : List LinkState) → IsChangedAt R i links after → peers_of after ≡ peers_of links
changed-peers R f i [] after is = absurd is
changed-peers R f i (l ∷ links) [] is = absurd is
changed-peers R f zero (l ∷ links) (m ∷ after) is = λ j. f l m is.0 j ∷ peers_of (is.1 j)
changed-peers R f (suc i) (l ∷ links) (m ∷ after) is =
    λ j. (is.0 j).peer ∷ changed-peers R f i links after is.1 j

-- the frame that was taken came from the neighbour at this place
pub taken-from : (q : Parcel) (u : NodeId) (i : ℕ) (links after : List LinkState) →
    slice_get (peers_of links) i ≡ Some u → IsChangedAt (IsTaken q) i links after →
    IsChangedAt (IsTakenOf u q) i links after
taken-from q u i [] after at is = absurd is
taken-from q u i (l ∷ links) [] at is = absurd is
taken-from q u zero (l ∷ links) (m ∷ after) at is = (record { peer = cc (at); taken = is.0 }, is.1)
taken-from q u (suc i) (l ∷ links) (m ∷ after) at is = (is.0, taken-from q u i links after at is.1)

-- All links

abbrev pub NoneTaken : List LinkState → List LinkState → Type 0
NoneTaken links after = AllZip TakesNone links after

pub nones : (links : List LinkState) → NoneTaken links links
nones [] = tt
nones (l ∷ links) = (moved-none l, nones links)

-- the links are the same
pub nones-same : (links after : List LinkState) → after ≡ links → NoneTaken links after
nones-same links after e = subst (NoneTaken links) (sym e) (nones links)

pub none-then : (l m k : LinkState) → TakesNone l m → TakesNone m k → TakesNone l k
none-then l m k a b = (moved-then l m k a.0 b.0, λ i. a.1 i ++ b.1 i)

pub nones-then : (xs ys zs : List LinkState) → NoneTaken xs ys → NoneTaken ys zs → NoneTaken xs zs
nones-then [] [] [] a b = tt
nones-then [] [] (z ∷ zs) a b = absurd b
nones-then [] (y ∷ ys) zs a b = absurd a
nones-then (x ∷ xs) [] zs a b = absurd a
nones-then (x ∷ xs) (y ∷ ys) [] a b = absurd b
nones-then (x ∷ xs) (y ∷ ys) (z ∷ zs) a b = (none-then x y z a.0 b.0, nones-then xs ys zs a.1 b.1)

-- frames went over them
pub nones-sent : (stamp : ℕ) (fs : List Frame) (xs ys : List LinkState) → AllZip (IsSentOver stamp fs) xs ys →
    NoneTaken xs ys
nones-sent stamp fs [] [] all = tt
nones-sent stamp fs [] (y ∷ ys) all = absurd all
nones-sent stamp fs (x ∷ xs) [] all = absurd all
nones-sent stamp fs (x ∷ xs) (y ∷ ys) all = (moved-sent stamp fs x y all.0, nones-sent stamp fs xs ys all.1)

pub nones-fetched : (i : ℕ) (xs ys : List LinkState) → IsChangedAt IsFetched i xs ys → NoneTaken xs ys
nones-fetched i [] ys is = absurd is
nones-fetched i (x ∷ xs) [] is = absurd is
nones-fetched zero (x ∷ xs) (y ∷ ys) is = (moved-fetched x y is.0, nones-same xs ys is.1)
nones-fetched (suc i) (x ∷ xs) (y ∷ ys) is =
    (subst (TakesNone x) (sym is.0) (moved-none x), nones-fetched i xs ys is.1)

-- A frame was taken

pub takes-at : (u : NodeId) (q : Parcel) (i : ℕ) (xs ys : List LinkState) → IsChangedAt (IsTakenOf u q) i xs ys →
    TakesAt u q i xs ys
takes-at u q i [] ys is = absurd is
takes-at u q i (x ∷ xs) [] is = absurd is
takes-at u q zero (x ∷ xs) (y ∷ ys) is =
    let m = moved-taken q x y is.0.taken in
    ((m.0, m.1, is.0.peer), nones-same xs ys is.1)
takes-at u q (suc i) (x ∷ xs) (y ∷ ys) is =
    (subst (TakesNone x) (sym is.0) (moved-none x), takes-at u q i xs ys is.1)

pub takes-none : (u : NodeId) (q : Parcel) (i : ℕ) (xs ys zs : List LinkState) → TakesAt u q i xs ys →
    NoneTaken ys zs → TakesAt u q i xs zs
takes-none u q i [] ys zs a b = absurd a
takes-none u q i (x ∷ xs) [] zs a b = absurd a
takes-none u q i (x ∷ xs) (y ∷ ys) [] a b = absurd b
takes-none u q zero (x ∷ xs) (y ∷ ys) (z ∷ zs) a b = (
  (moved-then x y z a.0.0 b.0.0, (λ i. a.0.1 i ++ b.0.1 i), a.0.2),
  nones-then xs ys zs a.1 b.1,
)
takes-none u q (suc i) (x ∷ xs) (y ∷ ys) (z ∷ zs) a b =
    (none-then x y z a.0 b.0, takes-none u q i xs ys zs a.1 b.1)

-- All links moved

abbrev pub AllMoved : List LinkState → List LinkState → Type 0
AllMoved links after = AllZip HasMoved links after

pub nones-moved : (xs ys : List LinkState) → NoneTaken xs ys → AllMoved xs ys
nones-moved [] [] a = tt
nones-moved [] (y ∷ ys) a = absurd a
nones-moved (x ∷ xs) [] a = absurd a
nones-moved (x ∷ xs) (y ∷ ys) a = (a.0.0, nones-moved xs ys a.1)

pub takes-moved : (u : NodeId) (q : Parcel) (i : ℕ) (xs ys : List LinkState) → TakesAt u q i xs ys → AllMoved xs ys
takes-moved u q i [] ys a = absurd a
takes-moved u q i (x ∷ xs) [] a = absurd a
takes-moved u q zero (x ∷ xs) (y ∷ ys) a = (a.0.0, nones-moved xs ys a.1)
takes-moved u q (suc i) (x ∷ xs) (y ∷ ys) a = (a.0.0, takes-moved u q i xs ys a.1)

pub all-moved : (links : List LinkState) → AllMoved links links
all-moved links = nones-moved links links (nones links)

pub all-moved-then : (xs ys zs : List LinkState) → AllMoved xs ys → AllMoved ys zs → AllMoved xs zs
all-moved-then [] [] [] a b = tt
all-moved-then [] [] (z ∷ zs) a b = absurd b
all-moved-then [] (y ∷ ys) zs a b = absurd a
all-moved-then (x ∷ xs) [] zs a b = absurd a
all-moved-then (x ∷ xs) (y ∷ ys) [] a b = absurd b
all-moved-then (x ∷ xs) (y ∷ ys) (z ∷ zs) a b = (moved-then x y z a.0 b.0, all-moved-then xs ys zs a.1 b.1)

-- they lead where they led
pub moved-peers : (xs ys : List LinkState) → AllMoved xs ys → peers_of ys ≡ peers_of xs
moved-peers [] [] a = refl
moved-peers [] (y ∷ ys) a = absurd a
moved-peers (x ∷ xs) [] a = absurd a
moved-peers (x ∷ xs) (y ∷ ys) a = λ i. a.0.peer i ∷ moved-peers xs ys a.1 i
