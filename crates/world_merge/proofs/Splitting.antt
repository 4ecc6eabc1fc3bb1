-- What happened at a node, cut where a merge has come to.
use Rattle.std.proofs.Common.{◌≡◌, ◌<◌, ◌≤◌, ℕ, Bool, true, false, cond, nat_lt, List, [], ◌∷◌, ◌++◌, map, refl, sym, ap, ◌∙◌, arith, append-nil, append_assoc}
use Rattle.ason_base.specs.{declared.ids.NodeId.NodeId, declared.commands.Entry.Entry, Network.Network}
use Rattle.world_rules.specs.Worlds.{World}
use Rattle.world_merge.specs.{Deeds.{AreDoable, Deed, Handled, Heard, IsDoable, Posted, Ticked, Took, alone, alone_from, done, stamp_of, upto}, Histories.{AreGenuine, Histories, IsGenuine, at}, Logs.line_of, Merges.{Agrees, Ascends, concerns, part}}

-- deeds after deeds
pub alone-more : (t : Network) (n : NodeId) (w : World) (ds es : List Deed) →
    alone_from t n w (ds ++ es) ≡ alone_from t n (alone_from t n w ds) es
alone-more t n w [] es = refl
alone-more t n w (d ∷ ds) es = alone-more t n (done t n w d) ds es

-- of what is genuine each deed is
pub genuine-split : (t : Network) (hists : Histories) (n : ℕ) (ds : List Deed) (d : Deed) (es : List Deed) →
    AreGenuine t hists n (ds ++ d ∷ es) → IsGenuine t hists n d
genuine-split t hists n [] d es all = all.0
genuine-split t hists n (x ∷ ds) d es all = genuine-split t hists n ds d es all.1

-- of what may be done each deed may, once those before it are done
pub doable-split : (t : Network) (n : NodeId) (w : World) (ds : List Deed) (d : Deed) (es : List Deed) →
    AreDoable t n w (ds ++ d ∷ es) → IsDoable t n (alone_from t n w ds) d
doable-split t n w [] d es all = all.0
doable-split t n w (x ∷ ds) d es all = doable-split t n (done t n w x) ds d es all.1

-- Stamps

-- all stamps are at least this
abbrev pub Above : ℕ → List Entry → Type 0
Above s [] = Unit {0}
Above s (e ∷ m) = (s ≤ e.stamp) × Above s m

above_less : (r s : ℕ) (m : List Entry) → r ≤ s → Above s m → Above r m
above_less r s [] le all = tt
above_less r s (e ∷ m) le all = (omega (arith, le, all.0), above_less r s m le all.1)

-- those of one node's part too
pub part-above : (s n : ℕ) (m : List Entry) → Ascends s m → Above s (part n m)
part-above s n [] up = tt
part-above s n (e ∷ m) up =
    go (concerns n e) (above_less s e.stamp (part n m) up.0 (part-above e.stamp n m up.1))
  where
    go : (b : Bool) → Above s (part n m) → Above s (cond b (e ∷ part n m) (part n m))
    go true rest = (up.0, rest)
    go false rest = rest

-- each of these comes later than this stamp
abbrev pub Later : ℕ → List Deed → Type 0
Later s [] = Unit {0}
Later s (d ∷ ds) = (s < stamp_of d) × Later s ds

pub line-stamp : (n : NodeId) (d : Deed) → (line_of n d).stamp ≡ stamp_of d
line-stamp n (Ticked s) = refl
line-stamp n (Handled s) = refl
line-stamp n (Took s u k x) = refl
line-stamp n (Heard s u bytes) = refl
line-stamp n (Posted s c) = refl

-- deeds whose lines are above a higher stamp
pub later : (r s : ℕ) (n : NodeId) (ds : List Deed) → r < s → Above s (map (line_of n) ds) → Later r ds
later r s n [] lt all = tt
later r s n (d ∷ ds) lt all = (omega (arith, lt, all.0, line-stamp n d), later r s n ds lt all.1)

pub record AreDeedsWithin (s : ℕ) (ds es : List Deed) : Type 0 where
  pub rest : List Deed
  pub whole : ds ≡ upto s (ds ++ es) ++ rest

-- what was done up to a stamp is within what was done before all that comes later than the stamp
pub within : (s : ℕ) (ds es : List Deed) → Later s es → AreDeedsWithin s ds es
within s [] [] all = record { rest = []; whole = refl }
within s [] (e ∷ es) all =
    let past : nat_lt s (stamp_of e) ≡ true = grind (arith, all.0) in
    record { rest = []; whole = ap (λ b. cond b [] (e ∷ upto s es) ++ []) (sym past) }
within s (d ∷ ds) es all =
    let r = go (nat_lt s (stamp_of d)) (within s ds es all) in
    record { rest = r.0; whole = r.1 }
  where
    go : (b : Bool) → AreDeedsWithin s ds es →
        (rest : List Deed) × (d ∷ ds ≡ cond b [] (d ∷ upto s (ds ++ es)) ++ rest)
    go true f = (d ∷ ds, refl)
    go false f = (f.rest, ap (λ xs. d ∷ xs) f.whole)

-- What is done, and what is to be done

-- The world is where the merge has come to: of each node a first part is done there, and the rest stands in the list.
pub record SplitFits (t : Network) (hists : Histories) (w : World) (before ahead : ℕ → List Deed)
    (m : List Entry) : Type 0 where
  pub world : (n : ℕ) → Agrees n w (alone t (at n) (before n))
  pub lines : (n : ℕ) → part n m ≡ map (line_of (at n)) (ahead n)
  pub whole : (n : ℕ) → hists n ≡ before n ++ ahead n

-- where the first line is of this node, it is that of the node's next deed
pub own-lines : (t : Network) (hists : Histories) (w : World) (before ahead : ℕ → List Deed) (e : Entry)
    (m : List Entry)
    (n : ℕ) (ds : List Deed) → SplitFits t hists w before ahead (e ∷ m) → concerns n e ≡ true → ahead n ≡ ds →
    e ∷ part n m ≡ map (line_of (at n)) ds
own-lines t hists w before ahead e m n ds f here front =
    sym (ap (λ b. cond b (e ∷ part n m) (part n m)) here) ∙ f.lines n ∙ ap (map (line_of (at n))) front

abbrev pub first : List Deed → List Deed
first [] = []
first (d ∷ ds) = d ∷ []

abbrev others : List Deed → List Deed
others [] = []
others (d ∷ ds) = ds

-- what is done, and what is left, once a line that may be of this node is done
abbrev pub moved : Bool → List Deed → List Deed → List Deed
moved b xs ys = cond b (xs ++ first ys) xs

abbrev pub left : Bool → List Deed → List Deed
left b ys = cond b (others ys) ys

seam : (xs ys : List Deed) → xs ++ ys ≡ (xs ++ first ys) ++ others ys
seam xs [] = sym (append-nil (xs ++ []))
seam xs (y ∷ ys) = sym (append_assoc xs (y ∷ []) ys)

tail_lines : (n : NodeId) (e : Entry) (p : List Entry) (ds : List Deed) → e ∷ p ≡ map (line_of n) ds →
    p ≡ map (line_of n) (others ds)
tail_lines n e p [] is = absurd (cc (is))
tail_lines n e p (d ∷ ds) is = cc (is)

-- once the first line is done, the world fits the other lines
pub next : (t : Network) (hists : Histories) (w v : World) (before ahead : ℕ → List Deed) (e : Entry) (m : List Entry) →
    SplitFits t hists w before ahead (e ∷ m) →
    ((n : ℕ) (b : Bool) → concerns n e ≡ b → Agrees n v (alone t (at n) (moved b (before n) (ahead n)))) →
    SplitFits t hists v (λ n. moved (concerns n e) (before n) (ahead n)) (λ n. left (concerns n e) (ahead n)) m
next t hists w v before ahead e m f agree = record {
  world = λ n. agree n (concerns n e) refl;
  lines = λ n. lines n (concerns n e) (f.lines n);
  whole = λ n. f.whole n ∙ whole n (concerns n e);
}
  where
    lines : (n : ℕ) (b : Bool) → cond b (e ∷ part n m) (part n m) ≡ map (line_of (at n)) (ahead n) →
        part n m ≡ map (line_of (at n)) (left b (ahead n))
    lines n true is = tail_lines (at n) e (part n m) (ahead n) is
    lines n false is = is

    whole : (n : ℕ) (b : Bool) → before n ++ ahead n ≡ moved b (before n) (ahead n) ++ left b (ahead n)
    whole n true = seam (before n) (ahead n)
    whole n false = refl
