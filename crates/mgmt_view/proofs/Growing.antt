-- A step that only adds tables keeps the rule between a publisher and its viewers.
use Rattle.std.proofs.Common.{◌≡◌, ◌≢◌, ◌+◌, ℕ, List, [], ◌∷◌, ◌++◌, append-nil, append_assoc, fold, length, length-append, arith, refl, set, sym, ap, ◌∙◌, subst, ⊎_elim}
use Rattle.std.specs.Prelude.{Result, Ok, Err, MatchResult, OnOk}
use mathlib.Core.Option.{some}
use lib.ListN.{get_elem?}
use Rattle.left_right.specs.Register.{Admits, Forks, Merges, TurnsAt}
use Rattle.atomic_table.proofs.Lists.{at_set, at_snoc}
use Rattle.mgmt_view.specs.{Rule.{Keeps, PublishesView, informed, nothing_seen}, Tables.{EndsWith, StartsWith, last_table, tables_of}, declared.node_table.NodeTable.NodeTable, declared.past.Past.Past, declared.past.Past.TheVariants.{First, Then'}, declared.rule.View.View, declared.shelf.Shelf.Shelf}
use Rattle.mgmt_view.proofs.Lasts.{last-snoc}

starts-trans : (a b c : List NodeTable) → StartsWith b a → StartsWith c b → StartsWith c a
starts-trans a b c h t = (h.0 ++ t.0, t.1 ∙ (ap (λ w. w ++ t.0) h.1 ∙ append_assoc a h.0 t.0))

starts-self : (a : List NodeTable) → StartsWith a a
starts-self a = ([], sym (append-nil a))

starts-nil : (a : List NodeTable) → StartsWith a []
starts-nil a = (a, refl)

-- what is published begins with what this thread knows
abbrev Knows : List NodeTable → View → Type 0
Knows all v = StartsWith all v.seen × StartsWith all v.told

knows-nothing : (all : List NodeTable) → Knows all nothing_seen
knows-nothing all = (starts-nil all, starts-nil all)

-- all that the threads know stays true where the tables grow
pub grows : (seat : ℕ) (v : View) (x y : Shelf) → StartsWith (tables_of y.past) (tables_of x.past) →
    TurnsAt Keeps seat v x y PublishesView
grows seat v x y up views h at =
    let mine = h seat v at in
    let w : View = record { seen = tables_of y.past; told = v.told } in
    let seen = starts-trans v.seen (tables_of x.past) (tables_of y.past) mine.0 up in
    let told = starts-trans v.told (tables_of x.past) (tables_of y.past) mine.1 up in (
      w,
      (λ j u e. ⊎_elim
          (λ (t : (j ≡ seat) × (w ≡ u)). subst (Knows (tables_of y.past)) t.1 (starts-self (tables_of y.past), told))
          (λ (t : (j ≢ seat) × (get_elem? views j ≡ some u)).
          (starts-trans u.seen _ _ (h j u t.1).0 up, starts-trans u.told _ _ (h j u t.1).1 up))
          (at_set views seat j w u e)),
      (seen, told, refl, refl),
    )

pub fold-snoc : (xs ys : List NodeTable) → fold (λ a x. a ++ x ∷ []) xs ys ≡ xs ++ ys
fold-snoc xs [] = sym (append-nil xs)
fold-snoc xs (y ∷ ys) = fold-snoc (xs ++ y ∷ []) ys ∙ append_assoc xs (y ∷ []) ys

-- so it does where these tables are added
pub grows-by : (seat : ℕ) (v : View) (x y : Shelf) (more : List NodeTable) →
    tables_of y.past ≡ fold (λ a z. a ++ z ∷ []) (tables_of x.past) more → TurnsAt Keeps seat v x y PublishesView
grows-by seat v x y more e = grows seat v x y (more, e ∙ fold-snoc (tables_of x.past) more)

-- and where nothing is
pub stays : (seat : ℕ) (v : View) (x : Shelf) → TurnsAt Keeps seat v x x PublishesView
stays seat v x = grows seat v x x (starts-self (tables_of x.past))

-- a thread more knows nothing
pub admits : Admits Keeps nothing_seen
admits x views h seat v at =
    ⊎_elim (h seat v) (λ (e : nothing_seen ≡ v). subst (Knows (tables_of x.past)) e (knows-nothing (tables_of x.past)))
    (at_snoc views nothing_seen v seat at)

pub keeps-first : (x : Shelf) → Keeps x (nothing_seen ∷ [])
keeps-first x seat v at =
    ⊎_elim
    (λ (t : get_elem? [] seat ≡ some v). absurd (cc (t)))
    (λ (e : nothing_seen ≡ v). subst (Knows (tables_of x.past)) e (knows-nothing (tables_of x.past)))
    (at_snoc [] nothing_seen v seat at)

-- one thread knows something else that is true
set-known : (x : Shelf) (views : List View) (seat : ℕ) (w : View) → Keeps x views → Knows (tables_of x.past) w →
    Keeps x (set views seat w)
set-known x views seat w h known j u e =
    ⊎_elim
    (λ (p : (j ≡ seat) × (w ≡ u)). subst (Knows (tables_of x.past)) p.1 known)
    (λ (p : (j ≢ seat) × (get_elem? views j ≡ some u)). h j u p.1)
    (at_set views seat j w u e)

-- what a thread knows may be known twice
pub forks : (seat : ℕ) (v : View) → Forks Keeps seat v v v
forks seat v x views h at j u e =
    ⊎_elim
    (set-known x views seat v h (h seat v at) j u)
    (λ (same : v ≡ u). subst (Knows (tables_of x.past)) same (h seat v at))
    (at_snoc (set views seat v) v u j e)

-- a thread learns what another one has seen
pub merges : (seat : ℕ) (v : View) (other : ℕ) (w : View) → Merges Keeps seat v other w (informed v w) nothing_seen
merges seat v other w x views h at apart there =
    let seen : StartsWith (tables_of x.past) w.seen =
    ⊎_elim
    (λ (t : (other ≡ seat) × (informed v w ≡ w)). absurd (apart t.0))
    (λ (t : (other ≢ seat) × (get_elem? views other ≡ some w)). (h other w t.1).0)
    (at_set views seat other (informed v w) w there) in
    set-known x (set views seat (informed v w)) other nothing_seen
    (set-known x views seat (informed v w) h ((h seat v at).0, seen)) (knows-nothing (tables_of x.past))

-- The last table

-- the table that a shelf shows stands last
pub ends : (p : Past) → EndsWith (tables_of p) (last_table p)
ends (First t) = refl
ends (Then' t marker before) = last-snoc (tables_of before) t

none-left : (rest : List NodeTable) (n : ℕ) → n ≡ n + length rest → rest ≡ []
none-left [] n e = refl
none-left (t ∷ rest) n e = absurd (omega (arith, e))

-- a list that begins with another of its length is that one
pub same-length : (all front : List NodeTable) → StartsWith all front → length all ≡ length front → all ≡ front
same-length all front h e =
    let rest : h.0 ≡ [] =
    none-left h.0 (length front) (sym e ∙ (ap length h.1 ∙ length-append front h.0)) in
    h.1 ∙ (ap (λ w. front ++ w) rest ∙ append-nil front)

-- What a publish leaves

pub published-ok : {X E : Type 0} (r : Result X E) (old mid new : Shelf) (now after : List NodeTable) → mid ≡ old →
    MatchResult r
    (λ _. (tables_of new.past ≡ fold (λ a z. a ++ z ∷ []) (tables_of mid.past) now) × (after ≡ []))
    (λ _. (new ≡ mid) × (after ≡ now)) →
    OnOk r (tables_of new.past ≡ tables_of old.past ++ now)
published-ok (Ok x) old mid new now after e h =
    h.0 ∙ (fold-snoc (tables_of mid.past) now ∙ ap (λ (s : Shelf). tables_of s.past ++ now) e)
published-ok (Err x) old mid new now after e h = tt
