-- Heads that are compared from the last list to the first give what is picked.
use Rattle.std.proofs.Common.{◌≡◌, ◌<◌, ℕ, zero, suc, Bool, true, false, cond, List, [], ◌∷◌, length, get_or, refl, sym, ◌≤◌, ◌-◌, ap, subst, ◌∙◌, arith, slice_set}
use Rattle.std.specs.{Prelude.{Option, Some, None, MatchOption, if◌then◌else◌}, Borrow.Bor}
use Rattle.ason_base.specs.declared.commands.Entry.{Entry}
use Rattle.world_merge.specs.{declared.heads.Head.Head, Heads.{least_of, picked_at, without_head}, Lines.lists_of, Picking.{Picked, picked_behind, is_before, picked}}

-- what is picked of the lists from place i on, with all lists left
abbrev pub picked_from : ℕ → List (List Entry) → Option Picked
picked_from zero ls = picked ls
picked_from (suc i) [] = None
picked_from (suc i) (l ∷ ls) = picked_behind l (picked_from i ls)

-- The head is what is picked of the lists from place i on.
pub record IsLeastFrom (i : ℕ) (ls : List (Bor (List Entry))) (h : Option Head) : Type 0 where
  pub least : picked_from i (lists_of ls) ≡ picked_at (lists_of ls) h
  pub place : MatchOption h (Unit {0}) (λ k. k.place < length ls)

none_behind : (ls : List (Bor (List Entry))) → picked_from (length ls) (lists_of ls) ≡ None
none_behind [] = refl
none_behind (l ∷ ls) = ap (picked_behind l.now) (none_behind ls)

-- behind the last list there is no head
pub nothing-behind : (ls : List (Bor (List Entry))) → IsLeastFrom (length ls) ls None
nothing-behind ls = record { least = none_behind ls; place = tt }

-- a list without lines
empty_passed : (i : ℕ) (ls : List (Bor (List Entry))) (d : Bor (List Entry)) → i < length ls →
    (get_or ls i d).now ≡ [] → picked_from i (lists_of ls) ≡ picked_from (suc i) (lists_of ls)
empty_passed i [] d h e = absurd (omega (arith, h))
empty_passed zero (l ∷ ls) d h e = go l.now e
  where
    go : (x : List Entry) → x ≡ [] → picked (x ∷ lists_of ls) ≡ picked_behind x (picked (lists_of ls))
    go [] e = refl
    go (y ∷ ys) e = absurd (cc (e))
empty_passed (suc i) (l ∷ ls) d h e = ap (picked_behind l.now) (empty_passed i ls d (omega (arith, h)) e)

no_lines : (l : List Entry) → length l ≡ 0 → l ≡ []
no_lines [] e = refl
no_lines (x ∷ l) e = absurd (omega (arith, e))

from_before : (n : ℕ) (ls : List (Bor (List Entry))) (o : Option Head) → 0 < n → IsLeastFrom n ls o →
    IsLeastFrom (suc (n - 1)) ls o
from_before n ls o a is = subst (λ k. IsLeastFrom k ls o) (omega (arith, a)) is

-- a list without lines changes nothing
pub empty-passed : (n : ℕ) (ls : List (Bor (List Entry))) (x : Bor (List Entry)) (o : Option Head) → 0 < n →
    n ≤ length ls → x ≡ get_or ls (n - 1) x → length x.now ≡ 0 → IsLeastFrom n ls o → IsLeastFrom (n - 1) ls o
empty-passed n ls x o a b at e is =
    let r = from_before n ls o a is in record {
      least = empty_passed (n - 1) ls x (omega (arith, a, b)) (ap (λ l. l.now) (sym at) ∙ no_lines x.now e) ∙ r.least;
      place = r.place;
    }

-- the head e of the list at place i, or what was picked of those behind it
abbrev chosen_at : ℕ → Entry → List Entry → List (List Entry) → Option Picked → Option Picked
chosen_at i e es ls None = Some (record { entry = e; left = slice_set ls i es })
chosen_at i e es ls (Some p) =
    if is_before e p.entry
    then Some (record { entry = e; left = slice_set ls i es })
    else Some p

chosen_behind : (i : ℕ) (e : Entry) (es l : List Entry) (ls : List (List Entry)) (o : Option Picked) →
    picked_behind l (chosen_at i e es ls o) ≡ chosen_at (suc i) e es (l ∷ ls) (picked_behind l o)
chosen_behind i e es l ls None = refl
chosen_behind i e es l ls (Some p) = go (is_before e p.entry)
  where
    here : Picked
    here = record { entry = e; left = slice_set ls i es }

    go : (b : Bool) → picked_behind l (cond b (Some here) (Some p)) ≡ cond b (picked_behind l (Some here)) (picked_behind l (Some p))
    go true = refl
    go false = refl

head_chosen : (i : ℕ) (ls : List (Bor (List Entry))) (d : Bor (List Entry)) (e : Entry) (es : List Entry) →
    i < length ls → (get_or ls i d).now ≡ e ∷ es →
    picked_from i (lists_of ls) ≡ chosen_at i e es (lists_of ls) (picked_from (suc i) (lists_of ls))
head_chosen i [] d e es h k = absurd (omega (arith, h))
head_chosen zero (l ∷ ls) d e es h k = go l.now k (picked (lists_of ls)) refl
  where
    go : (x : List Entry) → x ≡ e ∷ es → (o : Option Picked) → picked (lists_of ls) ≡ o →
        picked (x ∷ lists_of ls) ≡ chosen_at zero e es (x ∷ lists_of ls) (picked_behind x (picked (lists_of ls)))
    go x k None j = cc (k, j)
    go x k (Some p) j = cc (k, j)
head_chosen (suc i) (l ∷ ls) d e es h k =
    ap (picked_behind l.now) (head_chosen i ls d e es (omega (arith, h)) k)
    ∙ chosen_behind i e es l.now (lists_of ls) (picked_from (suc i) (lists_of ls))

least_chosen : (ls : List (List Entry)) (h : Head) (o : Option Head) →
    chosen_at h.place h.entry.now h.left.now ls (picked_at ls o) ≡ picked_at ls (Some (least_of h o))
least_chosen ls h None = refl
least_chosen ls h (Some k) = go (is_before h.entry.now k.entry.now)
  where
    go : (b : Bool) → cond b (Some (without_head ls h)) (Some (without_head ls k))
        ≡ picked_at ls (Some (cond b h k))
    go true = refl
    go false = refl

least_place : (n : ℕ) (h : Head) (o : Option Head) → h.place < n → MatchOption o (Unit {0}) (λ k. k.place < n) →
    (least_of h o).place < n
least_place n h None a b = a
least_place n h (Some k) a b = go (is_before h.entry.now k.entry.now)
  where
    go : (c : Bool) → (cond c h k).place < n
    go true = a
    go false = b

-- the head of the list at place i, or the least one of those behind
at_head : (i : ℕ) (ls : List (Bor (List Entry))) (x : Bor (List Entry)) (o : Option Head) (h r : Head) → i < length ls →
    x ≡ get_or ls i x → x.now ≡ h.entry.now ∷ h.left.now → h.place ≡ i → r ≡ least_of h o →
    IsLeastFrom (suc i) ls o → IsLeastFrom i ls (Some r)
at_head i ls x o h r k at e p q is = record {
  least =
      head_chosen i ls x h.entry.now h.left.now k (ap (λ l. l.now) (sym at) ∙ e)
      ∙ ap (λ y. chosen_at i h.entry.now h.left.now (lists_of ls) y) is.least
      ∙ ap (λ n. chosen_at n h.entry.now h.left.now (lists_of ls) (picked_at (lists_of ls) o)) (sym p)
      ∙ least_chosen (lists_of ls) h o ∙ ap (λ y. picked_at (lists_of ls) (Some y)) (sym q);
  place = subst (λ y. y.place < length ls) (sym q) (least_place (length ls) h o (omega (arith, k, p)) is.place);
}

-- a list with lines: its head comes first, or what came first of those behind
pub head-compared : (n : ℕ) (ls : List (Bor (List Entry))) (x : Bor (List Entry)) (o : Option Head) (h r : Head) →
    0 < n → n ≤ length ls → x ≡ get_or ls (n - 1) x → x.now ≡ h.entry.now ∷ h.left.now → h.place ≡ n - 1 →
    r ≡ least_of h o → IsLeastFrom n ls o → IsLeastFrom (n - 1) ls (Some r)
head-compared n ls x o h r a b at e p q is =
    at_head (n - 1) ls x o h r (omega (arith, a, b)) at e p q (from_before n ls o a is)
