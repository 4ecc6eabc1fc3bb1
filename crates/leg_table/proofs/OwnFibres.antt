-- The fibres that a node's legs use are those of its own links. A leg that may be marked over some may be over more.
use Rattle.std.proofs.{Common.{◌≡◌, ◌<◌, ℕ, Bool, true, false, not, nat_eq, List, [], ◌∷◌, inl, inr, refl, sym, ap, subst, ◌∙◌, arith}, lemmas.Bool.{or_cases, or_left, or_right}}
use Rattle.std.specs.{Prelude.{◌⊎◌, ◌&&◌, ◌||◌, Option, Some, None, IfSome, IsTrue, is_some}, List.{AllByRecursion, list_any}}
use Rattle.ason_base.specs.{declared.ids.Fibre.Fibre, declared.ids.NodeId.NodeId, declared.network.LinkSpec.LinkSpec, declared.tables.Leg.Leg, Lsps.{same_bool, same_fibre}, Network.other_end}
use Rattle.ason_base.proofs.Bools.{and-right}
use Rattle.mesh_rules.specs.{declared.changes.LegChange.LegChange, declared.changes.LegChange.TheVariants.{Goes, Put}, declared.neighbours.Neighbour.Neighbour, Legs.{is_at, leg_changed, neighbour_over, reverse, reverse_of, sends_label, takes}, LocalNodes.{LocalNode, fibre_in, fibre_out}}
use Rattle.mesh_nodes.specs.{FitNodes.LegFits, LocalNodes.{IsOwnLink, LocalNodeFits, is_downstream, is_upstream}}
use Rattle.mesh_nodes.proofs.LabelPlaces.{at-is}
use Rattle.leg_table.specs.LegClaims.{GetsMark, KeepsMark, MayAllMark, MayMark, OverOwnFibres, is_fibre_in, is_own_fibre}
use Rattle.mesh_rules.proofs.AnswerParts.{turned-twice}

-- Links of a node

-- where some item passes one test, and each that does passes another, some item passes that
any-then : {X : Type 0} (P : X → Type 0) (p q : X → Bool) (xs : List X) → AllByRecursion P xs →
    ((x : X) → P x → p x ≡ true → q x ≡ true) → list_any p xs ≡ true → list_any q xs ≡ true
any-then P p q [] all f e = e
any-then P p q (x ∷ xs) all f e = go (p x) refl e (any-then P p q xs all.1 f)
  where
    go : (b : Bool) → p x ≡ b → (b || list_any p xs) ≡ true → (list_any p xs ≡ true → list_any q xs ≡ true) →
        (q x || list_any q xs) ≡ true
    go true is e later = or_left (q x) (list_any q xs) (f x all.0 is)
    go false is e later = or_right (q x) (list_any q xs) (later e)

-- where some item passes both tests, some item passes the second
any-right : {X : Type 0} (p q : X → Bool) (xs : List X) → list_any (λ x. p x && q x) xs ≡ true → list_any q xs ≡ true
any-right p q [] e = e
any-right p q (x ∷ xs) e = go (p x) (q x) e (any-right p q xs)
  where
    go : (a b : Bool) → ((a && b) || list_any (λ y. p y && q y) xs) ≡ true →
        (list_any (λ y. p y && q y) xs ≡ true → list_any q xs ≡ true) → (b || list_any q xs) ≡ true
    go a true f later = refl
    go true false f later = later f
    go false false f later = later f

-- a neighbour's fibre comes in
pub upstream-fibre_in : (p : LocalNode) (h : Neighbour) → is_upstream p h ≡ true → is_fibre_in p h.fibre ≡ true
upstream-fibre_in p h e =
    any-right (λ l. nat_eq (other_end l p.id).0 h.node.0) (λ l. same_fibre (fibre_in l p.id) h.fibre) p.own e

-- of the two ends of a node's own link just one is the node
one-end : (n : NodeId) (l : LinkSpec) → IsOwnLink n l → nat_eq l.low.0 n.0 ≡ not (nat_eq l.high.0 n.0)
one-end n l own = go (nat_eq l.low.0 n.0) (nat_eq l.high.0 n.0) refl refl own.touches
  where
    go : (a b : Bool) → nat_eq l.low.0 n.0 ≡ a → nat_eq l.high.0 n.0 ≡ b → (a || b) ≡ true → a ≡ not b
    go true true e k t = let apart : l.low.0 < l.high.0 = own.apart in absurd (grind arith)
    go true false e k t = refl
    go false true e k t = refl
    go false false e k t = absurd (cc t)

turned : (b f : Bool) → same_bool (not b) f ≡ same_bool b (not f)
turned true true = refl
turned true false = refl
turned false true = refl
turned false false = refl

-- the other direction of a fibre that goes out comes in
pub downstream-fibre_in : (p : LocalNode) (h : Neighbour) → LocalNodeFits p → is_downstream p h ≡ true →
    is_fibre_in p (reverse h.fibre) ≡ true
downstream-fibre_in p h links e =
    any-then (IsOwnLink p.id) (λ l. nat_eq (other_end l p.id).0 h.node.0 && same_fibre (fibre_out l p.id) h.fibre)
    (λ l. same_fibre (fibre_in l p.id) (reverse h.fibre)) p.own links
    (λ l own k. over l own (and-right (nat_eq (other_end l p.id).0 h.node.0) _ k)) e
  where
    over : (l : LinkSpec) → IsOwnLink p.id l → same_fibre (fibre_out l p.id) h.fibre ≡ true →
        same_fibre (fibre_in l p.id) (reverse h.fibre) ≡ true
    over l own k =
        sym (ap (λ b. nat_eq l.id.0 h.fibre.link.0 && b)
        (ap (λ b. same_bool b h.fibre.forward) (one-end p.id l own) ∙ turned (nat_eq l.high.0 p.id.0) h.fibre.forward))
        ∙ k

-- Fibres of a node

-- it is one where its other direction comes in
in-own : (p : LocalNode) (f : Fibre) → is_fibre_in p f ≡ true → is_own_fibre p f ≡ true
in-own p f e = or_left (is_fibre_in p f) (is_fibre_in p (reverse f)) e

out-own : (p : LocalNode) (f : Fibre) → is_fibre_in p (reverse f) ≡ true → is_own_fibre p f ≡ true
out-own p f e = or_right (is_fibre_in p f) (is_fibre_in p (reverse f)) e

-- the fibre of a neighbour that there is
over-some : (Q : Neighbour → Type 0) (P : Fibre → Type 0) (n : Option NodeId) (i : Option Fibre) (f : Fibre) →
    is_some i ≡ is_some n → IfSome (neighbour_over n i) Q → ((h : Neighbour) → Q h → P h.fibre) → i ≡ Some f → P f
over-some Q P None None f e near to is = absurd (cc is)
over-some Q P None (Some k) f e near to is = absurd (cc e)
over-some Q P (Some m) None f e near to is = absurd (cc is)
over-some Q P (Some m) (Some k) f e near to is =
    let same : k ≡ f = cc in
    subst P same (to (record { node = m; fibre = k }) near)

-- where the other direction of a fibre is this one
reversed : (i : Option Fibre) (f : Fibre) → reverse_of i ≡ Some f → (k : Fibre) × (i ≡ Some k) × (reverse k ≡ f)
reversed None f e = absurd (cc e)
reversed (Some k) f e = (k, refl, let same : reverse k ≡ f = cc in same)

module _ (p : LocalNode) (next : ℕ) (g : Leg) (links : LocalNodeFits p) (fits : LegFits p next g) where
  comes : (f : Fibre) → g.in_fibre ≡ Some f → is_fibre_in p f ≡ true
  comes f is =
      over-some (λ h. IsTrue (is_upstream p h)) (λ k. is_fibre_in p k ≡ true) g.prev g.in_fibre f fits.in_fibre
      fits.upstream (λ h up. upstream-fibre_in p h up) is

  leaves : (f : Fibre) → g.out_fibre ≡ Some f → is_fibre_in p (reverse f) ≡ true
  leaves f is =
      over-some (λ h. IsTrue (is_downstream p h)) (λ k. is_fibre_in p (reverse k) ≡ true) g.next g.out_fibre f
      fits.out_fibre fits.downstream (λ h down. downstream-fibre_in p h links down) is

  own-taken : (f : Fibre) (x : ℕ) → takes f x g ≡ true → is_own_fibre p f ≡ true
  own-taken f x e = go (or_cases (is_at g.in_fibre g.in_label f x) _ e)
    where
      go : (is_at g.in_fibre g.in_label f x ≡ true) ⊎ (is_at (reverse_of g.out_fibre) g.back_in f x ≡ true) →
          is_own_fibre p f ≡ true
      go (inl here) = in-own p f (comes f (at-is g.in_fibre g.in_label f x here).0)
      go (inr here) =
          let out = reversed g.out_fibre f (at-is (reverse_of g.out_fibre) g.back_in f x here).0 in
          in-own p f (subst (λ k. is_fibre_in p k ≡ true) out.2 (leaves out.0 out.1))

  own-sent : (f : Fibre) (x : ℕ) → sends_label f x g ≡ true → is_own_fibre p f ≡ true
  own-sent f x e = go (or_cases (is_at g.out_fibre g.out_label f x) _ e)
    where
      go : (is_at g.out_fibre g.out_label f x ≡ true) ⊎ (is_at (reverse_of g.in_fibre) g.back_out f x ≡ true) →
          is_own_fibre p f ≡ true
      go (inl here) = out-own p f (leaves f (at-is g.out_fibre g.out_label f x here).0)
      go (inr here) =
          let back = reversed g.in_fibre f (at-is (reverse_of g.in_fibre) g.back_out f x here).0 in
          out-own p f (subst (λ k. is_fibre_in p (reverse k) ≡ true) back.2
          (subst (λ k. is_fibre_in p k ≡ true) (sym (turned-twice back.0)) (comes back.0 back.1)))

-- the labels that a leg uses are of the node's fibres
pub over-own : (p : LocalNode) (next : ℕ) (g : Leg) → LocalNodeFits p → LegFits p next g → OverOwnFibres p g
over-own p next g links fits f x e = go (or_cases (takes f x g) (sends_label f x g) e)
  where
    go : (takes f x g ≡ true) ⊎ (sends_label f x g ≡ true) → is_own_fibre p f ≡ true
    go (inl here) = own-taken p next g links fits f x here
    go (inr here) = own-sent p next g links fits f x here

-- Marks

-- a leg that may be marked over some fibres may be over more
pub mark-over : (own other : Fibre → Bool) (legs : List Leg) (g : Leg) →
    ((f : Fibre) → own f ≡ true → other f ≡ true) → MayMark own legs g → MayMark other legs g
mark-over own other legs g more may marked = go (may marked)
  where
    go : KeepsMark legs g ⊎ GetsMark own legs g → KeepsMark legs g ⊎ GetsMark other legs g
    go (inl keeps) = inl keeps
    go (inr gets) = inr (record { over = λ f x e. more f (gets.over f x e); alone = gets.alone })

pub marks-over : (own other : Fibre → Bool) (legs : List Leg) (cs : List LegChange) →
    ((f : Fibre) → own f ≡ true → other f ≡ true) → MayAllMark own legs cs → MayAllMark other legs cs
marks-over own other legs [] more may = tt
marks-over own other legs (Goes l ∷ cs) more may =
    (tt, marks-over own other (leg_changed (Goes l) legs) cs more may.1)
marks-over own other legs (Put g ∷ cs) more may =
    (mark-over own other legs g more may.0, marks-over own other (leg_changed (Put g) legs) cs more may.1)
