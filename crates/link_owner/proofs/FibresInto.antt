-- The fibres of a node's own links that come in are those whose receiver it is.
use Rattle.std.proofs.{Common.{◌≡◌, ◌<◌, ◌≤◌, ℕ, zero, suc, Bool, true, false, cond, nat_eq, nat_lt, List, [], ◌∷◌, length, get_or, map, refl, sym, ap, ◌∙◌, arith, leb-true}, lemmas.Option.slice_get-get_or, Math.Bool.or-false}
use Rattle.std.specs.{Prelude.{◌&&◌, ◌||◌, Option, Some, find, filter, slice_get, nat_le}, List.list_any}
use Rattle.ason_base.specs.{declared.limits.TheConstants.MOST_LABELS, declared.ids.Fibre.Fibre, declared.ids.NodeId.NodeId, declared.network.LinkSpec.LinkSpec, declared.network.NodeSpec.NodeSpec, Lsps.same_bool, Network.{IsTopology, Network, far_end, is_after, is_link, is_link_here, is_link_at, link_number, touches}}
use Rattle.link_owner.specs.{Claims.FibreClaims, Owners.{HasFibresInto, comes_in, fibre_unclaimed, is_fibre, is_this_node, labels_of_fibre, none_claimed}}
use Rattle.ason_base.proofs.{Numbers.{one-less, above-zero}, Bools.{and-right, and-left}}
use Rattle.ason_base.proofs.JoinedEnds.{ends-in_order}

-- A topology's links

narrow : (nodes : List NodeSpec) (l : LinkSpec) → is_link nodes l ≡ true → nat_le l.labels MOST_LABELS ≡ true
narrow nodes l h = and-right (nat_le 1 l.labels) _ (and-right _ _ (and-left _ _ (and-left _ _ h)))

pub narrow-link : (t : Network) → IsTopology t → (k : ℕ) (l : LinkSpec) → k < length t.links → l ≡ get_or t.links k l →
    l.labels ≤ MOST_LABELS
narrow-link t valid k l below is =
    let found : slice_get t.links k ≡ Some (get_or t.links k l) = slice_get-get_or t.links k l below in
    let here : is_link_here t.nodes (slice_get t.links k) ≡ true =
    and-right (is_after t.links k) _ (valid.links k below) in
    let test : nat_le (get_or t.links k l).labels MOST_LABELS ≡ true = narrow t.nodes (get_or t.links k l)
    (rw found at here) in
    leb-true l.labels MOST_LABELS (ap (λ m. nat_le m.labels MOST_LABELS) is ∙ test)

-- the number before place k, from b on
number_before : ℕ → List LinkSpec → ℕ → ℕ
number_before b links zero = b
number_before b links (suc k) = link_number (slice_get links k)

-- the link at place k has a greater number than the one before, and leads from its low end to its high one
is_in_place : List NodeSpec → ℕ → List LinkSpec → ℕ → Bool
is_in_place nodes b links k = nat_lt (number_before b links k)
    (link_number (slice_get links k)) && is_link_here nodes (slice_get links k)

in_place : (t : Network) → IsTopology t → (k : ℕ) → k < length t.links → is_in_place t.nodes 0 t.links k ≡ true
unfolding is_in_place number_before
in_place t valid zero below = valid.links 0 below
in_place t valid (suc k) below =
    let first = above-zero k in
    let one_less = one-less k in
    let here : is_link_at t.nodes t.links (suc k) ≡ true = valid.links (suc k) below in
    rw (first, one_less) at here

-- links whose numbers rise from above b, each from its low end to its high one
abbrev RiseFrom : ℕ → List LinkSpec → Type 0
RiseFrom b [] = Unit {0}
RiseFrom b (l ∷ links) = (nat_lt b l.id.0 ≡ true) × (nat_lt l.low.0 l.high.0 ≡ true) × RiseFrom l.id.0 links

rise : (nodes : List NodeSpec) (b : ℕ) (links : List LinkSpec) →
    ((k : ℕ) → k < length links → is_in_place nodes b links k ≡ true) → RiseFrom b links
unfolding is_in_place number_before
rise nodes b [] each = tt
rise nodes b (l ∷ links) each =
    let here : (nat_lt b l.id.0 && is_link nodes l) ≡ true = each 0 (omega arith) in
    (and-left _ _ here, ends-in_order nodes l (and-right (nat_lt b l.id.0) _ here), rise nodes l.id.0 links later)
  where
    later : (k : ℕ) → k < length links → is_in_place nodes l.id.0 links k ≡ true
    later zero below = each 1 (omega arith)
    later (suc k) below = each (suc (suc k)) (omega arith)

-- Fibres

coming : NodeId → List LinkSpec → List FibreClaims
coming n links = map (fibre_unclaimed n) (filter (touches n) links)

-- a fibre of a link of a lower number isn't there
nowhere : (b : ℕ) (links : List LinkSpec) → RiseFrom b links → (f : Fibre) (n : NodeId) → f.link.0 ≤ b →
    list_any (is_fibre f) (coming n links) ≡ false
unfolding coming
nowhere b [] rises f n low = refl
nowhere b (l ∷ links) rises f n low = go (touches n l) (nowhere l.id.0 links rises.2 f n (omega (arith, above)))
  where
    above : b < l.id.0
    above = (let test : nat_lt b l.id.0 ≡ true = rises.0 in grind arith)

    other : nat_eq l.id.0 f.link.0 ≡ false
    other = (let h : b < l.id.0 = above in grind arith)

    go : (t : Bool) → list_any (is_fibre f) (coming n links) ≡ false →
        list_any (is_fibre f) (map (fibre_unclaimed n)
        (cond t (l ∷ filter (touches n) links) (filter (touches n) links))) ≡ false
    go true rest = rw (other, rest) refl
    go false rest = rest

-- the end that a fibre of a link leads to
leads : (high low forward : Bool) → (low || high) ≡ true → (low && high) ≡ false →
    same_bool high forward ≡ cond forward high low
leads true true forward h k = absurd (cc k)
leads true false true h k = refl
leads true false false h k = refl
leads false true true h k = refl
leads false true false h k = refl
leads false false forward h k = absurd (cc h)

no_end : (high low forward : Bool) → (low || high) ≡ false → cond forward high low ≡ false
no_end true true forward h = absurd (cc h)
no_end true false forward h = absurd (cc h)
no_end false true forward h = absurd (cc h)
no_end false false true h = refl
no_end false false false h = refl

end_is : (l : LinkSpec) (n : NodeId) (forward : Bool) →
    is_this_node (far_end (Some l) forward) n ≡ cond forward (nat_eq l.high.0 n.0) (nat_eq l.low.0 n.0)
end_is l n true = refl
end_is l n false = refl

fibres_into : (b : ℕ) (links : List LinkSpec) → RiseFrom b links → (f : Fibre) (n : NodeId) →
    list_any (is_fibre f) (coming n links)
    ≡ is_this_node (far_end (find (λ l. nat_eq l.id.0 f.link.0) links) f.forward) n
unfolding coming
fibres_into b [] rises f n = refl
fibres_into b (l ∷ links) rises f n = go (touches n l) refl (nat_eq l.id.0 f.link.0) refl
    (fibres_into l.id.0 links rises.2 f n)
  where
    Found : Option LinkSpec
    Found = find (λ l. nat_eq l.id.0 f.link.0) links

    none : nat_eq l.id.0 f.link.0 ≡ true → list_any (is_fibre f) (coming n links) ≡ false
    none e = nowhere l.id.0 links rises.2 f n (grind arith)

    apart : (nat_eq l.low.0 n.0 && nat_eq l.high.0 n.0) ≡ false
    apart = (let test : nat_lt l.low.0 l.high.0 ≡ true = rises.1 in grind arith)

    go : (t : Bool) → touches n l ≡ t → (e : Bool) → nat_eq l.id.0 f.link.0 ≡ e →
        list_any (is_fibre f) (coming n links) ≡ is_this_node (far_end Found f.forward) n →
        list_any (is_fibre f) (map (fibre_unclaimed n)
        (cond t (l ∷ filter (touches n) links) (filter (touches n) links))) ≡ is_this_node
        (far_end (cond e (Some l) Found) f.forward) n
    go true t true e rest =
        rw (e, none e) (or-false (same_bool (nat_eq l.high.0 n.0) f.forward) ∙
        leads (nat_eq l.high.0 n.0) (nat_eq l.low.0 n.0) f.forward t apart ∙ sym (end_is l n f.forward))
    go true t false e rest = rw e rest
    go false t true e rest = none e ∙ sym (end_is l n f.forward ∙
        no_end (nat_eq l.high.0 n.0) (nat_eq l.low.0 n.0) f.forward t)
    go false t false e rest = rest

pub has_fibres_into : (t : Network) → IsTopology t → (n : NodeId) → HasFibresInto t n (none_claimed t n)
unfolding coming
has_fibres_into t valid n f = fibres_into 0 t.links (rise t.nodes 0 t.links (in_place t valid)) f n

-- A fibre that comes in has the labels of its link.

link_of : NodeId → Fibre → List LinkSpec → Option LinkSpec
link_of n f links = find (λ l. nat_eq l.id.0 f.link.0) (filter (touches n) links)

labels_into : (labels : Option LinkSpec → ℕ) → ((l : LinkSpec) → labels (Some l) ≡ l.labels) →
    (b : ℕ) (links : List LinkSpec) → RiseFrom b links →
    (f : Fibre) (n : NodeId) → list_any (is_fibre f) (coming n links) ≡ true →
    labels_of_fibre f (coming n links) ≡ labels (link_of n f links)
unfolding coming link_of
labels_into labels of b [] rises f n comes = absurd (cc comes)
labels_into labels of b (l ∷ links) rises f n comes =
    go (touches n l) comes (labels_into labels of l.id.0 links rises.2 f n)
  where
    Later : Type 0
    Later = list_any (is_fibre f) (coming n links) ≡ true →
        labels_of_fibre f (coming n links) ≡ labels (link_of n f links)

    first : (e : Bool) → nat_eq l.id.0 f.link.0 ≡ e → (d : Bool) →
        ((e && d) || list_any (is_fibre f) (coming n links)) ≡ true → Later →
        cond (e && d) l.labels (labels_of_fibre f (coming n links)) ≡ labels (cond e (Some l) (link_of n f links))
    first true e true comes later = sym (of l)
    first true e false comes later = absurd (cc (comes, nowhere l.id.0 links rises.2 f n (grind arith)))
    first false e d comes later = later comes

    go : (t : Bool) →
        list_any (is_fibre f) (map (fibre_unclaimed n)
        (cond t (l ∷ filter (touches n) links) (filter (touches n) links))) ≡ true → Later →
        labels_of_fibre f (map (fibre_unclaimed n) (cond t (l ∷ filter (touches n) links) (filter (touches n) links))) ≡
        labels (find (λ m. nat_eq m.id.0 f.link.0)
        (cond t (l ∷ filter (touches n) links) (filter (touches n) links)))
    go true comes later = first (nat_eq l.id.0 f.link.0) refl (same_bool (nat_eq l.high.0 n.0) f.forward) comes later
    go false comes later = later comes

pub has_labels_into : (labels : Option LinkSpec → ℕ) → ((l : LinkSpec) → labels (Some l) ≡ l.labels) → (t : Network) →
    IsTopology t → (n : NodeId)
    (f : Fibre) → comes_in (none_claimed t n) f ≡ true →
    labels_of_fibre f (none_claimed t n) ≡ labels (find (λ l. nat_eq l.id.0 f.link.0) (filter (touches n) t.links))
unfolding coming link_of
has_labels_into labels of t valid n f comes =
    labels_into labels of 0 t.links (rise t.nodes 0 t.links (in_place t valid)) f n comes
