-- The fibres of a node's own links, in and out, are those whose receiver or sender it is. At the start none has a mark.
use Rattle.std.proofs.Common.{◌≡◌, ◌++◌, ℕ, zero, suc, Bool, true, false, cond, not, nat_eq, List, [], ◌∷◌, map, ap, refl, ◌∙◌}
use Rattle.std.specs.{Prelude.{◌&&◌, ◌||◌, None, filter, if◌then◌else◌, replicate, slice_get}, List.flat_map}
use Rattle.link_owner.specs.{declared.marks.TheConstants.PLACES, Marks.{AreDark, FibreMarks, dark_fibre, dark_fibres, has_fibre_marks, is_marked_fibre, lit, lit_on, mark_or, none_lit}, Owners.{HasFibresOf, comes_in, fibre_unclaimed, none_claimed}}
use Rattle.ason_base.specs.{declared.ids.Fibre.Fibre, declared.ids.NodeId.NodeId, declared.network.LinkSpec.LinkSpec, Lsps.same_bool, Network.{IsTopology, Network, touches}}
use Rattle.link_owner.proofs.FibresInto.{has_fibres_into}

-- the other direction of the same link
abbrev pub flipped : Fibre → Fibre
flipped f = record { link = f.link; forward = not f.forward }

-- of one link: e, it is the fibre's; h, its high end is the node; w, the fibre leads forward
one-link : (e h w a b : Bool) →
    ((e && same_bool true w) || ((e && same_bool false w) || (a || b)))
    ≡ (((e && same_bool h w) || a) || ((e && same_bool h (not w)) || b))
one-link false h w a b = refl
one-link true true true a b = refl
one-link true true false true b = refl
one-link true true false false b = refl
one-link true false true true b = refl
one-link true false true false b = refl
one-link true false false a b = refl

-- a fibre is there where it comes in, or the other direction of its link does
either : (n : NodeId) (f : Fibre) (links : List LinkSpec) → has_fibre_marks (flat_map dark_fibres links) f
    ≡ (comes_in (map (fibre_unclaimed n) links) f || comes_in (map (fibre_unclaimed n) links) (flipped f))
either n f [] = refl
either n f (l ∷ links) =
    rw (either n f links)
    (one-link (nat_eq l.id.0 f.link.0) (nat_eq l.high.0 n.0) f.forward
    (comes_in (map (fibre_unclaimed n) links) f) (comes_in (map (fibre_unclaimed n) links) (flipped f)))

pub either-comes : (t : Network) (n : NodeId) (f : Fibre) → has_fibre_marks (none_lit t n) f
    ≡ (comes_in (none_claimed t n) f || comes_in (none_claimed t n) (flipped f))
either-comes t n f = either n f (filter (touches n) t.links)

pub has_fibres_of : (t : Network) → IsTopology t → (n : NodeId) → HasFibresOf t n (none_lit t n)
has_fibres_of t valid n f =
    either-comes t n f ∙ rw (has_fibres_into t valid n f, has_fibres_into t valid n (flipped f)) refl

-- one link more
pub more-dark : (n : NodeId) (links : List LinkSpec) (l : LinkSpec) → flat_map dark_fibres
    (filter (touches n) (links ++ l ∷ [])) ≡ flat_map dark_fibres (filter (touches n) links)
    ++ (if touches n l then dark_fibres l else [])
more-dark n [] l = go (touches n l)
  where
    go : (b : Bool) → flat_map dark_fibres (cond b (l ∷ []) []) ≡ cond b (dark_fibres l) []
    go true = refl
    go false = refl
more-dark n (h ∷ links) l = go (touches n h) (more-dark n links l)
  where
    last : List FibreMarks
    last = if touches n l then dark_fibres l else []

    go : (b : Bool) → flat_map dark_fibres (filter (touches n) (links ++ l ∷ []))
        ≡ flat_map dark_fibres (filter (touches n) links) ++ last →
        flat_map dark_fibres (cond b (h ∷ filter (touches n) (links ++ l ∷ [])) (filter (touches n) (links ++ l ∷ [])))
        ≡ flat_map dark_fibres (cond b (h ∷ filter (touches n) links) (filter (touches n) links)) ++ last
    go true rest = ap (λ ms. dark_fibres h ++ ms) rest
    go false rest = rest

-- Marks

no-mark : (n x : ℕ) → mark_or (slice_get (replicate n None) x) ≡ None
no-mark zero x = refl
no-mark (suc n) zero = refl
no-mark (suc n) (suc x) = no-mark n x

all-dark : (links : List LinkSpec) → AreDark (flat_map dark_fibres links)
all-dark [] f x = refl
all-dark (l ∷ links) f x = go (is_marked_fibre f first) (is_marked_fibre f second) (all-dark links f x)
  where
    first : FibreMarks
    first = dark_fibre (record { link = l.id; forward = true })

    second : FibreMarks
    second = dark_fibre (record { link = l.id; forward = false })

    go : (a b : Bool) → lit (flat_map dark_fibres links) f x ≡ None →
        cond a (lit_on x first) (cond b (lit_on x second) (lit (flat_map dark_fibres links) f x)) ≡ None
    go true b rest = no-mark PLACES x
    go false true rest = no-mark PLACES x
    go false false rest = rest

pub none-dark : (t : Network) (n : NodeId) → AreDark (none_lit t n)
none-dark t n = all-dark (filter (touches n) t.links)
