-- The step of a route that a Path has in hand, and the label that it asks for.
use Rattle.std.proofs.Common.{◌≡◌, ◌<◌, ◌≤◌, ℕ, zero, suc, false, List, [], ◌∷◌, length, drop, refl, sym, ap, arith}
use Rattle.std.specs.Prelude.{slice_get, Some, None}
use Rattle.ason_base.specs.{Labels.least, declared.network.LinkSpec.LinkSpec}
use Rattle.mesh_rules.specs.{State.NodeState, LocalNodes.LocalNode, KnownRows.known_rows, Paths.{PathRequest, is_none, is_primary_unknown, first_failure, checks, offered_labels}}
use Rattle.lsp_laws.proofs.nodes.PathKeeps.{none_fails}

-- The rest of a route

pub drop-none : {X : Type 0} (j : ℕ) (xs : List X) → drop j xs ≡ [] → length xs ≤ j
drop-none zero [] e = omega arith
drop-none zero (x ∷ xs) e = cc
drop-none (suc j) [] e = omega arith
drop-none (suc j) (x ∷ xs) e = let further : length xs ≤ j = drop-none j xs e in omega arith

pub drop-further : {X : Type 0} (j : ℕ) (xs : List X) → drop j xs ≡ [] → [] ≡ drop (suc j) xs
drop-further zero [] e = refl
drop-further zero (x ∷ xs) e = cc
drop-further (suc j) [] e = refl
drop-further (suc j) (x ∷ xs) e = drop-further j xs e

pub record StartsAt {X : Type 0} (j : ℕ) (xs : List X) (h : X) (r : List X) : Type 0 where
  pub below : j < length xs
  pub first : slice_get xs j ≡ Some h
  pub further : r ≡ drop (suc j) xs

pub drop-some : {X : Type 0} (j : ℕ) (xs : List X) (h : X) (r : List X) → drop j xs ≡ h ∷ r → StartsAt j xs h r
drop-some zero [] h r e = cc
drop-some zero (x ∷ xs) h r e = record {
  below = omega arith;
  first = (let q : x ≡ h = cc in ap Some q);
  further = (let q : xs ≡ r = cc in sym q);
}
drop-some (suc j) [] h r e = cc
drop-some (suc j) (x ∷ xs) h r e =
    let st = drop-some j xs h r e in
    record { below = (let b = st.below in omega arith); first = st.first; further = st.further }

-- Refusals

-- where a Path isn't refused, a label is left
pub some_label : (p : LocalNode) (s : NodeState) (m : PathRequest) (link : LinkSpec) →
    first_failure (checks p s m link) ≡ None →
    is_none (least (offered_labels p s m link)) ≡ false
some_label p s m link none = (none_fails (checks p s m link) none).1.1.1.1.0

-- and each link of its primary's route is known
pub primary_known : (p : LocalNode) (s : NodeState) (m : PathRequest) (link : LinkSpec) →
    first_failure (checks p s m link) ≡ None →
    is_primary_unknown (known_rows p s) m.role ≡ false
primary_known p s m link none = (none_fails (checks p s m link) none).1.1.0
