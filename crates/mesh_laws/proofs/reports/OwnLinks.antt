-- A link of the network is found among the own links of its ends.
use Rattle.std.proofs.Common.{◌≡◌, ◌<◌, ℕ, Bool, true, false, cond, nat_eq, List, [], ◌∷◌, filter, refl, sym, subst, arith, Contains, inl, inr}
use Rattle.std.specs.Prelude.{Some, find}
use Rattle.ason_base.specs.{Network.touches, declared.ids.NodeId.NodeId, declared.network.LinkSpec.LinkSpec}
use Rattle.ason_base.proofs.{LinkOrder.LinksRiseAbove, Members.{contains-cases, contains-none}}

pub above-all : (m : ℕ) (links : List LinkSpec) (l : LinkSpec) → LinksRiseAbove m links → Contains links l → m < l.id.0
above-all m [] l rise there = absurd (contains-none l there)
above-all m (k ∷ links) l rise there = elim (contains-cases k l links there) [
  | inl same ↦ subst (λ (x : LinkSpec). m < x.id.0) same rise.0
  | inr later ↦ (
      let beyond : k.id.0 < l.id.0 = above-all k.id.0 links l rise.1 later in
      let above : m < k.id.0 = rise.0 in
      omega arith)
]

pub found-own : (n : NodeId) (m : ℕ) (links : List LinkSpec) (l : LinkSpec) → LinksRiseAbove m links →
    Contains links l →
    touches n l ≡ true → find (λ k. nat_eq k.id.0 l.id.0) (filter (touches n) links) ≡ Some l
found-own n m [] l rise there end = absurd (contains-none l there)
found-own n m (k ∷ links) l rise there end = elim (contains-cases k l links there) [
  | inl same ↦ subst (Looked (touches n k)) same
      (first (subst (λ (x : LinkSpec). touches n x ≡ true) (sym same) end))
  | inr later ↦ go (touches n k) (apart k.id.0 l.id.0 (above-all k.id.0 links l rise.1 later))
      (found-own n k.id.0 links l rise.1 later end)
]
  where
    Looked : Bool → LinkSpec → Type 0
    Looked b x =
        find (λ k. nat_eq k.id.0 x.id.0) (cond b (k ∷ filter (touches n) links) (filter (touches n) links)) ≡ Some x

    itself : (a : ℕ) → nat_eq a a ≡ true
    itself a = grind arith

    apart : (a b : ℕ) → a < b → nat_eq a b ≡ false
    apart a b less = grind arith

    first : touches n k ≡ true → Looked (touches n k) k
    first here = rw (here, itself k.id.0) refl

    go : (b : Bool) → nat_eq k.id.0 l.id.0 ≡ false →
        find (λ k. nat_eq k.id.0 l.id.0) (filter (touches n) links) ≡ Some l → Looked b l
    go true other found = rw other found
    go false other found = found
