-- What lists that are made of other lists contain.
use Rattle.std.proofs.{Common.{◌≡◌, ℕ, List, map, ap, ◌∙◌, subst, Contains}, lemmas.Option.{get_or_from_slice_get, slice_get-get_or, slice_get_within}}
use Rattle.std.specs.{Prelude.Some, List.slice_get}
use Rattle.ason_base.proofs.Members.{there-from_map}

-- what holds of each element, changed by a map
pub each_mapped : {X Y : Type 0} (P : X → Type 0) (Q : Y → Type 0) (f : X → Y) (xs : List X) → ((x : X) → P x → Q (f x))
    → ((x : X) → Contains xs x → P x) → (y : Y) → Contains (map f xs) y → Q y
each_mapped P Q f xs keeps all y there =
    let q = there-from_map f xs y there in
    subst Q q.2 (keeps q.0 (all q.0 q.1))

pub place_of : {X : Type 0} (xs : List X) (x : X) → Contains xs x → (k : ℕ) × (slice_get xs k ≡ Some x)
place_of xs x there = (there.0, slice_get-get_or xs there.0 x there.1 ∙ ap Some there.2)

pub there_from_place : {X : Type 0} (xs : List X) (k : ℕ) (x : X) → slice_get xs k ≡ Some x → Contains xs x
there_from_place xs k x at = (k, slice_get_within xs k x at, get_or_from_slice_get xs k x x at)
