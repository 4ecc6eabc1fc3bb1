-- One SRLG of a link more.
use Rattle.std.proofs.Common.{◌≡◌, ℕ, ◌+◌, ◌<◌, List, [], ◌∷◌, ◌++◌, append_assoc, drop, get_or, length, Some, None, false, is_some, refl}
use Rattle.std.specs.{Prelude.filter_map, List.list_all}
use Rattle.toml.specs.{View.view, declared.value.Value.Value}
use Rattle.plan_reader.specs.PlanTables.{srlg_in, views}
use Rattle.plan_reader.proofs.Elements.{views_here}

pub srlg_more :
    (vs : List Value) (i n : ℕ) (v : Value) (done more all : List ℕ) → i < length vs → v ≡ get_or vs i v
    → srlg_in (view v) ≡ Some n → more ≡ done ++ n ∷ [] → done ++ filter_map srlg_in (drop i (views vs)) ≡ all
    → more ++ filter_map srlg_in (drop (i + 1) (views vs)) ≡ all
srlg_more vs i n v done more all below here found grown h =
    let before : done ++ n ∷ filter_map srlg_in (drop (i + 1) (views vs)) ≡ all =
    rw (views_here vs i v below here, found) at h in
    rw grown (rw append_assoc before)

-- the SRLGs that are left are within reach where the first is and those behind it are
pub srlg_within :
    (vs : List Value) (i n : ℕ) (v : Value) → i < length vs → v ≡ get_or vs i v → srlg_in (view v) ≡ Some n
    → list_all (λ s. is_some (srlg_in s)) (drop i (views vs))
    ≡ list_all (λ s. is_some (srlg_in s)) (drop (i + 1) (views vs))
srlg_within vs i n v below here found = rw (views_here vs i v below here, found) refl

pub srlg_beyond :
    (vs : List Value) (i : ℕ) (v : Value) → i < length vs → v ≡ get_or vs i v → srlg_in (view v) ≡ None
    → list_all (λ s. is_some (srlg_in s)) (drop i (views vs)) ≡ false
srlg_beyond vs i v below here found = rw (views_here vs i v below here, found) refl
