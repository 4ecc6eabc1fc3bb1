-- The loop that ages each message in its place.
use Rattle.std.proofs.Common.{◌≡◌, ℕ, ◌+◌, ◌<◌, zero, suc, List, [], ◌∷◌, ◌++◌, length, get_or, set, take, drop, map, refl, ap, ◌∙◌, arith, add-one}
use Rattle.hop_reliable.specs.{declared.unacked.Unacked.Unacked, Ages.older_age, Hop.{older, still_unacked}}

abbrev pub aged : ℕ → List Unacked → List Unacked
aged i ws = map older (take i ws) ++ drop i ws

get_or-aged : (ws : List Unacked) (i : ℕ) (d : Unacked) → i < length ws → get_or (aged i ws) i d ≡ get_or ws i d
get_or-aged [] i d h = absurd (omega arith)
get_or-aged (w ∷ ws) zero d h = refl
get_or-aged (w ∷ ws) (suc i) d h = get_or-aged ws i d (omega arith)

set-aged : (ws : List Unacked) (i : ℕ) (d : Unacked) → i < length ws →
    set (aged i ws) i (older (get_or ws i d)) ≡ aged (suc i) ws
set-aged [] i d h = absurd (omega arith)
set-aged (w ∷ ws) zero d h = refl
set-aged (w ∷ ws) (suc i) d h = ap (λ zs. older w ∷ zs) (set-aged ws i d (omega arith))

pub aged_more : (ws now : List Unacked) (i age : ℕ) (w : Unacked) → i < length ws → now ≡ aged i ws →
    w ≡ get_or now i w → age ≡ older_age w.age →
    set now i (record { number = w.number; age = age; msg = w.msg }) ≡ aged (i + 1) ws
aged_more ws now i age w h same w_is age_is =
    let is : w ≡ get_or ws i w = w_is ∙ ap (λ vs. get_or vs i w) same ∙ get_or-aged ws i w h in
    rw (age_is, same, add-one i) (ap (λ v. set (aged i ws) i (older v)) is ∙ set-aged ws i w h)

pub still_unacked-nil : (ws : List Unacked) → still_unacked [] ws ≡ ws
still_unacked-nil [] = refl
still_unacked-nil (w ∷ ws) = ap (λ zs. w ∷ zs) (still_unacked-nil ws)
