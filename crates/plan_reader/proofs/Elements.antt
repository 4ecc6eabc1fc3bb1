-- Elements and keys of TOML values beside what they stand for.
use Rattle.std.proofs.{Common.{◌≡◌, ℕ, ◌+◌, ◌<◌, List, [], ◌∷◌, length, drop, get_or, Bool, true, false, ◌&&◌, ◌||◌, not, map, string_bytes, refl, sym, ap, ◌∙◌}, lemmas.List.{drop-map, drop_more}}
use Rattle.std.specs.{List.list_all, declared.alloc.Global.Global, Prelude.String}
use Rattle.toml.specs.{View.{view, items_view, members_view}, declared.value.Value.Value}
use Rattle.plan_reader.specs.{declared.values.Shape.Shape, PlanTables.{items_listed, is_key, has_strange_member, views}}

pub listed-view : (vs : List Value) → items_listed (items_view vs) ≡ map (λ v. view v) vs
listed-view [] = refl
listed-view (v ∷ vs) = ap (λ ds. view v ∷ ds) (listed-view vs)

step : (a b : Bool) → (a && not b) ≡ not (not a || b)
step true b = refl
step false b = refl

pub known_keys :
    (shape : Shape) (es : List (String Global × Value))
    → list_all (λ (k : String Global). is_key shape (string_bytes k)) (map (λ e. e.0) es)
    ≡ not (has_strange_member shape (members_view es))
known_keys shape [] = refl
known_keys shape (e ∷ es) =
    let known = is_key shape (string_bytes e.0) in
    ap (λ b. known && b) (known_keys shape es) ∙ step known (has_strange_member shape (members_view es))

-- what is left from a place on, where there is an element
pub views-from :
    (vs : List Value) (i : ℕ) (d : Value) → i < length vs
    → drop i (views vs) ≡ view (get_or vs i d) ∷ drop (i + 1) (views vs)
views-from vs i d h =
    let later = sym (drop-map (λ v. view v) (i + 1) vs) in
    drop-map (λ v. view v) i vs
    ∙ (ap (λ xs. views xs) (drop_more vs i d h) ∙ ap (λ ds. view (get_or vs i d) ∷ ds) later)

-- the same, where the element is known by its place
pub views_here :
    (vs : List Value) (i : ℕ) (v : Value) → i < length vs → v ≡ get_or vs i v
    → drop i (views vs) ≡ view v ∷ drop (i + 1) (views vs)
views_here vs i v below here =
    views-from vs i v below ∙ ap (λ x. view x ∷ drop (i + 1) (views vs)) (sym here)
