-- The row that was learnt last is forgotten.
use Rattle.std.proofs.Common.{◌≡◌, ◌≤◌, ◌-◌, ◌+◌, ◌++◌, ℕ, zero, suc, List, [], ◌∷◌, drop, length, length-append, map, take, refl, sym, ap, ◌∙◌, arith}
use Rattle.ason_base.specs.{declared.network.TeRow.TeRow, Network.row_of}
use Rattle.leg_table.specs.{States.learnt_rows, Tables.{CallTable, LegTable}}
use Rattle.mesh_nodes.specs.Nodes.{without_last}
use Rattle.node_core.specs.Nodes.{node_view_of}

gone : (k : ℕ) (xs : List TeRow) → length xs ≡ 0 → 1 ≤ length (drop k xs) → ⊥
gone zero xs e h = absurd (omega arith)
gone (suc k) [] e h = absurd (omega arith)
gone (suc k) (x ∷ xs) e h = absurd (omega arith)

-- the last of a list is the last of what is behind its first ones
drop-last : (k : ℕ) (xs : List TeRow) → 1 ≤ length (drop k xs) →
    drop k (take (length xs - 1) xs) ≡ take (length (drop k xs) - 1) (drop k xs)
drop-last zero xs some = refl
drop-last (suc k) [] some = absurd (omega arith)
drop-last (suc k) (x ∷ []) some = absurd (gone k [] refl some)
drop-last (suc k) (x ∷ y ∷ xs) some =
    let long : length (x ∷ y ∷ xs) - 1 ≡ suc (length xs) = omega arith in
    let short : length (y ∷ xs) - 1 ≡ length xs = omega arith in
    ap (λ n. drop (suc k) (take n (x ∷ y ∷ xs))) long
    ∙ ap (λ n. drop k (take n (y ∷ xs))) (sym short)
    ∙ drop-last k (y ∷ xs) some

pub node-forgets : (t s : LegTable) (c : CallTable) → s ≡ record t { rows = take (length t.rows - 1) t.rows } →
    1 ≤ length (node_view_of t c).state.learnt → node_view_of s c ≡ without_last (node_view_of t c)
node-forgets t s c is some =
    ap (λ u. node_view_of u c) is
    ∙ ap (λ rows. record {
      place = (node_view_of t c).place;
      state = record (node_view_of t c).state { learnt = rows };
    }) (drop-last (length t.own) t.rows some)

-- without the last, the first part stays
front-stays : (fs rest : List TeRow) → 1 ≤ length rest →
    take (length (fs ++ rest) - 1) (fs ++ rest) ≡ fs ++ take (length rest - 1) rest
front-stays [] rest some = refl
front-stays (f ∷ fs) rest some =
    let long : length (f ∷ (fs ++ rest)) - 1 ≡ suc (length (fs ++ rest) - 1) =
    after-first (length (fs ++ rest)) (length fs) (length rest) (length-append fs rest) some in
    ap (λ n. take n (f ∷ (fs ++ rest))) long ∙ ap (λ rows. f ∷ rows) (front-stays fs rest some)
  where
    after-first : (n a b : ℕ) → n ≡ a + b → 1 ≤ b → suc n - 1 ≡ suc (n - 1)
    after-first n a b e some = omega arith

-- the rows of the node's own links stay
pub own-rows-stay : (t : LegTable) → t.rows ≡ map row_of t.own ++ learnt_rows t → 1 ≤ length (learnt_rows t) →
    take (length t.rows - 1) t.rows ≡ map row_of t.own ++ drop (length t.own) (take (length t.rows - 1) t.rows)
own-rows-stay t rows some =
    ap (λ all. take (length all - 1) all) rows
    ∙ front-stays (map row_of t.own) (learnt_rows t) some
    ∙ ap (λ learnt. map row_of t.own ++ learnt) (sym (drop-last (length t.own) t.rows some))
