-- Rows for which there is room have few ends.
use Rattle.std.proofs.{Common.{◌≡◌, ◌≤◌, ℕ, ◌==◌, nat_lt, nat_le, true, List, [], ◌∷◌, ◌++◌, length, get_or, map, ap, ◌∙◌, subst, arith, Contains}, lemmas.List.length-map, lemmas.List.Elements.Contains-get_or}
use Rattle.std.specs.Prelude.{◌||◌, ◌&&◌}
use Rattle.ason_base.specs.{declared.limits.TheConstants.{MOST_LINKS, MOST_NODES}, Walks.HaveFewEnds, declared.ids.NodeId.NodeId, declared.network.TeRow.TeRow}
use Rattle.ason_base.proofs.{Ordered.{any-there, there-any}, Numbers.equal-is, Members.there-map}
use Rattle.flood.specs.State.{ends_in_rows, has_room, is_end, with_ends}
use Rattle.flood.proofs.{DifferentEnds.ends_are_listed, KnownRows.fold_last}

low_end : (a b : ℕ) → ((a == a) || (b == a)) ≡ true
low_end a b = grind arith

high_end : (a b : ℕ) → ((a == b) || (b == b)) ≡ true
high_end a b = grind arith

second_test : (n e : ℕ) → (nat_lt n MOST_LINKS && nat_le e MOST_NODES) ≡ true → e ≤ MOST_NODES
second_test n e h = grind arith

node_of : ℕ → NodeId
node_of n = record { 0 = n }

end_there : (rows : List TeRow) (row : TeRow) (n : NodeId) → Contains rows row → is_end n row ≡ true →
    Contains (map node_of (ends_in_rows rows)) n
unfolding node_of
end_there rows row n there end =
    let found = any-there (λ m. m == n.0) (ends_in_rows rows)
    (ends_are_listed rows n.0 ∙ there-any (is_end n) rows row there end) in
    there-map node_of (ends_in_rows rows) n.0
    (subst (Contains (ends_in_rows rows)) (equal-is found.0 n.0 found.2) found.1)

pub room_is_for_few : (rows : List TeRow) (row : TeRow) → has_room rows row ≡ true → HaveFewEnds (rows ++ row ∷ [])
unfolding node_of
room_is_for_few rows row room = (
  map node_of (ends_in_rows all),
  few,
  λ k d within. (
    end_there all (get_or all k d) (get_or all k d).low (Contains-get_or all k d within)
        (low_end (get_or all k d).low.0 (get_or all k d).high.0),
    end_there all (get_or all k d) (get_or all k d).high (Contains-get_or all k d within)
        (high_end (get_or all k d).low.0 (get_or all k d).high.0),
  ),
)
  where
    all : List TeRow
    all = rows ++ row ∷ []

    few : length (map node_of (ends_in_rows all)) ≤ MOST_NODES
    few =
        let most : length (with_ends (ends_in_rows rows) row) ≤ MOST_NODES =
        second_test (length rows) (length (with_ends (ends_in_rows rows) row)) room in
        let count : length (map node_of (ends_in_rows all)) ≡ length (ends_in_rows all) =
        length-map (ends_in_rows all) node_of in
        let last : length (ends_in_rows all) ≡ length (with_ends (ends_in_rows rows) row) =
        ap length (fold_last rows row []) in
        omega arith
