-- What a look at rows tells of them: that they have few ends, and that their links are distinct.
use Rattle.std.proofs.{Common.{◌≡◌, ◌⊎◌, inl, inr, ℕ, ◌+◌, ◌-◌, ◌<◌, ◌≤◌, List, ◌++◌, length, map, get_or, sym, ap, subst, arith, length-append}, lemmas.List.{get_or-map, get_or_default, length-map}, lemmas.List.Elements.{Contains-append_left, Contains-append_right}}
use Rattle.std.specs.List.{Contains}
use Rattle.ason_base.specs.{Walks.{HaveDistinctLinks, HaveFewEnds}, declared.ids.NodeId.NodeId, declared.network.TeRow.TeRow}
use Rattle.ason_base.proofs.Numbers.{before-or-same}

end_there : (f : TeRow → NodeId) (rows : List TeRow) (k : ℕ) (d : TeRow) → k < length rows →
    Contains (map f rows) (f (get_or rows k d))
end_there f rows k d within = (
  k,
  subst (λ n. k < n) (sym (length-map rows f)) within,
  get_or-map f rows k d (f (get_or rows k d)) within,
)

pub few : (rows : List TeRow) → length rows ≤ 32 → HaveFewEnds rows
few rows h =
    let low : List NodeId = map (λ r. r.low) rows in
    let high : List NodeId = map (λ r. r.high) rows in
    let n : length (low ++ high) ≡ length low + length high = length-append low high in
    let a : length low ≡ length rows = length-map rows (λ r. r.low) in
    let b : length high ≡ length rows = length-map rows (λ r. r.high) in (
      low ++ high,
      omega arith,
      λ k d within. (
        Contains-append_left low high (get_or rows k d).low (end_there (λ r. r.low) rows k d within),
        Contains-append_right low high (get_or rows k d).high (end_there (λ r. r.high) rows k d within),
      ),
    )

-- the links of the rows before the place rise
abbrev pub LinksRise : List TeRow → ℕ → Type 0
LinksRise rows place = (i j : ℕ) (d : TeRow) → i < j → j < place → (get_or rows i d).link.0 < (get_or rows j d).link.0

before_last : (i place : ℕ) → i < place → (i < place - 1) ⊎ (i ≡ place - 1)
before_last i place h = grind arith

pub rise_more : (rows : List TeRow) (place : ℕ) (here before : TeRow) → 1 ≤ place → place < length rows →
    (get_or rows (place - 1) before).link.0 < (get_or rows place here).link.0 → LinksRise rows place →
    LinksRise rows (place + 1)
rise_more rows place here before one within less rise i j d lt h =
    elim (before-or-same j place h) [
      | inl earlier ↦ rise i j d lt earlier
      | inr last ↦
          (let mine : get_or rows place here ≡ get_or rows place d = get_or_default rows place here d within in
          let theirs : get_or rows (place - 1) before ≡ get_or rows (place - 1) d =
          get_or_default rows (place - 1) before d (omega arith) in
          let step : (get_or rows (place - 1) d).link.0 < (get_or rows place d).link.0 =
          subst (λ x. x.link.0 < (get_or rows place d).link.0) theirs
          (subst (λ y. (get_or rows (place - 1) before).link.0 < y.link.0) mine less) in
          subst (λ k. (get_or rows i d).link.0 < (get_or rows k d).link.0) (sym last)
          (elim (before_last i place (omega arith)) [
            | inl lower ↦ (let a : (get_or rows i d).link.0 < (get_or rows (place - 1) d).link.0 =
                rise i (place - 1) d lower (omega arith) in omega arith)
            | inr same ↦ subst (λ k. (get_or rows k d).link.0 < (get_or rows place d).link.0) (sym same) step
          ]))
    ]

pub distinct : (rows : List TeRow) (place : ℕ) → length rows ≤ place → LinksRise rows place → HaveDistinctLinks rows
distinct rows place le rise i j d lt within same =
    let a : (get_or rows i d).link.0 < (get_or rows j d).link.0 = rise i j d lt (omega arith) in
    let e : (get_or rows i d).link.0 ≡ (get_or rows j d).link.0 = ap (λ l. l.0) same in
    omega arith
