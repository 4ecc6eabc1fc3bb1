-- Rows closed one after the other, and what they share with a route.
use Rattle.std.proofs.{Common.{◌≡◌, ◌⊎◌, ◌↔◌, inl, inr, ℕ, ◌+◌, ◌<◌, ◌≤◌, Bool, true, false, List, [], ◌∷◌, ◌++◌, Some, length, length-set, map, get_or, set, slice_get, refl, sym, ◌∙◌, ap, subst, arith, replicate}, lemmas.List.{get_or-map, get_or_default, length-map, length-replicate}, lemmas.List.Elements.{Contains-append_cases, Contains-append_left, Contains-append_right, Contains-push, Contains-push_cases}, lemmas.Option.{slice_get-get_or, slice_get_within}}
use Rattle.std.specs.List.{Contains}
use Rattle.ason_base.specs.{Risks.risks_of, Walks.SharesRisk, declared.ids.LinkId.LinkId, declared.network.TeRow.TeRow, declared.risks.Risk.Risk, declared.risks.Risk.TheVariants.{Srlg, Link}, declared.steps.Step.Step}
use Rattle.ason_base.proofs.Numbers.{before-or-same}
use Rattle.route_least.specs.{Bans.AreRowsWith, Costs.is_place_marked, Network.IsClosed}
use Rattle.route_least.proofs.{Lowered.{marked_other, marked_same}, PlaceLists.{nothing, some_same}, WalkLaws.{known_row, known_at}, AllMarked.unmarked_all}
use Rattle.route_pair.specs.Closed.{AreClosedToo, AreSrlgsOf, AreUsed, HasOneSrlg, IsSrlgOf}

-- SRLGs

module _ (rows : List TeRow) (used : List Bool) (k : ℕ) (d : TeRow) (srlgs : List ℕ) (within : k < length rows)
    (are : AreSrlgsOf rows used k srlgs) where
  here : slice_get rows k ≡ Some (get_or rows k d)
  here = slice_get-get_or rows k d within

  later : (x : ℕ) → IsSrlgOf rows used k x → IsSrlgOf rows used (k + 1) x
  later x has = (has.0, has.1, (let h : has.0 < k = has.2 in omega arith), has.3, has.4, has.5)

  is_here : (i : ℕ) (row : TeRow) → i ≡ k → slice_get rows i ≡ Some row → get_or rows k d ≡ row
  is_here i row e at = some_same (sym here ∙ subst (λ j. slice_get rows j ≡ Some row) e at)

  pub srlgs_more : is_place_marked used k ≡ true → AreSrlgsOf rows used (k + 1) (srlgs ++ (get_or rows k d).srlgs)
  srlgs_more on x = (
    (λ h. elim (Contains-append_cases srlgs (get_or rows k d).srlgs x h) [
      | inl before ↦ later x ((are x).0 before)
      | inr new ↦ (k, get_or rows k d, (omega arith), here, on, new)
    ]),
    (λ has. elim (before-or-same has.0 k has.2) [
      | inl before ↦ Contains-append_left srlgs (get_or rows k d).srlgs x
          ((are x).1 (has.0, has.1, before, has.3, has.4, has.5))
      | inr e ↦ Contains-append_right srlgs (get_or rows k d).srlgs x
          (subst (λ r. Contains r.srlgs x) (sym (is_here has.0 has.1 e has.3)) has.5)
    ]),
  )

  pub srlgs_same : is_place_marked used k ≡ false → AreSrlgsOf rows used (k + 1) srlgs
  srlgs_same off x = (
    (λ h. later x ((are x).0 h)),
    (λ has. elim (before-or-same has.0 k has.2) [
      | inl before ↦ (are x).1 (has.0, has.1, before, has.3, has.4, has.5)
      | inr e ↦ absurd (let on = subst (λ j. is_place_marked used j ≡ true) e has.4 in cc (on, off))
    ]),
  )

pub no_srlgs : (rows : List TeRow) (used : List Bool) (srlgs : List ℕ) → srlgs ≡ [] → AreSrlgsOf rows used 0 srlgs
no_srlgs rows used srlgs none x = (
  (λ h. absurd (nothing srlgs x none h)),
  (λ has. absurd (let h : has.0 < 0 = has.2 in omega arith)),
)

-- Closed rows

pub none_closed : (rows : List TeRow) (Holds : TeRow → Type 0) (old : List Bool) → AreClosedToo rows Holds 0 old old
none_closed rows Holds old = record { len = refl; are = λ k row below at. absurd (omega arith); rest = λ k from. refl }

module _ (rows : List TeRow) (Holds : TeRow → Type 0) (k : ℕ) (d : TeRow) (old new : List Bool)
    (within : k < length rows) (are : AreClosedToo rows Holds k old new) where
  at_here : (i : ℕ) (row : TeRow) → i ≡ k → slice_get rows i ≡ Some row → get_or rows k d ≡ row
  at_here i row e at = some_same (sym (slice_get-get_or rows k d within) ∙
      subst (λ j. slice_get rows j ≡ Some row) e at)

  below_apart : (i : ℕ) → i < k → (i ≡ k → ⊥)
  below_apart i less e = absurd (omega arith)

  pub closed_more : k < length new → Holds (get_or rows k d) →
      AreClosedToo rows Holds (k + 1) old (set new k true)
  closed_more inside has = record {
    len = length-set new k true ∙ are.len;
    are = λ i row below at. elim (before-or-same i k below) [
      | inl before ↦ subst (λ b. (b ≡ true) ↔ ((is_place_marked old i ≡ true) ⊎ Holds row))
          (sym (marked_other new k i true (below_apart i before))) (are.are i row before at)
      | inr e ↦ (
        (λ on. inr (subst Holds (at_here i row e at) has)),
        (λ h. subst (λ j. is_place_marked (set new k true) j ≡ true) (sym e) (marked_same new k true inside)),
      )
    ];
    rest = λ i from. marked_other new k i true (λ e. absurd (omega arith)) ∙ are.rest i (omega arith);
  }

  pub closed_same : ¬ Holds (get_or rows k d) → AreClosedToo rows Holds (k + 1) old new
  closed_same none = record {
    len = are.len;
    are = λ i row below at. elim (before-or-same i k below) [
      | inl before ↦ are.are i row before at
      | inr e ↦
          (let same : is_place_marked new i ≡ is_place_marked old i = are.rest i (omega arith) in (
            (λ on. inl (sym same ∙ on)),
            (λ h. elim h [
              | inl on ↦ same ∙ on
              | inr one ↦ absurd
                  (none (subst Holds (sym (at_here i row e at)) one))
            ]),
          ))
    ];
    rest = λ i from. are.rest i (omega arith);
  }

-- where no row was marked, just those are of which it holds, in whichever words
pub closed_alone : (rows : List TeRow) (Holds Means : TeRow → Type 0) (old new : List Bool) →
    ((row : TeRow) → Holds row ↔ Means row) → old ≡ replicate (length rows) false →
    AreClosedToo rows Holds (length rows) old new → AreRowsWith Means rows (length rows) new
closed_alone rows Holds Means old new same none too = record {
  len = too.len ∙ ap length none ∙ length-replicate (length rows) false;
  are = λ k row below at. (
    (λ on. elim ((too.are k row below at).0 on) [
      | inl before ↦ absurd
          (let off = unmarked_all (length rows) k in
          let was = subst (λ marks. is_place_marked marks k ≡ true) none before in cc (off, was))
      | inr holds ↦ (same row).0 holds
    ]),
    (λ means. (too.are k row below at).1 (inr ((same row).1 means))),
  );
}

-- Risks of rows

link_risk : (row : TeRow) → Contains (risks_of row) (Link row.link)
link_risk row = Contains-push (map Srlg row.srlgs) (Link row.link)

srlg_risk : (row : TeRow) (x : ℕ) → Contains row.srlgs x → Contains (risks_of row) (Srlg x)
srlg_risk row x there =
    Contains-append_left (map Srlg row.srlgs) (Link row.link ∷ []) (Srlg x) (
      there.0,
      subst (λ n. there.0 < n) (sym (length-map row.srlgs Srlg)) there.1,
      get_or-map Srlg row.srlgs there.0 x (Srlg x) there.1 ∙ ap Srlg there.2,
    )

srlg_or_link : (row : TeRow) (r : Risk) → Contains (risks_of row) r →
    ((x : ℕ) × Contains row.srlgs x × (Srlg x ≡ r)) ⊎ (Link row.link ≡ r)
srlg_or_link row r has = elim (Contains-push_cases (map Srlg row.srlgs) (Link row.link) r has) [
  | inl srlg ↦
      (let within : srlg.0 < length row.srlgs = subst (λ n. srlg.0 < n) (length-map row.srlgs Srlg) srlg.1 in
      let x : ℕ = get_or row.srlgs srlg.0 0 in
      inl (
        x,
        (srlg.0, within, get_default row.srlgs srlg.0 x within),
        sym (get_or-map Srlg row.srlgs srlg.0 0 r within) ∙ srlg.2,
      ))
  | inr same ↦ inr same
]
  where
    get_default : (xs : List ℕ) (i x : ℕ) → i < length xs → get_or xs i x ≡ get_or xs i 0
    get_default xs i x within = get_or_default xs i x 0 within

same_srlg : (x y : ℕ) → Srlg x ≡ Srlg y → x ≡ y
same_srlg x y e = cc

same_link : (l m : LinkId) → Link l ≡ Link m → l ≡ m
same_link l m e = cc

apart : (x : ℕ) (l : LinkId) → Srlg x ≡ Link l → ⊥
apart x l e = cc

-- The rows with a risk of the route

module _ (rows : List TeRow) (route : List Step) (used closed : List Bool) (srlgs : List ℕ)
    (on_route : AreUsed rows route (length rows) used) (are : AreSrlgsOf rows used (length rows) srlgs)
    (too : AreClosedToo rows (λ row. HasOneSrlg row srlgs) (length rows) used closed) where
  shares : (l : LinkId) → IsClosed rows closed l → SharesRisk rows route l
  shares l shut =
      let row = shut.1 in
      let known = known_row rows shut.0 row shut.2 in
      let below = slice_get_within rows shut.0 row shut.2 in
      elim ((too.are shut.0 row below shut.2).0 shut.4) [
        | inl on ↦
            (let step = (on_route.are shut.0 row below shut.2).0 on in
            (row, Link row.link, known, shut.3, link_risk row, (row, step.0, known, step.1, step.2, link_risk row)))
        | inr one ↦
            (let of = (are one.0).0 one.2 in
            let step = (on_route.are of.0 of.1 of.2 of.3).0 of.4 in (
              row,
              Srlg one.0,
              known,
              shut.3,
              srlg_risk row one.0 one.1,
              (of.1, step.0, known_row rows of.0 of.1 of.3, step.1, step.2, srlg_risk of.1 one.0 of.5),
            ))
      ]

  shut_link : (row other : TeRow) (s : Step) (known : Contains rows row) → Contains route s → other.link ≡ s.link →
      row.link ≡ other.link → is_place_marked closed known.0 ≡ true
  shut_link row other s known there same link =
      (too.are known.0 row known.1 (known_at rows row known)).1
      (inl ((on_route.are known.0 row known.1 (known_at rows row known)).1 (s, there, link ∙ same)))

  shut_srlg : (row other : TeRow) (s : Step) (x : ℕ) (known : Contains rows row) → Contains rows other →
      Contains route s → other.link ≡ s.link → Contains row.srlgs x → Contains other.srlgs x →
      is_place_marked closed known.0 ≡ true
  shut_srlg row other s x known also there same mine theirs =
      let on = (on_route.are also.0 other also.1 (known_at rows other also)).1 (s, there, same) in
      (too.are known.0 row known.1 (known_at rows row known)).1
      (inr (x, mine, (are x).1 (also.0, other, also.1, known_at rows other also, on, theirs)))

  shut_row : (row other : TeRow) (s : Step) (r : Risk) (known : Contains rows row) → Contains rows other →
      Contains route s → other.link ≡ s.link → Contains (risks_of row) r → Contains (risks_of other) r →
      is_place_marked closed known.0 ≡ true
  shut_row row other s r known also there same mine theirs = elim (srlg_or_link row r mine) [
    | inl x ↦ elim (srlg_or_link other r theirs) [
      | inl y ↦ shut_srlg row other s x.0 known also there same x.1
          (subst (Contains other.srlgs) (same_srlg y.0 x.0 (y.2 ∙ sym x.2)) y.1)
      | inr link ↦ absurd (apart x.0 other.link (x.2 ∙ sym link))
    ]
    | inr link ↦ elim (srlg_or_link other r theirs) [
      | inl y ↦ absurd (apart y.0 row.link (y.2 ∙ sym link))
      | inr also_link ↦ shut_link row other s known there same (same_link row.link other.link (link ∙ sym also_link))
    ]
  ]

  pub shares_iff : (l : LinkId) → IsClosed rows closed l ↔ SharesRisk rows route l
  shares_iff l = (
    shares l,
    (λ h. (h.2.0, h.0, known_at rows h.0 h.2, h.3, shut_row h.0 h.5.0 h.5.1 h.1 h.2 h.5.2 h.5.3 h.5.4 h.4 h.5.5)),
  )

-- none of the row's SRLGs is in the list, if none was before the end
pub no_one : (row : TeRow) (srlgs own : List ℕ) (n : ℕ) → own ≡ row.srlgs → length own ≤ n →
    ((k : ℕ) → k < n → ¬ Contains srlgs (get_or own k 0)) → ¬ HasOneSrlg row srlgs
no_one row srlgs own n same past none one =
    let mine : Contains own one.0 = subst (λ xs. Contains xs one.0) (sym same) one.1 in
    let is : get_or own mine.0 0 ≡ one.0 = get_or_default own mine.0 0 one.0 mine.1 ∙ mine.2 in
    none mine.0 (let h : mine.0 < length own = mine.1 in omega arith) (subst (Contains srlgs) (sym is) one.2)
