-- A command is posted, and an item of a desk is handled: how much waits at desks.
use Rattle.std.proofs.Common.{◌≡◌, ◌≤◌, ℕ, ◌+◌, ◌-◌, ◌*◌, Bool, true, false, cond, nat_eq, List, [], ◌∷◌, ◌++◌, drop, length, refl, arith, eqb-true}
use Rattle.std.specs.Prelude.{flat_map}
use Rattle.ason_base.specs.{Lsps.same_bool, Network.Network, declared.ids.Fibre.Fibre, declared.network.LinkSpec.LinkSpec, declared.commands.DeskItem.DeskItem, declared.commands.Group.Group}
use Rattle.ason_base.proofs.Numbers.{number-turned}
use Rattle.mesh_rules.specs.{Failures.{all_news, changed_news, is_cut, link_news, news, news_at, with_failed}, Machine.{Mesh, with_item, without_item}}
use Rattle.mesh_laws.specs.{Weights.{FirstRoutes, alarm_weight, item_weight}, Work.{Spot, Desk, Way, amount, total, AreSpotsApart, WorkIsWithin}}
use Rattle.mesh_laws.proofs.rest.Works.{once, once-most, once-zero, total-append, total-four, total-none, work-moved}

-- the first item of a desk is taken
module _ (o : FirstRoutes) (s : Mesh) (n : ℕ) (i : DeskItem) (items : List DeskItem) (was : s.desks n ≡ i ∷ items) where
  dropped-each : (p : Spot) → amount o (without_item s n) p + once (Desk n) (item_weight i) p ≤ amount o s p + 0
  dropped-each (Way a b) = omega arith
  dropped-each (Desk m) = go (nat_eq m n) refl
    where
      go : (b : Bool) → nat_eq m n ≡ b →
          total item_weight (cond b (drop 1 (s.desks m)) (s.desks m)) + cond b (item_weight i) 0 ≤
          total item_weight (s.desks m) + 0
      go true e =
          let at : m ≡ n = eqb-true m n e in
          let is : s.desks m ≡ i ∷ items = rw at was in
          rw is (omega arith)
      go false e = omega arith

  -- A desk without its first item weighs less by this item.
  pub item-dropped : (w : ℕ) → WorkIsWithin o s w → (left : ℕ) × WorkIsWithin o (without_item s n) left ×
      (left + item_weight i ≡ w)
  item-dropped w within =
      let there : total (amount o s) (Desk n ∷ []) ≤ w = within (Desk n ∷ []) (refl, tt) in
      let first : total item_weight (s.desks n) ≡ item_weight i + total item_weight items = rw was refl in (
        w - item_weight i,
        λ ps apart.
            (let h = work-moved (amount o s) (amount o (without_item s n)) (λ p. 0) (Desk n) (item_weight i) 0 w
            dropped-each (omega arith)
            (λ ps apart. (let z = total-none (λ (p : Spot). 0) ps (λ p. refl) in omega arith)) within ps apart in
            omega arith),
        omega arith,
      )

-- an item more
module _ (o : FirstRoutes) (s : Mesh) (n : ℕ) (i : DeskItem) where
  more-each : (p : Spot) → amount o (with_item s n i) p + once (Desk 0) 0 p ≤ amount o s p + once (Desk n)
      (item_weight i) p
  more-each (Way a b) = omega arith
  more-each (Desk m) = go (nat_eq m n) (once-zero (Desk 0) (Desk m))
    where
      go : (b : Bool) → once (Desk 0) 0 (Desk m) ≡ 0 →
          total item_weight (cond b (s.desks m ++ i ∷ []) (s.desks m)) + once (Desk 0) 0 (Desk m) ≤
          total item_weight (s.desks m) + cond b (item_weight i) 0
      go true z = let h = total-append item_weight (s.desks m) (i ∷ []) in omega arith
      go false z = omega arith

  -- A desk with an item more weighs more by this item.
  pub item-more : (w : ℕ) → WorkIsWithin o s w → WorkIsWithin o (with_item s n i) (w + item_weight i)
  item-more w within ps apart =
      let h = work-moved (amount o s) (amount o (with_item s n i)) (once (Desk n) (item_weight i)) (Desk 0) 0
      (item_weight i) w more-each (omega arith) (once-most (Desk n) (item_weight i)) within ps apart in
      omega arith

-- Groups that fail or are repaired

-- what a node is told, as an amount at its desk
abbrev pub told : (ℕ → List DeskItem) → Spot → ℕ
told news (Desk n) = total item_weight (news n)
told news (Way a b) = 0

news-weigh : (cut : Bool) (f : Fibre) → item_weight (news cut f) ≡ alarm_weight
news-weigh true f = refl
news-weigh false f = refl

one-news : (high : ℕ) (cut : Bool) (f : Fibre) (p : Spot) →
    told (λ n. news_at n high cut f) p + 0 ≤ once (Desk high) alarm_weight p + 0
one-news high cut f (Way a b) = omega arith
one-news high cut f (Desk n) = go (nat_eq high n) (nat_eq n high) (number-turned high n) (news-weigh cut f)
  where
    go : (a b : Bool) → a ≡ b → item_weight (news cut f) ≡ alarm_weight →
        total item_weight (cond a (news cut f ∷ []) []) + 0 ≤ cond b alarm_weight 0 + 0
    go true true e h = omega (arith, h)
    go true false e h = absurd (cc e)
    go false b e h = omega arith

at-most : (high : ℕ) (cut : Bool) (f : Fibre) (ps : List Spot) → AreSpotsApart ps →
    total (told (λ n. news_at n high cut f)) ps ≤ alarm_weight
at-most high cut f ps apart =
    let a = total-four (told (λ n. news_at n high cut f)) (λ p. 0) (once (Desk high) alarm_weight) (λ p. 0) ps
    (one-news high cut f) in
    let b = once-most (Desk high) alarm_weight ps apart in
    let z = total-none (λ (p : Spot). 0) ps (λ p. refl) in
    omega (arith, a, b, z)

split : (f g : ℕ → List DeskItem) (p : Spot) → told (λ n. f n ++ g n) p + 0 ≤ told f p + told g p
split f g (Way a b) = omega arith
split f g (Desk n) = let h = total-append item_weight (f n) (g n) in omega arith

-- Two lists of items one after the other weigh at most what both weigh.
pub split-most : (f g : ℕ → List DeskItem) (ps : List Spot) →
    total (told (λ n. f n ++ g n)) ps ≤ total (told f) ps + total (told g) ps
split-most f g ps =
    let a = total-four (told (λ n. f n ++ g n)) (λ p. 0) (told f) (told g) ps (split f g) in
    let z = total-none (λ (p : Spot). 0) ps (λ p. refl) in
    omega arith

told-none : (p : Spot) → told (λ n. []) p ≡ 0
told-none (Desk n) = refl
told-none (Way a b) = refl

link-most : (before after : List Group) (l : LinkSpec) (ps : List Spot) → AreSpotsApart ps →
    total (told (λ n. changed_news before after n l)) ps ≤ 2 * alarm_weight
link-most before after l ps apart = go (same_bool (is_cut before l) (is_cut after l))
  where
    go : (b : Bool) → total (told (λ n. cond b [] (link_news n (is_cut after l) l))) ps ≤ 2 * alarm_weight
    go true = let z = total-none (told (λ n. [])) ps told-none in omega arith
    go false =
        let a = split-most (λ n. news_at n l.high.0 (is_cut after l) (record { link = l.id; forward = true }))
        (λ n. news_at n l.low.0 (is_cut after l) (record { link = l.id; forward = false })) ps in
        let b = at-most l.high.0 (is_cut after l) (record { link = l.id; forward = true }) ps apart in
        let c = at-most l.low.0 (is_cut after l) (record { link = l.id; forward = false }) ps apart in
        omega arith

links-most : (before after : List Group) (links : List LinkSpec) (ps : List Spot) → AreSpotsApart ps →
    total (told (λ n. flat_map (changed_news before after n) links)) ps ≤ 2 * length links * alarm_weight
links-most before after [] ps apart = let z = total-none (told (λ n. [])) ps told-none in omega arith
links-most before after (l ∷ links) ps apart =
    let a = split-most (λ n. changed_news before after n l) (λ n. flat_map (changed_news before after n) links) ps in
    let b = link-most before after l ps apart in
    let c = links-most before after links ps apart in
    omega arith

module _ (o : FirstRoutes) (t : Network) (s : Mesh) (after : List Group) where
  failed-each : (p : Spot) → amount o (with_failed t s after) p + once (Desk 0) 0 p ≤
      amount o s p + told (all_news t s.failed after) p
  failed-each (Way a b) = omega arith
  failed-each (Desk m) =
      let z = once-zero (Desk 0) (Desk m) in
      let h = total-append item_weight (s.desks m) (all_news t s.failed after m) in
      omega arith

  -- What a failure or a repair tells weighs at most an alarm for each end of each link.
  pub failed-more : (w : ℕ) → WorkIsWithin o s w →
      WorkIsWithin o (with_failed t s after) (w + 2 * length t.links * alarm_weight)
  failed-more w within ps apart =
      let h = work-moved (amount o s) (amount o (with_failed t s after)) (told (all_news t s.failed after)) (Desk 0) 0
      (2 * length t.links * alarm_weight) w failed-each (omega arith) (links-most s.failed after t.links) within ps
      apart in
      omega arith
