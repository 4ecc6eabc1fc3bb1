-- What a search finds is what the plan's text tells.
use Rattle.std.proofs.{Common.{◌≡◌, ◌∙◌, ◌⊎◌, inl, inr, ◌<◌, ◌≤◌, ℕ, Bool, true, false, cond, nat_eq, List, [], ◌∷◌, ◌++◌, Option, Some, None, get_or, refl, sym, ap, subst, arith, codes}, lemmas.List.get_or_default}
use Rattle.std.specs.{Prelude.{find, option_map}, List.{AllPairs, Contains}}
use Rattle.ason_base.specs.{Walks.{ArePotentials, IsWalk, NoLink, NoNode}, declared.ids.NodeId.NodeId, declared.network.TeRow.TeRow}
use Rattle.ason_base.proofs.{Bridges.same_node, Numbers.self-number, Members.{contains-cases, contains-head, contains-tail, contains-none}}
use Rattle.route_least.specs.{Answers.JoinsNone, declared.answers.Found.Found}
use Rattle.route_pair.specs.Pairs.{HasNoBackup, IsBackupFound, IsPrimary}
use Rattle.mesh_rules.specs.LeastRoutes.{Trip, least_backup, least_trip}
use Rattle.mesh_nodes.specs.Routes.{AreSearchable}
use Rattle.mesh_nodes.proofs.{routes.Backups.{least_backup-least, no_backup-none}, routes.Found.{least_trip-least, no_trip-none}}
use Rattle.plan_reader.specs.declared.plan.Plan.{Plan}
use Rattle.table_text.specs.RouteText.{backup_line, found_text, pair_text, plan_rows, potential_from, potential_in, potentials_text, primary_line, route_line, routes_text}

-- Look-ups in a list of potentials

abbrev Entry : Type 0
Entry = NodeId × ℕ

abbrev is_of : NodeId → Entry → Bool
is_of n e = nat_eq e.0.0 n.0

find-only : (n : NodeId) (p : ℕ) (entries : List Entry) → Contains entries (n, p) →
    ((e : Entry) → Contains entries e → is_of n e ≡ true → e ≡ (n, p)) → find (is_of n) entries ≡ Some (n, p)
find-only n p [] there only = absurd (contains-none (n, p) there)
find-only n p (e ∷ entries) there only =
    go (λ kept. find-only n p entries kept (λ x here same. only x (contains-tail e x entries here) same))
    (is_of n e) refl
  where
    later : is_of n e ≡ false → Contains entries (n, p)
    later other = elim (contains-cases e (n, p) entries there) [
      | inl is ↦ (let same : is_of n e ≡ true = subst (λ x. is_of n x ≡ true) (sym is) (self-number n.0) in
          absurd (cc (same, other)))
      | inr kept ↦ kept
    ]

    go : (Contains entries (n, p) → find (is_of n) entries ≡ Some (n, p)) → (b : Bool) → is_of n e ≡ b →
        cond b (Some e) (find (is_of n) entries) ≡ Some (n, p)
    go onward true same = ap (λ x. Some x) (only e (contains-head e entries) same)
    go onward false other = onward (later other)

find-none : (n : NodeId) (entries : List Entry) → ((e : Entry) → Contains entries e → is_of n e ≡ true → ⊥) →
    find (is_of n) entries ≡ None
find-none n [] none = refl
find-none n (e ∷ entries) none =
    go (find-none n entries (λ x kept same. none x (contains-tail e x entries kept) same)) (is_of n e) refl
  where
    go : find (is_of n) entries ≡ None → (b : Bool) → is_of n e ≡ b → cond b (Some e) (find (is_of n) entries) ≡ None
    go onward true same = absurd (none e (contains-head e entries) same)
    go onward false other = onward

ordered : (i j : ℕ) → (i < j) ⊎ ((j < i) ⊎ (i ≡ j))
ordered i j = grind arith

-- where entries rise, each node has one
one-entry : (entries : List Entry) (n : NodeId) (p : ℕ) → AllPairs (λ x y. x.0.0 < y.0.0) entries →
    Contains entries (n, p) → (e : Entry) → Contains entries e → is_of n e ≡ true → e ≡ (n, p)
one-entry entries n p rise (i, within, is) e (j, here, found) same = elim (ordered i j) [
  | inl before ↦ absurd (not_below (get_or entries i e) (get_or entries j e) (rise i j e before here)
      (ap (λ x. x.0.0) mine) (ap (λ x. x.0.0) found))
  | inr (inl after) ↦ absurd (not_above (get_or entries j e) (get_or entries i e) (rise j i e after within)
      (ap (λ x. x.0.0) found) (ap (λ x. x.0.0) mine))
  | inr (inr at) ↦ sym found ∙ (ap (λ k. get_or entries k e) (sym at) ∙ mine)
]
  where
    mine : get_or entries i e ≡ (n, p)
    mine = get_or_default entries i e (n, p) within ∙ is

    not_below : (x y : Entry) → x.0.0 < y.0.0 → x.0.0 ≡ n.0 → y.0.0 ≡ e.0.0 → ⊥
    not_below x y less a b = grind arith

    not_above : (x y : Entry) → x.0.0 < y.0.0 → x.0.0 ≡ e.0.0 → y.0.0 ≡ n.0 → ⊥
    not_above x y less a b = grind arith

-- Potentials

module _ (rows : List TeRow) (searchable : AreSearchable rows) (from : NodeId) where
  potential-is : (entries : List Entry) → ArePotentials (IsWalk rows NoLink NoNode from) entries → (n : NodeId) →
      potential_in entries n ≡ option_map (λ r. r.cost) (least_trip rows from n)
  potential-is entries are n = go (least_trip rows from n) refl
    where
      go : (o : Option Trip) → least_trip rows from n ≡ o → potential_in entries n ≡ option_map (λ r. r.cost) o
      go None e =
          let none = (no_trip-none rows from n searchable).0 e in
          ap (option_map (λ e. e.1)) (find-none n entries (λ x there same.
          (let walk = are.attained x.0 x.1 there in
          none walk.0 x.1 (subst (λ m. IsWalk rows NoLink NoNode from m walk.0 x.1) (same_node x.0 n same) walk.1))))
      go (Some r) e =
          let is = (least_trip-least rows from n r searchable).0 e in
          let there = are.least n r.steps r.cost is.allowed in
          let walk = are.attained n there.0 there.1 in
          let most : there.0 ≤ r.cost = there.2 in
          let least : r.cost ≤ there.0 = is.least walk.0 there.0 walk.1 in
          let same : there.0 ≡ r.cost = omega arith in
          ap (option_map (λ e. e.1)) (find-only n there.0 entries there.1
          (one-entry entries n there.0 are.rising there.1)) ∙ ap (λ k. Some k) same

-- Routes

abbrev trip_of : Found → Trip
trip_of found = record { steps = found.route; cost = found.cost }

module _ (p : Plan) (valid : AreSearchable (plan_rows p)) (from to : NodeId) where
  told : (pair : List ℕ) (o : Option Trip) (entries : List Entry) → pair ≡ pair_text p from to o →
      least_trip (plan_rows p) from to ≡ o →
      ArePotentials (IsWalk (plan_rows p) NoLink NoNode from) entries →
      found_text p pair entries ≡ routes_text p from to
  told pair o entries is least are =
      let same : potential_in entries ≡ potential_from p from =
      (λ i n. potential-is (plan_rows p) valid from entries are n i) in
      ap (λ text. text ++ potentials_text p (potential_in entries)) (is ∙ ap (pair_text p from to) (sym least))
      ∙ ap (λ f. pair_text p from to (least_trip (plan_rows p) from to) ++ potentials_text p f) same

  found : (a : Found) → IsPrimary (plan_rows p) from to a → least_trip (plan_rows p) from to ≡ Some (trip_of a)
  found a is = (least_trip-least (plan_rows p) from to (trip_of a) valid).1 is.route

  beside : (a : Found) (o : Option Trip) → least_backup (plan_rows p) a.route from to ≡ o →
      primary_line a.route a.cost ++ backup_line o ≡ pair_text p from to (Some (trip_of a))
  beside a o is = ap (λ x. primary_line a.route a.cost ++ backup_line x) (sym is)

  pub both_told : (a b : Found) → IsPrimary (plan_rows p) from to a → IsBackupFound (plan_rows p) a.route from to b →
      found_text p (primary_line a.route a.cost ++ route_line (codes "backup") b.route b.cost) a.potential
      ≡ routes_text p from to
  both_told a b is second =
      told _ (Some (trip_of a)) a.potential (beside a (Some (trip_of b))
      ((least_backup-least (plan_rows p) a.route from to (trip_of b) valid).1 second.route)) (found a is) is.potential

  pub primary_told : (a : Found) → IsPrimary (plan_rows p) from to a → HasNoBackup (plan_rows p) a.route from to →
      found_text p (primary_line a.route a.cost ++ codes "no backup\n") a.potential ≡ routes_text p from to
  primary_told a is none =
      told _ (Some (trip_of a)) a.potential
      (beside a None ((no_backup-none (plan_rows p) a.route from to valid).1 none)) (found a is) is.potential

  pub none_told : (entries : List Entry) → JoinsNone (plan_rows p) NoLink NoNode from to entries →
      found_text p (codes "no primary\n") entries ≡ routes_text p from to
  none_told entries is =
      told _ None entries refl ((no_trip-none (plan_rows p) from to valid).1 is.none) is.potential
