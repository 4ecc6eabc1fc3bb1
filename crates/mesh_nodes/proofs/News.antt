-- What holds of each alarm and of each clear holds of all that a node is told when groups fail or are repaired.
use Rattle.std.proofs.{Common.{ℕ, Bool, true, false, nat_eq, List, [], ◌∷◌}, ByRecursion.All-append}
use Rattle.std.specs.{Prelude.flat_map, List.AllByRecursion}
use Rattle.ason_base.specs.{Lsps.same_bool, declared.commands.DeskItem.DeskItem, declared.commands.Group.Group, declared.ids.Fibre.Fibre, declared.network.LinkSpec.LinkSpec}
use Rattle.mesh_rules.specs.Failures.{changed_news, is_cut, link_news, news, news_at}
use Rattle.mesh_nodes.proofs.Cases.{if_cases}

module _ (P : DeskItem → Type 0) (each : (cut : Bool) (f : Fibre) → P (news cut f)) where
  at-node : (n receiver : ℕ) (cut : Bool) (f : Fibre) → AllByRecursion P (news_at n receiver cut f)
  at-node n receiver cut f =
      if_cases (AllByRecursion P) (nat_eq receiver n) (news cut f ∷ []) [] (λ e. (each cut f, tt)) (λ e. tt)

  of-link : (before later : List Group) (n : ℕ) (l : LinkSpec) → AllByRecursion P (changed_news before later n l)
  of-link before later n l =
      if_cases (AllByRecursion P) (same_bool (is_cut before l) (is_cut later l)) [] (link_news n (is_cut later l) l)
      (λ e. tt)
      (λ e. All-append P (news_at n l.high.0 (is_cut later l) (record { link = l.id; forward = true })) _
      (at-node n l.high.0 (is_cut later l) (record { link = l.id; forward = true }))
      (at-node n l.low.0 (is_cut later l) (record { link = l.id; forward = false })))

  -- of these links, one after the other
  pub all-told : (before later : List Group) (n : ℕ) (links : List LinkSpec) →
      AllByRecursion P (flat_map (changed_news before later n) links)
  all-told before later n [] = tt
  all-told before later n (l ∷ links) =
      All-append P (changed_news before later n l) _ (of-link before later n l) (all-told before later n links)
