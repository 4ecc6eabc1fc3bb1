-- Walks under bans, and what changes where the bans are told in another way.
use Rattle.std.proofs.Common.{◌≡◌, length, ◌⊎◌, ◌↔◌, inl, inr, ℕ, ◌<◌, List, [], ◌∷◌, refl, sym, ◌∙◌, ap, subst, arith}
use Rattle.std.specs.List.{Contains}
use Rattle.ason_base.specs.{Walks.{IsBackup, IsInner, IsWalk, NoLink, NoNode, SharesRisk}, declared.ids.LinkId.LinkId, declared.ids.NodeId.NodeId, declared.network.TeRow.TeRow, declared.steps.Step.Step}
use Rattle.ason_base.proofs.Members.{contains-cases, contains-tail, contains-head}
use Rattle.route_least.proofs.Bans.{fewer_walk}

pub none_in : {X : Type 0} (xs : List X) → xs ≡ [] → (x : X) → Contains xs x ↔ ⊥
none_in xs none x = (
  (λ there. (let h : there.0 < 0 =
      subst (λ ys. there.0 < length ys) none there.1 in absurd (omega arith))),
  (λ h. absurd h),
)

module _ (rows : List TeRow) (BannedLink : LinkId → Type 0) (BannedNode : NodeId → Type 0) where
  -- a walk uses no banned link, and visits no banned node after its start
  pub step_link : (a b : NodeId) (steps : List Step) (cost : ℕ) → IsWalk rows BannedLink BannedNode a b steps cost →
      (s : Step) → Contains steps s → ¬ BannedLink s.link
  step_link a b [] cost walk s there = absurd (let h : there.0 < 0 = there.1 in omega arith)
  step_link a b (t ∷ steps) cost walk s there =
      elim (contains-cases t s steps there) [
        | inl same ↦ (λ banned. walk.3.link_allowed (subst BannedLink
            (ap (λ x. x.link) (sym same) ∙ walk.3.link) banned))
        | inr later ↦ step_link walk.1 b steps walk.2 walk.4 s later
      ]

  pub step_node : (a b : NodeId) (steps : List Step) (cost : ℕ) → IsWalk rows BannedLink BannedNode a b steps cost →
      (s : Step) → Contains steps s → (s.node ≡ a) ⊎ (¬ BannedNode s.node)
  step_node a b [] cost walk s there = absurd (let h : there.0 < 0 = there.1 in omega arith)
  step_node a b (t ∷ steps) cost walk s there =
      elim (contains-cases t s steps there) [
        | inl same ↦ inl (ap (λ x. x.node) (sym same) ∙ walk.3.sender)
        | inr later ↦ elim (step_node walk.1 b steps walk.2 walk.4 s later) [
          | inl next ↦ inr (λ banned. walk.3.node_allowed (subst BannedNode next banned))
          | inr allowed ↦ inr allowed
        ]
      ]

module _ (rows : List TeRow) (primary : List Step) (from to : NodeId) (Link : LinkId → Type 0)
    (Node : NodeId → Type 0) (links : (l : LinkId) → Link l ↔ SharesRisk rows primary l)
    (nodes : (n : NodeId) → Node n ↔ IsInner from to primary n) where
  -- a walk that keeps off the primary route's risks and inner nodes is a backup
  pub backup_of : (route : List Step) (cost : ℕ) → IsWalk rows Link Node from to route cost →
      IsBackup rows primary from to route cost
  backup_of route cost walk = record {
    walk = fewer_walk rows Link NoLink Node NoNode (λ row known none. absurd none)
        (λ n none. absurd none) from to route cost walk;
    risks = λ r mine theirs.
        step_link rows Link Node from to route cost walk mine.1 mine.3
        (subst Link mine.4 ((links mine.0.link).1 (mine.0, r, mine.2, refl, mine.5, theirs)));
    nodes = λ n mine theirs.
        elim (step_node rows Link Node from to route cost walk mine.0 mine.1) [
          | inl first ↦ mine.3 (sym mine.2 ∙ first)
          | inr allowed ↦ allowed (subst Node (sym mine.2) ((nodes n).1 theirs))
        ];
  }

  not_end : Node to → ⊥
  not_end banned = ((nodes to).0 banned).4 refl

  next_allowed : (n : NodeId) (steps : List Step) (cost : ℕ) → IsWalk rows NoLink NoNode n to steps cost →
      ((s : Step) → Contains steps s → ¬ Node s.node) → ¬ Node n
  next_allowed n [] cost walk off = λ banned. not_end (subst Node walk.0 banned)
  next_allowed n (s ∷ steps) cost walk off = λ banned. off s (contains-head s steps) (subst Node (sym walk.3.sender) banned)

  kept_off : (a : NodeId) (steps : List Step) (cost : ℕ) → IsWalk rows NoLink NoNode a to steps cost →
      ((s : Step) → Contains steps s → ¬ Link s.link) → ((s : Step) → Contains steps s → ¬ Node s.node) →
      IsWalk rows Link Node a to steps cost
  kept_off a [] cost walk off_links off_nodes = walk
  kept_off a (s ∷ steps) cost walk off_links off_nodes = (
    walk.0,
    walk.1,
    walk.2,
    record {
      known = walk.3.known;
      sender = walk.3.sender;
      link = walk.3.link;
      joins = walk.3.joins;
      link_allowed = λ banned. off_links s (contains-head s steps) (subst Link (sym walk.3.link) banned);
      node_allowed = next_allowed walk.1 steps walk.2 walk.4 (λ t there. off_nodes t (contains-tail s t steps there));
    },
    kept_off walk.1 steps walk.2 walk.4 (λ t there. off_links t (contains-tail s t steps there))
        (λ t there. off_nodes t (contains-tail s t steps there)),
    walk.5,
  )

  -- and a backup keeps off them
  pub walk_of : (route : List Step) (cost : ℕ) → IsBackup rows primary from to route cost →
      IsWalk rows Link Node from to route cost
  walk_of route cost backup =
      kept_off from route cost backup.walk
      (λ s there banned. (let shares = (links s.link).0 banned in backup.risks shares.1
      (shares.0, s, shares.2, there, shares.3, shares.4) shares.5))
      (λ s there banned. (let inner = (nodes s.node).0 banned in backup.nodes s.node
      (s, there, refl, inner.3, inner.4) inner))
