-- The inner nodes of a route, step by step.
use Rattle.std.proofs.{Common.{◌≡◌, ◌≢◌, ◌↔◌, inl, inr, ℕ, ◌+◌, ◌<◌, List, [], ◌∷◌, ◌++◌, length, get_or, take, sym, ◌∙◌, ap, subst}, lemmas.List.take_more, lemmas.List.Elements.{Contains-append_left, Contains-push, Contains-push_cases}}
use Rattle.std.specs.List.{Contains}
use Rattle.ason_base.specs.{Walks.IsInner, declared.ids.NodeId.NodeId, declared.steps.Step.Step}

abbrev pub AreInner : NodeId → NodeId → List Step → List NodeId → Type 0
AreInner from to steps nodes = (n : NodeId) → Contains nodes n ↔ IsInner from to steps n

pub node_added : (from to : NodeId) (steps : List Step) (step : Step) (nodes : List NodeId) →
    AreInner from to steps nodes → (step.node ≢ from) × (step.node ≢ to) →
    AreInner from to (steps ++ step ∷ []) (nodes ++ step.node ∷ [])
node_added from to steps step nodes are other n = (
  (λ h. elim (Contains-push_cases nodes step.node n h) [
    | inl before ↦ (let has = (are n).0 before in
        (has.0, Contains-append_left steps (step ∷ []) has.0 has.1, has.2, has.3, has.4))
    | inr same ↦ (step, Contains-push steps step, same, (λ e. other.0 (same ∙ e)), (λ e. other.1 (same ∙ e)))
  ]),
  (λ has. elim (Contains-push_cases steps step has.0 has.1) [
    | inl before ↦ Contains-append_left nodes (step.node ∷ []) n ((are n).1 (has.0, before, has.2, has.3, has.4))
    | inr same ↦ subst (Contains (nodes ++ step.node ∷ [])) (ap (λ s. s.node) same ∙ has.2)
        (Contains-push nodes step.node)
  ]),
)

pub node_skipped : (from to : NodeId) (steps : List Step) (step : Step) (nodes : List NodeId) →
    AreInner from to steps nodes → ((step.node ≢ from) × (step.node ≢ to) → ⊥) →
    AreInner from to (steps ++ step ∷ []) nodes
node_skipped from to steps step nodes are end n = (
  (λ h. (let has = (are n).0 h in (has.0, Contains-append_left steps (step ∷ []) has.0 has.1, has.2, has.3, has.4))),
  (λ has. elim (Contains-push_cases steps step has.0 has.1) [
    | inl before ↦ (are n).1 (has.0, before, has.2, has.3, has.4)
    | inr same ↦ absurd
        (let here : step.node ≡ n = ap (λ s. s.node) same ∙ has.2 in
        end ((λ e. has.3 (sym here ∙ e)), (λ e. has.4 (sym here ∙ e))))
  ]),
)

pub node_added_at : (from to : NodeId) (steps : List Step) (i : ℕ) (d : Step) (nodes : List NodeId) →
    i < length steps → AreInner from to (take i steps) nodes → ((get_or steps i d).node ≢ from) ×
    ((get_or steps i d).node ≢ to) → AreInner from to (take (i + 1) steps) (nodes ++ (get_or steps i d).node ∷ [])
node_added_at from to steps i d nodes within are other =
    subst (λ done. AreInner from to done (nodes ++ (get_or steps i d).node ∷ [])) (sym (take_more steps i d within))
    (node_added from to (take i steps) (get_or steps i d) nodes are other)

pub node_skipped_at : (from to : NodeId) (steps : List Step) (i : ℕ) (d : Step) (nodes : List NodeId) →
    i < length steps → AreInner from to (take i steps) nodes →
    (((get_or steps i d).node ≢ from) × ((get_or steps i d).node ≢ to) → ⊥) →
    AreInner from to (take (i + 1) steps) nodes
node_skipped_at from to steps i d nodes within are end =
    subst (λ done. AreInner from to done nodes) (sym (take_more steps i d within))
    (node_skipped from to (take i steps) (get_or steps i d) nodes are end)
