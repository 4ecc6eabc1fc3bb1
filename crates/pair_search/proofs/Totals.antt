-- A tree that stands for a total stands for each lesser one; one that stands without a total stands for every one. So a
-- search may cut by the least total so far.
use Rattle.std.proofs.Common.{◌≤◌, ℕ, ◌+◌, List, [], ◌∷◌, ◌++◌, arith, inl, inr}
use Rattle.std.specs.Prelude.{Option, Some, None}
use Rattle.ason_base.specs.{declared.ids.NodeId.NodeId, declared.network.TeRow.TeRow, declared.steps.Step.Step}
use Rattle.pair_search.specs.{declared.cert.Tree.{Tree, Far, Whole, Branch'}, declared.cert.Children.{Children, End, More'}, Certificates.{ChildStands, IsEnough, IsFar, TreeHolds, bound_at}}

-- what is far, and what is enough, for the one is so for the other
pub record IsWeaker (total less : Option ℕ) : Type 0 where
  pub far : (b : Option ℕ) (cost : ℕ) → IsFar total b cost → IsFar less b cost
  pub enough : (b : Option ℕ) (cost : ℕ) → IsEnough total b cost → IsEnough less b cost

-- a lesser total
pub weaker-less : (total less : ℕ) → less ≤ total → IsWeaker (Some total) (Some less)
weaker-less total less small = record { far = far; enough = enough }
  where
    far : (b : Option ℕ) (cost : ℕ) → IsFar (Some total) b cost → IsFar (Some less) b cost
    far None cost e = tt
    far (Some b) cost e = omega (arith, e, small)

    enough : (b : Option ℕ) (cost : ℕ) → IsEnough (Some total) b cost → IsEnough (Some less) b cost
    enough None cost e = tt
    enough (Some b) cost e = omega (arith, e, small)

-- the same total
pub weaker-same : (total : Option ℕ) → IsWeaker total total
weaker-same total = record { far = λ b cost e. e; enough = λ b cost e. e }

-- a total where there was none
pub weaker-any : (less : ℕ) → IsWeaker None (Some less)
weaker-any less = record { far = far; enough = enough }
  where
    far : (b : Option ℕ) (cost : ℕ) → IsFar None b cost → IsFar (Some less) b cost
    far None cost e = tt
    far (Some b) cost e = absurd e

    enough : (b : Option ℕ) (cost : ℕ) → IsEnough None b cost → IsEnough (Some less) b cost
    enough None cost e = tt
    enough (Some b) cost e = absurd e

module _ (rows : List TeRow) (from to : NodeId) (goal : List (NodeId × ℕ)) (total less : Option ℕ)
    (weaker : IsWeaker total less) where
  mutual
    -- a tree stands on
    pub stands-weaker : (tree : Tree) (done : List Step) (at : NodeId) (cost : ℕ) →
        TreeHolds rows from to total goal tree done at cost → TreeHolds rows from to less goal tree done at cost
    stands-weaker Far done at cost says = weaker.far (bound_at goal at) cost says
    stands-weaker (Whole bounds) done at cost (is, bound, enough) =
        (is, bound, weaker.enough (bound_at bounds from) cost enough)
    stands-weaker (Branch' p all) done at cost (other, kids, each) =
        (other, kids, (λ row next leads. child-weaker all done at cost row next (each row next leads)))

    -- so does a child
    pub child-weaker : (all : Children) (done : List Step) (at : NodeId) (cost : ℕ) (row : TeRow) (next : NodeId) →
        ChildStands rows from to total goal all done at cost row next →
        ChildStands rows from to less goal all done at cost row next
    child-weaker End done at cost row next says = says
    child-weaker (More' link tree p rest) done at cost row next (inl here) =
        inl (
          here.0,
          stands-weaker tree (done ++ record { node = at; link = link } ∷ []) next
              (cost + row.metric) here.1,
        )
    child-weaker (More' link tree p rest) done at cost row next (inr later) =
        inr (child-weaker rest done at cost row next later)
