use Rattle.std.proofs.Common.{◌≡◌, ◌∷◌, ◌++◌, [], drop}
use Rattle.ason_base.specs.{Network.is_distinct, Routes.nodes_of}
use Rattle.ason_base.proofs.routes.is_apart.Given as goal

abbrev pub invariant-loop-i : goal.invariant-loop-i
invariant-loop-i l = is_distinct (nodes_of (drop l.i l.route) ++ l.to.0 ∷ []) ≡ is_distinct
    (nodes_of l.route ++ l.to.0 ∷ [])
