use Rattle.std.proofs.Common.{◌≡◌, List, [], ◌∷◌, Some, sym}
use Rattle.std.specs.Prelude.{IsTrue}
use Rattle.ason_base.specs.{declared.network.LinkSpec.LinkSpec, declared.steps.Step.Step}
use Rattle.mesh_rules.specs.{LocalNodes.{LocalNode, fibre_out}, Legs.reverse, Paths.link_on}
use Rattle.mesh_nodes.specs.LocalNodes.{LocalNodeFits}
use Rattle.leg_table.specs.{LegClaims.is_fibre_in, States.local_of}
use Rattle.leg_labels.proofs.InFibres.{out-comes_back}
use Rattle.path_state.proofs.paths.back_label.Goals as goal

-- the link of a route's first step
comes-back : (p : LocalNode) (route : List Step) (out : LinkSpec) → LocalNodeFits p → link_on p route ≡ Some out →
    IsTrue (is_fibre_in p (reverse (fibre_out out p.id)))
comes-back p [] out links leads = absurd (cc leads)
comes-back p (hop ∷ route) out links leads = out-comes_back p hop.link out links leads

pub back_over-requires-clause-link : goal.back_over-requires-clause-link
back_over-requires-clause-link c =
    comes-back (local_of c.args.tables.now) c.request.inside.route.now c.in-Some.out.now c.requires.fits.links
    (sym c.in-Some.ensures)
