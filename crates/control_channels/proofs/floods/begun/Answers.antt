use Rattle.std.proofs.Common.{◌∙◌, List, map, ap, sym, subst}
use Rattle.ason_base.specs.{declared.network.LinkSpec.LinkSpec, Network.row_of}
use Rattle.flood.specs.{NetworkLaws.AreRowsOfLinks, Networks.{begun_node, new_flood}}
use Rattle.mesh_rules.specs.{LocalNodes.local_node, State.new_node}
use Rattle.control_channels.specs.ReadyControllers.{FloodFits}
use Rattle.control_channels.proofs.Beginning.{begun-fits, beside-are}
use Rattle.control_channels.proofs.floods.begun.Goals as goal

pub declare_own-requires-clause-links : goal.declare_own-requires-clause-links
declare_own-requires-clause-links c =
    subst (λ (ls : List LinkSpec). AreRowsOfLinks (map row_of ls)) (sym c.links-links.ensures.list)
    (c.every_start.ensures.topology c.args.t.now c.links-links.ensures.valid)

pub declare_own-requires-clause-new : goal.declare_own-requires-clause-new
declare_own-requires-clause-new c =
    c.every_start.ensures.new c.args.n c.deref.result.now c.in_ok-flood.flood c.in_ok-flood.ensures
    ∙ ap (new_flood c.args.n) (c.deref.ensures.value ∙ c.in_ok-neighbours.ensures
    ∙ sym (beside-are c.args.n c.links-links.result.now))

pub returns-clause-fits : goal.returns-clause-fits
returns-clause-fits c =
    subst (FloodFits (local_node c.args.t.now c.args.n) new_node)
    (sym (c.in_ok-declare_own.ensures ∙ ap (λ (ls : List LinkSpec). begun_node (map row_of ls) c.args.n)
    c.links-links.ensures.list))
    (begun-fits c.args.t.now c.args.n c.links-links.ensures.valid)
