use Rattle.std.proofs.Common.{◌≡◌, sym, subst, rules}
use Rattle.ason_base.specs.Network.{IsTopology}
use Rattle.load_plan.specs.Networks.{drawn_network, network_with}
use Rattle.load_plan.proofs.Topologies.{is_topology}
use Rattle.load_plan.proofs.network.topology.Goals as goal

pub joined-requires : goal.joined-requires
joined-requires c =
    let made : network_with c.deref.result.now c.deref-2.result.now
    ≡ drawn_network c.args.n c.args.draws.now.state = search rules in
    subst IsTopology (sym made) (is_topology c.args.n c.args.draws.now.state c.requires.least c.requires.most)
