use Rattle.std.proofs.Common.{◌∙◌, ap}
use Rattle.mesh_nodes.specs.LocalNodes.{is_neighbour}
use Rattle.control_channels.specs.{Adjacencies.reaches, Controllers.ControllerState}
use Rattle.control_channels.proofs.Reaching.{reach-is}
use Rattle.controller.proofs.controller.Controller.has_neighbour.Goals as goal

pub returns : goal.returns
returns c =
    c.reaches.ensures ∙ ap (λ xs. reaches xs c.args.n.0) c.deref.ensures.value
    ∙ reach-is c.self.inside.node.place c.self.inside.adjacencies.items c.self.invariant.0.peers c.args.n
    ∙ ap (λ (s : ControllerState). is_neighbour s.node.place c.args.n) c.self.view_is
