use Rattle.std.proofs.{}
use Rattle.node_core.proofs.node.Node.carry_out.Goals as goal

pub carry_out_changes-requires : goal.carry_out_changes-requires
carry_out_changes-requires c = (c.args.change.sent, c.requires)
