use Rattle.std.proofs.Common.{sym}
use Rattle.mesh_nodes.proofs.Links.{own-is}
use Rattle.leg_table.specs.States.{local_of}
use Rattle.path_state.proofs.paths.pass_on.Goals as goal

pub set_on-sent-requires : goal.set_on-sent-requires
set_on-sent-requires c =
    (own-is (local_of c.args.tables.now) c.args.hop.link c.in-Some.out.now c.requires (sym c.in-Some.ensures)).narrow
