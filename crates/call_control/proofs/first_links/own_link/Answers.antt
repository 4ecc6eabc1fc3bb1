use Rattle.leg_table.specs.States.{local_of}
use Rattle.call_control.proofs.{Links.own-narrow, WayBack.own-back}
use Rattle.call_control.proofs.first_links.own_link.Goals as goal

pub returns-clause-narrow : goal.returns-clause-narrow
returns-clause-narrow c = own-narrow (local_of c.args.tables.now) c.args.link _ c.requires c.own.ensures

pub returns-clause-back : goal.returns-clause-back
returns-clause-back c = own-back c.args.tables.now c.args.link _ c.requires c.own.ensures
