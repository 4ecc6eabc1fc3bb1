use Rattle.mesh_nodes.proofs.LabelPlaces.{is-at}
use Rattle.leg_carrying.proofs.MarkChanges.{darkens-here}
use Rattle.leg_carrying.proofs.marking.darken.Goals as goal

pub disarm-requires : goal.disarm-requires
disarm-requires c =
    let f = c.in-Some-Some.fibre in
    let x = c.in-Some-Some.label in
    record {
      there = c.requires f x (is-at c.args.fibre c.args.label f x c.in-Some-Some.is-0 c.in-Some-Some.is-1);
    }

pub returns-in-Some-Some : goal.returns-in-Some-Some
returns-in-Some-Some c =
    darkens-here c.args.lsp c.args.fibre c.args.label c.in-Some-Some.fibre c.in-Some-Some.label c.args.owner.now
    c.disarm.new.self c.in-Some-Some.is-0 c.in-Some-Some.is-1 c.disarm.ensures
