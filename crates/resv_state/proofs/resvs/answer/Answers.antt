use Rattle.std.proofs.Common.{sym}
use Rattle.leg_labels.proofs.InFibres.{previous-fibre_in}
use Rattle.resv_state.proofs.resvs.answer.Goals as goal

pub labels_left-labels-requires-clause-comes_in : goal.labels_left-labels-requires-clause-comes_in
labels_left-labels-requires-clause-comes_in c =
    let t = c.args.tables.now in
    let h = c.in-Some.back in
    previous-fibre_in t c.args.given.arrival.lsp c.args.leg.now h c.requires.fits.legs c.requires.stands
    (sym c.in-Some.ensures)
