use Rattle.std.proofs.Common.{sym}
use Rattle.toml.proofs.Views.{view-Array}
use Rattle.plan_reader.proofs.Elements.{listed-view}
use Rattle.plan_reader.proofs.values.elements_of.Goals as goal

pub returns-in-Array : goal.returns-in-Array
returns-in-Array c =
    let values = c.in-Array.values in
    rw (c.as_slice.ensures.value, c.in-Array.is, view-Array values) (sym (listed-view values.items))
