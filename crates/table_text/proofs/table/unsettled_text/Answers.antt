use Rattle.std.proofs.Common.{append_assoc, refl}
use Rattle.table_text.proofs.table.unsettled_text.Goals as goal

pub returns : goal.returns
returns c =
    let printed = c.in_ok-text.ensures.ok in
    simp (append_assoc, printed) refl
