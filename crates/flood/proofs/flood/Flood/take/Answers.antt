use Rattle.std.proofs.Common.{◌≡◌, sym, subst}
use Rattle.std.specs.Prelude.{OnOk}
use Rattle.flood.specs.State.{flood_received}
use Rattle.flood.proofs.flood.Flood.take.Goals as goal

pub returns-in-Row-clause-ok : goal.returns-in-Row-clause-ok
returns-in-Row-clause-ok c =
    subst (λ m. OnOk c.take_row.result (c.take_row.new.self ≡ flood_received c.args.self.now c.args.from m))
    (sym c.in-Row.is)
    (c.take_row.ensures.ok c.in-Row.number)
