use Rattle.node_core.proofs.RowOrder.{call-rows-rise, leg-rows-rise}
use Rattle.node_core.proofs.node.Node.rows.Goals as goal

pub returns-clause-calls_rise : goal.returns-clause-calls_rise
returns-clause-calls_rise c =
    rw (c.in_ok-calls.ensures, c.calls.ensures)
    (call-rows-rise c.node.result.now.id c.self.inside.tables.legs c.self.inside.calls.calls
    c.self.invariant.0.state.calls.rise)

pub returns-clause-legs_rise : goal.returns-clause-legs_rise
returns-clause-legs_rise c =
    rw c.in_ok-legs.ensures
    (leg-rows-rise c.node.result.now.id c.self.inside.tables.legs c.self.invariant.0.state.legs.rise)
