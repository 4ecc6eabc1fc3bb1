use Rattle.wire_buf.proofs.Steps.{route_again}
use Rattle.wire_buf.proofs.routes.routes_come_back.Goals as goal

pub returns : goal.returns
returns c = route_again
