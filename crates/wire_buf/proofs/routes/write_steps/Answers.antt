use Rattle.std.proofs.Common.{ap, arith, length, refl}
use Rattle.wire_buf.proofs.{Codecs.{appends_all, appends_none}, Steps.{route_bytes-length, route_written}}
use Rattle.wire_buf.proofs.routes.write_steps.Goals as goal

pub returns : goal.returns
returns c = appends_all _
    (route_written _ _ _ _ _ _ _ _ _ c.items-steps.ensures refl c.in_ok-reserve.ensures.items c.put_header.ensures.items
    c.put_steps.ensures.items)

pub returns-in_err-reserve : goal.returns-in_err-reserve
returns-in_err-reserve c = appends_none _ c.from_residual.ensures.0 c.in_err-reserve.ensures.items
    (omega (arith, route_bytes-length c.args.steps.now, ap length c.items-steps.ensures, c.in_err-reserve.ensures.full))
