use Rattle.ason_base.specs.declared.messages.Msg.TheVariants.{Path, Resv, PathErr, Notify}
use Rattle.rsvp_messages.specs.Written.{path_end, path_head, request_objects, role_objects, route_objects}
use Rattle.rsvp_messages.proofs.Joining.{as_msg, five}
use Rattle.rsvp_messages.proofs.writing.write_msg.Goals as goal

pub returns-in-Resv : goal.returns-in-Resv
returns-in-Resv c =
    as_msg _ _ _ c.args.sender _ (Resv c.in-Resv.lsp c.in-Resv.egress c.in-Resv.link c.in-Resv.label)
    c.in-Resv.is c.write_resv.ensures

pub returns-in-PathErr : goal.returns-in-PathErr
returns-in-PathErr c =
    as_msg _ _ _ c.args.sender _ (PathErr c.in-PathErr.lsp c.in-PathErr.egress c.in-PathErr.at c.in-PathErr.removed
    c.in-PathErr.code) c.in-PathErr.is c.write_path_err.ensures

pub returns-in-Notify : goal.returns-in-Notify
returns-in-Notify c =
    as_msg _ _ _ c.args.sender _ (Notify c.in-Notify.lsp c.in-Notify.egress c.in-Notify.at c.in-Notify.link
    c.in-Notify.code) c.in-Notify.is c.write_notify.ensures

pub returns-in_ok-write_role-in-Path : goal.returns-in_ok-write_role-in-Path
returns-in_ok-write_role-in-Path c =
    let p = c.in-Path in
    as_msg _ _ _ c.args.sender _ (Path p.lsp p.egress p.link p.route p.set p.upstream p.role) p.is
    (five _ _ _ _ _ _ _ (path_head c.args.sender p.lsp p.egress p.link) (route_objects p.route)
    (request_objects p.set p.role) (role_objects p.lsp p.role) (path_end p.lsp p.upstream)
    c.in_ok-write_path_head-in-Path.ensures c.in_ok-write_path_route-in-Path.ensures
    c.in_ok-write_path_request-in-Path.ensures c.in_ok-write_role-in-Path.ensures c.write_path_end.ensures)
