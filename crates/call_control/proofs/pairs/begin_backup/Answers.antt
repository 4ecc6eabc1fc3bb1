use Rattle.std.proofs.Common.{◌+◌, ◌∙◌, ap}
use Rattle.call_control.proofs.{Asked.backup-begun, WayBack.guard_back}
use Rattle.call_control.proofs.pairs.begin_backup.Goals as goal

pub returns : goal.returns
returns c =
    backup-begun c.args.parts.now.tables.now c.args.parts.now.calls.now c.args.back c.args.change.now c.requires.rows
    c.requires.primary.route_is
    (c.requires.back
    ∙ guard_back c.args.parts.now.tables.now c.args.parts.now.calls.now c.args.request.now.work _ _ _ c.requires.rows
    c.requires.primary)
    c.request.view_is c.route.view_is c.backup_lsp-new.ensures c.in_ok-ask_for.ensures (ap (λ n. n.lsp) c.new.view_is)
    c.in_ok-call.ensures c.pairing.ensures c.in_ok-put_call.ensures
    (λ i. record { tunnel = c.next_tunnel.ensures i; lsp = c.next_lsp.ensures i + 1 })
    c.use_numbers.ensures
