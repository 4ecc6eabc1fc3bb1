use Rattle.std.proofs.Common.{subst}
use Rattle.route_pair.specs.Pairs.{IsBackupFault}
use Rattle.node_core.proofs.LeastBackup.{found-backup, none-beside, unknown-primary}
use Rattle.node_core.proofs.routes.least_backup.Goals as goal

pub returns-in-Ok : goal.returns-in-Ok
returns-in-Ok c =
    found-backup c.args.rows.now c.args.primary.now c.args.from c.args.to c.in-Ok.found c.requires
    c.in-Ok.ensures.found c.in-Ok.ensures.known

pub returns-in-Err-Unknown : goal.returns-in-Err-Unknown
returns-in-Err-Unknown c =
    let a = c.args in
    let e = c.in-Err-Unknown in
    unknown-primary a.rows.now a.primary.now a.from a.to e.field-0-0
    (subst (IsBackupFault a.rows.now a.primary.now a.from a.to) e.field-0-is e.ensures.fault)

pub returns-in-Err-NoBackup : goal.returns-in-Err-NoBackup
returns-in-Err-NoBackup c =
    let a = c.args in
    let e = c.in-Err-NoBackup in
    let fault = subst (IsBackupFault a.rows.now a.primary.now a.from a.to) e.field-0-is e.ensures.fault in
    none-beside a.rows.now a.primary.now a.from a.to c.requires fault.0 fault.1
