use Rattle.mesh_nodes.proofs.{routes.Backups.{least_backup-least, least_backup-once, no_backup-none}, routes.Beside.found-beside, routes.Found.{least_trip-least, least_trip-once, no_trip-none}, routes.Nodes.{found-backups-lead, found-followed, found-leads}, routes.Topologies.new-rows}
use Rattle.mesh_nodes.proofs.laws.least_routes.Goals as goal

pub returns : goal.returns
returns c = record {
  least = least_trip-least;
  none = no_trip-none;
  once = least_trip-once;
  backup = least_backup-least;
  no_backup = no_backup-none;
  backup_once = least_backup-once;
  new = new-rows;
  leads = found-leads;
  backup_leads = found-backups-lead;
  backup_beside = found-beside;
  followed = found-followed;
}
