-- The backup that a search gives is the least one as a function.
use Rattle.std.proofs.Common.{◌≡◌, List, refl, sym, ap}
use Rattle.std.specs.Prelude.{None, Some}
use Rattle.ason_base.specs.{Risks.unknown_link, declared.ids.LinkId.LinkId, declared.ids.NodeId.NodeId, declared.network.TeRow.TeRow, declared.steps.Step.Step}
use Rattle.route_least.specs.declared.answers.Found.{Found}
use Rattle.route_pair.specs.Pairs.{HasNoBackup, IsBackupFound}
use Rattle.mesh_nodes.specs.Routes.{AreSearchable}
use Rattle.mesh_nodes.proofs.routes.Backups.{least_backup-least, no_backup-none}
use Rattle.call_control.specs.Searches.{route_beside, steps_of}

module _ (rows : List TeRow) (primary : List Step) (from to : NodeId) where
  pub found-backup : (found : Found) → AreSearchable rows → IsBackupFound rows primary from to found →
      unknown_link rows primary ≡ None → Some found.route ≡ route_beside rows primary from to
  found-backup found searchable f known =
      rw known
      (sym (ap steps_of ((least_backup-least rows primary from to (record { steps = found.route; cost = found.cost })
      searchable).1 f.route)))

  pub unknown-primary : (link : LinkId) → unknown_link rows primary ≡ Some link →
      None ≡ route_beside rows primary from to
  unknown-primary link is = rw is refl

  pub none-beside : AreSearchable rows → unknown_link rows primary ≡ None → HasNoBackup rows primary from to →
      None ≡ route_beside rows primary from to
  none-beside searchable known none =
      rw known (sym (ap steps_of ((no_backup-none rows primary from to searchable).1 none)))
