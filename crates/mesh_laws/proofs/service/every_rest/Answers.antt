use Rattle.mesh_laws.proofs.{rested.Light.each_sent_is_taken, rested.Repaired.every_repaired_rest, rested.Rested.nothing_left_at_rest, rested.Told.every_report_true}
use Rattle.mesh_laws.proofs.service.every_rest.Goals as goal

pub returns : goal.returns
returns c = record {
  rested = nothing_left_at_rest;
  taken = each_sent_is_taken;
  told = every_report_true;
  repaired = every_repaired_rest;
}
