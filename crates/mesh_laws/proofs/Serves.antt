-- After every run the network serves.
use Rattle.std.proofs.Common.{List}
use Rattle.ason_base.specs.Network.{Network}
use Rattle.mesh_rules.specs.{declared.events.MeshEvent.MeshEvent, Events.IsRun, Machine.start}
use Rattle.mesh_laws.specs.ServiceLaw.{Serves}
use Rattle.mesh_laws.proofs.{acts.Law.every_order_acts, acts.Torn.every_torn_leg, assigned.Law.every_setup, backed.Backed.every_backup_as_given, causes.Answered.{every_busy, every_lack}, causes.Lone.every_lone_call, causes.Refused.every_refusal_has_cause, causes.ToldOf.every_refusal_told, moves.Below.every_wait, moves.Blocked.every_blocked_call, moves.Knows.every_learnt, moves.MovesOn.every_call_moves, moves.OtherLegs.every_order_leaves, moves.Others.every_order_of_one, moves.Sources.{every_code, every_turned_call}, moves.Waits.every_tick, rested.Light.each_sent_is_taken, rested.Repaired.every_repaired_rest, rested.Rested.nothing_left_at_rest, rested.Told.every_report_true, retried.Law.every_retry, safe.Light.{every_label_of_link, every_light}}

-- for the field of all laws in one word
pub network_serves : (t : Network) (events : List MeshEvent) → IsRun t start events → Serves t events
network_serves t events run = record {
  lit = every_light t events run;
  of_link = every_label_of_link t events run;
  rested = nothing_left_at_rest t events run;
  taken = each_sent_is_taken t events run;
  told = λ valid. every_report_true t events valid run;
  repaired = λ valid. every_repaired_rest t events valid run;
  acts = λ valid. every_order_acts t events valid run;
  others = every_order_of_one t events run;
  spared = every_order_leaves t events run;
  assigned = λ valid. every_setup t events valid run;
  retried = every_retry t events run;
  backed = every_backup_as_given t events run;
  torn = every_torn_leg t events run;
  caused = every_refusal_has_cause t events run;
  busy = every_busy t events run;
  lacks = λ valid. every_lack t events valid run;
  lone = λ valid. every_lone_call t events valid run;
  refused = every_refusal_told t events run;
  moves = every_call_moves t events run;
  blocked = every_blocked_call t events run;
  turned = every_turned_call t events run;
  coded = every_code t events run;
  counted = every_tick t events run;
  below = every_wait t events run;
  learnt = every_learnt t events run;
}
