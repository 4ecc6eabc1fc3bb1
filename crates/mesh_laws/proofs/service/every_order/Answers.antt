use Rattle.mesh_laws.proofs.{acts.Law.every_order_acts, causes.Answered.{every_busy, every_lack}, assigned.Law.every_setup, backed.Backed.every_backup_as_given, causes.Lone.every_lone_call, causes.Refused.every_refusal_has_cause, acts.Torn.every_torn_leg, moves.OtherLegs.every_order_leaves, moves.Others.every_order_of_one, retried.Law.every_retry}
use Rattle.mesh_laws.proofs.service.every_order.Goals as goal

pub returns : goal.returns
returns c = record {
  torn = every_torn_leg;
  backed = every_backup_as_given;
  caused = every_refusal_has_cause;
  busy = every_busy;
  lacks = every_lack;
  lone = every_lone_call;
  acts = every_order_acts;
  others = every_order_of_one;
  spared = every_order_leaves;
  assigned = every_setup;
  retried = every_retry;
}
