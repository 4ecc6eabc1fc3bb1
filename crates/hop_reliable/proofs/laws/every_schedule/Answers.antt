use Rattle.hop_reliable.proofs.{Order.unacked_rise, Schedule.{handed_up_in_order, nothing_is_lost, settled_is_delivered}, Waiting.under_way_is_waiting}
use Rattle.hop_reliable.proofs.laws.every_schedule.Goals as goal

pub returns : goal.returns
returns c = record {
  in_order = handed_up_in_order;
  kept = nothing_is_lost;
  settled = settled_is_delivered;
  waiting =
      under_way_is_waiting;
  rising = unacked_rise;
}
