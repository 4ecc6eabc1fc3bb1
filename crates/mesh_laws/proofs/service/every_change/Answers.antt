use Rattle.mesh_laws.proofs.{moves.Below.every_wait, moves.Blocked.every_blocked_call, moves.Knows.every_learnt, moves.MovesOn.every_call_moves, causes.ToldOf.every_refusal_told, moves.Sources.{every_code, every_turned_call}, moves.Waits.every_tick}
use Rattle.mesh_laws.proofs.service.every_change.Goals as goal

pub returns : goal.returns
returns c = record {
  learnt = every_learnt;
  counted = every_tick;
  below = every_wait;
  moves = every_call_moves;
  blocked = every_blocked_call;
  refused = every_refusal_told;
  turned = every_turned_call;
  coded = every_code;
}
