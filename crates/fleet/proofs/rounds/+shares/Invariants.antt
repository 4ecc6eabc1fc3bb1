use Rattle.fleet.proofs.rounds.+shares.Given as goal

abbrev pub decreases-turn_all : goal.decreases-turn_all
decreases-turn_all g l = l.workers

abbrev pub decreases-join_mut+arg2 : goal.decreases-join_mut+arg2
decreases-join_mut+arg2 g l = l.low

abbrev pub decreases-join_mut+arg3 : goal.decreases-join_mut+arg3
decreases-join_mut+arg3 g l = l.high
