use Rattle.station.proofs.station.Station.+turns_from.Given as goal

abbrev pub decreases-turns_from : goal.decreases-turns_from
decreases-turns_from g l = l.count
