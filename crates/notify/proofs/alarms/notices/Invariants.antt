use Rattle.std.proofs.Common.{◌≡◌, take}
use Rattle.mesh_rules.specs.{Alarms.notices, Changes.sends}
use Rattle.leg_table.specs.States.{local_of}
use Rattle.notify.proofs.alarms.notices.Given as goal

abbrev pub invariant-loop-place : goal.invariant-loop-place
invariant-loop-place l = l.change ≡ sends (notices (local_of l.tables) l.fibre l.code (take l.place l.tables.legs))
