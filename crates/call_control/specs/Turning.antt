-- The Path of a backup, which goes to the next node again: it activates the backup, or takes its activation back
-- (RFC 4872, section 8). b is the leg of the backup, which begins here.
use Rattle.std.specs.Prelude.{Bool, true, false, List, Option}
use Rattle.ason_base.specs.{declared.messages.PathRole.PathRole, declared.messages.PathRole.TheVariants.{Work, Back}, declared.tables.Leg.Leg, declared.tables.Out.Out}
use Rattle.mesh_rules.specs.{declared.neighbours.Neighbour.Neighbour, Turns.{activating_path, taking_path}}

-- its role
abbrev pub role_again : Bool → PathRole → PathRole
role_again active (Work guard) = Work guard
role_again active (Back was work primary) = Back active work primary

abbrev pub sent_again : Bool → Leg → Option Neighbour → List Out
sent_again true b next = activating_path b next
sent_again false b next = taking_path b next
