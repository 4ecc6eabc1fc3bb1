-- The labels that a leg takes.
use Rattle.std.specs.Prelude.{ℕ, Option, Some, None}
use Rattle.ason_base.specs.{declared.ids.Fibre.Fibre, declared.tables.Leg.Leg}
use Rattle.mesh_rules.specs.Legs.{reverse_of}
use Rattle.leg_table.specs.declared.labels.TakenLabel.{TakenLabel}

abbrev pub taken_over : Option Fibre → Option ℕ → Option TakenLabel
taken_over None x = None
taken_over (Some f) None = None
taken_over (Some f) (Some x) = Some (record { fibre = f; label = x })

-- its label in, and the fibre that it is on
abbrev pub taken_in : Leg → Option TakenLabel
taken_in g = taken_over g.in_fibre g.in_label

-- its back label in, on the fibre that comes back from its next node
abbrev pub taken_back : Leg → Option TakenLabel
taken_back g = taken_over (reverse_of g.out_fibre) g.back_in
