-- What the lines of a script say of a frame.
use Rattle.std.specs.Prelude.{ℕ, ◌==◌, ◌&&◌, Bool, List, fold, Option, Some, None, if◌then◌else◌}
use Rattle.ason_base.specs.{declared.ids.NodeId.NodeId, declared.commands.Disturb.Disturb, declared.commands.DisturbKind.DisturbKind}

-- the line names the frame of this number on the channel from u to d
abbrev pub names_frame : NodeId → NodeId → ℕ → Disturb → Bool
names_frame u d k l = l.from.0 == u.0 && (l.to.0 == d.0 && l.k == k)

-- what the last line says that names it
abbrev pub says : List Disturb → NodeId → NodeId → ℕ → Option DisturbKind
says lines u d k = fold (λ (o : Option DisturbKind) (l : Disturb). if names_frame u d k l then Some l.kind else o) None lines
