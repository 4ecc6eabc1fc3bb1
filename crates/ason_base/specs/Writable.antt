-- What of a message is needed to write it (RFC 2205; RFC 3209; RFC 3473; RFC 4872).
use Rattle.std.specs.Prelude.{◌≤◌, length}
use Rattle.ason_base.specs.{declared.limits.TheConstants.MOST_STEPS, declared.messages.Msg.Msg, declared.messages.Msg.TheVariants.{Path, Resv, PathTear, PathErr, Notify}, declared.messages.PathRole.PathRole, declared.messages.PathRole.TheVariants.{Work, Back}}

-- the primary route of a backup isn't empty, and has at most 64 steps
abbrev pub IsWritableRole : PathRole → Type 0
IsWritableRole (Work guard) = Unit {0}
IsWritableRole (Back active work primary) = (1 ≤ length primary) × (length primary ≤ MOST_STEPS)

-- the set of labels isn't empty, and the route has at most 64 steps
abbrev pub IsWritableMsg : Msg → Type 0
IsWritableMsg (Path lsp egress link route set upstream role) = (1 ≤ length set) × (length route ≤ MOST_STEPS) ×
    IsWritableRole role
IsWritableMsg (Resv lsp egress link label) = Unit {0}
IsWritableMsg (PathTear lsp egress link) = Unit {0}
IsWritableMsg (PathErr lsp egress at removed code) = Unit {0}
IsWritableMsg (Notify lsp egress at link code) = Unit {0}
