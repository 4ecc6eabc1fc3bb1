use Rattle.std.proofs.Common.{◌≤◌, ◌+◌, ◌*◌, ap, arith, length, subst, sym}
use Rattle.ason_base.specs.declared.messages.PathRole.{PathRole}
use Rattle.rsvp_messages.specs.Written.{all_bytes, role_objects}
use Rattle.rsvp_messages.proofs.Lengths.{role-room}
use Rattle.rsvp_messages.proofs.room.room_for_role.Goals as goal

pub returns-in-Back-clause-enough : goal.returns-in-Back-clause-enough
returns-in-Back-clause-enough c = λ lsp.
    subst (λ (r : PathRole). length (all_bytes (role_objects lsp r)) ≤ 16 + 12 * length c.items.result.now)
    (sym c.in-Back.is) (omega (
      arith,
      role-room lsp c.in-Back.active c.in-Back.work c.in-Back.primary,
      ap length c.items.ensures,
    ))
