use Rattle.std.proofs.Common.{◌≡◌, take}
use Rattle.survey.specs.Slots.{users_of}
use Rattle.survey.proofs.slots.users_of.Given as goal

abbrev pub invariant-loop-view : goal.invariant-loop-view
invariant-loop-view l = l.users.items ≡ users_of (take l.view-index l.views) l.node l.link
