use Rattle.rsvp_objects.proofs.Marks.{half_fits, low_marked, high_marked, none_marked}
use Rattle.rsvp_objects.proofs.label_set.Marks.mark.Goals as goal

pub returns-then-n-lt64 : goal.returns-then-n-lt64
returns-then-n-lt64 c =
    let m = c.self.inside in rw (← c.self.view_is) (low_marked m.high m.low c.args.n c.self.invariant c.if-n-lt64.true)

pub returns-then-n-lt128 : goal.returns-then-n-lt128
returns-then-n-lt128 c =
    let m = c.self.inside in
    rw (← c.self.view_is) (high_marked m.high m.low c.args.n c.self.invariant c.if-n-lt64.false c.if-n-lt128.true)

pub returns-else-n-lt128 : goal.returns-else-n-lt128
returns-else-n-lt128 c = rw (← c.self.view_is) (none_marked _ c.args.n c.if-n-lt128.false)

pub invariant_of-self : goal.invariant_of-self
invariant_of-self c = half_fits c.self.inside.low c.args.n c.self.invariant
