use Rattle.std.proofs.{Common.{◌≡◌, arith, drop}, lemmas.Grind.common_steps}
use Rattle.ason_io.proofs.Bytes.{front_given}
use Rattle.ason_io.proofs.sure.SureSourceSource.read.Goals as goal

pub returns-clause-hands : goal.returns-clause-hands
returns-clause-hands c =
    let all : drop c.self.inside.at c.self.inside.bytes.items ≡ c.args.self.now = c.self.view_is in
    front_given _ c.self.inside.at c.self.inside.bytes.items c.args.self.now c.copy_from_slice.new.self _ all
    (omega (arith, c.self.invariant, c.self.inside.bytes.ok.0)) (grind (arith, common_steps))
    (rw c.as_slice.ensures.value at c.copy_from_slice.ensures.after)

pub returns-clause-bytes : goal.returns-clause-bytes
returns-clause-bytes c =
    let all : drop c.self.inside.at c.self.inside.bytes.items ≡ c.args.self.now = c.self.view_is in (
      front_given _ c.self.inside.at c.self.inside.bytes.items c.args.self.now c.copy_from_slice.new.self _ all
          (omega (arith, c.self.invariant, c.self.inside.bytes.ok.0)) (grind (arith, common_steps))
          (rw c.as_slice.ensures.value at c.copy_from_slice.ensures.after),
      grind (arith, common_steps),
    )
