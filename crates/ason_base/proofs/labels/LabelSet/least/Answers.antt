use Rattle.std.proofs.Common.{◌<◌, ◌/◌, ◌^◌, sym, ◌∙◌, arith, rules}
use Rattle.ason_base.proofs.LeastMarks.{is_a_label, least-above, least-marked, least-of_none}
use Rattle.ason_base.proofs.labels.LabelSet.least.Goals as goal

pub returns-then-labels-eq0 : goal.returns-then-labels-eq0
returns-then-labels-eq0 c = rw (← c.self.view_is) (sym (least-of_none c.self.inside.mask c.if-labels-eq0.true))

pub returns-then-lowest-from : goal.returns-then-lowest-from
returns-then-lowest-from c =
    let mask = c.self.inside.mask in
    let some : 0 < mask / 2 = (let none = c.if-labels-eq0.false in search rules) in
    let fits : mask / 2 < 2 ^ 128 = search rules in
    rw (← c.self.view_is) (sym (least-above mask some fits (omega (arith, c.from.ensures, c.if-lowest-from.true))))

pub returns : goal.returns
returns c =
    let mask = c.self.inside.mask in
    let some : 0 < mask / 2 = (let none = c.if-labels-eq0.false in search rules) in
    let fits : mask / 2 < 2 ^ 128 = search rules in
    let high = c.if-lowest-from.false in
    let most = c.from.ensures in
    is_a_label c.new.result _ (omega arith) (omega arith) c.new.ensures
    ∙ rw (← c.self.view_is) (sym (least-marked mask some fits (omega arith)))
