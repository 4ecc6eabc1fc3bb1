use Rattle.std.proofs.Common.{◌≡◌, ◌≤◌, ◌<◌, ◌+◌, ◌∙◌, length, sym, subst, arith}
use Rattle.route_pair.specs.Closed.{AreClosedToo, HasOneSrlg}
use Rattle.route_pair.proofs.{Closing.{closed_more, closed_same, none_closed}, bans.close.Goals.{then-has_one, else-has_one}}
use Rattle.route_pair.proofs.bans.close.Goals as goal

pub loop-place-init : goal.loop-place-init
loop-place-init c = none_closed c.args.rows.now (λ row. HasOneSrlg row c.args.srlgs.now) c.args.closed.now

pub loop-place-preserved : goal.loop-place-preserved
loop-place-preserved c =
    let rows = c.args.rows.now in
    let srlgs = c.args.srlgs.now in
    let k = c.loop-place.place in
    let row = c.index-rows-place.result in
    let inside : k < length c.loop-place.closed =
    subst (λ n. k < n) (sym (c.loop-place.auto.closed ∙ c.requires.closed)) c.loop-place-test.true in
    elim c.if-has_one.branch [
      | then-has_one w ↦ subst (AreClosedToo rows (λ row. HasOneSrlg row srlgs) (k + 1) c.args.closed.now) (sym w.closed-is)
          (closed_more rows (λ r. HasOneSrlg r srlgs) k row c.args.closed.now c.loop-place.closed c.loop-place-test.true
          c.loop-place.invariant inside (subst (λ r. HasOneSrlg r srlgs) c.index-rows-place.is
          (c.has_one.ensures.0 w.if-has_one.true)))
      | else-has_one w ↦ subst (AreClosedToo rows (λ row. HasOneSrlg row srlgs) (k + 1) c.args.closed.now) (sym w.closed-is)
          (closed_same rows (λ r. HasOneSrlg r srlgs) k row c.args.closed.now c.loop-place.closed c.loop-place-test.true
          c.loop-place.invariant
          (λ one. absurd (let h = c.has_one.ensures.1 (subst (λ r. HasOneSrlg r srlgs) (sym c.index-rows-place.is) one)
          in let e = w.if-has_one.false in cc (h, e))))
    ]

pub returns : goal.returns
returns c =
    let past : length c.args.rows.now ≤ c.loop-place.place = c.loop-place-test.false in
    let inside : c.loop-place.place ≤ length c.args.rows.now = c.loop-place.auto.place-end in
    let all : c.loop-place.place ≡ length c.args.rows.now = omega arith in
    subst
    (λ n. AreClosedToo c.args.rows.now (λ row. HasOneSrlg row c.args.srlgs.now) n c.args.closed.now
    c.loop-place.closed) all
    c.loop-place.invariant
