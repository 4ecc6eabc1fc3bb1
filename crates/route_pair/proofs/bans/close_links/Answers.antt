use Rattle.std.proofs.Common.{◌≡◌, ◌≤◌, ◌<◌, ◌+◌, ◌∙◌, length, sym, subst, arith}
use Rattle.route_pair.specs.Closed.{AreClosedToo, RowHasLink}
use Rattle.route_pair.proofs.{Closing.{closed_more, closed_same, none_closed}, bans.close_links.Goals.{then-is_among, else-is_among}}
use Rattle.route_pair.proofs.bans.close_links.Goals as goal

pub loop-place-init : goal.loop-place-init
loop-place-init c = none_closed c.args.rows.now (RowHasLink c.args.links.now) c.args.closed.now

pub loop-place-preserved : goal.loop-place-preserved
loop-place-preserved c =
    let rows = c.args.rows.now in
    let links = c.args.links.now in
    let k = c.loop-place.place in
    let row = c.index-rows-place.result in
    let inside : k < length c.loop-place.closed =
    subst (λ n. k < n) (sym (c.loop-place.auto.closed ∙ c.requires.closed)) c.loop-place-test.true in
    elim c.if-is_among.branch [
      | then-is_among w ↦ subst (AreClosedToo rows (RowHasLink links) (k + 1) c.args.closed.now) (sym w.closed-is)
          (closed_more rows (RowHasLink links) k row c.args.closed.now c.loop-place.closed c.loop-place-test.true
          c.loop-place.invariant inside (c.is_among.ensures.0 w.if-is_among.true))
      | else-is_among w ↦ subst (AreClosedToo rows (RowHasLink links) (k + 1) c.args.closed.now) (sym w.closed-is)
          (closed_same rows (RowHasLink links) k row c.args.closed.now c.loop-place.closed c.loop-place-test.true
          c.loop-place.invariant
          (λ one. absurd (let h = c.is_among.ensures.1 one
          in let e = w.if-is_among.false in cc (h, e))))
    ]

pub returns : goal.returns
returns c =
    let past : length c.args.rows.now ≤ c.loop-place.place = c.loop-place-test.false in
    let inside : c.loop-place.place ≤ length c.args.rows.now = c.loop-place.auto.place-end in
    let all : c.loop-place.place ≡ length c.args.rows.now = omega arith in
    subst (λ n. AreClosedToo c.args.rows.now (RowHasLink c.args.links.now) n c.args.closed.now c.loop-place.closed) all
    c.loop-place.invariant
