use Rattle.std.proofs.Common.{◌≡◌, ◌≤◌, ◌+◌, ◌∙◌, ◌++◌, [], ap, length, sym, subst, arith}
use Rattle.route_pair.specs.Closed.{AreSrlgsOf}
use Rattle.route_pair.proofs.{Closing.{no_srlgs, srlgs_more, srlgs_same}, bans.srlgs_of.Goals.{then-used-place+in_ok-extend_from_slice, else-used-place}}
use Rattle.ason_base.specs.declared.network.TeRow.{TeRow}
use Rattle.route_pair.proofs.bans.srlgs_of.Goals as goal

abbrev no_row : TeRow
no_row = record { link = record { 0 = 0 }; low = record { 0 = 0 }; high = record { 0 = 0 }; metric = 0; srlgs = [] }

pub loop-place-init : goal.loop-place-init
loop-place-init c = no_srlgs c.args.rows.now c.args.used.now _ c.new-srlgs.ensures.items

pub loop-place-preserved : goal.loop-place-preserved
loop-place-preserved c =
    let rows = c.args.rows.now in
    let used = c.args.used.now in
    let k = c.loop-place.place in
    elim c.if-used-place.branch [
      | then-used-place+in_ok-extend_from_slice w ↦
          subst (AreSrlgsOf rows used (k + 1)) (sym (ap (λ v. v.items) w.srlgs-is ∙
          w.in_ok-extend_from_slice.ensures.items ∙ ap (λ xs. c.loop-place.srlgs.items ++ xs) w.items.ensures))
          (srlgs_more rows used k w.index-rows-place.result c.loop-place.srlgs.items c.loop-place-test.true
          c.loop-place.invariant w.if-used-place.true)
      | else-used-place w ↦
          subst (AreSrlgsOf rows used (k + 1)) (sym (ap (λ v. v.items) w.srlgs-is))
          (srlgs_same rows used k no_row c.loop-place.srlgs.items c.loop-place-test.true c.loop-place.invariant
          w.if-used-place.false)
    ]

pub returns : goal.returns
returns c =
    let past : length c.args.rows.now ≤ c.loop-place.place = c.loop-place-test.false in
    let inside : c.loop-place.place ≤ length c.args.rows.now = c.loop-place.auto.place-end in
    let all : c.loop-place.place ≡ length c.args.rows.now = omega arith in
    subst (λ n. AreSrlgsOf c.args.rows.now c.args.used.now n c.loop-place.srlgs.items) all c.loop-place.invariant
