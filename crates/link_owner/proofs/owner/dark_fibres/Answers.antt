use Rattle.std.proofs.Common.{cond, sym, ◌∙◌, ap, append-nil, subst, take, take_all}
use Rattle.std.specs.{Prelude.{filter, ◌++◌, []}, List.flat_map}
use Rattle.ason_base.specs.Network.{touches}
use Rattle.ason_base.proofs.Places.{take-item}
use Rattle.link_owner.specs.{Marks.{AreDark, dark_fibres}, Owners.HasFibresOf}
use Rattle.link_owner.proofs.{FibresOf.{has_fibres_of, more-dark, none-dark}, owner.dark_fibres.Goals.{then-touches+in_ok-add_dark, else-touches}}
use Rattle.link_owner.proofs.owner.dark_fibres.Goals as goal

pub loop-link-preserved : goal.loop-link-preserved
loop-link-preserved c =
    let n = c.args.node in
    let links = c.links-link-items.result.now in
    let i = c.loop-link.link-index in
    let l = c.link-item.result in
    let before = flat_map dark_fibres (filter (touches n) (take i links)) in
    let more = ap (λ ls. flat_map dark_fibres (filter (touches n) ls))
    (take-item links i l c.loop-link-test.true c.link-item.is) ∙ more-dark n (take i links) l in
    elim c.if-touches.branch [
      | then-touches+in_ok-add_dark w ↦
          ap (λ v. v.items) w.marks-is ∙ w.in_ok-add_dark.ensures
          ∙ ap (λ ms. ms ++ dark_fibres l) c.loop-link.invariant
          ∙ ap (λ b. before ++ cond b (dark_fibres l) []) w.if-touches.ensures ∙ sym more
      | else-touches w ↦
          ap (λ v. v.items) w.marks-is ∙ c.loop-link.invariant ∙ sym (append-nil before)
          ∙ ap (λ b. before ++ cond b (dark_fibres l) []) w.if-touches.ensures ∙ sym more
    ]

pub returns-clause-marked : goal.returns-clause-marked
returns-clause-marked c =
    let n = c.args.node in
    let links = c.links-link-items.ensures in
    let all = take_all c.loop-link.link-index c.links-link-items.result.now c.loop-link-test.false ∙ links.list in
    let value = c.loop-link.invariant ∙ ap (λ ls. flat_map dark_fibres (filter (touches n) ls)) all in
    subst (HasFibresOf c.args.t.now n) (sym value) (has_fibres_of c.args.t.now links.valid n)

pub returns-clause-dark : goal.returns-clause-dark
returns-clause-dark c =
    let n = c.args.node in
    let links = c.links-link-items.ensures in
    let all = take_all c.loop-link.link-index c.links-link-items.result.now c.loop-link-test.false ∙ links.list in
    let value = c.loop-link.invariant ∙ ap (λ ls. flat_map dark_fibres (filter (touches n) ls)) all in
    subst AreDark (sym value) (none-dark c.args.t.now n)
