use Rattle.std.proofs.Common.{◌≡◌, ◌<◌, ◌≤◌, ◌∙◌, ap, false, get_or, length, subst, sym, true}
use Rattle.share_check.specs.Guards.{AreRisksInOrder, has_guard, is_before, is_guard}
use Rattle.share_check.proofs.GuardOrder.{put-in-order}
use Rattle.ason_base.proofs.Inserted.{any-insert}
use Rattle.share_check.proofs.guarded.insert.Goals as goal

pub returns-clause-ordered : goal.returns-clause-ordered
returns-clause-ordered c =
    let g = c.args.guarded.now.items in
    let one = c.args.one in
    let n = c.place_of-place.result in
    let same = c.deref.ensures.value in
    let place = c.place_of-place.ensures in
    subst AreRisksInOrder (sym c.in-Ok.ensures.items)
    (put-in-order g n one (subst (λ xs. n ≤ length xs) same place.within) c.requires.ordered
    (λ k d less. subst (λ xs. is_before (get_or xs k d) one ≡ true) same (place.before k d less))
    (λ k d from below. subst (λ xs. is_before (get_or xs k d) one ≡ false) same
    (place.after k d from (subst (λ xs. k < length xs) (sym same) below))))

pub returns-clause-has : goal.returns-clause-has
returns-clause-has c = λ l q.
    ap (has_guard l q) c.in-Ok.ensures.items
    ∙ any-insert (is_guard l q) c.args.guarded.now.items c.place_of-place.result c.args.one
