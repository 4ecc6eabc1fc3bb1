use Rattle.std.proofs.Common.{sym, ◌∙◌, ap}
use Rattle.std.specs.Prelude.{position}
use Rattle.link_owner.specs.Marks.{is_marked_fibre}
use Rattle.link_owner.proofs.LitFibres.{is-lit-at, nowhere-lit, read-lit}
use Rattle.link_owner.proofs.owner.Owner.lit.Goals as goal

pub returns-in-None : goal.returns-in-None
returns-in-None c =
    sym (nowhere-lit c.args.self.now.marks c.args.f c.args.l
    (sym (c.in-None.ensures ∙ ap (position (is_marked_fibre c.args.f)) c.deref.ensures.value
    ∙ ap (λ o. position (is_marked_fibre c.args.f) o.marks) c.self.view_is)))

pub returns-in-Some : goal.returns-in-Some
returns-in-Some c =
    let first = sym (c.in-Some.ensures ∙ ap (position (is_marked_fibre c.args.f)) c.deref.ensures.value
    ∙ ap (λ p. position (is_marked_fibre c.args.f) p.marks) c.self.view_is) in
    let read = is-lit-at c.args.f c.args.self.now c.index.result.now first c.index.ensures c.self.view_is in
    c.lit.ensures ∙ read-lit read c.args.l
