use Rattle.std.proofs.{Common.subst, lemmas.Result.on_ok_weaker}
use Rattle.std.specs.Prelude.{IfErr, IfOk, IsTrue, Some, ◌≡◌}
use Rattle.link_owner.specs.Marks.{is_open_to}
use Rattle.link_owner.proofs.LitFibres.{is-lit-at, lights, read-lit}
use Rattle.link_owner.proofs.owner.Owner.arm.Goals as goal

pub returns-clause-ok : goal.returns-clause-ok
returns-clause-ok c =
    let read =
    is-lit-at c.args.f c.args.self.now c.index_mut.result.now c.lit_place-place.ensures.first
    c.index_mut.ensures.value c.self.view_is in
    on_ok_weaker c.arm.result (λ put. lights read c.args.l c.args.lsp c.arm.new.self put) c.arm.ensures.ok

pub returns-clause-free : goal.returns-clause-free
returns-clause-free c =
    let read =
    is-lit-at c.args.f c.args.self.now c.index_mut.result.now c.lit_place-place.ensures.first
    c.index_mut.ensures.value c.self.view_is in
    subst (λ k. IfOk c.arm.result (λ _. IsTrue (is_open_to c.args.lsp k))) (read-lit read c.args.l) c.arm.ensures.free

pub returns-clause-busy : goal.returns-clause-busy
returns-clause-busy c =
    let read =
    is-lit-at c.args.f c.args.self.now c.index_mut.result.now c.lit_place-place.ensures.first
    c.index_mut.ensures.value c.self.view_is in
    subst (λ k. IfErr c.arm.result (λ b. k ≡ Some b.0)) (read-lit read c.args.l) c.arm.ensures.busy
