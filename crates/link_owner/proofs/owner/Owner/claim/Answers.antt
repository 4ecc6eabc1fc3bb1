use Rattle.std.proofs.{Common.subst, lemmas.Result.on_ok_weaker}
use Rattle.std.specs.Prelude.{IfErr, IfOk, ◌++◌, ◌∷◌, []}
use Rattle.link_owner.specs.Claims.{NoClaim, RefusedFor, has, working_claim}
use Rattle.link_owner.proofs.FibrePlaces.{is-read, put-back, read-claims}
use Rattle.link_owner.proofs.owner.Owner.claim.Goals as goal

pub returns-clause-ok : goal.returns-clause-ok
returns-clause-ok c =
    let read =
    is-read c.args.f c.args.self.now c.index_mut.result.now c.requires.comes_in c.place-place.ensures.first
    c.index_mut.ensures.value c.self.view_is in
    on_ok_weaker c.claim.result
    (λ e. put-back read c.claim.new.self (λ claims. claims ++ working_claim c.args.l c.args.lsp ∷ []) e)
    c.claim.ensures.ok

pub returns-clause-free : goal.returns-clause-free
returns-clause-free c =
    let read =
    is-read c.args.f c.args.self.now c.index_mut.result.now c.requires.comes_in c.place-place.ensures.first
    c.index_mut.ensures.value c.self.view_is in
    subst (λ claims. IfOk c.claim.result (λ _. NoClaim (has c.args.l) claims))
    (read-claims read) c.claim.ensures.fitting

pub returns-clause-fault : goal.returns-clause-fault
returns-clause-fault c =
    let read =
    is-read c.args.f c.args.self.now c.index_mut.result.now c.requires.comes_in c.place-place.ensures.first
    c.index_mut.ensures.value c.self.view_is in
    subst (λ claims. IfErr c.claim.result (RefusedFor (has c.args.l) claims))
    (read-claims read) c.claim.ensures.fault
