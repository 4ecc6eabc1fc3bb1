use Rattle.std.proofs.Common.{◌∙◌, subst}
use Rattle.ason_base.specs.Lsps.{is_lsp}
use Rattle.mesh_rules.specs.Calls.{names}
use Rattle.leg_table.specs.LspIndexes.{IsFirstCall, back_of, work_of}
use Rattle.leg_table.proofs.{CallsByLsp.{least-first, least-number, least-or}, CallOrder.calls-to}
use Rattle.leg_table.proofs.call_list.CallList.of_lsp.Goals as goal

pub returns : goal.returns
returns c =
    let l = c.args.lsp in
    let calls = c.args.self.now.calls.items in
    let rise = calls-to calls c.requires.rise in
    let works = c.args.self.now.works.items in
    let backs = c.args.self.now.backs.items in
    let work = least-first work_of l calls works c.first_call.result rise c.requires.of_works
    (subst (λ es. IsFirstCall l es c.first_call.result) c.deref.ensures.value c.first_call.ensures) in
    let back = least-first back_of l calls backs c.first_call-2.result rise c.requires.of_backs
    (subst (λ es. IsFirstCall l es c.first_call-2.result) c.deref-2.ensures.value c.first_call-2.ensures) in
    c.lesser.ensures
    ∙ least-number (names l) calls _ rise
    (least-or (λ d. is_lsp d.work l) (λ d. is_lsp d.back l) calls c.first_call.result c.first_call-2.result work back)
