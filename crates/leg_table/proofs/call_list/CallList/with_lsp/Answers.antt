use Rattle.std.proofs.Common.{◌∙◌, ap, sym}
use Rattle.mesh_rules.specs.Calls.{find_call, names}
use Rattle.leg_table.proofs.{CallsByLsp.{numbered-find, unnumbered-find}, CallOrder.calls-to}
use Rattle.leg_table.proofs.call_list.CallList.with_lsp.Goals as goal

pub returns-in-None : goal.returns-in-None
returns-in-None c =
    sym (unnumbered-find (names c.args.lsp) c.args.self.now.calls.items (sym c.in-None.is ∙ c.of_lsp.ensures))

pub returns-in-Some : goal.returns-in-Some
returns-in-Some c =
    let calls = c.args.self.now.calls.items in
    c.find_call.ensures ∙ ap (find_call c.in-Some.number) c.deref.ensures.value
    ∙ numbered-find (names c.args.lsp) calls c.in-Some.number (calls-to calls c.requires.rise)
    (sym c.in-Some.is ∙ c.of_lsp.ensures)
