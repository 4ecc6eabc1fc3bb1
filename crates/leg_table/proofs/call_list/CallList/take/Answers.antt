use Rattle.std.proofs.Common.{sym, subst}
use Rattle.leg_table.specs.LspIndexes.{IsIndexOf, back_of, work_of}
use Rattle.leg_table.proofs.CallIndexes.{entry-found, index-without}
use Rattle.leg_table.proofs.call_list.CallList.take.Goals as goal

pub take_entry-requires-clause-before : goal.take_entry-requires-clause-before
take_entry-requires-clause-before c =
    entry-found work_of c.args.number c.requires.of_works c.find_call-before.ensures c.deref.ensures.value
    c.entries-work.ensures.work

pub take_entry-requires-2-clause-before : goal.take_entry-requires-2-clause-before
take_entry-requires-2-clause-before c =
    entry-found back_of c.args.number c.requires.of_backs c.find_call-before.ensures c.deref.ensures.value
    c.entries-work.ensures.back

pub returns-clause-fit : goal.returns-clause-fit
returns-clause-fit c =
    let calls = c.args.self.now.calls.items in
    record {
      rise = c.take_call.ensures.rising;
      of_works =
          subst (λ xs. IsIndexOf work_of xs c.take_entry.new.entries.items) (sym c.take_call.ensures.left)
          (index-without work_of c.args.number calls c.args.self.now.works.items
          c.take_entry.new.entries.items c.requires.of_works c.take_entry.ensures.off);
      of_backs =
          subst (λ xs. IsIndexOf back_of xs c.take_entry-2.new.entries.items) (sym c.take_call.ensures.left)
          (index-without back_of c.args.number calls c.args.self.now.backs.items
          c.take_entry-2.new.entries.items c.requires.of_backs c.take_entry-2.ensures.off);
    }
