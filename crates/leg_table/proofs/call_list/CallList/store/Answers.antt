use Rattle.std.proofs.Common.{sym, subst}
use Rattle.leg_table.specs.LspIndexes.{IsIndexOf, back_of, work_of}
use Rattle.leg_table.proofs.CallIndexes.{entry-found, index-with}
use Rattle.leg_table.proofs.call_list.CallList.store.Goals as goal

pub put_entry-requires-clause-before : goal.put_entry-requires-clause-before
put_entry-requires-clause-before c =
    entry-found work_of c.args.call.call c.requires.fit.of_works c.find_call-before.ensures c.deref.ensures.value
    c.entries-work.ensures.work

pub put_entry-requires-2-clause-before : goal.put_entry-requires-2-clause-before
put_entry-requires-2-clause-before c =
    entry-found back_of c.args.call.call c.requires.fit.of_backs c.find_call-before.ensures c.deref.ensures.value
    c.entries-work.ensures.back

pub returns-clause-fit : goal.returns-clause-fit
returns-clause-fit c =
    let calls = c.args.self.now.calls.items in
    record {
      rise = c.put_item.ensures.rising;
      of_works =
          subst (λ xs. IsIndexOf work_of xs c.put_entry.new.entries.items) (sym c.put_item.ensures.items)
          (index-with work_of c.args.call calls c.args.self.now.works.items
          c.put_entry.new.entries.items c.requires.fit.of_works c.put_entry.ensures.set);
      of_backs =
          subst (λ xs. IsIndexOf back_of xs c.put_entry-2.new.entries.items) (sym c.put_item.ensures.items)
          (index-with back_of c.args.call calls c.args.self.now.backs.items
          c.put_entry-2.new.entries.items c.requires.fit.of_backs c.put_entry-2.ensures.set);
    }
