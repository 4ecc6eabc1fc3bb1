use Rattle.std.proofs.Common.{◌≡◌, true, sym, subst, rules}
use Rattle.plan_reader.specs.Names.{is_name}
use Rattle.load_plan.specs.Names.{name_at}
use Rattle.load_plan.proofs.NameTexts.{names_fit}
use Rattle.load_plan.proofs.names.name_at.Goals as goal

pub new-requires : goal.new-requires
new-requires c =
    let text : c.as_bytes.result.now ≡ name_at c.args.named c.args.i = search rules in
    subst (λ t. is_name t ≡ true) (sym text) (names_fit c.args.named c.args.i c.requires)
