use Rattle.std.proofs.{Common.{◌∙◌, sym}, lemmas.Result.IfOk-weaker}
use Rattle.ason_main.specs.Views.{HasReadLast}
use Rattle.ason_main.proofs.Viewed.{told_some}
use Rattle.ason_main.proofs.watching.read_last.Goals as goal

pub unreachable-requires : goal.unreachable-requires
unreachable-requires c =
    told_some c.args.node c.args.fleet.now c.requires (sym c.in-None.is ∙ c.in_ok-told.ensures.told)

pub returns-clause-read : goal.returns-clause-read
returns-clause-read c =
    IfOk-weaker c.read.result _
    (HasReadLast c.args.node c.args.fleet.now c.args.viewer.now c.read.new.self)
    (λ t read. record {
      published = c.in-Some.token;
      all = sym c.in_ok-told.ensures.told ∙ c.in-Some.is;
      learnt = c.learn_last.new.self;
      token = c.learn_last.ensures;
      read = read;
    }) c.read.ensures.read
