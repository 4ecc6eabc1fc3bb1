use Rattle.std.proofs.{Common.{◌==◌, not, rules, tests}, lemmas.Iterator.Consumers.{YieldsList-at, YieldsList-from_filter, map_from_collect}, lemmas.Iterator.Splits.YieldsList-from_slice_split}
use Rattle.plan_reader.specs.PlanTexts.{is_empty}
use Rattle.plan_reader.proofs.words.collect_words.Goals as goal

pub returns : goal.returns
returns c =
    map_from_collect c.collect.result c.collect.ensures.ran
    (YieldsList-from_filter _ (λ w. not (is_empty w))
    (YieldsList-at c.filter.ensures.source
    (YieldsList-from_slice_split _ (λ b. b == 32) c.args.line.now c.split.ensures.rest c.split.ensures.done
    c.split.ensures.closure (λ x r q k. search (rules, tests))))
    c.filter.ensures.closure (λ x r q k. search (rules, tests)))
