use Rattle.std.proofs.{Common.{◌==◌, rules, tests}, lemmas.Iterator.items_from_collect, lemmas.Iterator.Consumers.{YieldsList-at, YieldsList-from_filter_map}, lemmas.Iterator.Splits.YieldsList-from_slice_split}
use Rattle.plan_reader.specs.PlanTexts.{link_id}
use Rattle.plan_reader.proofs.words.collect_ids.Goals as goal

pub returns : goal.returns
returns c =
    items_from_collect c.collect.result c.collect.ensures.ran
    (YieldsList-from_filter_map _ link_id
    (YieldsList-at c.filter_map.ensures.source
    (YieldsList-from_slice_split _ (λ b. b == 44) c.args.word.now c.split.ensures.rest c.split.ensures.done
    c.split.ensures.closure (λ x r q k. search (rules, tests))))
    c.filter_map.ensures.closure (λ x r q k. search rules))
