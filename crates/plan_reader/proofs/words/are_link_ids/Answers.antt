use Rattle.std.proofs.{Common.{◌==◌, rules, tests, is_some}, lemmas.Iterator.Search.all_from_yields_List, lemmas.Iterator.Splits.YieldsList-from_slice_split}
use Rattle.plan_reader.specs.PlanTexts.{link_id}
use Rattle.plan_reader.proofs.words.are_link_ids.Goals as goal

pub returns : goal.returns
returns c =
    all_from_yields_List (λ p. is_some (link_id p)) _ _ c.all.result c.all.ensures.ran
    (YieldsList-from_slice_split _ (λ b. b == 44) c.args.word.now c.split.ensures.rest c.split.ensures.done
    c.split.ensures.closure (λ x r q k. search (rules, tests)))
    (λ x r q k. search (rules, tests))
