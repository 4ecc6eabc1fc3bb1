use Rattle.std.proofs.Common.{ℕ, List, Ok, Err, length, ◌∙◌, ap, sym, subst}
use Rattle.std.specs.List.Sorted.{IsNonDecreasing}
use Rattle.flood.proofs.RisingNumbers.{IsSought, found_is_there, lists_number, has-insert, has_again, inserted_count, missed_is_not, rising-insert, same_count}
use Rattle.flood.proofs.known.insert_number.Goals as goal

pub returns-in-Ok-clause-rising : goal.returns-in-Ok-clause-rising
returns-in-Ok-clause-rising c =
    subst IsNonDecreasing (sym c.in-Ok.ensures.items)
    (rising-insert c.args.numbers.now.items c.in-Err.place c.args.n c.requires.rising
    (subst (λ (xs : List ℕ). IsSought c.args.n xs (Err c.in-Err.place)) c.deref.ensures.value
    c.in-Err.ensures.position))

pub returns-in-Ok-clause-has : goal.returns-in-Ok-clause-has
returns-in-Ok-clause-has c n =
    ap (λ (xs : List ℕ). lists_number xs n) c.in-Ok.ensures.items ∙
    has-insert c.args.numbers.now.items c.in-Err.place c.args.n n

pub returns-in_default-clause-has : goal.returns-in_default-clause-has
returns-in_default-clause-has c n =
    has_again c.args.numbers.now.items c.args.n n
    (found_is_there c.args.numbers.now.items c.args.n c.in_default.field-0 c.requires.rising
    (subst (λ (xs : List ℕ). IsSought c.args.n xs (Ok c.in_default.field-0)) c.deref.ensures.value
    c.in_default.ensures.position))

pub returns-in-Ok-clause-count : goal.returns-in-Ok-clause-count
returns-in-Ok-clause-count c =
    ap length c.in-Ok.ensures.items
    ∙ inserted_count c.args.numbers.now.items c.in-Err.place c.args.n
    (missed_is_not c.args.numbers.now.items c.args.n c.in-Err.place c.requires.rising
    (subst (λ (xs : List ℕ). IsSought c.args.n xs (Err c.in-Err.place)) c.deref.ensures.value
    c.in-Err.ensures.position))

pub returns-in_default-clause-count : goal.returns-in_default-clause-count
returns-in_default-clause-count c =
    same_count c.args.numbers.now.items c.args.n
    (found_is_there c.args.numbers.now.items c.args.n c.in_default.field-0 c.requires.rising
    (subst (λ (xs : List ℕ). IsSought c.args.n xs (Ok c.in_default.field-0)) c.deref.ensures.value
    c.in_default.ensures.position))
